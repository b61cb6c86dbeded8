-- What a stop may leave where it forges no sum.
use Rattle.std.specs.Prelude.{◌≡◌, ◌⊎◌, ℕ, List, length, Option, Some, refl}
use mathlib.Core.Logic.{inl}
use Rattle.im_base_types.specs.declared.file_id.FileId.{FileId}
use Rattle.im_base_types.specs.declared.file_id.FileId.TheVariants.{Log, Pages, Log2}
use Rattle.im_base_disk.specs.Disk.{Files, three}
use Rattle.im_base_disk.specs.Sums.{shows_by_header}
use Rattle.im_base_model_disk.specs.declared.model_file.ModelFile.{ModelFile}
use Rattle.im_base_model_disk.specs.declared.stop.Stop.{Stop}
use Rattle.im_base_model_disk.specs.Left.{IsLeftBy}
use Rattle.im_base_model_disk.specs.Past.{FileMayHold, Moment, either, reads_may_stay}

-- What the one shows at a place, the other shows there, too.
abbrev pub ShowsThere : (some other : List ℕ) (p : ℕ) → Type 0
ShowsThere some other p = (r : List ℕ) → shows_by_header p some ≡ Some r → shows_by_header p other ≡ Some r

-- So it is at each place.
abbrev pub ShowsNoMore : (some other : List ℕ) → Type 0
ShowsNoMore some other = (p : ℕ) → ShowsThere some other p

-- One of the outcomes of the model disk, of a log with one write since its sync, which shows no more than the file as it reads.
pub record IsHarmless (file : ModelFile) (c : List ℕ) : Type 0 where
  pub may : FileMayHold file c
  pub once : length file.written.items ≡ 1
  pub shown : ShowsNoMore c file.bytes.items

-- Of a log, these or the bytes as they read.
abbrev pub LogLeaves : ModelFile → List ℕ → Type 0
LogLeaves file c = (c ≡ file.bytes.items) ⊎ IsHarmless file c

-- Of the pages, whatever the model disk may leave.
abbrev pub FileLeaves : FileId → ModelFile → List ℕ → Type 0
FileLeaves Log = LogLeaves
FileLeaves Log2 = LogLeaves
FileLeaves Pages = FileMayHold

abbrev pub Leaves : Moment → Files → Type 0
Leaves moment c = (file : FileId) → FileLeaves file (either moment.0 moment.1 moment.2 file) (c file)

-- The bytes of a log after a stop: as the fill made them, where it was written once and they show no more than the file as it reads; otherwise as it reads.
abbrev pub LogAfter : ModelFile → (written filled : List ℕ) → List ℕ → Type 0
LogAfter file written filled bytes = ((bytes ≡ filled) × (length file.written.items ≡ 1) × ShowsNoMore filled written)
    ⊎ ((bytes ≡ written) × ¬ ((length file.written.items ≡ 1) × ShowsNoMore filled written))

-- the same by the stop that was armed
pub record IsLogAfter (stop : Option Stop) (file : ModelFile) (bytes : List ℕ) : Type 0 where
  pub filled : List ℕ
  pub left : IsLeftBy stop file filled
  pub after : LogAfter file file.bytes.items filled bytes

-- the bytes as they read
pub as_read : (file : FileId) (model : ModelFile) → FileMayHold model model.bytes.items → FileLeaves file model model.bytes.items
as_read Log model may = inl refl
as_read Log2 model may = inl refl
as_read Pages model may = may

pub all_as_read : (moment : Moment) → Leaves moment (three moment.0.bytes.items moment.1.bytes.items moment.2.bytes.items)
all_as_read moment Log = inl refl
all_as_read moment Pages = (reads_may_stay moment.0 moment.1 moment.2).1
all_as_read moment Log2 = inl refl
