-- What a stop may leave of the model disk, now and at its past moments.
use Rattle.std.specs.Prelude.{◌⊎◌, ℕ, List, [], ◌∷◌, length, drop, refl}
use mathlib.Core.Logic.{inl, inr}
use Rattle.std.proofs.Common.{le_refl}
use Rattle.im_base_model_disk.specs.declared.model_file.ModelFile.{ModelFile}
use Rattle.im_base_types.specs.declared.file_id.FileId.{FileId}
use Rattle.im_base_types.specs.declared.file_id.FileId.TheVariants.{Log, Pages, Log2}
use Rattle.im_base_disk.specs.Disk.{Files, three}
use Rattle.im_base_model_disk.specs.ModelFile.{MayHold}

-- Each write is made, whether it fails or not, so the greatest written end is the length as it reads.
abbrev pub FileMayHold : ModelFile → List ℕ → Type 0
FileMayHold file c = MayHold file.bytes.items file.synced file.written.items (length file.bytes.items) c

-- one of the files
abbrev pub either : ModelFile → ModelFile → ModelFile → FileId → ModelFile
either log pages log2 Log = log
either log pages log2 Pages = pages
either log pages log2 Log2 = log2

-- of the files together
abbrev pub MayLeave : ModelFile → ModelFile → ModelFile → Files → Type 0
MayLeave log pages log2 c = FileMayHold log (c Log) × FileMayHold pages (c Pages) × FileMayHold log2 (c Log2)

-- the three files as they stood at a moment
abbrev pub Moment : Type 0
Moment = ModelFile × ModelFile × ModelFile

abbrev pub LeavesAt : Moment → Files → Type 0
LeavesAt moment c = MayLeave moment.0 moment.1 moment.2 c

-- by what a stop leaves at a moment
module _ (leaves : Moment → Files → Type 0) where
  -- at one of these moments a stop might have left this
  abbrev pub HadBeen : List Moment → Files → Type 0
  HadBeen [] c = ⊥
  HadBeen (moment ∷ past) c = leaves moment c ⊎ HadBeen past c

  none_left : (past : List Moment) (c : Files) → HadBeen (drop (length past) past) c → ⊥
  none_left [] c had = had
  none_left (moment ∷ past) c had = none_left past c had

  -- since the last of them there is what may be left now
  pub none_since : (past : List Moment) (Now : Type 0) (c : Files) → Now ⊎ HadBeen (drop (length past) past) c → Now
  none_since past Now c (inl now) = now
  none_since past Now c (inr had) = absurd (none_left past c had)

-- the bytes as they read
pub reads_may_stay : (log pages log2 : ModelFile) → MayLeave log pages log2 (three log.bytes.items pages.bytes.items log2.bytes.items)
reads_may_stay log pages log2 = (
  record { no_shorter = log.synced_within; no_longer = le_refl (length log.bytes.items); same = λ i lt out. refl },
  record { no_shorter = pages.synced_within; no_longer = le_refl (length pages.bytes.items); same = λ i lt out. refl },
  record { no_shorter = log2.synced_within; no_longer = le_refl (length log2.bytes.items); same = λ i lt out. refl },
)
