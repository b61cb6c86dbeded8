-- Files whose logs have changed names, and changed them back.
use Rattle.std.proofs.Common.{◌≡◌, ◌≢◌, Bool, true, false, List, ℕ, refl, sym, ◌∙◌, ap, subst}
use Rattle.im_base_types.specs.declared.file_id.FileId.{FileId}
use Rattle.im_base_types.specs.declared.file_id.FileId.TheVariants.{Log, Pages, Log2}
use Rattle.im_base_disk.specs.Disk.{Files, Follows, InFile, Shows, Unforged}
use Rattle.im_base_disk.specs.Sums.{shows_in}
use Rattle.im_base_two_logs.specs.Renamed.{file_named, named, named_back, twice}

-- another name stands for another file
pub other_name : (swapped : Bool) (file other : FileId) → other ≢ file → file_named swapped other ≢ file_named swapped file
other_name swapped file other ne same = ne (sym (twice swapped other) ∙ ap (file_named swapped) same ∙ twice swapped file)

-- a step of the file that a name stands for is one of the file of that name
pub follows_named : (swapped : Bool) (file : FileId) (step : List ℕ → List ℕ → Type 0) (old new : Files → Type 0) → Follows (InFile (file_named swapped file) step) old new
    → Follows (InFile file step) (λ c. old (named swapped c)) (λ c. new (named swapped c))
follows_named swapped file step old new follows c left =
    let before = follows (named swapped c) left in (
      named swapped before.0,
      named_back swapped old before.0 before.1,
      record {
        changed = subst (λ (f : FileId). step (before.0 (file_named swapped file)) (c f)) (twice swapped file) before.2.changed;
        others = λ other ne. (
            let same = before.2.others (file_named swapped other) (other_name swapped file other ne) in
            ap c (sym (twice swapped other)) ∙ same);
      },
    )

-- either log shows by its own header what the other would
shows_alike : (swapped : Bool) (file : FileId) → shows_in (file_named swapped file) ≡ shows_in file
shows_alike true Log = refl
shows_alike true Log2 = refl
shows_alike true Pages = refl
shows_alike false file = refl

-- the same of a write where no stop forges a sum
pub unforged_named : (swapped : Bool) (file below : FileId) (at : ℕ) (bytes : List ℕ) (old new : Files → Type 0) → below ≡ file_named swapped file
    → Follows (InFile below (Unforged (shows_in below) at bytes)) old new
    → Follows (InFile file (Unforged (shows_in file) at bytes)) (λ c. old (named swapped c)) (λ c. new (named swapped c))
unforged_named swapped file below at bytes old new is follows =
    follows_named swapped file (Unforged (shows_in file) at bytes) old new
    (subst (λ (shows : Shows). Follows (InFile (file_named swapped file) (Unforged shows at bytes)) old new) (shows_alike swapped file)
    (subst (λ (f : FileId). Follows (InFile f (Unforged (shows_in f) at bytes)) old new) is follows))
