-- Calls of what is kept over a caller's disk.
use Rattle.std.proofs.Common.{◌≡◌, refl, sym, subst}
use Rattle.im_files_caller_disk.specs.declared.caller_disk.CallerDisk.{CallerDisk}
use Rattle.im_files_caller_disk.specs.declared.caller_files.Way.{Way}
use Rattle.im_files_caller_disk.specs.declared.caller_files.Way.TheVariants.{Kept}
use Rattle.im_files_caller_disk.specs.Ways.{Goes, Scratch}

-- a call of what is kept goes the way of files that are only read
pub goes_over : (Asks : CallerDisk → CallerDisk → Type 0) (Keeps : Scratch → Scratch → Type 0) (way : Way) (old new : Scratch) → way ≡ Kept old → Keeps old new → Goes Asks Keeps way (Kept new)
goes_over Asks Keeps way old new is keeps = subst (λ (w : Way). Goes Asks Keeps w (Kept new)) (sym is) (new, refl, keeps)
