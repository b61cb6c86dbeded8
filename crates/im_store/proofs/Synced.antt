-- What only reads leaves all that is on the disk there.
use Rattle.std.proofs.Common.{◌∙◌, ap, sym}
use Rattle.im_base_disk.specs.declared.disk.Disk.{Ghosts}
use Rattle.im_base_disk.specs.Disk.{Files}
use Rattle.im_base_disk.specs.Runs.{IsSynced, Reads}

pub reads_synced : {D : Type 0} (d : Ghosts D) (old new : D) → Reads d old new → IsSynced d old → IsSynced d new
reads_synced d old new reads synced file c left = synced file c (reads.outcomes c left) ∙ ap (λ (f : Files). f file) (sym reads.seen)
