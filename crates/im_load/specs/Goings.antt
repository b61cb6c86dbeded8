-- A part of a load, as the disk sees it.
use Rattle.im_base_types.specs.declared.file_id.FileId.TheVariants.{Pages}
use Rattle.im_base_disk.specs.declared.disk.Disk.{Ghosts}
use Rattle.im_base_disk.specs.Runs.{LeavesIn, ChangesOnly}

-- Only the file of pages is written, and a stop within leaves whatever bytes of it.
pub record WritesPages {D : Type 0} (d : Ghosts D) (old new : D) : Type 0 where
  pub changes : ChangesOnly d Pages old new
  pub stops : LeavesIn d Pages old new (λ c. Unit {0})
