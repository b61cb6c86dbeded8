use Rattle.im_files_caller_disk.specs.Ways.{IsSameOver}
use Rattle.im_files_caller_disk.proofs.Ways.{goes_over}
use Rattle.im_files_caller_disk.proofs.caller_files.CallerFilesDisk.sync.Goals as goal

pub returns-in-Kept-clause-goes : goal.returns-in-Kept-clause-goes
returns-in-Kept-clause-goes c = goes_over _ IsSameOver _ _ _ c.in-Kept.is c.sync-in-Kept.ensures.kept
