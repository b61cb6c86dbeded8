use Rattle.im_files_caller_disk.specs.Ways.{IsOver}
use Rattle.im_files_caller_disk.proofs.Ways.{goes_over}
use Rattle.im_files_caller_disk.proofs.caller_files.CallerFilesDisk.write_at.Goals as goal

pub returns-in-Kept-clause-goes : goal.returns-in-Kept-clause-goes
returns-in-Kept-clause-goes c = goes_over _ IsOver _ _ _ c.in-Kept.is c.write_at-in-Kept.ensures.only
