use Rattle.im_files_caller_disk.specs.Ways.{IsReadOver}
use Rattle.im_files_caller_disk.proofs.Ways.{goes_over}
use Rattle.im_files_caller_disk.proofs.caller_files.CallerFilesDisk.read.Goals as goal

pub returns-in-Kept-clause-goes : goal.returns-in-Kept-clause-goes
returns-in-Kept-clause-goes c = goes_over _ IsReadOver _ _ _ c.in-Kept.is (c.read-in-Kept.ensures.only, c.read-in-Kept.ensures.kept)
