use Rattle.im_files_scratch_disk.specs.OnlyRead.{IsOnlyRead}
use Rattle.im_files_scratch_disk.proofs.overlaid.Overlaid.write.Given as goal

abbrev pub invariant-loop-number : goal.invariant-loop-number
invariant-loop-number g l = IsOnlyRead g.D.Disk l.fn.self.base.disk l.self.base.disk
