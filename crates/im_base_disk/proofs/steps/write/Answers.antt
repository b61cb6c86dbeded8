use Rattle.std.proofs.Common.{length}
use Rattle.im_base_disk.specs.Disk.{InFile, Torn}
use Rattle.im_base_disk.proofs.Runs.{written, nothing_torn}
use Rattle.im_base_disk.proofs.steps.write.Goals as goal

pub returns-clause-any_moment : goal.returns-clause-any_moment
returns-clause-any_moment g c =
    written g.D.Disk c.args.disk.now c.write_at.new.self (InFile c.args.file (Torn c.args.at (length c.args.bytes.now))) (nothing_torn c.args.file c.args.at (length c.args.bytes.now))
    (g.met.D.Disk.only_now c.args.disk.now) c.write_at.ensures.crash c.write_at.ensures.time
