use Rattle.std.proofs.Common.{subst, sym}
use Rattle.im_base_disk.specs.Runs.{LeavesOnly}
use Rattle.im_base_disk.proofs.Runs.{started}
use Rattle.im_engine.proofs.engine.Engine.close.Goals as goal

-- no call of the disk was made
pub returns-then-failed-clause-stops : goal.returns-then-failed-clause-stops
returns-then-failed-clause-stops g c =
    let d = g.D.Disk in
    let disk = c.args.self.disk in
    subst (λ x. LeavesOnly d disk x (d.may_leave disk)) (sym c.into_disk-disk.ensures) (started d disk (d.may_leave disk) (λ told f left. g.met.D.Disk.only_now disk f left))
