use Rattle.im_base_disk.proofs.Runs.{started, goes_on}
use Rattle.im_base_disk.proofs.steps.sync.Goals as goal

pub returns-clause-any_moment : goal.returns-clause-any_moment
returns-clause-any_moment g c =
    let old = c.args.disk.now in
    goes_on g.D.Disk old old c.sync.new.self (g.D.Disk.may_leave old) (g.D.Disk.may_leave c.sync.new.self) (started g.D.Disk old (g.D.Disk.may_leave old) (λ told f left. g.met.D.Disk.only_now old f left)) c.sync.ensures.time
    (λ told f now. c.sync.ensures.crash f now)
