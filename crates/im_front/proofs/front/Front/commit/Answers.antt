use Rattle.im_front.proofs.Acknowledging.{once_forced}
use Rattle.im_front.proofs.front.Front.commit.Goals as goal

pub returns-in_ok-settle_all-in-Waits-clause-acknowledged : goal.returns-in_ok-settle_all-in-Waits-clause-acknowledged
returns-in_ok-settle_all-in-Waits-clause-acknowledged g c = once_forced g.E.Store c.args.t _ c.in-Waits.ensures.comes c.in_ok-settle_all-in-Waits.ensures.forced
