use Rattle.im_front_load.proofs.Refusals.{map_err, stopped, suits_on}
use Rattle.im_front_load.proofs.stepping.made.Goals as goal

pub returns-clause-causes : goal.returns-clause-causes
returns-clause-causes g c = map_err c.unrefused.result _ _ (λ fault is. stopped g.E.Store c.args.step c.call.result fault is c.call.ensures.made c.call.ensures.spent) c.unrefused.ensures.refused

pub returns-clause-suits : goal.returns-clause-suits
returns-clause-suits g c = suits_on c.unrefused.result c.args.step c.call.result c.unrefused.ensures.same c.unrefused.ensures.full c.unrefused.ensures.memory c.call.ensures.suits
