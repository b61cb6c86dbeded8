use Rattle.std.proofs.Common.{◌∙◌}
use Rattle.im_base_steps.specs.declared.step.Step.TheVariants as steps
use Rattle.im_front.specs.Acknowledged.{IsSpent}
use Rattle.im_front.proofs.Acknowledging.{spent, unmade}
use Rattle.im_front.proofs.open.Open.begin.Goals as goal

pub returns-in-Refused-clause-causes : goal.returns-in-Refused-clause-causes
returns-in-Refused-clause-causes g c =
    unmade g.E.Store (IsSpent g.E.Store) steps.Begin c.step-reply.result c.in-Refused.fault c.in-Refused.is
    (λ room. record { was = _; now = _; step_made = c.step-reply.ensures.made room })
    (λ full. spent g.E.Store c.deref_mut-then-may_begin.result.now c.deref.result.now (c.deref.ensures ∙ c.step-reply.ensures.same full) c.law_holds_always.ensures.held (c.step-reply.ensures.full.0 full))
