use Rattle.std.proofs.Common.{refl, ◌∙◌}
use Rattle.im_page_writer.specs.Outcome.{mild}
use Rattle.im_page_writer.proofs.Outcomes.{out_of_memory, read_more, refused, sound_on}
use Rattle.im_smo_actions.proofs.planned_change.plan_change.Goals as goal

pub returns-in_err-count-clause-outcome : goal.returns-in_err-count-clause-outcome
returns-in_err-count-clause-outcome g c = refused g.D.Disk c.from_residual.result c.from_residual.ensures.1 (read_more g.D.Disk mild refl c.in_err-count.ensures.outcome)

pub returns-in_err-count-clause-kept : goal.returns-in_err-count-clause-kept
returns-in_err-count-clause-kept g c pages has = sound_on c.from_residual.result _ _ c.from_residual.ensures.1 (c.in_err-count.ensures.kept pages has)

pub returns-in_err-plan-clause-outcome : goal.returns-in_err-plan-clause-outcome
returns-in_err-plan-clause-outcome g c = refused g.D.Disk c.from_residual-in_err-plan.result c.from_residual-in_err-plan.ensures.1 (out_of_memory g.D.Disk c.in_err-plan.ensures.memory c.in_ok-count.ensures.outcome)

pub returns-clause-outcome : goal.returns-clause-outcome
returns-clause-outcome g c = read_more g.D.Disk mild refl c.in_ok-count.ensures.outcome

pub returns-clause-kept : goal.returns-clause-kept
returns-clause-kept g c pages has = c.in_ok-plan.ensures.planned.1 ∙ c.in_ok-count.ensures.kept pages has

pub returns-clause-planned : goal.returns-clause-planned
returns-clause-planned g c = (c.in_ok-plan.ensures.planned.0, c.in_ok-plan.ensures.planned.2)
