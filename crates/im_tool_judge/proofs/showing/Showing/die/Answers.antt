use Rattle.std.proofs.Common.{sym, ◌∙◌}
use Rattle.im_base_steps.specs.Calls.{asked_by}
use Rattle.im_tool_judge.proofs.Shows.{died, none_died}
use Rattle.im_tool_judge.proofs.showing.Showing.die.Goals as goal

pub returns-in_ok-happen-in-Some : goal.returns-in_ok-happen-in-Some
returns-in_ok-happen-in-Some c s shown = died (asked_by c.args.step.now) c.in-Some.txn _ s (sym c.access_of.ensures ∙ c.in-Some.is) (c.in_ok-happen-in-Some.ensures s shown)

pub returns-in-None : goal.returns-in-None
returns-in-None c s shown = none_died (asked_by c.args.step.now) c.args.self.now s (sym c.access_of.ensures ∙ c.in-None.is) shown
