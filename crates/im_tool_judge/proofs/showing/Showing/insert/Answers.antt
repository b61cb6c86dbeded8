use Rattle.im_tool_judge.proofs.Shows.{inserted, insert_ends}
use Rattle.im_tool_judge.proofs.showing.Showing.insert.Goals as goal

pub returns-in_ok-change-in-Insert : goal.returns-in_ok-change-in-Insert
returns-in_ok-change-in-Insert c s shown = inserted c.args.step.now _ _ _ _ _ _ s c.in-Insert.is c.deref.ensures.value c.in_ok-one-in-Insert.ensures (c.in_ok-change-in-Insert.ensures s shown)

pub returns-in_ok-happen-in-Continue : goal.returns-in_ok-happen-in-Continue
returns-in_ok-happen-in-Continue c s shown = insert_ends c.args.step.now _ _ s c.in-Continue.is (c.in_ok-happen-in-Continue.ensures s shown)
