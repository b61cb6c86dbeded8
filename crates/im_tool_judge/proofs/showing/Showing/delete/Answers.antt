use Rattle.im_tool_judge.proofs.Shows.{deleted, delete_ends}
use Rattle.im_tool_judge.proofs.showing.Showing.delete.Goals as goal

pub returns-in_ok-change-in-Delete : goal.returns-in_ok-change-in-Delete
returns-in_ok-change-in-Delete c s shown = deleted c.args.step.now _ _ _ _ _ s c.in-Delete.is c.deref.ensures.value c.in_ok-one-in-Delete.ensures (c.in_ok-change-in-Delete.ensures s shown)

pub returns-in_ok-happen-in-Continue : goal.returns-in_ok-happen-in-Continue
returns-in_ok-happen-in-Continue c s shown = delete_ends c.args.step.now _ _ s c.in-Continue.is (c.in_ok-happen-in-Continue.ensures s shown)
