use Rattle.im_tool_judge.proofs.Shows.{started}
use Rattle.im_tool_judge.proofs.showing.Showing.start.Goals as goal

pub returns-in_ok-happen-in-Begin : goal.returns-in_ok-happen-in-Begin
returns-in_ok-happen-in-Begin c s shown = started c.args.step.now c.args.txn _ s c.in-Begin.is (c.in_ok-happen-in-Begin.ensures s shown)
