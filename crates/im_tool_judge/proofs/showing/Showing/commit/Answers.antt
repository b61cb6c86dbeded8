use Rattle.im_tool_judge.proofs.Shows.{committed}
use Rattle.im_tool_judge.proofs.showing.Showing.commit.Goals as goal

pub returns-in_ok-happen-in-Commit : goal.returns-in_ok-happen-in-Commit
returns-in_ok-happen-in-Commit c s shown = committed c.args.step.now _ _ _ s c.in-Commit.is c.in_ok-happen-in-Commit.ensures (c.in_ok-ask-in-Commit.ensures s shown)
