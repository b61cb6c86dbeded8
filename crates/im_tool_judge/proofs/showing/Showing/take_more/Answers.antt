use Rattle.im_tool_judge.proofs.Shows.{waits, turned, returns_to, insert_goes_on, delete_goes_on}
use Rattle.im_tool_judge.proofs.showing.Showing.take_more.Goals as goal

pub returns-in_ok-happen-in-Commit : goal.returns-in_ok-happen-in-Commit
returns-in_ok-happen-in-Commit c s shown = waits c.args.step.now _ _ _ s c.in-Commit.is c.in_ok-happen-in-Commit.ensures (c.in_ok-ask-in-Commit.ensures s shown)

pub returns-in_ok-happen-in-Rollback : goal.returns-in_ok-happen-in-Rollback
returns-in_ok-happen-in-Rollback c s shown = turned c.args.step.now _ _ s c.in-Rollback.is (c.in_ok-happen-in-Rollback.ensures s shown)

pub returns-in_ok-happen-in-RollTo : goal.returns-in_ok-happen-in-RollTo
returns-in_ok-happen-in-RollTo c s shown = returns_to c.args.step.now _ _ _ s c.in-RollTo.is (c.in_ok-happen-in-RollTo.ensures s shown)

pub returns-in_ok-happen-in-Insert : goal.returns-in_ok-happen-in-Insert
returns-in_ok-happen-in-Insert c s shown = insert_goes_on c.args.step.now _ _ _ _ _ _ s c.in-Insert.is c.deref.ensures.value c.in_ok-one-in-Insert.ensures (c.in_ok-happen-in-Insert.ensures s shown)

pub returns-in_ok-happen-in-Delete : goal.returns-in_ok-happen-in-Delete
returns-in_ok-happen-in-Delete c s shown = delete_goes_on c.args.step.now _ _ _ _ _ s c.in-Delete.is c.deref-in-Delete.ensures.value c.in_ok-one-in-Delete.ensures (c.in_ok-happen-in-Delete.ensures s shown)
