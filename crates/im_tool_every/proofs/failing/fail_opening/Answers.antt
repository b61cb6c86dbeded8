use Rattle.im_tool_every.proofs.failing.fail_opening.Goals as goal

pub returns-in_ok-fail_each-in-Ok : goal.returns-in_ok-fail_each-in-Ok
returns-in_ok-fail_each-in-Ok g c = rw c.in-Ok.is (c.new.result, c.new.ensures.items, c.in_ok-fail_each-in-Ok.ensures.failures)

pub returns-in-Err : goal.returns-in-Err
returns-in-Err g c = rw c.in-Err.is c.count.ensures
