use Rattle.std.proofs.Common.{take}
use Rattle.im_base_types.specs.Lives.{idle}
use Rattle.im_tool_judge.specs.Shows.{IsFound, running_from}
use Rattle.im_tool_judge.proofs.happened.find.Given as goal

-- the transaction after what happened so far
abbrev pub invariant-loop-event : goal.invariant-loop-event
invariant-loop-event l = IsFound l.found (running_from l.txn idle (take l.event-index l.events))
