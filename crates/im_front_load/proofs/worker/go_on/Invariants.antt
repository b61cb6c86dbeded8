use Rattle.std.proofs.Common.{◌≤◌}
use Rattle.im_front_load.proofs.worker.go_on.Given as goal

-- every Continue is counted
abbrev pub invariant-loop-round : goal.invariant-loop-round
invariant-loop-round g l = l.fn.mine.made.amount ≤ l.mine.made.amount
