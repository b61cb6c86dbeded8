use Rattle.std.proofs.Common.{◌≤◌, ◌+◌, ◌*◌}
use Rattle.im_front_load.proofs.worker.work.Given as goal

-- each transaction is three steps at least
abbrev pub invariant-loop-i : goal.invariant-loop-i
invariant-loop-i g l = l.fn.mine.made.amount + 3 * l.i ≤ l.mine.made.amount
