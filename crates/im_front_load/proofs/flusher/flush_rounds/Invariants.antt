use Rattle.std.proofs.Common.{◌≡◌, ◌+◌, ◌*◌}
use Rattle.im_front_load.proofs.flusher.flush_rounds.Given as goal

-- each round is nine steps
abbrev pub invariant-loop-round : goal.invariant-loop-round
invariant-loop-round g l = l.mine.made.amount ≡ l.fn.mine.made.amount + 9 * l._round
