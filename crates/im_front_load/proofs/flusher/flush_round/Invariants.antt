use Rattle.std.proofs.Common.{◌≡◌, ◌+◌}
use Rattle.im_front_load.proofs.flusher.flush_round.Given as goal

-- each page is one step
abbrev pub invariant-loop-page : goal.invariant-loop-page
invariant-loop-page g l = l.mine.made.amount ≡ l.fn.mine.made.amount + l.page
