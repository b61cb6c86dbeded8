use Rattle.std.proofs.Common.{◌≡◌}
use Rattle.im_front.proofs.front.Front.call.Given as goal

abbrev pub invariant-loop : goal.invariant-loop
invariant-loop g l =
    ((goal.iterator-loop g).can_next l.iterator' × (goal.iterator-loop g).is_finite l.iterator') × (l.mine.made.amount ≡ l.initial.mine.made.amount) × (l.step ≡ l.initial.step)
