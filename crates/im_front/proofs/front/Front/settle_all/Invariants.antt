use Rattle.std.proofs.Common.{◌≡◌, ◌≤◌, ◌+◌, false}
use Rattle.im_front.proofs.front.Front.settle_all.Given as goal

-- a force is counted once it is made
abbrev pub invariant-loop : goal.invariant-loop
invariant-loop g l =
    ((goal.iterator-loop g).can_next l.iterator' × (goal.iterator-loop g).is_finite l.iterator') × (l.is_made ≡ false → l.mine.made.amount ≡ l.initial.mine.made.amount)
    × (l.initial.mine.made.amount ≤ l.mine.made.amount) × (l.mine.made.amount ≤ l.initial.mine.made.amount + 1)
