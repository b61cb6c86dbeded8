use Rattle.im_front.specs.Writing.{IsWritten}
use Rattle.im_front.proofs.open.Open.write.Given as goal

abbrev pub invariant-loop : goal.invariant-loop
invariant-loop g l =
    ((goal.iterator-loop g).can_next l.iterator' × (goal.iterator-loop g).is_finite l.iterator')
    × goal.F-IsAlwaysCallable g l.work
    × ((x : _) → IsWritten g.E.Store (goal.F-step g) x l.work → IsWritten g.E.Store (goal.F-step g) x l.initial.work)
