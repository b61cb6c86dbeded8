use Rattle.std.proofs.Common.{◌≡◌, ◌≤◌, ◌++◌, ℕ, length, All}
use Rattle.std.specs.List.{sum_by}
use Rattle.std.specs.Vec.Iter.{into_iter_items, into_iter_len}
use Rattle.im_front_load.specs.Counting.{least_of, IsDone}
use Rattle.im_front_load.specs.Refusals.{StopsFor}
use Rattle.im_front_load.proofs.loading.shares_of.Given as goal

-- where each task was done, the shares so far made the steps of their tasks; and why those left stopped is known
abbrev pub invariant-loop-one : goal.invariant-loop-one
invariant-loop-one g l =
    (l.yielded ++ into_iter_items l.one-iterator ≡ into_iter_items l.initial.one-iterator)
    × (into_iter_len l.one-iterator ≡ length (into_iter_items l.one-iterator))
    × ((txns : ℕ) (rounds : ℕ) → All (IsDone txns rounds) (into_iter_items l.initial.one-iterator) → (sum_by (λ e. least_of txns rounds e.task) l.yielded ≤ sum_by (λ s. s.made.amount) l.shares.items) × All (IsDone txns rounds) (into_iter_items l.one-iterator))
    × (All (StopsFor g.E.Store) (into_iter_items l.initial.one-iterator) → All (StopsFor g.E.Store) (into_iter_items l.one-iterator))
