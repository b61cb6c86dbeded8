use Rattle.std.proofs.Common.{◌≡◌, ◌+◌, ◌++◌, length}
use Rattle.std.specs.List.{sum_by}
use Rattle.std.specs.Vec.Iter.{into_iter_items, into_iter_len}
use Rattle.im_front.proofs.held.gather.Given as goal

abbrev pub invariant-loop-share : goal.invariant-loop-share
invariant-loop-share g l =
    (l.rest.parts ≡ l.initial.rest.parts + length l.yielded)
    × (l.rest.amount ≡ l.initial.rest.amount + sum_by (λ s. s.made.amount) l.yielded)
    × (l.yielded ++ into_iter_items l.share-iterator ≡ into_iter_items l.initial.share-iterator)
    × (into_iter_len l.share-iterator ≡ length (into_iter_items l.share-iterator))
