use Rattle.std.proofs.Common.{◌≡◌}
use Rattle.im_page_pool.specs.Places.{taken_in}
use Rattle.im_page_pool.proofs.places.Places.oldest.Given as goal

abbrev pub invariant-loop-place : goal.invariant-loop-place
invariant-loop-place l = l.self.taken ≡ taken_in l.place-iterator.iter
