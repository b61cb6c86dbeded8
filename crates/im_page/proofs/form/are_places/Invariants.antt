use Rattle.std.proofs.Common.{true, ◌≡◌}
use Rattle.im_page.specs.Sound.{ArePlaces}
use Rattle.im_page.proofs.form.are_places.Given as goal

abbrev pub invariant-loop-i : goal.invariant-loop-i
invariant-loop-i l = l.all ≡ true → ArePlaces l.bytes l.size l.i
