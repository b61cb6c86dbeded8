use Rattle.std.proofs.Common.{◌≡◌}
use Rattle.im_page_rounds.specs.Dealing.{dealt_below}
use Rattle.im_page_rounds.proofs.dealing.hand_of.Given as goal

abbrev pub invariant-loop-i : goal.invariant-loop-i
invariant-loop-i l = l.hand.items ≡ dealt_below l.workers l.worker l.pages l.i
