use Rattle.std.proofs.Common.{◌≡◌, map}
use Rattle.im_page_rounds.specs.Dealing.{hands_below}
use Rattle.im_page_rounds.proofs.dealing.deal.Given as goal

abbrev pub invariant-loop-worker : goal.invariant-loop-worker
invariant-loop-worker l = map (λ h. h.items) l.all.items ≡ hands_below l.workers l.pages l.worker
