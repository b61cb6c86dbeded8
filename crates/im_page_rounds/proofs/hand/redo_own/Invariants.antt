use Rattle.std.proofs.Common.{◌≡◌, ◌≤◌, ℕ, List, Bool, drop, length}
use Rattle.im_base_types.specs.Pages.{Page}
use Rattle.im_base_types.specs.Records.{Logged}
use Rattle.im_page_rounds.specs.Hand.{StandIn}
use Rattle.im_page_rounds.specs.Workers.{AreDealt}
use Rattle.im_page_rounds.proofs.HandPages.{Went}
use Rattle.im_page_rounds.proofs.hand.redo_own.Given as goal

abbrev pub invariant-loop-lsn : goal.invariant-loop-lsn
invariant-loop-lsn l = record {
  few : l.count ≤ l.lsn-index;
  long : length l.pages ≡ length l.fn.pages;
  went : (rs : List Logged) (g : ℕ → Page) (changed : ℕ → Bool) → StandIn l.from l.span l.lsns rs → AreDealt l.workers l.worker l.numbers l.fn.pages g changed → Went l.workers l.worker l.from l.span l.numbers (drop l.lsn-index l.lsns) rs g changed l.count l.pages;
}
