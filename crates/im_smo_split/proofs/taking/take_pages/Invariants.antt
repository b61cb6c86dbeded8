use Rattle.std.proofs.Common.{◌≡◌, ◌≤◌, ◌-◌, None, [], length}
use Rattle.im_page_writer.specs.Outcome.{AllPages, AreLoaded, Outcome}
use Rattle.im_smo_pages.specs.Kept.{mild_to_take, HasImages}
use Rattle.im_smo_split.specs.Pages.{Taken}
use Rattle.im_smo_split.proofs.taking.take_pages.Given as goal

abbrev pub invariant-loop-taken : goal.invariant-loop-taken
invariant-loop-taken g l = record {
  outcome : Outcome g.D.Disk AreLoaded mild_to_take l.fn.writer l.fn.disk l.writer l.disk None;
  within : l.taken ≤ l.count;
  len : length l.numbers.items ≡ l.taken;
  kept : (store : AllPages) → HasImages g.D.Disk store l.fn.images [] l.fn.writer l.fn.disk → Taken store l.fn.images l.numbers.items l.images;
}

abbrev pub decreases-loop-taken : goal.decreases-loop-taken
decreases-loop-taken g l = l.count - l.taken
