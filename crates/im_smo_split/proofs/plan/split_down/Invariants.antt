use Rattle.std.proofs.Common.{◌≡◌, ◌+◌, None, false, true, length}
use Rattle.im_page_writer.specs.Outcome.{AllPages}
use Rattle.im_smo_pages.specs.Seen.{seen}
use Rattle.im_smo_pages.specs.Kept.{HasImages, Plans}
use Rattle.im_smo_split.specs.Pages.{newest_first}
use Rattle.im_smo_split.specs.PendingSplits.{IsPending, IsRootPending}
use Rattle.im_smo_split.specs.Steps.{LeavesPending}
use Rattle.im_smo_split.proofs.plan.split_down.Given as goal

abbrev pub invariant-loop-pending : goal.invariant-loop-pending
invariant-loop-pending g l = record {
  outcome : Plans g.D.Disk l.fn.writer l.fn.disk l.writer l.disk None;
  counted : length l.numbers.items ≡ l.pending.level + 1;
  kept : (store : AllPages) → HasImages g.D.Disk store l.fn.images (newest_first l.fn.numbers.items) l.fn.writer l.fn.disk
      → (l.fn.top.root ≡ true → IsRootPending l.dense (seen store l.fn.images) (newest_first l.fn.numbers.items) l.key l.fn.top.level)
      → (l.fn.top.root ≡ false → IsPending l.dense (seen store l.fn.images) (newest_first l.fn.numbers.items) l.key l.fn.top.level l.fn.top.parent l.fn.top.page)
      → LeavesPending l.dense store l.key l.fn.images l.pending l.images l.numbers.items;
}

abbrev pub decreases-loop-pending : goal.decreases-loop-pending
decreases-loop-pending g l = l.pending.level
