use Rattle.std.proofs.Common.{[], ◌∷◌, ◌++◌, length, None}
use Rattle.im_page_writer.specs.Outcome.{AllPages}
use Rattle.im_smo_pages.specs.Kept.{HasImages, Plans}
use Rattle.im_smo_drop_leaf.specs.Given.{IsGiven}
use Rattle.im_smo_drop_leaf.proofs.giving.give_back.Given as goal

abbrev pub invariant-loop-number : goal.invariant-loop-number
invariant-loop-number g l = record {
  outcome : Plans g.D.Disk l.fn.writer l.fn.disk l.writer l.disk None;
  kept : (pages : AllPages) → HasImages g.D.Disk pages l.fn.images (l.fn.above.items ++ l.leaf ∷ []) l.fn.writer l.fn.disk → IsGiven pages l.fn.images l.images l.leaf l.fn.above.items l.above.items;
}

abbrev pub decreases-loop-number : goal.decreases-loop-number
decreases-loop-number g l = length l.above.items
