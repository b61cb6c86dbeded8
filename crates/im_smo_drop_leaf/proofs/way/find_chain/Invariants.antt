use Rattle.std.proofs.Common.{[], None}
use Rattle.im_page_writer.specs.Outcome.{AllPages, AreLoaded, HasPages}
use Rattle.im_theory_tree.specs.Good.{IsGoodTree}
use Rattle.im_theory_tree.specs.Levels.{Pages}
use Rattle.im_smo_pages.specs.Seen.{bodies}
use Rattle.im_smo_drop_leaf.specs.Emptied.{SameAbove}
use Rattle.im_smo_drop_leaf.specs.Ways.{IsPlaced}
use Rattle.im_smo_pages.specs.Kept.{Plans}
use Rattle.im_smo_drop_leaf.proofs.way.find_chain.Given as goal

abbrev pub invariant-loop-level : goal.invariant-loop-level
invariant-loop-level g l = record {
  outcome : Plans g.D.Disk l.fn.writer l.fn.disk l.writer l.disk None;
  kept : (pages : AllPages) (tree : Pages) → HasPages g.D.Disk AreLoaded pages l.fn.writer l.fn.disk → SameAbove (bodies pages) tree → IsGoodTree tree [] → IsPlaced tree l.key l.place.parent l.place.place l.level l.place.number l.above.items;
}

abbrev pub decreases-loop-level : goal.decreases-loop-level
decreases-loop-level g l = l.level
