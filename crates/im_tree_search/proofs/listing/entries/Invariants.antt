use Rattle.std.proofs.Common.{None}
use Rattle.im_page_writer.specs.Outcome.{AllPages, Reads}
use Rattle.im_tree_search.specs.Levels.{bodies_of}
use Rattle.im_tree_search.specs.Found.{HasTree, ListsOn}
use Rattle.im_tree_search.proofs.listing.entries.Given as goal

abbrev pub invariant-loop-number : goal.invariant-loop-number
invariant-loop-number g l = record {
  outcome : Reads g.D.Disk l.fn.writer l.fn.disk l.writer l.disk None;
  kept : (pages : AllPages) → HasTree g.D.Disk pages l.fn.writer l.fn.disk → ListsOn (bodies_of pages) l.list.items l.left l.number;
}

abbrev pub decreases-loop-number : goal.decreases-loop-number
decreases-loop-number g l = l.left
