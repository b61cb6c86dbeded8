use Rattle.std.proofs.Common.{◌≡◌, ◌+◌, None, []}
use Rattle.im_page_pool.specs.Pool.{page_at, IsAt}
use Rattle.im_page_writer.specs.Outcome.{AllPages, AreLoaded, HasPages, Reads}
use Rattle.im_theory_tree.specs.Good.{IsGoodTree}
use Rattle.im_theory_tree.specs.Levels.{height}
use Rattle.im_tree_search.specs.Levels.{HasLevel}
use Rattle.im_smo_pages.specs.Seen.{bodies}
use Rattle.im_smo_split.specs.Tops.{IsCounted, IsPlaced}
use Rattle.im_smo_split.proofs.top.find_top.Given as goal

abbrev pub invariant-loop-place : goal.invariant-loop-place
invariant-loop-place g l = record {
  outcome : Reads g.D.Disk l.fn.writer l.fn.disk l.writer l.disk None;
  at : IsAt l.writer.pool l.place.frame;
  page : HasLevel l.place.level (page_at l.writer.pool l.place.frame.number).body;
  counted : IsCounted l.place.level l.place.top;
  kept : (store : AllPages) → HasPages g.D.Disk AreLoaded store l.fn.writer l.fn.disk → IsGoodTree (bodies store) [] → IsPlaced l.dense (bodies store) l.key l.place.level l.place.frame.number l.place.top;
  gets : (store : AllPages) → HasPages g.D.Disk AreLoaded store l.fn.writer l.fn.disk → IsGoodTree (bodies store) [] → l.writer.pool.gets + l.place.level ≡ l.fn.writer.pool.gets + (height (bodies store) + 1);
}

abbrev pub decreases-loop-place : goal.decreases-loop-place
decreases-loop-place g l = l.place.level
