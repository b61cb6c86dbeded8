use Rattle.std.proofs.Common.{◌≡◌, ◌+◌, ℕ, None}
use Rattle.std.specs.Prelude.{slice_index_or}
use Rattle.im_page_pool.specs.Pool.{Holds}
use Rattle.im_page_writer.specs.Outcome.{AllPages, AreLoaded, HasPages, Reads}
use Rattle.im_page_writer.proofs.page_writer.PageWriter.get_all.Given as goal

abbrev pub invariant-loop-i : goal.invariant-loop-i
invariant-loop-i g l = record {
  outcome : Reads g.D.Disk l.fn.self l.fn.disk l.self l.disk None;
  has : (pages : AllPages) → HasPages g.D.Disk AreLoaded pages l.fn.self l.fn.disk → HasPages g.D.Disk AreLoaded pages l.self l.disk;
  last : (k : ℕ) → k + 1 ≡ l.i → Holds l.self.pool (slice_index_or l.numbers k 0);
}
