use Rattle.std.proofs.Common.{◌<◌, ℕ}
use Rattle.std.specs.Prelude.{slice_index_or}
use Rattle.im_page_pool.specs.Pool.{Holds}
use Rattle.im_page_writer.proofs.page_writer.PageWriter.holds_all.Given as goal

abbrev pub invariant-loop-i : goal.invariant-loop-i
invariant-loop-i l = (k : ℕ) → k < l.i → Holds l.self.pool (slice_index_or l.numbers k 0)
