-- The dirty table of a writer has room for as many entries as its pool asks for.
use Rattle.std.proofs.Common.{◌≡◌, ◌≤◌, ℕ, sym, ◌∙◌, ap, arith}
use Rattle.im_page_table.specs.DirtyTable.{most_entries}
use Rattle.im_page_writer.specs.declared.page_writer.PageWriter.{PageWriter}

most_least : (frames : ℕ) → 1024 ≤ most_entries frames
most_least frames = omega arith

-- for 1,024 at least
pub least : (w : PageWriter) → 1024 ≤ w.table.most
least w = let few = most_least w.pool.frames in let size = w.sized in omega (arith, few, size)

-- as many for as many frames
pub sized_as : (v w : PageWriter) → w.pool.frames ≡ v.pool.frames → w.table.most ≡ v.table.most
sized_as v w same = w.sized ∙ ap (λ (n : ℕ). most_entries n) same ∙ sym v.sized
