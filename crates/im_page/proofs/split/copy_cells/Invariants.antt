use Rattle.std.proofs.Common.{◌≡◌, ℕ, ◌<◌, ◌≤◌, slice_index, slice_range}
use Rattle.im_theory_page.specs.Form.{entries_of, IsPacked}
use Rattle.im_page.proofs.split.copy_cells.Given as goal

-- the entries from `low` up to j are there
abbrev pub invariant-loop-j : goal.invariant-loop-j
invariant-loop-j l = record {
  packed : IsPacked l.leaf l.bytes;
  entries : entries_of l.leaf l.bytes ≡ slice_range (entries_of l.leaf l.from) l.low l.j;
  head : (k : ℕ) → k < 12 → slice_index l.bytes k ≡ slice_index l.fn.bytes k;
  links : (k : ℕ) → 16 ≤ k → k < 32 → slice_index l.bytes k ≡ slice_index l.fn.bytes k;
}
