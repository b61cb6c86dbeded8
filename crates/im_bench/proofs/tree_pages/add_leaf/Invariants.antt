use Rattle.std.proofs.Common.{◌≡◌}
use Rattle.im_base_types.specs.declared.page_kind.PageKind.TheVariants.{Leaf}
use Rattle.im_bench.proofs.tree_pages.add_leaf.Given as goal

abbrev pub invariant-loop-i : goal.invariant-loop-i
invariant-loop-i l = l.page.body.kind ≡ Leaf
