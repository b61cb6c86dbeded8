use Rattle.std.proofs.Common.{◌≡◌}
use Rattle.im_base_types.specs.declared.page_kind.PageKind.TheVariants.{Inner}
use Rattle.im_bench.proofs.tree_pages.add_inner.Given as goal

abbrev pub invariant-loop-i : goal.invariant-loop-i
invariant-loop-i l = l.page.body.kind ≡ Inner
