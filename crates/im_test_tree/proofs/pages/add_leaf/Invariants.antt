use Rattle.std.proofs.Common.{◌≡◌}
use Rattle.im_base_types.specs.declared.page_kind.PageKind.TheVariants.{Leaf}
use Rattle.im_test_tree.proofs.pages.add_leaf.Given as goal

abbrev pub invariant-loop-key : goal.invariant-loop-key
invariant-loop-key l = l.page.body.kind ≡ Leaf
