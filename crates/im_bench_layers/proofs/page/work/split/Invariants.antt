use Rattle.std.proofs.Common.{◌≡◌}
use Rattle.im_base_types.specs.declared.page_kind.PageKind.TheVariants.{Leaf}
use Rattle.im_bench_layers.proofs.page.work.split.Given as goal

abbrev pub invariant-loop : goal.invariant-loop
invariant-loop l = record {
  left : l.left.body.kind ≡ Leaf;
  right : l.right.body.kind ≡ Leaf;
}
