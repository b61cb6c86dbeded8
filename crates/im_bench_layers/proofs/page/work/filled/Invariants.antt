use Rattle.std.proofs.Common.{◌≡◌}
use Rattle.im_base_types.specs.declared.page_kind.PageKind.TheVariants.{Leaf}
use Rattle.im_bench_layers.proofs.page.work.filled.Given as goal

abbrev pub invariant-loop-n : goal.invariant-loop-n
invariant-loop-n l = l.page.body.kind ≡ Leaf
