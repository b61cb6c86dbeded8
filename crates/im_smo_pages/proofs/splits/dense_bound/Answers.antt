use Rattle.std.proofs.Common.{arith}
use Rattle.im_smo_pages.proofs.PartLemmas.{bound_last, bound_inside}
use Rattle.im_smo_pages.proofs.splits.dense_bound.Goals as goal

pub returns-then-next-eq0-clause-rule : goal.returns-then-next-eq0-clause-rule
returns-then-next-eq0-clause-rule c = bound_last c.args.next (omega (arith, c.if-next-eq0.true))

pub returns-clause-rule : goal.returns-clause-rule
returns-clause-rule c = bound_inside c.args.next (λ last. omega (arith, last, c.if-next-eq0.false))
