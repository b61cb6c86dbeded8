use Rattle.std.proofs.Common.{ℕ, subst}
use Rattle.im_theory_page.specs.Page.{is_leaf_kind}
use Rattle.im_theory_page.specs.Split.{IsSplitPoint}
use Rattle.im_smo_pages.proofs.splits.point_of.Goals as goal

pub returns-clause-point : goal.returns-clause-point
returns-clause-point c =
    subst (λ (b : ℕ). IsSplitPoint b (is_leaf_kind c.args.page.now.body.kind) c.args.page.now.body.entries c.split_point.result) c.bound_of-bound.ensures.rule c.split_point.ensures.point
