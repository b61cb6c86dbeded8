use Rattle.std.proofs.Common.{rules, arith, sym, ◌∙◌}
use denote.Enum.Bare.{differs_true, differs_false}
use Rattle.im_base_types.specs.contracts.page_kind.PageKind.{the_type}
use Rattle.im_smo_pages.proofs.PartLemmas.{splits_at}
use Rattle.im_smo_pages.proofs.splits.place.Goals as goal

pub returns-clause-at : goal.returns-clause-at
returns-clause-at c =
    let kind = sym c.kind.ensures ∙ differs_false the_type (search rules) _ _ (sym c.ne.ensures ∙ c.if-ne.false) in
    splits_at c.args.dense c.args.kind c.args.page.now.body c.point_of-point.result kind c.point_of-point.ensures.point c.point_of-point.ensures.left c.point_of-point.ensures.right
    (omega arith) (omega (arith, c.point_of-point.ensures.point.within))

pub returns-then-ne-clause-ok : goal.returns-then-ne-clause-ok
returns-then-ne-clause-ok c can = absurd (differs_true the_type _ _ (sym c.ne.ensures ∙ c.if-ne.true) (c.kind.ensures ∙ can.kind))
