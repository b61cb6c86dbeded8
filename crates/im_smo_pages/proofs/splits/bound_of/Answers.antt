use Rattle.std.proofs.Common.{rules, sym, ◌∙◌}
use denote.Enum.Bare.{differs_true, differs_false}
use Rattle.im_base_types.specs.contracts.page_kind.PageKind.{the_type}
use Rattle.im_smo_pages.proofs.PartLemmas.{bound_other, bound_half, bound_dense}
use Rattle.im_smo_pages.proofs.splits.bound_of.Goals as goal

pub returns-then-ne-clause-rule : goal.returns-then-ne-clause-rule
returns-then-ne-clause-rule c =
    bound_other c.args.page.now.body.kind c.args.dense c.args.page.now.body.next (λ leaf. absurd (differs_true the_type _ _ (sym c.ne.ensures ∙ c.if-ne.true) (c.kind.ensures ∙ leaf)))

pub returns-then-dense-clause-rule : goal.returns-then-dense-clause-rule
returns-then-dense-clause-rule c =
    let kind = sym c.kind.ensures ∙ differs_false the_type (search rules) _ _ (sym c.ne.ensures ∙ c.if-ne.false) in
    bound_dense c.args.page.now.body.kind c.args.dense c.next.result c.args.page.now.body.next c.dense_bound.result kind c.if-dense.true c.next.ensures c.dense_bound.ensures.rule

pub returns-clause-rule : goal.returns-clause-rule
returns-clause-rule c =
    let kind = sym c.kind.ensures ∙ differs_false the_type (search rules) _ _ (sym c.ne.ensures ∙ c.if-ne.false) in
    bound_half c.args.page.now.body.kind c.args.dense c.args.page.now.body.next kind c.if-dense.false
