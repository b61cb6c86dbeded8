use Rattle.std.proofs.Common.{sym, ◌∙◌, subst, inl, inr, refl, ◌≡◌}
use Rattle.im_base_types.specs.Keys.{Key, IsBelow}
use Rattle.im_theory_page.specs.Entry.{entry_at}
use Rattle.im_theory_page.proofs.Order.{below_from_greater, same_from_equal}
use Rattle.im_smo_split.proofs.pending_split.part_of.Goals as goal

pub returns-in-Equal : goal.returns-in-Equal
returns-in-Equal c =
    let same : c.args.key.now ≡ (entry_at c.args.page.now.body.entries c.args.n).0 = same_from_equal c.args.key.now c.key.result.now c.in-Equal.ensures ∙ c.key.ensures.key in
    inr (refl, inl (sym same))

pub returns-in-Greater : goal.returns-in-Greater
returns-in-Greater c =
    inr (refl, inr (subst (λ (k : Key). IsBelow k c.args.key.now) c.key.ensures.key (below_from_greater c.args.key.now c.key.result.now c.in-Greater.ensures)))
