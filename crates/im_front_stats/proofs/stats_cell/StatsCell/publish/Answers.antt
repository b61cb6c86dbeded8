use Rattle.std.proofs.Common.{rules, ◌≡◌, ℕ, refl, sym, ap, ◌∙◌, subst}
use Rattle.crossbeam_utils.proofs.SeqKeeps.{puts, publishes}
use Rattle.crossbeam_utils.specs.Register.{TurnsAt}
use Rattle.crossbeam_utils.specs.declared.atomic.seq_cell.Stage.TheVariants.{Writing}
use Rattle.im_front_stats.specs.declared.version_rule.Known.{Known}
use Rattle.im_front_stats.specs.Counts.{Kept, StoresCounts}
use Rattle.im_front_stats.proofs.CountLemmas.{stores}
use Rattle.im_front_stats.proofs.stats_cell.StatsCell.publish.Goals as goal

pub store-requires : goal.store-requires
store-requires c = (search rules, search rules, puts _ _ _ _ _ _ _ _ _ _ _ c.loop-i.invariant.1 (search rules) (search rules))

pub store-requires-2 : goal.store-requires-2
store-requires-2 c = let e : c.loop-i.i ≡ 3 = search rules in let same = c.loop-i.invariant.0 in (
  search rules,
  search rules,
  publishes _ _ _ StoresCounts _ _ _ c.args.version c.args.old c.args.new _ (c.loop-i.invariant.1 ∙ ap (Writing c.args.version c.args.old c.args.new) e) refl (search rules)
      (subst (λ (z : ℕ × Known). TurnsAt Kept z.0 z.1 c.args.old c.args.new StoresCounts) (λ i. (sym (same.1) i, sym (same.2) i)) (stores _ _ c.args.new c.requires.writes.0 c.requires.writes.1 c.requires.writes.2 c.args.old)),
)

pub returns-clause-rule : goal.returns-clause-rule
returns-clause-rule c = subst (λ (v : Known). StoresCounts v c.args.old c.args.new c.store-2.new.seat.me.0.client) c.loop-i.invariant.0.2 (c.store-2.ensures.2 _ _ _ _ c.loop-i.invariant.1)
