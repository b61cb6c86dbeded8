use Rattle.std.proofs.Common.{rules, [], ◌∷◌, ℕ, List, refl, sym, subst}
use Rattle.im_base_types.specs.Changes.{apply_all}
use Rattle.std.specs.FinMap.{empty, entries}
use Rattle.im_base_steps.specs.declared.step.Step.{Step}
use Rattle.im_base_steps.specs.declared.reply.Reply.{Reply}
use Rattle.im_front.specs.Held.{IsTallied, Stands}
use Rattle.im_front.specs.Made.{WereMade}
use Rattle.im_front.specs.Made.AreMade.{none as none_made}
use Rattle.im_front.specs.Locked.{seen_of}
use Rattle.im_front.proofs.Steps.{stands_new, tallied_new, none_waiting}
use Rattle.im_front.proofs.open.Kept.new.Goals as goal

pub invariant_of-result : goal.invariant_of-result
invariant_of-result g c =
    let zeros : List ℕ = 0 ∷ 0 ∷ 0 ∷ [] in
    let resting = c.into_engine-engine.ensures.rests in
    let none = sym c.new-3.ensures in
    let nobody = none_waiting (g.E.Store.waiting c.into_engine-engine.result) (g.E.Store.actives c.into_engine-engine.result) (g.met.E.Store.few c.into_engine-engine.result) resting.idle in
    let tallied = tallied_new (g.E.Store.actives c.into_engine-engine.result) (g.E.Store.waiting c.into_engine-engine.result) zeros resting.idle nobody refl in (
      (λ tells.
          let r = resting.rests tells in
          let base = entries (apply_all empty r.before) in
          (base, subst (λ (l : List (Step × Reply)). Stands g.E.Store.life base (seen_of l) c.into_engine-engine.result) none (stands_new g.E.Store.life base c.into_engine-engine.result r.before r.first r.life_is refl))),
      subst (λ (l : List (Step × Reply)). IsTallied (seen_of l) (g.E.Store.actives c.into_engine-engine.result) (g.E.Store.waiting c.into_engine-engine.result) 0 zeros zeros) none tallied,
      search rules,
      search rules,
      search rules,
      sym nobody,
      search rules,
      search rules,
      subst (λ (l : List (Step × Reply)). WereMade g.E.Store l c.into_engine-engine.result) none (c.into_engine-engine.result, none_made),
    )
