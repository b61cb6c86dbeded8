use Rattle.std.proofs.Common.{◌≡◌, rules, [], ◌∷◌, ◌∙◌, ℕ, List, refl, sym, subst}
use Rattle.im_base_types.specs.Lives.{nothing_shown}
use Rattle.im_base_types.specs.Changes.{apply_all}
use Rattle.std.specs.FinMap.{empty, entries}
use Rattle.im_theory_machine.specs.Machine.{start}
use Rattle.im_front.specs.declared.recorded.Recorded.{Recorded}
use Rattle.im_base_steps.specs.declared.step.Step.{Step}
use Rattle.im_base_steps.specs.declared.reply.Reply.{Reply}
use Rattle.im_front.specs.Traces.{trace_of}
use Rattle.im_front.specs.Made.{WereMade}
use Rattle.im_front.specs.Made.AreMade.{none as none_made, looked}
use Rattle.im_front.specs.Locked.{StandsFrom, seen_of}
use Rattle.im_front.specs.Held.{IsTallied, Stands, WereKept, forces_in, waits_in}
use Rattle.im_front.proofs.Steps.{stands_new, tallied_new, none_waiting}
use Rattle.im_front.proofs.held.Held.new.Goals as goal

pub invariant_of-result : goal.invariant_of-result
invariant_of-result g c =
    let zeros : List ℕ = 0 ∷ 0 ∷ 0 ∷ [] in
    let resting = c.requires.resting in
    let none = sym c.new-3.ensures.items in
    let nothing = sym c.new-4.ensures in
    let nobody = none_waiting (g.E.Store.waiting c.entries.new.self) (g.E.Store.actives c.entries.new.self) (g.met.E.Store.few c.entries.new.self) (c.in-Ok.ensures.active ∙ resting.idle) in
    let tallied = tallied_new (g.E.Store.actives c.entries.new.self) (g.E.Store.waiting c.entries.new.self) zeros (c.in-Ok.ensures.active ∙ resting.idle) nobody refl in (
      (λ tells.
          let r = resting.rests tells in
          let e = c.in-Ok.ensures.list r.before nothing_shown (start (apply_all empty r.before) r.first) r.life_is in
          subst (λ (l : List Recorded). Stands g.E.Store.life c.in-Ok.base.items (trace_of l) c.entries.new.self) none (stands_new g.E.Store.life c.in-Ok.base.items c.entries.new.self r.before r.first e.1 e.0)),
      subst (λ (l : List Recorded). IsTallied (trace_of l) (g.E.Store.actives c.entries.new.self) (g.E.Store.waiting c.entries.new.self) 0 zeros zeros) none tallied,
      search rules,
      search rules,
      search rules,
      search rules,
      search rules,
      sym nobody,
      subst (λ (l : List (Step × Reply)). 0 ≡ forces_in (seen_of l)) nothing refl,
      search rules,
      subst (λ (l : List (Step × Reply)). WereMade g.E.Store l c.entries.new.self) nothing (c.args.engine, looked [] c.args.engine c.entries.new.self none_made c.in-Ok.ensures.looked),
      (λ tells.
          let r = resting.rests tells in
          let e = c.in-Ok.ensures.list r.before nothing_shown (start (apply_all empty r.before) r.first) r.life_is in
          let base = entries (apply_all empty r.before) in
          subst (λ (l : List (Step × Reply)). StandsFrom g.E.Store.life l c.entries.new.self) nothing (base, stands_new g.E.Store.life base c.entries.new.self r.before r.first e.1 refl)),
      subst (λ (l : List (Step × Reply) × List Recorded). WereKept (seen_of l.0) 0 zeros (trace_of l.1)) (λ i. (nothing i, none i)) (record { ends = ([], refl, refl); counts = refl; nobody = refl; idle = refl }),
      subst (λ (l : List (Step × Reply)). 0 ≡ waits_in 0 (seen_of l)) nothing refl,
    )
