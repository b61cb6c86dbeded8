-- That neither a force nor a full trace can be made up: they do not follow from what always holds behind a lock.
use Rattle.std.proofs.Common.{◌≡◌, ◌∙◌, ℕ, List, [], length, length-append, refl, ap, arith}
use Rattle.im_base_types.specs.Answers as answers
use Rattle.im_base_steps.specs.declared.step.Step.{Step}
use Rattle.im_base_steps.specs.declared.reply.Reply.{Reply}
use Rattle.im_theory_store_trait.specs.declared.store.Store.{Ghosts}
use Rattle.im_front.specs.Made.{AreMade}
use Rattle.im_front.specs.Made.AreMade.{none, one_more, blocked, looked}
use Rattle.im_front.specs.Held.{forces_in}
use Rattle.im_front.specs.Locked.{seen_of}
use Rattle.im_front.specs.Traces.{trace_of}
use Rattle.im_front.specs.Acknowledged.{IsForced, IsFullFor, IsHeld, IsSpent}
use Rattle.im_front.proofs.Steps.{length-trace_of}

-- a store that makes no step
abbrev pub MakesNone : {E : Type 0} → Ghosts E → Type 0
MakesNone {E} d = (was now : E) (step : Step) (reply : Reply) → d.made was step reply now → ⊥

module _ {E : Type 0} (d : Ghosts E) (idle : MakesNone d) where
  no_steps : (first : E) (steps : List (Step × Reply)) (now : E) → AreMade d first steps now → steps ≡ []
  no_steps first _ _ none = refl
  no_steps first _ _ (one_more steps was now step reply made is) = absurd (idle was now step reply is)
  no_steps first _ _ (blocked steps was now step reply made is stays) = absurd (idle was now step reply is)
  no_steps first _ _ (looked steps was now made is) = no_steps first steps was made

  -- there what always holds can hold
  pub held_at_rest : (e : E) → (d.tells → ⊥) → 0 ≡ d.waiting e → IsHeld d (record { engine = e; steps = []; waiting = 0; forces = 0 })
  held_at_rest e untold nobody = record { made = (e, none); run = λ tells. absurd (untold tells); counted = refl; waits = (refl, nobody) }

  -- and no force came
  pub never_forced : (n : ℕ) → IsForced d n → ⊥
  never_forced n h =
      let steps : h.point.steps ≡ [] = no_steps h.held.made.0 h.point.steps h.point.engine h.held.made.1 in
      let forces : forces_in (seen_of h.point.steps) ≡ 0 = ap (λ (l : List (Step × Reply)). forces_in (seen_of l)) steps in
      let counted = h.held.counted in
      let more = h.more in
      absurd (omega (arith, counted, forces, more))

  -- nor was a trace full
  pub never_full : (step : answers.Step) → IsFullFor d step → ⊥
  never_full step h =
      let s = h.state in
      let steps : s.history ≡ [] = no_steps h.was.held.made.0 s.history s.engine h.was.held.made.1 in
      let ends = h.was.kept.ends in
      let all : length (seen_of s.history) ≡ 0 = ap (λ (l : List (Step × Reply)). length (seen_of l)) steps in
      let parts = ap length ends.1 ∙ length-append ends.0 (trace_of s.trace) in
      let long = length-trace_of s.trace in
      let most = h.most in
      absurd (omega (arith, all, parts, long, most))

  pub never_spent : IsSpent d → ⊥
  never_spent h =
      let steps : h.point.steps ≡ [] = no_steps h.held.made.0 h.point.steps h.point.engine h.held.made.1 in
      let none : length h.point.steps ≡ 0 = ap length steps in
      let all = h.all in
      absurd (omega (arith, none, all))
