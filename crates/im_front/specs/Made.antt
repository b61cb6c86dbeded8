-- That the steps of a front were made, one after the other.
use Rattle.std.specs.Prelude.{◌≡◌, ℕ, true, List, [], ◌∷◌, ◌++◌, length}
use Rattle.im_base_steps.specs.declared.step.Step.{Step}
use Rattle.im_base_steps.specs.declared.reply.Reply.{Reply}
use Rattle.im_base_steps.specs.Calls.{told_by, is_blocked}
use Rattle.im_theory_store_trait.specs.declared.store.Store.{Ghosts}

module _ {E : Type 0} (d : Ghosts E) where
  -- Each of these steps was made of the engine that was left before, from the first one on, and was answered so. Between two of them the engine answered steps that they are Blocked, or its entries were looked at.
  pub data AreMade (first : E) : List (Step × Reply) → E → Type 0 where
    none : AreMade first [] first
    one_more : (steps : List (Step × Reply)) (was now : E) (step : Step) (reply : Reply) → AreMade first steps was → d.made was step reply now → AreMade first (steps ++ (step, reply) ∷ []) now
    blocked : (steps : List (Step × Reply)) (was now : E) (step : Step) (reply : Reply) → AreMade first steps was → d.made was step reply now → is_blocked (told_by reply) ≡ true → AreMade first steps now
    looked : (steps : List (Step × Reply)) (was now : E) → AreMade first steps was → d.looked was now → AreMade first steps now

  -- They were made over one engine, which is this one now.
  abbrev pub WereMade : List (Step × Reply) → E → Type 0
  WereMade steps engine = (first : E) × AreMade first steps engine

-- a trace that is the end of all that was seen, after so many steps
abbrev pub EndsIn : {A : Type 0} → List A → ℕ → List A → Type 0
EndsIn {A} all cut trace = (older : List A) × (all ≡ older ++ trace) × (length older ≡ cut)
