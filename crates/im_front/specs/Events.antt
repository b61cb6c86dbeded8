-- What was done with an engine since it was at rest.
use Rattle.std.specs.Prelude.{◌≡◌, ℕ, true, List, [], ◌∷◌, Some}
use Rattle.im_base_types.specs.Answers.{Step, Reply}
use Rattle.im_base_types.specs.Lives.{Shown, shows}
use Rattle.im_theory_machine.specs.Locks.{Lock}
use Rattle.im_theory_machine.specs.View.{View, broken}
use Rattle.im_theory_machine.specs.Machine.{Moves}

pub data Event : Type 0 where
  -- a step that was made, with its reply
  Made : (step : Step) (reply : Reply) → Event
  -- a look at the entries that broke the engine; it is no step
  Broke : (locks : ℕ → List Lock) → Event

-- the steps with their replies
abbrev pub made_in : List Event → List (Step × Reply)
made_in [] = []
made_in (Made step reply ∷ events) = (step, reply) ∷ made_in events
made_in (Broke locks ∷ events) = made_in events

-- the machine goes from v to w by these
abbrev pub Runs : View → List Event → View → Type 0
Runs v [] w = w ≡ v
Runs v (Made step reply ∷ events) w = (mid : View) × Moves v step reply mid × Runs mid events w
Runs v (Broke locks ∷ events) w = Runs (broken v locks) events w

-- what they show
abbrev pub shown_in : Shown → List Event → Shown
shown_in s [] = s
shown_in s (Made step reply ∷ events) = shown_in (shows s step (Some reply)) events
shown_in s (Broke locks ∷ events) = shown_in (record s { failed = true }) events
