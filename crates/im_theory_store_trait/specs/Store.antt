-- What the calls of a store keep. `life` says that a store goes on from these effects, has shown this since, and is this view of the machine.
use Rattle.std.specs.Prelude.{ℕ, true, List, Some, ◌⊎◌}
use Rattle.std.specs.FinMap.{empty}
use Rattle.im_base_types.specs.Answers.{Step, Reply}
use Rattle.im_base_types.specs.Changes.{Effect, apply_all}
use Rattle.im_base_types.specs.Lives.{Shown, shows, nothing_shown}
use Rattle.im_theory_machine.specs.Locks.{Lock}
use Rattle.im_theory_machine.specs.View.{View, broken}
use Rattle.im_theory_machine.specs.Machine.{Moves, start}

module _ {E : Type 0} (life : List Effect → Shown → View → E → Type 0) where
  -- A step: the machine may give this reply, and the life goes on with what the reply shows.
  pub record StepKept (before : List Effect) (s : Shown) (v : View) (step : Step) (reply : Reply) (new : E) : Type 0 where
    pub next : View
    pub moves : Moves v step reply next
    pub after : life before (shows s step (Some reply)) next new

  -- Where the store tells what it holds, it is a view of the machine.
  abbrev pub IsAlive : (tells : Type 0) → E → Type 0
  IsAlive tells e = tells → (before : List Effect) × (s : Shown) × (v : View) × life before s v e

  -- A look that was refused: the life goes on as it was, or the store is broken.
  abbrev pub LookKept : List Effect → Shown → View → E → Type 0
  LookKept before s v new = life before s v new ⊎ ((locks : ℕ → List Lock) × life before (record s { failed = true }) (broken v locks) new)

  -- A run may begin with the store: it works, and no transaction is active.
  pub record Rests (e : E) : Type 0 where
    pub before : List Effect
    pub first : ℕ  -- the number that is given next
    pub life_is : life before nothing_shown (start (apply_all empty before) first) e
