-- What lies under the lock of a front that keeps its trace for proofs alone.
use Rattle.std.specs.Prelude.{ℕ, List, [], ◌∷◌, map}
use Rattle.im_base_types.specs.Pages.{Entry}
use Rattle.im_base_types.specs.Answers as answers
use Rattle.im_base_types.specs.Changes.{Effect}
use Rattle.im_base_types.specs.Lives.{Shown}
use Rattle.im_theory_machine.specs.View.{View}
use Rattle.im_base_steps.specs.declared.step.Step.{Step}
use Rattle.im_base_steps.specs.declared.reply.Reply.{Reply}
use Rattle.im_base_steps.specs.Calls.{asked_by, told_by}
use Rattle.im_front.specs.declared.line.Line.{Line}
use Rattle.im_front.specs.Held.{Stands, IsRun, StopKeeps}

-- the value behind the lock, as contracts see it
pub record LockedState (E : Type 0) : Type 0 where
  pub engine : E
  pub trace : List (Step × Reply)
  -- the counts that were written last to the cell of statistics
  pub counts : List ℕ
  -- how many transactions wait for a force
  pub waiting : ℕ
  -- how many forces were made
  pub forces : ℕ
  -- who waits to begin, and for whom
  pub line : Line

-- the counts of an empty trace
abbrev pub none : List ℕ
none = 0 ∷ 0 ∷ 0 ∷ []

-- steps with their replies
abbrev pub seen_of : List (Step × Reply) → List (answers.Step × answers.Reply)
seen_of = map (λ r. (asked_by r.0, told_by r.1))

module _ {E : Type 0} (life : List Effect → Shown → View → E → Type 0) where
  -- from some base entries the trace leads to a view of the engine
  abbrev pub StandsFrom : List (Step × Reply) → E → Type 0
  StandsFrom trace engine = (base : List Entry) × Stands life base (seen_of trace) engine

  -- from whatever base entries the old trace began, the new one begins
  abbrev pub GoesOn : LockedState E → LockedState E → Type 0
  GoesOn old new = (base : List Entry) → Stands life base (seen_of old.trace) old.engine → Stands life base (seen_of new.trace) new.engine

-- From the same base entries the trace is a run that ends in a view of the engine, and a stop keeps what it acknowledged.
pub record IsKeptFrom {E : Type 0} (life : List Effect → Shown → View → E → Type 0) (leaves : E → (List Effect → Type 0) → Type 0) (trace : List (Step × Reply)) (engine : E) : Type 0 where
  pub base : List Entry
  pub run : IsRun life base (seen_of trace) engine
  pub stops : StopKeeps leaves base (seen_of trace) engine
