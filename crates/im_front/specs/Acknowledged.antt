-- What the answer of a front says: which step was made behind its lock, and that a force came after it.
use Rattle.std.specs.Prelude.{◌≡◌, ◌⊎◌, ◌<◌, ◌≤◌, ◌^◌, ℕ, false, List, [], ◌∷◌, ◌++◌, length}
use Rattle.im_base_types.specs.Pages.{Entry}
use Rattle.im_base_types.specs.Answers as answers
use Rattle.im_base_steps.specs.declared.step.Step.{Step}
use Rattle.im_base_steps.specs.declared.reply.Reply.{Reply}
use Rattle.im_base_steps.specs.declared.step.Step.TheVariants as steps
use Rattle.im_base_steps.specs.declared.reply.Reply.TheVariants as replies
use Rattle.im_base_types.specs.declared.fault.Fault.{Fault}
use Rattle.im_base_types.specs.declared.fault.Fault.TheVariants.{Failed, TraceFull}
use Rattle.im_base_steps.specs.Calls.{told_by, may_end}
use Rattle.im_theory_store_trait.specs.declared.store.Store.{Ghosts}
use Rattle.im_front.specs.Made.{WereMade}
use Rattle.im_front.specs.Traces.{trace_of}
use Rattle.im_front.specs.Held.{State, IsCounted, IsRun, WereKept, waits_in, forces_in}
use Rattle.im_front.specs.Locked.{LockedState, seen_of}

-- The value behind a lock, whichever front it is of: the engine, every step that was made of it with its reply, and how many wait for a force.
pub record Point (E : Type 0) : Type 0 where
  pub engine : E
  pub steps : List (Step × Reply)
  pub waiting : ℕ
  -- how many forces were made
  pub forces : ℕ

abbrev pub point_of : {E : Type 0} → LockedState E → Point E
point_of s = record { engine = s.engine; steps = s.trace; waiting = s.waiting; forces = s.forces }

abbrev pub point_in : {E : Type 0} → State E → Point E
point_in s = record { engine = s.engine; steps = s.history; waiting = s.waiting; forces = s.forces }

-- This step was made, and answered so.
pub record IsStepOf {E : Type 0} (made : E → Step → Reply → E → Type 0) (step : Step) (reply : Reply) : Type 0 where
  pub was : E
  pub now : E
  pub step_made : made was step reply now

module _ {E : Type 0} (d : Ghosts E) where
  -- What always holds behind the lock: the steps were made, one after the other, of the engine that lies there; where it tells what it holds they are a run that ends
  -- in it; and as many forces were made as were answered Done, and those wait whose Commit was answered More since.
  pub record IsHeld (p : Point E) : Type 0 where
    pub made : WereMade d p.steps p.engine
    pub run : d.tells → (base : List Entry) × IsRun d.life base (seen_of p.steps) p.engine
    pub counted : p.forces ≡ forces_in (seen_of p.steps)
    pub waits : (p.waiting ≡ waits_in 0 (seen_of p.steps)) × (p.waiting ≡ d.waiting p.engine)

  -- Behind the lock more forces than so many had been made.
  pub record IsForced (n : ℕ) : Type 0 where
    pub point : Point E
    pub held : IsHeld point
    pub more : n < point.forces

  -- Behind the lock the Commit was the last step, and waits for a force.
  pub record IsLast (t : ℕ) (p : Point E) : Type 0 where
    pub held : IsHeld p
    pub older : List (Step × Reply)
    pub reply : Reply
    pub told : told_by reply ≡ answers.More
    pub last : p.steps ≡ older ++ (steps.Commit t, reply) ∷ []

  -- So it was, and so many forces had been made.
  pub record IsWaiting (t n : ℕ) : Type 0 where
    pub point : Point E
    pub last : IsLast t point
    pub so_many : n ≡ point.forces

  -- The Commit was made, and answered Committed; or it was answered More, and a force came after it.
  pub data IsAcknowledged (t : ℕ) : Type 0 where
    at_once : (reply : Reply) → told_by reply ≡ answers.Committed → IsStepOf d.made (steps.Commit t) reply → IsAcknowledged t
    by_force : (p : Point E) → IsLast t p → IsForced p.forces → IsAcknowledged t

  -- Behind the lock the store was broken.
  pub record IsBroken : Type 0 where
    pub point : Point E
    pub held : IsHeld point
    pub broken : d.broken point.engine

  -- Behind the lock as many steps had been made as are ever made.
  pub record IsSpent : Type 0 where
    pub point : Point E
    pub held : IsHeld point
    pub all : 2 ^ 62 ≤ length point.steps

  -- The front was in this state: it is as it always is behind the lock, of all steps that were made the trace has those that were not cut, and the counts are those of the trace, after those of the steps cut.
  pub record WasIn (s : State E) : Type 0 where
    pub held : IsHeld (point_in s)
    pub kept : WereKept (seen_of s.history) s.cut s.kept (trace_of s.trace)
    pub counted : IsCounted (trace_of s.trace) (d.actives s.engine) s.kept s.counts
    pub waiting : s.waiting ≡ waits_in 0 (trace_of s.trace)
    pub run : d.tells → IsRun d.life s.base (trace_of s.trace) s.engine

  -- Behind the lock the trace that is kept was full for this step: it had its most steps, and the step ends no transaction.
  pub record IsFullFor (step : answers.Step) : Type 0 where
    pub state : State E
    pub was : WasIn state
    pub most : 65536 ≤ length state.trace
    pub ends_none : may_end state.waiting step ≡ false

  -- Why a step was not made, by what was behind the lock: the store was broken; or the trace was full, which `Full` says.
  abbrev pub IsGivenUp : Type 0 → Fault → Type 0
  IsGivenUp Full fault = ((fault ≡ Failed) × IsBroken) ⊎ ((fault ≡ TraceFull) × Full)

  -- Why no force came: it was made, and refused so; or it was not made.
  abbrev pub IsNotForced : Type 0 → Fault → Type 0
  IsNotForced Full fault = IsStepOf d.made steps.Force (replies.Refused fault) ⊎ IsGivenUp Full fault

  -- Why nothing was acknowledged: the Commit was made, and refused so; or no force came.
  abbrev pub IsNotAcknowledged : Type 0 → ℕ → Fault → Type 0
  IsNotAcknowledged Full t fault = IsStepOf d.made (steps.Commit t) (replies.Refused fault) ⊎ IsNotForced Full fault

  -- Behind the lock the store worked and nobody waited for a force; or one came after.
  pub data IsSettled : Type 0 where
    none_waits : (p : Point E) → IsHeld p → (d.broken p.engine → ⊥) → p.waiting ≡ 0 → IsSettled
    by_force : (p : Point E) → IsHeld p → IsForced p.forces → IsSettled
