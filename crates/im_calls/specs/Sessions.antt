-- What a store that is open makes of a call.
use Rattle.std.specs.Prelude.{◌≡◌, ◌≢◌, ◌⊎◌, ◌<◌, ◌≤◌, ◌∷◌, [], ℕ, List, Option, None, Some, Result, Ok, Err, if◌then◌else◌}
use Rattle.im_base_types.specs.declared.fault.Fault.{Fault}
use Rattle.im_base_types.specs.Faults.{number_of}
use Rattle.im_base_disk.specs.declared.disk.Disk.{Ghosts}
use Rattle.im_base_steps.specs.declared.step.Step.{Step}
use Rattle.im_base_steps.specs.declared.reply.Reply.{Reply}
use Rattle.im_base_steps.specs.Calls.{asked_by, told_by}
use Rattle.im_engine.specs.declared.engine.Engine.{Engine}
use Rattle.im_store.specs.Numbers.{active_of, dirty_of, durable_end_of}
use Rattle.im_store.specs.Stores.{IsEnd, IsStepKept}
use Rattle.im_store.specs.declared.open_store.OpenStore.{OpenStore}
use Rattle.im_calls.specs.declared.call.Call.{Call}
use Rattle.im_calls.specs.Calls.{AsksStep, Tells, TellsWord, Refuses}
use Rattle.im_calls.specs.declared.opened.Opened.{Opened}

-- a number that is for a step: it asks neither how the store stands, nor an end, nor for a copy or a load
abbrev pub IsForStep : ℕ → Type 0
IsForStep step = (step ≢ 13) × (step ≢ 15) × (step ≢ 18) × (step ≢ 19) × (step ≢ 20) × (step ≢ 21) × (step ≢ 22) × (step ≢ 23)

-- a number that is for a step by a key
abbrev pub IsForKey : ℕ → Type 0
IsForKey step = ((1 ≤ step) × (step ≤ 6)) ⊎ (step ≡ 17)

-- a number that is for a load
abbrev pub IsForLoad : ℕ → Type 0
IsForLoad step = (step ≡ 21) ⊎ (step ≡ 22) ⊎ (step ≡ 23)

-- a refusal is told just where something was refused, by its number, and else Done
abbrev pub TellsEnd : Call → Result Unit Fault → Type 0
TellsEnd told (Ok _) = TellsWord told 14 0
TellsEnd told (Err fault) = Refuses told (number_of fault)

-- how an engine stands, in six numbers: active transactions, pages whose file lacks changes, where the durable log ends, where redo began, how many records it applied, and 1 where it has failed
abbrev pub standing : {D : Type 0} (d : Ghosts D) → Engine D d → List ℕ
standing d e = active_of d e ∷ dirty_of d e ∷ durable_end_of d e ∷ e.report.point ∷ e.report.applied ∷ (if e.failed then 1 else 0) ∷ []

module _ {D : Type 0} (d : Ghosts D) (asked told : Call) where
  -- The store made the step that is asked, and what is due after it, as its contract has it; and its reply is told.
  pub record IsMade (old new : OpenStore D d) : Type 0 where
    pub step : Step
    pub reply : Reply
    pub asks : AsksStep asked (asked_by step)
    pub made : IsStepKept d step reply old new
    pub tells : Tells told (told_by reply)

  -- no step was made: there was no memory for its key, or its number is that of none
  pub record IsNotMade (old new : OpenStore D d) : Type 0 where
    pub same : new ≡ old
    pub tells : (Refuses told 9 × IsForKey asked.step) ⊎ (Refuses told 16 × (12 < asked.step) × (asked.step ≢ 16) × (asked.step ≢ 17) × (asked.step ≢ 24))

  -- what becomes of a call
  abbrev pub Serves : OpenStore D d → OpenStore D d → Type 0
  Serves old new = IsMade old new ⊎ IsNotMade old new

  -- what comes of a step of a store that is open, which stays open
  abbrev pub IsServed : Opened D d → Option (Opened D d) → Type 0
  IsServed old None = ⊥
  IsServed old (Some new) = Serves old.store new.store

-- What comes of an end: the store ended as its contract has it, and how is told.
pub record IsClosing {D : Type 0} (d : Ghosts D) (told : Call) (s : OpenStore D d) : Type 0 where
  pub result : Result Unit Fault
  pub disk : D
  pub end : IsEnd d s result disk
  pub tells : TellsEnd told result
