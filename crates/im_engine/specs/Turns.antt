-- Steps in turn.
use Rattle.std.specs.Prelude.{◌≡◌, ◌≢◌, ◌⊎◌, ℕ, zero, suc, List, [], ◌∷◌, None, Some}
use Rattle.im_base_types.specs.Answers as answers
use Rattle.im_base_types.specs.Maps.{IndexMap}
use Rattle.im_base_types.specs.Changes.{Effect}
use Rattle.im_base_types.specs.Lives.{Shown, shows, shown_by}
use Rattle.im_base_disk.specs.declared.disk.Disk.{Ghosts}
use Rattle.im_base_disk.specs.Disk.{Files}
use Rattle.im_theory_machine.specs.View.{View}
use Rattle.im_theory_machine.specs.Machine.{Run, start}
use Rattle.im_base_steps.specs.declared.step.Step.{Step}
use Rattle.im_base_types.specs.declared.fault.Fault.TheVariants.{Device}
use Rattle.im_base_steps.specs.declared.reply.Reply.{Reply}
use Rattle.im_base_steps.specs.declared.reply.Reply.TheVariants.{Refused}
use Rattle.im_base_steps.specs.Calls.{asked_by, told_by}
use Rattle.im_engine.specs.declared.engine.Engine.{Engine}
use Rattle.im_engine.specs.Stands.{Allowed}
use Rattle.im_engine.specs.Running.{IsLife}
use Rattle.im_engine.specs.Told.{IsStep}

-- Steps with these replies are a run of the machine from this map: what `law_isolation` speaks of.
pub record IsRunFrom (base : IndexMap) (trace : List (answers.Step × answers.Reply)) : Type 0 where
  pub first : ℕ
  pub last : View
  pub run : Run (start base first) trace last

module _ {D : Type 0} (d : Ghosts D) where
  -- Steps with these replies are a run of the machine, and the life goes on with what they have shown.
  pub record LivesOn (before : List Effect) (s : Shown) (v : View) (trace : List (answers.Step × answers.Reply)) (new : Engine D d) : Type 0 where
    pub next : View
    pub run : Run v trace next
    pub after : IsLife d before (shown_by s trace) next new

  -- Each step was made by the engine that the one before it left.
  abbrev pub AreSteps : List Step → List Reply → Engine D d → Engine D d → Type 0
  AreSteps [] [] old new = new ≡ old
  AreSteps (step ∷ steps) (reply ∷ replies) old new = (mid : Engine D d) × IsStep d step reply old mid × AreSteps steps replies mid new
  AreSteps _ _ old new = ⊥

  -- the engine that the first n of them left
  abbrev pub behind : ℕ → (steps : List Step) (replies : List Reply) (old new : Engine D d) → AreSteps steps replies old new → Engine D d
  behind zero steps replies old new turns = old
  behind (suc n) (step ∷ steps) (reply ∷ replies) old new turns = behind n steps replies turns.0 new turns.2
  behind (suc n) steps replies old new turns = new

-- no reply says that the disk has failed
abbrev pub NoneIsLost : List Reply → Type 0
NoneIsLost [] = Unit {0}
NoneIsLost (reply ∷ replies) = (reply ≢ Refused Device) × NoneIsLost replies

-- A stop within steps that have these replies: it fell within one of them, whose reply is then not known, or after the last.
abbrev pub IsCutOff : List Effect → Shown → List Step → List Reply → Files → Type 0
IsCutOff before s (step ∷ steps) (reply ∷ replies) c = Allowed before (shows s (asked_by step) None) c ⊎ IsCutOff before (shows s (asked_by step) (Some (told_by reply))) steps replies c
IsCutOff before s _ _ c = Allowed before s c

-- A stop that came when the first n replies had been handed out.
abbrev pub IsCutOffBehind : ℕ → List Effect → Shown → List Step → List Reply → Files → Type 0
IsCutOffBehind zero before s steps replies c = IsCutOff before s steps replies c
IsCutOffBehind (suc n) before s (step ∷ steps) (reply ∷ replies) c = IsCutOffBehind n before (shows s (asked_by step) (Some (told_by reply))) steps replies c
IsCutOffBehind (suc n) before s steps replies c = Allowed before s c
