-- Lives of a store, each an opening with steps of many transactions, which may stop at any moment.
use Rattle.std.specs.Prelude.{◌≡◌, ◌≤◌, ℕ, zero, suc, false, List, [], ◌∷◌, length, take, None, Result, Ok, Err}
use Rattle.im_base_types.specs.Changes.{Effect}
use Rattle.im_base_types.specs.Lives.{NoneAcked, nothing_shown}
use Rattle.im_base_types.specs.declared.fault.Fault.{Fault}
use Rattle.im_base_types.specs.declared.fault.Fault.TheVariants.{Memory}
use Rattle.im_base_steps.specs.declared.reply.Reply.{Reply}
use Rattle.im_base_steps.specs.declared.step.Step.{Step}
use Rattle.im_base_disk.specs.declared.disk.Disk.{Ghosts}
use Rattle.im_base_disk.specs.Disk.{Files}
use Rattle.im_engine.specs.declared.config.Config.{Config}
use Rattle.im_engine.specs.declared.engine.Engine.{Engine}
use Rattle.im_engine.specs.Opening.{IsOpening}
use Rattle.im_engine.specs.Stands.{StandsFor}
use Rattle.im_engine.specs.Promise.{Life, IsKept, IsRunOn}
use Rattle.im_engine.specs.Turns.{behind, AreSteps, IsCutOffBehind, NoneIsLost}

-- A stop when the first `answered` of these replies had been handed out took the files to others: whatever effects the first stand for, the others stand for what a life may make of them that was cut off there or later.
abbrev pub TakesFiles : List Step → List Reply → ℕ → Files → Files → Type 0
TakesFiles steps replies answered old new = (before : List Effect) → StandsFor before old → IsCutOffBehind answered before nothing_shown steps replies new

-- ---- lists of lives

-- lives in turn, each on the files that the stop of the one before left
abbrev pub AreLives : Files → List (Life Files) → Files → Type 0
AreLives old [] new = new ≡ old
AreLives old (life ∷ lives) new = TakesFiles life.steps life.replies life.answered old life.left × AreLives life.left lives new

-- What they leave, one after another: the files between two lives stand for what is kept up to there. Where the stop fell later than the last reply that had been handed out, none is lost either whose Commit was acknowledged up to it.
abbrev pub AreKept : List Effect → List (Life Files) → List Effect → Type 0
AreKept before [] after = after ≡ before
AreKept before (life ∷ lives) after = (between : List Effect) × (kept : IsKept before life between) × NoneAcked kept.lost × StandsFor between life.left × AreKept between lives after

-- ---- one life

module _ {D : Type 0} (d : Ghosts D) where
  -- The disk when the first n replies had been handed out: for none, that with which the life began.
  abbrev pub disk_at : D → ℕ → (steps : List Step) (replies : List Reply) (opened last : Engine D d) → AreSteps d steps replies opened last → D
  disk_at old zero steps replies opened last turns = old
  disk_at old (suc n) steps replies opened last turns = (behind d (suc n) steps replies opened last turns).disk

  -- A life: an engine was opened on the disk, and each step was made by the engine that the one before left.
  pub record IsLived (config : Config) (steps : List Step) (replies : List Reply) (old new : D) : Type 0 where
    pub opened : Engine D d
    pub opening : IsOpening d config old (Ok opened)
    pub last : Engine D d
    pub turns : AreSteps d steps replies opened last
    pub disk : new ≡ last.disk
    -- what a stop leaves that falls when the first n replies have been handed out, at any moment since
    pub since : d.tells → (n : ℕ) → n ≤ length replies → (c : Files) → d.left_since new (d.moment (disk_at old n steps replies opened last turns)) c → TakesFiles steps replies n (d.seen old) c
    -- and what one leaves that falls no later than the reply to the m-th step
    pub within : d.tells → (n m : ℕ) → n ≤ m → m ≤ length replies → (c : Files) → d.left_since (behind d m steps replies opened last turns).disk (d.moment (disk_at old n steps replies opened last turns)) c
        → TakesFiles (take m steps) (take m replies) n (d.seen old) c
    -- with it, it is a life of those that the promise speaks of, which had asked no step after the m-th
    pub run : d.tells → (n m : ℕ) → n ≤ m → m ≤ length replies → (c : Files) → d.left_since (behind d m steps replies opened last turns).disk (d.moment (disk_at old n steps replies opened last turns)) c
        → IsRunOn StandsFor (d.seen old) (record { steps = take m steps; replies = take m replies; answered = n; shown = None; left = c })
    -- a stop after the last
    pub ends : d.tells → (c : Files) → d.may_leave new c → TakesFiles steps replies (length replies) (d.seen old) c
    -- the disk has failed only where a reply says so
    pub alive : NoneIsLost replies → d.failed new ≡ false

  -- why a life has no replies: its opening was refused, or there was no room for them
  abbrev pub IsRefusedBy : Result (Engine D d) (Fault × D) → Fault → D → Type 0
  IsRefusedBy (Err x) fault new = (fault ≡ x.0) × (new ≡ x.1)
  IsRefusedBy (Ok opened) fault new = (fault ≡ Memory) × (new ≡ opened.disk)

  -- A life without a step. A stop at any moment of it leaves files that stand for what they stood for.
  pub record IsUnlived (config : Config) (old : D) (fault : Fault) (new : D) : Type 0 where
    pub result : Result (Engine D d) (Fault × D)
    pub opening : IsOpening d config old result
    pub refused : IsRefusedBy result fault new
    pub since : d.tells → (c : Files) → d.left_since new (d.moment old) c → TakesFiles [] [] 0 (d.seen old) c
    pub run : d.tells → (c : Files) → d.left_since new (d.moment old) c → IsRunOn StandsFor (d.seen old) (record { steps = []; replies = []; answered = 0; shown = None; left = c })
