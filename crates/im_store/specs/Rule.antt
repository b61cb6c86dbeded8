-- What upkeep makes of an engine, and when: the rule.
use Rattle.std.specs.Prelude.{◌≡◌, ◌⊎◌, ◌≤◌, ◌<◌, ◌+◌, ◌-◌, ◌*◌, ◌^◌, ℕ, min, Some, true, false}
use Rattle.im_base_disk.specs.declared.disk.Disk.{Ghosts}
use Rattle.im_base_steps.specs.declared.step.Step.{Step}
use Rattle.im_base_steps.specs.declared.step.Step.TheVariants.{FlushPage, Force, Checkpoint, Switch}
use Rattle.im_base_steps.specs.declared.reply.Reply.{Reply}
use Rattle.im_base_steps.specs.declared.reply.Reply.TheVariants.{Refused}
use Rattle.im_base_types.specs.declared.fault.Fault.{Fault}
use Rattle.im_base_steps.specs.Calls.{asked_by}
use Rattle.im_base_steps.specs.Replies.{is_service}
use Rattle.im_base_types.specs.declared.tables.DirtyPage.{DirtyPage}
use Rattle.im_page_table.specs.DirtyTable.{oldest}
use Rattle.im_engine.specs.declared.engine.Engine.{Engine}
use Rattle.im_engine.specs.Told.{IsStep}
use Rattle.im_store.specs.declared.upkeep.Upkeep.{Upkeep}
use Rattle.im_store.specs.declared.due.Due.{Due}
use Rattle.im_store.specs.declared.due.Due.TheVariants as due
use Rattle.im_store.specs.LogBound.{length_over}
use Rattle.im_store.specs.Numbers.{active_of, dirty_of, durable_end_of, log_length_of}
use Rattle.im_store.specs.RedoBound.{bytes_over, redo_length}
use Rattle.im_store.specs.Upkeep.{IsKeptUp}

-- so many eighths of a bound are reached, of which there is one
abbrev pub HasEighths : ℕ → ℕ → ℕ → Type 0
HasEighths eighths bound bytes = (1 ≤ bound) × (eighths * bound ≤ 8 * bytes)

-- the bytes that may be redone over the pages that are known
abbrev pub redo_bytes : Upkeep → ℕ
redo_bytes u = bytes_over u.bounds.redo.bytes u.bounds.redo.grows u.pages

-- and the bytes that the log may get
abbrev pub log_bytes : Upkeep → ℕ
log_bytes u = length_over u.bounds.log.bytes u.bounds.log.grows u.pages

module _ {D : Type 0} (d : Ghosts D) where
  -- So many eighths of what may be redone are reached.
  abbrev pub IsRedoLong : ℕ → Upkeep → Engine D d → Type 0
  IsRedoLong eighths u e = HasEighths eighths (redo_bytes u) (redo_length u.from (durable_end_of d e) (dirty_of d e))

  -- So many eighths of the log's bound are reached.
  abbrev pub IsLogLong : ℕ → Upkeep → Engine D d → Type 0
  IsLogLong eighths u e = HasEighths eighths (log_bytes u) (log_length_of d e)

  -- A Switch is due: nothing is active, and the log has seven eighths of its bound, or half of it where a Checkpoint is due; or the other log is one of the first format.
  pub record IsSwitchDue (u : Upkeep) (e : Engine D d) : Type 0 where
    pub idle : active_of d e ≡ 0
    pub long : IsLogLong 7 u e ⊎ (IsRedoLong 7 u e × IsLogLong 4 u e) ⊎ ((u.is_upgraded ≡ true) × (1 ≤ log_bytes u))

  -- The log is as long as its bound, and a transaction is active.
  pub record IsHeldUp (u : Upkeep) (e : Engine D d) : Type 0 where
    pub active : 1 ≤ active_of d e
    pub long : IsLogLong 8 u e

  -- what is due: a Switch goes before a Checkpoint
  abbrev pub IsDue : Upkeep → Engine D d → Due → Type 0
  IsDue u e due.Switch = IsSwitchDue u e
  IsDue u e due.Checkpoint = (IsSwitchDue u e → ⊥) × IsRedoLong 7 u e
  IsDue u e due.Nothing = (IsSwitchDue u e → ⊥) × (IsRedoLong 7 u e → ⊥)

  -- This step was made, and was not refused.
  pub record IsTaken (step : Step) (old new : Engine D d) : Type 0 where
    pub reply : Reply
    pub made : IsStep d step reply old new
    pub taken : (fault : Fault) → reply ≡ Refused fault → ⊥

  -- The engine wrote pages, one after another, and none was refused.
  pub data IsWritten (old : Engine D d) : Engine D d → Type 0 where
    none : IsWritten old old
    more : (mid new : Engine D d) (page : ℕ) → IsWritten old mid → IsTaken (FlushPage page) mid new → IsWritten old new

  -- So it was as the last one, after writes of pages.
  pub record MadeLast (step : Step) (old new : Engine D d) : Type 0 where
    pub mid : Engine D d
    pub written : IsWritten old mid
    pub taken : IsTaken step mid new

  -- After other steps of upkeep one was refused so.
  pub record WasRefused (old new : Engine D d) (fault : Fault) : Type 0 where
    pub mid : Engine D d
    pub step : Step
    pub before : IsKeptUp d old mid
    pub service : is_service (asked_by step) ≡ true
    pub made : IsStep d step (Refused fault) mid new

  -- A page had the oldest change of all, at some moment of upkeep.
  pub record HadOldest (old : Engine D d) (page : ℕ) : Type 0 where
    pub mid : Engine D d
    pub before : IsKeptUp d old mid
    pub change : DirtyPage
    pub first : oldest mid.writer.table ≡ Some change
    pub is : change.page ≡ page

  -- The pages that the file is known to have are as many as before, or more, by a page that had the oldest change.
  abbrev pub KnowsPages : Engine D d → ℕ → ℕ → Type 0
  KnowsPages old known pages = (pages ≡ known) ⊎ ((known ≤ pages) × (page : ℕ) × HadOldest old page × (pages ≡ min (page + 1) (2 ^ 32 - 1)))

  -- What is due was made, where the engine works.
  pub record IsByRule (u : Upkeep) (old new : Engine D d) : Type 0 where
    pub failed : old.failed ≡ true → new ≡ old
    pub switched : old.failed ≡ false → IsDue u old due.Switch → IsTaken Switch old new
    pub taken : old.failed ≡ false → IsDue u old due.Checkpoint → MadeLast Checkpoint old new
    pub nothing : old.failed ≡ false → IsDue u old due.Nothing → IsWritten old new

  -- A log's file may have more bytes than a close leaves: one had at the opening, or the log has 48 KiB, or so much was logged since, counted with the full copies that the log may get of pages.
  abbrev pub MayBeLong : Upkeep → Engine D d → Type 0
  MayBeLong u e = (u.is_long ≡ true) ⊎ (49152 ≤ log_length_of d e) ⊎ (49152 ≤ redo_length u.begun (durable_end_of d e) (dirty_of d e))

  -- At the end a log that has a bound is then left for an empty one, where nothing is active: if it has a record, or the one that was left before may begin with no batch.
  pub record IsLongAtEnd (u : Upkeep) (e : Engine D d) : Type 0 where
    pub idle : active_of d e ≡ 0
    pub bounded : 1 ≤ u.bounds.log.bytes
    pub uncut : (u.is_bare ≡ true) ⊎ (47 < log_length_of d e)
    pub long : MayBeLong u e

  -- The log went on in the other file last.
  pub record WentOn (old new : Engine D d) : Type 0 where
    pub mid : Engine D d
    pub before : IsKeptUp d old mid
    pub taken : IsTaken Switch mid new

  -- The log was forced, so that no Commit waits, and then a long one left for an empty one: where nothing is active a log that has a bound has less than 48 KiB, or it went on in the other file last.
  pub record WasForced (u : Upkeep) (old new : Engine D d) : Type 0 where
    pub mid : Engine D d
    pub forced : IsTaken Force old mid
    pub kept : IsKeptUp d mid new
    pub switched : IsLongAtEnd u mid → WentOn mid new
    pub short : 1 ≤ u.bounds.log.bytes → active_of d new ≡ 0 → (log_length_of d new < 49152) ⊎ WentOn mid new

  -- What the end wants was made, where the engine works, whatever the bounds are.
  pub record IsEnded (u : Upkeep) (old new : Engine D d) : Type 0 where
    pub failed : old.failed ≡ true → new ≡ old
    pub forced : old.failed ≡ false → WasForced u old new
