-- What becomes of a store that is open: of its engine, and of its upkeep.
use Rattle.std.specs.Prelude.{◌≡◌, ◌⊎◌, ◌↔◌, ◌<◌, ◌≤◌, Bool, true, false, None, Result, Ok, Err, IfOk, IfErr, IfSome, OnOk}
use Rattle.std.specs.Result.{IsErrAnd}
use Rattle.im_base_types.specs.declared.fault.Fault.{Fault}
use Rattle.im_base_types.specs.declared.fault.Fault.TheVariants.{Capacity, Device, Failed, LogFull, Memory, NotAStore, PoolSize, Workers}
use Rattle.im_base_disk.specs.Disk.{Files}
use Rattle.im_base_disk.specs.declared.disk.Disk.{Ghosts}
use Rattle.im_base_disk.specs.Runs.{IsSynced, LeavesOnly, Reads}
use Rattle.im_base_steps.specs.declared.step.Step.{Step}
use Rattle.im_base_steps.specs.declared.reply.Reply.{Reply}
use Rattle.im_base_steps.specs.declared.reply.Reply.TheVariants.{Inserted, Deleted, Committed, RolledBack, More, Done}
use Rattle.im_engine.specs.declared.config.Config.{Config}
use Rattle.im_engine.specs.declared.engine.Engine.{Engine}
use Rattle.im_engine.specs.Opening.{IsOpening}
use Rattle.im_engine.specs.Told.{IsStep}
use Rattle.im_store.specs.declared.bounds.Bounds.{Bounds}
use Rattle.im_store.specs.declared.upkeep.Upkeep.{Upkeep}
use Rattle.im_log_choice.specs.Found.{HasFirst}
use Rattle.im_store.specs.LogFiles.{HasLong}
use Rattle.im_store.specs.Noted.{IsNoted, fresh, noted}
use Rattle.im_store.specs.Numbers.{durable_end_of, log_length_of}
use Rattle.im_store.specs.Rule.{IsByRule, IsDue, IsEnded, KnowsPages, WasRefused}
use Rattle.im_store.specs.Upkeep.{IsKeptUp}
use Rattle.im_store.specs.declared.open_store.OpenStore.{OpenStore}

-- a reply after which the log may have grown, or a transaction has ended, so that something may be due
abbrev pub follows : Reply → Bool
follows Inserted = true
follows Deleted = true
follows Committed = true
follows RolledBack = true
follows More = true
follows Done = true
follows _ = false

-- frames and workers that an opening takes
abbrev pub AreRight : Config → Type 0
AreRight config = ((8 ≤ config.frames) × (config.frames ≤ 1024)) × ((1 ≤ config.workers) × (config.workers ≤ 16))

module _ {D : Type 0} (d : Ghosts D) where
  -- what the engine's own opening answered within one of a store
  abbrev pub engine_of : Result (OpenStore D d) (Fault × D) → Result (Engine D d) (Fault × D)
  engine_of (Ok store) = Ok store.engine
  engine_of (Err x) = Err x

  -- the disk that an opening leaves
  abbrev pub disk_of : Result (OpenStore D d) (Fault × D) → D
  disk_of (Ok store) = store.engine.disk
  disk_of (Err x) = x.1

  -- It is what the engine's own opening answers, over a disk that was only read before, to see how long the logs' files are; where frames or workers are refused it was not even read.
  pub record IsByEngine (config : Config) (old : D) (result : Result (Engine D d) (Fault × D)) : Type 0 where
    pub read : D
    pub reads : Reads d old read
    pub still : (AreRight config → ⊥) → read ≡ old
    pub opening : IsOpening d config read result

  -- That look was refused: the disk has failed, and was only read.
  pub record IsLookRefused (config : Config) (old : D) (result : Result (OpenStore D d) (Fault × D)) : Type 0 where
    pub disk : D
    pub right : AreRight config
    pub reads : Reads d old disk
    pub fails : d.failed disk ≡ true
    pub is : result ≡ Err (Device, disk)

  -- What an opening answers: a store with these bounds, whose engine is what the engine's own opening leaves, and whose upkeep is that of a store that was just opened; it replaces a log of the first format just where the files had one, and knows just then of a long log that one was. Or the disk, and why there is none: the frames just where they are too few or too many,
  -- after that the workers just where those are, and with both no call was made; the disk just where that has failed.
  pub record IsOpenedStore (config : Config) (bounds : Bounds) (old : D) (result : Result (OpenStore D d) (Fault × D)) : Type 0 where
    pub opening : IsByEngine config old (engine_of result) ⊎ IsLookRefused config old result
    pub upkeep : IfOk result (λ s. s.upkeep ≡ record (fresh d bounds s.engine) { is_upgraded = s.upkeep.is_upgraded; is_long = s.upkeep.is_long; is_bare = s.upkeep.is_bare })
    pub first : IfOk result (λ s. d.tells → (s.upkeep.is_upgraded ≡ true) ↔ HasFirst (d.seen old))
    pub long : IfOk result (λ s. d.tells → (s.upkeep.is_long ≡ true) ↔ HasLong (d.seen old))
    pub unkept : IfOk result (λ s. s.unkept ≡ None)
    pub opened : IfOk result (λ s. (read : D) × Reads d old read × IsOpening d config read (Ok s.engine))
    pub frames : IsErrAnd result (λ x. x.0 ≡ PoolSize) ↔ ((config.frames < 8) ⊎ (1024 < config.frames))
    pub workers : IsErrAnd result (λ x. x.0 ≡ Workers) ↔ ((8 ≤ config.frames) × (config.frames ≤ 1024)) × ((config.workers < 1) ⊎ (16 < config.workers))
    pub untouched : IfErr result (λ x. (x.0 ≡ PoolSize) ⊎ (x.0 ≡ Workers) → x.1 ≡ old)
    pub device : IsErrAnd result (λ x. x.0 ≡ Device) ↔ (d.failed (disk_of result) ≡ true)
    pub causes : IfErr result (λ x. (x.0 ≡ PoolSize) ⊎ (x.0 ≡ Workers) ⊎ (x.0 ≡ Memory) ⊎ (x.0 ≡ Device) ⊎ (x.0 ≡ NotAStore) ⊎ (x.0 ≡ LogFull) ⊎ (x.0 ≡ Capacity))

  -- The limits of an opening are as they were.
  pub record SameLimits (old new : Engine D d) : Type 0 where
    pub max_pages : new.max_pages ≡ old.max_pages
    pub dense : new.dense ≡ old.dense
    pub frames : new.writer.pool.frames ≡ old.writer.pool.frames
    pub group : new.txns.group ≡ old.txns.group

  -- Upkeep that stood so was made of an engine: by the rule, or what was due was refused, which is said. Its bounds stay, and it knows no more pages than it saw, and a redo point and a log of the first format by the steps that it made.
  pub record WasKept (u : Upkeep) (old : Engine D d) (new : OpenStore D d) : Type 0 where
    pub kept : IsKeptUp d old new.engine
    pub rule : new.unkept ≡ None → IsByRule d u old new.engine
    pub refused : IfSome new.unkept (λ x. IsDue d u old x.due × WasRefused d old new.engine x.fault)
    pub bounds : new.upkeep.bounds ≡ u.bounds
    pub pages : KnowsPages d old u.pages new.upkeep.pages
    pub noted : IsNoted d u old new.engine new.upkeep

  -- The engine made the step, and answered so, and the upkeep noted it. Where something may be due after it upkeep followed; and else the store is as the step left it.
  pub record IsStepKept (step : Step) (reply : Reply) (old new : OpenStore D d) : Type 0 where
    pub between : Engine D d
    pub made : IsStep d step reply old.engine between
    pub kept : IsKeptUp d between new.engine
    pub follow : follows reply ≡ true → WasKept (noted d step reply (durable_end_of d old.engine) (log_length_of d old.engine) between old.upkeep) between new
    pub still : follows reply ≡ false → (new.engine ≡ between) × (new.upkeep ≡ old.upkeep) × (new.unkept ≡ None)
    pub bounds : new.upkeep.bounds ≡ old.upkeep.bounds
    pub limits : SameLimits old.engine new.engine

  -- What was due was made, and then what the end wants.
  pub record WasEnded (old : OpenStore D d) (last : Engine D d) : Type 0 where
    pub mid : Engine D d
    pub u : Upkeep
    pub rule : IsByRule d old.upkeep old.engine mid
    pub bounds : u.bounds ≡ old.upkeep.bounds
    pub pages : KnowsPages d old.engine old.upkeep.pages u.pages
    pub noted : IsNoted d old.upkeep old.engine mid u
    pub ended : IsEnded d u mid last

  -- How a store ends: upkeep led its engine so far, and the files read as that left them; a stop since then leaves what one at that moment may leave. Where the end is Ok all that is due and that the end wants was made, by an engine that works, and the files are on the disk. It is refused as a step of upkeep was, `Failed` where the engine had failed, for which no call is
  -- made then, or `Device` where the disk has failed.
  pub record IsEnd (old : OpenStore D d) (result : Result Unit Fault) (left : D) : Type 0 where
    pub last : Engine D d
    pub kept : IsKeptUp d old.engine last
    pub seen : d.seen left ≡ d.seen last.disk
    pub outcomes : (c : Files) → d.may_leave left c → d.may_leave last.disk c
    pub stops : LeavesOnly d last.disk left (d.may_leave last.disk)
    pub made : OnOk result (WasEnded old last)
    pub synced : OnOk result ((last.failed ≡ false) × IsSynced d left × (d.failed left ≡ false))
    pub broken : old.engine.failed ≡ true → (result ≡ Err Failed) × (left ≡ old.engine.disk)
    pub causes : IfErr result (λ e. WasRefused d old.engine last e ⊎ ((e ≡ Failed) × (last.failed ≡ true)) ⊎ ((e ≡ Device) × (d.failed left ≡ true)))
