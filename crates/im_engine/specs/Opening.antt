-- How a store is opened.
use Rattle.std.specs.Prelude.{◌≡◌, ◌⊎◌, ◌↔◌, ◌<◌, ◌≤◌, ◌+◌, true, false, List, [], None, Result, IfOk, IfErr}
use Rattle.std.specs.Result.{IsErrAnd}
use Rattle.im_base_types.specs.declared.fault.Fault.{Fault}
use Rattle.im_base_types.specs.declared.fault.Fault.TheVariants.{Memory, Device, LogFull, NotAStore, PoolSize, Capacity, Workers}
use Rattle.im_base_types.specs.Changes.{Effect}
use Rattle.im_base_disk.specs.declared.disk.Disk.{Ghosts}
use Rattle.im_log_choice.specs.Switching.{ReadsNamed}
use Rattle.im_restart.specs.Restart.{IsFullLog}
use Rattle.im_engine.specs.declared.config.Config.{Config}
use Rattle.im_engine.specs.declared.engine.Engine.{Engine}
use Rattle.im_engine.specs.Kept.{OpenKept, disk_of}
use Rattle.im_engine.specs.Stands.{StandsFor, SpellsCurrent}

module _ {D : Type 0} (d : Ghosts D) where
  -- What an opening with these limits answers: an engine that works, with no transaction and no lock, and a pool of as many frames as the limits say in all, or the disk and why there is none. It is refused
  -- by the number of its frames just where they are too few or too many, and after that by the number of workers just where those are, by the disk just where that has failed, for want of room only where the log's file is full,
  -- and else only for want of memory or of page numbers, or because the files are no store. Where the current log's bytes are no log's it only reads.
  pub record IsOpening (config : Config) (old : D) (result : Result (Engine D d) (Fault × D)) : Type 0 where
    pub kept : (before : List Effect) → d.tells → (stands : StandsFor before (d.seen old)) → OpenKept d before old stands result
    pub plain : IfOk result (λ e. (e.stepped ≡ config.stepped) × (e.under ≡ None))
    pub opened : IfOk result (λ e. (e.failed ≡ false) × (e.txns.rows ≡ []) × (e.locks ≡ []) × (d.failed e.disk ≡ false))
    pub limit : IfOk result (λ e. e.max_pages ≡ config.max_pages)
    pub dense : IfOk result (λ e. e.dense ≡ config.dense)
    pub pool : IfOk result (λ e. e.writer.pool.frames ≡ config.frames + config.more.frames)
    pub group : IfOk result (λ e. e.txns.group ≡ config.group)
    pub spelled : IfOk result (λ _. d.tells → SpellsCurrent (d.seen old))
    pub frames : IsErrAnd result (λ x. x.0 ≡ PoolSize) ↔ ((config.frames < 8) ⊎ (1024 < config.frames))
    pub workers : IsErrAnd result (λ x. x.0 ≡ Workers) ↔ ((8 ≤ config.frames) × (config.frames ≤ 1024)) × ((config.workers < 1) ⊎ (16 < config.workers))
    pub untouched : IfErr result (λ x. (x.0 ≡ PoolSize) ⊎ (x.0 ≡ Workers) → x.1 ≡ old)
    pub device : IsErrAnd result (λ x. x.0 ≡ Device) ↔ (d.failed (disk_of d result) ≡ true)
    pub causes : IfErr result (λ x. (x.0 ≡ PoolSize) ⊎ (x.0 ≡ Workers) ⊎ (x.0 ≡ Memory) ⊎ (x.0 ≡ Device) ⊎ (x.0 ≡ NotAStore) ⊎ (x.0 ≡ LogFull) ⊎ (x.0 ≡ Capacity))
    pub full : IfErr result (λ x. x.0 ≡ LogFull → d.tells → IsFullLog (d.seen x.1))
    pub unspelled : d.tells → ¬ (SpellsCurrent (d.seen old)) → ReadsNamed d old (disk_of d result) × IfErr result (λ x. (x.0 ≡ PoolSize) ⊎ (x.0 ≡ Workers) ⊎ (x.0 ≡ Memory) ⊎ (x.0 ≡ Device) ⊎ (x.0 ≡ NotAStore))
