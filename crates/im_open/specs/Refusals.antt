-- Why a store was not opened.
use Rattle.std.specs.Prelude.{◌≡◌, ◌<◌, ◌≤◌, ◌⊎◌, ◌↔◌, false, Err}
use Rattle.im_files_disk.specs.RealFiles.{fault_of_opening}
use Rattle.im_files_disk.specs.declared.open_error.OpenError.{OpenError}
use Rattle.im_base_types.specs.declared.fault.Fault.{Fault}
use Rattle.im_base_types.specs.declared.fault.Fault.TheVariants.{Capacity, Device, LogFull, Memory, NotAStore, PoolSize, Workers}
use Rattle.im_base_disk.specs.declared.disk.Disk.{Ghosts}
use Rattle.im_engine.specs.declared.config.Config.{Config}
use Rattle.im_engine.specs.declared.engine.Engine.{Engine}
use Rattle.im_store.specs.Rule.{IsDue, WasRefused}
use Rattle.im_store.specs.Stores.{IsOpenedStore}
use Rattle.im_store.specs.declared.bounds.Bounds.{Bounds}
use Rattle.im_store.specs.declared.due.Due.{Due}
use Rattle.im_store.specs.declared.open_store.OpenStore.{OpenStore}
use Rattle.im_open.specs.Opened.{AreUsual, IsOpenedHere}
use Rattle.im_open.specs.declared.not_opened.NotOpened.{NotOpened}
use Rattle.im_open.specs.declared.not_opened.NotOpened.TheVariants.{Files, Store, Upkeep}

-- One of the causes of an opening: the number of frames just where they are too few or too many, and after that the number of workers just where they are.
pub record IsCause (config : Config) (fault : Fault) : Type 0 where
  pub frames : (fault ≡ PoolSize) ↔ ((config.frames < 8) ⊎ (1024 < config.frames))
  pub workers : (fault ≡ Workers) ↔ ((8 ≤ config.frames) × (config.frames ≤ 1024)) × ((config.workers < 1) ⊎ (16 < config.workers))
  pub any : (fault ≡ PoolSize) ⊎ (fault ≡ Workers) ⊎ (fault ≡ Memory) ⊎ (fault ≡ Device) ⊎ (fault ≡ NotAStore) ⊎ (fault ≡ LogFull) ⊎ (fault ≡ Capacity)

module _ {D : Type 0} (d : Ghosts D) (from : D → Type 0) (refuses : OpenError → Type 0) where
  -- The store over a disk from there was refused so, for such a cause.
  pub record IsStoreRefused (config : Config) (bounds : Bounds) (fault : Fault) : Type 0 where
    pub disk : D
    pub handed : from disk
    pub works : d.failed disk ≡ false
    pub left : D
    pub refused : IsOpenedStore d config bounds disk (Err (fault, left))
    pub cause : IsCause config fault

  -- The folder refused its files so, or their store was.
  abbrev pub IsOpenRefusal : Config → Bounds → NotOpened → Type 0
  IsOpenRefusal config bounds (Files error) = refuses error
  IsOpenRefusal config bounds (Store fault) = IsStoreRefused config bounds fault
  IsOpenRefusal config bounds (Upkeep fault) = ⊥

  -- A store was opened from there with these bounds, and what was due of it then was refused so.
  pub record IsUpkeepRefused (config : Config) (bounds : Bounds) (fault : Fault) : Type 0 where
    pub s : OpenStore D d
    pub opened : IsOpenedHere d from config bounds s
    pub due : Due
    pub is : IsDue d s.upkeep s.engine due
    pub left : Engine D d
    pub refused : WasRefused d s.engine left fault

  -- The same of an opening with bounds, after which what is due is made.
  abbrev pub IsKeptRefusal : Config → Bounds → NotOpened → Type 0
  IsKeptRefusal config bounds (Upkeep fault) = IsUpkeepRefused config bounds fault
  IsKeptRefusal config bounds error = IsOpenRefusal config bounds error

  -- And with the usual bounds.
  pub record IsRefusalKept (config : Config) (error : NotOpened) : Type 0 where
    pub bounds : Bounds
    pub usual : AreUsual bounds
    pub why : IsKeptRefusal config bounds error

-- the refusal that programs print
abbrev pub fault_in : NotOpened → Fault
fault_in (Files error) = fault_of_opening error
fault_in (Store fault) = fault
fault_in (Upkeep fault) = fault
