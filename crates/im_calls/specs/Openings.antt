-- What an opening of a store asks, and what it is told.
use Rattle.std.specs.Prelude.{◌≡◌, ◌⊎◌, ◌<◌, ◌≤◌, ◌-◌, ◌^◌, ◌↔◌, false, true, Option, None, Some, Ok}
use Rattle.im_base_types.specs.declared.fault.Fault.{Fault}
use Rattle.im_base_types.specs.declared.fault.Fault.TheVariants.{Capacity, Device, LogFull, Memory, NotAStore, PoolSize}
use Rattle.im_base_types.specs.Faults.{number_of}
use Rattle.im_base_disk.specs.declared.disk.Disk.{Ghosts}
use Rattle.im_engine.specs.declared.config.Config.{Config}
use Rattle.im_store.specs.LogBound.{least_or_none}
use Rattle.im_store.specs.declared.bounds.Bounds.{Bounds}
use Rattle.im_store.specs.Stores.{IsOpenedStore}
use Rattle.im_store.specs.declared.open_store.OpenStore.{OpenStore}
use Rattle.im_calls.specs.declared.opening.Opening.{Opening}
use Rattle.im_calls.specs.declared.opened.Opened.{Opened}

-- all but the answer stays
abbrev pub AsksTheSame : (old new : Opening) → Type 0
AsksTheSame old new = new ≡ record old { fault = new.fault }

-- Why no store is opened. `Capacity` where more pages are asked for than have numbers; and else `PoolSize` just where the frames are too few or too many, or those that are asked more. Beside these it is what the engine's opening is refused for.
pub record RefusesOpening (asked : Opening) (fault : Fault) : Type 0 where
  pub pages : 2 ^ 32 ≤ asked.max_pages → fault ≡ Capacity
  pub frames : asked.max_pages < 2 ^ 32 → ((fault ≡ PoolSize) ↔ ((asked.frames < 8) ⊎ (1024 < asked.frames) ⊎ (261120 < asked.more)))
  pub any : (fault ≡ PoolSize) ⊎ (fault ≡ Memory) ⊎ (fault ≡ Device) ⊎ (fault ≡ NotAStore) ⊎ (fault ≡ LogFull) ⊎ (fault ≡ Capacity)

-- The bounds are those that an opening asks: so many bytes to redo, and to read. (The greatest number asks the usual ones, of which nothing is said.)
pub record HasBounds (asked : Opening) (b : Bounds) : Type 0 where
  pub redo : asked.redo_bytes < 2 ^ 64 - 1 → (b.redo.bytes ≡ asked.redo_bytes) × (b.redo.grows ≡ false)
  pub log : asked.log_bytes < 2 ^ 64 - 1 → (b.log.bytes ≡ least_or_none asked.log_bytes) × (b.log.grows ≡ false)

-- A store is what its opening leaves, with the limits and the bounds that are asked, and dense splits.
pub record IsOpenedOn {D : Type 0} (d : Ghosts D) (asked : Opening) (disk : D) (s : OpenStore D d) : Type 0 where
  pub config : Config
  pub frames : config.frames ≡ asked.frames
  pub more : config.more.frames ≡ asked.more
  pub max_pages : config.max_pages ≡ asked.max_pages
  pub group : (config.group ≡ true) ↔ (asked.group ≡ 1)
  pub workers : config.workers ≡ 1
  pub dense : config.dense ≡ true
  pub bounds : Bounds
  pub bounded : HasBounds asked bounds
  pub opened : IsOpenedStore d config bounds disk (Ok s)

module _ {D : Type 0} (d : Ghosts D) (asked told : Opening) where
  -- What comes of an opening of the store of a disk: the store as its own opening leaves it, or why there is none.
  abbrev pub IsOpening : D → Option (Opened D d) → Type 0
  IsOpening disk None = (fault : Fault) × (told.fault ≡ number_of fault) × RefusesOpening asked fault
  IsOpening disk (Some opened) = (told.fault ≡ 0) × IsOpenedOn d asked disk opened.store

  -- And of one over the descriptors that are asked, whose files are these: a number that no descriptor has is answered as a device that fails.
  pub record IsOpeningOver (Is : D → Type 0) (result : Option (Opened D d)) : Type 0 where
    pub none : (2 ^ 31 ≤ asked.ask) ⊎ (2 ^ 31 ≤ asked.answer) → (told.fault ≡ 8) × (result ≡ None)
    pub opening : asked.ask < 2 ^ 31 → asked.answer < 2 ^ 31 → (disk : D) × Is disk × IsOpening disk result
