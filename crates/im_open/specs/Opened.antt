-- What the store of a folder is when it was opened.
use Rattle.std.specs.Prelude.{◌≡◌, false, true, Ok}
use Rattle.im_base_disk.specs.declared.disk.Disk.{Ghosts}
use Rattle.im_engine.specs.declared.config.Config.{Config}
use Rattle.im_engine.specs.declared.engine.Engine.{Engine}
use Rattle.im_store.specs.Rule.{IsByRule}
use Rattle.im_store.specs.declared.bounds.Bounds.{Bounds}
use Rattle.im_store.specs.Stores.{IsOpenedStore}
use Rattle.im_store.specs.declared.open_store.OpenStore.{OpenStore}

-- The bounds that nobody names: 16 MiB to be redone and 64 MiB to be read, or more where the file of pages is long.
pub record AreUsual (b : Bounds) : Type 0 where
  pub redo : b.redo.bytes ≡ 16777216
  pub redo_grows : b.redo.grows ≡ true
  pub log : b.log.bytes ≡ 67108864
  pub log_grows : b.log.grows ≡ true

module _ {D : Type 0} (d : Ghosts D) (from : D → Type 0) where
  -- It was opened as any store is, over a disk that worked and came from there, with no call between.
  pub record IsOpenedHere (config : Config) (bounds : Bounds) (s : OpenStore D d) : Type 0 where
    pub disk : D
    pub handed : from disk
    pub works : d.failed disk ≡ false
    pub opened : IsOpenedStore d config bounds disk (Ok s)

  -- An engine of such a store with the usual bounds, of which all that was due was made.
  pub record IsKeptHere (config : Config) (e : Engine D d) : Type 0 where
    pub bounds : Bounds
    pub usual : AreUsual bounds
    pub s : OpenStore D d
    pub opened : IsOpenedHere config bounds s
    pub kept : IsByRule d s.upkeep s.engine e
