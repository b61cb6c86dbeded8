use Rattle.std.proofs.Common.{◌≡◌, List, false, take}
use Rattle.im_base_types.specs.Changes.{Effect}
use Rattle.im_base_types.specs.Lives.{Lives}
use Rattle.im_base_model_disk.specs.contracts.model_disk.ModelDiskDisk.TheImpl.{ghosts}
use Rattle.im_base_disk.specs.Disk.{three}
use Rattle.im_base_disk.specs.Runs.{IsSynced}
use Rattle.im_engine.specs.Stands.{StandsFor}
use Rattle.im_tool_lines.specs.StoreShown.{asked_in_each, EachStoreAnswered, AreStores}
use Rattle.im_tool_drill.specs.StoreRuns.{AreLivesRun}
use Rattle.im_tool_drill.proofs.NamedDisk.{named_ghosts}
use Rattle.im_tool_drill.proofs.store_drilling.drill_store.Given as goal

-- the lives so far, and what the last of them has left
abbrev pub invariant-loop-life : goal.invariant-loop-life
invariant-loop-life g l = record {
  working : ghosts.failed l.disk ≡ false;
  synced : IsSynced ghosts l.disk;
  run : AreLivesRun ghosts named_ghosts (take l.life-index l.script.lives.items) l.lives.items l.initial.disk l.disk;
  answered : EachStoreAnswered (take l.life-index l.script.lives.items) l.lives.items;
  kept : (before : List Effect) → StandsFor before (three l.script.log.items l.script.pages.items l.script.log2.items)
      → (mid : List Effect) × StandsFor mid (ghosts.seen l.disk) × Lives before (asked_in_each (take l.life-index l.script.lives.items) l.lives.items) mid;
  stores : (before : List Effect) → StandsFor before (three l.script.log.items l.script.pages.items l.script.log2.items) → AreStores l.lives.items;
}
