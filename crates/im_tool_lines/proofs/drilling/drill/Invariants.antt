use Rattle.std.proofs.Common.{◌≡◌, List, ℕ, false, take}
use Rattle.im_base_model_disk.specs.contracts.model_disk.ModelDiskDisk.TheImpl.{ghosts}
use Rattle.im_base_disk.specs.Disk.{three}
use Rattle.im_base_disk.specs.Runs.{IsSynced}
use Rattle.im_tool_lines.specs.Lives.{StandsFor, RawLives}
use Rattle.im_tool_lines.specs.Answered.{EachAnswered, AreRawStores}
use Rattle.im_tool_lines.specs.RawRuns.{AreRawLivesRun}
use Rattle.im_tool_lines.proofs.drilling.drill.Given as goal

-- the lives so far, and what the last of them has left
abbrev pub invariant-loop-life : goal.invariant-loop-life
invariant-loop-life l = record {
  working : ghosts.failed l.disk ≡ false;
  synced : IsSynced ghosts l.disk;
  run : AreRawLivesRun ghosts (take l.life-index l.script.lives.items) l.lives.items l.initial.disk l.disk;
  answered : EachAnswered (take l.life-index l.script.lives.items) l.lives.items;
  stores : (before : List (List ℕ)) → StandsFor (three l.script.log.items l.script.pages.items l.script.log2.items) before → AreRawStores l.lives.items;
  kept : (before : List (List ℕ)) → StandsFor (three l.script.log.items l.script.pages.items l.script.log2.items) before → (mid : List (List ℕ)) × StandsFor (ghosts.seen l.disk) mid × RawLives (take l.life-index l.script.lives.items) l.lives.items before mid;
}
