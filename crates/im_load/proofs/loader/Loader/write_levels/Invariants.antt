use Rattle.std.proofs.Common.{◌≡◌, ℕ, suc, false, List, length}
use Rattle.im_base_types.specs.Pages.{Entry}
use Rattle.im_base_types.specs.declared.file_id.FileId.TheVariants.{Pages}
use Rattle.im_load.specs.Goings.{WritesPages}
use Rattle.im_load.specs.Loading.{HasWritten, HasTakenAll}
use Rattle.im_load.proofs.loader.Loader.write_levels.Given as goal

abbrev pub invariant-loop-i : goal.invariant-loop-i
invariant-loop-i g l = record {
  working : g.D.Disk.failed l.disk ≡ false;
  written : (file : List ℕ) (es : List Entry) (t : HasTakenAll l.self.leaf l.self.above.items l.self.count g.D.Disk.tells file es)
      → (g.D.Disk.tells → HasWritten t.pages t.at 1 (length l.self.above.items) l.self.count (g.D.Disk.seen l.fn.disk Pages)) → g.D.Disk.tells
      → HasWritten t.pages t.at (suc l.i) (length l.self.above.items) l.self.count (g.D.Disk.seen l.disk Pages);
  run : WritesPages g.D.Disk l.fn.disk l.disk;
}
