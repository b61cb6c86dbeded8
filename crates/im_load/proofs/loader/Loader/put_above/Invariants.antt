use Rattle.std.proofs.Common.{◌≡◌, false, List, length}
use Rattle.im_base_types.specs.Pages.{Entry}
use Rattle.im_load.specs.Goings.{WritesPages}
use Rattle.im_load.specs.HasTaken.{HasPending}
use Rattle.im_load.proofs.loader.Loader.put_above.Given as goal

abbrev pub invariant-loop-i : goal.invariant-loop-i
invariant-loop-i g l = record {
  working : g.D.Disk.failed l.disk ≡ false;
  long : length l.self.above.items ≡ l.len;
  pending : (es : List Entry) → HasPending g.D.Disk l.fn.self l.fn.disk es 0 l.fn.key l.fn.child → HasPending g.D.Disk l.self l.disk es l.i l.fn.key l.child;
  run : WritesPages g.D.Disk l.fn.disk l.disk;
}
