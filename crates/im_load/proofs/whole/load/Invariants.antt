use Rattle.std.proofs.Common.{◌≡◌, false, take}
use Rattle.im_load.specs.HasTaken.{IsLoading}
use Rattle.im_load.proofs.whole.load.Given as goal

abbrev pub invariant-loop-key : goal.invariant-loop-key
invariant-loop-key g l = record {
  working : g.D.Disk.failed l.disk ≡ false;
  loading : IsLoading g.D.Disk l.fn.disk l.loader l.disk (take l.key-index l.entries);
}
