use Rattle.std.proofs.Common.{◌≡◌, false, []}
use Rattle.im_load.specs.HasTaken.{IsLoading}
use Rattle.im_tool.specs.RisingKeys.{HasRisen}
use Rattle.im_tool.proofs.rising.take_all.Given as goal

abbrev pub invariant-loop-count : goal.invariant-loop-count
invariant-loop-count g l = record {
  working : g.D.Disk.failed l.disk ≡ false;
  risen : (from : g.row.D.Denot) → IsLoading g.D.Disk from l.fn.loader l.fn.disk [] → HasRisen g.D.Disk from l.loader l.disk l.count;
}
