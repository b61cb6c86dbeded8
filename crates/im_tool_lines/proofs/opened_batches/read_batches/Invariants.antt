use Rattle.std.proofs.Common.{◌≡◌, false, map}
use Rattle.im_base_disk.specs.Runs.{Reads}
use Rattle.im_log_gate.specs.Batches.{in_front}
use Rattle.im_log_gate.specs.Gate.{IsReading, InOneFile, unread, has_failed}
use Rattle.im_tool_lines.proofs.opened_batches.read_batches.Given as goal

-- the batches so far stand in front of those that are left
abbrev pub invariant-loop-count : goal.invariant-loop-count
invariant-loop-count g l = record {
  reading : IsReading g.D.Disk l.gate l.disk;
  usable : has_failed l.gate ≡ false;
  same : InOneFile l.fn.gate l.gate;
  reads : Reads g.D.Disk l.fn.disk l.disk;
  found : g.D.Disk.tells → unread g.D.Disk l.fn.gate l.fn.disk ≡ in_front (map (λ batch. batch.items) l.batches.items) (unread g.D.Disk l.gate l.disk);
}
