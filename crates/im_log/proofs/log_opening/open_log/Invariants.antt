use Rattle.std.proofs.Common.{◌≡◌, ◌-◌, ◌^◌, ℕ, false, List}
use Rattle.im_base_types.specs.declared.file_id.FileId.TheVariants.{Log}
use Rattle.im_base_types.specs.Records.{Logged}
use Rattle.im_base_disk.specs.Runs.{Reads}
use Rattle.im_log_gate.specs.Gate.{base_at}
use Rattle.im_log_gate.specs.Header.{base_of, IsMade}
use Rattle.im_log.specs.Kept.{HasLog}
use Rattle.im_log.specs.Opening.{IsBegun, IsOpening, HasRead, position_of}
use Rattle.im_log.proofs.log_opening.open_log.Given as goal

abbrev pub invariant-loop-opening : goal.invariant-loop-opening
invariant-loop-opening g l = record {
  begun : IsBegun g.D.Disk l.opening l.disk;
  reads : Reads g.D.Disk l.fn.disk l.disk;
  working : l.opening.failed ≡ false;
  based : l.opening.base ≡ base_at l.fn.gate;
  reading : (base : ℕ) (all : List Logged) → g.D.Disk.tells → HasLog base all (g.D.Disk.seen l.fn.disk Log) → (older : List Logged) × IsOpening g.D.Disk base all older l.opening l.disk;
  back : g.D.Disk.tells → IsMade (g.D.Disk.seen l.fn.disk Log) → (older : List Logged) × HasRead g.D.Disk (base_of (g.D.Disk.seen l.fn.disk Log)) older l.opening l.disk;
}

abbrev pub decreases-loop-opening : goal.decreases-loop-opening
decreases-loop-opening g l = 2 ^ 62 - position_of l.opening
