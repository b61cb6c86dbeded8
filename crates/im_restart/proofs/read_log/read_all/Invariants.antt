use Rattle.std.proofs.Common.{◌≡◌, ◌-◌, ◌≤◌, ◌^◌, ℕ, false, []}
use Rattle.im_base_types.specs.declared.file_id.FileId.TheVariants.{Log}
use Rattle.im_theory_log.specs.Histories.{History}
use Rattle.im_base_disk.specs.Runs.{Reads}
use Rattle.im_log.specs.Opening.{IsBegun, IsOpening, HasRead, position_of}
use Rattle.im_log_gate.specs.Header.{least_number}
use Rattle.im_restart_analysis.specs.Analysis.{IsAnalysed}
use Rattle.im_restart_analysis.specs.Changes.{AreChanges}
use Rattle.im_restart_analysis.specs.Orderly.{IsOrderly, IsReadable, Knows}
use Rattle.im_restart.specs.Restart.{AreTaken}
use Rattle.im_restart.proofs.read_log.read_all.Given as goal

abbrev pub invariant-loop-changes : goal.invariant-loop-changes
invariant-loop-changes g l = record {
  begun : IsBegun g.D.Disk l.opening l.disk;
  reads : Reads g.D.Disk l.fn.disk l.disk;
  working : l.opening.failed ≡ false;
  whole : l.fn.drops ≡ false → l.changes.start ≡ 0;
  kept : (base : ℕ) (all : History) → IsOpening g.D.Disk base all [] l.fn.opening l.fn.disk → AreTaken l.fn.pages all → l.fn.least ≡ least_number (g.D.Disk.seen l.fn.disk Log) → 1 ≤ l.fn.least
      → (older : History) × IsOpening g.D.Disk base all older l.opening l.disk × IsAnalysed l.fn.least l.fn.pages older l.analysis × AreChanges older l.changes;
  back : (base : ℕ) → HasRead g.D.Disk base [] l.fn.opening l.fn.disk
      → (older : History) × HasRead g.D.Disk base older l.opening l.disk × (IsReadable older → IsOrderly l.fn.pages older × Knows l.fn.pages older l.analysis);
}

abbrev pub decreases-loop-changes : goal.decreases-loop-changes
decreases-loop-changes g l = 2 ^ 62 - position_of l.opening
