use Rattle.std.proofs.Common.{ℕ, ◌≡◌, [], None, length}
use Rattle.im_theory_log.specs.Histories.{Base, History}
use Rattle.im_theory_log.specs.Writer.{Writer}
use Rattle.im_page_writer.specs.Outcome.{mild}
use Rattle.im_page_writer.specs.PageWriter.{StandsAs}
use Rattle.im_restart_redo.specs.Recovery.{Recovers}
use Rattle.im_restart_analysis.specs.Losers.{AreLosers}
use Rattle.im_restart_analysis.specs.OpenChange.{IsOpenChange}
use Rattle.im_restart.specs.StructureChange.{ChangeGoes, IsTakingBack}
use Rattle.im_restart.proofs.structure_change.undo_change.Given as goal

abbrev pub invariant-loop-newest : goal.invariant-loop-newest
invariant-loop-newest g l = record {
  outcome : Recovers g.D.Disk mild l.fn.writer l.writer l.disk None;
  same_room : length l.room ≡ length l.fn.room;
  none : l.fn.open_change.items ≡ [] → (l.open_change.items ≡ []) × (l.writer ≡ l.fn.writer) × (l.losers ≡ l.fn.losers) × (l.disk ≡ l.fn.disk);
  kept : (b : Base) (base : ℕ) (all : History) (s : Writer) → StandsAs g.D.Disk b base s l.fn.writer l.fn.disk → IsTakingBack b all s → IsOpenChange l.fn.open_change.items s.log → AreLosers l.fn.losers s.log
      → (now : Writer) × ChangeGoes g.D.Disk b base all s l.fn.disk now l.writer l.disk × IsOpenChange l.open_change.items now.log × AreLosers l.losers now.log;
}

abbrev pub decreases-loop-newest : goal.decreases-loop-newest
decreases-loop-newest g l = length l.open_change.items
