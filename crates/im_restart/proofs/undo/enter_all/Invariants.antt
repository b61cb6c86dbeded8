use Rattle.std.proofs.Common.{ℕ, ◌≡◌, [], None, length}
use Rattle.im_theory_log.specs.Histories.{Base, History}
use Rattle.im_theory_log.specs.Writer.{Writer}
use Rattle.im_page_writer.specs.Outcome.{mild}
use Rattle.im_page_writer.specs.PageWriter.{StandsAs}
use Rattle.im_restart_redo.specs.Recovery.{Recovers}
use Rattle.im_restart_analysis.specs.Losers.{AreLosers}
use Rattle.im_restart.specs.LoserChains.{AreChains, HasOnlyLosers}
use Rattle.im_restart.specs.Undoing.{IsUndoing, UndoGoes}
use Rattle.im_restart.proofs.Losers.{waiting}
use Rattle.im_restart.proofs.undo.enter_all.Given as goal

abbrev pub invariant-loop-transaction : goal.invariant-loop-transaction
invariant-loop-transaction g l = record {
  none : l.fn.losers.entries ≡ [] → (l.losers.entries ≡ []) × (l.writer ≡ l.fn.writer) × (l.chains ≡ l.fn.chains) × (l.disk ≡ l.fn.disk);
  outcome : Recovers g.D.Disk mild l.fn.writer l.writer l.disk None;
  kept : (b : Base) (base : ℕ) (all : History) (s : Writer) → StandsAs g.D.Disk b base s l.fn.writer l.fn.disk → IsUndoing b all s → AreLosers l.fn.losers s.log
      → (now : Writer) × UndoGoes g.D.Disk b base all s l.fn.disk now l.writer l.disk × AreChains (waiting l.losers) l.chains now.log × HasOnlyLosers l.losers now.log;
}

abbrev pub decreases-loop-transaction : goal.decreases-loop-transaction
decreases-loop-transaction g l = length l.losers.entries
