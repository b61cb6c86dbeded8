use Rattle.std.proofs.Common.{ℕ, ◌≡◌, ◌≤◌, [], None, length}
use Rattle.im_theory_log.specs.Histories.{Base, History}
use Rattle.im_theory_log.specs.Writer.{Writer}
use Rattle.im_smo_pages.specs.Kept.{mild_to_take}
use Rattle.im_page_writer.specs.PageWriter.{StandsAs}
use Rattle.im_restart_redo.specs.Recovery.{Recovers}
use Rattle.im_restart.specs.LoserChains.{AreChains, above, nobody}
use Rattle.im_restart.specs.Undoing.{IsUndoing, UndoGoes}
use Rattle.im_restart.proofs.undo.undo_all.Given as goal

abbrev pub invariant-loop-lsn : goal.invariant-loop-lsn
invariant-loop-lsn g l = record {
  room : 16384 ≤ length l.room;
  none : l.fn.chains.entries ≡ [] → (l.chains.entries ≡ []) × (l.writer ≡ l.fn.writer) × (l.disk ≡ l.fn.disk);
  outcome : Recovers g.D.Disk mild_to_take l.fn.writer l.writer l.disk None;
  kept : (b : Base) (base : ℕ) (all : History) (s : Writer) → StandsAs g.D.Disk b base s l.fn.writer l.fn.disk → IsUndoing b all s → AreChains nobody l.fn.chains s.log
      → (now : Writer) × UndoGoes g.D.Disk b base all s l.fn.disk now l.writer l.disk × AreChains nobody l.chains now.log;
}

abbrev pub decreases-loop-lsn : goal.decreases-loop-lsn
decreases-loop-lsn g l = above l.chains.entries
