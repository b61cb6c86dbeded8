use Rattle.std.proofs.Common.{◌≡◌, None, length, ℕ}
use Rattle.im_theory_log.specs.Histories.{Base}
use Rattle.im_theory_log.specs.Writer.{Writer}
use Rattle.im_base_disk.specs.Runs.{Reads}
use Rattle.im_page_writer.specs.PageWriter.{StandsAs}
use Rattle.im_page_writer.specs.Outcome.{none_mild}
use Rattle.im_restart_undo.specs.GoingBeside.{IsGoingBeside}
use Rattle.im_engine_rollback.specs.Ends.{TurnOutcome}
use Rattle.im_engine_rollback.specs.Going.{GoesOnAt}
use Rattle.im_engine_rollback.proofs.next_record.next_key_record.Given as goal

abbrev pub invariant-loop-lsn : goal.invariant-loop-lsn
invariant-loop-lsn g l = record {
  outcome : TurnOutcome g.D.Disk none_mild l.fn.writer l.writer l.disk None;
  size : length l.room ≡ length l.fn.room;
  reads : Reads g.D.Disk l.fn.disk l.disk;
  kept : (b : Base) (base : ℕ) (s : Writer) (e last : ℕ) → IsGoingBeside g.D.Disk b base s e l.transaction last l.from l.fn.writer l.fn.disk → StandsAs g.D.Disk b base s l.writer l.disk × GoesOnAt l.transaction l.lsn s.log;
}

abbrev pub decreases-loop-lsn : goal.decreases-loop-lsn
decreases-loop-lsn g l = l.lsn
