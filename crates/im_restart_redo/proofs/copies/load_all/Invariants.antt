use Rattle.std.proofs.Common.{◌≡◌, ℕ, length, Option, None}
use Rattle.im_base_types.specs.Pages.{Page}
use Rattle.im_theory_log.specs.Histories.{Base, History}
use Rattle.im_theory_log.specs.RedoPoints.{redo_point}
use Rattle.im_theory_log.specs.Writer.{Writer}
use Rattle.im_page_writer.specs.Outcome.{no_page}
use Rattle.im_restart_redo.specs.Loading.{AreWaiting, HaveFirst, IsLoading}
use Rattle.im_restart_redo.specs.Recovery.{Recovers}
use Rattle.im_restart_redo.specs.Within.{IsWithinRedo}
use Rattle.im_restart_redo.proofs.copies.load_all.Given as goal

abbrev pub invariant-loop-lsn : goal.invariant-loop-lsn
invariant-loop-lsn g l = record {
  outcome : Recovers g.D.Disk no_page l.fn.writer l.writer l.disk None;
  room : length l.room ≡ length l.fn.room;
  kept : (b : Base) (base : ℕ) (begun : History) (file : ℕ → Option Page) (from : g.row.D.Denot) (s : Writer) → IsWithinRedo g.D.Disk b base begun from s l.fn.writer l.fn.disk → AreWaiting begun l.copies.entries s.pages → HaveFirst b begun file s.pages → l.fn.point ≡ redo_point begun
      → IsLoading g.D.Disk b base begun file l.lsn-iterator from l.writer l.disk;
}
