use Rattle.std.proofs.Common.{◌≡◌, ◌<◌, ◌≤◌, ℕ, drop, length, Option, None}
use Rattle.im_base_types.specs.Pages.{Page}
use Rattle.im_theory_log.specs.Histories.{Base, History}
use Rattle.im_theory_log.specs.RedoPoints.{redo_point}
use Rattle.im_page_writer.specs.Outcome.{no_page}
use Rattle.im_restart_analysis.specs.CopyLsns.{AreCopies}
use Rattle.im_restart_redo.specs.Recovery.{Recovers}
use Rattle.im_restart_redo.specs.Redo.{AreApplicable}
use Rattle.im_restart_redo.specs.Applying.{IsApplying}
use Rattle.im_restart_redo.specs.Changes.{AreOwn, lsns_of}
use Rattle.im_restart_redo.specs.Window.{Shows}
use Rattle.im_restart_redo.proofs.records.redo_all.Given as goal

abbrev pub invariant-loop-segment : goal.invariant-loop-segment
invariant-loop-segment g l = record {
  outcome : Recovers g.D.Disk no_page l.fn.writer l.writer l.disk None;
  few : l.count ≤ l.done;
  on : l._segment ≤ l.done;
  within : l.done ≤ length l.changes;
  pages : 0 < l.rounds.most;
  room : length l.room ≡ length l.fn.room;
  used : l.window.used ≤ length l.room;
  kept : (b : Base) (base : ℕ) (begun : History) (file : ℕ → Option Page) (from : g.row.D.Denot) → IsApplying g.D.Disk b base begun file (lsns_of l.changes) 0 from l.fn.writer l.fn.disk → AreOwn begun l.changes → AreApplicable b begun → l.fn.point ≡ redo_point begun → AreCopies l.fn.point l.copies begun
      → IsApplying g.D.Disk b base begun file (drop l.done (lsns_of l.changes)) l.count from l.writer l.disk × Shows begun l.window l.room;
}
