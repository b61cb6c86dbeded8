use Rattle.std.proofs.Common.{◌≡◌, ℕ, true, length, None}
use Rattle.im_theory_log.specs.Histories.{Base}
use Rattle.im_theory_log.specs.Writer.{Writer}
use Rattle.im_page_writer.specs.Outcome.{mild, Logs}
use Rattle.im_smo_log.specs.Changes.{MayChange, PagesLogged}
use Rattle.im_smo_log.proofs.structure_change.log_pages.Given as goal

abbrev pub invariant-loop-i : goal.invariant-loop-i
invariant-loop-i g l = record {
  outcome : Logs g.D.Disk true mild l.fn.writer l.fn.disk l.writer l.disk None;
  count : l.len ≡ length l.images;
  first : l.i ≡ 0 → (l.writer ≡ l.fn.writer) × (l.disk ≡ l.fn.disk);
  kept : (b : Base) (base : ℕ) (s : Writer) (e undo_next : ℕ) → MayChange g.D.Disk b base s e l.images l.transaction l.last undo_next l.fn.writer l.fn.disk
      → PagesLogged g.D.Disk b base s e l.images l.transaction undo_next l.i l.prev l.fn.disk l.writer l.disk;
}
