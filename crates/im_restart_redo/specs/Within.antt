-- How redo stands between its calls.
use Rattle.std.specs.Prelude.{◌≡◌, ℕ, None}
use Rattle.im_theory_log.specs.Histories.{Base, History, IsFront}
use Rattle.im_theory_log.specs.Copies.{GrowsByImages}
use Rattle.im_theory_log.specs.RedoPoints.{redo_point}
use Rattle.im_theory_log.specs.Writer.{Writer}
use Rattle.im_base_disk.specs.declared.disk.Disk.{Ghosts}
use Rattle.im_page_writer.specs.declared.page_writer.PageWriter.{PageWriter}
use Rattle.im_page_file.specs.Stands.{LeavesCovered}
use Rattle.im_page_writer.specs.PageWriter.{StandsAs}

-- Redo of a log goes on: Images alone have joined it, and a stop since redo began, at this disk, leaves what redo can start from.
pub record IsWithinRedo {D : Type 0} (d : Ghosts D) (b : Base) (base : ℕ) (begun : History) (from : D) (s : Writer) (w : PageWriter) (disk : D) : Type 0 where
  pub stands : StandsAs d b base s w disk
  pub stops : LeavesCovered d b base begun s.log from disk
  pub log : GrowsByImages b begun s.log
  pub durable : IsFront begun s.durable
  pub point : s.point ≡ redo_point begun
  pub going : s.redo_end ≡ None
