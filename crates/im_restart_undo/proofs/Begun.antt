-- Records of a transaction among those that joined the log.
use Rattle.std.proofs.Common.{ℕ}
use Rattle.im_theory_log.specs.Histories.{Base}
use Rattle.im_theory_log.specs.Writer.{Writer}
use Rattle.im_base_disk.specs.declared.disk.Disk.{Ghosts}
use Rattle.im_page_writer.specs.declared.page_writer.PageWriter.{PageWriter}
use Rattle.im_page_writer.specs.PageWriter.{Evicted}
use Rattle.im_smo_log.specs.Changes.{HasRecordOf}
use Rattle.im_smo_actions.proofs.Growth.{record_front, record_back}
use Rattle.im_restart_undo.specs.Records.{GrowsByUndo}
use Rattle.im_restart_undo.specs.Undoing.{HasBegun}
use Rattle.im_restart_undo.proofs.Growth.{grows_images, grows_then}

-- ---- after calls in a row

module _ {D : Type 0} (d : Ghosts D) (b : Base) (base : ℕ) where
  -- a record joined since
  pub begun_then : (s now : Writer) (t : ℕ) (w : PageWriter) (disk : D) → GrowsByUndo t s.log now.log → HasBegun d b base now t w disk → HasBegun d b base s t w disk
  unfolding grows_then
  begun_then s now t w disk grows is = record {
    now = is.now;
    stands = is.stands;
    grows = grows_then t s.log now.log is.now.log grows is.grows;
    some = record_front t is.grows.more grows.more is.some;
  }

  -- or it had joined before
  pub begun_since : (s now : Writer) (t : ℕ) (mid : D) (w : PageWriter) (disk : D) → (grows : GrowsByUndo t s.log now.log) → HasRecordOf t grows.more → Evicted d b base now mid w disk → HasBegun d b base s t w disk
  unfolding grows_then grows_images
  begun_since s now t mid w disk grows some ev =
      let by = ev.on.goes.keeps.log in
      record {
        now = ev.now;
        stands = record { working = ev.on.working; writing = ev.on.goes.writing; known = ev.on.known };
        grows = grows_then t s.log now.log ev.now.log grows (grows_images b t now.log ev.now.log by);
        some = record_back t by.images grows.more some;
      }
