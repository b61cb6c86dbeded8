-- Pages of which nothing is left to be written.
use Rattle.std.specs.Prelude.{◌<◌, ℕ, List, slice_index_or}
use Rattle.im_theory_log.specs.Histories.{Base}
use Rattle.im_theory_log.specs.Writer.{Writer, IsWritten}
use Rattle.im_base_disk.specs.declared.disk.Disk.{Ghosts}
use Rattle.im_page_writer.specs.declared.page_writer.PageWriter.{PageWriter}
use Rattle.im_page_writer.specs.PageWriter.{GoesOn}

module _ {D : Type 0} (d : Ghosts D) (b : Base) (base : ℕ) where
  -- Nothing is left to be written of the pages of the first so many of these numbers.
  pub record FlushedNumbers (s : Writer) (numbers : List ℕ) (count : ℕ) (old : D) (w : PageWriter) (disk : D) : Type 0 where
    pub now : Writer
    pub on : GoesOn d b base s old now w disk
    pub written : (k else : ℕ) → k < count → IsWritten (now.pages (slice_index_or numbers k else)).entry

  -- Nothing is left to be written of any page.
  pub record FlushedAll (s : Writer) (old : D) (w : PageWriter) (disk : D) : Type 0 where
    pub now : Writer
    pub on : GoesOn d b base s old now w disk
    pub written : (p : ℕ) → IsWritten (now.pages p).entry
