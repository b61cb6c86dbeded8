-- What calls that add Images, write pages and sync them leave as it is.
use Rattle.std.specs.Prelude.{◌≡◌, ◌≤◌, ◌∷◌, ℕ, Option, None, Some}
use Rattle.im_base_types.specs.Pages.{Page}
use Rattle.im_base_types.specs.Records.{Image, Logged}
use Rattle.im_theory_log.specs.Histories.{Base, History, IsFront}
use Rattle.im_theory_log.specs.Copies.{GrowsByImages}
use Rattle.im_theory_log.specs.Writer.{IsWritten, PageState, Writer}
use Rattle.im_theory_log.specs.WriterSteps.{passed}

-- a page is as it was; where nothing of it was left to be written, nothing is
pub record SamePage (old new : PageState) : Type 0 where
  pub page : new.page ≡ old.page
  pub waits : new.waits ≡ old.waits
  pub found : new.found ≡ old.found
  pub upto : old.upto ≤ new.upto
  pub written : IsWritten old.entry → IsWritten new.entry

-- Each page is as it was, and the log has Images more.
pub record Keeps (b : Base) (s t : Writer) : Type 0 where
  pub log : GrowsByImages b s.log t.log
  pub durable : IsFront s.durable t.durable
  pub point : t.point ≡ s.point
  pub redo_end : t.redo_end ≡ s.redo_end
  pub pages : (p : ℕ) → SamePage (s.pages p) (t.pages p)

-- ---- an Image joins the log

-- the record
abbrev pub image_at : ℕ → ℕ → Page → Logged
image_at lsn p page = record { lsn = lsn; txn = 0; prev = 0; undo_next = 0; page = p; what = Image page }

-- the pages after it: after redo each has had it
abbrev pub image_pages : Option ℕ → ℕ → (ℕ → PageState) → ℕ → PageState
image_pages None lsn pages = pages
image_pages (Some e) lsn pages = λ q. passed lsn (pages q)

-- the writer after it, with this much of its log durable
abbrev pub with_image : ℕ → ℕ → History → Writer → Writer
with_image lsn p durable s = record s { log = image_at lsn p (s.pages p).page ∷ s.log; durable = durable; pages = image_pages s.redo_end lsn s.pages }
