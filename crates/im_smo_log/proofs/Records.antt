-- The record of one page.
use Rattle.std.proofs.Common.{◌≡◌, ◌≢◌, ◌≤◌, ◌+◌, ℕ, List, Option, Some, None, sym, ap, subst, ◌∙◌}
use Rattle.std.specs.Prelude.{max}
use Rattle.im_base_types.specs.Pages.{Body, Page}
use Rattle.im_base_types.specs.Records as whats
use Rattle.im_base_types.specs.Records.{What}
use Rattle.im_theory_log.specs.Histories.{Base}
use Rattle.im_theory_log.specs.Writer.{Writer}
use Rattle.im_page_table.specs.KnownCopies.{changed_as}
use Rattle.im_base_disk.specs.declared.disk.Disk.{Ghosts}
use Rattle.im_log_record.specs.Entry.{Smo}
use Rattle.im_log.specs.Whats.{page_behind, smo_of, what_of}
use Rattle.im_log.specs.Spelled.{logged_at}
use Rattle.im_page_writer.specs.declared.page_writer.PageWriter.{PageWriter}
use Rattle.im_page_table.specs.Growth.{Keeps}
use Rattle.im_page_file.specs.PageCopy.{after_in}
use Rattle.im_page_writer.specs.PageWriter.{StandsAs}
use Rattle.im_page_writer.specs.LoggedChange.{ChangedFrom}
use Rattle.im_page_table.proofs.Growing.{keeps_then}
use Rattle.im_smo_log.specs.Logged.{PageLogged}

-- what it does, of the bytes of the page before and after
pub smo_is : (t prev n : ℕ) (before after : List ℕ) (was now : Page) → page_behind before ≡ Some (record was { lsn = 0 }) → page_behind after ≡ Some (record now { lsn = 0 })
    → what_of (Smo t prev n before after) ≡ whats.Smo was.body now.body
smo_is t prev n before after was now one two =
    ap (λ (o : Option Page). smo_of o (page_behind after)) one ∙ ap (λ (o : Option Page). smo_of (Some (record was { lsn = 0 })) o) two

-- it has a page after
pub smo_leaves : (w : What) (was now : Body) → w ≡ whats.Smo was now → after_in w ≢ None
smo_leaves w was now is none = let clash : Some now ≡ None = ap after_in (sym is) ∙ none in cc clash

module _ {D : Type 0} (d : Ghosts D) (b : Base) (base : ℕ) where
  pub page_logged : (s t : Writer) (n prev p highest : ℕ) (before after : List ℕ) (now : Body) (lsn : ℕ) (old : D) (w : PageWriter) (disk : D) → (p ≡ 0 → now.leftmost ≤ max (s.pages p).page.body.leftmost (highest + 1)) → Keeps b s t → what_of (Smo n prev p before after) ≡ whats.Smo (s.pages p).page.body now
      → ChangedFrom d b base t (Smo n prev p before after) lsn old w disk → PageLogged d b base s n prev p highest now lsn w disk
  page_logged s t n prev p highest before after now lsn old w disk counted keeps what done = record {
    before = done.before;
    keeps = keeps_then b s t done.before keeps done.keeps;
    durable = done.logged.durable;
    grows = done.logged.grows;
    high = done.logged.high;
    counted = counted;
    known = done.logged.known;
    stands = subst (λ (v : What). StandsAs d b base (record (changed_as done.logged.known (record (logged_at lsn (Smo n prev p before after)) { what = v }) done.before) { durable = done.logged.durable }) w disk) what done.logged.stands;
  }
