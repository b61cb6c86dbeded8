-- Calls of a writer of pages in a row.
use Rattle.std.proofs.Common.{◌≡◌, ℕ, ◌<◌, List, Option, None, Some, refl, sym, ◌∙◌, ap, subst}
use Rattle.std.specs.Prelude.{option_map}
use Rattle.std.specs.Option.{option_map_or}
use Rattle.im_base_types.specs.Pages.{Page}
use Rattle.im_theory_log.specs.Histories.{Base, end_of}
use Rattle.im_theory_log.specs.Writer.{DirtyEntry, PageState, Writer, IsWritten}
use Rattle.im_theory_log.proofs.Histories.{front_self}
use Rattle.im_base_disk.specs.declared.disk.Disk.{Ghosts}
use Rattle.im_base_disk.specs.Disk.{Files}
use Rattle.im_log.specs.declared.log_file.LogFile.{LogFile}
use Rattle.im_theory_page.specs.Header.{initial}
use Rattle.im_theory_page.specs.Page.{page_of}
use Rattle.im_page_pool.specs.declared.frame.Frame.{Frame}
use Rattle.im_page_pool.specs.Pool.{Held, PoolView, held_of, frame_of, page_at}
use Rattle.im_page_table.specs.DirtyTable.{TableView, is_changed}
use Rattle.im_page_file.specs.Stands.{LeavesCovered}
use Rattle.im_page_table.specs.Growth.{with_image}
use Rattle.im_page_file.specs.Images.{MayLogImage, Imaged}
use Rattle.im_page_flush.specs.Writing.{IsShown, IsPooled, MayCopy, IsWriting, Goes, LeavesGrown, PageImaged}
use Rattle.im_page_file.proofs.Standing.{covered_then, covered_wider, run_start}
use Rattle.im_page_table.proofs.Growing.{image_entry, image_keeps, grown_front, grows_none, grows_then, keeps_none, keeps_then}

-- ---- the pool

pub shown_same : (o : Option Held) (x y : PageState) → y.page ≡ x.page → y.entry ≡ x.entry → IsShown o x → IsShown o y
shown_same None x y page entry is = subst (λ (e : Option DirtyEntry). IsWritten e) (sym entry) is
shown_same (Some h) x y page entry is = (is.0 ∙ sym page, is.1 ∙ ap (λ (e : Option DirtyEntry). is_changed e) (sym entry))

-- pages that differ in nothing that the pool shows
pub pooled_same : (pool : PoolView) (pages new : ℕ → PageState) → ((q : ℕ) → (new q).page ≡ (pages q).page) → ((q : ℕ) → (new q).entry ≡ (pages q).entry) → ((q : ℕ) → (new q).waits ≡ (pages q).waits) → IsPooled pool pages → IsPooled pool new
pooled_same pool pages new page entry waits is = record {
  shows = λ p. shown_same (held_of pool p) (pages p) (new p) (page p) (entry p) (is.shows p);
  ready = λ p q holds le. waits q ∙ is.ready p q holds le;
}

-- the page that a look-up found
pub record IsFoundHere (o : Option Held) (p : ℕ) (frame : Frame) : Type 0 where
  pub held : Held
  pub is : o ≡ Some held
  pub number : frame.number ≡ p
  pub place : frame.place ≡ held.place

pub found_here : (o : Option Held) (p : ℕ) (frame : Frame) → Some frame ≡ option_map (λ h. frame_of (p, h)) o → IsFoundHere o p frame
found_here None p frame is = absurd (cc is)
found_here (Some h) p frame is =
    let same : frame ≡ frame_of (p, h) = cc is in
    record { held = h; is = refl; number = ap (λ (f : Frame). f.number) same; place = ap (λ (f : Frame). f.place) same }

pub found_none : (o : Option Held) (p : ℕ) → None ≡ option_map (λ h. frame_of (p, h)) o → o ≡ None
found_none None p is = refl
found_none (Some h) p is = absurd (cc is)

-- a held page is the pool's
pub held_page : (o : Option Held) (h : Held) (g : Page) → o ≡ Some h → option_map_or (λ h. h.page) o g ≡ h.page
held_page o h g is = ap (λ (x : Option Held). option_map_or (λ h. h.page) x g) is

-- the page as the pool has it is the writer's
pub pool_shows : (o : Option Held) (p : ℕ) (x : PageState) → IsShown o x → (o ≡ None → x.page ≡ initial p) → option_map_or (λ h. h.page) o (initial p) ≡ x.page
pool_shows None p x is past = sym (past refl)
pool_shows (Some h) p x is past = is.0

-- the page that is found
pub found_page : (pool : PoolView) (p : ℕ) (frame : Frame) (x : PageState) → Some frame ≡ option_map (λ h. frame_of (p, h)) (held_of pool p) → IsShown (held_of pool p) x → page_at pool frame.number ≡ x.page
found_page pool p frame x found is =
    let here = found_here (held_of pool p) p frame found in
    let shown : IsShown (Some here.held) x = subst (λ (o : Option Held). IsShown o x) here.is is in
    ap (λ (n : ℕ). page_at pool n) here.number ∙ held_page (held_of pool p) here.held (initial 0) here.is ∙ shown.0

module _ {D : Type 0} (d : Ghosts D) (b : Base) (base : ℕ) where
  -- before the first call
  pub goes_start : (s : Writer) (log : LogFile) (table : TableView) (pool : PoolView) (disk : D) → ((c : Files) → d.left_since disk (d.moment disk) c → d.may_leave disk c) → IsWriting d b base s log table pool disk
      → Goes d b base s disk s log table pool disk
  goes_start s log table pool disk only_now w = record { writing = w; stops = (run_start d b base s log table disk w.stands only_now).stops; keeps = keeps_none b s }

  module _ (s : Writer) (old : D) (t : Writer) (log : LogFile) (table : TableView) (pool : PoolView) (mid : D) (one : Goes d b base s old t log table pool mid) where
    -- a run after a run
    pub goes_then : (u : Writer) (new_log : LogFile) (new_table : TableView) (new_pool : PoolView) (new : D) → Goes d b base t mid u new_log new_table new_pool new → Goes d b base s old u new_log new_table new_pool new
    goes_then u new_log new_table new_pool new two = record {
      writing = two.writing;
      stops = covered_then d b base s.durable t.log t.durable u.log old mid new one.stops two.stops one.keeps.durable (grown_front b t.log u.log two.keeps.log);
      keeps = keeps_then b s t u one.keeps two.keeps;
    }

    -- and what a stop leaves of both, where the second one did not succeed
    pub leaves_then : (new : D) → LeavesGrown d b base t mid new → LeavesGrown d b base s old new
    leaves_then new two = record {
      high = two.high;
      grows = grows_then b s.log t.log two.high one.keeps.log two.grows;
      stops = covered_then d b base s.durable t.log t.durable two.high old mid new one.stops two.stops one.keeps.durable (grown_front b t.log two.high two.grows);
    }

    pub covered_last : (new : D) → LeavesCovered d b base t.durable t.log mid new → LeavesCovered d b base s.durable t.log old new
    covered_last new two = covered_then d b base s.durable t.log t.durable t.log old mid new one.stops two one.keeps.durable (front_self t.log)

    pub leaves_last : (new : D) → LeavesCovered d b base t.durable t.log mid new → LeavesGrown d b base s old new
    leaves_last new two = record { high = t.log; grows = one.keeps.log; stops = covered_last new two }

    pub leaves_so_far : LeavesGrown d b base s old mid
    leaves_so_far = record { high = t.log; grows = one.keeps.log; stops = one.stops }

  pub leaves_of : (s : Writer) (old new : D) → LeavesCovered d b base s.durable s.log old new → LeavesGrown d b base s old new
  leaves_of s old new stops = record { high = s.log; grows = grows_none b s.log; stops = stops }

  -- ---- an Image

  module _ (s : Writer) (log : LogFile) (table : TableView) (pool : PoolView) (old : D) (w : IsWriting d b base s log table pool old) (p : ℕ) (may : MayCopy s pool p) where
    pub may_image : (bytes : List ℕ) (page : Page) → page_of bytes ≡ Some page → page ≡ (s.pages p).page → MayLogImage s p bytes
    may_image bytes page is shown = record { ready = may.ready; page = is ∙ ap (λ (g : Page). Some g) shown; begun = λ going. may.begun }

    pub copy_done : (lsn : ℕ) (new_log : LogFile) (new : D) → LeavesCovered d b base s.durable s.log old new → Imaged d b base s p lsn new_log table new → PageImaged d b base s p lsn old new_log table pool new
    copy_done lsn new_log new stops done =
        let high : end_of b s.log < lsn = done.stands.kept.rises.1 in
        let entry = image_entry b s p lsn w.stands.kept may.ready high done.durable in
        let keeps = image_keeps b s p lsn w.stands.kept may.ready high may.named done.durable done.grows in
        record {
          durable = done.durable;
          grows = done.grows;
          high = high;
          goes = record {
            writing = record {
              stands = done.stands;
              entries = λ q. w.entries q ∙ sym (entry q);
              pooled = pooled_same pool s.pages (with_image lsn p done.durable s).pages (λ q. (keeps.pages q).page) entry (λ q. (keeps.pages q).waits) w.pooled;
              based = w.based;
            };
            stops = covered_wider d b base s.durable s.log (with_image lsn p done.durable s).log old new stops (grown_front b s.log (with_image lsn p done.durable s).log keeps.log);
            keeps = keeps;
          };
        }
