-- A page is written with no force where its last change and a full copy of it are durable, as the writer knows.
use Rattle.std.proofs.Common.{◌≡◌, ◌<◌, ◌+◌, ◌-◌, ◌^◌, min, ℕ, false, true, Option, None, Some, sym, ◌∙◌, ap, subst, arith}
use Rattle.std.specs.Option.{option_map_or}
use Rattle.im_base_types.specs.Pages.{Page}
use Rattle.im_theory_log.specs.Histories.{Base}
use Rattle.im_theory_log.specs.Writer.{DirtyEntry, PageState, Writer}
use Rattle.im_theory_log.specs.WriterSteps.{is_copied}
use Rattle.im_base_disk.specs.declared.disk.Disk.{Ghosts}
use Rattle.im_log_gate.specs.Gate.{place_of}
use Rattle.im_page_pool.specs.Pool.{Held, held_of, is_changed, page_at}
use Rattle.im_page_table.specs.KnownCopies.{AreAbove, IsAtOrAfter, IsKnownFrom}
use Rattle.im_page_table.proofs.DurableCopies.{early_kept}
use Rattle.im_page_file.proofs.WaitingRecords.{waits_above}
use Rattle.im_page_writer.specs.declared.page_writer.PageWriter.{PageWriter}
use Rattle.im_page_flush.specs.Writing.{IsShown, MayPlaceEarly}
use Rattle.im_page_writer.specs.PageWriter.{IsUnforced, StandsAs}

-- redo ended below the LSN
pub record EndedBelow (s : Writer) (l : ℕ) : Type 0 where
  pub redo_end : ℕ
  pub over : s.redo_end ≡ Some redo_end
  pub ended : redo_end < l

ended_below : (s : Writer) (from : Option ℕ) (l : ℕ) → IsKnownFrom s from → IsAtOrAfter from l → EndedBelow s l
ended_below s None l is late = absurd late
ended_below s (Some n) l is late = record { redo_end = is.redo_end; over = is.over; ended = (let low : is.redo_end < n = is.ended in omega (arith, low, late)) }

-- a page that was changed is held
shown_changed : (o : Option Held) (x : PageState) (other : Page) → option_map_or (λ h. h.changed) o false ≡ true → IsShown o x → option_map_or (λ h. h.page) o other ≡ x.page
shown_changed None x other changed is = absurd (cc changed)
shown_changed (Some h) x other changed is = is.0

changed_held : (o : Option Held) → option_map_or (λ h. h.changed) o false ≡ true → o ≡ None → ⊥
changed_held None changed none = cc changed
changed_held (Some h) changed none = cc none

module _ {D : Type 0} (d : Ghosts D) (b : Base) (base : ℕ) (s : Writer) (w : PageWriter) (disk : D) (p : ℕ) where
  pub may_early : StandsAs d b base s w disk → is_changed w.pool p ≡ true → IsUnforced w p → MayPlaceEarly b s w.table w.pool p
  may_early is changed unforced =
      let stands = is.writing.stands in
      let shown : page_at w.pool p ≡ (s.pages p).page = shown_changed (held_of w.pool p) (s.pages p) _ changed (is.writing.pooled.shows p) in
      let lsn : (page_at w.pool p).lsn ≡ (s.pages p).page.lsn = ap (λ (x : Page). x.lsn) shown in
      let after = ended_below s w.known.from (s.pages p).page.lsn is.known.from (subst (λ (n : ℕ). IsAtOrAfter w.known.from n) lsn unforced.late) in
      let copied : is_copied (s.pages p).entry ≡ true = ap (λ (o : Option DirtyEntry). is_copied o) (sym (is.writing.entries p)) ∙ unforced.copied in
      let knows = is.known.copies unforced.ahead in
      let beyond = waits_above d base (page_at w.pool p).lsn s.log s.durable w.log disk (let low : (page_at w.pool p).lsn < min (w.log.base + place_of w.log.gate) (2 ^ 64 - 1) = unforced.below in omega (arith, low)) stands.log_is in
      record {
        place = record {
          kept = early_kept b s p 0 after.redo_end stands.kept knows after.over copied after.ended beyond.newer beyond.is (subst (λ (n : ℕ). AreAbove n beyond.newer) lsn beyond.above);
          ready = ((stands.kept.pages p).run after.redo_end after.over).0;
          entry = is.writing.entries p;
          past = λ none. absurd (changed_held (held_of w.pool p) changed none);
        };
        copied = copied;
        known = knows;
      }
