-- A flush, from its parts.
use Rattle.std.proofs.Common.{◌≡◌, ⊎_elim, ◌⊎◌, ℕ, ◌-◌, ◌≤◌, false, true, List, Option, None, Some, refl, sym, ◌∙◌, ap, subst, arith}
use Rattle.std.specs.Prelude.{is_some}
use Rattle.std.specs.Option.{option_map_or}
use Rattle.im_base_types.specs.declared.file_id.FileId.TheVariants.{Pages}
use Rattle.im_theory_log.specs.Histories.{Base}
use Rattle.im_theory_log.specs.Writer.{DirtyEntry, PageState, Writer, IsWritten}
use Rattle.im_base_disk.specs.declared.disk.Disk.{Ghosts}
use Rattle.im_base_disk.specs.Disk.{Files}
use Rattle.im_base_disk.specs.Runs.{Reads}
use Rattle.im_base_disk.proofs.Runs.{reads_on}
use Rattle.im_log.specs.declared.log_file.LogFile.{LogFile}
use Rattle.im_theory_page.specs.PageFile.{page_count}
use Rattle.im_page_pool.specs.Pool.{Held, PoolView, held_of}
use Rattle.im_page_pool.specs.Pool as pools
use Rattle.im_page_table.specs.DirtyTable.{TableView, is_changed}
use Rattle.im_page_file.specs.Stands.{IsCovered, LeavesCovered}
use Rattle.im_page_flush.specs.Writing.{lsn_for, IsShown, MayCopy, MayWriteHere, IsWriting, Goes, LeavesGrown, ImagesDurable, Flushed}
use Rattle.im_page_file.proofs.Standing.{stands_read}
use Rattle.im_page_table.proofs.Growing.{grows_none, keeps_none}
use Rattle.im_page_flush.proofs.Goings.{goes_start, goes_then}
use Rattle.im_page_flush.proofs.Placing.{past_end}

-- ---- a page that was changed

-- it is held, and has its entry
pub record IsChanged (o : Option Held) (x : PageState) : Type 0 where
  pub held : is_some o ≡ true
  pub entry : DirtyEntry
  pub is : x.entry ≡ Some entry

pub changed_here : (o : Option Held) (x : PageState) → option_map_or (λ h. h.changed) o false ≡ true → IsShown o x → IsChanged o x
changed_here None x changed is = absurd (cc changed)
changed_here (Some h) x changed is = by x.entry refl
  where
    by : (e : Option DirtyEntry) → x.entry ≡ e → IsChanged (Some h) x
    by None none = absurd (let clash : true ≡ false = sym changed ∙ is.1 ∙ ap (λ (o : Option DirtyEntry). is_changed o) none in cc clash)
    by (Some e) some = record { held = refl; entry = e; is = some }

since_none : (t : Option ℕ) → is_some t ≡ false → t ≡ None
since_none None is = refl
since_none (Some l) is = absurd (cc is)

-- of one that was not, nothing is left to be written
pub unchanged_here : (o : Option Held) (x : PageState) → option_map_or (λ h. h.changed) o false ≡ false → IsShown o x → IsWritten x.entry
unchanged_here None x same is = is
unchanged_here (Some h) x same is = by x.entry refl
  where
    by : (e : Option DirtyEntry) → x.entry ≡ e → IsWritten x.entry
    by None none = subst (λ (o : Option DirtyEntry). IsWritten o) (sym none) tt
    by (Some e) some = subst (λ (o : Option DirtyEntry). IsWritten o) (sym some) (since_none e.since (ap (λ (o : Option DirtyEntry). is_changed o) (sym some) ∙ sym is.1 ∙ same))

module _ {D : Type 0} (d : Ghosts D) (b : Base) (base : ℕ) where
  -- ---- reads

  module _ (s : Writer) (log : LogFile) (table : TableView) (pool : PoolView) (old new : D) (only_now : (c : Files) → d.left_since old (d.moment old) c → d.may_leave old c) (w : IsWriting d b base s log table pool old) (reads : Reads d old new) where
    pub covered_read : LeavesCovered d b base s.durable s.log old new
    covered_read = reads_on d old old new (IsCovered b base s.durable s.log) (goes_start d b base s log table pool old only_now w).stops reads

    pub leaves_read : LeavesGrown d b base s old new
    leaves_read = record { high = s.log; grows = grows_none b s.log; stops = covered_read }

    pub goes_read : d.failed new ≡ false → Goes d b base s old s log table pool new
    goes_read works = record {
      writing = record { stands = stands_read d b base s log table old w.stands new reads works; entries = w.entries; pooled = w.pooled; based = w.based };
      stops = covered_read;
      keeps = keeps_none b s;
    }

  -- ---- the parts

  -- each page whose Image is durable may be written
  pub may_write : (s : Writer) (first last : ℕ) (lsns : List ℕ) (old : D) (log : LogFile) (table : TableView) (pool : PoolView) (disk : D) (so : ImagesDurable d b base s first last lsns old log table pool disk)
      → ((q : ℕ) → first ≤ q → q ≤ last → MayCopy s pool q) → (q : ℕ) → first ≤ q → q ≤ last → MayWriteHere b so.now table pool q (lsn_for lsns (q - first))
  may_write s first last lsns old log table pool disk so all q low high =
      record { may = so.may q low high; entry = so.goes.writing.entries q; past = λ none. (so.goes.keeps.pages q).page ∙ (all q low high).past none }

  -- a flush after other calls
  pub flushed_then : (s t : Writer) (first last : ℕ) (old mid new : D) (log new_log : LogFile) (table new_table : TableView) (pool new_pool : PoolView) → Goes d b base s old t log table pool mid
      → Flushed d b base t first last mid new_log new_table new_pool new → Flushed d b base s first last old new_log new_table new_pool new
  flushed_then s t first last old mid new log new_log table new_table pool new_pool goes done = record {
    now = done.now;
    goes = goes_then d b base s old t log table pool mid goes done.now new_log new_table new_pool new done.goes;
    known = done.known;
    written = done.written;
  }

  -- the last page of a flush
  pub flushed_last : (s : Writer) (first last : ℕ) (old : D) (log : LogFile) (table : TableView) (pool : PoolView) (new : D) → first ≤ last → Flushed d b base s first last old log table pool new → Flushed d b base s last last old log table pool new
  flushed_last s first last old log table pool new order done = record { now = done.now; goes = done.goes; known = done.known; written = λ q low high. done.written q (omega (arith, order, low)) high }

  -- what a flush of a changed page asks holds: from it alone, or from the file's end up to it
  pub may_flush : (s : Writer) (log : LogFile) (table : TableView) (pool : PoolView) (disk : D) (first p : ℕ) → IsWriting d b base s log table pool disk → pools.is_changed pool p ≡ true
      → (first ≡ p) ⊎ (page_count (d.seen disk Pages) ≤ first) → (q : ℕ) → first ≤ q → q ≤ p → MayCopy s pool q
  may_flush s log table pool disk first p w changed place q low high =
      let is = changed_here (held_of pool p) (s.pages p) changed (w.pooled.shows p) in
      let ready : (s.pages q).waits ≡ false = w.pooled.ready p q is.held high in
      record {
        ready = ready;
        begun = λ empty. absurd (let clash : None ≡ Some is.entry = sym (w.stands.kept.first empty p) ∙ is.is in cc clash);
        named = (let low = ((w.stands.kept.pages p).entry is.entry is.is).named in omega (arith, low, high));
        past = λ none. ⊎_elim
            (λ (alone : first ≡ p).
            let here : q ≡ p = omega (arith, alone, low, high) in
            let clash : false ≡ true = ap (λ (o : Option Held). is_some o) (sym none) ∙ ap (λ (n : ℕ). is_some (held_of pool n)) here ∙ is.held in
            let never : ⊥ = cc clash in
            absurd never)
            (λ (past : page_count (d.seen disk Pages) ≤ first). past_end d b base s log table pool disk q w (omega (arith, past, low)) ready none)
            place;
      }
