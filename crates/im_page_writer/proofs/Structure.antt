-- A structure change joins the log, after redo: its page is the one after, and enters the dirty table.
use Rattle.std.proofs.Common.{◌≡◌, Bor, ℕ, true, false, List, ◌∷◌, Option, None, Some, refl, sym, ◌∙◌, ap, subst, Bool}
use Rattle.std.specs.Prelude.{is_some, Result, Ok, Err, IfErr, ◌≢◌, ◌==◌}
use Rattle.std.proofs.lemmas.Bool.{cond-true, eq-eqb}
use Rattle.im_base_types.specs.declared.fault.Fault.{Fault}
use Rattle.im_base_types.specs.declared.fault.Fault.TheVariants.{NotAStore}
use Rattle.im_base_types.specs.declared.file_id.FileId.TheVariants.{Log}
use Rattle.im_base_types.specs.Pages.{Body, Page}
use Rattle.im_base_types.specs.Records.{What, InsertKey, DeleteKey, UndoInsert, UndoDelete, Smo, UndoSmo, DummyClr, Commit, End, Image, Checkpoint, Unreadable}
use Rattle.im_theory_log.specs.Histories.{Base, page_after, page_at}
use Rattle.im_theory_log.specs.Copies.{copy_in}
use Rattle.im_theory_log.specs.PageCounts.{names_page}
use Rattle.im_theory_log.specs.RedoPoints.{is_checkpoint}
use Rattle.im_theory_log.specs.Writer.{Writer}
use Rattle.im_theory_log.specs.WriterSteps.{MayAppend, changed, changed_entry, holds_copy}
use Rattle.im_theory_log.proofs.Cited.{changed_kept, next_point}
use Rattle.im_base_disk.specs.declared.disk.Disk.{Ghosts}
use Rattle.im_base_disk.specs.Runs.{ChangesOnly}
use Rattle.im_log_record.specs.declared.record.Record.{Record}
use Rattle.im_log_record.specs.declared.record.Record.TheVariants as records
use Rattle.im_log_record.specs.Entry.{Entry, page_of, view}
use Rattle.im_theory_page.specs.Page as pages
use Rattle.im_log.specs.declared.log_file.LogFile.{LogFile}
use Rattle.im_log.specs.LogFile.{IsOpen}
use Rattle.im_log.specs.Spelled.{logged_at}
use Rattle.im_log.specs.Whats.{image_of, what_of}
use Rattle.im_log.specs.Kept.{Appended}
use Rattle.im_page_pool.specs.declared.frame.Frame.{Frame}
use Rattle.im_page_pool.specs.Pool.{PoolView, held_of, Sets}
use Rattle.im_page_writer.specs.declared.page_writer.PageWriter.{PageWriter}
use Rattle.im_page_writer.specs.PageWriter.{StandsAs, GoesOn, Evicted}
use Rattle.im_page_table.specs.DirtyTable.{TableView, ChangesEntry}
use Rattle.im_page_file.specs.PageCopy.{after_in}
use Rattle.im_page_file.specs.Stands.{LeavesCovered}
use Rattle.im_page_flush.specs.Writing.{IsWriting}
use Rattle.im_page_writer.proofs.Changing.{step_by}
use Rattle.im_page_table.proofs.Growing.{keeps_none}
use Rattle.im_page_writer.proofs.Writers.{goes_on_then}

-- what a kind that leaves a page makes of it, and which copy it holds
pub record LeavesBody (l : ℕ) (w : What) (body : Body) : Type 0 where
  pub after : (g : Page) → page_after l w g ≡ record { lsn = l; body = body }
  pub copy : copy_in l w ≡ Some (record { lsn = l; body = body })
  pub point : is_checkpoint w ≡ false
  pub holds : holds_copy w ≡ true
  pub names : names_page w ≡ true

pub leaves_body : (l : ℕ) (w : What) (body : Body) → after_in w ≡ Some body → LeavesBody l w body
leaves_body l (Smo old new) body is = (let same : new ≡ body = cc is in record { after = λ g. ap (λ (x : Body). record { lsn = l; body = x }) same; copy = ap (λ (x : Body). Some (record { lsn = l; body = x })) same; point = refl; holds = refl; names = refl })
leaves_body l (UndoSmo new) body is = (let same : new ≡ body = cc is in record { after = λ g. ap (λ (x : Body). record { lsn = l; body = x }) same; copy = ap (λ (x : Body). Some (record { lsn = l; body = x })) same; point = refl; holds = refl; names = refl })
leaves_body l (InsertKey k i) body is = absurd (cc is)
leaves_body l (DeleteKey k i) body is = absurd (cc is)
leaves_body l (UndoInsert k i) body is = absurd (cc is)
leaves_body l (UndoDelete k i) body is = absurd (cc is)
leaves_body l DummyClr body is = absurd (cc is)
leaves_body l Commit body is = absurd (cc is)
leaves_body l End body is = absurd (cc is)
leaves_body l (Image c) body is = absurd (cc is)
leaves_body l (Checkpoint n a d) body is = absurd (cc is)
leaves_body l Unreadable body is = absurd (cc is)

-- ---- a record of another kind

image_none : (copy : Option Page) → after_in (image_of copy) ≡ None
image_none None = refl
image_none (Some copy) = refl

-- it leaves no page
pub no_after : (r : Record) → ((t p n : ℕ) (before after : Bor (List ℕ)) → r ≡ records.Smo t p n before after → ⊥) → ((t p u n : ℕ) (after : Bor (List ℕ)) → r ≡ records.UndoSmo t p u n after → ⊥) → after_in (what_of (view r)) ≡ None
no_after (records.InsertKey t p n k v) one two = refl
no_after (records.DeleteKey t p n k v) one two = refl
no_after (records.UndoInsert t p u n k v) one two = refl
no_after (records.UndoDelete t p u n k v) one two = refl
no_after (records.Smo t p n before after) one two = absurd (one t p n before after refl)
no_after (records.UndoSmo t p u n after) one two = absurd (two t p u n after refl)
no_after (records.DummyClr t p u) one two = refl
no_after (records.Commit t p) one two = refl
no_after (records.End t p) one two = refl
no_after (records.Image n bytes) one two = image_none (pages.page_of bytes.now)
no_after (records.Checkpoint n active dirty) one two = refl

-- ---- refusals

pub refused_not : {A : Type 0} (r : Result A Fault) → (r ≡ Err NotAStore → ⊥) → IfErr r (λ e. e ≢ NotAStore)
refused_not (Ok a) never = tt
refused_not (Err e) never = λ same. never (ap (λ (f : Fault). Err f) same)

module _ {D : Type 0} (d : Ghosts D) (b : Base) (base : ℕ) where
  -- a call after others that left the writer as it was
  pub stays_then : (s : Writer) (old : D) (t : Writer) (v : PageWriter) (mid : D) → GoesOn d b base s old t v mid → (w : PageWriter) (disk : D) → LeavesCovered d b base t.durable t.log mid disk → StandsAs d b base t w disk
      → Evicted d b base s old w disk
  stays_then s old t v mid one w disk stops is =
      record { now = t; on = goes_on_then d b base s old t v mid one t w disk (record { working = is.working; goes = record { writing = is.writing; stops = stops; keeps = keeps_none b t }; known = is.known }) }

-- ---- the step

module _ {D : Type 0} (d : Ghosts D) (b : Base) (base : ℕ) (s : Writer) (e : ℕ) (log new_log : LogFile) (table new_table : TableView) (pool new_pool : PoolView) (old new : D) (entry : Entry) (lsn : ℕ) (frame : Frame)
    (w : IsWriting d b base s log table pool old) (over : s.redo_end ≡ Some e) (body : Body) (after : after_in (what_of entry) ≡ Some body) (done : Appended d base s.log s.durable entry lsn old new_log new) (here : page_of entry ≡ frame.number) where
  leaves : LeavesBody lsn (what_of entry) body
  leaves = leaves_body lsn (what_of entry) body after

  -- its copy is the page as the log then has it
  exact : (c : Page) → copy_in lsn (what_of entry) ≡ Some c → c ≡ page_at b (logged_at lsn entry ∷ s.log) (page_of entry)
  exact c holds =
      let same : Some c ≡ Some (record { lsn = lsn; body = body }) = sym holds ∙ leaves.copy in
      let is : c ≡ record { lsn = lsn; body = body } = cc same in
      is ∙ sym (cond-true (page_of entry == page_of entry) (page_after lsn (what_of entry) (page_at b s.log (page_of entry))) (page_at b s.log (page_of entry)) (eq-eqb (page_of entry) (page_of entry) refl) ∙ leaves.after (page_at b s.log (page_of entry)))

  may : MayAppend b s (logged_at lsn entry)
  may = record {
    redo_end = e;
    over = over;
    last = done.rises b w.based;
    exact = exact;
    point = next_point b s (logged_at lsn entry) e w.stands.kept over (done.rises b w.based) leaves.point;
  }

  -- The append with the page made the one after, and its entry, is one step of the writer.
  pub left_by : IsOpen d new_log new → ChangesOnly d Log old new → is_some (held_of pool frame.number) ≡ true → Sets frame (record { lsn = lsn; body = body }) true pool new_pool
      → ChangesEntry frame.number (changed_entry true lsn) table new_table → IsWriting d b base (record (changed (logged_at lsn entry) s) { durable = done.now_durable }) new_log new_table new_pool new
  left_by opened changes held sets enters =
      let set : Sets frame (page_after lsn (what_of entry) (s.pages frame.number).page) true pool new_pool = subst (λ (g : Page). Sets frame g true pool new_pool) (sym (leaves.after (s.pages frame.number).page)) sets in
      step_by d b base s log new_log table new_table pool new_pool old new entry lsn frame w may done here (holds_copy (what_of entry)) (changed_kept b s (logged_at lsn entry) w.stands.kept may leaves.names) opened changes held set
      (subst (λ (k : Bool). ChangesEntry frame.number (changed_entry k lsn) table new_table) (sym leaves.holds) enters)
