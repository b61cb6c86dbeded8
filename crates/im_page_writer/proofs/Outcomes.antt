-- Calls over the writer of pages in a row, and how they end together.
use Rattle.std.proofs.Common.{◌≡◌, ◌≢◌, ◌⊎◌, inl, inr, ◌<◌, ◌^◌, ℕ, Bool, false, true, Option, None, Some, refl, sym, ◌∙◌, ap, subst, arith}
use Rattle.std.specs.Prelude.{◌↔◌, Result, Ok, Err, MatchBool, not, is_ok, IsErrAnd, IfErr, IfOk, OnOk}
use Rattle.im_base_types.specs.declared.fault.Fault.{Fault}
use Rattle.im_base_types.specs.declared.fault.Fault.TheVariants.{Device, Failed, LogFull, Memory, NotAStore}
use Rattle.im_theory_log.specs.Histories.{Base}
use Rattle.im_theory_log.specs.Writer.{Writer}
use Rattle.im_base_disk.specs.declared.disk.Disk.{Ghosts}
use Rattle.im_base_disk.specs.Disk.{Files}
use Rattle.im_theory_page.specs.Header.{initial}
use Rattle.im_page_pool.specs.declared.frame.Frame.{Frame}
use Rattle.im_page_pool.specs.Pool.{PoolView, held_of, page_at, IsAt}
use Rattle.im_log.specs.declared.log_file.LogFile.{LogFile}
use Rattle.im_log.specs.LogFile.{HasNoRoom, end_with}
use Rattle.im_page_table.specs.DirtyTable.{TableView}
use Rattle.im_page_writer.specs.declared.page_writer.PageWriter.{PageWriter}
use Rattle.im_page_table.specs.Growth.{Keeps}
use Rattle.im_page_writer.specs.Synced.{IsKnown}
use Rattle.im_page_writer.specs.declared.known.Known.{Known}
use Rattle.im_page_file.specs.LogEnds.{EndsNoSooner}
use Rattle.im_page_flush.specs.Writing.{Goes, LeavesGrown}
use Rattle.im_page_writer.specs.PageWriter.{IsReadyWriter, StandsAs, GoesOn, Evicted}
use Rattle.im_page_writer.specs.Outcome.{fault_of, mild, no_page, none_mild, AllPages, pages_of, AsksNothing, AreLoaded, AreLoadedTo, HasPages, IsSound, Stays, Breaks, Ends, Outcome, Reads, Lists, Flushes, Works, LogEnds, Logs, RedoEnds, Redoes}
use Rattle.im_page_flush.proofs.Goings.{leaves_then, leaves_so_far}
use Rattle.im_page_file.proofs.LogEnds.{ends_then, still_working}
use Rattle.im_page_writer.proofs.LoggedChanges.{at_shows}
use Rattle.im_page_writer.proofs.Writers.{goes_on_start, goes_on_then}

broken_of : (failed : Bool) → (failed ≡ false → ⊥) → failed ≡ true
broken_of true never = refl
broken_of false never = absurd (never refl)

-- pages that have their copies keep them
pub loaded_still : (b : Base) (s t : Writer) → Keeps b s t → AreLoaded s → AreLoaded t
loaded_still b s t keeps ready q = (keeps.pages q).waits ∙ ready q

pub loaded_to_still : (p : ℕ) (b : Base) (s t : Writer) → Keeps b s t → AreLoadedTo p s → AreLoadedTo p t
loaded_to_still p b s t keeps ready q le = (keeps.pages q).waits ∙ ready q le

-- where it stands after calls in a row
pub stands_on : {D : Type 0} (d : Ghosts D) (b : Base) (base : ℕ) (s : Writer) (old : D) (t : Writer) (w : PageWriter) (mid : D) → GoesOn d b base s old t w mid → StandsAs d b base t w mid
stands_on d b base s old t w mid on = record { working = on.working; writing = on.goes.writing; known = on.known }

-- ---- calls that ask the same of the pages, which such calls keep

module _ {D : Type 0} (d : Ghosts D) (asks : Writer → Type 0) (still : (b : Base) (s t : Writer) → Keeps b s t → asks s → asks t) where
  module _ (v : PageWriter) (old : D) (w : PageWriter) (mid : D) (one : Stays d asks v old w mid) where
    -- a call after another that changed no page
    pub stays_then : (x : PageWriter) (new : D) → Stays d asks w mid x new → Stays d asks v old x new
    stays_then x new two = record {
      began = one.began;
      works = two.works;
      alive = two.alive;
      later = ends_then v.log w.log x.log one.later two.later;
      goes = λ b base s is ready.
          let first = one.goes b base s is ready in
          let next = two.goes b base first.now (stands_on d b base s old first.now w mid first.on) (still b s first.now first.on.goes.keeps ready) in
          record { now = next.now; on = goes_on_then d b base s old first.now w mid first.on next.now x new next.on };
    }

    pub breaks_then : (x : PageWriter) (new : D) → Breaks d asks w mid x new → Breaks d asks v old x new
    breaks_then x new two = record {
      began = one.began;
      broken = two.broken;
      stops = λ b base s is ready.
          let first = one.goes b base s is ready in
          leaves_then d b base s old first.now w.log w.table w.pool mid first.on.goes new
          (two.stops b base first.now (stands_on d b base s old first.now w mid first.on) (still b s first.now first.on.goes.keeps ready));
    }

    pub ends_behind : (m : Fault → Bool) (x : PageWriter) (new : D) (why : Option Fault) → Ends d asks m w mid x new why → Ends d asks m v old x new why
    ends_behind m x new None two = stays_then x new two
    ends_behind m x new (Some Failed) two = absurd (let clash : false ≡ true = sym one.works ∙ two.0 in cc clash)
    ends_behind m x new (Some Device) two = (breaks_then x new two.0, two.1)
    ends_behind m x new (Some LogFull) two = (breaks_then x new two.0, two.1, two.2, two.3)
    ends_behind m x new (Some e) two = (two.0, stays_then x new two.1)

-- ---- a call that asks less

module _ {D : Type 0} (d : Ghosts D) (asks less : Writer → Type 0) (to : (s : Writer) → asks s → less s) where
  pub stays_asking : (v : PageWriter) (old : D) (w : PageWriter) (new : D) → Stays d less v old w new → Stays d asks v old w new
  stays_asking v old w new one = record { began = one.began; works = one.works; alive = one.alive; later = one.later; goes = λ b base s is ready. one.goes b base s is (to s ready) }

  breaks_asking : (v : PageWriter) (old : D) (w : PageWriter) (new : D) → Breaks d less v old w new → Breaks d asks v old w new
  breaks_asking v old w new one = record { began = one.began; broken = one.broken; stops = λ b base s is ready. one.stops b base s is (to s ready) }

  pub ends_asking : (m : Fault → Bool) (v : PageWriter) (old : D) (w : PageWriter) (new : D) (why : Option Fault) → Ends d less m v old w new why → Ends d asks m v old w new why
  ends_asking m v old w new None one = stays_asking v old w new one
  ends_asking m v old w new (Some Failed) one = one
  ends_asking m v old w new (Some Device) one = (breaks_asking v old w new one.0, one.1)
  ends_asking m v old w new (Some LogFull) one = (breaks_asking v old w new one.0, one.1, one.2, one.3)
  ends_asking m v old w new (Some e) one = (one.0, stays_asking v old w new one.1)

-- ---- calls that write pages, or none, and ask nothing

pub none_still : (b : Base) (s t : Writer) → Keeps b s t → AsksNothing s → AsksNothing t
none_still b s t keeps asked = tt

-- none of the refusals after which such a call goes on, which has none
pub none_mildly : (m : Fault → Bool) (e : Fault) → none_mild e ≡ true → m e ≡ true
none_mildly m e is = absurd (let clash : false ≡ true = is in cc clash)

-- one for bytes that are no store's, of a call that goes on after these
pub no_page_for : (m : Fault → Bool) → m NotAStore ≡ true → (e : Fault) → no_page e ≡ true → m e ≡ true
no_page_for m may NotAStore is = may
no_page_for m may e is = absurd (let clash : false ≡ true = is in cc clash)

module _ {D : Type 0} (d : Ghosts D) where
  flush_ends : (asks : Writer → Type 0) (m : Fault → Bool) (v : PageWriter) (old : D) (w : PageWriter) (new : D) (why : Option Fault) → Ends d AsksNothing none_mild v old w new why → Ends d asks m v old w new why
  flush_ends asks m v old w new None one = stays_asking d asks AsksNothing (λ s asked. tt) v old w new one
  flush_ends asks m v old w new (Some Failed) one = one
  flush_ends asks m v old w new (Some Device) one = (breaks_asking d asks AsksNothing (λ s asked. tt) v old w new one.0, one.1)
  flush_ends asks m v old w new (Some LogFull) one = (breaks_asking d asks AsksNothing (λ s asked. tt) v old w new one.0, one.1, one.2, one.3)
  flush_ends asks m v old w new (Some e) one = absurd (let clash : false ≡ true = one.0 in cc clash)

  -- such a call, where something is asked, and other calls are refused for more causes
  pub flush_asks : {asks : Writer → Type 0} {m : Fault → Bool} {v : PageWriter} {old : D} {w : PageWriter} {new : D} {why : Option Fault} → Flushes d v old w new why → Outcome d asks m v old w new why
  flush_asks {asks} {m} {v} {old} {w} {new} {why} one = record { ready = one.ready; frames = one.frames; ends = flush_ends asks m v old w new why one.ends }

  -- it is refused neither for bytes that are no store's nor for want of memory
  pub flush_sound : {v : PageWriter} {old : D} {w : PageWriter} {new : D} {f : Fault} → Flushes d v old w new (Some f) → f ≢ NotAStore
  flush_sound {v} {old} {w} {new} {f} one is = let moved = subst (λ (x : Fault). Flushes d v old w new (Some x)) is one in let clash : false ≡ true = moved.ends.0 in cc clash

  pub flush_never_short : {v : PageWriter} {old : D} {w : PageWriter} {new : D} {f : Fault} → Flushes d v old w new (Some f) → f ≢ Memory
  flush_never_short {v} {old} {w} {new} {f} one is = let moved = subst (λ (x : Fault). Flushes d v old w new (Some x)) is one in let clash : false ≡ true = moved.ends.0 in cc clash

  -- a refusal that is handed on, whatever is asked
  pub handed_on : {A : Type 0} {asks : Writer → Type 0} {m : Fault → Bool} {v : PageWriter} {old : D} {w : PageWriter} {new : D} {f : Fault} (r : Result A Fault) → IsErrAnd r (λ e. e ≡ f) → Outcome d asks m v old w new (Some f) → Outcome d asks m v old w new (fault_of r)
  handed_on {A} {asks} {m} {v} {old} {w} {new} {f} (Ok a) is one = absurd is
  handed_on {A} {asks} {m} {v} {old} {w} {new} {f} (Err e) is one = subst (λ (x : Fault). Outcome d asks m v old w new (Some x)) (sym is) one

  -- a refusal for bytes that are no store's, after calls that were not refused
  pub own_bytes : {A : Type 0} {asks : Writer → Type 0} {v : PageWriter} {old : D} {w : PageWriter} {new : D} (X : Type 0) (r : Result A Fault) → IfErr r (λ e. (e ≡ NotAStore) × X) → Outcome d asks no_page v old w new None → Outcome d asks no_page v old w new (fault_of r)
  own_bytes {A} {asks} {v} {old} {w} {new} X (Ok a) is one = one
  own_bytes {A} {asks} {v} {old} {w} {new} X (Err e) is one = subst (λ (x : Fault). Outcome d asks no_page v old w new (Some x)) (sym is.0) (record { ready = one.ready; frames = one.frames; ends = (refl, one.ends) })

  -- a call of the log or of the disk that failed
  broken_end : (asks : Writer → Type 0) (m : Fault → Bool) (v : PageWriter) (old : D) (w : PageWriter) (new : D) → Breaks d asks v old w new → (e : Fault) → (e ≡ LogFull) ⊎ (e ≡ Device) → (e ≡ LogFull → HasNoRoom w.log) → (e ≡ LogFull → 2 ^ 62 < end_with w.log 4129)
      → (e ≡ Device) ↔ (d.failed new ≡ true) → Ends d asks m v old w new (Some e)
  broken_end asks m v old w new breaks e (inl is) no_room full lost =
      subst (λ (f : Fault). Ends d asks m v old w new (Some f)) (sym is)
      (breaks, still_working (d.failed new) (λ failed. let clash : LogFull ≡ Device = sym is ∙ lost.1 failed in let never : ⊥ = cc clash in never), no_room is, full is)
  broken_end asks m v old w new breaks e (inr is) no_room full lost = subst (λ (f : Fault). Ends d asks m v old w new (Some f)) (sym is) (breaks, lost.0 is)

  pub broken_on : {A : Type 0} {asks : Writer → Type 0} {m : Fault → Bool} {v : PageWriter} {old : D} {w : PageWriter} {new : D} {f : Fault} (r : Result A Fault) → IsErrAnd r (λ e. e ≡ f) → IsReadyWriter d w new → v.failed ≡ false → w.failed ≡ true
      → ((b : Base) (base : ℕ) (s : Writer) → StandsAs d b base s v old → asks s → LeavesGrown d b base s old new) → (f ≡ LogFull) ⊎ (f ≡ Device) → (f ≡ LogFull → HasNoRoom w.log) → (f ≡ LogFull → 2 ^ 62 < end_with w.log 4129) → (f ≡ Device) ↔ (d.failed new ≡ true)
      → w.pool.frames ≡ v.pool.frames → Outcome d asks m v old w new (fault_of r)
  broken_on {A} {asks} {m} {v} {old} {w} {new} {f} r is ready began fails stops causes no_room full lost frames =
      handed_on r is (record { ready = ready; frames = frames; ends = broken_end asks m v old w new (record { began = began; broken = fails; stops = stops }) f causes no_room full lost })

  -- a read that was refused
  pub read_ends : {asks : Writer → Type 0} {v : PageWriter} {old : D} {w : PageWriter} {new : D} (e : Fault) → (e ≡ NotAStore) ⊎ (e ≡ Device) → (e ≡ Device → Breaks d asks v old w new × (d.failed new ≡ true)) → (e ≡ NotAStore → Stays d asks v old w new) → Ends d asks no_page v old w new (Some e)
  read_ends {asks} {v} {old} {w} {new} e (inl is) breaks stays = subst (λ (f : Fault). Ends d asks no_page v old w new (Some f)) (sym is) (refl, stays is)
  read_ends {asks} {v} {old} {w} {new} e (inr is) breaks stays = subst (λ (f : Fault). Ends d asks no_page v old w new (Some f)) (sym is) (breaks is)

  -- a step of the writer that changes no page, as a call that writes some
  step_ends : (v : PageWriter) (old : D) (w : PageWriter) (new : D) → EndsNoSooner v.log w.log → ((b : Base) (base : ℕ) (s : Writer) → StandsAs d b base s v old → LeavesGrown d b base s old new) → (why : Option Fault) → (why ≡ Some LogFull → ⊥)
      → ((b : Base) (base : ℕ) (s : Writer) → StandsAs d b base s v old → why ≡ None → Evicted d b base s old w new) → LogEnds d false none_mild v old w new why → Ends d AsksNothing none_mild v old w new why
  step_ends v old w new later stops None room goes one = record { began = one.began; works = one.works; alive = one.alive; later = later; goes = λ b base s is asked. goes b base s is refl }
  step_ends v old w new later stops (Some Failed) room goes one = one
  step_ends v old w new later stops (Some Device) room goes one = (record { began = one.0.began; broken = one.0.broken; stops = λ b base s is asked. stops b base s is }, one.1)
  step_ends v old w new later stops (Some LogFull) room goes one = absurd (room refl)
  step_ends v old w new later stops (Some NotAStore) room goes one = absurd (let clash : false ≡ true = one.0 in cc clash)
  step_ends v old w new later stops (Some e) room goes one = absurd (let clash : false ≡ true = one.0 in cc clash)

  done_of : {A : Type 0} (r : Result A Fault) (P : Type 0) → OnOk r P → fault_of r ≡ None → P
  done_of (Ok a) P is none = is
  done_of (Err e) P is none = absurd (cc none)

  full_of : {A : Type 0} (r : Result A Fault) → (r ≡ Err LogFull → ⊥) → fault_of r ≡ Some LogFull → ⊥
  full_of (Ok a) never is = cc is
  full_of (Err e) never is = never (let same : e ≡ LogFull = cc is in ap Err same)

  pub step_flushes : {A : Type 0} {v : PageWriter} {old : D} {w : PageWriter} {new : D} (r : Result A Fault) → Logs d false none_mild v old w new (fault_of r) → (r ≡ Err LogFull → ⊥) → EndsNoSooner v.log w.log
      → ((b : Base) (base : ℕ) (s : Writer) → StandsAs d b base s v old → OnOk r (Evicted d b base s old w new)) → ((b : Base) (base : ℕ) (s : Writer) → StandsAs d b base s v old → LeavesGrown d b base s old new) → Flushes d v old w new (fault_of r)
  step_flushes {A} {v} {old} {w} {new} r one room later goes stops =
      record { ready = one.ready; frames = one.frames; ends = step_ends v old w new later stops (fault_of r) (full_of r room) (λ b base s is none. done_of r _ (goes b base s is) none) one.ends }

  -- no call was made: the writer is as it was
  pub idle_any : ((disk : D) (c : Files) → d.left_since disk (d.moment disk) c → d.may_leave disk c) → {asks : Writer → Type 0} {m : Fault → Bool} (v : PageWriter) (old : D) → v.failed ≡ false → IsReadyWriter d v old → Outcome d asks m v old v old None
  idle_any only_now {asks} {m} v old works ready =
      let opened = ready.opened works in
      record {
        ready = ready;
        frames = refl;
        ends = record {
          began = works;
          works = works;
          alive = opened.ready.reading.working (opened.working (ready.works works));
          later = record { each = λ size. omega arith; generation = refl };
          goes = λ b base s is asked. record { now = s; on = goes_on_start d b base s v old (only_now old) is };
        };
      }

  -- the pages that a writer shows
  pub pages_as : {asks : Writer → Type 0} (b : Base) (base : ℕ) (s : Writer) (w : PageWriter) (disk : D) → StandsAs d b base s w disk → asks s → HasPages d asks (pages_of s) w disk
  pages_as {asks} b base s w disk is asked = record { b = b; base = base; now = s; stands = is; asked = asked; shows = λ p. refl }

module _ {D : Type 0} (d : Ghosts D) (asks : Writer → Type 0) (still : (b : Base) (s t : Writer) → Keeps b s t → asks s → asks t) where
  -- a call after another
  pub behind : {m n : Fault → Bool} {v : PageWriter} {old : D} {w : PageWriter} {mid : D} {x : PageWriter} {new : D} {why : Option Fault} → Outcome d asks m v old w mid None → Outcome d asks n w mid x new why → Outcome d asks n v old x new why
  behind {m} {n} {v} {old} {w} {mid} {x} {new} {why} one two = record { ready = two.ready; frames = two.frames ∙ one.frames; ends = ends_behind d asks still v old w mid one.ends n x new why two.ends }

  -- the pages are there still
  pub has_still : {m : Fault → Bool} {pages : AllPages} {v : PageWriter} {old : D} {w : PageWriter} {mid : D} → HasPages d asks pages v old → Outcome d asks m v old w mid None → HasPages d asks pages w mid
  has_still {m} {pages} {v} {old} {w} {mid} has one =
      let on = one.ends.goes has.b has.base has.now has.stands has.asked in
      record {
        b = has.b;
        base = has.base;
        now = on.now;
        stands = stands_on d has.b has.base has.now old on.now w mid on.on;
        asked = still has.b has.now on.now on.on.goes.keeps has.asked;
        shows = λ p. (on.on.goes.keeps.pages p).page ∙ has.shows p;
      }

-- ---- calls of redo

module _ {D : Type 0} (d : Ghosts D) where
  worked : {asks : Writer → Type 0} {v : PageWriter} {old : D} {w : PageWriter} {new : D} → Stays d asks v old w new → Works d v w new
  worked {asks} {v} {old} {w} {new} one = record { began = one.began; works = one.works; alive = one.alive }

  redo_ends : (asks : Writer → Type 0) (n m : Fault → Bool) → ((e : Fault) → n e ≡ true → m e ≡ true) → (v : PageWriter) (old : D) (w : PageWriter) (new : D) (why : Option Fault) → Ends d asks n v old w new why → RedoEnds d m v w new why
  redo_ends asks n m may v old w new None one = worked one
  redo_ends asks n m may v old w new (Some Failed) one = one
  redo_ends asks n m may v old w new (Some Device) one = (record { began = one.0.began; broken = one.0.broken }, one.1)
  redo_ends asks n m may v old w new (Some LogFull) one = (record { began = one.0.began; broken = one.0.broken }, one.1, one.2, one.3)
  redo_ends asks n m may v old w new (Some e) one = (may e one.0, worked one.1)

  -- a call that changes no page, as one of redo
  pub redo_of : {asks : Writer → Type 0} {n m : Fault → Bool} {v : PageWriter} {old : D} {w : PageWriter} {new : D} {why : Option Fault} → ((e : Fault) → n e ≡ true → m e ≡ true) → Outcome d asks n v old w new why → Redoes d m v w new why
  redo_of {asks} {n} {m} {v} {old} {w} {new} {why} may one = record { ready = one.ready; frames = one.frames; ends = redo_ends asks n m may v old w new why one.ends }

  redo_behind : (m : Fault → Bool) (v w : PageWriter) (mid : D) → Works d v w mid → (x : PageWriter) (new : D) (why : Option Fault) → RedoEnds d m w x new why → RedoEnds d m v x new why
  redo_behind m v w mid one x new None two = record { began = one.began; works = two.works; alive = two.alive }
  redo_behind m v w mid one x new (Some Failed) two = absurd (let clash : false ≡ true = sym one.works ∙ two.0 in cc clash)
  redo_behind m v w mid one x new (Some Device) two = (record { began = one.began; broken = two.0.broken }, two.1)
  redo_behind m v w mid one x new (Some LogFull) two = (record { began = one.began; broken = two.0.broken }, two.1, two.2, two.3)
  redo_behind m v w mid one x new (Some e) two = (two.0, record { began = one.began; works = two.1.works; alive = two.1.alive })

  -- a call of redo after another, or after one that changed no page
  pub redo_then : {m : Fault → Bool} {v w : PageWriter} {mid : D} {x : PageWriter} {new : D} {why : Option Fault} → Redoes d m v w mid None → Redoes d m w x new why → Redoes d m v x new why
  redo_then {m} {v} {w} {mid} {x} {new} {why} one two = record { ready = two.ready; frames = two.frames ∙ one.frames; ends = redo_behind m v w mid one.ends x new why two.ends }

  pub redo_refused : {A : Type 0} {m : Fault → Bool} {v w : PageWriter} {new : D} {f : Fault} (r : Result A Fault) → IsErrAnd r (λ e. e ≡ f) → Redoes d m v w new (Some f) → Redoes d m v w new (fault_of r)
  redo_refused {A} {m} {v} {w} {new} {f} (Ok a) is one = absurd is
  redo_refused {A} {m} {v} {w} {new} {f} (Err e) is one = subst (λ (x : Fault). Redoes d m v w new (Some x)) (sym is) one

  -- what is answered or refused of its own
  pub redo_own : {A : Type 0} {v w : PageWriter} {new : D} (X : Type 0) (r : Result A Fault) → IsReadyWriter d w new → v.failed ≡ false → w.failed ≡ false → d.failed new ≡ false → IfErr r (λ e. (e ≡ NotAStore) × X) → w.pool.frames ≡ v.pool.frames → Redoes d no_page v w new (fault_of r)
  redo_own {A} {v} {w} {new} X (Ok a) ready began works alive is frames = record { ready = ready; frames = frames; ends = record { began = began; works = works; alive = alive } }
  redo_own {A} {v} {w} {new} X (Err e) ready began works alive is frames = record { ready = ready; frames = frames; ends = subst (λ (f : Fault). RedoEnds d no_page v w new (Some f)) (sym is.0) (refl, record { began = began; works = works; alive = alive }) }

-- ---- searches

module _ {D : Type 0} (d : Ghosts D) where
  -- how two calls end together, of which the first was not refused
  pub then : {m n : Fault → Bool} {v : PageWriter} {old : D} {w : PageWriter} {mid : D} {x : PageWriter} {new : D} {why : Option Fault} → Outcome d AreLoaded m v old w mid None → Outcome d AreLoaded n w mid x new why → Outcome d AreLoaded n v old x new why
  then {m} {n} {v} {old} {w} {mid} {x} {new} {why} one two = record { ready = two.ready; frames = two.frames ∙ one.frames; ends = ends_behind d AreLoaded loaded_still v old w mid one.ends n x new why two.ends }

  -- a refusal that is handed on
  pub refused : {A : Type 0} {m : Fault → Bool} {v : PageWriter} {old : D} {w : PageWriter} {new : D} {f : Fault} (r : Result A Fault) → IsErrAnd r (λ e. e ≡ f) → Outcome d AreLoaded m v old w new (Some f) → Outcome d AreLoaded m v old w new (fault_of r)
  refused {A} {m} {v} {old} {w} {new} {f} (Ok a) is one = absurd is
  refused {A} {m} {v} {old} {w} {new} {f} (Err e) is one = subst (λ (x : Fault). Outcome d AreLoaded m v old w new (Some x)) (sym is) one

  -- a refusal of its own after a call: the writer goes on
  pub refuses : {n m : Fault → Bool} {v : PageWriter} {old : D} {w : PageWriter} {new : D} (f : Fault) → mild f ≡ true → m f ≡ true → Outcome d AreLoaded n v old w new None → Outcome d AreLoaded m v old w new (Some f)
  refuses {n} {m} {v} {old} {w} {new} Memory mildly is one = record { ready = one.ready; frames = one.frames; ends = (is, one.ends) }
  refuses {n} {m} {v} {old} {w} {new} NotAStore mildly is one = record { ready = one.ready; frames = one.frames; ends = (is, one.ends) }
  refuses {n} {m} {v} {old} {w} {new} e mildly is one = absurd (cc mildly)

  pub out_of_memory : {n : Fault → Bool} {v : PageWriter} {old : D} {w : PageWriter} {new : D} {f : Fault} → f ≡ Memory → Outcome d AreLoaded n v old w new None → Lists d v old w new (Some f)
  out_of_memory {n} {v} {old} {w} {new} {f} is one = subst (λ (x : Fault). Lists d v old w new (Some x)) (sym is) (refuses Memory refl refl one)

  -- the get of a page, as a search
  pub search_of : {p : ℕ} {v : PageWriter} {old : D} {w : PageWriter} {new : D} {why : Option Fault} → Outcome d (AreLoadedTo p) no_page v old w new why → Reads d v old w new why
  search_of {p} {v} {old} {w} {new} {why} one = record { ready = one.ready; frames = one.frames; ends = ends_asking d AreLoaded (AreLoadedTo p) (λ s ready q le. ready q) no_page v old w new why one.ends }

-- ---- calls after which the writer goes on for more causes

module _ {D : Type 0} (d : Ghosts D) (m : Fault → Bool) where
  more_ends : (n : Fault → Bool) → ((e : Fault) → n e ≡ true → m e ≡ true) → (v : PageWriter) (old : D) (w : PageWriter) (new : D) (why : Option Fault) → Ends d AreLoaded n v old w new why → Ends d AreLoaded m v old w new why
  more_ends n may v old w new None one = one
  more_ends n may v old w new (Some Failed) one = one
  more_ends n may v old w new (Some Device) one = one
  more_ends n may v old w new (Some LogFull) one = one
  more_ends n may v old w new (Some e) one = (may e one.0, one.1)

  -- a search is such a call, and so is one after which the writer goes on for fewer causes
  pub with_more : {n : Fault → Bool} → ((e : Fault) → n e ≡ true → m e ≡ true) → {v : PageWriter} {old : D} {w : PageWriter} {new : D} {why : Option Fault} → Outcome d AreLoaded n v old w new why → Outcome d AreLoaded m v old w new why
  with_more {n} may {v} {old} {w} {new} {why} one = record { ready = one.ready; frames = one.frames; ends = more_ends n may v old w new why one.ends }

  -- and so is a search that makes nothing grow, where something may
  pub read_more : m NotAStore ≡ true → {v : PageWriter} {old : D} {w : PageWriter} {new : D} {why : Option Fault} → Reads d v old w new why → Outcome d AreLoaded m v old w new why
  read_more may one = with_more (no_page_for m may) one

  own_end : m Failed ≡ false → m Device ≡ false → m LogFull ≡ false → (v : PageWriter) (old : D) (w : PageWriter) (new : D) (e : Fault) → m e ≡ true → Stays d AreLoaded v old w new → Ends d AreLoaded m v old w new (Some e)
  own_end failed device full v old w new Failed is one = absurd (let clash : false ≡ true = sym failed ∙ is in cc clash)
  own_end failed device full v old w new Device is one = absurd (let clash : false ≡ true = sym device ∙ is in cc clash)
  own_end failed device full v old w new LogFull is one = absurd (let clash : false ≡ true = sym full ∙ is in cc clash)
  own_end failed device full v old w new e is one = (is, one)

  -- what a call answers or refuses of its own, after calls that were not refused
  pub ends_own : m Failed ≡ false → m Device ≡ false → m LogFull ≡ false → {A : Type 0} {n : Fault → Bool} {v : PageWriter} {old : D} {w : PageWriter} {new : D} (r : Result A Fault) → Outcome d AreLoaded n v old w new None → IfErr r (λ e. m e ≡ true)
      → Outcome d AreLoaded m v old w new (fault_of r)
  ends_own failed device full {A} {n} {v} {old} {w} {new} (Ok a) one may = record { ready = one.ready; frames = one.frames; ends = one.ends }
  ends_own failed device full {A} {n} {v} {old} {w} {new} (Err e) one may = record { ready = one.ready; frames = one.frames; ends = own_end failed device full v old w new e may one.ends }

-- ---- pages after calls that change none

-- a refusal that is handed on is for no bytes that are no store's
pub sound_on : {A : Type 0} (r : Result A Fault) (f : Fault) (P : A → Type 0) → IsErrAnd r (λ e. e ≡ f) → f ≢ NotAStore → IsSound r P
sound_on (Ok a) f P is has = absurd is
sound_on (Err e) f P is has = λ same. has (sym is ∙ same)

-- what a call answers of its own
pub sound_own : {A : Type 0} (r : Result A Fault) (P Q : A → Type 0) → IfOk r P → IfErr r (λ e. e ≢ NotAStore) → ((a : A) → P a → Q a) → IsSound r Q
sound_own (Ok a) P Q is sound to = to a is
sound_own (Err e) P Q is sound to = sound

pub sound_done : {A : Type 0} (r : Result A Fault) (P Q : Type 0) → OnOk r P → IfErr r (λ e. e ≢ NotAStore) → (P → Q) → IsSound r (λ a. Q)
sound_done (Ok a) P Q is sound to = to is
sound_done (Err e) P Q is sound to = sound

-- an answer that says more
pub sound_also : {A : Type 0} (r : Result A Fault) (P Q : A → Type 0) → IsSound r P → ((a : A) → P a → Q a) → IsSound r Q
sound_also (Ok a) P Q is to = to a is
sound_also (Err e) P Q sound to = sound

module _ {D : Type 0} (d : Ghosts D) where
  never_ends : (m : Fault → Bool) (v : PageWriter) (old : D) (w : PageWriter) (new : D) (f : Fault) → m f ≡ false → (f ≡ Failed → ⊥) → (f ≡ Device → ⊥) → (f ≡ LogFull → ⊥) → (e : Fault) → e ≡ f → Ends d AreLoaded m v old w new (Some e) → ⊥
  never_ends m v old w new f not failed device full Failed is one = failed (sym is)
  never_ends m v old w new f not failed device full Device is one = device (sym is)
  never_ends m v old w new f not failed device full LogFull is one = full (sym is)
  never_ends m v old w new f not failed device full e is one = let clash : false ≡ true = sym not ∙ ap m (sym is) ∙ one.0 in cc clash

  -- a refusal that a call does not have
  pub never_refused : {m : Fault → Bool} (f : Fault) → m f ≡ false → (f ≡ Failed → ⊥) → (f ≡ Device → ⊥) → (f ≡ LogFull → ⊥) → {A : Type 0} {v : PageWriter} {old : D} {w : PageWriter} {new : D} {e : Fault} (r : Result A Fault) (P : Type 0)
      → IsErrAnd r (λ x. x ≡ e) → Outcome d AreLoaded m v old w new (Some e) → IfErr r (λ x. x ≡ f → P)
  never_refused {m} f not failed device full {A} {v} {old} {w} {new} {e} (Ok a) P is one = tt
  never_refused {m} f not failed device full {A} {v} {old} {w} {new} {e} (Err x) P is one = λ same. absurd (never_ends m v old w new f not failed device full e (sym is ∙ same) one.ends)

module _ {D : Type 0} (d : Ghosts D) where
  pub pages_still : {m : Fault → Bool} {pages : AllPages} {v : PageWriter} {old : D} {w : PageWriter} {mid : D} → HasPages d AreLoaded pages v old → Outcome d AreLoaded m v old w mid None → HasPages d AreLoaded pages w mid
  pages_still {m} {pages} {v} {old} {w} {mid} has one =
      let on = one.ends.goes has.b has.base has.now has.stands has.asked in
      record {
        b = has.b;
        base = has.base;
        now = on.now;
        stands = stands_on d has.b has.base has.now old on.now w mid on.on;
        asked = loaded_still has.b has.now on.now on.on.goes.keeps has.asked;
        shows = λ p. (on.on.goes.keeps.pages p).page ∙ has.shows p;
      }

  -- and where only some are asked for
  pub pages_to : {pages : AllPages} {v : PageWriter} {old : D} (p : ℕ) → HasPages d AreLoaded pages v old → HasPages d (AreLoadedTo p) pages v old
  pages_to {pages} {v} {old} p has = record { b = has.b; base = has.base; now = has.now; stands = has.stands; asked = λ q le. has.asked q; shows = has.shows }

  -- a held page is the one of its number
  pub held_is : {pages : AllPages} {w : PageWriter} {disk : D} (frame : Frame) → HasPages d AreLoaded pages w disk → IsAt w.pool frame → page_at w.pool frame.number ≡ pages frame.number
  held_is {pages} {w} {disk} frame has at = at_shows (held_of w.pool frame.number) frame.place (has.now.pages frame.number) (initial 0) at (has.stands.writing.pooled.shows frame.number) ∙ has.shows frame.number

-- ---- calls that log records of their own

module _ {D : Type 0} (d : Ghosts D) where
  works_behind : {v : PageWriter} {old : D} {w : PageWriter} {mid : D} → Stays d AreLoaded v old w mid → {x : PageWriter} {new : D} → Works d w x new → Works d v x new
  works_behind {v} {old} {w} {mid} one {x} {new} two = record { began = one.began; works = two.works; alive = two.alive }

  late_failed : (late : Bool) (v : PageWriter) (old : D) (w : PageWriter) (mid : D) → Stays d AreLoaded v old w mid → (x : PageWriter) (new : D) → MatchBool late (Works d w x new) ((w.failed ≡ true) × (x.failed ≡ true)) → MatchBool late (Works d v x new) ((v.failed ≡ true) × (x.failed ≡ true))
  late_failed true v old w mid one x new two = works_behind one two
  late_failed false v old w mid one x new two = absurd (let clash : false ≡ true = sym one.works ∙ two.0 in cc clash)

  late_bytes : (late : Bool) (m : Fault → Bool) (v : PageWriter) (old : D) (w : PageWriter) (mid : D) → Stays d AreLoaded v old w mid → (x : PageWriter) (new : D) → MatchBool late (Works d w x new) ((m NotAStore ≡ true) × Stays d AreLoaded w mid x new)
      → MatchBool late (Works d v x new) ((m NotAStore ≡ true) × Stays d AreLoaded v old x new)
  late_bytes true m v old w mid one x new two = works_behind one two
  late_bytes false m v old w mid one x new two = (two.0, stays_then d AreLoaded loaded_still v old w mid one x new two.1)

  logs_behind : (late : Bool) (m : Fault → Bool) (v : PageWriter) (old : D) (w : PageWriter) (mid : D) → Stays d AreLoaded v old w mid → (x : PageWriter) (new : D) (why : Option Fault) → LogEnds d late m w mid x new why → LogEnds d late m v old x new why
  logs_behind late m v old w mid one x new None two = works_behind one two
  logs_behind late m v old w mid one x new (Some Failed) two = late_failed late v old w mid one x new two
  logs_behind late m v old w mid one x new (Some NotAStore) two = late_bytes late m v old w mid one x new two
  logs_behind late m v old w mid one x new (Some Device) two = (record { began = one.began; broken = two.0.broken }, two.1)
  logs_behind late m v old w mid one x new (Some LogFull) two = (record { began = one.began; broken = two.0.broken }, two.1, two.2)
  logs_behind late m v old w mid one x new (Some e) two = (two.0, stays_then d AreLoaded loaded_still v old w mid one x new two.1)

  logs_so : (n m : Fault → Bool) → ((e : Fault) → n e ≡ true → m e ≡ true) → (v : PageWriter) (old : D) (w : PageWriter) (new : D) (why : Option Fault) → Ends d AreLoaded n v old w new why → LogEnds d false m v old w new why
  logs_so n m may v old w new None one = record { began = one.began; works = one.works; alive = one.alive }
  logs_so n m may v old w new (Some Failed) one = one
  logs_so n m may v old w new (Some NotAStore) one = (may NotAStore one.0, one.1)
  logs_so n m may v old w new (Some Device) one = (record { began = one.0.began; broken = one.0.broken }, one.1)
  logs_so n m may v old w new (Some LogFull) one = (record { began = one.0.began; broken = one.0.broken }, one.1, one.2)
  logs_so n m may v old w new (Some e) one = (may e one.0, one.1)

  -- a call that logs, refused late or not, after one that changed no page
  pub logs_then : {n : Fault → Bool} {late : Bool} {m : Fault → Bool} {v : PageWriter} {old : D} {w : PageWriter} {mid : D} {x : PageWriter} {new : D} {why : Option Fault} → Outcome d AreLoaded n v old w mid None → Logs d late m w mid x new why → Logs d late m v old x new why
  logs_then {n} {late} {m} {v} {old} {w} {mid} {x} {new} {why} one two = record { ready = two.ready; frames = two.frames ∙ one.frames; ends = logs_behind late m v old w mid one.ends x new why two.ends }

  -- a call that changed no page ends as one that logged nothing
  pub changed_none : {n m : Fault → Bool} → ((e : Fault) → n e ≡ true → m e ≡ true) → {v : PageWriter} {old : D} {w : PageWriter} {new : D} {why : Option Fault} → Outcome d AreLoaded n v old w new why → Logs d false m v old w new why
  changed_none {n} {m} may {v} {old} {w} {new} {why} one = record { ready = one.ready; frames = one.frames; ends = logs_so n m may v old w new why one.ends }

  pub read_logs : {m : Fault → Bool} → m NotAStore ≡ true → {v : PageWriter} {old : D} {w : PageWriter} {new : D} {why : Option Fault} → Reads d v old w new why → Logs d false m v old w new why
  read_logs {m} may {v} {old} {w} {new} {why} one = changed_none (no_page_for m may) one

  -- a refusal that is handed on
  pub log_refused : {A : Type 0} {late : Bool} {m : Fault → Bool} {v : PageWriter} {old : D} {w : PageWriter} {new : D} {f : Fault} (r : Result A Fault) → IsErrAnd r (λ e. e ≡ f) → Logs d late m v old w new (Some f) → Logs d late m v old w new (fault_of r)
  log_refused {A} {late} {m} {v} {old} {w} {new} {f} (Ok a) is one = absurd is
  log_refused {A} {late} {m} {v} {old} {w} {new} {f} (Err e) is one = subst (λ (x : Fault). Logs d late m v old w new (Some x)) (sym is) one

  logs_more : (late : Bool) (n m : Fault → Bool) → ((e : Fault) → n e ≡ true → m e ≡ true) → (v : PageWriter) (old : D) (w : PageWriter) (new : D) (why : Option Fault) → LogEnds d late n v old w new why → LogEnds d late m v old w new why
  logs_more late n m may v old w new None one = one
  logs_more late n m may v old w new (Some Failed) one = one
  logs_more true n m may v old w new (Some NotAStore) one = one
  logs_more false n m may v old w new (Some NotAStore) one = (may NotAStore one.0, one.1)
  logs_more late n m may v old w new (Some Device) one = one
  logs_more late n m may v old w new (Some LogFull) one = one
  logs_more late n m may v old w new (Some e) one = (may e one.0, one.1)

  -- one after which the writer goes on for fewer causes
  pub logs_for_more : {late : Bool} {n m : Fault → Bool} → ((e : Fault) → n e ≡ true → m e ≡ true) → {v : PageWriter} {old : D} {w : PageWriter} {new : D} {why : Option Fault} → Logs d late n v old w new why → Logs d late m v old w new why
  logs_for_more {late} {n} {m} may {v} {old} {w} {new} {why} one = record { ready = one.ready; frames = one.frames; ends = logs_more late n m may v old w new why one.ends }

  -- ---- calls that are refused late

  ends_late : (late : Bool) (m n : Fault → Bool) → ((e : Fault) → m e ≡ true → n e ≡ true) → (v : PageWriter) (old : D) (w : PageWriter) (new : D) → v.failed ≡ false → (why : Option Fault) → LogEnds d late m v old w new why → LogEnds d true n v old w new why
  ends_late late m n may v old w new works None one = one
  ends_late true m n may v old w new works (Some Failed) one = one
  ends_late false m n may v old w new works (Some Failed) one = absurd (let clash : false ≡ true = sym works ∙ one.0 in cc clash)
  ends_late true m n may v old w new works (Some NotAStore) one = one
  ends_late false m n may v old w new works (Some NotAStore) one = record { began = one.1.began; works = one.1.works; alive = one.1.alive }
  ends_late late m n may v old w new works (Some Device) one = one
  ends_late late m n may v old w new works (Some LogFull) one = one
  ends_late late m n may v old w new works (Some e) one = (may e one.0, one.1)

  -- a call over a writer that works ends as one that may be refused late, and after which it goes on for more causes
  pub logs_late : {late : Bool} {m n : Fault → Bool} {v : PageWriter} {old : D} {w : PageWriter} {new : D} {why : Option Fault} → ((e : Fault) → m e ≡ true → n e ≡ true) → v.failed ≡ false → Logs d late m v old w new why → Logs d true n v old w new why
  logs_late {late} {m} {n} {v} {old} {w} {new} {why} may works one = record { ready = one.ready; frames = one.frames; ends = ends_late late m n may v old w new works why one.ends }

  -- a call after one that logged its records, neither refused
  pub logs_both : {late next : Bool} {l m n : Fault → Bool} {v : PageWriter} {old : D} {w : PageWriter} {mid : D} {x : PageWriter} {new : D} → Logs d late m v old w mid None → Logs d next n w mid x new None → {last : Bool} → Logs d last l v old x new None
  logs_both {late} {next} {l} {m} {n} {v} {old} {w} {mid} {x} {new} one two {last} = record { ready = two.ready; frames = two.frames ∙ one.frames; ends = record { began = one.ends.began; works = two.ends.works; alive = two.ends.alive } }

  worked_behind : (late : Bool) (v w : PageWriter) (mid : D) → Works d v w mid → (x : PageWriter) (new : D) → MatchBool late (Works d w x new) ((w.failed ≡ true) × (x.failed ≡ true)) → Works d v x new
  worked_behind true v w mid one x new two = record { began = one.began; works = two.works; alive = two.alive }
  worked_behind false v w mid one x new two = absurd (let clash : false ≡ true = sym one.works ∙ two.0 in cc clash)

  bytes_behind : (late : Bool) (v w : PageWriter) (mid : D) → Works d v w mid → (x : PageWriter) (new : D) → MatchBool late (Works d w x new) ((mild NotAStore ≡ true) × Stays d AreLoaded w mid x new) → Works d v x new
  bytes_behind true v w mid one x new two = record { began = one.began; works = two.works; alive = two.alive }
  bytes_behind false v w mid one x new two = record { began = one.began; works = two.1.works; alive = two.1.alive }

  late_ends : (late : Bool) (n : Fault → Bool) (v : PageWriter) (old : D) (w : PageWriter) (mid : D) → Works d v w mid → (x : PageWriter) (new : D) (f g : Fault) → (f ≡ Memory → g ≡ Failed) → (f ≢ Memory → g ≡ f) → LogEnds d late mild w mid x new (Some f) → LogEnds d true n v old x new (Some g)
  late_ends late n v old w mid one x new Memory g memory other two =
      subst (λ (e : Fault). LogEnds d true n v old x new (Some e)) (sym (memory refl)) (record { began = one.began; works = two.1.works; alive = two.1.alive })
  late_ends late n v old w mid one x new Failed g memory other two = subst (λ (e : Fault). LogEnds d true n v old x new (Some e)) (sym (other (λ is. let never : ⊥ = cc is in never))) (worked_behind late v w mid one x new two)
  late_ends late n v old w mid one x new NotAStore g memory other two = subst (λ (e : Fault). LogEnds d true n v old x new (Some e)) (sym (other (λ is. let never : ⊥ = cc is in never))) (bytes_behind late v w mid one x new two)
  late_ends late n v old w mid one x new Device g memory other two =
      subst (λ (e : Fault). LogEnds d true n v old x new (Some e)) (sym (other (λ is. let never : ⊥ = cc is in never))) (record { began = one.began; broken = two.0.broken }, two.1)
  late_ends late n v old w mid one x new LogFull g memory other two =
      subst (λ (e : Fault). LogEnds d true n v old x new (Some e)) (sym (other (λ is. let never : ⊥ = cc is in never))) (record { began = one.began; broken = two.0.broken }, two.1, two.2)
  late_ends late n v old w mid one x new f g memory other two = absurd (let clash = two.0 in cc clash)

  -- a refusal after a record of one's own: want of memory is answered `Failed`, any other as it came
  pub late_behind : {last late : Bool} {m n : Fault → Bool} {v : PageWriter} {old : D} {w : PageWriter} {mid : D} {x : PageWriter} {new : D} {f g : Fault} → Logs d last m v old w mid None → Logs d late mild w mid x new (Some f) → (f ≡ Memory → g ≡ Failed) → (f ≢ Memory → g ≡ f)
      → Logs d true n v old x new (Some g)
  late_behind {last} {late} {m} {n} {v} {old} {w} {mid} {x} {new} {f} {g} one two memory other = record { ready = two.ready; frames = two.frames ∙ one.frames; ends = late_ends late n v old w mid one.ends x new f g memory other two.ends }

-- ---- for callers

-- where the pages are a writer's
pub pages_here : {D : Type 0} (d : Ghosts D) (b : Base) (base : ℕ) (s : Writer) (w : PageWriter) (disk : D) → StandsAs d b base s w disk → AreLoaded s → HasPages d AreLoaded (pages_of s) w disk
pages_here d b base s w disk is ready = record { b = b; base = base; now = s; stands = is; asked = ready; shows = λ p. refl }

-- a call that made none before it answered: the writer is as it was
pub idle : {D : Type 0} (d : Ghosts D) → ((disk : D) (c : Files) → d.left_since disk (d.moment disk) c → d.may_leave disk c) → {m : Fault → Bool} (v : PageWriter) (old : D) → v.failed ≡ false → IsReadyWriter d v old → Outcome d AreLoaded m v old v old None
idle d only_now v old works ready =
    let opened = ready.opened works in
    record {
      ready = ready;
      frames = refl;
      ends = record {
        began = works;
        works = works;
        alive = opened.ready.reading.working (opened.working (ready.works works));
        later = record { each = λ size. omega arith; generation = refl };
        goes = λ b base s is asked. record { now = s; on = goes_on_start d b base s v old (only_now old) is };
      };
    }

module _ {D : Type 0} (d : Ghosts D) where
  leaves_gone : (asks : Writer → Type 0) (v : PageWriter) (old : D) (w : PageWriter) (new : D) → Stays d asks v old w new → (b : Base) (base : ℕ) (s : Writer) → StandsAs d b base s v old → asks s → LeavesGrown d b base s old new
  leaves_gone asks v old w new one b base s is ready = let on = one.goes b base s is ready in leaves_so_far d b base s old on.now w.log w.table w.pool new on.on.goes

  -- what a stop leaves of a call that changed no page
  leaves_end : (asks : Writer → Type 0) (m : Fault → Bool) (v : PageWriter) (old : D) (w : PageWriter) (new : D) (why : Option Fault) → Ends d asks m v old w new why → (b : Base) (base : ℕ) (s : Writer) → StandsAs d b base s v old → asks s → LeavesGrown d b base s old new
  leaves_end asks m v old w new None one b base s is ready = leaves_gone asks v old w new one b base s is ready
  leaves_end asks m v old w new (Some Failed) one b base s is ready = absurd (let clash : false ≡ true = sym is.working ∙ one.0 in cc clash)
  leaves_end asks m v old w new (Some Device) one b base s is ready = one.0.stops b base s is ready
  leaves_end asks m v old w new (Some LogFull) one b base s is ready = one.0.stops b base s is ready
  leaves_end asks m v old w new (Some e) one b base s is ready = leaves_gone asks v old w new one.1 b base s is ready

  pub leaves_of_end : {asks : Writer → Type 0} {m : Fault → Bool} {v : PageWriter} {old : D} {w : PageWriter} {new : D} {why : Option Fault} → Outcome d asks m v old w new why → (b : Base) (base : ℕ) (s : Writer) → StandsAs d b base s v old → asks s
      → LeavesGrown d b base s old new
  leaves_of_end {asks} {m} {v} {old} {w} {new} {why} one b base s is ready = leaves_end asks m v old w new why one.ends b base s is ready

  -- a refusal of its own, before anything was logged
  pub own_logs : {v : PageWriter} {old : D} {w : PageWriter} {new : D} {f : Fault} → f ≡ NotAStore → Reads d v old w new None → Reads d v old w new (Some f)
  own_logs {v} {old} {w} {new} {f} is one = subst (λ (x : Fault). Reads d v old w new (Some x)) (sym is) (refuses d NotAStore refl refl one)

  -- a record that was appended, or that could not be
  append_ends : (late : Bool) (m : Fault → Bool) (v : PageWriter) (old : D) (w : PageWriter) (new : D) → v.failed ≡ false → (e : Fault) → w.failed ≡ true → (e ≡ LogFull) ⊎ (e ≡ Device) → (e ≡ LogFull → HasNoRoom w.log) → (e ≡ Device) ↔ (d.failed new ≡ true) → LogEnds d late m v old w new (Some e)
  append_ends late m v old w new works e broken (inl is) no_room lost =
      subst (λ (f : Fault). LogEnds d late m v old w new (Some f)) (sym is)
      (record { began = works; broken = broken }, still_working (d.failed new) (λ failed. let clash : LogFull ≡ Device = sym is ∙ lost.1 failed in let never : ⊥ = cc clash in never), no_room is)
  append_ends late m v old w new works e broken (inr is) no_room lost = subst (λ (f : Fault). LogEnds d late m v old w new (Some f)) (sym is) (record { began = works; broken = broken }, lost.0 is)

  -- a refusal without a call
  pub idle_logs : {A : Type 0} → ((disk : D) (c : Files) → d.left_since disk (d.moment disk) c → d.may_leave disk c) → (v : PageWriter) (old : D) → IsReadyWriter d v old → (r : Result A Fault) → IfErr r (λ e. (e ≡ Failed) ⊎ (e ≡ NotAStore)) → (r ≡ Err Failed) ↔ (v.failed ≡ true)
      → is_ok r ≡ false → Logs d false no_page v old v old (fault_of r)
  idle_logs {A} only_now v old ready (Ok a) causes already never = absurd (cc never)
  idle_logs {A} only_now v old ready (Err e) causes already never = by causes
    where
      by : (e ≡ Failed) ⊎ (e ≡ NotAStore) → Logs d false no_page v old v old (Some e)
      by (inl is) = subst (λ (f : Fault). Logs d false no_page v old v old (Some f)) (sym is) (record { ready = ready; frames = refl; ends = (already.0 (ap Err is), already.0 (ap Err is)) })
      by (inr is) =
          let works = still_working v.failed (λ failed. let same : e ≡ Failed = (let r_is = already.1 failed in cc r_is) in let clash : NotAStore ≡ Failed = sym is ∙ same in let never : ⊥ = cc clash in never) in
          read_logs d refl (own_logs is (idle d only_now v old works ready))

module _ {D : Type 0} (d : Ghosts D) (only_now : (disk : D) (c : Files) → d.left_since disk (d.moment disk) c → d.may_leave disk c) where
  -- where nothing that pages are read from has changed, the writer goes on
  stays_here : (v : PageWriter) (old : D) (w : PageWriter) (new : D) → v.failed ≡ false → w.failed ≡ false → d.failed new ≡ false → w.log ≡ v.log → w.table ≡ v.table → w.pool ≡ v.pool → w.known ≡ v.known → new ≡ old → Stays d AreLoaded v old w new
  stays_here v old w new began works alive log table pool known disk = record {
    began = began;
    works = works;
    alive = alive;
    later = subst (λ (l : LogFile). EndsNoSooner v.log l) (sym log) (record { each = λ size. omega arith; generation = refl });
    goes = λ b base s is ready.
        let start = (goes_on_start d b base s v old (only_now old) is).goes in
        record {
          now = s;
          on = record {
            working = works;
            known = subst (λ (known : Known). IsKnown s known) (sym known) is.known;
            goes = subst (λ (x : D). Goes d b base s old s w.log w.table w.pool x) (sym disk)
                (subst (λ (x : PoolView). Goes d b base s old s w.log w.table x old) (sym pool)
                (subst (λ (x : TableView). Goes d b base s old s w.log x v.pool old) (sym table) (subst (λ (x : LogFile). Goes d b base s old s x v.table v.pool old) (sym log) start)));
          };
        };
  }

  -- a refusal for bytes that are no page's, after which nothing that pages are read from has changed
  pub same_logs : {v : PageWriter} {old : D} {w : PageWriter} → v.failed ≡ false → w.failed ≡ false → IsReadyWriter d w old → w.log ≡ v.log → w.table ≡ v.table → w.pool ≡ v.pool → w.known ≡ v.known → Logs d false no_page v old w old (Some NotAStore)
  same_logs {v} {old} {w} began works ready log table pool known =
      let opened = ready.opened works in
      record {
        ready = ready;
        frames = ap (λ (p : PoolView). p.frames) pool;
        ends = (refl, stays_here v old w old began works (opened.ready.reading.working (opened.working (ready.works works))) log table pool known refl);
      }
