-- The pool of a writer of pages through evictions and gets, and its calls as a whole.
use Rattle.std.proofs.Common.{◌≡◌, inl, inr, ℕ, ◌≤◌, false, true, Bool, List, Option, None, Some, refl, sym, ◌∙◌, ap, subst, arith}
use Rattle.std.specs.Prelude.{is_some, nat_eq}
use Rattle.std.specs.Map.{lookup}
use Rattle.std.specs.Option.{option_map_or}
use Rattle.std.proofs.lemmas.Bool.{cases_Bool, cases_eq}
use Rattle.im_base_types.specs.declared.fault.Fault.{Fault}
use Rattle.im_base_types.specs.declared.fault.Fault.TheVariants.{Device, NotAStore}
use Rattle.im_base_types.specs.declared.file_id.FileId.TheVariants.{Pages}
use Rattle.im_base_types.specs.Pages.{Page}
use Rattle.im_theory_log.specs.Histories.{Base}
use Rattle.im_theory_log.specs.Writer.{DirtyEntry, PageState, Writer, IsWritten}
use Rattle.im_theory_log.proofs.WriterWrites.{read_back}
use Rattle.im_base_disk.specs.declared.disk.Disk.{Ghosts}
use Rattle.im_base_disk.specs.Disk.{Files}
use Rattle.im_base_disk.specs.Runs.{Reads}
use Rattle.im_log.specs.declared.log_file.LogFile.{LogFile}
use Rattle.im_theory_page.specs.PageFile.{file_page}
use Rattle.im_page_pool.specs.declared.frame.Frame.{Frame}
use Rattle.im_page_pool.specs.Pool.{Held, PoolView, held_of, page_at, page_seen, Evicts, MovesFirst, Takes}
use Rattle.im_page_pool.specs.Pool as pools
use Rattle.im_page_writer.specs.declared.page_writer.PageWriter.{PageWriter}
use Rattle.im_page_table.specs.DirtyTable.{TableView, is_changed}
use Rattle.im_page_flush.specs.Writing.{IsShown, IsPooled, IsWriting, Goes, SameHeld}
use Rattle.im_page_writer.specs.PageWriter.{StandsAs, GoesOn, FlushedOne}
use Rattle.im_page_flush.proofs.Goings.{goes_start, goes_then}
use Rattle.im_page_flush.proofs.Flushing.{goes_read, unchanged_here}

-- ---- the pool

pub pooled_evicted : (pool new : PoolView) (pages : ℕ → PageState) (p : ℕ) → IsPooled pool pages → IsWritten (pages p).entry → Evicts p pool new → IsPooled new pages
pooled_evicted pool new pages p is done gone = record {
  shows = λ q. elim (cases_eq p q) [
    | inl here ↦ subst (λ (n : ℕ). IsShown (held_of new n) (pages n)) here (subst (λ (o : Option Held). IsShown o (pages p)) (sym gone.gone) done)
    | inr other ↦ subst (λ (o : Option Held). IsShown o (pages q)) (sym (gone.others q (λ e. other (sym e)))) (is.shows q)
  ];
  ready = λ n q holds le. elim (cases_eq p n) [
    | inl here ↦ absurd (let clash : false ≡ true = ap (λ (o : Option Held). is_some o) (sym gone.gone) ∙ ap (λ (k : ℕ). is_some (held_of new k)) here ∙ holds in cc clash)
    | inr other ↦ is.ready n q (ap (λ (o : Option Held). is_some o) (sym (gone.others n (λ e. other (sym e)))) ∙ holds) le
  ];
}

pooled_first : (pool new : PoolView) (pages : ℕ → PageState) (p : ℕ) → IsPooled pool pages → MovesFirst p pool new → IsPooled new pages
pooled_first pool new pages p is moves = record {
  shows = λ q. subst (λ (o : Option Held). IsShown o (pages q)) (sym (moves.all q)) (is.shows q);
  ready = λ n q holds le. is.ready n q (ap (λ (o : Option Held). is_some o) (sym (moves.all n)) ∙ holds) le;
}

pooled_held : (pool new : PoolView) (pages : ℕ → PageState) → IsPooled pool pages → new.held ≡ pool.held → IsPooled new pages
pooled_held pool new pages is same = record {
  shows = λ q. subst (λ (es : List (ℕ × Held)). IsShown (lookup (nat_eq q) es) (pages q)) (sym same) (is.shows q);
  ready = λ n q holds le. is.ready n q (ap (λ (es : List (ℕ × Held)). is_some (lookup (nat_eq n) es)) (sym same) ∙ holds) le;
}

unchanged_is : (o : Option DirtyEntry) → IsWritten o → false ≡ is_changed o
unchanged_is None is = refl
unchanged_is (Some e) is = sym (ap (λ (t : Option ℕ). is_some t) is)

pooled_taken : (pool new : PoolView) (pages : ℕ → PageState) (p : ℕ) (frame : Frame) (page : Page) → IsPooled pool pages → IsWritten (pages p).entry → frame.number ≡ p → page ≡ (pages p).page → Takes frame page false pool new
    → ((q : ℕ) → q ≤ p → (pages q).waits ≡ false) → IsPooled new pages
pooled_taken pool new pages p frame page is done number shown takes ready = record {
  shows = λ q. elim (cases_eq p q) [
    | inl here ↦ subst (λ (n : ℕ). IsShown (held_of new n) (pages n)) here
        (subst (λ (o : Option Held). IsShown o (pages p)) (sym (ap (λ (n : ℕ). held_of new n) (sym number) ∙ takes.here)) (shown, unchanged_is (pages p).entry done))
    | inr other ↦ subst (λ (o : Option Held). IsShown o (pages q)) (sym (takes.others q (λ e. other (sym (e ∙ number))))) (is.shows q)
  ];
  ready = λ n q holds le. elim (cases_eq p n) [
    | inl here ↦ ready q (omega (arith, here, le))
    | inr other ↦ is.ready n q (ap (λ (o : Option Held). is_some o) (sym (takes.others n (λ e. other (sym (e ∙ number))))) ∙ holds) le
  ];
}

-- the page of a number, as the pool or else the file has it
seen_is : (o : Option Held) (x : PageState) (f : Option Page) → IsShown o x → (o ≡ None → f ≡ Some x.page) → option_map_or (λ h. Some h.page) o f ≡ Some x.page
seen_is None x f is here = here refl
seen_is (Some h) x f is here = ap (λ (g : Page). Some g) is.0

nothing_held : (o : Option Held) → is_some o ≡ false → o ≡ None
nothing_held None none = refl
nothing_held (Some h) none = absurd (let clash : true ≡ false = none in cc clash)

-- a page that is not held is not held after an eviction either
pub absent_still : (old mid new : PoolView) (p : ℕ) → SameHeld old mid → Evicts p mid new → (q : ℕ) → held_of old q ≡ None → held_of new q ≡ None
absent_still old mid new p same gone q none = elim (cases_eq q p) [
  | inl here ↦ subst (λ (n : ℕ). held_of new n ≡ None) (sym here) gone.gone
  | inr other ↦ gone.others q other ∙ nothing_held (held_of mid q) (same.held q ∙ ap (λ (o : Option Held). is_some o) none)
]

-- a page that is not seen is not in the file
pub seen_none : (o : Option Held) (f : Option Page) → option_map_or (λ h. Some h.page) o f ≡ None → f ≡ None
seen_none None f none = none
seen_none (Some h) f none = absurd (let clash : Some h.page ≡ None = none in cc clash)

module _ {D : Type 0} (d : Ghosts D) (b : Base) (base : ℕ) where
  -- ---- an eviction

  pub goes_evicted : (s : Writer) (old : D) (t : Writer) (log : LogFile) (table : TableView) (pool new : PoolView) (disk : D) (p : ℕ) → Goes d b base s old t log table pool disk → IsWritten (t.pages p).entry → Evicts p pool new
      → Goes d b base s old t log table new disk
  goes_evicted s old t log table pool new disk p goes done gone = record {
    writing = record { stands = goes.writing.stands; entries = goes.writing.entries; pooled = pooled_evicted pool new t.pages p goes.writing.pooled done gone; based = goes.writing.based };
    stops = goes.stops;
    keeps = goes.keeps;
  }

  -- ---- a get

  module _ (s : Writer) (log : LogFile) (table : TableView) (pool : PoolView) (old : D) (w : IsWriting d b base s log table pool old) (p : ℕ) (ready : (q : ℕ) → q ≤ p → (s.pages q).waits ≡ false) where
    -- of a page that is not held nothing is left to be written
    left_none : held_of pool p ≡ None → IsWritten (s.pages p).entry
    left_none none = subst (λ (o : Option Held). IsShown o (s.pages p)) none (w.pooled.shows p)

    -- what a look-up sees is the page
    pub page_is_seen : page_seen pool (d.seen old Pages) p ≡ Some (s.pages p).page
    page_is_seen = seen_is (held_of pool p) (s.pages p) (file_page (d.seen old Pages) p) (w.pooled.shows p)
        (λ none. w.stands.file.reads p ∙ read_back b s p w.stands.kept (ready p (omega arith)) (left_none none))

    pub got_page : (new_pool : PoolView) → page_seen pool (d.seen old Pages) p ≡ Some (page_at new_pool p) → page_at new_pool p ≡ (s.pages p).page
    got_page new_pool seen = let same : Some (page_at new_pool p) ≡ Some (s.pages p).page = sym seen ∙ page_is_seen in cc same

    -- so a get is not refused for bytes that are no page
    pub no_page_missing : (failed : Bool) (fault : Fault) → fault ≡ NotAStore → (failed ≡ true → fault ≡ Device) → (failed ≡ false → page_seen pool (d.seen old Pages) p ≡ None) → ⊥
    no_page_missing failed fault same device none = elim (cases_Bool failed) [
      | inl is ↦ let clash : NotAStore ≡ Device = sym same ∙ device is in cc clash
      | inr works ↦ let clash : None ≡ Some (s.pages p).page = sym (none works) ∙ page_is_seen in cc clash
    ]

    -- after a get that was refused, without a failure of the disk
    pub goes_refused : (new_pool : PoolView) (new : D) → ((c : Files) → d.left_since old (d.moment old) c → d.may_leave old c) → Reads d old new → d.failed new ≡ false → new_pool.held ≡ pool.held → Goes d b base s old s log table new_pool new
    goes_refused new_pool new only_now reads works same =
        let goes = goes_read d b base s log table pool old new only_now w reads works in
        record {
          writing = record { stands = goes.writing.stands; entries = goes.writing.entries; pooled = pooled_held pool new_pool s.pages w.pooled same; based = goes.writing.based };
          stops = goes.stops;
          keeps = goes.keeps;
        }

    pub goes_got : (new_pool : PoolView) (new : D) (frame : Frame) → ((c : Files) → d.left_since old (d.moment old) c → d.may_leave old c) → Reads d old new → d.failed new ≡ false
        → page_seen pool (d.seen old Pages) p ≡ Some (page_at new_pool p) → frame.number ≡ p → (is_some (held_of pool p) ≡ true → MovesFirst p pool new_pool) → (held_of pool p ≡ None → Takes frame (page_at new_pool p) false pool new_pool)
        → Goes d b base s old s log table new_pool new
    goes_got new_pool new frame only_now reads works seen number first takes =
        let goes = goes_read d b base s log table pool old new only_now w reads works in
        record {
          writing = record { stands = goes.writing.stands; entries = goes.writing.entries; pooled = by (held_of pool p) refl; based = goes.writing.based };
          stops = goes.stops;
          keeps = goes.keeps;
        }
      where
        by : (o : Option Held) → held_of pool p ≡ o → IsPooled new_pool s.pages
        by None none = pooled_taken pool new_pool s.pages p frame (page_at new_pool p) w.pooled (left_none none) number (got_page new_pool seen) (takes none) ready
        by (Some h) some = pooled_first pool new_pool s.pages p w.pooled (first (ap (λ (o : Option Held). is_some o) some))

  -- ---- the whole

  module _ (s : Writer) (old : D) (t : Writer) (w : PageWriter) (mid : D) (one : GoesOn d b base s old t w mid) where
    pub flushed_one : (p : ℕ) → IsWritten (t.pages p).entry → FlushedOne d b base s p old w mid
    flushed_one p done = record { now = t; on = one; written = done; in_file = λ ready. read_back b t p one.goes.writing.stands.kept ready done }

    pub goes_on_then : (u : Writer) (v : PageWriter) (new : D) → GoesOn d b base t mid u v new → GoesOn d b base s old u v new
    goes_on_then u v new two = record { working = two.working; goes = goes_then d b base s old t w.log w.table w.pool mid one.goes u v.log v.table v.pool new two.goes; known = two.known }

  pub goes_on_start : (s : Writer) (w : PageWriter) (disk : D) → ((c : Files) → d.left_since disk (d.moment disk) c → d.may_leave disk c) → StandsAs d b base s w disk → GoesOn d b base s disk s w disk
  goes_on_start s w disk only_now is = record { working = is.working; goes = goes_start d b base s w.log w.table w.pool disk only_now is.writing; known = is.known }

  -- nothing is left of a page that was not changed
  pub none_left : (s : Writer) (w : PageWriter) (disk : D) (p : ℕ) → StandsAs d b base s w disk → pools.is_changed w.pool p ≡ false → IsWritten (s.pages p).entry
  none_left s w disk p is same = unchanged_here (held_of w.pool p) (s.pages p) same (is.writing.pooled.shows p)
