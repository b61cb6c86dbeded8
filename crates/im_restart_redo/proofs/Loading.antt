-- Noted copies, as redo loads them one by one.
use Rattle.std.proofs.Common.{◌≡◌, inl, inr, ℕ, ◌<◌, [], ◌∷◌, List, true, false, Option, None, Some, refl, sym, ◌∙◌, ap, subst}
use Rattle.std.specs.Prelude.{Result}
use Rattle.std.specs.Option.{option_map}
use Rattle.std.specs.declared.cmp.Ordering.{Ordering}
use Rattle.std.specs.declared.cmp.Ordering.TheVariants.{Less, Equal, Greater}
use Rattle.std.specs.Ordering.{nat_cmp, is_eq}
use Rattle.std.specs.Cmp.{nat_cmp_total}
use Rattle.std.specs.BTreeMap.{is_at}
use Rattle.std.specs.List.Sorted.{IsStrictlySortedBy}
use Rattle.std.specs.Map.{keys_of}
use Rattle.std.proofs.lemmas.Bool.{cases_eq, cond-true, lt-ltb}
use Rattle.std.proofs.lemmas.Cmp.{eq_by_cmp_equiv, tied_itself}
use Rattle.std.proofs.lemmas.Map.{lookup-none}
use Rattle.std.proofs.lemmas.Map.Entries.{lookup_head, lookup_tail, none_below_head, none_past_head}
use Rattle.std.proofs.lemmas.Map.Keys.{IsDistinct-from_sorted, sorted_tail}
use Rattle.std.proofs.lemmas.Map.Lookups.{exact_unsigned}
use Rattle.im_base_types.specs.declared.fault.Fault.{Fault}
use Rattle.im_base_types.specs.Pages.{Page}
use Rattle.im_base_types.specs.Records.{Logged, What}
use Rattle.im_theory_log.specs.Histories.{Base, History, IsRecordOf}
use Rattle.im_theory_log.specs.Copies.{copy_in, noted}
use Rattle.im_theory_log.specs.RedoPoints.{redo_point}
use Rattle.im_theory_log.specs.Writer.{PageState, Writer}
use Rattle.im_theory_log.specs.WriterSteps.{is_found, loaded, loaded_page, opened}
use Rattle.im_theory_log.proofs.Copies.{Joins, copies, joins, leaves}
use Rattle.im_log_record.specs.Entry.{Entry, page_of}
use Rattle.im_log.specs.Spelled.{logged_at}
use Rattle.im_log.specs.Whats.{what_of}
use Rattle.im_restart_analysis.specs.CopyLsns.{AreCopies, CopyMap}
use Rattle.im_base_disk.specs.declared.disk.Disk.{Ghosts}
use Rattle.im_page_writer.specs.declared.page_writer.PageWriter.{PageWriter}
use Rattle.im_page_writer.specs.Redoing.{LoadKept}
use Rattle.im_page_writer.proofs.Outcomes.{sound_done}
use Rattle.im_page_table.proofs.OnePage.{only_here, only_other}
use Rattle.im_restart_redo.specs.Loading.{AreWaiting, IsLoading, LoadingKept, WaitsForCopy, lsn_at}
use Rattle.im_restart_redo.specs.Redo.{first_lsn}
use Rattle.im_restart_redo.specs.Within.{IsWithinRedo}
use Rattle.im_restart_redo.proofs.Counting.{first_loaded}
use Rattle.im_restart_redo.proofs.Within.{leaves_more, record_still, within_more}

-- ---- pairs of a page and an LSN, in rising page number

is_here : (p : ℕ) → is_at (nat_cmp p) p ≡ true
is_here p = ap is_eq (tied_itself nat_cmp_total p)

is_other : (p q : ℕ) → (p ≡ q → ⊥) → is_at (nat_cmp p) q ≡ false
is_other p q other = by (nat_cmp p q) refl
  where
    by : (o : Ordering) → nat_cmp p q ≡ o → is_eq o ≡ false
    by Less is = refl
    by Greater is = refl
    by Equal is = absurd (other (exact_unsigned p q is))

module _ (k v : ℕ) (left : List (ℕ × ℕ)) (rising : IsStrictlySortedBy nat_cmp (keys_of ((k, v) ∷ left))) where
  -- the first page has its LSN, and none after it
  lsn_first : lsn_at ((k, v) ∷ left) k ≡ Some v
  lsn_first = lookup_head (is_at (nat_cmp k)) (k, v) left (is_here k)

  lsn_gone : lsn_at left k ≡ None
  lsn_gone = lookup-none (is_at (nat_cmp k)) left (none_past_head (eq_by_cmp_equiv nat_cmp_total) k (k, v) left (IsDistinct-from_sorted nat_cmp (keys_of ((k, v) ∷ left)) rising) (is_here k))

  -- each other page has what it has after it
  lsn_other : (p : ℕ) → (p ≡ k → ⊥) → lsn_at ((k, v) ∷ left) p ≡ lsn_at left p
  lsn_other p other = lookup_tail (is_at (nat_cmp p)) (k, v) left (is_other p k other)

  -- no page below the first has one
  lsn_below : (p : ℕ) → p < k → lsn_at ((k, v) ∷ left) p ≡ None
  lsn_below p under =
      lookup-none (is_at (nat_cmp p)) ((k, v) ∷ left)
      (none_below_head nat_cmp_total p (k, v) left rising (cond-true _ Less _ (lt-ltb p k under)))

-- ---- the record that holds a noted copy

pub record HasNoted (log : History) (p l : ℕ) (copy : Page) : Type 0 where
  pub holder : Logged
  pub within : IsRecordOf holder log
  pub lsn : l ≡ holder.lsn
  pub page : holder.page ≡ p
  pub holds : copy_in l holder.what ≡ Some copy

abbrev lsn_in : Option (ℕ × Page) → ℕ
lsn_in None = 0
lsn_in (Some x) = x.0

abbrev page_in : Page → Option (ℕ × Page) → Page
page_in g None = g
page_in g (Some x) = x.1

noted_record : (from : ℕ) (log : History) (p l : ℕ) (copy : Page) → noted from log p ≡ Some (l, copy) → HasNoted log p l copy
noted_record from [] p l copy is = absurd (cc is)
noted_record from (r ∷ older) p l copy is = by (λ e. noted_record from older p l copy e) (joins from r older p)
  where
    by : (noted from older p ≡ Some (l, copy) → HasNoted older p l copy) → Joins from r older p → HasNoted (r ∷ older) p l copy
    by rec (leaves same) = let h = rec (sym same ∙ is) in record { holder = h.holder; within = inr h.within; lsn = h.lsn; page = h.page; holds = h.holds }
    by rec (copies c over here some noted_is) =
        let e : Some (r.lsn, c) ≡ Some (l, copy) = sym noted_is ∙ is in
        let lsn : l ≡ r.lsn = sym (ap lsn_in e) in
        record { holder = r; within = inl refl; lsn = lsn; page = here; holds = ap (λ (n : ℕ). copy_in n r.what) lsn ∙ some ∙ ap (λ (o : Option (ℕ × Page)). Some (page_in c o)) e }

-- ---- the pages that wait

-- those that an opening finds
pub waiting_opened : (b : Base) (begun : History) (file : ℕ → Option Page) (all : CopyMap) → AreCopies (redo_point begun) all begun → AreWaiting begun all.entries (opened b begun file).pages
waiting_opened b begun file all are = record {
  others = λ p none. not_found (noted (redo_point begun) begun p) (sym (are p) ∙ none);
  these = λ p l some. found p l (noted (redo_point begun) begun p) refl (sym (are p) ∙ some);
}
  where
    not_found : (o : Option (ℕ × Page)) → option_map (λ (c : ℕ × Page). c.0) o ≡ None → is_found o ≡ false
    not_found None is = refl
    not_found (Some x) is = absurd (cc is)

    found : (p l : ℕ) (o : Option (ℕ × Page)) → noted (redo_point begun) begun p ≡ o → option_map (λ (c : ℕ × Page). c.0) o ≡ Some l → WaitsForCopy begun p l ((opened b begun file).pages p)
    found p l None is some = absurd (cc some)
    found p l (Some x) is some =
        let first : x.0 ≡ l = cc some in
        let same : Some x ≡ Some (l, x.1) = ap (λ (n : ℕ). Some (n, x.1)) first in
        record { waits = ap is_found is; copy = x.1; found = is ∙ same; noted = is ∙ same }

-- those after the load of the first
waiting_loaded : (begun : History) (k v : ℕ) (left : List (ℕ × ℕ)) (pages new : ℕ → PageState) → IsStrictlySortedBy nat_cmp (keys_of ((k, v) ∷ left)) → AreWaiting begun ((k, v) ∷ left) pages
    → (new k).waits ≡ false → ((p : ℕ) → (p ≡ k → ⊥) → ((new p).waits ≡ (pages p).waits) × ((new p).found ≡ (pages p).found)) → AreWaiting begun left new
waiting_loaded begun k v left pages new rising old here rest = record {
  others = λ p none. elim (cases_eq p k) [
    | inl same ↦ ap (λ (n : ℕ). (new n).waits) same ∙ here
    | inr other ↦ (rest p other).0 ∙ old.others p (lsn_other k v left rising p other ∙ none)
  ];
  these = λ p l some. elim (cases_eq p k) [
    | inl same ↦ absurd (let clash : None ≡ Some l = sym (lsn_gone k v left rising) ∙ ap (λ (n : ℕ). lsn_at left n) (sym same) ∙ some in cc clash)
    | inr other ↦ let w = old.these p l (lsn_other k v left rising p other ∙ some) in record { waits = (rest p other).0 ∙ w.waits; copy = w.copy; found = (rest p other).1 ∙ w.found; noted = w.noted }
  ];
}

-- ---- one copy

-- What the load of a copy asks, of the record that holds it.
pub record AsksLoad (s : Writer) (lsn n : ℕ) (what : What) : Type 0 where
  pub copy : Page
  pub holds : copy_in lsn what ≡ Some copy
  pub waits : (s.pages n).waits ≡ true
  pub found : (s.pages n).found ≡ Some (lsn, copy)
  pub low : (q : ℕ) → q < n → (s.pages q).waits ≡ false

module _ {D : Type 0} (d : Ghosts D) (b : Base) (base : ℕ) (begun : History) (file : ℕ → Option Page) (from : D) (p lsn : ℕ) (left : List (ℕ × ℕ)) (w : PageWriter) (disk : D) (so : IsLoading d b base begun file ((p, lsn) ∷ left) from w disk) where
  pub waiting_here : WaitsForCopy begun p lsn (so.now.pages p)
  waiting_here = so.waiting.these p lsn (lsn_first p lsn left so.rising)

  -- the record that holds it
  pub holds_copy : HasNoted begun p lsn waiting_here.copy
  holds_copy = noted_record (redo_point begun) begun p lsn waiting_here.copy waiting_here.noted

  pub in_log : IsRecordOf holds_copy.holder so.now.log
  in_log = record_still b begun so.now.log holds_copy.holder so.within.log holds_copy.within

  page_here : (entry : Entry) → logged_at holds_copy.holder.lsn entry ≡ holds_copy.holder → page_of entry ≡ p
  page_here entry same = ap (λ (r : Logged). r.page) same ∙ holds_copy.page

  pub asks_load : (entry : Entry) → logged_at holds_copy.holder.lsn entry ≡ holds_copy.holder → AsksLoad so.now lsn (page_of entry) (what_of entry)
  asks_load entry same =
      let here = sym (page_here entry same) in
      record {
        copy = waiting_here.copy;
        holds = ap (λ (r : Logged). copy_in lsn r.what) same ∙ holds_copy.holds;
        waits = ap (λ (n : ℕ). (so.now.pages n).waits) (sym here) ∙ waiting_here.waits;
        found = ap (λ (n : ℕ). (so.now.pages n).found) (sym here) ∙ waiting_here.found;
        low = λ q under. so.waiting.others q (lsn_below p lsn left so.rising q (subst (λ (n : ℕ). q < n) (sym here) under));
      }

  -- it is loaded where its page waits for it
  same_copy : (entry : Entry) → logged_at holds_copy.holder.lsn entry ≡ holds_copy.holder → (copy : Page) → (so.now.pages (page_of entry)).found ≡ Some (lsn, copy) → copy ≡ waiting_here.copy
  same_copy entry same copy found =
      let one : Some (lsn, copy) ≡ Some (lsn, waiting_here.copy) = sym found ∙ ap (λ (n : ℕ). (so.now.pages n).found) (page_here entry same) ∙ waiting_here.found in
      ap (λ (o : Option (ℕ × Page)). page_in copy o) one

  pub loads : (entry : Entry) (same : logged_at holds_copy.holder.lsn entry ≡ holds_copy.holder) (copy : Page) (v : PageWriter) (mid : D) → IsWithinRedo d b base begun from so.now v mid
      → (t : PageWriter) (new : D) (result : Result Unit Fault) → LoadKept d b base so.now (page_of entry) copy mid t new result → (so.now.pages (page_of entry)).found ≡ Some (lsn, copy) → LoadingKept d b base begun file left from t new result
  loads entry same copy v mid within t new result kept mine = record {
    sound = sound_done result _ (IsLoading d b base begun file left from t new) kept.ok kept.cause
        (λ done. let here : page_of entry ≡ p = page_here entry same in record {
          now = loaded (page_of entry) copy done.before;
          within = within_more d b base begun from so.now v mid within done.before (loaded (page_of entry) copy done.before) t new done.keeps done.stops done.stands refl refl refl refl;
          rising = sorted_tail nat_cmp p (keys_of left) so.rising;
          waiting = waiting_loaded begun p lsn left so.now.pages (loaded (page_of entry) copy done.before).pages so.rising so.waiting
              (ap (λ (x : PageState). x.waits) (only_here (loaded_page done.before.point copy) done.before.pages (page_of entry) p here))
              (λ q other.
              let e = only_other (loaded_page done.before.point copy) done.before.pages (page_of entry) q (λ is. other (sym is ∙ here)) in
              (ap (λ (x : PageState). x.waits) e ∙ (done.keeps.pages q).waits, ap (λ (x : PageState). x.found) e ∙ (done.keeps.pages q).found));
          first = λ q ready. elim (cases_eq q p) [
            | inl at ↦
                ap (λ (x : PageState). x.page.lsn) (only_here (loaded_page done.before.point copy) done.before.pages (page_of entry) q (here ∙ sym at))
                ∙ ap (λ (g : Page). g.lsn) (same_copy entry same copy mine) ∙ first_loaded b begun file p lsn waiting_here.copy waiting_here.noted ∙ ap (λ (n : ℕ). first_lsn b begun file n) (sym at)
            | inr other ↦
                let e = only_other (loaded_page done.before.point copy) done.before.pages (page_of entry) q (λ is. other (sym is ∙ here)) in
                ap (λ (x : PageState). x.page.lsn) e ∙ ap (λ (g : Page). g.lsn) (done.keeps.pages q).page
                ∙ so.first q (sym (done.keeps.pages q).waits ∙ sym (ap (λ (x : PageState). x.waits) e) ∙ ready)
          ];
        });
    stops = leaves_more d b base begun from so.now v mid within new kept.stops;
  }
