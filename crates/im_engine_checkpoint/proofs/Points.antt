-- Redo from an LSN on, and the least of a Checkpoint's LSNs.
use Rattle.std.proofs.Common.{◌≡◌, ◌⊎◌, inl, inr, ℕ, ◌+◌, ◌<◌, ◌≤◌, List, [], ◌∷◌, ◌++◌, refl, sym, ◌∙◌, ap, subst, arith, Option, None, Some}
use Rattle.std.specs.Prelude.{min, nat_le}
use Rattle.std.proofs.lemmas.Bool.{cases_lt, cond-true, cond-false, le-leb, lt-leb}
use Rattle.im_base_types.specs.declared.tables.DirtyPage.{DirtyPage}
use Rattle.im_base_types.specs.Pages.{Page}
use Rattle.im_base_types.specs.Records.{Logged}
use Rattle.im_theory_log.specs.Histories.{Base, History, Rises, below, end_of, page_at}
use Rattle.im_theory_log.specs.Copies.{Reaches, noted, onto, redo_all}
use Rattle.im_theory_log.specs.RedoPoints.{least, redo_point}
use Rattle.im_theory_log.specs.WriterSteps.{IsIn}
use Rattle.im_theory_log.proofs.Cited.{below_newest, below_older, end_below, none_below, start_low, redo_reaches_the_page, least_start, point_checkpoint}
use Rattle.im_engine_checkpoint.specs.RedoPoint.{HasRecLsn, IsLeastPoint, IsRedoneAlike, RedoNeedsNothingBefore, RedoPointIsTheLeast, first_page, records_since}

-- ---- the records from an LSN on, over those below it, are the log

none_from : (b : Base) (from : ℕ) (log : History) → Rises b log → end_of b log < from → records_since from log ≡ []
none_from b from [] up low = refl
none_from b from (r ∷ older) up low =
    let last : end_of b older < r.lsn = up.1 in
    let less : end_of b older < from = let here : r.lsn < from = low in omega (arith, last, here) in
    cond-false (nat_le from r.lsn) (records_since from older ++ r ∷ []) (records_since from older) (lt-leb from r.lsn low) ∙ none_from b from older up.0 less

onto_last : (records : List Logged) (r : Logged) (f : History) → onto (records ++ r ∷ []) f ≡ r ∷ onto records f
onto_last [] r f = refl
onto_last (x ∷ records) r f = onto_last records r (x ∷ f)

onto_below : (b : Base) (from : ℕ) (log : History) → Rises b log → onto (records_since from log) (below from log) ≡ log
onto_below b from [] up = refl
onto_below b from (r ∷ older) up = elim (cases_lt r.lsn from) [
  | inl under ↦
      ap (λ (f : History). onto (records_since from (r ∷ older)) f) (below_newest from r older under)
      ∙ ap (λ (l : List Logged). onto l (r ∷ older)) (none_from b from (r ∷ older) up under)
  | inr over ↦
      ap (λ (f : History). onto (records_since from (r ∷ older)) f) (below_older from r older over)
      ∙ ap (λ (l : List Logged). onto l (below from older)) (cond-true (nat_le from r.lsn) (records_since from older ++ r ∷ []) (records_since from older) (le-leb from r.lsn over))
      ∙ onto_last (records_since from older) r (below from older)
      ∙ ap (λ (l : History). r ∷ l) (onto_below b from older up.0)
]

-- every record stands after the base's start
all_from : (b : Base) (from : ℕ) (log : History) → Rises b log → from ≤ b.start + 1 → records_since from log ≡ records_since 0 log
all_from b from [] up low = refl
all_from b from (r ∷ older) up low =
    let start : b.start ≤ end_of b older = start_low b older up.0 in
    let last : end_of b older < r.lsn = up.1 in
    cond-true (nat_le from r.lsn) (records_since from older ++ r ∷ []) (records_since from older) (le-leb from r.lsn (omega (arith, low, start, last)))
    ∙ ap (λ (l : List Logged). l ++ r ∷ []) (all_from b from older up.0 low)
    ∙ sym (cond-true (nat_le 0 r.lsn) (records_since 0 older ++ r ∷ []) (records_since 0 older) (le-leb 0 r.lsn (omega arith)))

-- ---- redo from an LSN on

-- what has had all below an LSN that is not past the base's start has had all below the first that is
raised : (b : Base) (log : History) (from p : ℕ) (g : Page) → Rises b log → Reaches b log from p g → Reaches b log (b.start + 1) p g
raised b log from p g up h = elim (cases_lt b.start h.upto) [
  | inl past ↦ record { upto = h.upto; from = omega (arith, past); is = h.is }
  | inr before ↦ record {
    upto = b.start + 1;
    from = omega arith;
    is = h.is ∙ ap (λ (l : History). page_at b l p) (none_below b h.upto log up (omega (arith, before)) ∙ sym (none_below b (b.start + 1) log up (omega arith)));
  }
]

from_past : (b : Base) (log : History) (from p : ℕ) (g : Page) → Rises b log → b.start < from → Reaches b log from p g → redo_all (records_since from log) p g ≡ page_at b log p
from_past b log from p g up past h =
    let whole = onto_below b from log up in
    redo_reaches_the_page b (below from log) (records_since from log) from p g
    (subst (λ (l : History). Rises b l) (sym whole) up)
    (end_below b from log past)
    (subst (λ (l : History). Reaches b l from p g) (sym whole) h)
    ∙ ap (λ (l : History). page_at b l p) whole

redone_from : (b : Base) (log : History) (from p : ℕ) (g : Page) → Rises b log → Reaches b log from p g → redo_all (records_since from log) p g ≡ page_at b log p
redone_from b log from p g up h = elim (cases_lt b.start from) [
  | inl past ↦ from_past b log from p g up past h
  | inr before ↦
      ap (λ (l : List Logged). redo_all l p g) (all_from b from log up (omega (arith, before)) ∙ sym (all_from b (b.start + 1) log up (omega arith)))
      ∙ from_past b log (b.start + 1) p g up (omega arith) (raised b log from p g up h)
]

-- redo of every record, from the page that the log began with
redone_whole : (b : Base) (log : History) (p : ℕ) → Rises b log → redo_all (records_since 0 log) p (b.pages p) ≡ page_at b log p
redone_whole b log p up = redone_from b log 0 p (b.pages p) up (record {
  upto = 0;
  from = omega arith;
  is = ap (λ (l : History). page_at b l p) (sym (none_below b 0 log up (omega arith)));
})

pub needs_nothing_before : RedoNeedsNothingBefore redo_all
needs_nothing_before b log file up covers p = by (noted (redo_point log) log p) refl
  where
    made : (g : Page) → first_page (noted (redo_point log) log p) (file p) ≡ Some g → Reaches b log (redo_point log) p g → IsRedoneAlike redo_all b log file p
    made g first has = record {
      page = g;
      first = first;
      same = redone_from b log (redo_point log) p g up has ∙ sym (redone_whole b log p up);
      whole = redone_whole b log p up;
    }

    by : (o : Option (ℕ × Page)) → noted (redo_point log) log p ≡ o → IsRedoneAlike redo_all b log file p
    by None none = let found = covers.read p none in made found.page (ap (λ (o : Option (ℕ × Page)). first_page o (file p)) none ∙ found.here) found.reaches
    by (Some (l, c)) some = made c (ap (λ (o : Option (ℕ × Page)). first_page o (file p)) some) (covers.copied p l c some)

-- ---- the least of a Checkpoint's LSNs

least_in : (l : ℕ) (x : DirtyPage) (dirty : List DirtyPage) → IsIn x dirty → least l dirty ≤ x.rec_lsn
least_in l x [] none = absurd none
least_in l x (y ∷ dirty) (inl is) =
    let start : least (min l y.rec_lsn) dirty ≤ min l y.rec_lsn = least_start (min l y.rec_lsn) dirty in
    let same : x.rec_lsn ≡ y.rec_lsn = ap (λ (z : DirtyPage). z.rec_lsn) is in
    omega (arith, start, same)
least_in l x (y ∷ dirty) (inr more) = least_in (min l y.rec_lsn) x dirty more

least_one : (l : ℕ) (dirty : List DirtyPage) → (least l dirty ≡ l) ⊎ HasRecLsn (least l dirty) dirty
least_one l [] = inl refl
least_one l (y ∷ dirty) = elim (least_one (min l y.rec_lsn) dirty) [
  | inr has ↦ inr (record { page = has.page; listed = inr has.listed })
  | inl same ↦ elim (cases_lt l y.rec_lsn) [
    | inl less ↦ inl (omega (arith, same, less))
    | inr more ↦
        let is : least (min l y.rec_lsn) dirty ≡ y.rec_lsn = omega (arith, same, more) in
        inr (record { page = y.page; listed = inl (ap (λ (n : ℕ). let x : DirtyPage = record { page = y.page; rec_lsn = n } in x) is) })
  ]
]

pub is_the_least : RedoPointIsTheLeast
is_the_least r older next active dirty is =
    subst (λ (m : ℕ). IsLeastPoint m r.lsn dirty) (sym (point_checkpoint r older next active dirty is))
    (record { own = least_start r.lsn dirty; each = λ x held. least_in r.lsn x dirty held; one = least_one r.lsn dirty })
