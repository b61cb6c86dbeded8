-- One page, and its own records.
use Rattle.std.proofs.Common.{◌≡◌, ℕ, ◌+◌, List, [], ◌∷◌, Bool, true, false, refl, sym, ◌∙◌, ap, arith}
use Rattle.std.specs.Prelude.{if◌then◌else◌, ◌==◌, nat_le}
use Rattle.std.proofs.lemmas.Bool.{cond-false}
use Rattle.im_base_types.specs.Pages.{Page}
use Rattle.im_base_types.specs.Records.{Logged}
use Rattle.im_theory_log.specs.Histories.{changes_page, page_after}
use Rattle.im_theory_log.specs.Copies.{redo_all, redo_one}
use Rattle.im_theory_log.specs.WriterSteps.{applies}
use Rattle.im_page_rounds.specs.Rounds.{of_page, applied_to, NeedOwnRecords}

abbrev one_if : Bool → ℕ
one_if t = if t then 1 else 0

-- a record of another page changes nothing, and is not applied
pub other_page : (r : Logged) (p : ℕ) (g : Page) → (r.page == p) ≡ false → redo_one r p g ≡ g
other_page r p g off = cond-false (r.page == p) (if nat_le r.lsn g.lsn then g else page_after r.lsn r.what g) g off

pub other_count : (r : Logged) (p : ℕ) (g : Page) → (r.page == p) ≡ false → one_if (applies r p g) ≡ 0
other_count r p g off = ap one_if (cond-false (r.page == p) (if nat_le r.lsn g.lsn then false else changes_page r.what) false off)

own_page : (rs : List Logged) (p : ℕ) (g : Page) → redo_all (of_page p rs) p g ≡ redo_all rs p g
own_page [] p g = refl
own_page (r ∷ rs) p g = by (own_page rs p) (r.page == p) refl
  where
    by : ((h : Page) → redo_all (of_page p rs) p h ≡ redo_all rs p h) → (t : Bool) → (r.page == p) ≡ t → redo_all (if t then r ∷ of_page p rs else of_page p rs) p g ≡ redo_all rs p (redo_one r p g)
    by rest true is = rest (redo_one r p g)
    by rest false is = rest g ∙ ap (λ (x : Page). redo_all rs p x) (sym (other_page r p g is))

own_count : (rs : List Logged) (p : ℕ) (g : Page) → applied_to (of_page p rs) p g ≡ applied_to rs p g
own_count [] p g = refl
own_count (r ∷ rs) p g = by (own_count rs p) (r.page == p) refl
  where
    by : ((h : Page) → applied_to (of_page p rs) p h ≡ applied_to rs p h) → (t : Bool) → (r.page == p) ≡ t → applied_to (if t then r ∷ of_page p rs else of_page p rs) p g ≡ one_if (applies r p g) + applied_to rs p (redo_one r p g)
    by rest true is = ap (λ (n : ℕ). one_if (applies r p g) + n) (rest (redo_one r p g))
    by rest false is =
        let same : applied_to rs p (redo_one r p g) ≡ applied_to rs p g = ap (λ (x : Page). applied_to rs p x) (other_page r p g is) in
        let none : one_if (applies r p g) ≡ 0 = other_count r p g is in
        let all : applied_to (of_page p rs) p g ≡ applied_to rs p g = rest g in
        omega (arith, same, none, all)

pub own_records : NeedOwnRecords
own_records = record {
  page = own_page;
  count = own_count;
  none = λ rs p g off. (
    sym (own_page rs p g) ∙ ap (λ (x : List Logged). redo_all x p g) off,
    sym (own_count rs p g) ∙ ap (λ (x : List Logged). applied_to x p g) off,
  );
}
