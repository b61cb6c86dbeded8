-- How many records redo applies: the LSN of each page as redo goes on.
use Rattle.std.proofs.Common.{◌≡◌, inl, inr, ℕ, ◌+◌, ◌<◌, ◌≤◌, ◌⊎◌, [], ◌∷◌, Bool, true, false, Option, None, Some, refl, sym, ◌∙◌, ap, subst, arith}
use Rattle.std.specs.Prelude.{◌&&◌, ◌==◌, nat_le, nat_lt, if◌then◌else◌}
use Rattle.std.proofs.lemmas.Bool.{cases_lt, eq-eqb, le-leb, le-ltb, lt-leb, lt-ltb}
use Rattle.im_base_types.specs.Pages.{Page}
use Rattle.im_base_types.specs.Records.{Logged}
use Rattle.im_theory_log.specs.Histories.{Base, History, changes_page, end_of, page_after}
use Rattle.im_theory_log.specs.Copies.{noted, redo_one}
use Rattle.im_theory_log.specs.RedoPoints.{redo_point}
use Rattle.im_theory_log.specs.WriterSteps.{applies, is_found, opened}
use Rattle.im_theory_log.proofs.Histories.{no_change}
use Rattle.im_restart_redo.specs.Redo.{applied_in, first_lsn, first_page, is_redone}
use Rattle.im_restart_redo.specs.Applying.{IsLsnBehind}
use Rattle.im_restart_redo.specs.Loading.{HaveFirst}
use Rattle.im_restart_redo.proofs.Reached.{changed_lsn}

-- ---- at first

-- before a copy is loaded each page that waits for none is what the file has
pub first_opened : (b : Base) (begun : History) (file : ℕ → Option Page) → HaveFirst b begun file (opened b begun file).pages
first_opened b begun file p ready = by (noted (redo_point begun) begun p) refl ready
  where
    by : (o : Option (ℕ × Page)) → noted (redo_point begun) begun p ≡ o → is_found o ≡ false → ((opened b begun file).pages p).page.lsn ≡ first_lsn b begun file p
    by None is none = ap (λ (o : Option (ℕ × Page)). (first_page o (file p) (b.pages p)).lsn) (sym is)
    by (Some c) is none = absurd (cc none)

-- and each that was loaded is its noted copy
pub first_loaded : (b : Base) (begun : History) (file : ℕ → Option Page) (p l : ℕ) (c : Page) → noted (redo_point begun) begun p ≡ Some (l, c) → c.lsn ≡ first_lsn b begun file p
first_loaded b begun file p l c is = ap (λ (o : Option (ℕ × Page)). (first_page o (file p) (b.pages p)).lsn) (sym is)

pub lsn_at_first : (b : Base) (first lsn : ℕ) → lsn ≡ first → IsLsnBehind b first [] lsn
lsn_at_first b first lsn is = record { low = omega (arith, is); high = inl is }

-- ---- past a record

rest_false : (x y : Bool) → x ≡ false → (x && y) ≡ false
rest_false x y is = ap (λ (z : Bool). z && y) is

and_true : (x : Bool) → (x && true) ≡ x
and_true true = refl
and_true false = refl

and_false : (x : Bool) → (x && false) ≡ false
and_false true = refl
and_false false = refl

and_then : (x y z : Bool) → (x && y) ≡ false → (x && (y && z)) ≡ false
and_then true y z is = rest_false y z is
and_then false y z is = refl

module _ (b : Base) (first : ℕ) (front : History) (r : Logged) (up : end_of b front < r.lsn) where
  -- a longer front
  pub lsn_longer : (lsn : ℕ) → IsLsnBehind b first front lsn → IsLsnBehind b first (r ∷ front) lsn
  lsn_longer lsn is = record { low = is.low; high = by is.high }
    where
      by : (lsn ≡ first) ⊎ (lsn ≤ end_of b front) → (lsn ≡ first) ⊎ (lsn ≤ r.lsn)
      by (inl same) = inl same
      by (inr under) = inr (omega (arith, under, up))

  under_record : (lsn : ℕ) → first < r.lsn → (lsn ≡ first) ⊎ (lsn ≤ end_of b front) → lsn < r.lsn
  under_record lsn low (inl same) = omega (arith, low, same)
  under_record lsn low (inr under) = omega (arith, under, up)

  -- the record is applied where the page's LSN was lower at first
  pub applied_by : (g : Page) → IsLsnBehind b first front g.lsn → applies r r.page g ≡ (changes_page r.what && nat_lt first r.lsn)
  applied_by g is = here ∙ elim (cases_lt first r.lsn) [
    | inl low ↦
        ap (λ (x : Bool). if x then false else changes_page r.what) (lt-leb r.lsn g.lsn (under_record g.lsn low is.high))
        ∙ sym (and_true (changes_page r.what)) ∙ ap (λ (x : Bool). changes_page r.what && x) (sym (lt-ltb first r.lsn low))
    | inr high ↦
        let low : first ≤ g.lsn = is.low in
        ap (λ (x : Bool). if x then false else changes_page r.what) (le-leb r.lsn g.lsn (omega (arith, high, low)))
        ∙ sym (and_false (changes_page r.what)) ∙ ap (λ (x : Bool). changes_page r.what && x) (sym (le-ltb first r.lsn high))
  ]
    where
      here : applies r r.page g ≡ (if nat_le r.lsn g.lsn then false else changes_page r.what)
      here = ap (λ (x : Bool). if x then (if nat_le r.lsn g.lsn then false else changes_page r.what) else false) (eq-eqb r.page r.page refl)

  changed_by : (g : Page) → first ≤ g.lsn → g.lsn < r.lsn → (lsn_was : (g.lsn ≡ first) ⊎ (g.lsn ≤ end_of b front)) → (x : Bool) → changes_page r.what ≡ x → IsLsnBehind b first (r ∷ front) (page_after r.lsn r.what g).lsn
  changed_by g low under was true is =
      let lsn : (page_after r.lsn r.what g).lsn ≡ r.lsn = changed_lsn r.lsn r.what g is in
      record { low = omega (arith, low, under, lsn); high = inr (omega (arith, lsn)) }
  changed_by g low under was false is =
      subst (λ (h : Page). IsLsnBehind b first (r ∷ front) h.lsn) (sym (no_change r.lsn r.what g is)) (lsn_longer g.lsn (record { low = low; high = was }))

  -- what its page is then, and each other page
  pub lsn_redone : (p : ℕ) (g : Page) → IsLsnBehind b first front g.lsn → IsLsnBehind b first (r ∷ front) (redo_one r p g).lsn
  lsn_redone p g is = by (r.page == p)
    where
      had : IsLsnBehind b first (r ∷ front) (if nat_le r.lsn g.lsn then g else page_after r.lsn r.what g).lsn
      had = elim (cases_lt g.lsn r.lsn) [
        | inl under ↦
            subst (λ (x : Bool). IsLsnBehind b first (r ∷ front) (if x then g else page_after r.lsn r.what g).lsn) (sym (lt-leb r.lsn g.lsn under)) (changed_by g is.low under is.high (changes_page r.what) refl)
        | inr has ↦ subst (λ (x : Bool). IsLsnBehind b first (r ∷ front) (if x then g else page_after r.lsn r.what g).lsn) (sym (le-leb r.lsn g.lsn has)) (lsn_longer g.lsn is)
      ]

      by : (here : Bool) → IsLsnBehind b first (r ∷ front) (if here then (if nat_le r.lsn g.lsn then g else page_after r.lsn r.what g) else g).lsn
      by true = had
      by false = lsn_longer g.lsn is

-- ---- the count

-- a record that is passed by counts nothing
pub none_counted : (lsns : ℕ → ℕ) (point : ℕ) (r : Logged) (older : History) → (nat_le point r.lsn && changes_page r.what) ≡ false → applied_in lsns point (r ∷ older) ≡ applied_in lsns point older
none_counted lsns point r older none =
    let same : applied_in lsns point older + 0 ≡ applied_in lsns point older = omega arith in
    ap (λ (x : Bool). applied_in lsns point older + (if x then 1 else 0)) (and_then (nat_le point r.lsn) (changes_page r.what) (nat_lt (lsns r.page) r.lsn) none) ∙ same

-- and one from the redo point on as it was applied
pub one_counted : (lsns : ℕ → ℕ) (point : ℕ) (r : Logged) (older : History) (done : Bool) (count : ℕ) → point ≤ r.lsn → done ≡ (changes_page r.what && nat_lt (lsns r.page) r.lsn) → count ≡ applied_in lsns point older
    → count + (if done then 1 else 0) ≡ applied_in lsns point (r ∷ older)
one_counted lsns point r older done count low is counted =
    let test : done ≡ is_redone lsns point r = is ∙ ap (λ (x : Bool). x && (changes_page r.what && nat_lt (lsns r.page) r.lsn)) (sym (le-leb point r.lsn low)) in
    ap (λ (n : ℕ). n + (if done then 1 else 0)) counted ∙ ap (λ (x : Bool). applied_in lsns point older + (if x then 1 else 0)) test
