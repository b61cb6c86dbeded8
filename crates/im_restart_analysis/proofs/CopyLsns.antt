-- Full copies: those at or after an LSN are the last ones of all that stand there; a map of them is put back.
use Rattle.std.proofs.Common.{◌≡◌, ◌≢◌, ◌⊎◌, ◌<◌, ℕ, [], ◌∷◌, true, Option, None, Some, Result, Ok, Err, OnOk, OnErr, inl, inr, refl, sym, ◌∙◌, ap, arith}
use Rattle.std.specs.Prelude.{cond, nat_le}
use Rattle.std.specs.Option.{option_map}
use Rattle.std.specs.Cmp.{nat_cmp_total}
use Rattle.std.specs.Ordering.{nat_cmp, is_eq}
use Rattle.std.specs.declared.cmp.Ordering.{Ordering}
use Rattle.std.specs.declared.cmp.Ordering.TheVariants.{Less, Equal, Greater}
use Rattle.std.specs.BTreeMap.{get, is_at, IsOrdered, Updates}
use Rattle.std.proofs.lemmas.Bool.{cases_eq, cases_lt, cases_Bool, cond-true, cond-false, le-leb, lt-leb}
use Rattle.std.proofs.lemmas.Map.Entries.{option_filter}
use Rattle.std.proofs.lemmas.Map.Lookups.{btree_map_from_get, exact_unsigned}
use Rattle.im_base_types.specs.Pages.{Page}
use Rattle.im_base_types.specs.Records.{Logged}
use Rattle.im_theory_log.specs.Histories.{History, IsRecordOf}
use Rattle.im_theory_log.specs.Copies.{noted, copy_in}
use Rattle.im_theory_log.proofs.Copies.{noted_below, noted_none, noted_here}
use Rattle.im_restart_analysis.specs.CopyLsns.{copy_lsn, CopyMap, IsAbove, LsnsRise}

-- ---- a later start

-- records below an LSN have no copy at or after it
none_noted : (from : ℕ) (log : History) (p : ℕ) → ((s : Logged) → IsRecordOf s log → s.lsn < from) → noted from log p ≡ None
none_noted from [] p low = refl
none_noted from (r ∷ older) p low = noted_below from r older p (low r (inl refl)) ∙ none_noted from older p (λ s h. low s (inr h))

abbrev IsSince : ℕ → History → ℕ → Type 0
IsSince from log p = copy_lsn from log p ≡ option_filter (nat_le from) (copy_lsn 0 log p)

module _ (from : ℕ) (r : Logged) (older : History) (p : ℕ) (above : IsAbove r.lsn older) (before : IsSince from older p) where
  kept : noted from (r ∷ older) p ≡ noted from older p → noted 0 (r ∷ older) p ≡ noted 0 older p → IsSince from (r ∷ older) p
  kept a b =
      ap (λ (o : Option (ℕ × Page)). option_map (λ (c : ℕ × Page). c.0) o) a
      ∙ before
      ∙ sym (ap (λ (o : Option (ℕ × Page)). option_filter (nat_le from) (option_map (λ (c : ℕ × Page). c.0) o)) b)

  here : (c : Page) → r.page ≡ p → copy_in r.lsn r.what ≡ Some c → IsSince from (r ∷ older) p
  here c mine is =
      let first : copy_lsn 0 (r ∷ older) p ≡ Some r.lsn = ap (λ (o : Option (ℕ × Page)). option_map (λ (c : ℕ × Page). c.0) o) (noted_here 0 r older p c (omega arith) mine is) in
      elim (cases_lt r.lsn from) [
        | inl under ↦
            let none : noted from (r ∷ older) p ≡ None = noted_below from r older p under ∙ none_noted from older p (λ s h. (let less : s.lsn < r.lsn = above s h in omega (arith, less, under))) in
            let right : option_filter (nat_le from) (Some r.lsn) ≡ None = cond-false (nat_le from r.lsn) (Some r.lsn) None (lt-leb from r.lsn under) in
            ap (λ (o : Option (ℕ × Page)). option_map (λ (c : ℕ × Page). c.0) o) none ∙ sym (ap (λ (o : Option ℕ). option_filter (nat_le from) o) first ∙ right)
        | inr over ↦
            let right : option_filter (nat_le from) (Some r.lsn) ≡ Some r.lsn = cond-true (nat_le from r.lsn) (Some r.lsn) None (le-leb from r.lsn over) in
            ap (λ (o : Option (ℕ × Page)). option_map (λ (c : ℕ × Page). c.0) o) (noted_here from r older p c over mine is)
            ∙ sym (ap (λ (o : Option ℕ). option_filter (nat_le from) o) first ∙ right)
      ]

  by : (o : Option Page) → copy_in r.lsn r.what ≡ o → IsSince from (r ∷ older) p
  by None is = kept (noted_none from r older p (λ _. is)) (noted_none 0 r older p (λ _. is))
  by (Some c) is = elim (cases_eq r.page p) [
    | inl mine ↦ here c mine is
    | inr other ↦ kept (noted_none from r older p (λ e. absurd (other e))) (noted_none 0 r older p (λ e. absurd (other e)))
  ]

pub copies_since : (from : ℕ) (log : History) (p : ℕ) → LsnsRise log → IsSince from log p
copies_since from [] p rise = refl
copies_since from (r ∷ older) p rise = by from r older p rise.1 (copies_since from older p rise.0) (copy_in r.lsn r.what) refl

-- ---- a map put back

is_equal : (o : Ordering) → is_eq o ≡ true → o ≡ Equal
is_equal Equal is = refl
is_equal Less is = cc is
is_equal Greater is = cc is

pub put_back : (was copies new : CopyMap) (page lsn : ℕ) (before : Option ℕ) → IsOrdered nat_cmp was → IsOrdered nat_cmp new → before ≡ get nat_cmp was page
    → Updates nat_cmp was copies page (Some lsn) → ((q : ℕ) → get nat_cmp new q ≡ cond (is_at (nat_cmp page) q) before (get nat_cmp copies q)) → new.entries ≡ was.entries
put_back was copies new page lsn before sorted sorted_new is put back = btree_map_from_get nat_cmp_total new was sorted_new sorted each exact_unsigned
  where
    each : (q : ℕ) → get nat_cmp new q ≡ get nat_cmp was q
    each q = back q ∙ elim (cases_Bool (is_at (nat_cmp page) q)) [
      | inl here ↦
          let same : page ≡ q = exact_unsigned page q (is_equal (nat_cmp page q) here) in
          cond-true (is_at (nat_cmp page) q) before (get nat_cmp copies q) here ∙ is ∙ ap (λ (x : ℕ). get nat_cmp was x) same
      | inr other ↦
          cond-false (is_at (nat_cmp page) q) before (get nat_cmp copies q) other
          ∙ put.0 q
          ∙ cond-false (is_at (nat_cmp page) q) (Some lsn) (get nat_cmp was q) other
    ]

-- an insert at a key that is there does not fail
pub inserted : {E : Type 0} (result : Result (Option ℕ) E) (P : Type 0) (found : Option ℕ) (lsn : ℕ) → OnOk result P → OnErr result (found ≡ None) → found ≡ Some lsn → P
inserted (Ok x) P found lsn done absent is = done
inserted (Err e) P found lsn done absent is = let clash : None ≡ Some lsn = sym absent ∙ is in absurd (cc clash)

-- what a map has after an insert: the new pair, and the old ones at other keys
pub inserted_at : (m n : CopyMap) (p l : ℕ) → Updates nat_cmp m n p (Some l) → (q k : ℕ) → get nat_cmp n q ≡ Some k → ((q ≡ p) × (k ≡ l)) ⊎ ((q ≢ p) × (get nat_cmp m q ≡ Some k))
inserted_at m n p l up q k has = elim (cases_eq q p) [
  | inl here ↦ let same : Some k ≡ Some l = sym has ∙ ap (λ (x : ℕ). get nat_cmp n x) here ∙ up.1 in inl (here, (let e : k ≡ l = cc same in e))
  | inr other ↦ elim (cases_Bool (is_at (nat_cmp p) q)) [
    | inl at ↦ absurd (other (sym (exact_unsigned p q (is_equal (nat_cmp p q) at))))
    | inr past ↦ inr (other, sym (up.0 q ∙ cond-false (is_at (nat_cmp p) q) (Some l) (get nat_cmp m q) past) ∙ has)
  ]
]
