-- Rows found in a table that was changed.
use Rattle.std.proofs.Common.{◌≡◌, ◌≢◌, ◌<◌, ◌≤◌, ◌+◌, ℕ, suc, inl, inr, true, false, List, [], ◌∷◌, ◌++◌, length, length-append, map, filter, find, Bool, not, cond, refl, sym, ◌∙◌, ap, subst, Option, None, Some, arith}
use Rattle.std.proofs.lemmas.Bool.{eq-eqb, ne_eqb, cond-false, cond-true, cases_eq}
use Rattle.std.specs.Prelude.{◌==◌, if◌then◌else◌}
use Rattle.im_base_txn.specs.declared.transaction.Transaction.{Transaction}
use Rattle.im_base_txn.specs.Rows.{AreAbove, AreBelow, AreRising, begun, changed, is_of, is_waiting, waiting_in}
use Rattle.im_base_txn.specs.LookUps.{Keeps, without, LookUpsFollow, NumbersStayBelow}

same_row : (a b : Transaction) → Some a ≡ Some b → a ≡ b
same_row a b e = cc

suc_is : (n : ℕ) → suc n ≡ n + 1
suc_is n = omega arith

-- a row in front
module _ (n : ℕ) (row : Transaction) (rows : List Transaction) where
  pub found_here : row.number ≡ n → find (is_of n) (row ∷ rows) ≡ Some row
  found_here is = cond-true (row.number == n) (Some row) (find (is_of n) rows) (eq-eqb row.number n is)

  pub found_later : row.number ≢ n → find (is_of n) (row ∷ rows) ≡ find (is_of n) rows
  found_later is = cond-false (row.number == n) (Some row) (find (is_of n) rows) (ne_eqb row.number n is)

  pub left_here : row.number ≡ n → without n (row ∷ rows) ≡ without n rows
  left_here is = ap (λ (b : Bool). cond (not b) (row ∷ without n rows) (without n rows)) (eq-eqb row.number n is)

  pub left_later : row.number ≢ n → without n (row ∷ rows) ≡ row ∷ without n rows
  left_later is = ap (λ (b : Bool). cond (not b) (row ∷ without n rows) (without n rows)) (ne_eqb row.number n is)

changed_number : (n : ℕ) (f : Transaction → Transaction) → Keeps f → (row : Transaction) → (changed n f row).number ≡ row.number
changed_number n f keeps row = go (row.number == n)
  where
    go : (b : Bool) → (if b then f row else row).number ≡ row.number
    go true = keeps row
    go false = refl

changed_of : (n : ℕ) (f : Transaction → Transaction) (row : Transaction) → row.number ≡ n → changed n f row ≡ f row
changed_of n f row is = cond-true (row.number == n) (f row) row (eq-eqb row.number n is)

changed_not : (n : ℕ) (f : Transaction → Transaction) (row : Transaction) → row.number ≢ n → changed n f row ≡ row
changed_not n f row is = cond-false (row.number == n) (f row) row (ne_eqb row.number n is)

found_number : (n : ℕ) (rows : List Transaction) (row : Transaction) → find (is_of n) rows ≡ Some row → row.number ≡ n
found_number n [] row e = absurd cc
found_number n (r ∷ rs) row e = elim (cases_eq r.number n) [
  | inl is ↦ ap (λ (x : Transaction). x.number) (sym (same_row r row (sym (found_here n r rs is) ∙ e))) ∙ is
  | inr other ↦ found_number n rs row (sym (found_later n r rs other) ∙ e)
]

none_below : (n : ℕ) (rows : List Transaction) → AreBelow n rows → find (is_of n) rows ≡ None
none_below n [] h = refl
none_below n (r ∷ rs) h = found_later n r rs (λ e. let l : r.number < n = h.0 in absurd (omega (arith, e))) ∙ none_below n rs h.1

begun_found : (n : ℕ) (rows : List Transaction) → find (is_of n) rows ≡ None → find (is_of n) (rows ++ begun n ∷ []) ≡ Some (begun n)
begun_found n [] none = found_here n (begun n) [] refl
begun_found n (r ∷ rs) none = elim (cases_eq r.number n) [
  | inl is ↦ let never : Some r ≡ None = sym (found_here n r rs is) ∙ none in absurd cc
  | inr other ↦ found_later n r (rs ++ begun n ∷ []) other ∙ begun_found n rs (sym (found_later n r rs other) ∙ none)
]

begun_others : (u n : ℕ) (rows : List Transaction) → u ≢ n → find (is_of u) (rows ++ begun n ∷ []) ≡ find (is_of u) rows
begun_others u n [] differ = found_later u (begun n) [] (λ e. differ (sym e))
begun_others u n (r ∷ rs) differ = ap (λ (o : Option Transaction). cond (r.number == u) (Some r) o) (begun_others u n rs differ)

changed_found : (n : ℕ) (f : Transaction → Transaction) → Keeps f → (rows : List Transaction) (row : Transaction) → find (is_of n) rows ≡ Some row → find (is_of n) (map (changed n f) rows) ≡ Some (f row)
changed_found n f keeps [] row e = absurd cc
changed_found n f keeps (r ∷ rs) row e = elim (cases_eq r.number n) [
  | inl is ↦
      found_here n (changed n f r) (map (changed n f) rs) (changed_number n f keeps r ∙ is)
      ∙ ap (λ (x : Transaction). Some x) (changed_of n f r is ∙ ap f (same_row r row (sym (found_here n r rs is) ∙ e)))
  | inr other ↦
      found_later n (changed n f r) (map (changed n f) rs) (λ q. other (sym (changed_number n f keeps r) ∙ q))
      ∙ changed_found n f keeps rs row (sym (found_later n r rs other) ∙ e)
]

changed_others : (u n : ℕ) (f : Transaction → Transaction) → Keeps f → (rows : List Transaction) → u ≢ n → find (is_of u) (map (changed n f) rows) ≡ find (is_of u) rows
changed_others u n f keeps [] differ = refl
changed_others u n f keeps (r ∷ rs) differ = elim (cases_eq r.number u) [
  | inl is ↦
      found_here u (changed n f r) (map (changed n f) rs) (changed_number n f keeps r ∙ is)
      ∙ ap (λ (x : Transaction). Some x) (changed_not n f r (λ q. differ (sym is ∙ q)))
      ∙ sym (found_here u r rs is)
  | inr other ↦
      found_later u (changed n f r) (map (changed n f) rs) (λ q. other (sym (changed_number n f keeps r) ∙ q))
      ∙ changed_others u n f keeps rs differ
      ∙ sym (found_later u r rs other)
]

ended_found : (n : ℕ) (rows : List Transaction) → find (is_of n) (without n rows) ≡ None
ended_found n [] = refl
ended_found n (r ∷ rs) = elim (cases_eq r.number n) [
  | inl is ↦ ap (λ (l : List Transaction). find (is_of n) l) (left_here n r rs is) ∙ ended_found n rs
  | inr other ↦ ap (λ (l : List Transaction). find (is_of n) l) (left_later n r rs other) ∙ found_later n r (without n rs) other ∙ ended_found n rs
]

ended_others : (u n : ℕ) (rows : List Transaction) → u ≢ n → find (is_of u) (without n rows) ≡ find (is_of u) rows
ended_others u n [] differ = refl
ended_others u n (r ∷ rs) differ = elim (cases_eq r.number n) [
  | inl is ↦
      ap (λ (l : List Transaction). find (is_of u) l) (left_here n r rs is)
      ∙ ended_others u n rs differ
      ∙ sym (found_later u r rs (λ q. differ (sym q ∙ is)))
  | inr other ↦
      ap (λ (l : List Transaction). find (is_of u) l) (left_later n r rs other)
      ∙ ap (λ (o : Option Transaction). cond (r.number == u) (Some r) o) (ended_others u n rs differ)
]

pub all_left : (n : ℕ) (rows : List Transaction) → AreAbove n rows → without n rows ≡ rows
all_left n [] h = refl
all_left n (r ∷ rs) h = left_later n r rs (λ e. let l : n < r.number = h.0 in absurd (omega (arith, e))) ∙ ap (λ (l : List Transaction). r ∷ l) (all_left n rs h.1)

one_shorter : (n : ℕ) (rows : List Transaction) (row : Transaction) → AreRising rows → find (is_of n) rows ≡ Some row → length rows ≡ length (without n rows) + 1
one_shorter n [] row rising e = absurd cc
one_shorter n (r ∷ rs) row rising e = elim (cases_eq r.number n) [
  | inl is ↦
      let left : without n (r ∷ rs) ≡ rs = left_here n r rs is ∙ all_left n rs (subst (λ (k : ℕ). AreAbove k rs) is rising.0) in
      suc_is (length rs) ∙ sym (ap (λ (l : List Transaction). length l + 1) left)
  | inr other ↦
      ap (λ (k : ℕ). suc k) (one_shorter n rs row rising.1 (sym (found_later n r rs other) ∙ e))
      ∙ ap (λ (k : ℕ). suc k) (sym (suc_is (length (without n rs))))
      ∙ suc_is (suc (length (without n rs)))
      ∙ sym (ap (λ (l : List Transaction). length l + 1) (left_later n r rs other))
]

pub look_ups_follow : LookUpsFollow
look_ups_follow = record {
  found = found_number;
  fresh = none_below;
  begun_own = begun_found;
  begun_other = begun_others;
  changed_own = changed_found;
  changed_other = changed_others;
  ended_own = ended_found;
  ended_other = ended_others;
  ended_length = one_shorter;
}

-- ---- numbers rise, and stay below the next one

above_begun : (n m : ℕ) (rows : List Transaction) → AreAbove n rows → n < m → AreAbove n (rows ++ begun m ∷ [])
above_begun n m [] h l = (l, tt)
above_begun n m (r ∷ rs) h l = (h.0, above_begun n m rs h.1 l)

pub rising_begun : (n : ℕ) (rows : List Transaction) → AreRising rows → AreBelow n rows → AreRising (rows ++ begun n ∷ [])
rising_begun n [] rising below = (tt, tt)
rising_begun n (r ∷ rs) rising below = (above_begun r.number n rs rising.0 below.0, rising_begun n rs rising.1 below.1)

above_changed : (n m : ℕ) (f : Transaction → Transaction) → Keeps f → (rows : List Transaction) → AreAbove n rows → AreAbove n (map (changed m f) rows)
above_changed n m f keeps [] h = tt
above_changed n m f keeps (r ∷ rs) h = (subst (λ (k : ℕ). n < k) (sym (changed_number m f keeps r)) h.0, above_changed n m f keeps rs h.1)

pub rising_changed : (n : ℕ) (f : Transaction → Transaction) → Keeps f → (rows : List Transaction) → AreRising rows → AreRising (map (changed n f) rows)
rising_changed n f keeps [] h = tt
rising_changed n f keeps (r ∷ rs) h = (
  subst (λ (k : ℕ). AreAbove k (map (changed n f) rs)) (sym (changed_number n f keeps r)) (above_changed r.number n f keeps rs h.0),
  rising_changed n f keeps rs h.1,
)

above_left : (n m : ℕ) (rows : List Transaction) → AreAbove n rows → AreAbove n (without m rows)
above_left n m [] h = tt
above_left n m (r ∷ rs) h = go (not (r.number == m)) (above_left n m rs h.1)
  where
    go : (b : Bool) → AreAbove n (without m rs) → AreAbove n (cond b (r ∷ without m rs) (without m rs))
    go true rest = (h.0, rest)
    go false rest = rest

pub rising_left : (n : ℕ) (rows : List Transaction) → AreRising rows → AreRising (without n rows)
rising_left n [] h = tt
rising_left n (r ∷ rs) h = go (not (r.number == n)) (rising_left n rs h.1)
  where
    go : (b : Bool) → AreRising (without n rs) → AreRising (cond b (r ∷ without n rs) (without n rs))
    go true rest = (above_left r.number n rs h.0, rest)
    go false rest = rest

below_begun : (n : ℕ) (rows : List Transaction) → AreBelow n rows → AreBelow (suc n) (rows ++ begun n ∷ [])
below_begun n [] h = (let l : n < suc n = omega arith in l, tt)
below_begun n (r ∷ rs) h = (let l : r.number < n = h.0 in let m : r.number < suc n = omega (arith, l) in m, below_begun n rs h.1)

below_changed : (next n : ℕ) (f : Transaction → Transaction) → Keeps f → (rows : List Transaction) → AreBelow next rows → AreBelow next (map (changed n f) rows)
below_changed next n f keeps [] h = tt
below_changed next n f keeps (r ∷ rs) h = (subst (λ (k : ℕ). k < next) (sym (changed_number n f keeps r)) h.0, below_changed next n f keeps rs h.1)

below_left : (next n : ℕ) (rows : List Transaction) → AreBelow next rows → AreBelow next (without n rows)
below_left next n [] h = tt
below_left next n (r ∷ rs) h = go (not (r.number == n)) (below_left next n rs h.1)
  where
    go : (b : Bool) → AreBelow next (without n rs) → AreBelow next (cond b (r ∷ without n rs) (without n rs))
    go true rest = (h.0, rest)
    go false rest = rest

below_part : (next : ℕ) (p : Transaction → Bool) (rows : List Transaction) → AreBelow next rows → AreBelow next (filter p rows)
below_part next p [] h = tt
below_part next p (r ∷ rs) h = go (p r) (below_part next p rs h.1)
  where
    go : (b : Bool) → AreBelow next (filter p rs) → AreBelow next (cond b (r ∷ filter p rs) (filter p rs))
    go true rest = (h.0, rest)
    go false rest = rest

pub numbers_stay_below : NumbersStayBelow
numbers_stay_below = record { begins = below_begun; changes = below_changed; ends = below_left; forces = λ next rows below. below_part next (λ row. not (is_waiting row)) rows below }

-- ---- the invariant of the table, after each change of its rows

abbrev pub IsTable : List Transaction → Type 0
IsTable rows = (length rows ≤ 64) × AreRising rows

length_changed : (f : Transaction → Transaction) (rows : List Transaction) → length (map f rows) ≡ length rows
length_changed f [] = refl
length_changed f (r ∷ rs) = ap (λ (n : ℕ). suc n) (length_changed f rs)

length_left : (n : ℕ) (rows : List Transaction) → length (without n rows) ≤ length rows
length_left n [] = omega arith
length_left n (r ∷ rs) = go (not (r.number == n)) (length_left n rs)
  where
    go : (b : Bool) → length (without n rs) ≤ length rs → length (cond b (r ∷ without n rs) (without n rs)) ≤ length (r ∷ rs)
    go true h = omega (arith, h)
    go false h = omega (arith, h)

pub table_begun : (n : ℕ) (new old inside : List Transaction) → new ≡ inside ++ begun n ∷ [] → inside ≡ old → length old < 64 → AreBelow n old → IsTable inside → IsTable new
table_begun n new old inside is same room below table =
    let long : length new ≡ length inside + 1 = ap (λ (l : List Transaction). length l) is ∙ length-append inside (begun n ∷ []) in
    let here : length inside ≡ length old = ap (λ (l : List Transaction). length l) same in (
      omega (arith, long, here, room),
      subst (λ (l : List Transaction). AreRising l) (sym is) (rising_begun n inside table.1 (subst (λ (l : List Transaction). AreBelow n l) (sym same) below)),
    )

pub table_changed : (n : ℕ) (f : Transaction → Transaction) → Keeps f → (new old inside : List Transaction) → new ≡ map (changed n f) old → inside ≡ old → IsTable inside → IsTable new
table_changed n f keeps new old inside is same table =
    let long : length new ≡ length old = ap (λ (l : List Transaction). length l) is ∙ length_changed (changed n f) old in
    let here : length inside ≡ length old = ap (λ (l : List Transaction). length l) same in
    let few : length inside ≤ 64 = table.0 in (
      omega (arith, long, here, few),
      subst (λ (l : List Transaction). AreRising l) (sym is) (rising_changed n f keeps old (subst (λ (l : List Transaction). AreRising l) same table.1)),
    )

pub table_left : (n : ℕ) (new old inside : List Transaction) → new ≡ without n old → inside ≡ old → IsTable inside → IsTable new
table_left n new old inside is same table =
    let long : length new ≡ length (without n old) = ap (λ (l : List Transaction). length l) is in
    let less : length (without n old) ≤ length old = length_left n old in
    let here : length inside ≡ length old = ap (λ (l : List Transaction). length l) same in
    let few : length inside ≤ 64 = table.0 in (
      omega (arith, long, less, here, few),
      subst (λ (l : List Transaction). AreRising l) (sym is) (rising_left n old (subst (λ (l : List Transaction). AreRising l) same table.1)),
    )

-- the rows that pass a test
pub above_part : (n : ℕ) (p : Transaction → Bool) (rows : List Transaction) → AreAbove n rows → AreAbove n (filter p rows)
above_part n p [] h = tt
above_part n p (r ∷ rs) h = go (p r) (above_part n p rs h.1)
  where
    go : (b : Bool) → AreAbove n (filter p rs) → AreAbove n (cond b (r ∷ filter p rs) (filter p rs))
    go true rest = (h.0, rest)
    go false rest = rest

rising_part : (p : Transaction → Bool) (rows : List Transaction) → AreRising rows → AreRising (filter p rows)
rising_part p [] h = tt
rising_part p (r ∷ rs) h = go (p r) (rising_part p rs h.1)
  where
    go : (b : Bool) → AreRising (filter p rs) → AreRising (cond b (r ∷ filter p rs) (filter p rs))
    go true rest = (above_part r.number p rs h.0, rest)
    go false rest = rest

length_part : (p : Transaction → Bool) (rows : List Transaction) → length (filter p rows) ≤ length rows
length_part p [] = omega arith
length_part p (r ∷ rs) = go (p r) (length_part p rs)
  where
    go : (b : Bool) → length (filter p rs) ≤ length rs → length (cond b (r ∷ filter p rs) (filter p rs)) ≤ length (r ∷ rs)
    go true h = omega (arith, h)
    go false h = omega (arith, h)

pub few_waiting : (rows : List Transaction) → waiting_in rows ≤ length rows
few_waiting rows = length_part is_waiting rows

pub table_part : (p : Transaction → Bool) (new old inside : List Transaction) → new ≡ filter p old → inside ≡ old → IsTable inside → IsTable new
table_part p new old inside is same table =
    let long : length new ≡ length (filter p old) = ap (λ (l : List Transaction). length l) is in
    let less : length (filter p old) ≤ length old = length_part p old in
    let here : length inside ≡ length old = ap (λ (l : List Transaction). length l) same in
    let few : length inside ≤ 64 = table.0 in (
      omega (arith, long, less, here, few),
      subst (λ (l : List Transaction). AreRising l) (sym is) (rising_part p old (subst (λ (l : List Transaction). AreRising l) same table.1)),
    )

pub one_left : (n : ℕ) (new old inside : List Transaction) → new ≡ without n old → inside ≡ old → IsTable inside → (row : Transaction) → find (is_of n) old ≡ Some row → length old ≡ length new + 1
one_left n new old inside is same table row found =
    one_shorter n old row (subst (λ (l : List Transaction). AreRising l) same table.1) found ∙ ap (λ (l : List Transaction). length l + 1) (sym is)
