-- Rows of transactions whose Commit waits for a force.
use Rattle.std.proofs.Common.{◌≡◌, ◌<◌, ◌+◌, ℕ, inl, inr, Bool, true, false, not, cond, List, [], ◌∷◌, ◌++◌, length, map, filter, find, Option, None, Some, refl, sym, ap, subst, ◌∙◌, arith}
use Rattle.std.proofs.lemmas.Bool.{cases_eq, cond-false, cond-true, eq-eqb, ne_eqb}
use Rattle.std.proofs.lemmas.List.Filters.{length-filter_both}
use Rattle.std.specs.Prelude.{◌==◌, if◌then◌else◌}
use Rattle.im_base_txn.specs.declared.transaction.Transaction.{Transaction}
use Rattle.im_base_txn.specs.declared.transaction.Mark.{Mark}
use Rattle.im_base_txn.specs.declared.transaction.Mark.TheVariants.{Committing}
use Rattle.im_base_txn.specs.Rows.{AreAbove, AreRising, begun, changed, is_of, is_committing, is_waiting, waits_at, waiting_in, with_changes, with_mark, with_record, without_waiting}
use Rattle.im_base_txn.specs.LookUps.{without}
use Rattle.im_base_txn.proofs.LookUps.{found_here, found_later, left_here, left_later, all_left}

-- of each row the test says whether it waits
abbrev pub AreTold : (ℕ → Bool) → List Transaction → Type 0
AreTold gone [] = Unit {0}
AreTold gone (row ∷ rows) = (is_waiting row ≡ gone row.number) × AreTold gone rows

-- a number that is above none of them is of none
pub none_above : (n : ℕ) (rows : List Transaction) → AreAbove n rows → find (is_of n) rows ≡ None
none_above n [] h = refl
none_above n (r ∷ rs) h = found_later n r rs (λ e. let l : n < r.number = h.0 in absurd (omega (arith, e))) ∙ none_above n rs h.1

-- what is said of each row that is found is said of each
pub told_each : (gone : ℕ → Bool) (rows : List Transaction) → AreRising rows → ((t : ℕ) (row : Transaction) → find (is_of t) rows ≡ Some row → is_waiting row ≡ gone t) → AreTold gone rows
told_each gone [] rising told = tt
told_each gone (r ∷ rs) rising told = (
  told r.number r (found_here r.number r rs refl),
  told_each gone rs rising.1 (λ t row found. elim (cases_eq r.number t) [
    | inl is ↦ (let none = none_above t rs (subst (λ (n : ℕ). AreAbove n rs) is rising.0) in let never : Some row ≡ None = sym found ∙ none in absurd cc)
    | inr other ↦ told t row (found_later t r rs other ∙ found)
  ]),
)

-- one that waits is found no more
pub waiting_gone : (gone : ℕ → Bool) (u : ℕ) (rows : List Transaction) → AreTold gone rows → gone u ≡ true → find (is_of u) (without_waiting rows) ≡ None
waiting_gone gone u [] told is = refl
waiting_gone gone u (r ∷ rs) told is = by (is_waiting r) refl (waiting_gone gone u rs told.1 is)
  where
    by : (b : Bool) → is_waiting r ≡ b → find (is_of u) (without_waiting rs) ≡ None → find (is_of u) (cond (not b) (r ∷ without_waiting rs) (without_waiting rs)) ≡ None
    by true here rest = rest
    by false here rest = found_later u r (without_waiting rs) (λ same. let never : false ≡ true = sym here ∙ told.0 ∙ ap gone same ∙ is in cc never) ∙ rest

-- and the others are as they were
pub waiting_others : (gone : ℕ → Bool) (u : ℕ) (rows : List Transaction) → AreTold gone rows → gone u ≡ false → find (is_of u) (without_waiting rows) ≡ find (is_of u) rows
waiting_others gone u [] told is = refl
waiting_others gone u (r ∷ rs) told is = by (is_waiting r) refl (waiting_others gone u rs told.1 is)
  where
    by : (b : Bool) → is_waiting r ≡ b → find (is_of u) (without_waiting rs) ≡ find (is_of u) rs → find (is_of u) (cond (not b) (r ∷ without_waiting rs) (without_waiting rs)) ≡ find (is_of u) (r ∷ rs)
    by true here rest = rest ∙ sym (found_later u r rs (λ same. let never : true ≡ false = sym here ∙ told.0 ∙ ap gone same ∙ is in cc never))
    by false here rest = ap (λ (o : Option Transaction). cond (r.number == u) (Some r) o) rest

opposite : (b : Bool) → b ≡ not (not b)
opposite true = refl
opposite false = refl

-- who waits and who does not are all
pub waiting_counts : (rows : List Transaction) → length (without_waiting rows) + waiting_in rows ≡ length rows
waiting_counts rows = length-filter_both (λ row. not (is_waiting row)) is_waiting (λ row. opposite (is_waiting row)) rows

-- ---- how many wait after each change of the rows

abbrev pub one_if : Bool → ℕ
one_if true = 1
one_if false = 0

-- a row in front, counted
counts_first : (r : Transaction) (rows : List Transaction) → waiting_in (r ∷ rows) ≡ one_if (is_waiting r) + waiting_in rows
counts_first r rows = by (is_waiting r)
  where
    by : (b : Bool) → length (cond b (r ∷ filter is_waiting rows) (filter is_waiting rows)) ≡ one_if b + waiting_in rows
    by true = omega arith
    by false = omega arith

pub waiting_begun : (n : ℕ) (rows : List Transaction) → waiting_in (rows ++ begun n ∷ []) ≡ waiting_in rows
waiting_begun n [] = refl
waiting_begun n (r ∷ rs) = counts_first r (rs ++ begun n ∷ []) ∙ ap (λ (k : ℕ). one_if (is_waiting r) + k) (waiting_begun n rs) ∙ sym (counts_first r rs)

-- a change of rows that keeps their marks leaves them
pub waiting_kept : (n : ℕ) (f : Transaction → Transaction) → ((row : Transaction) → is_waiting (f row) ≡ is_waiting row) → (rows : List Transaction) → waiting_in (map (changed n f) rows) ≡ waiting_in rows
waiting_kept n f keeps [] = refl
waiting_kept n f keeps (r ∷ rs) =
    counts_first (changed n f r) (map (changed n f) rs)
    ∙ (λ i. one_if (same (r.number == n) i) + waiting_kept n f keeps rs i)
    ∙ sym (counts_first r rs)
  where
    same : (b : Bool) → is_waiting (if b then f r else r) ≡ is_waiting r
    same true = keeps r
    same false = refl

-- so does a record
pub waiting_noted : (n last undo_next : ℕ) (rows : List Transaction) → waiting_in (map (changed n (with_record last undo_next)) rows) ≡ waiting_in rows
waiting_noted n last undo_next rows = waiting_kept n (with_record last undo_next) (λ row. refl) rows

-- and one with which a change is made or taken back
pub waiting_counted : (n last undo_next changes : ℕ) (rows : List Transaction) → waiting_in (map (changed n (with_changes last undo_next changes)) rows) ≡ waiting_in rows
waiting_counted n last undo_next changes rows = waiting_kept n (with_changes last undo_next changes) (λ row. refl) rows

-- above a number nothing is of it
still_above : (n : ℕ) (f : Transaction → Transaction) (rows : List Transaction) → AreAbove n rows → map (changed n f) rows ≡ rows
still_above n f [] h = refl
still_above n f (r ∷ rs) h =
    let l : n < r.number = h.0 in
    (λ i. cond-false (r.number == n) (f r) r (ne_eqb r.number n (λ e. absurd (omega (arith, l, e)))) i ∷ still_above n f rs h.1 i)

-- one row is marked, of which the test says whether it waited before
pub waiting_marked : (n : ℕ) (m : Mark) (rows : List Transaction) → AreRising rows → (row : Transaction) → find (is_of n) rows ≡ Some row → waiting_in (map (changed n (with_mark m)) rows) + one_if (is_waiting row) ≡ waiting_in rows + one_if (is_committing m)
waiting_marked n m [] rising row found = absurd cc
waiting_marked n m (r ∷ rs) rising row found = elim (cases_eq r.number n) [
  | inl is ↦
      (let first : Some r ≡ Some row = sym (found_here n r rs is) ∙ found in
      let it : r ≡ row = cc first in
      let marked : changed n (with_mark m) r ≡ with_mark m r = cond-true (r.number == n) (with_mark m r) r (eq-eqb r.number n is) in
      let tail : map (changed n (with_mark m)) rs ≡ rs = still_above n (with_mark m) rs (subst (λ (k : ℕ). AreAbove k rs) is rising.0) in
      let new : waiting_in (map (changed n (with_mark m)) (r ∷ rs)) ≡ one_if (is_committing m) + waiting_in rs = ap (λ (l : List Transaction). waiting_in l) (λ i. marked i ∷ tail i) ∙ counts_first (with_mark m r) rs in
      let old : waiting_in (r ∷ rs) ≡ one_if (is_waiting row) + waiting_in rs = counts_first r rs ∙ ap (λ (x : Transaction). one_if (is_waiting x) + waiting_in rs) it in
      omega (arith, new, old))
  | inr other ↦
      (let head : changed n (with_mark m) r ≡ r = cond-false (r.number == n) (with_mark m r) r (ne_eqb r.number n other) in
      let new : waiting_in (map (changed n (with_mark m)) (r ∷ rs)) ≡ one_if (is_waiting r) + waiting_in (map (changed n (with_mark m)) rs) =
      ap (λ (x : Transaction). waiting_in (x ∷ map (changed n (with_mark m)) rs)) head ∙ counts_first r (map (changed n (with_mark m)) rs) in
      let old : waiting_in (r ∷ rs) ≡ one_if (is_waiting r) + waiting_in rs = counts_first r rs in
      let rest = waiting_marked n m rs rising.1 row (sym (found_later n r rs other) ∙ found) in
      omega (arith, new, old, rest))
]

-- where there is none of this number, nothing is marked
still_none : (n : ℕ) (f : Transaction → Transaction) (rows : List Transaction) → find (is_of n) rows ≡ None → map (changed n f) rows ≡ rows
still_none n f [] none = refl
still_none n f (r ∷ rs) none = elim (cases_eq r.number n) [
  | inl is ↦ (let never : Some r ≡ None = sym (found_here n r rs is) ∙ none in absurd cc)
  | inr other ↦ (λ i. cond-false (r.number == n) (f r) r (ne_eqb r.number n other) i ∷ still_none n f rs (sym (found_later n r rs other) ∙ none) i)
]

-- one that does not wait is marked, and does not wait then
pub waiting_still : (n : ℕ) (m : Mark) (rows : List Transaction) → AreRising rows → waits_at (find (is_of n) rows) ≡ false → is_committing m ≡ false → waiting_in (map (changed n (with_mark m)) rows) ≡ waiting_in rows
waiting_still n m rows rising before after = by (find (is_of n) rows) refl before
  where
    by : (o : Option Transaction) → find (is_of n) rows ≡ o → waits_at o ≡ false → waiting_in (map (changed n (with_mark m)) rows) ≡ waiting_in rows
    by None none not_so = ap (λ (l : List Transaction). waiting_in l) (still_none n (with_mark m) rows none)
    by (Some row) found not_so =
        let count = waiting_marked n m rows rising row found in
        let x : one_if (is_waiting row) ≡ 0 = ap (λ (b : Bool). one_if b) not_so in
        let y : one_if (is_committing m) ≡ 0 = ap (λ (b : Bool). one_if b) after in
        omega (arith, count, x, y)

-- one begins to wait
pub waiting_more : (n : ℕ) (rows : List Transaction) → AreRising rows → (row : Transaction) → find (is_of n) rows ≡ Some row → is_waiting row ≡ false → waiting_in (map (changed n (with_mark Committing)) rows) ≡ waiting_in rows + 1
waiting_more n rows rising row found not_so =
    let count = waiting_marked n Committing rows rising row found in
    let x : one_if (is_waiting row) ≡ 0 = ap (λ (b : Bool). one_if b) not_so in
    omega (arith, count, x)

-- one that does not wait has ended
pub waiting_ended : (n : ℕ) (rows : List Transaction) → AreRising rows → waits_at (find (is_of n) rows) ≡ false → waiting_in (without n rows) ≡ waiting_in rows
waiting_ended n [] rising not_so = refl
waiting_ended n (r ∷ rs) rising not_so = elim (cases_eq r.number n) [
  | inl is ↦
      (let tail : waiting_in (without n (r ∷ rs)) ≡ waiting_in rs = ap (λ (l : List Transaction). waiting_in l) (left_here n r rs is ∙ all_left n rs (subst (λ (k : ℕ). AreAbove k rs) is rising.0)) in
      let own : one_if (is_waiting r) ≡ 0 = ap one_if (ap waits_at (sym (found_here n r rs is)) ∙ not_so) in
      let first : waiting_in (r ∷ rs) ≡ one_if (is_waiting r) + waiting_in rs = counts_first r rs in
      let is_so : waiting_in (without n (r ∷ rs)) ≡ waiting_in (r ∷ rs) = omega (arith, tail, own, first) in
      is_so)
  | inr other ↦
      ap (λ (l : List Transaction). waiting_in l) (left_later n r rs other)
      ∙ counts_first r (without n rs)
      ∙ ap (λ (k : ℕ). one_if (is_waiting r) + k) (waiting_ended n rs rising.1 (ap waits_at (sym (found_later n r rs other)) ∙ not_so))
      ∙ sym (counts_first r rs)
]

-- and so have all that waited
pub waiting_none : (rows : List Transaction) → waiting_in (without_waiting rows) ≡ 0
waiting_none [] = refl
waiting_none (r ∷ rs) = by (is_waiting r) refl (waiting_none rs)
  where
    by : (b : Bool) → is_waiting r ≡ b → waiting_in (without_waiting rs) ≡ 0 → waiting_in (cond (not b) (r ∷ without_waiting rs) (without_waiting rs)) ≡ 0
    by true is rest = rest
    by false is rest =
        let first : waiting_in (r ∷ without_waiting rs) ≡ one_if (is_waiting r) + waiting_in (without_waiting rs) = counts_first r (without_waiting rs) in
        let own : one_if (is_waiting r) ≡ 0 = ap one_if is in
        omega (arith, first, own, rest)
