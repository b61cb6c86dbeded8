-- A list that is changed in turn.
use Rattle.std.proofs.Common.{◌≡◌, ℕ, zero, suc, ◌+◌, ◌<◌, false, List, [], ◌∷◌, ◌++◌, length, map, take, drop, get_or, slice_set, filter, Bool, not, refl, ◌∙◌, ap, arith}
use Rattle.std.specs.List.{remove}
use Rattle.std.proofs.lemmas.Bool.Decides.{nat_tests}
use Rattle.im_base_txn.specs.declared.transaction.Transaction.{Transaction}
use Rattle.im_base_txn.specs.Rows.{changed, is_of}

go : {A : Type 0} (f : A → A) (rows : List A) (i : ℕ) (x d : A) → i < length rows → x ≡ f (get_or (map f (take i rows) ++ drop i rows) i d)
    → slice_set (map f (take i rows) ++ drop i rows) i x ≡ map f (take (suc i) rows) ++ drop (suc i) rows
go f [] i x d lt is = absurd (omega (arith, lt))
go f (r ∷ rows) zero x d lt is = ap (λ y. y ∷ rows) is
go f (r ∷ rows) (suc i) x d lt is = ap (λ l. f r ∷ l) (go f rows i x d (omega (arith, lt)) is)

-- one element more
pub map_step : {A : Type 0} (f : A → A) (rows items : List A) (i : ℕ) (x d : A) → items ≡ map f (take i rows) ++ drop i rows → i < length rows → x ≡ f (get_or items i d)
    → slice_set items i x ≡ map f (take (i + 1) rows) ++ drop (i + 1) rows
map_step f rows items i x d is lt at =
    let e : suc i ≡ i + 1 = omega arith in
    ap (λ l. slice_set l i x) is ∙ go f rows i x d lt (at ∙ ap (λ l. f (get_or l i d)) is) ∙ ap (λ (n : ℕ). map f (take n rows) ++ drop n rows) e

-- a row that is of this number, and one that is not
pub changed_here : (n : ℕ) (f : Transaction → Transaction) (row : Transaction) → row.number ≡ n → changed n f row ≡ f row
changed_here n f row is = grind (arith, nat_tests, is)

pub changed_other : (n : ℕ) (f : Transaction → Transaction) (row : Transaction) → (row.number ≡ n → ⊥) → changed n f row ≡ row
changed_other n f row is = grind (arith, nat_tests, is)

-- an element that is not kept
pub removed : {A : Type 0} (p : A → Bool) (items : List A) (i : ℕ) (d : A) → i < length items → p (get_or items i d) ≡ false
    → take i (remove items i) ++ filter p (drop i (remove items i)) ≡ take i items ++ filter p (drop i items)
removed p [] i d lt is = absurd (omega (arith, lt))
removed p (x ∷ xs) zero d lt is = rw (is, filter) refl
removed p (x ∷ xs) (suc i) d lt is = ap (λ l. x ∷ l) (removed p xs i d (omega (arith, lt)) is)

pub not_kept : (n : ℕ) (row : Transaction) → row.number ≡ n → not (is_of n row) ≡ false
not_kept n row is = grind (arith, nat_tests, is)
