-- Undo goes on at ever smaller LSNs.
use Rattle.std.proofs.Common.{◌≡◌, ◌≤◌, ◌<◌, ℕ, List, [], ◌∷◌, ◌++◌, length, Option, None, Some, refl, sym, ◌∙◌, ap, arith}
use Rattle.std.specs.Prelude.{IfSome}
use Rattle.std.specs.declared.cmp.Ordering.{Ordering}
use Rattle.std.specs.declared.cmp.Ordering.TheVariants.{Less, Equal, Greater}
use Rattle.std.specs.Ordering.{match_ordering, nat_cmp}
use Rattle.std.specs.BTreeMap.{insert_entry}
use Rattle.std.specs.Map.{keys_of}
use Rattle.std.specs.List.{All}
use Rattle.std.proofs.lemmas.List.Elements.{All-tail}
use Rattle.std.proofs.lemmas.Cmp.{ranked}
use Rattle.im_restart.specs.declared.chains.Chain.{Chain}
use Rattle.im_restart.specs.LoserChains.{above}

pub above_insert : (es : List (ℕ × Chain)) (l : ℕ) (c : Chain) (n : ℕ) → l < n → above es ≤ n → above (insert_entry nat_cmp es l c) ≤ n
above_insert [] l c n lt le = omega (arith, lt)
above_insert (e ∷ es) l c n lt le = by (nat_cmp l e.0) (above_insert es l c n lt (omega (arith, le)))
  where
    by : (o : Ordering) → above (insert_entry nat_cmp es l c) ≤ n → above (match_ordering o ((l, c) ∷ e ∷ es) ((e.0, c) ∷ es) (e ∷ insert_entry nat_cmp es l c)) ≤ n
    by Less rest = omega (arith, lt, le)
    by Equal rest = omega (arith, lt, le)
    by Greater rest = omega (arith, lt, le, rest)

pub above_last : (es : List (ℕ × Chain)) (l : ℕ) (c : Chain) → l < above (es ++ (l, c) ∷ [])
above_last [] l c = omega arith
above_last (e ∷ es) l c = let rest : l < above (es ++ (l, c) ∷ []) = above_last es l c in omega (arith, rest)

pub above_below : (es : List (ℕ × Chain)) (l : ℕ) → All (λ q. nat_cmp q l ≡ Less) (keys_of es) → above es ≤ l
above_below [] l all = omega arith
above_below (e ∷ es) l all =
    let first : nat_cmp e.0 l ≡ Less = all 0 0 (omega arith) in
    let low : e.0 < l = ranked e.0 l Less (sym first) in
    let rest : above es ≤ l = above_below es l (All-tail (λ q. nat_cmp q l ≡ Less) e.0 (keys_of es) all) in
    omega (arith, low, rest)

-- what stood there is gone, and nothing that stands now is above
pub falls : (old new taken : List (ℕ × Chain)) (l : ℕ) (c : Chain) → old ≡ taken ++ (l, c) ∷ [] → above new ≤ l → above new < above old
falls old new taken l c is le = let last : l < above (taken ++ (l, c) ∷ []) = above_last taken l c in let same : above old ≡ above (taken ++ (l, c) ∷ []) = ap above is in omega (arith, last, same, le)

pub none_left : {X : Type 0} (es : List X) → (0 < length es → ⊥) → es ≡ []
none_left [] none = refl
none_left (e ∷ es) none = absurd (none (omega arith))

pub empty_list : {X : Type 0} (n : ℕ) (es : List X) → n ≡ length es → n ≡ 0 → es ≡ []
empty_list n [] is none = refl
empty_list n (e ∷ es) is none = absurd (omega (arith, is, none))

-- what is empty has no last element, and no first
nothing_ends : {X : Type 0} (es : List X) (e : X) → [] ≡ es ++ e ∷ [] → ⊥
nothing_ends [] e is = cc is
nothing_ends (x ∷ es) e is = cc is

pub last_of_none : {X : Type 0} (all es : List X) (e : X) → all ≡ [] → all ≡ es ++ e ∷ [] → ⊥
last_of_none all es e none is = nothing_ends es e (sym none ∙ is)

pub first_of_none : {X : Type 0} (all es : List X) (e : X) → all ≡ [] → all ≡ e ∷ es → ⊥
first_of_none all es e none is = let clash : [] ≡ e ∷ es = sym none ∙ is in cc clash

-- so where the greatest was taken out
pub above_rest : (o : Option (ℕ × Chain)) (es : List (ℕ × Chain)) → IfSome o (λ p. All (λ q. nat_cmp q p.0 ≡ Less) (keys_of es)) → IfSome o (λ p. above es ≤ p.0)
above_rest None es all = tt
above_rest (Some p) es all = above_below es p.0 all
