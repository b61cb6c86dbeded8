-- The map of numbers: a number noted, and the held pages put in again, the least recently used first.
use Rattle.std.proofs.Common.{◌≡◌, ◌≢◌, ⊎_elim, ℕ, ◌+◌, ◌≤◌, Bool, true, false, cond, ◌==◌, List, [], ◌∷◌, ◌++◌, nat_eq, Option, Some, None, is_some, Result, Ok, Err, IsOk, IfOk, option_map, refl, sym, ap, ◌∙◌, arith}
use Rattle.std.proofs.lemmas.Bool.{cases_eq}
use Rattle.std.proofs.lemmas.Bool.Decides.{nat_tests}
use Rattle.std.specs.Option.{option_flatten, option_map_or}
use Rattle.std.specs.Map.{keys_of, lookup}
use Rattle.im_page_pool.specs.Places.{times, taken_in, Finds}
use Rattle.im_page_pool.proofs.EntryLemmas.{differ}
use Rattle.im_page_pool.proofs.UseLemmas.{Uses, taken_push}

-- what is found there, and else here
abbrev pub or_else : {X : Type 0} → Option X → Option X → Option X
or_else o p = option_map_or (λ f. Some f) o p

-- the frame of a page among these, as the map has it
abbrev pub entry_of : ℕ → List (ℕ × ℕ) → Option (Option ℕ)
entry_of p es = option_map (λ f. Some f) (lookup (nat_eq p) es)

turned : (p q : ℕ) → nat_eq p q ≡ nat_eq q p
turned p q = ⊎_elim (λ (e : p ≡ q). let t : nat_eq p q ≡ true = grind (arith, nat_tests) in let u : nat_eq q p ≡ true = grind (arith, nat_tests) in t ∙ sym u)
    (λ (ne : p ≢ q). differ p q ne ∙ sym (differ q p (λ (b : q ≡ p). ne (sym b)))) (cases_eq p q)

flat_cond : (y : Bool) (f : ℕ) (o : Option (Option ℕ)) → option_flatten (cond y (Some (Some f)) o) ≡ cond y (Some f) (option_flatten o)
flat_cond true f o = refl
flat_cond false f o = refl

flat_back : (o : Option ℕ) → option_flatten (option_map (λ f. Some f) o) ≡ o
flat_back None = refl
flat_back (Some f) = refl

-- a page that was not held is noted
pub entered : (at now : ℕ → Option (Option ℕ)) (p f : ℕ) (es : List (ℕ × ℕ)) → Finds at es → ((q : ℕ) → now q ≡ cond (nat_eq p q) (Some (Some f)) (at q)) → Finds now ((p, f) ∷ es)
entered at now p f es finds is q = ap option_flatten (is q) ∙ flat_cond (nat_eq p q) f (at q) ∙ ap (λ (y : Bool). cond y (Some f) (option_flatten (at q))) (turned p q) ∙ ap (λ (o : Option ℕ). cond (nat_eq q p) (Some f) o) (finds q)

-- ---- put in again
none_first : {X : Type 0} (o : Option X) → or_else o None ≡ o
none_first None = refl
none_first (Some x) = refl

pub again_first : (at : ℕ → Option (Option ℕ)) (p : ℕ) (all rest : Uses) → at p ≡ None → rest ≡ all → entry_of p (taken_in all) ≡ or_else (entry_of p (taken_in rest)) (at p)
again_first at p all rest none is = sym (ap (λ (o : Option (Option ℕ)). or_else (entry_of p (taken_in rest)) o) none ∙ none_first (entry_of p (taken_in rest)) ∙ ap (λ (l : Uses). entry_of p (taken_in l)) is)

entry_push : (p q f : ℕ) (es : List (ℕ × ℕ)) → entry_of p (es ++ (q, f) ∷ []) ≡ or_else (entry_of p es) (cond (nat_eq p q) (Some (Some f)) None)
entry_push p q f [] = (elim (nat_eq p q) as (λ y. option_map (λ (g : ℕ). Some g) (cond y (Some f) None) ≡ cond y (Some (Some f)) None) [
  | true ↦ refl
  | false ↦ refl
])
entry_push p q f (e ∷ es) = (elim (nat_eq p e.0) as (λ y. option_map (λ (g : ℕ). Some g) (cond y (Some e.1) (lookup (nat_eq p) (es ++ (q, f) ∷ []))) ≡ or_else (option_map (λ (g : ℕ). Some g) (cond y (Some e.1) (lookup (nat_eq p) es))) (cond (nat_eq p q) (Some (Some f)) None)) [
  | true ↦ refl
  | false ↦ entry_push p q f es
])

joined : (a : Option (Option ℕ)) (y : Bool) (f : ℕ) (t : Option (Option ℕ)) → or_else (or_else a (cond y (Some (Some f)) None)) t ≡ or_else a (cond y (Some (Some f)) t)
joined None true f t = refl
joined None false f t = refl
joined (Some x) y f t = refl

-- one more
pub again_more : (at now : ℕ → Option (Option ℕ)) (p q f : ℕ) (all rest was : Uses) → was ≡ rest ++ (f, Some q) ∷ [] → now p ≡ cond (nat_eq q p) (Some (Some f)) (at p)
    → entry_of p (taken_in all) ≡ or_else (entry_of p (taken_in was)) (at p) → entry_of p (taken_in all) ≡ or_else (entry_of p (taken_in rest)) (now p)
again_more at now p q f all rest was is set so =
    so
    ∙ ap (λ (l : List (ℕ × ℕ)). or_else (entry_of p l) (at p)) (ap taken_in is ∙ taken_push rest f (Some q))
    ∙ ap (λ (o : Option (Option ℕ)). or_else o (at p)) (entry_push p q f (taken_in rest))
    ∙ joined (entry_of p (taken_in rest)) (nat_eq p q) f (at p)
    ∙ ap (λ (y : Bool). or_else (entry_of p (taken_in rest)) (cond y (Some (Some f)) (at p))) (turned p q)
    ∙ ap (λ (o : Option (Option ℕ)). or_else (entry_of p (taken_in rest)) o) (sym set)

append_none : (es : List (ℕ × ℕ)) → es ++ [] ≡ es
append_none [] = refl
append_none (e ∷ es) = ap (λ (l : List (ℕ × ℕ)). e ∷ l) (append_none es)

-- a free frame passed
pub again_passed : (at : ℕ → Option (Option ℕ)) (p f : ℕ) (all rest was : Uses) → was ≡ rest ++ (f, None) ∷ []
    → entry_of p (taken_in all) ≡ or_else (entry_of p (taken_in was)) (at p) → entry_of p (taken_in all) ≡ or_else (entry_of p (taken_in rest)) (at p)
again_passed at p f all rest was is so = so ∙ ap (λ (l : List (ℕ × ℕ)). or_else (entry_of p l) (at p)) (ap taken_in is ∙ taken_push rest f None ∙ append_none (taken_in rest))

-- and all
pub again_all : (at : ℕ → Option (Option ℕ)) (p : ℕ) (all rest : Uses) → rest ≡ [] → entry_of p (taken_in all) ≡ or_else (entry_of p (taken_in rest)) (at p) → at p ≡ entry_of p (taken_in all)
again_all at p all rest is so = sym (so ∙ ap (λ (l : Uses). or_else (entry_of p (taken_in l)) (at p)) is)

pub finds_again : (at : ℕ → Option (Option ℕ)) (es : List (ℕ × ℕ)) → ((p : ℕ) → at p ≡ entry_of p es) → Finds at es
finds_again at es is p = ap option_flatten (is p) ∙ flat_back (lookup (nat_eq p) es)

none_held : (o : Option (Option ℕ)) (h : Option ℕ) → option_flatten o ≡ h → o ≡ None → option_map (λ (f : ℕ). Some f) h ≡ None
none_held o h flat is = ap (option_map (λ (f : ℕ). Some f)) (sym flat ∙ ap option_flatten is)

-- a number that the map lacked has no page, and it lacks it
pub fewer_again : (old now : ℕ → Option (Option ℕ)) (es : List (ℕ × ℕ)) (q : ℕ) → Finds old es → now q ≡ entry_of q es → old q ≡ None → now q ≡ None
fewer_again old now es q finds is none = is ∙ none_held (old q) (lookup (nat_eq q) es) (finds q) none

-- ---- the numbers still to come: each once, and none in the map
keys_push : (q p f : ℕ) (es : List (ℕ × ℕ)) → times q (keys_of (es ++ (p, f) ∷ [])) ≡ times q (keys_of es) + cond (q == p) 1 0
keys_push q p f [] = omega arith
keys_push q p f (e ∷ es) = omega (arith, keys_push q p f es)

module _ (rest was : Uses) (p f : ℕ) (is : was ≡ rest ++ (f, Some p) ∷ []) where
  stood : (q : ℕ) → times q (keys_of (taken_in was)) ≡ times q (keys_of (taken_in rest)) + cond (q == p) 1 0
  stood q = ap (λ (l : Uses). times q (keys_of (taken_in l))) is ∙ ap (λ (l : List (ℕ × ℕ)). times q (keys_of l)) (taken_push rest f (Some p)) ∙ keys_push q p f (taken_in rest)

  pub once_more : ((q : ℕ) → times q (keys_of (taken_in was)) ≤ 1) → (q : ℕ) → times q (keys_of (taken_in rest)) ≤ 1
  once_more once q = let s = stood q in let o = once q in omega arith

  module _ (at : ℕ → Option (Option ℕ)) (fresh : (q : ℕ) → 1 ≤ times q (keys_of (taken_in was)) → at q ≡ None) where
    pub fresh_here : at p ≡ None
    fresh_here = fresh p (let s = stood p in let t : (p == p) ≡ true = grind (arith, nat_tests) in let s' = rw t at s in omega arith)

    pub fresh_more : (now : ℕ → Option (Option ℕ)) → ((q : ℕ) → times q (keys_of (taken_in was)) ≤ 1) → ((q : ℕ) → now q ≡ cond (nat_eq p q) (Some (Some f)) (at q)) → (q : ℕ) → 1 ≤ times q (keys_of (taken_in rest)) → now q ≡ None
    fresh_more now once set q le = ⊎_elim
        (λ (e : q ≡ p). absurd (let s = stood q in let t : (q == p) ≡ true = grind (arith, nat_tests) in let s' = rw t at s in let o = once q in omega arith))
        (λ (ne : q ≢ p). set q ∙ (let t = differ p q (λ (b : p ≡ q). ne (sym b)) in rw t (fresh q (let s = stood q in omega arith))))
        (cases_eq q p)

-- a free frame passed
pub taken_passed : (rest was : Uses) (f : ℕ) → was ≡ rest ++ (f, None) ∷ [] → taken_in was ≡ taken_in rest
taken_passed rest was f is = ap taken_in is ∙ taken_push rest f None ∙ append_none (taken_in rest)

-- a number more in the map
pub grown : {E : Type 0} (r : Result (Option (Option ℕ)) E) (n m : ℕ) (o : Option (Option ℕ)) → IsOk r → o ≡ None → IfOk r (λ old. old ≡ o) → IfOk r (λ old. m ≡ n + cond (is_some old) 0 1) → m ≡ n + 1
grown (Ok x) n m o is none e l = l ∙ ap (λ (x : Option (Option ℕ)). n + cond (is_some x) 0 1) (e ∙ none)
grown (Err x) n m o is none e l = absurd cc
