-- Lists of held pages: how long they are, and which frames they have.
use Rattle.std.proofs.Common.{◌≡◌, ⊎_elim, ℕ, suc, ◌+◌, ◌-◌, ◌<◌, ◌≤◌, Bool, true, false, cond, ◌==◌, List, [], ◌∷◌, ◌++◌, length, nat_eq, Option, Some, None, refl, ap, ◌∙◌, arith}
use Rattle.std.proofs.lemmas.Bool.{cases_lt}
use Rattle.std.proofs.lemmas.Bool.Decides.{nat_tests}
use Rattle.std.proofs.lemmas.List.{take_all, length_push}
use Rattle.std.specs.Option.{option_map_or}
use Rattle.std.specs.Map.{values_of, lookup, lookup_entry, remove_entry}
use Rattle.lru.specs.LruCache.{LruCache, promoted, put_entries}
use Rattle.im_page_pool.specs.Places.{PlacesView, times, IsAll, AreApart}

module _ {X : Type 0} (test : ℕ → Bool) where
  pub length_remove_entry : (es : List (ℕ × X)) (x : X) → lookup test es ≡ Some x → length (remove_entry test es) + 1 ≡ length es
  length_remove_entry [] x s = cc
  length_remove_entry (e ∷ es) x s = (elim (test e.0) as (λ y. test e.0 ≡ y → length (cond y es (e ∷ remove_entry test es)) + 1 ≡ suc (length es)) [
    | true ↦ λ t. omega arith
    | false ↦ λ t. let s' = rw t at s in omega (arith, length_remove_entry es x s')
  ]) refl

  -- the entry that a look-up of entries finds, by the value that a look-up finds
  pub lookup_entry_none : (es : List (ℕ × X)) → lookup test es ≡ None → lookup_entry test es ≡ None
  lookup_entry_none [] s = refl
  lookup_entry_none (e ∷ es) s = (elim (test e.0) as (λ y. test e.0 ≡ y → cond y (Some e) (lookup_entry test es) ≡ None) [
    | true ↦ λ t. let s' = rw t at s in absurd cc
    | false ↦ λ t. let s' = rw t at s in lookup_entry_none es s'
  ]) refl

  entry_long : (es : List (ℕ × X)) (e : ℕ × X) → lookup_entry test es ≡ Some e → suc (length (remove_entry test es)) ≡ length es
  entry_long [] e s = cc
  entry_long (f ∷ es) e s = (elim (test f.0) as (λ y. test f.0 ≡ y → suc (length (cond y es (f ∷ remove_entry test es))) ≡ suc (length es)) [
    | true ↦ λ t. refl
    | false ↦ λ t. let s' = rw t at s in ap (λ n. suc n) (entry_long es e s')
  ]) refl

  front_long : (es : List (ℕ × X)) (o : Option (ℕ × X)) → lookup_entry test es ≡ o → length (option_map_or (λ e. e ∷ remove_entry test es) o es) ≡ length es
  front_long es None s = refl
  front_long es (Some e) s = entry_long es e s

  pub length_promoted : (es : List (ℕ × X)) → length (promoted test es) ≡ length es
  length_promoted es = front_long es (lookup_entry test es) refl

-- a pair that comes new into a cache that is not full
pub put_new : {X : Type 0} (c : LruCache ℕ X) (k : ℕ) (v : X) → lookup (nat_eq k) c.entries ≡ None → length c.entries < c.cap → put_entries nat_eq c k v ≡ (k, v) ∷ c.entries
put_new c k v absent room = rw (lookup_entry_none (nat_eq k) c.entries absent) (ap (λ l. (k, v) ∷ l) (take_all (c.cap - 1) c.entries (omega arith)))

-- ---- how often a number stands in a list
pub times_push : (f g : ℕ) (gs : List ℕ) → times f (gs ++ g ∷ []) ≡ times f gs + cond (f == g) 1 0
times_push f g [] = omega arith
times_push f g (h ∷ gs) = omega (arith, times_push f g gs)

-- the last i of n numbers, the greatest first
pub record AreLast (n i : ℕ) (gs : List ℕ) : Type 0 where
  pub len : length gs ≡ i
  pub once : (f : ℕ) → n ≤ f + i → f < n → times f gs ≡ 1
  pub below : (f : ℕ) → f + i < n → times f gs ≡ 0
  pub above : (f : ℕ) → n ≤ f → times f gs ≡ 0

pub none_of_last : (n : ℕ) → AreLast n 0 []
none_of_last n = record { len = refl; once = λ f le lt. absurd (omega (arith, le, lt)); below = λ f lt. refl; above = λ f le. refl }

-- one number more
pub last_push : (n i : ℕ) (old new : List ℕ) → AreLast n i old → i < n → new ≡ old ++ (n - 1 - i) ∷ [] → AreLast n (i + 1) new
last_push n i old new all room is = record {
  len = ap length is ∙ length_push old (n - 1 - i) ∙ ap (λ k. k + 1) all.len;
  once = λ f le lt. ap (times f) is ∙ times_push f (n - 1 - i) old ∙ ⊎_elim
      (λ (low : f + i < n). let t : (f == (n - 1 - i)) ≡ true = grind (arith, nat_tests) in let o = all.below f low in rw t (omega arith))
      (λ (high : n ≤ f + i). let t : (f == (n - 1 - i)) ≡ false = grind (arith, nat_tests) in let o = all.once f high lt in rw t (omega arith))
      (cases_lt (f + i) n);
  below = λ f lt. ap (times f) is ∙ times_push f (n - 1 - i) old ∙ (let t : (f == (n - 1 - i)) ≡ false = grind (arith, nat_tests) in let o = all.below f (omega arith) in rw t (omega arith));
  above = λ f le. ap (times f) is ∙ times_push f (n - 1 - i) old ∙ (let t : (f == (n - 1 - i)) ≡ false = grind (arith, nat_tests) in let o = all.above f le in rw t (omega arith));
}

pub all_of_last : (n : ℕ) (gs : List ℕ) → AreLast n n gs → IsAll n gs
all_of_last n gs all = record { len = all.len; once = λ f lt. all.once f (omega arith) lt; never = λ f le. all.above f le }

-- all free, and none held
pub apart_at_first : (n : ℕ) (v : PlacesView) → v.taken ≡ [] → IsAll n v.free → AreApart v
apart_at_first n v none all = record {
  numbers = λ p. rw none (omega arith);
  once = λ f lt. let o = all.once f (let l = all.len in let t = ap length none in omega arith) in let t = ap (λ l. times f (values_of l)) none in omega arith;
  never = λ f le. let o = all.never f (let l = all.len in let t = ap length none in omega arith) in let t = ap (λ l. times f (values_of l)) none in omega arith;
}

pub promoted_none : (p : ℕ) (es : List (ℕ × ℕ)) → lookup (nat_eq p) es ≡ None → promoted (nat_eq p) es ≡ es
promoted_none p es s = ap (λ (o : Option (ℕ × ℕ)). option_map_or (λ e. e ∷ remove_entry (nat_eq p) es) o es) (lookup_entry_none (nat_eq p) es s)
