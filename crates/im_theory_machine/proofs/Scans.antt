-- A scan, step by step: the next entry, as long as it is not above hi.
use Rattle.std.proofs.Common.{◌≡◌, ℕ, zero, suc, Bool, true, false, not, ◌&&◌, T, cond, nat_lt, List, [], ◌∷◌, ◌++◌, map, take, length, Option, Some, None, refl, ap, sym, subst, ◌∙◌, arith, lt-ltb}
use Rattle.std.proofs.lemmas.Bool.Decides.{nat_tests}
use Rattle.std.specs.List.{filter}
use Rattle.std.specs.FinMap.{entries, entries_sorted, get, is_sorted}
use Rattle.std.specs.FinMap.Entries.{below_all}
use Rattle.im_base_types.specs.Keys.{Key, key_order}
use Rattle.im_base_types.specs.Maps.{IndexMap, is_below, Start, From, Above, is_past, first_in, first}
use Rattle.im_base_types.specs.Answers.{scan}
use Rattle.im_theory_machine.specs.Rows.{scan_row, shared, name_of, next_name}
use Rattle.im_theory_machine.specs.Locks.{Request, At}
use Rattle.im_theory_machine.proofs.Order.{below-itself, below-trans, not_below_of, below_before, below_after}
use Rattle.im_theory_machine.proofs.Guards.{not_true, from_false}
use Rattle.im_theory_machine.proofs.Search.{IsFirst, first-is, first-by, head_below, rest_sorted, head_least}

-- go on where an entry was found that is not above hi
abbrev pub within : {A : Type 0} → Key → Option (Key × ℕ) → (Key × ℕ → List A) → List A
within hi None f = []
within hi (Some e) f = cond (is_below hi e.0) [] (f e)

unfoldable pub scan_by : ℕ → Start → Key → IndexMap → List (Key × ℕ)
scan_by zero s hi m = []
scan_by (suc n) s hi m = within hi (first s m) (λ e. e ∷ scan_by n (Above e.0) hi m)

unfoldable pub row_by : ℕ → Start → Key → IndexMap → List Request
row_by zero s hi m = []
row_by (suc n) s hi m = shared (name_of (first s m)) ∷ within hi (first s m) (λ e. row_by n (Above e.0) hi m)

-- the entries past s up to hi
abbrev reach : Start → Key → List (Key × ℕ) → List (Key × ℕ)
reach s hi es = filter (λ e. is_past s e.0 && not (is_below hi e.0)) es

skip_past : (s : Start) (hi : Key) (e : Key × ℕ) (es : List (Key × ℕ)) → is_past s e.0 ≡ false → reach s hi (e ∷ es) ≡ reach s hi es
skip_past s hi e es p = rw p

skip_above : (s : Start) (hi : Key) (e : Key × ℕ) (es : List (Key × ℕ)) → is_below hi e.0 ≡ true → reach s hi (e ∷ es) ≡ reach s hi es
skip_above s hi e es b = rw b (go (is_past s e.0))
  where
    go : (t : Bool) → cond (t && false) (e ∷ reach s hi es) (reach s hi es) ≡ reach s hi es
    go true = refl
    go false = refl

take_in : (s : Start) (hi : Key) (e : Key × ℕ) (es : List (Key × ℕ)) → is_past s e.0 ≡ true → is_below hi e.0 ≡ false → reach s hi (e ∷ es) ≡ e ∷ reach s hi es
take_in s hi e es p b = rw (p, b)

-- nothing is up to hi above a key that is above hi
beyond : (s : Start) (hi k : Key) (es : List (Key × ℕ)) → T (below_all key_order k es) → is_below hi k ≡ true → reach s hi es ≡ []
beyond s hi k [] h b = refl
beyond s hi k (e ∷ es) h b =
    let p = head_below k e es h in
    skip_above s hi e es (below-trans hi k e.0 b p.0) ∙ beyond s hi k es p.1 b

past_above : (s : Start) (k x : Key) → is_past s k ≡ true → is_below k x ≡ true → is_past s x ≡ true
past_above (From a) k x p b = from_false _ (not_below_of a x (below_after a k x (not_true _ p) b))
past_above (Above a) k x p b = below-trans a k x p b

-- above a key that is past s, past s and above the key are one
same_reach : (s : Start) (hi k : Key) (es : List (Key × ℕ)) → T (below_all key_order k es) → is_past s k ≡ true → reach s hi es ≡ reach (Above k) hi es
same_reach s hi k [] h p = refl
same_reach s hi k (e ∷ es) h p =
    let q = head_below k e es h in
    let a : is_past s e.0 ≡ true = past_above s k e.0 p q.0 in
    let b : is_past (Above k) e.0 ≡ true = q.0 in
    rw (a, b) (ap (λ rest. cond (true && not (is_below hi e.0)) (e ∷ rest) rest) (same_reach s hi k es q.1 p))

found_above : (s : Start) (k : Key) (es : List (Key × ℕ)) (d : Key × ℕ) → T (below_all key_order k es) → first_in s es ≡ Some d → is_below k d.0 ≡ true
found_above s k [] d h f = absurd cc
found_above s k (e ∷ es) d h f =
    let p = head_below k e es h in go (is_past s e.0) f p.0 (found_above s k es d p.1)
  where
    go : (b : Bool) → cond b (Some e) (first_in s es) ≡ Some d → is_below k e.0 ≡ true → (first_in s es ≡ Some d → is_below k d.0 ≡ true) → is_below k d.0 ≡ true
    go true g l ih = let q : e ≡ d = cc in rw (← q) l
    go false g l ih = ih g

reach_none : (s : Start) (hi : Key) (es : List (Key × ℕ)) → first_in s es ≡ None → reach s hi es ≡ []
reach_none s hi [] f = refl
reach_none s hi (e ∷ es) f = go (is_past s e.0) refl f (reach_none s hi es)
  where
    go : (b : Bool) → is_past s e.0 ≡ b → cond b (Some e) (first_in s es) ≡ None → (first_in s es ≡ None → reach s hi es ≡ []) → reach s hi (e ∷ es) ≡ []
    go true p g ih = absurd cc
    go false p g ih = skip_past s hi e es p ∙ ih g

reach_above : (s : Start) (hi : Key) (es : List (Key × ℕ)) (d : Key × ℕ) → T (is_sorted key_order es) → first_in s es ≡ Some d → is_below hi d.0 ≡ true → reach s hi es ≡ []
reach_above s hi [] d h f b = refl
reach_above s hi (e ∷ es) d h f b = go (is_past s e.0) refl f (λ g. reach_above s hi es d (rest_sorted e es h) g b)
  where
    go : (t : Bool) → is_past s e.0 ≡ t → cond t (Some e) (first_in s es) ≡ Some d → (first_in s es ≡ Some d → reach s hi es ≡ []) → reach s hi (e ∷ es) ≡ []
    go true p g ih = let q : e ≡ d = cc in let b' : is_below hi e.0 ≡ true = rw q b in skip_above s hi e es b' ∙ beyond s hi e.0 es (head_least e es h) b'
    go false p g ih = skip_past s hi e es p ∙ ih g

reach_found : (s : Start) (hi : Key) (es : List (Key × ℕ)) (d : Key × ℕ) → T (is_sorted key_order es) → first_in s es ≡ Some d → is_below hi d.0 ≡ false → reach s hi es ≡ d ∷ reach (Above d.0) hi es
reach_found s hi [] d h f b = absurd cc
reach_found s hi (e ∷ es) d h f b = go (is_past s e.0) refl f (λ g. reach_found s hi es d (rest_sorted e es h) g b)
  where
    go : (t : Bool) → is_past s e.0 ≡ t → cond t (Some e) (first_in s es) ≡ Some d → (first_in s es ≡ Some d → reach s hi es ≡ d ∷ reach (Above d.0) hi es) → reach s hi (e ∷ es) ≡ d ∷ reach (Above d.0) hi (e ∷ es)
    go true p g ih =
        let q : e ≡ d = cc in
        let b' : is_below hi e.0 ≡ false = rw q b in
        take_in s hi e es p b' ∙ (ap (λ rest. e ∷ rest) (same_reach s hi e.0 es (head_least e es h) p ∙ sym (skip_past (Above e.0) hi e es (below-itself e.0)))
        ∙ ap (λ (x : Key × ℕ). x ∷ reach (Above x.0) hi (e ∷ es)) q)
    go false p g ih =
        skip_past s hi e es p ∙ (ih g ∙ ap (λ rest. d ∷ rest) (sym (skip_past (Above d.0) hi e es (not_below_of e.0 d.0 (found_above s e.0 es d (head_least e es h) g)))))

-- step by step it is the filter
pub scan_by-is : (n : ℕ) (s : Start) (hi : Key) (m : IndexMap) → scan_by n s hi m ≡ take n (reach s hi (entries m))
unfolding scan_by first
scan_by-is zero s hi m = refl
scan_by-is (suc n) s hi m = go (first_in s (entries m)) refl (λ e. scan_by-is n (Above e.0) hi m)
  where
    at : (e : Key × ℕ) → first_in s (entries m) ≡ Some e → (b : Bool) → is_below hi e.0 ≡ b → scan_by n (Above e.0) hi m ≡ take n (reach (Above e.0) hi (entries m)) → cond b [] (e ∷ scan_by n (Above e.0) hi m) ≡ take (suc n) (reach s hi (entries m))
    at e f true b ih = sym (ap (take (suc n)) (reach_above s hi (entries m) e (entries_sorted m) f b))
    at e f false b ih = ap (λ rest. e ∷ rest) ih ∙ sym (ap (take (suc n)) (reach_found s hi (entries m) e (entries_sorted m) f b))

    go : (o : Option (Key × ℕ)) → first_in s (entries m) ≡ o → ((e : Key × ℕ) → scan_by n (Above e.0) hi m ≡ take n (reach (Above e.0) hi (entries m))) → within hi o (λ e. e ∷ scan_by n (Above e.0) hi m) ≡ take (suc n) (reach s hi (entries m))
    go None f ih = sym (ap (take (suc n)) (reach_none s hi (entries m) f))
    go (Some e) f ih = at e f (is_below hi e.0) refl (ih e)

pub scan-steps : (lo hi : Key) (n : ℕ) (m : IndexMap) → scan lo hi n m ≡ scan_by n (From lo) hi m
scan-steps lo hi n m = sym (scan_by-is n (From lo) hi m)

-- all above hi are past s
abbrev pub BeginsBy : Start → Key → Type 0
BeginsBy s hi = (x : Key) → is_below hi x ≡ true → is_past s x ≡ true

next_if_none : (s : Start) (hi : Key) (m : IndexMap) → BeginsBy s hi → first s m ≡ None → first (Above hi) m ≡ None
next_if_none s hi m by f =
    let is : IsFirst (get m) s None = subst (IsFirst (get m) s) f (first-is s m) in
    first-by (Above hi) m None (λ x p. is x (by x p))

next_if_above : (s : Start) (hi : Key) (m : IndexMap) (e : Key × ℕ) → BeginsBy s hi → first s m ≡ Some e → is_below hi e.0 ≡ true → first (Above hi) m ≡ Some e
next_if_above s hi m e by f b =
    let is : IsFirst (get m) s (Some e) = subst (IsFirst (get m) s) f (first-is s m) in
    first-by (Above hi) m (Some e) (record { there = is.there; past_it = b; least = λ x p l. is.least x (by x p) l })

abbrev row_with : IndexMap → Key → List (Key × ℕ) → ℕ → List Request
row_with m hi es n = map (λ e. shared (At e.0)) es ++ cond (nat_lt (length es) n) (shared (next_name m hi) ∷ []) []

less_suc : (a b : ℕ) → nat_lt (suc a) (suc b) ≡ nat_lt a b
less_suc a b = grind (arith, nat_tests)

zero_less : (n : ℕ) → nat_lt 0 (suc n) ≡ true
zero_less n = lt-ltb 0 (suc n) (omega arith)

pub row_by-is : (n : ℕ) (s : Start) (hi : Key) (m : IndexMap) → BeginsBy s hi → row_by n s hi m ≡ row_with m hi (scan_by n s hi m) n
unfolding scan_by row_by
row_by-is zero s hi m by = refl
row_by-is (suc n) s hi m by = go (first s m) refl (λ e. row_by-is n (Above e.0) hi m)
  where
    at : (e : Key × ℕ) → first s m ≡ Some e → (b : Bool) → is_below hi e.0 ≡ b → (BeginsBy (Above e.0) hi → row_by n (Above e.0) hi m ≡ row_with m hi (scan_by n (Above e.0) hi m) n) → shared (At e.0) ∷ cond b [] (row_by n (Above e.0) hi m) ≡ row_with m hi (cond b [] (e ∷ scan_by n (Above e.0) hi m)) (suc n)
    at e f true b ih =
        ap (λ o. shared (name_of o) ∷ []) (sym (next_if_above s hi m e by f b))
        ∙ ap (λ t. cond t (shared (next_name m hi) ∷ []) []) (sym (zero_less n))
    at e f false b ih =
        let es = scan_by n (Above e.0) hi m in
        ap (λ rest. shared (At e.0) ∷ rest) (ih (λ x p. below_after e.0 hi x b p))
        ∙ ap (λ t. shared (At e.0) ∷ (map (λ (d : Key × ℕ). shared (At d.0)) es ++ cond t (shared (next_name m hi) ∷ []) [])) (sym (less_suc (length es) n))

    go : (o : Option (Key × ℕ)) → first s m ≡ o → ((e : Key × ℕ) → BeginsBy (Above e.0) hi → row_by n (Above e.0) hi m ≡ row_with m hi (scan_by n (Above e.0) hi m) n) → shared (name_of o) ∷ within hi o (λ e. row_by n (Above e.0) hi m) ≡ row_with m hi (within hi o (λ e. e ∷ scan_by n (Above e.0) hi m)) (suc n)
    go None f ih =
        ap (λ o. shared (name_of o) ∷ []) (sym (next_if_none s hi m by f))
        ∙ ap (λ t. cond t (shared (next_name m hi) ∷ []) []) (sym (zero_less n))
    go (Some e) f ih = at e f (is_below hi e.0) refl (ih e)

pub row-steps : (lo hi : Key) (n : ℕ) (m : IndexMap) → is_below hi lo ≡ false → scan_row lo hi n m ≡ row_by n (From lo) hi m
row-steps lo hi n m up =
    ap (λ es. row_with m hi es n) (scan-steps lo hi n m) ∙ sym (row_by-is n (From lo) hi m (λ x p. from_false _ (not_below_of lo x (below_after lo hi x up p))))

-- a scan whose lo is above hi finds nothing
pub scan-none : (lo hi : Key) (n : ℕ) (m : IndexMap) → is_below hi lo ≡ true → scan_by n (From lo) hi m ≡ []
unfolding scan_by
scan-none lo hi zero m b = refl
scan-none lo hi (suc n) m b = go (first (From lo) m) (first-is (From lo) m)
  where
    go : (o : Option (Key × ℕ)) → IsFirst (get m) (From lo) o → within hi o (λ e. e ∷ scan_by n (Above e.0) hi m) ≡ []
    go None f = refl
    go (Some e) f = let a : is_below e.0 lo ≡ false = not_true _ f.past_it in let c : is_below hi e.0 ≡ true = below_before hi lo e.0 b a in rw c
