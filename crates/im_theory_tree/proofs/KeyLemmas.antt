-- One key put or taken out in a part of a list of entries.
use Rattle.std.proofs.Common.{◌≡◌, ℕ, Bool, true, false, cond, not, List, [], ◌∷◌, ◌++◌, refl, ap, ◌∙◌}
use Rattle.std.specs.Ordering.{eq_by_cmp, ordering_reverse}
use Rattle.std.specs.declared.cmp.Ordering.{Ordering}
use Rattle.std.specs.declared.cmp.Ordering.TheVariants.{Less, Equal, Greater}
use Rattle.std.specs.FinMap.Entries.{find}
use Rattle.std.proofs.lemmas.Cmp.{nat_list_cmp_total}
use Rattle.im_base_types.specs.Keys.{Key, key_order, IsBelow}
use Rattle.im_base_types.specs.Pages.{Entry}
use Rattle.im_base_types.specs.Maps.{with_key, without_key}
use Rattle.im_theory_tree.specs.Good.{AllOf}

pub turned : (a b : Key) → IsBelow a b → key_order b a ≡ Greater
turned a b h = nat_list_cmp_total.antisymm b a ∙ ap ordering_reverse h.less

pub differs_above : (k x : Key) → IsBelow k x → eq_by_cmp key_order k x ≡ false
differs_above k x h = rw h.less refl

pub differs_below : (k x : Key) → IsBelow x k → eq_by_cmp key_order k x ≡ false
differs_below k x h = rw (turned x k h) refl

-- ---- a key put

pub put_behind : (k : Key) (i : ℕ) (low es : List Entry) → AllOf (λ (e : Entry). IsBelow e.0 k) low → with_key k i (low ++ es) ≡ low ++ with_key k i es
put_behind k i [] es h = refl
put_behind k i (e ∷ low) es h = rw (turned e.0 k h.0) (ap (λ (l : List Entry). e ∷ l) (put_behind k i low es h.1))

-- by how the key stands to the first entry
put_first : (k : Key) (i : ℕ) (e : Entry) (es high : List Entry) (o : Ordering) → key_order k e.0 ≡ o
    → with_key k i (es ++ high) ≡ with_key k i es ++ high → with_key k i (e ∷ es ++ high) ≡ with_key k i (e ∷ es) ++ high
put_first k i e es high Less is rest = rw is refl
put_first k i e es high Equal is rest = rw is refl
put_first k i e es high Greater is rest = rw is (ap (λ (l : List Entry). e ∷ l) rest)

pub put_before : (k : Key) (i : ℕ) (high : List Entry) → AllOf (λ (e : Entry). IsBelow k e.0) high → with_key k i high ≡ (k, i) ∷ high
put_before k i [] h = refl
put_before k i (e ∷ high) h = rw h.0.less refl

pub put_within : (k : Key) (i : ℕ) (es high : List Entry) → AllOf (λ (e : Entry). IsBelow k e.0) high → with_key k i (es ++ high) ≡ with_key k i es ++ high
put_within k i [] high h = put_before k i high h
put_within k i (e ∷ es) high h = put_first k i e es high (key_order k e.0) refl (put_within k i es high h)

-- what holds of the key and of all keys holds of all with the key
all_first : (Q : Key → Type 0) (k : Key) (i : ℕ) (e : Entry) (es : List Entry) (o : Ordering) → key_order k e.0 ≡ o → Q k → Q e.0 → AllOf (λ (x : Entry). Q x.0) es
    → AllOf (λ (x : Entry). Q x.0) (with_key k i es) → AllOf (λ (x : Entry). Q x.0) (with_key k i (e ∷ es))
all_first Q k i e es Less is q here h rest = rw is (q, (here, h))
all_first Q k i e es Equal is q here h rest = rw is (here, h)
all_first Q k i e es Greater is q here h rest = rw is (here, rest)

pub all_with : (Q : Key → Type 0) (k : Key) (i : ℕ) (es : List Entry) → Q k → AllOf (λ (x : Entry). Q x.0) es → AllOf (λ (x : Entry). Q x.0) (with_key k i es)
all_with Q k i [] q h = (q, tt)
all_with Q k i (e ∷ es) q h = all_first Q k i e es (key_order k e.0) refl q h.0 h.1 (all_with Q k i es q h.1)

-- ---- a key taken out

drop_first : (t : Bool) (e : Entry) (xs ys zs : List Entry) → xs ≡ ys ++ zs → cond t (e ∷ xs) xs ≡ cond t (e ∷ ys) ys ++ zs
drop_first true e xs ys zs h = ap (λ (l : List Entry). e ∷ l) h
drop_first false e xs ys zs h = h

pub without-append : (k : Key) (xs ys : List Entry) → without_key k (xs ++ ys) ≡ without_key k xs ++ without_key k ys
without-append k [] ys = refl
without-append k (e ∷ xs) ys = drop_first (not (eq_by_cmp key_order k e.0)) e (without_key k (xs ++ ys)) (without_key k xs) (without_key k ys) (without-append k xs ys)

pub without_below : (k : Key) (es : List Entry) → AllOf (λ (e : Entry). IsBelow e.0 k) es → without_key k es ≡ es
without_below k [] h = refl
without_below k (e ∷ es) h = rw (differs_below k e.0 h.0) (ap (λ (l : List Entry). e ∷ l) (without_below k es h.1))

pub without_above : (k : Key) (es : List Entry) → AllOf (λ (e : Entry). IsBelow k e.0) es → without_key k es ≡ es
without_above k [] h = refl
without_above k (e ∷ es) h = rw (differs_above k e.0 h.0) (ap (λ (l : List Entry). e ∷ l) (without_above k es h.1))

all_kept : (P : Entry → Type 0) (t : Bool) (e : Entry) (xs : List Entry) → P e → AllOf P xs → AllOf P (cond t (e ∷ xs) xs)
all_kept P true e xs p h = (p, h)
all_kept P false e xs p h = h

pub all_without : (P : Entry → Type 0) (k : Key) (es : List Entry) → AllOf P es → AllOf P (without_key k es)
all_without P k [] h = tt
all_without P k (e ∷ es) h = all_kept P (not (eq_by_cmp key_order k e.0)) e (without_key k es) h.0 (all_without P k es h.1)

-- ---- the value of a key

pub find_behind : (k : Key) (low es : List Entry) → AllOf (λ (e : Entry). IsBelow e.0 k) low → find key_order k (low ++ es) ≡ find key_order k es
find_behind k [] es h = refl
find_behind k (e ∷ low) es h = rw (differs_below k e.0 h.0) (find_behind k low es h.1)
