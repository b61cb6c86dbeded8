-- Maps key by key, and their entries without a key.
use Rattle.std.proofs.Common.{◌≡◌, ◌⊎◌, inl, inr, ⊎_elim, ℕ, Bool, true, false, cond, refl, sym, ◌∙◌, ap, subst, Option, None, Some}
use Rattle.std.specs.Ordering.{eq_by_cmp}
use Rattle.std.specs.Cmp.Lexicographic.{nat_list_cmp_total}
use Rattle.std.specs.Cmp.{Equal-is, eq_by_cmp_equiv}
use Rattle.std.specs.FinMap.{get, insert, remove, get-insert, get-remove, slice_cmp-IsAntisymmetric, nat_cmp-IsAntisymmetric, same_map, entries, entries_sorted, entries-from_sorted, get-from_sorted, from_sorted, find, same_entries_map}
use Rattle.std.specs.FinMap.Entries.{is_sorted-where_key, find-where_key}
use Rattle.std.specs.Prelude.{not}
use Rattle.std.proofs.lemmas.Bool.{cases_Bool, cond-true, cond-false, false_from_ne_true}
use Rattle.im_base_types.specs.Keys.{Key, key_order}
use Rattle.im_base_types.specs.Maps.{IndexMap, without_key}

same_key : (a b : Key) → eq_by_cmp key_order a b ≡ true → a ≡ b
same_key a b e = slice_cmp-IsAntisymmetric nat_cmp-IsAntisymmetric a b ((Equal-is (key_order a b)).0 e)

key_same : (a b : Key) → a ≡ b → eq_by_cmp key_order a b ≡ true
key_same a b e = subst (λ (c : Key). eq_by_cmp key_order a c ≡ true) e ((eq_by_cmp_equiv nat_list_cmp_total).refl a)

key_other : (a b : Key) → (a ≡ b → ⊥) → eq_by_cmp key_order a b ≡ false
key_other a b differ = false_from_ne_true (eq_by_cmp key_order a b) (λ e. differ (same_key a b e))

-- two keys are the same or not
pub cases_key : (a b : Key) → (a ≡ b) ⊎ (a ≡ b → ⊥)
cases_key a b = ⊎_elim (λ yes. inl (same_key a b yes)) (λ differ. inr (λ e. absurd (let t : true ≡ false = sym (key_same a b e) ∙ differ in cc t))) (cases_Bool (eq_by_cmp key_order a b))

pub get_put : (m : IndexMap) (k : Key) (r : ℕ) (q : Key) → q ≡ k → get (insert m k r) q ≡ Some r
get_put m k r q e = get-insert nat_list_cmp_total m k r q ∙ cond-true _ _ _ (key_same q k e)

pub get_put_other : (m : IndexMap) (k : Key) (r : ℕ) (q : Key) → (q ≡ k → ⊥) → get (insert m k r) q ≡ get m q
get_put_other m k r q differ = get-insert nat_list_cmp_total m k r q ∙ cond-false _ _ _ (key_other q k differ)

pub get_drop : (m : IndexMap) (k q : Key) → q ≡ k → get (remove m k) q ≡ None
get_drop m k q e = get-remove nat_list_cmp_total m k q ∙ cond-true _ _ _ (key_same q k e)

pub get_drop_other : (m : IndexMap) (k q : Key) → (q ≡ k → ⊥) → get (remove m k) q ≡ get m q
get_drop_other m k q differ = get-remove nat_list_cmp_total m k q ∙ cond-false _ _ _ (key_other q k differ)

-- maps with the same at each key are the same
pub same_maps : (m n : IndexMap) → ((q : Key) → get m q ≡ get n q) → m ≡ n
same_maps m n = same_map nat_list_cmp_total (slice_cmp-IsAntisymmetric nat_cmp-IsAntisymmetric) m n

pub sorted_find : (m : IndexMap) (q : Key) → get m q ≡ find key_order q (entries m)
sorted_find m q =
    let same : from_sorted {R = key_order} (entries m) ≡ m = same_entries_map (from_sorted (entries m)) m (entries-from_sorted key_order (entries m) (entries_sorted m)) in
    ap (λ (x : IndexMap). get x q) (sym same) ∙ get-from_sorted key_order (entries m) q (entries_sorted m)

-- the entries of a map without a key
pub entries_drop : (m : IndexMap) (k : Key) → entries (remove m k) ≡ without_key k (entries m)
entries_drop m k =
    let R = key_order in
    let sorted = is_sorted-where_key R (λ x. not (eq_by_cmp R k x)) (entries m) (entries_sorted m) in
    let same : remove m k ≡ from_sorted {R = R} (without_key k (entries m)) = same_maps (remove m k) (from_sorted (without_key k (entries m))) (λ q.
    get-remove nat_list_cmp_total m k q
    ∙ turned (eq_by_cmp R q k) (get m q)
    ∙ ap (λ (t : Bool). cond (not t) (get m q) None) ((eq_by_cmp_equiv nat_list_cmp_total).symm q k)
    ∙ ap (λ (o : Option ℕ). cond (not (eq_by_cmp R k q)) o None) (sorted_find m q)
    ∙ sym (find-where_key R (λ x. not (eq_by_cmp R k x)) q (λ x t. ap (λ (y : Key). not (eq_by_cmp R k y)) (sym (slice_cmp-IsAntisymmetric nat_cmp-IsAntisymmetric q x t))) (entries m))
    ∙ sym (get-from_sorted R (without_key k (entries m)) q sorted)) in
    ap (λ (x : IndexMap). entries x) same ∙ entries-from_sorted R (without_key k (entries m)) sorted
  where
    turned : (t : Bool) (o : Option ℕ) → cond t None o ≡ cond (not t) o None
    turned true o = refl
    turned false o = refl
