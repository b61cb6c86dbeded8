-- Changes and lists of them, key by key.
use Rattle.std.proofs.Common.{◌≡◌, ◌⊎◌, inl, inr, ⊎_elim, ℕ, List, [], ◌∷◌, ◌++◌, refl, sym, ◌∙◌, ap, Option, None, Some}
use Rattle.std.specs.FinMap.{get, insert, remove}
use Rattle.im_base_types.specs.Keys.{Key}
use Rattle.im_base_types.specs.Maps.{IndexMap}
use Rattle.im_base_types.specs.Changes.{Change, Put, Drop, Effect, key_of, value_before, applied, undone, apply, apply_all, Touches, seen, seen_effect}
use Rattle.im_base_types.proofs.Maps.{cases_key, get_put, get_put_other, get_drop, get_drop_other, same_maps}

-- what its key has after the change
abbrev pub value_after : Change → Option ℕ
value_after (Put k r) = Some r
value_after (Drop k r) = None

pub applied_at : (m : IndexMap) (c : Change) (q : Key) → key_of c ≡ q → get (applied m c) q ≡ value_after c
applied_at m (Put k r) q e = get_put m k r q (sym e)
applied_at m (Drop k r) q e = get_drop m k q (sym e)

pub applied_off : (m : IndexMap) (c : Change) (q : Key) → (key_of c ≡ q → ⊥) → get (applied m c) q ≡ get m q
applied_off m (Put k r) q differ = get_put_other m k r q (λ e. differ (sym e))
applied_off m (Drop k r) q differ = get_drop_other m k q (λ e. differ (sym e))

pub undone_at : (m : IndexMap) (c : Change) (q : Key) → key_of c ≡ q → get (undone m c) q ≡ value_before c
undone_at m (Put k r) q e = get_drop m k q (sym e)
undone_at m (Drop k r) q e = get_put m k r q (sym e)

pub undone_off : (m : IndexMap) (c : Change) (q : Key) → (key_of c ≡ q → ⊥) → get (undone m c) q ≡ get m q
undone_off m (Put k r) q differ = get_drop_other m k q (λ e. differ (sym e))
undone_off m (Drop k r) q differ = get_put_other m k r q (λ e. differ (sym e))

-- to undo a change gives the map before it
pub undone_applied : (m : IndexMap) (c : Change) → get m (key_of c) ≡ value_before c → undone (applied m c) c ≡ m
undone_applied m c was = same_maps (undone (applied m c) c) m (λ q. elim (cases_key (key_of c) q) [
  | inl here ↦ undone_at (applied m c) c q here ∙ sym was ∙ ap (λ (k : Key). get m k) here
  | inr other ↦ undone_off (applied m c) c q other ∙ applied_off m c q other
])

-- what changes leave at a key comes from them and from what was at that key
pub applied_agrees : (m n : IndexMap) (c : Change) (q : Key) → get m q ≡ get n q → get (applied m c) q ≡ get (applied n c) q
applied_agrees m n c q e = elim (cases_key (key_of c) q) [
  | inl here ↦ applied_at m c q here ∙ sym (applied_at n c q here)
  | inr other ↦ applied_off m c q other ∙ e ∙ sym (applied_off n c q other)
]

pub apply_agrees : (m n : IndexMap) (cs : Effect) (q : Key) → get m q ≡ get n q → get (apply m cs) q ≡ get (apply n cs) q
apply_agrees m n [] q e = e
apply_agrees m n (c ∷ cs) q e = applied_agrees (apply m cs) (apply n cs) c q (apply_agrees m n cs q e)

pub apply_untouched : (m : IndexMap) (cs : Effect) (q : Key) → (Touches cs q → ⊥) → get (apply m cs) q ≡ get m q
apply_untouched m [] q none = refl
apply_untouched m (c ∷ cs) q none = applied_off (apply m cs) c q (λ e. none (inl e)) ∙ apply_untouched m cs q (λ t. none (inr t))

-- newer changes stand before older ones
pub apply_append : (m : IndexMap) (newer older : Effect) → apply m (newer ++ older) ≡ apply (apply m older) newer
apply_append m [] older = refl
apply_append m (c ∷ newer) older = ap (λ (n : IndexMap). applied n c) (apply_append m newer older)

-- whether changes touch a key
pub cases_touches : (cs : Effect) (q : Key) → Touches cs q ⊎ (Touches cs q → ⊥)
cases_touches [] q = inr (λ none. none)
cases_touches (c ∷ cs) q = elim (cases_key (key_of c) q) [
  | inl e ↦ inl (inl e)
  | inr differ ↦ elim (cases_touches cs q) [
    | inl t ↦ inl (inr t)
    | inr not_there ↦ inr (λ t. ⊎_elim differ not_there t)
  ]
]

-- one transaction more
pub apply_all_push : (m : IndexMap) (es : List Effect) (e : Effect) → apply_all m (es ++ e ∷ []) ≡ apply (apply_all m es) e
apply_all_push m [] e = refl
apply_all_push m (d ∷ es) e = apply_all_push (apply m d) es e

pub apply_all_append : (m : IndexMap) (es fs : List Effect) → apply_all m (es ++ fs) ≡ apply_all (apply_all m es) fs
apply_all_append m [] fs = refl
apply_all_append m (d ∷ es) fs = apply_all_append (apply m d) es fs

-- ---- effects as users see them make the same map

pub apply_seen : (m : IndexMap) (cs : Effect) → apply m (seen_effect cs) ≡ apply m cs
apply_seen m [] = refl
apply_seen m (Put k r ∷ cs) = ap (λ (n : IndexMap). insert n k r) (apply_seen m cs)
apply_seen m (Drop k r ∷ cs) = ap (λ (n : IndexMap). remove n k) (apply_seen m cs)

pub apply_all_seen : (m : IndexMap) (es : List Effect) → apply_all m (seen es) ≡ apply_all m es
apply_all_seen m [] = refl
apply_all_seen m (e ∷ es) = ap (λ (n : IndexMap). apply_all n (seen es)) (apply_seen m e) ∙ apply_all_seen (apply m e) es

pub seen_append : (es fs : List Effect) → seen (es ++ fs) ≡ seen es ++ seen fs
seen_append [] fs = refl
seen_append (e ∷ es) fs = ap (λ (l : List Effect). seen_effect e ∷ l) (seen_append es fs)
