-- Changes of one key, and lists of them.
use Rattle.std.proofs.Common.{◌≡◌, ℕ, List, [], ◌∷◌, ◌++◌, Option, Some, None, refl, ap, sym, ◌∙◌, inl, inr, ◌⊎◌}
use Rattle.std.specs.FinMap.{get, insert, remove, get-insert, get-remove, same_map}
use Rattle.std.proofs.lemmas.Map.Lookups.{exact_bytes}
use Rattle.im_base_types.specs.Keys.{Key}
use Rattle.im_base_types.specs.Maps.{IndexMap}
use Rattle.im_base_types.specs.Changes.{Change, Put, Drop, key_of, applied, undone, apply, Touches}
use Rattle.im_theory_machine.specs.Locks.{Name, At}
use Rattle.im_theory_machine.specs.Rows.{next_name}
use Rattle.im_theory_machine.proofs.Order.{keys_total, same_key, tied_same, apart_keys}
use Rattle.im_theory_machine.proofs.Guards.{OnlyAt, guard, guard-put, guard-drop, guard-there, guard-gone}

-- what the key has after the change, and what it had before
abbrev pub came : Change → Option ℕ
came (Put k r) = Some r
came (Drop k r) = None

abbrev pub was : Change → Option ℕ
was (Put k r) = None
was (Drop k r) = Some r

pub get-insert_at : (m : IndexMap) (k : Key) (r : ℕ) → get (insert m k r) k ≡ Some r
get-insert_at m k r = get-insert keys_total m k r k ∙ rw (tied_same k k refl)

pub get-insert_off : (m : IndexMap) (k : Key) (r : ℕ) (x : Key) → (x ≡ k → ⊥) → get (insert m k r) x ≡ get m x
get-insert_off m k r x ne = get-insert keys_total m k r x ∙ rw (apart_keys x k ne)

pub get-remove_at : (m : IndexMap) (k : Key) → get (remove m k) k ≡ None
get-remove_at m k = get-remove keys_total m k k ∙ rw (tied_same k k refl)

pub get-remove_off : (m : IndexMap) (k x : Key) → (x ≡ k → ⊥) → get (remove m k) x ≡ get m x
get-remove_off m k x ne = get-remove keys_total m k x ∙ rw (apart_keys x k ne)

pub applied_at : (m : IndexMap) (c : Change) → get (applied m c) (key_of c) ≡ came c
applied_at m (Put k r) = get-insert_at m k r
applied_at m (Drop k r) = get-remove_at m k

pub applied_off : (m : IndexMap) (c : Change) → OnlyAt (key_of c) m (applied m c)
applied_off m (Put k r) = λ x ne. get-insert_off m k r x ne
applied_off m (Drop k r) = λ x ne. get-remove_off m k x ne

pub undone_at : (m : IndexMap) (c : Change) → get (undone m c) (key_of c) ≡ was c
undone_at m (Put k r) = get-remove_at m k
undone_at m (Drop k r) = get-insert_at m k r

pub undone_off : (m : IndexMap) (c : Change) → OnlyAt (key_of c) m (undone m c)
undone_off m (Put k r) = λ x ne. get-remove_off m k x ne
undone_off m (Drop k r) = λ x ne. get-insert_off m k r x ne

pub same_maps : (m n : IndexMap) → ((x : Key) → get m x ≡ get n x) → m ≡ n
same_maps m n h = same_map keys_total exact_bytes m n h

-- to undo a change gives the map before it
pub undone-applied : (m : IndexMap) (c : Change) → get m (key_of c) ≡ was c → undone (applied m c) c ≡ m
undone-applied m c h = same_maps _ _ (λ x.
    elim (same_key x (key_of c)) [
      | inl e ↦ rw e (undone_at (applied m c) c ∙ sym h)
      | inr ne ↦ undone_off (applied m c) c x ne ∙ applied_off m c x ne
    ])

-- the same undo of two maps that differ at one key
pub undone-both : (m n : IndexMap) (c : Change) (y : Key) → OnlyAt y m n → OnlyAt y (undone m c) (undone n c)
undone-both m n c y only = λ x ne.
    elim (same_key x (key_of c)) [
      | inl e ↦ rw e (undone_at n c ∙ sym (undone_at m c))
      | inr off ↦ undone_off n c x off ∙ (only x ne ∙ sym (undone_off m c x off))
    ]

pub applied-agrees : (m n : IndexMap) (c : Change) (x : Key) → get n x ≡ get m x → get (applied n c) x ≡ get (applied m c) x
applied-agrees m n c x h =
    elim (same_key x (key_of c)) [
      | inl e ↦ rw e (applied_at n c ∙ sym (applied_at m c))
      | inr ne ↦ applied_off n c x ne ∙ (h ∙ sym (applied_off m c x ne))
    ]

-- changes on two maps that agree at a key leave them agreeing there
pub apply-agrees : (m n : IndexMap) (cs : List Change) (x : Key) → get n x ≡ get m x → get (apply n cs) x ≡ get (apply m cs) x
apply-agrees m n [] x h = h
apply-agrees m n (c ∷ cs) x h = applied-agrees (apply m cs) (apply n cs) c x (apply-agrees m n cs x h)

pub apply-untouched : (m : IndexMap) (cs : List Change) (x : Key) → (Touches cs x → ⊥) → get (apply m cs) x ≡ get m x
apply-untouched m [] x none = refl
apply-untouched m (c ∷ cs) x none = applied_off (apply m cs) c x (λ e. none (inl (sym e))) ∙ apply-untouched m cs x (λ h. none (inr h))

pub apply-append : (m : IndexMap) (cs ds : List Change) → apply m (cs ++ ds) ≡ apply (apply m ds) cs
apply-append m [] ds = refl
apply-append m (c ∷ cs) ds = ap (λ n. applied n c) (apply-append m cs ds)

-- whether changes touch a key
pub cases_touches : (cs : List Change) (x : Key) → Touches cs x ⊎ (Touches cs x → ⊥)
cases_touches [] x = inr (λ h. h)
cases_touches (c ∷ cs) x =
    elim (same_key (key_of c) x) [
      | inl e ↦ inl (inl e)
      | inr ne ↦ elim (cases_touches cs x) [ inl h ↦ inl (inr h) | inr none ↦ inr (λ h. elim h [ inl e ↦ ne e | inr t ↦ none t ]) ]
    ]

-- ---- how guards move when the change is made: only to the name that its maker then has

-- the name that a change's maker keeps exclusive
abbrev pub owned : IndexMap → Change → Name
owned m (Put k r) = At k
owned m (Drop k r) = next_name m k

pub guard-applied : (m : IndexMap) (c : Change) (x : Key) → get m (key_of c) ≡ was c → (guard (applied m c) x ≡ guard m x) ⊎ (guard (applied m c) x ≡ owned m c)
guard-applied m (Put k r) x h = guard-put m (insert m k r) k x r h (applied_off m (Put k r)) (applied_at m (Put k r))
guard-applied m (Drop k r) x h = guard-drop m (remove m k) k x r h (applied_off m (Drop k r)) (applied_at m (Drop k r))

pub guard-applied_at : (m : IndexMap) (c : Change) → guard (applied m c) (key_of c) ≡ owned m c
guard-applied_at m (Put k r) = guard-there (insert m k r) k r (applied_at m (Put k r))
guard-applied_at m (Drop k r) = guard-gone m (remove m k) k (applied_off m (Drop k r)) (applied_at m (Drop k r))
