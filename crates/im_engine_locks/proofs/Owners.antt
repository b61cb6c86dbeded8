-- What a change at one owner leaves of the table.
use Rattle.std.proofs.Common.{◌≡◌, ◌≢◌, ◌≤◌, ℕ, Bool, true, false, nat_eq, cond, map, length, List, [], ◌∷◌, Option, None, Some, is_some, Result, Ok, Err, OnOk, OnErr, refl, ap, sym, subst, ◌∙◌, inl, inr, arith, ne_eqb}
use Rattle.std.specs.HashMap.{HashMap, UpdatesBy, get}
use Rattle.std.specs.Map.{lookup}
use Rattle.im_theory_machine.proofs.Bools.{cases_number}
use Rattle.im_engine_locks.proofs.Places.{number_is}
use Rattle.im_theory_machine.specs.Table.{Table, Held, all_of, nothing_held, held_of, locks_of, OthersKeep, SameHeld, HasFallen}
use Rattle.im_engine_locks.specs.Index.{seen}
use Rattle.im_engine_locks.specs.Places.{KeepsOthers}
use Rattle.im_engine_locks.specs.Owned.{held_in, IsKnown, SameOwn}
use Rattle.im_engine_locks.specs.InStep.{owned, IsInStep}
use Rattle.im_engine_locks.specs.declared.name_index.NameIndex.{NameIndex}
use Rattle.im_engine_locks.specs.declared.place.Span.TheVariants.{Lasting, Falling}
use Rattle.im_engine_locks.specs.declared.own_locks.OwnLocks.{OwnLocks}
use Rattle.im_engine_locks.specs.declared.stored_lock.StoredLock.{StoredLock}

abbrev pub held_there : Option OwnLocks → Held
held_there None = nothing_held
held_there (Some own) = held_in own

held_of-entries : (es : List (ℕ × OwnLocks)) (s : ℕ) → held_of (map (λ e. (e.0, held_in e.1)) es) s ≡ held_there (lookup (nat_eq s) es)
held_of-entries [] s = refl
held_of-entries (e ∷ es) s = go (nat_eq s e.0) (held_of-entries es s)
  where
    go : (b : Bool) → held_of (map (λ d. (d.0, held_in d.1)) es) s ≡ held_there (lookup (nat_eq s) es) → cond b (held_in e.1) (held_of (map (λ d. (d.0, held_in d.1)) es) s) ≡ held_there (cond b (Some e.1) (lookup (nat_eq s) es))
    go true ih = refl
    go false ih = ih

-- what s holds is in its lists
pub held_of-owned : {S : Type 0} (m : HashMap ℕ OwnLocks S) (s : ℕ) → held_of (owned m) s ≡ held_there (get nat_eq m s)
held_of-owned m s = held_of-entries m.entries s

pub owned-others : {S : Type 0} (m n : HashMap ℕ OwnLocks S) (t : ℕ) (w : Option OwnLocks) → UpdatesBy nat_eq (nat_eq t) m n w → OthersKeep (owned m) t (owned n)
owned-others m n t w h s ne =
    held_of-owned n s ∙ (ap held_there (h.0 s) ∙ (ap (λ b. held_there (cond b w (get nat_eq m s))) (ne_eqb t s (λ q. ne (sym q))) ∙ sym (held_of-owned m s)))

pub owned-own : {S : Type 0} (m n : HashMap ℕ OwnLocks S) (t : ℕ) (w : Option OwnLocks) → UpdatesBy nat_eq (nat_eq t) m n w → held_of (owned n) t ≡ held_there w
owned-own m n t w h = held_of-owned n t ∙ ap held_there h.1

-- a change of t's lists that leaves what they say leaves the table
pub owned-same : {S : Type 0} (m n : HashMap ℕ OwnLocks S) (t : ℕ) (w : Option OwnLocks) → UpdatesBy nat_eq (nat_eq t) m n w → held_there w ≡ held_of (owned m) t → SameHeld (owned m) (owned n)
owned-same m n t w h e s =
    elim (cases_number s t) [
      | inl q ↦ subst (λ u. held_of (owned n) u ≡ held_of (owned m) u) (sym q) (owned-own m n t w h ∙ e)
      | inr ne ↦ owned-others m n t w h s ne
    ]

-- names and lists stay in step, where t's new lists are known
pub in_step-after : (names after : NameIndex) (t : ℕ) (old new : Table) → IsInStep names old → KeepsOthers names t after → OthersKeep old t new → (h : Held) → held_of new t ≡ h → IsKnown after t h → IsInStep after new
in_step-after names after t old new step kept keep h e known = record {
  known = λ s. elim (cases_number s t) [
    | inl q ↦ subst (λ u. IsKnown after u (held_of new u)) (sym q) (subst (λ (k : Held). IsKnown after t k) (sym e) known)
    | inr ne ↦ subst (λ (k : Held). IsKnown after s k) (sym (keep s ne)) (let was : IsKnown names s (held_of old s) = step.known s in record {
      lasting = λ i n m h. kept n s Lasting i (ne_eqb t s (λ q. ne (sym q))) (was.lasting i n m h);
      falling = λ i n m h. kept n s Falling i (ne_eqb t s (λ q. ne (sym q))) (was.falling i n m h);
      once = was.once;
      once_falling = was.once_falling;
    })
  ];
}

-- what t holds is known, where names and lists are in step
pub known-in : (names : NameIndex) (table : Table) (t : ℕ) → IsInStep names table → IsKnown names t (held_of table t)
known-in names table t step = step.known t

-- t's lists, where the map has them
pub held_of-there : {S : Type 0} (m : HashMap ℕ OwnLocks S) (t : ℕ) (v : OwnLocks) → Some v ≡ get nat_eq m t → held_of (owned m) t ≡ held_in v
held_of-there m t v e = held_of-owned m t ∙ ap held_there (sym e)

-- the same, after they were made where there were none
pub held_of-opened : {S : Type 0} (m n : HashMap ℕ OwnLocks S) (t : ℕ) (v : OwnLocks) → SameHeld (owned m) (owned n) → Some v ≡ get nat_eq n t → held_of (owned m) t ≡ held_in v
held_of-opened m n t v same e = sym (same t) ∙ held_of-there n t v e

no_value : {A : Type 0} (o : Option A) → is_some o ≡ false → o ≡ None
no_value None h = refl
no_value (Some a) h = cc

-- t holds nothing, where the map has no lists
pub held_of-none : {S : Type 0} (m : HashMap ℕ OwnLocks S) (t : ℕ) → is_some (get nat_eq m t) ≡ false → held_of (owned m) t ≡ nothing_held
held_of-none m t h = held_of-owned m t ∙ ap held_there (no_value (get nat_eq m t) h)

-- the same, where a look-up says so
pub held_of-absent : {S : Type 0} (m : HashMap ℕ OwnLocks S) (t : ℕ) → get nat_eq m t ≡ None → held_of (owned m) t ≡ nothing_held
held_of-absent m t h = held_of-owned m t ∙ ap held_there h

-- and nothing falls back then
pub none-fallen : {S : Type 0} (m : HashMap ℕ OwnLocks S) (t : ℕ) → get nat_eq m t ≡ None → HasFallen (owned m) t (owned m)
none-fallen m t h =
    let e : held_of (owned m) t ≡ nothing_held = held_of-absent m t h in
    record { own = ap all_of e ∙ sym (ap (λ (k : Held). k.lasting) e); lasting = refl; others = λ s ne. refl }

-- lists that are empty
pub emptied : (own : OwnLocks) → own.lasting.items ≡ [] → own.falling.items ≡ [] → held_in own ≡ nothing_held
emptied own none nothing =
    ap (λ (items : List StoredLock). record { lasting = map seen items; falling = map seen own.falling.items }) none
    ∙ ap (λ (items : List StoredLock). record { lasting = []; falling = map seen items }) nothing

-- lists that are as they were are seen as they were
pub held_same : (old new : OwnLocks) → SameOwn old new → held_in new ≡ held_in old
held_same old new same =
    ap (λ (items : List StoredLock). record { lasting = map seen items; falling = map seen new.falling.items }) same.lasting
    ∙ ap (λ (items : List StoredLock). record { lasting = map seen old.lasting.items; falling = map seen items }) same.falling

-- nobody but t holds a lock, where there is one owner, which is t
pub own_list : {S : Type 0} (m : HashMap ℕ OwnLocks S) (t : ℕ) → length m.entries ≤ 1 → is_some (get nat_eq m t) ≡ true → (s : ℕ) → s ≢ t → locks_of (owned m) s ≡ []
own_list m t one there s ne = go m.entries one there
  where
    first : {V : Type 0} (b : Bool) (v : V) → is_some (cond b (Some v) None) ≡ true → b ≡ true
    first true v h = refl
    first false v h = cc

    go : (es : List (ℕ × OwnLocks)) → length es ≤ 1 → is_some (lookup (nat_eq t) es) ≡ true → locks_of (map (λ e. (e.0, held_in e.1)) es) s ≡ []
    go [] h k = refl
    go (e ∷ []) h k = ap (λ b. all_of (cond b (held_in e.1) nothing_held)) (ne_eqb s e.0 (λ q. ne (q ∙ sym (number_is t e.0 (first (nat_eq t e.0) e.1 k)))))
    go (e ∷ d ∷ es) h k = absurd (omega (arith, h))

-- ---- under a result

pub on_ok : {A E P Q : Type 0} (r : Result A E) → (P → Q) → OnOk r P → OnOk r Q
on_ok (Ok a) f h = f h
on_ok (Err e) f h = h

pub on_both : {A E P Q R : Type 0} (r : Result A E) → (P → Q → R) → OnOk r P → OnOk r Q → OnOk r R
on_both (Ok a) f g h = f g h
on_both (Err e) f g h = h

pub on_err : {A E P Q : Type 0} (r : Result A E) → (P → Q) → OnErr r P → OnErr r Q
on_err (Ok a) f h = h
on_err (Err e) f h = f h

-- ---- nobody is left

-- names of nobody and lists of nobody are in step
pub none_left : {S : Type 0} (names : NameIndex) (m : HashMap ℕ OwnLocks S) → length m.entries ≡ 0 → IsInStep names (owned m)
none_left names m nobody =
    subst (λ (table : Table). IsInStep names table) (sym (ap (λ (es : List (ℕ × OwnLocks)). map (λ e. (e.0, held_in e.1)) es) (no_entries m.entries nobody)))
    (record { known = λ s. record { lasting = λ i n k h. cc; falling = λ i n k h. cc; once = tt; once_falling = tt } })
  where
    no_entries : (es : List (ℕ × OwnLocks)) → length es ≡ 0 → es ≡ []
    no_entries [] e = refl
    no_entries (d ∷ es) e = absurd cc
