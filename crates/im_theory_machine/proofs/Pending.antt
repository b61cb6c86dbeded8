-- An Insert that goes on stays as it is, and ends granted.
use Rattle.std.proofs.Common.{◌≡◌, ◌≢◌, ℕ, nat_eq, Bool, true, false, cond, is_some, List, [], ◌∷◌, ◌++◌, None, refl, ap, sym, subst, ◌∙◌, inl, inr, eq-eqb}
use Rattle.std.specs.FinMap.{get}
use Rattle.im_base_types.specs.Keys.{Key}
use Rattle.im_base_types.specs.Maps.{IndexMap, From, first}
use Rattle.im_base_types.specs.Answers.{Access, Insert, map_after}
use Rattle.im_base_types.specs.Changes.{Change, key_of, applied, undone, apply}
use Rattle.im_theory_machine.specs.Locks.{Name, At, Lock, Request, kept, SameLocks, Holds, Asks, IsFree}
use Rattle.im_theory_machine.specs.declared.lock_kind.Mode.{Mode}
use Rattle.im_theory_machine.specs.declared.lock_kind.Mode.TheVariants.{Exclusive}
use Rattle.im_theory_machine.specs.declared.lock_kind.Duration.TheVariants.{Instant, ToCommit}
use Rattle.im_theory_machine.specs.Rows.{name_of, next_name, shared, asked}
use Rattle.im_theory_machine.specs.View.{Txn, set_txn, did_txn}
use Rattle.im_theory_machine.proofs.Bools.{cases_number}
use Rattle.im_theory_machine.proofs.Guards.{guard, guard-absent, guard-stable, ne-from_guards, OnlyAt}
use Rattle.im_theory_machine.proofs.Changes.{applied_off, undone_off}
use Rattle.im_theory_machine.proofs.Invariant.{set_txn-same, set_txn-other}
use Rattle.im_theory_machine.proofs.Locks.{kept-from, cases_access}
use Rattle.im_theory_machine.specs.Kept.{with_kept, IsAlone, IsPending, KeptLocksStay}

-- what an insert of an absent key asks
pub row_is : (w : IndexMap) (k : Key) (r : ℕ) → get w k ≡ None
    → asked (Insert k r) w ≡ record { name = next_name w k; mode = Exclusive; duration = Instant } ∷ record { name = At k; mode = Exclusive; duration = ToCommit } ∷ []
row_is w k r none =
    ap (λ o. cond (is_some o) (shared (At k) ∷ []) (record { name = next_name w k; mode = Exclusive; duration = Instant } ∷ record { name = At k; mode = Exclusive; duration = ToCommit } ∷ [])) none

-- a map that differs at a key with another guard: the key stays absent, and its next name stays
moved : (w w' : IndexMap) (k y : Key) → OnlyAt y w w' → get w k ≡ None → (guard w y ≡ guard w k → ⊥) → (get w' k ≡ None) × (next_name w' k ≡ next_name w k)
moved w w' k y only none ne =
    let still : get w' k ≡ None = only k (ne-from_guards w k y ne) ∙ none in
    (still, sym (guard-absent w' k still) ∙ guard-stable w w' k y only ne ∙ guard-absent w k none)

-- what another asked and was granted beside these locks is not among them
module _ (f : ℕ → Txn) (w : IndexMap) (t u : ℕ) (k : Key) (a : Access) (p : IsPending f w t k) (other : u ≢ t) (free : IsFree (with_kept f t (next_name w k)) u (asked a w)) where
  holder : with_kept f t (next_name w k) t ≡ record { name = next_name w k; mode = Exclusive } ∷ (f t).locks
  holder = rw (eq-eqb t t refl)

  not_next : (md : Mode) → Asks (asked a w) (next_name w k) md → ⊥
  not_next md ask = free t (record {
    name = next_name w k;
    mode = md;
    theirs = Exclusive;
    other = λ e. other (sym e);
    ask = ask;
    held = subst (λ (ls : List Lock). Holds ls (next_name w k) Exclusive) (sym holder) (inl (refl, refl));
    exclusive = inr refl;
  })

  not_key : (md : Mode) → Asks (asked a w) (At k) md → ⊥
  not_key md ask = free t (record {
    name = At k;
    mode = md;
    theirs = Exclusive;
    other = λ e. other (sym e);
    ask = ask;
    held = subst (λ (ls : List Lock). Holds ls (At k) Exclusive) (sym holder) (inr p.owns);
    exclusive = inr refl;
  })

  module _ (ls : List Lock) (same : SameLocks ls (kept (asked a w) ((f u).locks))) where
    still_alone : (n : Name) → IsAlone f t n → ((md : Mode) → Asks (asked a w) n md → ⊥) → IsAlone (set_txn f u (did_txn (f u) a w ls)) t n
    still_alone n alone none s ns md h = elim (cases_number s u) [
      | inl e ↦
          let there : Holds ls n md = subst (λ (x : Txn). Holds x.locks n md) (ap (set_txn f u (did_txn (f u) a w ls)) e ∙ set_txn-same f u (did_txn (f u) a w ls)) h in
          elim (kept-from (asked a w) ((f u).locks) n md ((same n md).0 there)) [
            | inl old ↦ alone u other md old
            | inr ask ↦ none md ask
          ]
      | inr ne ↦ alone s ns md (subst (λ (x : Txn). Holds x.locks n md) (set_txn-other f u (did_txn (f u) a w ls) s ne) h)
    ]

    owner_same : set_txn f u (did_txn (f u) a w ls) t ≡ f t
    owner_same = set_txn-other f u (did_txn (f u) a w ls) t (λ e. other (sym e))

    pending_at : (w' : IndexMap) → get w' k ≡ None → next_name w' k ≡ next_name w k → IsPending (set_txn f u (did_txn (f u) a w ls)) w' t k
    pending_at w' none next = record {
      absent = none;
      owns = subst (λ (x : Txn). Holds x.locks (At k) Exclusive) (sym owner_same) p.owns;
      next = subst (IsAlone (set_txn f u (did_txn (f u) a w ls)) t) (sym next) (still_alone (next_name w k) p.next not_next);
      key = still_alone (At k) p.key not_key;
    }

    access_stays : IsPending (set_txn f u (did_txn (f u) a w ls)) (map_after a w) t k × (next_name (map_after a w) k ≡ next_name w k)
    access_stays = elim (cases_access a w ((f u).locks)) [
      | inl is ↦
          let same_map : map_after a w ≡ w = ap (apply w) is.nothing in (
            subst (λ (m : IndexMap). IsPending (set_txn f u (did_txn (f u) a w ls)) m t k) (sym same_map) (pending_at w p.absent refl),
            ap (λ (m : IndexMap). next_name m k) same_map,
          )
      | inr x ↦
          let c = x.0 in
          let new_map : map_after a w ≡ applied w c = ap (apply w) x.1.change in
          let apart : guard w (key_of c) ≡ guard w k → ⊥ = λ e. not_next Exclusive (subst (λ (n : Name). Asks (asked a w) n Exclusive) (e ∙ guard-absent w k p.absent) x.1.asks) in
          let m = moved w (applied w c) k (key_of c) (applied_off w c) p.absent apart in (
            subst (λ (m : IndexMap). IsPending (set_txn f u (did_txn (f u) a w ls)) m t k) (sym new_map) (pending_at (applied w c) m.0 m.1),
            ap (λ (m : IndexMap). next_name m k) new_map ∙ m.1,
          )
    ]

pub undo_stays : (f : ℕ → Txn) (w : IndexMap) (t u : ℕ) (k : Key) (c : Change) → IsPending f w t k → u ≢ t → Holds ((f u).locks) (guard w (key_of c)) Exclusive
    → IsPending f (undone w c) t k × (next_name (undone w c) k ≡ next_name w k)
undo_stays f w t u k c p other held =
    let apart : guard w (key_of c) ≡ guard w k → ⊥ = λ e. p.next u other Exclusive (subst (λ (n : Name). Holds ((f u).locks) n Exclusive) (e ∙ guard-absent w k p.absent) held) in
    let m = moved w (undone w c) k (key_of c) (undone_off w c) p.absent apart in
    (record { absent = m.0; owns = p.owns; next = subst (IsAlone f t) (sym m.1) p.next; key = p.key }, m.1)

-- what is asked is alone
free_by : (f : ℕ → Txn) (w : IndexMap) (t : ℕ) (k : Key) → IsPending f w t k → IsFree (λ s. (f s).locks) t (record { name = next_name w k; mode = Exclusive; duration = Instant } ∷ record { name = At k; mode = Exclusive; duration = ToCommit } ∷ [])
free_by f w t k p s conflict = elim conflict.ask [
  | inl first ↦ p.next s conflict.other conflict.theirs (subst (λ (n : Name). Holds ((f s).locks) n conflict.theirs) (sym first.0) conflict.held)
  | inr rest ↦ elim rest [
    | inl second ↦ p.key s conflict.other conflict.theirs (subst (λ (n : Name). Holds ((f s).locks) n conflict.theirs) (sym second.0) conflict.held)
    | inr none ↦ absurd none
  ]
]

begins_by : (f : ℕ → Txn) (w : IndexMap) (t : ℕ) (k : Key) (ls : List Lock)
    → IsFree (λ s. (f s).locks) t (record { name = next_name w k; mode = Exclusive; duration = Instant } ∷ record { name = At k; mode = Exclusive; duration = ToCommit } ∷ []) → get w k ≡ None
    → SameLocks ls (record { name = At k; mode = Exclusive } ∷ (f t).locks) → IsPending (set_txn f t (record (f t) { locks = ls })) w t k
begins_by f w t k ls free none same = record {
  absent = none;
  owns = subst (λ (x : Txn). Holds x.locks (At k) Exclusive) (sym (set_txn-same f t (record (f t) { locks = ls }))) ((same (At k) Exclusive).1 (inl (refl, refl)));
  next = λ s ns md h. free s (record { name = next_name w k; mode = Exclusive; theirs = md; other = ns; ask = inl (refl, refl); held = elsewhere s ns (next_name w k) md h; exclusive = inl refl });
  key = λ s ns md h. free s (record { name = At k; mode = Exclusive; theirs = md; other = ns; ask = inr (inl (refl, refl)); held = elsewhere s ns (At k) md h; exclusive = inl refl });
}
  where
    elsewhere : (s : ℕ) → s ≢ t → (n : Name) (md : Mode) → Holds ((set_txn f t (record (f t) { locks = ls }) s).locks) n md → Holds ((f s).locks) n md
    elsewhere s ns n md h = subst (λ (x : Txn). Holds x.locks n md) (set_txn-other f t (record (f t) { locks = ls }) s ns) h

weaker_by : (f : ℕ → Txn) (t : ℕ) (n : Name) (s : ℕ) (m : Name) (md : Mode) → Holds ((f s).locks) m md → Holds (with_kept f t n s) m md
weaker_by f t n s m md h = elim (nat_eq t s) as (λ (b : Bool). Holds (cond b (record { name = n; mode = Exclusive } ∷ []) [] ++ (f s).locks) m md) [ true ↦ inr h | false ↦ h ]

-- the guard of a key, written out
guarded_by : (f : ℕ → Txn) (w : IndexMap) (u : ℕ) (c : Change) → Holds ((f u).locks) (name_of (first (From (key_of c)) w)) Exclusive → Holds ((f u).locks) (guard w (key_of c)) Exclusive
unfolding guard
guarded_by f w u c held = held

pub kept_locks_stay : KeptLocksStay
kept_locks_stay = record {
  begins = λ f w t k r ls free none same.
      begins_by f w t k ls (subst (λ (qs : List Request). IsFree (λ s. (f s).locks) t qs) (row_is w k r none) free) none
      (subst (λ (qs : List Request). SameLocks ls (kept qs ((f t).locks))) (row_is w k r none) same);
  access = λ f w t u k a ls p other free same. access_stays f w t u k a p other free ls same;
  undo = λ f w t u k c p other held. undo_stays f w t u k c p other (guarded_by f w u c held);
  grants = λ f w t k r p. subst (λ (qs : List Request). IsFree (λ s. (f s).locks) t qs) (sym (row_is w k r p.absent)) (free_by f w t k p);
  weaker = λ f t u n a w free s c.
      free s (record { name = c.name; mode = c.mode; theirs = c.theirs; other = c.other; ask = c.ask; held = weaker_by f t n s c.name c.theirs c.held; exclusive = c.exclusive });
}
