-- The three durations of the lock table are those of the machine's locks.
use Rattle.std.proofs.Common.{◌≡◌, ◌≢◌, ℕ, nat_eq, Bool, true, false, cond, Option, Some, None, is_some, List, [], ◌∷◌, ◌++◌, refl, ap, sym, subst, ◌∙◌, inl, inr, eq-eqb, ne_eqb, append-nil}
use Rattle.std.specs.FinMap.{get}
use Rattle.im_base_types.specs.Keys.{Key}
use Rattle.im_base_types.specs.Maps.{IndexMap}
use Rattle.im_base_types.specs.Answers.{Access, Insert, Do, Continue, Inserted, More, Going, MustRollBack, Mark, map_after}
use Rattle.im_theory_machine.specs.Locks.{Name, At, Lock, Request, Asks, kept, kept_if, SameLocks, IsFree, ConflictsWith}
use Rattle.im_theory_machine.specs.declared.lock_kind.Mode.{Mode}
use Rattle.im_theory_machine.specs.declared.lock_kind.Mode.TheVariants.{Exclusive}
use Rattle.im_theory_machine.specs.declared.lock_kind.Duration.{Duration}
use Rattle.im_theory_machine.specs.declared.lock_kind.Duration.TheVariants.{Instant, ToFinish, ToCommit}
use Rattle.im_theory_machine.specs.Rows.{next_name, shared, asked}
use Rattle.im_theory_machine.specs.Table.{Table, Held, all_of, locks_of, lasting_of, Decides, HasFallen, OthersKeep}
use Rattle.im_theory_machine.specs.View.{View, Under, Puts, Drops, TakesBack, TookBack, Aim, Txn, kept_for, kept_lock, own_locks, locks_in, set_txn, did_txn, did, locked, marked, with_change, change_made}
use Rattle.im_theory_machine.specs.Machine.{Goes, does, waits, dies, puts, puts_later}
use Rattle.im_theory_machine.specs.Kept.{IsPending, with_kept}
use Rattle.im_theory_machine.specs.Serving.{KeepsNone, Matches}
use Rattle.im_theory_machine.specs.Changing.{MatchesWithKept, NoneFalls, asked_begun, GoesWithKept, ChangesServe}
use Rattle.im_theory_machine.specs.declared.verdict.Verdict.{Verdict}
use Rattle.im_theory_machine.specs.declared.verdict.Verdict.TheVariants.{Granted, Wait, Die as DieVerdict}
use Rattle.im_theory_machine.proofs.Bools.{cases_number}
use Rattle.im_theory_machine.proofs.Durations.{asked-kept}
use Rattle.im_theory_machine.proofs.Invariant.{set_txn-same, set_txn-other}
use Rattle.im_theory_machine.proofs.Pending.{kept_locks_stay}

-- ---- the same locks

same_itself : (ls : List Lock) → SameLocks ls ls
same_itself ls n m = (λ h. h, λ h. h)

same_by : (ls ks : List Lock) → ls ≡ ks → SameLocks ls ks
same_by ls ks e = subst (λ (xs : List Lock). SameLocks ls xs) e (same_itself ls)

same_turned : (ls ks : List Lock) → SameLocks ls ks → SameLocks ks ls
same_turned ls ks h n m = ((h n m).1, (h n m).0)

same_then : (ls ks xs : List Lock) → SameLocks ls ks → SameLocks ks xs → SameLocks ls xs
same_then ls ks xs h g n m = (λ p. (g n m).0 ((h n m).0 p), λ p. (h n m).1 ((g n m).1 p))

same_more : (l : Lock) (ls ks : List Lock) → SameLocks ls ks → SameLocks (l ∷ ls) (l ∷ ks)
same_more l ls ks h n m = (λ p. elim p [ inl e ↦ inl e | inr t ↦ inr ((h n m).0 t) ], λ p. elim p [ inl e ↦ inl e | inr t ↦ inr ((h n m).1 t) ])

-- conflict looks at what is held alone
conflict_by : (f g : ℕ → List Lock) → ((s : ℕ) → SameLocks (f s) (g s)) → (t : ℕ) (asks : List Request) (s : ℕ) → ConflictsWith g t asks s → ConflictsWith f t asks s
conflict_by f g e t asks s p = record {
  name = p.name;
  mode = p.mode;
  theirs = p.theirs;
  other = p.other;
  ask = p.ask;
  held = (e s p.name p.theirs).1 p.held;
  exclusive = p.exclusive;
}

free_by : (f g : ℕ → List Lock) → ((s : ℕ) → SameLocks (f s) (g s)) → (t : ℕ) (asks : List Request) → IsFree g t asks → IsFree f t asks
free_by f g e t asks free s p = free s (conflict_by g f (λ u. same_turned (f u) (g u) (e u)) t asks s p)

-- ---- with nobody who keeps a lock

with-none : (v : View) (table : Table) → Matches v table → NoneFalls table → MatchesWithKept v table
with-none v table h none = record {
  lasting = λ s. h.0 s ∙ (ap (λ (fs : List Lock). lasting_of table s ++ fs) (none s) ∙ append-nil (lasting_of table s));
  held = λ s. same_by (locks_in v s) (locks_of table s) (ap (λ (ks : List Lock). ks ++ own_locks v s) (h.1 v.walk s) ∙ h.0 s);
}

as-before : (v : View) (table : Table) → MatchesWithKept v table → NoneFalls table → KeepsNone v.under → Matches v table
as-before v table h none keeps = (λ s. h.lasting s ∙ sym (ap (λ (fs : List Lock). lasting_of table s ++ fs) (none s) ∙ append-nil (lasting_of table s)), keeps)

-- ---- an Insert begins and ends

-- the locks of a transaction that is set
own-same : (f : ℕ → Txn) (t : ℕ) (x : Txn) → (set_txn f t x t).locks ≡ x.locks
own-same f t x = ap (λ (y : Txn). y.locks) (set_txn-same f t x)

own-other : (f : ℕ → Txn) (t : ℕ) (x : Txn) (s : ℕ) → s ≢ t → (set_txn f t x s).locks ≡ (f s).locks
own-other f t x s ne = ap (λ (y : Txn). y.locks) (set_txn-other f t x s ne)

-- what lasts, with t's transaction set to one that holds what lasts for it then
lasting-set : (v : View) (old new : Table) (t : ℕ) (x : Txn) → MatchesWithKept v old → x.locks ≡ lasting_of new t → OthersKeep old t new → (s : ℕ) → (set_txn v.txns t x s).locks ≡ lasting_of new s
lasting-set v old new t x h own others s =
    elim (cases_number s t) [
      | inl e ↦ subst (λ u. (set_txn v.txns t x u).locks ≡ lasting_of new u) (sym e) (own-same v.txns t x ∙ own)
      | inr ne ↦ own-other v.txns t x s ne ∙ (h.lasting s ∙ sym (ap (λ (k : Held). k.lasting) (others s ne)))
    ]

-- what another holds is what it held
others-held : (old new : Table) (t s : ℕ) (ls : List Lock) → OthersKeep old t new → s ≢ t → SameLocks ls (locks_of old s) → SameLocks ls (locks_of new s)
others-held old new t s ls others ne h = subst (λ (k : Held). SameLocks ls (all_of k)) (sym (others s ne)) h

-- who is not the owner keeps no lock
none-kept : (u : Under) (w : IndexMap) (s : ℕ) → s ≢ u.owner → kept_lock (Some u) w s ≡ []
none-kept u w s ne = ap (λ (b : Bool). cond b (kept_for u.aim w) []) (ne_eqb u.owner s (λ e. ne (sym e)))

-- the owner keeps its lock
own-kept : (u : Under) (w : IndexMap) → kept_lock (Some u) w u.owner ≡ kept_for u.aim w
own-kept u w = ap (λ (b : Bool). cond b (kept_for u.aim w) []) (eq-eqb u.owner u.owner refl)

module _ (v : View) (old new : Table) (h : MatchesWithKept v old) (t : ℕ) (k : Key) (r : ℕ) where
  -- nobody keeps a lock, so that all that is held lasts
  module _ (none : v.under ≡ None) where
    own-held : (s : ℕ) → SameLocks (own_locks v s) (locks_of old s)
    own-held s = subst (λ (o : Option Under). SameLocks (kept_lock o v.walk s ++ own_locks v s) (locks_of old s)) none (h.held s)

    abbrev begun : View
    begun = with_change (locked v t (lasting_of new t)) t (Puts k r)

    abbrev next_lock : Lock
    next_lock = record { name = next_name v.walk k; mode = Exclusive }

    abbrev key_lock : Lock
    key_lock = record { name = At k; mode = Exclusive }

    asks-as : get v.walk k ≡ None → (n : Name) (m : Mode) → Asks (asked (Insert k r) v.walk) n m → Asks (asked_begun k v.walk) n m
    asks-as absent n m = subst (λ (o : Option ℕ). Asks (cond (is_some o) (shared (At k) ∷ []) (record { name = next_name v.walk k; mode = Exclusive; duration = Instant } ∷ record { name = At k; mode = Exclusive; duration = ToCommit } ∷ [])) n m → Asks (asked_begun k v.walk) n m) (sym absent) (λ p. p)

    kept-as : get v.walk k ≡ None → (ls : List Lock) → key_lock ∷ ls ≡ kept (asked (Insert k r) v.walk) ls
    kept-as absent ls = subst (λ (o : Option ℕ). key_lock ∷ ls ≡ kept (cond (is_some o) (shared (At k) ∷ []) (record { name = next_name v.walk k; mode = Exclusive; duration = Instant } ∷ record { name = At k; mode = Exclusive; duration = ToCommit } ∷ [])) ls) (sym absent) refl

    module _ (absent : get v.walk k ≡ None) (d : Decides old t (asked_begun k v.walk) Granted new) where
      free : IsFree (locks_in v) t (asked (Insert k r) v.walk)
      free s p = d.0 s (conflict_by (locks_of old) (locks_in v) (λ u. same_turned (locks_in v u) (locks_of old u) (h.held u)) t (asked_begun k v.walk) s (record {
        name = p.name;
        mode = p.mode;
        theirs = p.theirs;
        other = p.other;
        ask = asks-as absent p.name p.mode p.ask;
        held = p.held;
        exclusive = p.exclusive;
      }))

      -- what lasts for t
      lasts : SameLocks (lasting_of new t) (key_lock ∷ own_locks v t)
      lasts = subst (λ (ls : List Lock). SameLocks (lasting_of new t) (key_lock ∷ ls)) (sym (h.lasting t)) d.1.lasting

      held-own : SameLocks (next_lock ∷ lasting_of new t) (locks_of new t)
      held-own =
          same_then (next_lock ∷ lasting_of new t) (next_lock ∷ key_lock ∷ locks_of old t) (locks_of new t)
          (same_more next_lock (lasting_of new t) (key_lock ∷ locks_of old t) (same_then (lasting_of new t) (key_lock ∷ own_locks v t) (key_lock ∷ locks_of old t) lasts (same_more key_lock (own_locks v t) (locks_of old t) (own-held t))))
          (same_turned (locks_of new t) (next_lock ∷ key_lock ∷ locks_of old t) d.1.own)

      begun-held : (s : ℕ) → SameLocks (locks_in begun s) (locks_of new s)
      begun-held s = elim (cases_number s t) [
        | inl e ↦ subst (λ u. SameLocks (locks_in begun u) (locks_of new u)) (sym e)
            (subst (λ (ls : List Lock). SameLocks ls (locks_of new t))
            (sym (ap (λ (ks : List Lock). ks ++ own_locks begun t) (own-kept (record { owner = t; aim = Puts k r }) v.walk) ∙ ap (λ (ks : List Lock). next_lock ∷ ks) (own-same v.txns t (record (v.txns t) { locks = lasting_of new t }))))
            held-own)
        | inr ne ↦ subst (λ (ls : List Lock). SameLocks ls (locks_of new s))
            (sym (ap (λ (ks : List Lock). ks ++ own_locks begun s) (none-kept (record { owner = t; aim = Puts k r }) v.walk s ne) ∙ own-other v.txns t (record (v.txns t) { locks = lasting_of new t }) s ne))
            (others-held old new t s (own_locks v s) d.1.others ne (own-held s))
      ]

  -- the Insert that goes on is that of t
  module _ (under : v.under ≡ Some (record { owner = t; aim = Puts k r })) (fallen : HasFallen old t new) where
    abbrev made : View
    made = change_made (did v t (Insert k r) (own_locks v t))

    made-lasting : (s : ℕ) → own_locks made s ≡ lasting_of new s
    made-lasting = lasting-set v old new t (did_txn (v.txns t) (Insert k r) v.walk (own_locks v t)) h (h.lasting t ∙ sym fallen.lasting) fallen.others

    made-held : (s : ℕ) → SameLocks (locks_in made s) (locks_of new s)
    made-held s = elim (cases_number s t) [
      | inl e ↦ subst (λ u. SameLocks (own_locks made u) (locks_of new u)) (sym e) (same_by (own_locks made t) (locks_of new t) (made-lasting t ∙ (fallen.lasting ∙ sym fallen.own)))
      | inr ne ↦ subst (λ (ls : List Lock). SameLocks ls (locks_of new s)) (sym (own-other v.txns t (did_txn (v.txns t) (Insert k r) v.walk (own_locks v t)) s ne))
          (others-held old new t s (own_locks v s) fallen.others ne
          (subst (λ (ks : List Lock). SameLocks (ks ++ own_locks v s) (locks_of old s)) (ap (λ (o : Option Under). kept_lock o v.walk s) under ∙ none-kept (record { owner = t; aim = Puts k r }) v.walk s ne) (h.held s)))
    ]

begins : (v : View) (old new : Table) → MatchesWithKept v old → (t : ℕ) (k : Key) (r : ℕ) → (v.txns t).mark ≡ Going → v.under ≡ None → get v.walk k ≡ None → Decides old t (asked_begun k v.walk) Granted new
    → Goes v (Do t (Insert k r)) More (with_change (locked v t (lasting_of new t)) t (Puts k r)) × MatchesWithKept (with_change (locked v t (lasting_of new t)) t (Puts k r)) new
begins v old new h t k r going none absent d = (
  puts_later t k r (lasting_of new t) refl going none absent (free v old new h t k r none absent d)
      (subst (λ (ls : List Lock). SameLocks (lasting_of new t) ls) (kept-as v old new h t k r none absent (own_locks v t)) (lasts v old new h t k r none absent d)) refl refl,
  record {
    lasting = lasting-set v old new t (record (v.txns t) { locks = lasting_of new t }) h refl d.1.others;
    held = begun-held v old new h t k r none absent d;
  },
)

ends : (v : View) (old new : Table) → MatchesWithKept v old → (t : ℕ) (k : Key) (r : ℕ) → (v.txns t).mark ≡ Going → v.under ≡ Some (record { owner = t; aim = Puts k r }) → HasFallen old t new
    → Goes v (Continue t) Inserted (change_made (did v t (Insert k r) (own_locks v t))) × MatchesWithKept (change_made (did v t (Insert k r) (own_locks v t))) new
ends v old new h t k r going under fallen = (
  puts t k r refl going under refl refl,
  record { lasting = made-lasting v old new h t k r under fallen; held = made-held v old new h t k r under fallen },
)

-- ---- others go on beside it

-- what is kept for an Insert is kept after an access of another
kept-stays : (o : Option Under) (f : ℕ → Txn) (w : IndexMap) (t : ℕ) (a : Access) (ls : List Lock) → ((u : ℕ) (k : Key) (r : ℕ) → o ≡ Some (record { owner = u; aim = Puts k r }) → (t ≢ u) × IsPending f w u k)
    → IsFree (λ s. kept_lock o w s ++ (f s).locks) t (asked a w) → SameLocks ls (kept (asked a w) ((f t).locks)) → (s : ℕ) → kept_lock o (map_after a w) s ≡ kept_lock o w s
kept-stays None f w t a ls pends free same s = refl
kept-stays (Some u) f w t a ls pends free same s = go u.aim refl
  where
    go : (aim : Aim) → u.aim ≡ aim → cond (nat_eq u.owner s) (kept_for u.aim (map_after a w)) [] ≡ cond (nat_eq u.owner s) (kept_for u.aim w) []
    go (Puts k r) e =
        let is : Some u ≡ Some (record { owner = u.owner; aim = Puts k r }) = ap (λ (x : Aim). Some (record { owner = u.owner; aim = x })) e in
        let p = pends u.owner k r is in
        let beside : IsFree (with_kept f u.owner (next_name w k)) t (asked a w) = subst (λ (x : Aim). IsFree (λ i. cond (nat_eq u.owner i) (kept_for x w) [] ++ (f i).locks) t (asked a w)) e free in
        let next : next_name (map_after a w) k ≡ next_name w k = (kept_locks_stay.access f w u.owner t k a ls p.1 p.0 beside same).1 in
        ap (λ (x : Aim). cond (nat_eq u.owner s) (kept_for x (map_after a w)) []) e
        ∙ (ap (λ (n : Name). cond (nat_eq u.owner s) (record { name = n; mode = Exclusive } ∷ []) []) next
        ∙ sym (ap (λ (x : Aim). cond (nat_eq u.owner s) (kept_for x w) []) e))
    go (Drops k) e = ap (λ (x : Aim). cond (nat_eq u.owner s) (kept_for x (map_after a w)) []) e ∙ sym (ap (λ (x : Aim). cond (nat_eq u.owner s) (kept_for x w) []) e)
    go TakesBack e = ap (λ (x : Aim). cond (nat_eq u.owner s) (kept_for x (map_after a w)) []) e ∙ sym (ap (λ (x : Aim). cond (nat_eq u.owner s) (kept_for x w) []) e)
    go TookBack e = ap (λ (x : Aim). cond (nat_eq u.owner s) (kept_for x (map_after a w)) []) e ∙ sym (ap (λ (x : Aim). cond (nat_eq u.owner s) (kept_for x w) []) e)

abbrev the_empty : List Lock
the_empty = []

both_empty : (b : Bool) → cond b [] [] ≡ the_empty
both_empty true = refl
both_empty false = refl

-- one that has no Insert that goes on keeps none
none-for : (o : Option Under) (w : IndexMap) (t : ℕ) → ((u : ℕ) (k : Key) (r : ℕ) → o ≡ Some (record { owner = u; aim = Puts k r }) → t ≢ u) → kept_lock o w t ≡ []
none-for None w t other = refl
none-for (Some u) w t other = go u.aim refl
  where
    aimed : (aim : Aim) → u.aim ≡ aim → cond (nat_eq u.owner t) (kept_for aim w) [] ≡ the_empty → cond (nat_eq u.owner t) (kept_for u.aim w) [] ≡ the_empty
    aimed aim e h = ap (λ (x : Aim). cond (nat_eq u.owner t) (kept_for x w) []) e ∙ h

    go : (aim : Aim) → u.aim ≡ aim → cond (nat_eq u.owner t) (kept_for u.aim w) [] ≡ the_empty
    go (Puts k r) e = none-kept u w t (other u.owner k r (ap (λ (x : Aim). Some (record { owner = u.owner; aim = x })) e))
    go (Drops k) e = aimed (Drops k) e (both_empty (nat_eq u.owner t))
    go TakesBack e = aimed TakesBack e (both_empty (nat_eq u.owner t))
    go TookBack e = aimed TookBack e (both_empty (nat_eq u.owner t))

kept_if-same : (d : Duration) (l : Lock) (ls ks : List Lock) → SameLocks ls ks → SameLocks (kept_if d l ls) (kept_if d l ks)
kept_if-same Instant l ls ks h = h
kept_if-same ToFinish l ls ks h = h
kept_if-same ToCommit l ls ks h = same_more l ls ks h

kept-same : (qs : List Request) (ls ks : List Lock) → SameLocks ls ks → SameLocks (kept qs ls) (kept qs ks)
kept-same [] ls ks h = h
kept-same (q ∷ qs) ls ks h = kept_if-same q.duration (record { name = q.name; mode = q.mode }) (kept qs ls) (kept qs ks) (kept-same qs ls ks h)

module _ (v : View) (old new : Table) (h : MatchesWithKept v old) (t : ℕ) (a : Access) (pends : (u : ℕ) (k : Key) (r : ℕ) → v.under ≡ Some (record { owner = u; aim = Puts k r }) → (t ≢ u) × IsPending v.txns v.walk u k)
    (d : Decides old t (asked a v.walk) Granted new) where
  own-all : SameLocks (own_locks v t) (locks_of old t)
  own-all = subst (λ (ks : List Lock). SameLocks (ks ++ own_locks v t) (locks_of old t)) (none-for v.under v.walk t (λ u k r e. (pends u k r e).0)) (h.held t)

  free-in : IsFree (locks_in v) t (asked a v.walk)
  free-in = free_by (locks_in v) (locks_of old) h.held t (asked a v.walk) d.0

  own-lasts : SameLocks (lasting_of new t) (kept (asked a v.walk) (own_locks v t))
  own-lasts = subst (λ (ls : List Lock). SameLocks (lasting_of new t) (kept (asked a v.walk) ls)) (sym (h.lasting t)) d.1.lasting

  -- all that t holds lasts
  all-last : SameLocks (lasting_of new t) (locks_of new t)
  all-last =
      same_then (lasting_of new t) (kept (asked a v.walk) (own_locks v t)) (locks_of new t) own-lasts
      (same_then (kept (asked a v.walk) (own_locks v t)) (kept (asked a v.walk) (locks_of old t)) (locks_of new t) (kept-same (asked a v.walk) (own_locks v t) (locks_of old t) own-all)
      (same_turned (locks_of new t) (kept (asked a v.walk) (locks_of old t)) (subst (λ (ls : List Lock). SameLocks (locks_of new t) ls) (asked-kept a v.walk (locks_of old t)) d.1.own)))

  stays : (s : ℕ) → kept_lock v.under (map_after a v.walk) s ≡ kept_lock v.under v.walk s
  stays = kept-stays v.under v.txns v.walk t a (lasting_of new t) pends free-in own-lasts

  abbrev done : View
  done = did v t a (lasting_of new t)

  done-held : (s : ℕ) → SameLocks (locks_in done s) (locks_of new s)
  done-held s = subst (λ (ks : List Lock). SameLocks (ks ++ own_locks done s) (locks_of new s)) (sym (stays s)) (elim (cases_number s t) [
    | inl e ↦ subst (λ u. SameLocks (kept_lock v.under v.walk u ++ own_locks done u) (locks_of new u)) (sym e)
        (subst (λ (ls : List Lock). SameLocks ls (locks_of new t))
        (sym (ap (λ (ks : List Lock). ks ++ own_locks done t) (none-for v.under v.walk t (λ u k r e. (pends u k r e).0)) ∙ own-same v.txns t (did_txn (v.txns t) a v.walk (lasting_of new t))))
        all-last)
    | inr ne ↦ subst (λ (ls : List Lock). SameLocks (kept_lock v.under v.walk s ++ ls) (locks_of new s)) (sym (own-other v.txns t (did_txn (v.txns t) a v.walk (lasting_of new t)) s ne))
        (others-held old new t s (locks_in v s) d.1.others ne (h.held s))
  ])

  done-matches : MatchesWithKept done new
  done-matches = record { lasting = lasting-set v old new t (did_txn (v.txns t) a v.walk (lasting_of new t)) h refl d.1.others; held = done-held }

marked-matches : (v : View) (old : Table) (t : ℕ) (m : Mark) → MatchesWithKept v old → MatchesWithKept (marked v t m) old
marked-matches v old t m h = record {
  lasting = lasting-set v old old t (record (v.txns t) { mark = m }) h (h.lasting t) (λ u ne. refl);
  held = λ s. subst (λ (ls : List Lock). SameLocks (kept_lock v.under v.walk s ++ ls) (locks_of old s)) (sym (own s)) (h.held s);
}
  where
    own : (s : ℕ) → own_locks (marked v t m) s ≡ own_locks v s
    own s = elim (cases_number s t) [
      | inl e ↦ subst (λ u. own_locks (marked v t m) u ≡ own_locks v u) (sym e) (own-same v.txns t (record (v.txns t) { mark = m }))
      | inr ne ↦ own-other v.txns t (record (v.txns t) { mark = m }) s ne
    ]

decided : (v : View) (old new : Table) → MatchesWithKept v old → (t : ℕ) (a : Access) (verdict : Verdict) → (v.txns t).mark ≡ Going
    → ((u : ℕ) (k : Key) (r : ℕ) → v.under ≡ Some (record { owner = u; aim = Puts k r }) → (t ≢ u) × IsPending v.txns v.walk u k)
    → Decides old t (asked a v.walk) verdict new → GoesWithKept v t a verdict new
decided v old new h t a Granted going pends d = (
  does t a (lasting_of new t) refl going (free-in v old new h t a pends d) (own-lasts v old new h t a pends d) refl refl,
  done-matches v old new h t a pends d,
)
decided v old new h t a (Wait holder) going pends d = (
  waits t a holder refl going (record {
    conflict = conflict_by (locks_in v) (locks_of old) h.held t (asked a v.walk) holder d.0.conflict;
    smallest = λ s p. d.0.smallest s (conflict_by (locks_of old) (locks_in v) (λ u. same_turned (locks_in v u) (locks_of old u) (h.held u)) t (asked a v.walk) s p);
    older = d.0.older;
  }) refl refl,
  subst (λ (table : Table). MatchesWithKept v table) (sym d.1) h,
)
decided v old new h t a DieVerdict going pends d = (
  dies t a refl going (record {
    holder = d.0.holder;
    conflict = conflict_by (locks_in v) (locks_of old) h.held t (asked a v.walk) d.0.holder d.0.conflict;
    older = d.0.older;
  }) refl refl,
  subst (λ (table : Table). MatchesWithKept (marked v t MustRollBack) table) (sym d.1) (marked-matches v old t MustRollBack h),
)

pub changes-serve : ChangesServe
changes-serve = record {
  with_none = with-none;
  as_before = as-before;
  begins = begins;
  decided = decided;
  ends = ends;
}
