-- Who holds which locks, beside an Insert that goes on and keeps one.
use Rattle.std.specs.FinMap.{get}
use Rattle.std.proofs.Common.{is_some, ◌≡◌, ◌≢◌, inl, inr, ℕ, nat_eq, Bool, true, false, cond, List, [], ◌∷◌, ◌++◌, Option, None, Some, refl, sym, ◌∙◌, ap, subst, eq-eqb}
use Rattle.im_base_types.specs.Keys.{Key}
use Rattle.im_base_types.specs.Maps.{IndexMap}
use Rattle.im_base_types.specs.Changes.{Change, Touches, key_of, undone}
use Rattle.im_base_types.specs.Answers.{Access, Insert, Going, Committing}
use Rattle.im_theory_machine.specs.Locks.{Name, At, Lock, Request, Asks, Holds, SameLocks, IsFree, ConflictsWith}
use Rattle.im_theory_machine.specs.declared.lock_kind.Mode.{Mode}
use Rattle.im_theory_machine.specs.declared.lock_kind.Mode.TheVariants.{Exclusive}
use Rattle.im_theory_machine.specs.declared.lock_kind.Duration.TheVariants.{Instant, ToCommit}
use Rattle.im_theory_machine.specs.declared.verdict.Verdict.TheVariants.{Wait, Die as MustDie}
use Rattle.im_theory_machine.specs.Rows.{next_name, shared, asked}
use Rattle.im_theory_machine.specs.Table.{Table, Held, all_of, held_of, locks_of, lasting_of, OthersKeep, Decides, IsReleased, AreReleased}
use Rattle.im_theory_machine.specs.View.{View, Under, Aim, Puts, Drops, TakesBack, TookBack, Txn, idle, set_txn, idle_all, is_among, locks_in, kept_for, kept_lock, pending_for, pending_of, of_others}
use Rattle.im_theory_machine.specs.Kept.{IsPending}
use Rattle.im_theory_machine.specs.Machine.{IsReached}
use Rattle.im_theory_machine.specs.Changing.{MatchesWithKept, asked_begun}
use Rattle.im_theory_machine.proofs.Cited.{cases_test, guard, by_txn, Chain-guards, nothing_goes_on, pending_granted, queue_marks, undo_stays, by_force_txn, nothing_told, tells, run_upheld, stands_of, IsFor, IsUnder}

pub same_itself : (ls : List Lock) → SameLocks ls ls
same_itself ls n m = (λ h. h, λ h. h)

-- ---- what is kept

none_aimed : (aim : Aim) (w : IndexMap) → pending_for aim ≡ None → kept_for aim w ≡ []
none_aimed (Puts k r) w e = let never : Some (Insert k r) ≡ None = e in absurd (cc never)
none_aimed (Drops k) w e = refl
none_aimed TakesBack w e = refl
none_aimed TookBack w e = refl

none_either : (b : Bool) (ls : List Lock) → ls ≡ [] → cond b ls [] ≡ []
none_either true ls e = e
none_either false ls e = refl

-- who has no access that goes on keeps nothing
pub kept_none : (under : Option Under) (w : IndexMap) (t : ℕ) → pending_of under t ≡ None → kept_lock under w t ≡ []
kept_none None w t none = refl
kept_none (Some u) w t none = elim (cases_test (nat_eq u.owner t)) [
  | inl same ↦ none_either (nat_eq u.owner t) (kept_for u.aim w) (none_aimed u.aim w (ap (λ (b : Bool). cond b (pending_for u.aim) None) (sym same) ∙ none))
  | inr differ ↦ ap (λ (b : Bool). cond b (kept_for u.aim w) []) differ
]

module _ (f : ℕ → Txn) (w : IndexMap) (t : ℕ) (c : Change) (guards : Holds ((f t).locks) (guard w (key_of c)) Exclusive) where
  undone_aim : (aim : Aim) (o : ℕ) → IsFor aim o f w → t ≢ o → kept_for aim (undone w c) ≡ kept_for aim w
  undone_aim (Puts k r) o is ne = ap (λ (n : Name). record { name = n; mode = Exclusive } ∷ []) (undo_stays f w o t k c is.1 ne guards).1
  undone_aim (Drops k) o is ne = refl
  undone_aim TakesBack o is ne = refl
  undone_aim TookBack o is ne = refl

  undone_for : (under : Option Under) → pending_of under t ≡ None → IsUnder under f w → (s : ℕ) → kept_lock (of_others t under) (undone w c) s ≡ kept_lock under w s
  undone_for None none is s = refl
  undone_for (Some u) none is s = elim (cases_test (nat_eq u.owner t)) [
    | inl same ↦
        ap (λ (b : Bool). kept_lock (cond b None (Some u)) (undone w c) s) same
        ∙ sym (none_either (nat_eq u.owner s) (kept_for u.aim w) (none_aimed u.aim w (ap (λ (b : Bool). cond b (pending_for u.aim) None) (sym same) ∙ none)))
    | inr differ ↦
        ap (λ (b : Bool). kept_lock (cond b None (Some u)) (undone w c) s) differ
        ∙ ap (λ (ls : List Lock). cond (nat_eq u.owner s) ls []) (undone_aim u.aim u.owner is (λ e. let never : true ≡ false = sym (eq-eqb u.owner t (sym e)) ∙ differ in cc never))
  ]

-- Who takes a change back leaves what another keeps: the name that guards its key is its own.
pub kept_undone : (base : IndexMap) (v : View) → IsReached base v → v.failed ≡ false → (t : ℕ) (c : Change) (cs : List Change) → ((v.txns t).mark ≡ Going → ⊥) → (v.txns t).net ≡ c ∷ cs
    → (s : ℕ) → kept_lock (of_others t v.under) (undone v.walk c) s ≡ kept_lock v.under v.walk s
kept_undone base v reached works t c cs still net s =
    let h = stands_of v (tells (pending_of None) nothing_told reached.trace) (run_upheld base reached.first reached.trace v reached.run) works in
    undone_for v.txns v.walk t c (Chain-guards ((v.txns t).locks) v.walk v.committed ((v.txns t).net) (h.fits.chain t) (key_of c) (subst (λ (net : List Change). Touches net (key_of c)) (sym net) (inl refl))) v.under
    (nothing_goes_on base v reached t still) h.change s

-- ---- one transaction is set

-- its locks and what lasts, and what is kept and held
abbrev pub GoWith : (ℕ → Txn) → Option Under → IndexMap → Table → Type 0
GoWith txns under w table = ((s : ℕ) → (txns s).locks ≡ lasting_of table s) × ((s : ℕ) → SameLocks (kept_lock under w s ++ (txns s).locks) (locks_of table s))

module _ (v : View) (old new : Table) (t : ℕ) (x : Txn) (h : MatchesWithKept v old) (others : OthersKeep old t new) (own : x.locks ≡ lasting_of new t) (under : Option Under) (w : IndexMap) (mine : SameLocks (kept_lock under w t ++ x.locks) (locks_of new t))
    (theirs : (s : ℕ) → s ≢ t → kept_lock under w s ≡ kept_lock v.under v.walk s) where
  pub goes_with : GoWith (set_txn v.txns t x) under w new
  goes_with = (
    by_txn (λ s y. y.locks ≡ lasting_of new s) v.txns t x own (λ s differ. h.lasting s ∙ sym (ap (λ (k : Held). k.lasting) (others s differ))),
    by_txn (λ s y. SameLocks (kept_lock under w s ++ y.locks) (locks_of new s)) v.txns t x mine
        (λ s differ. subst (λ (ks : List Lock). SameLocks (ks ++ (v.txns s).locks) (locks_of new s)) (sym (theirs s differ)) (subst (λ (k : Held). SameLocks (locks_in v s) (all_of k)) (sym (others s differ)) (h.held s))),
  )

-- it has the locks that it had
pub same_locks : (v : View) (table : Table) (t : ℕ) (x : Txn) → MatchesWithKept v table → x.locks ≡ (v.txns t).locks → (under : Option Under) (w : IndexMap) → ((s : ℕ) → kept_lock under w s ≡ kept_lock v.under v.walk s) → GoWith (set_txn v.txns t x) under w table
same_locks v table t x h same under w kept =
    goes_with v table table t x h (λ s differ. refl) (same ∙ h.lasting t) under w
    (subst (λ (ls : List Lock). SameLocks (kept_lock under w t ++ ls) (locks_of table t)) (sym same) (subst (λ (ks : List Lock). SameLocks (ks ++ (v.txns t).locks) (locks_of table t)) (sym (kept t)) (h.held t)))
    (λ s differ. kept s)

nothing_lasts : (k : Held) → all_of k ≡ [] → k.lasting ≡ []
nothing_lasts k e = by k.lasting e
  where
    by : (ls : List Lock) → ls ++ k.falling ≡ [] → ls ≡ []
    by [] e = refl
    by (l ∷ ls) e = let never : l ∷ (ls ++ k.falling) ≡ [] = e in absurd (cc never)

-- its locks are given back, and it keeps none
pub released_locks : (v : View) (old new : Table) (t : ℕ) → MatchesWithKept v old → IsReleased old t new → (under : Option Under) (w : IndexMap) → kept_lock under w t ≡ [] → ((s : ℕ) → s ≢ t → kept_lock under w s ≡ kept_lock v.under v.walk s)
    → GoWith (set_txn v.txns t idle) under w new
released_locks v old new t h r under w none theirs =
    goes_with v old new t idle h r.others (sym (nothing_lasts (held_of new t) r.none)) under w
    (subst (λ (ks : List Lock). SameLocks (ks ++ []) (locks_of new t)) (sym none) (subst (λ (ls : List Lock). SameLocks [] ls) (sym r.none) (same_itself [])))
    theirs

-- a force gave back those of all that waited
pub forced_locks : (base : IndexMap) (v : View) (old new : Table) → IsReached base v → MatchesWithKept v old → AreReleased old (λ s. is_among s v.queue) new → GoWith (idle_all v.txns v.queue) v.under v.walk new
forced_locks base v old new reached h r = (
  by_force_txn (λ s y. y.locks ≡ lasting_of new s) v.txns v.queue (λ s some. sym (nothing_lasts (held_of new s) (r.none s some))) (λ s none. h.lasting s ∙ sym (ap (λ (k : Held). k.lasting) (r.others s none))),
  by_force_txn (λ s y. SameLocks (kept_lock v.under v.walk s ++ y.locks) (locks_of new s)) v.txns v.queue
      (λ s some.
      let none : kept_lock v.under v.walk s ≡ [] = kept_none v.under v.walk s (nothing_goes_on base v reached s (λ going. let never : Going ≡ Committing = sym going ∙ (queue_marks base v reached).waits s some in cc never)) in
      subst (λ (ks : List Lock). SameLocks (ks ++ []) (locks_of new s)) (sym none) (subst (λ (ls : List Lock). SameLocks [] ls) (sym (r.none s some)) (same_itself [])))
      (λ s none. subst (λ (k : Held). SameLocks (locks_in v s) (all_of k)) (sym (r.others s none)) (h.held s)),
)

-- ---- what is asked beside it

-- an Insert of another that goes on has its locks
pub pends_beside : (base : IndexMap) (v : View) → IsReached base v → v.failed ≡ false → (t : ℕ) → pending_of v.under t ≡ None → (u : ℕ) (k : List ℕ) (r : ℕ) → v.under ≡ Some (record { owner = u; aim = Puts k r }) → (t ≢ u) × IsPending v.txns v.walk u k
pends_beside base v reached works t none u k r is = (
  (λ e.
      let mine : pending_of v.under t ≡ Some (Insert k r) = ap (λ (o : Option Under). pending_of o t) is ∙ ap (λ (b : Bool). cond {A = Option Access} b (Some (Insert k r)) None) (eq-eqb u t (sym e)) in
      let never : Some (Insert k r) ≡ None = sym mine ∙ none in
      cc never),
  (pending_granted base v reached works u k r is).0,
)

-- what is free by the table is free for the machine
pub free_by_table : (v : View) (table : Table) (t : ℕ) (row : List Request) → MatchesWithKept v table → IsFree (locks_of table) t row → IsFree (locks_in v) t row
free_by_table v table t row h free s p = free s (record {
  name = p.name;
  mode = p.mode;
  theirs = p.theirs;
  other = p.other;
  ask = p.ask;
  held = (h.held s p.name p.theirs).0 p.held;
  exclusive = p.exclusive;
})

-- An Insert that ends in a later step waits and dies as one that ends at once: what it asks has the same names and modes.
module _ (w : IndexMap) (k : Key) (i : ℕ) (absent : get w k ≡ None) where
  asks_as : (n : Name) (m : Mode) → Asks (asked (Insert k i) w) n m → Asks (asked_begun k w) n m
  asks_as n m = subst
      (λ (o : Option ℕ). Asks (cond (is_some o) (shared (At k) ∷ []) (record { name = next_name w k; mode = Exclusive; duration = Instant } ∷ record { name = At k; mode = Exclusive; duration = ToCommit } ∷ [])) n m → Asks (asked_begun k w) n m)
      (sym absent) (λ p. p)

  as_asked : (n : Name) (m : Mode) → Asks (asked_begun k w) n m → Asks (asked (Insert k i) w) n m
  as_asked n m = subst
      (λ (o : Option ℕ). Asks (asked_begun k w) n m → Asks (cond (is_some o) (shared (At k) ∷ []) (record { name = next_name w k; mode = Exclusive; duration = Instant } ∷ record { name = At k; mode = Exclusive; duration = ToCommit } ∷ [])) n m)
      (sym absent) (λ p. p)

  conflict_from : (f : ℕ → List Lock) (t s : ℕ) → ConflictsWith f t (asked_begun k w) s → ConflictsWith f t (asked (Insert k i) w) s
  conflict_from f t s p = record { name = p.name; mode = p.mode; theirs = p.theirs; other = p.other; ask = as_asked p.name p.mode p.ask; held = p.held; exclusive = p.exclusive }

  conflict_to : (f : ℕ → List Lock) (t s : ℕ) → ConflictsWith f t (asked (Insert k i) w) s → ConflictsWith f t (asked_begun k w) s
  conflict_to f t s p = record { name = p.name; mode = p.mode; theirs = p.theirs; other = p.other; ask = asks_as p.name p.mode p.ask; held = p.held; exclusive = p.exclusive }

  pub begun_waits : (old new : Table) (t holder : ℕ) → Decides old t (asked_begun k w) (Wait holder) new → Decides old t (asked (Insert k i) w) (Wait holder) new
  begun_waits old new t holder d = (record { conflict = conflict_from (locks_of old) t holder d.0.conflict; smallest = λ s p. d.0.smallest s (conflict_to (locks_of old) t s p); older = d.0.older }, d.1)

  pub begun_dies : (old new : Table) (t : ℕ) → Decides old t (asked_begun k w) MustDie new → Decides old t (asked (Insert k i) w) MustDie new
  begun_dies old new t d = (record { holder = d.0.holder; conflict = conflict_from (locks_of old) t d.0.holder d.0.conflict; older = d.0.older }, d.1)
