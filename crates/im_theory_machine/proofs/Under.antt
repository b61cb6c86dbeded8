-- The structure change under way, between two steps.
use Rattle.std.proofs.Common.{◌≡◌, ◌≢◌, ℕ, nat_eq, Bool, true, false, cond, is_some, List, ◌∷◌, ◌++◌, Option, Some, None, refl, ap, sym, subst, ◌∙◌, inl, inr, eq-eqb, ne_eqb}
use Rattle.std.specs.Prelude.{◌==◌}
use Rattle.im_base_types.specs.Keys.{Key}
use Rattle.im_base_types.specs.Maps.{IndexMap}
use Rattle.im_base_types.specs.Answers.{Access, Insert, Delete, Step, Begin, Do, Commit, Rollback, Continue, RollTo, FlushPage, Force, Checkpoint, Switch, Reply, Deleted, Going, Committing, map_after}
use Rattle.im_base_types.specs.Changes.{Change, key_of, undone}
use Rattle.im_theory_machine.specs.Locks.{Name, At, Lock, Holds, SameLocks, kept, IsFree}
use Rattle.im_theory_machine.specs.declared.lock_kind.Mode.{Mode}
use Rattle.im_theory_machine.specs.declared.lock_kind.Mode.TheVariants.{Exclusive}
use Rattle.im_theory_machine.specs.Rows.{next_name, asked}
use Rattle.im_theory_machine.specs.View.{Txn, Aim, Puts, Drops, TakesBack, TookBack, Under, owner_of, owns_in, pending_for, pending_of, of_others, kept_lock, set_txn, did_txn, is_among, idle_all}
use Rattle.im_theory_machine.specs.Kept.{IsAlone, IsPending}
use Rattle.im_theory_machine.proofs.Bools.{cases_number, cases_test}
use Rattle.im_theory_machine.proofs.Invariant.{Chain, by_txn, set_txn-other}
use Rattle.im_theory_machine.proofs.Pending.{kept_locks_stay, undo_stays}
use Rattle.im_theory_machine.proofs.Queue.{by_force_txn, idle_others}

-- a Delete that goes on is told from its first reply on
abbrev pub ahead_for : Aim → ℕ → (ℕ → List (Access × Reply)) → ℕ → List (Access × Reply)
ahead_for (Puts k r) o told s = told s
ahead_for (Drops k) o told s = cond (o == s) ((Delete k, Deleted) ∷ told s) (told s)
ahead_for TakesBack o told s = told s
ahead_for TookBack o told s = told s

abbrev pub ahead : Option Under → (ℕ → List (Access × Reply)) → ℕ → List (Access × Reply)
ahead None told s = told s
ahead (Some u) told s = ahead_for u.aim u.owner told s

-- what its owner is meanwhile
abbrev pub IsFor : Aim → ℕ → (ℕ → Txn) → IndexMap → Type 0
IsFor (Puts k r) o f w = ((f o).mark ≡ Going) × IsPending f w o k
IsFor (Drops k) o f w = (f o).mark ≡ Going
IsFor TakesBack o f w = Unit {0}
IsFor TookBack o f w = Unit {0}

abbrev pub IsUnder : Option Under → (ℕ → Txn) → IndexMap → Type 0
IsUnder None f w = Unit {0}
IsUnder (Some u) f w = IsFor u.aim u.owner f w

-- ---- whose it is

not_owner_of : (o t : ℕ) (a : Access) → cond {A = Option Access} (nat_eq o t) (Some a) None ≡ None → nat_eq o t ≡ false
not_owner_of o t a none = elim (cases_test (nat_eq o t)) [
  | inl same ↦ absurd (let never : Some a ≡ None = sym (ap (λ (b : Bool). cond {A = Option Access} b (Some a) None) same) ∙ none in cc never)
  | inr differ ↦ differ
]

other_of : (o t : ℕ) → nat_eq o t ≡ false → o ≢ t
other_of o t differ e = let never : true ≡ false = sym (eq-eqb o t e) ∙ differ in cc never

pub none_either : (b : Bool) → cond {A = Option Access} b None None ≡ None
none_either true = refl
none_either false = refl

-- one that is not going has nothing that goes on
idle_for : (aim : Aim) (o t : ℕ) (f : ℕ → Txn) (w : IndexMap) → IsFor aim o f w → ((f t).mark ≡ Going → ⊥) → cond (nat_eq o t) (pending_for aim) None ≡ None
idle_for (Puts k r) o t f w is not = elim (cases_number o t) [ inl e ↦ absurd (not (ap (λ (s : ℕ). (f s).mark) (sym e) ∙ is.0)) | inr ne ↦ rw (ne_eqb o t ne) ]
idle_for (Drops k) o t f w is not = elim (cases_number o t) [ inl e ↦ absurd (not (ap (λ (s : ℕ). (f s).mark) (sym e) ∙ is)) | inr ne ↦ rw (ne_eqb o t ne) ]
idle_for TakesBack o t f w is not = none_either (nat_eq o t)
idle_for TookBack o t f w is not = none_either (nat_eq o t)

pub not_going : (under : Option Under) (t : ℕ) (f : ℕ → Txn) (w : IndexMap) → IsUnder under f w → ((f t).mark ≡ Going → ⊥) → pending_of under t ≡ None
not_going None t f w is not = refl
not_going (Some u) t f w is not = idle_for u.aim u.owner t f w is not

-- whose structure change is not under way has no access that goes on
pub unowned_clear : (under : Option Under) (t : ℕ) → owner_of under ≢ Some t → pending_of under t ≡ None
unowned_clear None t free = refl
unowned_clear (Some u) t free = elim (cases_number u.owner t) [ inl e ↦ absurd (free (ap (λ (n : ℕ). Some n) e)) | inr ne ↦ rw (ne_eqb u.owner t ne) ]

-- the structure change of another stays
pub others_pending : (under : Option Under) (t : ℕ) → pending_of under t ≡ None → (s : ℕ) → pending_of (of_others t under) s ≡ pending_of under s
others_pending None t none s = refl
others_pending (Some u) t none s = elim (cases_test (nat_eq u.owner t)) [
  | inl same ↦
      let nothing : pending_for u.aim ≡ None = ap (λ (b : Bool). cond b (pending_for u.aim) None) (sym same) ∙ none in
      ap (λ (b : Bool). pending_of (cond b None (Some u)) s) same ∙ sym (ap (λ (o : Option Access). cond (nat_eq u.owner s) o None) nothing ∙ none_either (nat_eq u.owner s))
  | inr differ ↦ ap (λ (b : Bool). pending_of (cond b None (Some u)) s) differ
]

pub none_by : (o : Option Access) → is_some o ≡ false → o ≡ None
none_by None e = refl
none_by (Some a) e = absurd cc

-- no step's transaction has one, where no structure change is under way
pub none_owned : (under : Option Under) → under ≡ None → (step : Step) → owns_in under step ≡ false
none_owned under none step = ap (λ (u : Option Under). owns_in u step) none ∙ by step
  where
    by : (x : Step) → owns_in None x ≡ false
    by Begin = refl
    by (Do t a) = refl
    by (Commit t) = refl
    by (Rollback t) = refl
    by (Continue t) = refl
    by (RollTo t n) = refl
    by (FlushPage p) = refl
    by Force = refl
    by Checkpoint = refl
    by Switch = refl

-- ---- what is told

push_for : (aim : Aim) (o t : ℕ) (told : ℕ → List (Access × Reply)) (x : Access × Reply) → cond (nat_eq o t) (pending_for aim) None ≡ None → (s : ℕ)
    → cond (nat_eq s t) (x ∷ ahead_for aim o told s) (ahead_for aim o told s) ≡ ahead_for aim o (λ u. cond (nat_eq u t) (x ∷ told u) (told u)) s
push_for (Puts k r) o t told x none s = refl
push_for (Drops k) o t told x none s = elim (cases_number s t) [
  | inl e ↦ let differ : nat_eq o s ≡ false = ap (nat_eq o) e ∙ not_owner_of o t (Delete k) none in rw (eq-eqb s t e, differ)
  | inr ne ↦ rw (ne_eqb s t ne)
]
push_for TakesBack o t told x none s = refl
push_for TookBack o t told x none s = refl

-- an access of another joins what is told
pub ahead_push : (under : Option Under) (t : ℕ) (told : ℕ → List (Access × Reply)) (x : Access × Reply) → pending_of under t ≡ None → (s : ℕ)
    → cond (nat_eq s t) (x ∷ ahead under told s) (ahead under told s) ≡ ahead under (λ u. cond (nat_eq u t) (x ∷ told u) (told u)) s
ahead_push None t told x none s = refl
ahead_push (Some u) t told x none s = push_for u.aim u.owner t told x none s

by_for : (aim : Aim) (o : ℕ) (a b : ℕ → List (Access × Reply)) (s : ℕ) → a s ≡ b s → ahead_for aim o a s ≡ ahead_for aim o b s
by_for (Puts k r) o a b s e = e
by_for (Drops k) o a b s e = ap (λ (fs : List (Access × Reply)). cond (o == s) ((Delete k, Deleted) ∷ fs) fs) e
by_for TakesBack o a b s e = e
by_for TookBack o a b s e = e

-- what is told of one rests on what it finished
pub ahead_by : (under : Option Under) (a b : ℕ → List (Access × Reply)) (s : ℕ) → a s ≡ b s → ahead under a s ≡ ahead under b s
ahead_by None a b s e = e
ahead_by (Some u) a b s e = by_for u.aim u.owner a b s e

same_for : (aim : Aim) (o t : ℕ) (told : ℕ → List (Access × Reply)) → cond (nat_eq o t) (pending_for aim) None ≡ None → ahead_for aim o told t ≡ told t
same_for (Puts k r) o t told none = refl
same_for (Drops k) o t told none = rw (not_owner_of o t (Delete k) none)
same_for TakesBack o t told none = refl
same_for TookBack o t told none = refl

-- of one for whom nothing goes on, what is told is what it finished
pub ahead_same : (under : Option Under) (t : ℕ) (told : ℕ → List (Access × Reply)) → pending_of under t ≡ None → ahead under told t ≡ told t
ahead_same None t told none = refl
ahead_same (Some u) t told none = same_for u.aim u.owner t told none

others_for : (aim : Aim) (o t : ℕ) (told : ℕ → List (Access × Reply)) → cond (nat_eq o t) (pending_for aim) None ≡ None → (s : ℕ)
    → ahead (cond (nat_eq o t) None (Some (record { owner = o; aim = aim }))) told s ≡ ahead_for aim o told s
others_for (Puts k r) o t told none s = elim (nat_eq o t) as (λ (b : Bool). ahead (cond b None (Some (record { owner = o; aim = Puts k r }))) told s ≡ told s) [ true ↦ refl | false ↦ refl ]
others_for (Drops k) o t told none s = rw (not_owner_of o t (Delete k) none)
others_for TakesBack o t told none s = elim (nat_eq o t) as (λ (b : Bool). ahead (cond b None (Some (record { owner = o; aim = TakesBack }))) told s ≡ told s) [ true ↦ refl | false ↦ refl ]
others_for TookBack o t told none s = elim (nat_eq o t) as (λ (b : Bool). ahead (cond b None (Some (record { owner = o; aim = TookBack }))) told s ≡ told s) [ true ↦ refl | false ↦ refl ]

pub ahead_others : (under : Option Under) (t : ℕ) (told : ℕ → List (Access × Reply)) → pending_of under t ≡ None → (s : ℕ) → ahead (of_others t under) told s ≡ ahead under told s
ahead_others None t told none s = refl
ahead_others (Some u) t told none s = others_for u.aim u.owner t told none s

-- ---- each step keeps it

pub under_others : (under : Option Under) (t : ℕ) (f : ℕ → Txn) (w : IndexMap) → IsUnder under f w → IsUnder (of_others t under) f w
under_others None t f w is = tt
under_others (Some u) t f w is = elim (nat_eq u.owner t) as (λ (b : Bool). IsUnder (cond b None (Some u)) f w) [ true ↦ tt | false ↦ is ]

module _ (f : ℕ → Txn) (t : ℕ) (x : Txn) (fewer : (n : Name) (md : Mode) → Holds x.locks n md → Holds ((f t).locks) n md) where
  alone_set : (o : ℕ) (n : Name) → IsAlone f o n → IsAlone (set_txn f t x) o n
  alone_set o n alone = by_txn (λ s y. s ≢ o → (md : Mode) → Holds y.locks n md → ⊥) f t x (λ ns md h. alone t ns md (fewer n md h)) (λ s nst ns md h. alone s ns md h)

  pending_set : (o : ℕ) (w : IndexMap) (k : Key) → o ≢ t → IsPending f w o k → IsPending (set_txn f t x) w o k
  pending_set o w k ne p = record {
    absent = p.absent;
    owns = subst (λ (y : Txn). Holds y.locks (At k) Exclusive) (sym (set_txn-other f t x o ne)) p.owns;
    next = alone_set o (next_name w k) p.next;
    key = alone_set o (At k) p.key;
  }

  for_set : (aim : Aim) (o : ℕ) (w : IndexMap) → cond (nat_eq o t) (pending_for aim) None ≡ None → IsFor aim o f w → IsFor aim o (set_txn f t x) w
  for_set (Puts k r) o w none is =
      let ne = other_of o t (not_owner_of o t (Insert k r) none) in
      (ap (λ (y : Txn). y.mark) (set_txn-other f t x o ne) ∙ is.0, pending_set o w k ne is.1)
  for_set (Drops k) o w none is = ap (λ (y : Txn). y.mark) (set_txn-other f t x o (other_of o t (not_owner_of o t (Delete k) none))) ∙ is
  for_set TakesBack o w none is = tt
  for_set TookBack o w none is = tt

  -- another is set, who holds no more than before
  pub under_set : (under : Option Under) (w : IndexMap) → pending_of under t ≡ None → IsUnder under f w → IsUnder under (set_txn f t x) w
  under_set None w none is = tt
  under_set (Some u) w none is = for_set u.aim u.owner w none is

-- another makes an access that was granted
did_for : (aim : Aim) (o : ℕ) (f : ℕ → Txn) (w : IndexMap) (t : ℕ) (a : Access) (ls : List Lock) → cond (nat_eq o t) (pending_for aim) None ≡ None → IsFor aim o f w
    → IsFree (λ s. kept_lock (Some (record { owner = o; aim = aim })) w s ++ (f s).locks) t (asked a w) → SameLocks ls (kept (asked a w) ((f t).locks)) → IsFor aim o (set_txn f t (did_txn (f t) a w ls)) (map_after a w)
did_for (Puts k r) o f w t a ls none is free same =
    let ne = other_of o t (not_owner_of o t (Insert k r) none) in
    (ap (λ (y : Txn). y.mark) (set_txn-other f t (did_txn (f t) a w ls) o ne) ∙ is.0, (kept_locks_stay.access f w o t k a ls is.1 (λ e. ne (sym e)) free same).0)
did_for (Drops k) o f w t a ls none is free same = ap (λ (y : Txn). y.mark) (set_txn-other f t (did_txn (f t) a w ls) o (other_of o t (not_owner_of o t (Delete k) none))) ∙ is
did_for TakesBack o f w t a ls none is free same = tt
did_for TookBack o f w t a ls none is free same = tt

pub under_did : (under : Option Under) (f : ℕ → Txn) (w : IndexMap) (t : ℕ) (a : Access) (ls : List Lock) → pending_of under t ≡ None → IsUnder under f w
    → IsFree (λ s. kept_lock under w s ++ (f s).locks) t (asked a w) → SameLocks ls (kept (asked a w) ((f t).locks)) → IsUnder under (set_txn f t (did_txn (f t) a w ls)) (map_after a w)
under_did None f w t a ls none is free same = tt
under_did (Some u) f w t a ls none is free same = did_for u.aim u.owner f w t a ls none is free same

-- another takes its newest change back
undone_for : (aim : Aim) (o : ℕ) (f : ℕ → Txn) (w base : IndexMap) (t : ℕ) (c : Change) (cs : List Change) → cond (nat_eq o t) (pending_for aim) None ≡ None → Chain ((f t).locks) w base (c ∷ cs) → IsFor aim o f w → IsFor aim o f (undone w c)
undone_for (Puts k r) o f w base t c cs none chain is =
    let ne = other_of o t (not_owner_of o t (Insert k r) none) in
    (is.0, (undo_stays f w o t k c is.1 (λ e. ne (sym e)) (chain.0 (key_of c) (inl refl))).0)
undone_for (Drops k) o f w base t c cs none chain is = is
undone_for TakesBack o f w base t c cs none chain is = tt
undone_for TookBack o f w base t c cs none chain is = tt

pub under_undone : (under : Option Under) (f : ℕ → Txn) (w base : IndexMap) (t : ℕ) (c : Change) (cs : List Change) → pending_of under t ≡ None → Chain ((f t).locks) w base (c ∷ cs) → IsUnder under f w → IsUnder under f (undone w c)
under_undone None f w base t c cs none chain is = tt
under_undone (Some u) f w base t c cs none chain is = undone_for u.aim u.owner f w base t c cs none chain is

-- a force finishes others
module _ (f : ℕ → Txn) (queue : List ℕ) (waits : (s : ℕ) → is_among s queue ≡ true → (f s).mark ≡ Committing) where
  stays_forced : (o : ℕ) → (f o).mark ≡ Going → idle_all f queue o ≡ f o
  stays_forced o going = elim (cases_test (is_among o queue)) [
    | inl some ↦ absurd (let never : Going ≡ Committing = sym going ∙ waits o some in cc never)
    | inr none ↦ idle_others f queue o none
  ]

  alone_forced : (o : ℕ) (n : Name) → IsAlone f o n → IsAlone (idle_all f queue) o n
  alone_forced o n alone = by_force_txn (λ s y. s ≢ o → (md : Mode) → Holds y.locks n md → ⊥) f queue (λ s some ns md h. h) (λ s none ns md h. alone s ns md h)

  forced_for : (aim : Aim) (o : ℕ) (w : IndexMap) → IsFor aim o f w → IsFor aim o (idle_all f queue) w
  forced_for (Puts k r) o w is =
      let stays = stays_forced o is.0 in (
        ap (λ (y : Txn). y.mark) stays ∙ is.0,
        record {
          absent = is.1.absent;
          owns = subst (λ (y : Txn). Holds y.locks (At k) Exclusive) (sym stays) is.1.owns;
          next = alone_forced o (next_name w k) is.1.next;
          key = alone_forced o (At k) is.1.key;
        },
      )
  forced_for (Drops k) o w is = ap (λ (y : Txn). y.mark) (stays_forced o is) ∙ is
  forced_for TakesBack o w is = tt
  forced_for TookBack o w is = tt

  pub under_forced : (under : Option Under) (w : IndexMap) → IsUnder under f w → IsUnder under (idle_all f queue) w
  under_forced None w is = tt
  under_forced (Some u) w is = forced_for u.aim u.owner w is
