-- Whose structure change is under way is going, or rolls back, as the change is for.
use Rattle.std.proofs.Common.{◌≡◌, ◌≢◌, ◌⊎◌, inl, inr, ℕ, nat_eq, Bool, true, false, cond, List, [], ◌∷◌, Option, Some, None, refl, sym, ◌∙◌, ap, subst, eq-eqb}
use Rattle.im_base_types.specs.Changes.{Change}
use Rattle.im_base_types.specs.Maps.{IndexMap}
use Rattle.im_base_types.specs.Answers.{Access, Insert, Delete, Step, Reply, Do, Commit, Rollback, RollTo, Mark, Idle, Going, Committing}
use Rattle.im_theory_machine.specs.Locks.{Lock}
use Rattle.im_theory_machine.specs.View.{View, Under, Aim, Puts, Drops, TakesBack, TookBack, Txn, set_txn, owner_of, pending_for, pending_of, of_others, marked, undid_more, is_among, idle_all, MayRollBack}
use Rattle.im_theory_machine.specs.Machine.{Moves, Answers, Goes, MayTakeBack, begins, does, waits, dies, commits, queues, drops, turns, undoes, ends, puts_later, puts, drops_first, drops_leaf, takes_later, takes_first, takes_leaf, takes_last, stays_back, turns_back, gives_back, is_back, leaf_is_back, logs_page, tree_blocks, tree_halts, flushes, forces, checkpoints, switches, lacks, breaks, barred, start, Run, IsReached}
use Rattle.im_theory_machine.proofs.Cited.{cases_number, cases_test, set_txn-same, set_txn-other, next_is_idle, queue_marks, idle_others, clear_do, clear_commit, clear_rollback}
use Rattle.im_theory_steps.specs.Steps.{IsMarkFor, OwnersAreMarked, takes_back}
use Rattle.im_theory_steps.proofs.Promises.{moves_reach}
use Rattle.im_theory_steps.proofs.Showing.{twice_set}

-- what holds
abbrev IsMarked : Option Under → (ℕ → Txn) → Type 0
IsMarked None f = Unit {0}
IsMarked (Some u) f = IsMarkFor u.aim ((f u.owner).mark)

-- a transaction that takes nothing back, and for which no access goes on, has no structure change under way
by_aim : (aim : Aim) (m : Mark) → pending_for aim ≡ None → IsMarkFor aim m → takes_back m ≡ false → ⊥
by_aim (Puts k r) m none is still = let never : Some (Insert k r) ≡ None = none in cc never
by_aim (Drops k) m none is still = let never : Some (Delete k) ≡ None = none in cc never
by_aim TakesBack m none is still = let never : true ≡ false = sym is ∙ still in cc never
by_aim TookBack m none is still = let never : true ≡ false = sym is ∙ still in cc never

other_than : (u : Under) (t : ℕ) (f : ℕ → Txn) → pending_of (Some u) t ≡ None → IsMarked (Some u) f → takes_back ((f t).mark) ≡ false → u.owner ≢ t
other_than u t f none is still e =
    let nothing : pending_for u.aim ≡ None = ap (λ (b : Bool). cond b (pending_for u.aim) None) (sym (eq-eqb u.owner t e)) ∙ none in
    by_aim u.aim ((f u.owner).mark) nothing is (ap (λ (n : ℕ). takes_back ((f n).mark)) e ∙ still)

-- its owner is as it was
owner_as : (u : Under) (f g : ℕ → Txn) → f u.owner ≡ g u.owner → IsMarked (Some u) g → IsMarked (Some u) f
owner_as u f g same is = subst (λ (y : Txn). IsMarkFor u.aim y.mark) (sym same) is

marked_as : (under : Option Under) (f g : ℕ → Txn) → ((s : ℕ) → f s ≡ g s) → IsMarked under g → IsMarked under f
marked_as None f g same is = tt
marked_as (Some u) f g same is = owner_as u f g (same u.owner) is

-- another is set
set_other : (under : Option Under) (t : ℕ) (f : ℕ → Txn) (x : Txn) → pending_of under t ≡ None → takes_back ((f t).mark) ≡ false → IsMarked under f → IsMarked under (set_txn f t x)
set_other None t f x none still is = tt
set_other (Some u) t f x none still is = owner_as u (set_txn f t x) f (set_txn-other f t x u.owner (other_than u t f none is still)) is

-- t's own ends, and with another's t is set
set_of_others : (under : Option Under) (t : ℕ) (f : ℕ → Txn) (x : Txn) → IsMarked under f → IsMarked (of_others t under) (set_txn f t x)
set_of_others None t f x is = tt
set_of_others (Some u) t f x is = elim (cases_number u.owner t) [
  | inl e ↦ subst (λ (b : Bool). IsMarked (cond b None (Some u)) (set_txn f t x)) (sym (eq-eqb u.owner t e)) tt
  | inr ne ↦ by (nat_eq u.owner t) (owner_as u (set_txn f t x) f (set_txn-other f t x u.owner ne) is)
]
  where
    by : (b : Bool) → IsMarked (Some u) (set_txn f t x) → IsMarked (cond b None (Some u)) (set_txn f t x)
    by true h = tt
    by false h = h

-- t begins one
set_own : (t : ℕ) (aim : Aim) (f : ℕ → Txn) (x : Txn) → IsMarkFor aim x.mark → IsMarked (Some (record { owner = t; aim = aim })) (set_txn f t x)
set_own t aim f x is = subst (λ (y : Txn). IsMarkFor aim y.mark) (sym (set_txn-same f t x)) is

may_not_take : (m : Mark) → MayRollBack m → takes_back m ≡ false
may_not_take m (inl e) = ap takes_back e
may_not_take m (inr e) = ap takes_back e

may_take : (m : Mark) (cs : List Change) → MayTakeBack m cs → takes_back m ≡ true
may_take m cs (inl e) = ap takes_back e
may_take m cs (inr r) = ap takes_back r.1

not_idle : (aim : Aim) (m : Mark) → IsMarkFor aim m → m ≡ Idle → ⊥
not_idle (Puts k r) m is idles = let never : Going ≡ Idle = sym is ∙ idles in cc never
not_idle (Drops k) m is idles = let never : Going ≡ Idle = sym is ∙ idles in cc never
not_idle TakesBack m is idles = let never : true ≡ false = sym is ∙ ap takes_back idles in cc never
not_idle TookBack m is idles = let never : true ≡ false = sym is ∙ ap takes_back idles in cc never

not_waiting : (aim : Aim) (m : Mark) → IsMarkFor aim m → m ≡ Committing → ⊥
not_waiting (Puts k r) m is held = let never : Going ≡ Committing = sym is ∙ held in cc never
not_waiting (Drops k) m is held = let never : Going ≡ Committing = sym is ∙ held in cc never
not_waiting TakesBack m is held = let never : true ≡ false = sym is ∙ ap takes_back held in cc never
not_waiting TookBack m is held = let never : true ≡ false = sym is ∙ ap takes_back held in cc never

begun_other : (under : Option Under) (t : ℕ) (f : ℕ → Txn) (x : Txn) → (f t).mark ≡ Idle → IsMarked under f → IsMarked under (set_txn f t x)
begun_other None t f x idles is = tt
begun_other (Some u) t f x idles is = owner_as u (set_txn f t x) f (set_txn-other f t x u.owner (λ e. not_idle u.aim ((f u.owner).mark) is (ap (λ (n : ℕ). (f n).mark) e ∙ idles))) is

forced_others : (under : Option Under) (f : ℕ → Txn) (queue : List ℕ) → ((s : ℕ) → is_among s queue ≡ true → (f s).mark ≡ Committing) → IsMarked under f → IsMarked under (idle_all f queue)
forced_others None f queue listed is = tt
forced_others (Some u) f queue listed is = elim (cases_test (is_among u.owner queue)) [
  | inl some ↦ absurd (not_waiting u.aim ((f u.owner).mark) is (listed u.owner some))
  | inr none ↦ owner_as u (idle_all f queue) f (idle_others f queue u.owner none) is
]

broken_others : (under : Option Under) (f : ℕ → Txn) (ls : ℕ → List Lock) → IsMarked under f → IsMarked under (λ s. record (f s) { locks = ls s })
broken_others None f ls is = tt
broken_others (Some u) f ls is = is

module _ (base : IndexMap) (v : View) (reached : IsReached base v) (is : IsMarked v.under v.txns) where
  stays_at : (w x : View) → w ≡ x → IsMarked x.under x.txns → IsMarked w.under w.txns
  stays_at w x e h = subst (λ (y : View). IsMarked y.under y.txns) (sym e) h

  clear : (t : ℕ) (step : Step) → (step ≡ Commit t) ⊎ ((step ≡ Rollback t) ⊎ ((a : Access) × (step ≡ Do t a))) → barred v step ≡ None → pending_of v.under t ≡ None
  clear t step (inl e) none = clear_commit v t (ap (barred v) (sym e) ∙ none)
  clear t step (inr (inl e)) none = clear_rollback v t (ap (barred v) (sym e) ∙ none)
  clear t step (inr (inr e)) none = clear_do v t e.0 (ap (barred v) (sym e.1) ∙ none)

  clear_roll_to : (t n : ℕ) (step : Step) → step ≡ RollTo t n → barred v step ≡ None → pending_of v.under t ≡ None
  clear_roll_to t n step e none = clear_rollback v t (ap (barred v) (sym e) ∙ none)

  goes_on : (step : Step) (reply : Reply) (w : View) → barred v step ≡ None → Goes v step reply w → IsMarked w.under w.txns
  goes_on step reply w free (begins s low r e) = stays_at w _ e (begun_other v.under v.next v.txns _ (next_is_idle base v reached) is)
  goes_on step reply w free (does t a ls s going f same r e) = stays_at w _ e (set_other v.under t v.txns _ (clear t step (inr (inr (a, s))) free) (ap takes_back going) is)
  goes_on step reply w free (waits t a holder s going x r e) = stays_at w v e is
  goes_on step reply w free (dies t a s going x r e) = stays_at w _ e (set_other v.under t v.txns _ (clear t step (inr (inr (a, s))) free) (ap takes_back going) is)
  goes_on step reply w free (commits t s going x r e) = stays_at w _ e (set_other v.under t v.txns _ (clear t step (inl s) free) (ap takes_back going) is)
  goes_on step reply w free (queues t c cs s going x r e) = stays_at w _ e (set_other v.under t v.txns _ (clear t step (inl s) free) (ap takes_back going) is)
  goes_on step reply w free (drops t s may x r e) = stays_at w _ e (set_other v.under t v.txns _ (clear t step (inr (inl s)) free) (may_not_take _ may) is)
  goes_on step reply w free (turns t c cs s may x r e) = stays_at w _ e (set_other v.under t v.txns _ (clear t step (inr (inl s)) free) (may_not_take _ may) is)
  goes_on step reply w free (undoes t c d cs s rolls x r e) = stays_at w _ e (set_of_others v.under t v.txns _ is)
  goes_on step reply w free (ends t c s rolls x r e) = stays_at w _ e (set_of_others v.under t v.txns _ is)
  goes_on step reply w free (puts_later t k rid ls s going none absent f same r e) = stays_at w _ e (set_own t (Puts k rid) v.txns _ going)
  goes_on step reply w free (puts t k rid s going u r e) = stays_at w _ e tt
  goes_on step reply w free (drops_first t k rid ls s going none there f same r e) = stays_at w _ e (set_own t (Drops k) v.txns _ refl)
  goes_on step reply w free (drops_leaf t k s going u r e) = stays_at w _ e tt
  goes_on step reply w free (takes_later t c cs s may none x r e) = stays_at w _ e (may_take _ cs may)
  goes_on step reply w free (takes_first t c cs s may none x r e) = stays_at w _ e (set_own t TookBack v.txns _ (may_take _ cs may))
  goes_on step reply w free (takes_leaf t c cs s rolls u x r e) = stays_at w _ e tt
  goes_on step reply w free (takes_last t s rolls u x r e) = stays_at w _ e tt
  goes_on step reply w free (stays_back t n s may few r e) = stays_at w _ e (set_other v.under t v.txns _ (clear_roll_to t n step s free) (may_not_take _ may) is)
  goes_on step reply w free (turns_back t n s may more r e) = stays_at w _ e (set_other v.under t v.txns _ (clear_roll_to t n step s free) (may_not_take _ may) is)
  goes_on step reply w free (gives_back t n c cs s back x more r e) = stays_at w _ e (set_of_others v.under t v.txns _ is)
  goes_on step reply w free (is_back t n c cs s back x here r e) = stays_at w _ e
      (marked_as (of_others t v.under) (marked (undid_more v t c cs) t Going).txns (set_txn v.txns t (record (v.txns t) { mark = Going; net = cs })) (twice_set v.txns t (record (v.txns t) { net = cs }) (λ y. record y { mark = Going })) (set_of_others v.under t v.txns _ is))
  goes_on step reply w free (leaf_is_back t n s back u x r e) = stays_at w _ e tt
  goes_on step reply w free (logs_page t u s x o r e) = stays_at w v e is
  goes_on step reply w free (tree_blocks t a u s x o r e) = stays_at w v e is
  goes_on step reply w free (tree_halts t u s x o r e) = stays_at w v e is
  goes_on step reply w free (flushes p s r e) = stays_at w v e is
  goes_on step reply w free (forces s r e) = stays_at w _ e (forced_others v.under v.txns v.queue (queue_marks base v reached).waits is)
  goes_on step reply w free (checkpoints s r e) = stays_at w v e is
  goes_on step reply w free (switches s r e) = stays_at w v e is
  goes_on step reply w free (lacks fault x r e) = stays_at w v e is
  goes_on step reply w free (breaks fault ls x r e) = stays_at w _ e (broken_others v.under v.txns ls is)

  moves_on : (step : Step) (reply : Reply) (w : View) → Moves v step reply w → IsMarked w.under w.txns
  moves_on step reply w m = by (barred v step) refl m
    where
      by : (o : Option ℕ) → barred v step ≡ o → Answers v step reply w o → IsMarked w.under w.txns
      by None free g = goes_on step reply w free g
      by (Some fault) bars a = stays_at w v a.1 is

run_on : (base : IndexMap) (trace : List (Step × Reply)) (v w : View) → IsReached base v → IsMarked v.under v.txns → Run v trace w → IsMarked w.under w.txns
run_on base [] v w reached is e = subst (λ (y : View). IsMarked y.under y.txns) (sym e) is
run_on base (e ∷ es) v w reached is r = run_on base es r.0 w (moves_reach base v r.0 e.0 e.1 reached r.1) (moves_on base v reached is e.0 e.1 r.0 r.1) r.2

pub owners_marked : OwnersAreMarked
owners_marked = record {
  marked = λ base v reached u is.
      subst (λ (o : Option Under). IsMarked o v.txns) is (run_on base reached.trace (start base reached.first) v (record { trace = []; first = reached.first; run = refl }) tt reached.run);
  free = λ base v reached t none still own.
      let u = owned v.under t own in
      let marked = subst (λ (o : Option Under). IsMarked o v.txns) u.1 (run_on base reached.trace (start base reached.first) v (record { trace = []; first = reached.first; run = refl }) tt reached.run) in
      other_than u.0 t v.txns (ap (λ (o : Option Under). pending_of o t) (sym u.1) ∙ none) marked still u.2;
}
  where
    owned : (o : Option Under) (t : ℕ) → owner_of o ≡ Some t → (u : Under) × (o ≡ Some u) × (u.owner ≡ t)
    owned None t e = let never : None ≡ Some t = e in absurd (cc never)
    owned (Some u) t e = (u, refl, cc)
