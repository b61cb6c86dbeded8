-- What the machine does is shown.
use Rattle.std.proofs.Common.{◌≡◌, ◌≢◌, ◌≤◌, ◌<◌, inl, inr, ◌⊎◌, ℕ, suc, List, [], ◌∷◌, ◌++◌, length, arith, lt-ltb, ltb-true, refl, sym, ◌∙◌, ap, subst, true, false, Bool, cond, Option, None, Some, is_some}
use Rattle.std.specs.Prelude.{◌==◌, ◌||◌, if◌then◌else◌, not, nat_lt}
use Rattle.std.specs.FinMap.{get}
use Rattle.std.proofs.lemmas.Bool.{eq-eqb, ne_eqb, cond-true, cond-false}
use Rattle.im_base_types.specs.Keys.{Key}
use Rattle.im_base_types.specs.Maps.{From, Above, first, last_below}
use Rattle.im_base_types.specs.Changes.{Change, Put, Drop, Effect, seen_effect, seen_change}
use Rattle.im_base_types.specs.Answers.{Access, Fetch, Seek, Next, Prev, Scan, Insert, Delete, Step, Begin, Do, Commit, Rollback, Continue, RollTo, FlushPage, Force, Checkpoint, Switch, Reply, Started, Absent, BlockedTree, Committed, RolledBack, More, Blocked, Die, Done, Refused, Duplicate, Inserted, Deleted, Mark, Idle, Going, MustRollBack, RollingBack, Returning, Committing, answer, changes, dropped, found, entry}
use Rattle.im_base_types.specs.Refusals.{memory, unfinished, failed as has_failed, no_transaction, must_roll_back, rolling_back, key_length, too_many, busy}
use Rattle.im_base_types.specs.Lives.{Shown, Running, Asked, idle, oldest, with_running, shows_mark, adds, shown_change, asks, refused, answered, breaks}
use Rattle.im_theory_machine.specs.Locks.{Lock}
use Rattle.im_theory_machine.specs.View.{Txn, View, Under, Puts, Drops, TakesBack, TookBack, pending_of, locked, with_change, change_made, set_txn, begun, did, did_txn, marked, committed_by, dropped_by, undid_more, undid_last, broken, MayRollBack, queued, forced_by}
use Rattle.im_theory_machine.specs.View as views
use Rattle.im_theory_machine.specs.Machine.{barred, barred_to, barred_to_rollback, barred_to_continue, or_else, fault_if, keys_fit, Answers, Goes, MayTakeBack, begins, does, waits, dies, commits, queues, drops, turns, undoes, ends, puts_later, puts, drops_first, drops_leaf, takes_later, takes_first, takes_leaf, takes_last, stays_back, turns_back, gives_back, is_back, leaf_is_back, logs_page, tree_blocks, tree_halts, flushes, forces, checkpoints, switches, lacks, breaks as machine_breaks, Wants, Breaks}
use Rattle.im_theory_machine.proofs.Cited.{cases_number, by_txn, by_force_txn, IsQueue, clear_do, clear_commit, clear_rollback, passes_as, none_either, others_pending, queue_marks, next_is_idle, nothing_goes_on, pending_absent}
use Rattle.im_theory_steps.specs.Seen.{drop_of, IsMarkShown, IsShownBy}
use Rattle.im_theory_steps.specs.Laws.{MovesAreShown}

-- ---- marks that are shown

pub shown_is : (m n x : Mark) → IsMarkShown m n → n ≡ x → (x ≡ Idle → ⊥) → m ≡ x
shown_is m n x (inl e) is busy = e ∙ is
shown_is m n x (inr p) is busy = absurd (busy (sym is ∙ p.1))

pub is_shown_so : (m n x : Mark) → IsMarkShown m n → m ≡ x → (x ≡ Committing → ⊥) → n ≡ x
is_shown_so m n x (inl e) is free = sym e ∙ is
is_shown_so m n x (inr p) is free = absurd (free (sym is ∙ p.0))

-- ---- the changes that are to be left

seen_long : (e : Effect) → length (seen_effect e) ≡ length e
seen_long [] = refl
seen_long (c ∷ cs) = ap (λ (n : ℕ). suc n) (seen_long cs)

-- of no more changes all
oldest_all : (n : ℕ) (e : Effect) → length e ≤ n → oldest n e ≡ e
oldest_all n [] few = refl
oldest_all n (c ∷ cs) few = ap (λ (b : Bool). if b then oldest n cs else c ∷ cs) (le-ltb-false n (length (c ∷ cs)) few)
  where
    le-ltb-false : (m k : ℕ) → k ≤ m → nat_lt m k ≡ false
    le-ltb-false m k le = by (nat_lt m k) refl
      where
        by : (b : Bool) → nat_lt m k ≡ b → b ≡ false
        by true less = absurd (let lt : m < k = ltb-true m k less in omega (arith, lt, le))
        by false e = refl

-- and of one more the same without it
oldest_less : (n : ℕ) (c : Change) (cs : Effect) → n ≤ length cs → oldest n (seen_effect (c ∷ cs)) ≡ oldest n (seen_effect cs)
oldest_less n c cs some =
    let long : length (seen_effect cs) ≡ length cs = seen_long cs in
    let more : n < length (seen_effect (c ∷ cs)) = omega (arith, long, some) in
    ap (λ (b : Bool). if b then oldest n (seen_effect cs) else seen_effect (c ∷ cs)) (lt-ltb n (length (seen_effect (c ∷ cs))) more)

-- ---- one transaction set, or none

own_run : (t : ℕ) (x : Running) (s : Shown) → (with_running t x s).running t ≡ x
own_run t x s = cond-true (t == t) x (s.running t) (eq-eqb t t refl)

other_run : (t u : ℕ) (x : Running) (s : Shown) → u ≢ t → (with_running t x s).running u ≡ s.running u
other_run t u x s differ = cond-false (u == t) x (s.running u) (ne_eqb u t differ)

-- a transaction as it is shown
-- with its access that goes on
pub record Fits (x : Running) (y : Txn) (o : Option Access) : Type 0 where
  pub mark : IsMarkShown x.mark y.mark
  pub pending : x.pending ≡ o
  pub effect : MayRollBack y.mark → drop_of o ++ x.effect ≡ seen_effect y.net
  pub returns : (n : ℕ) → y.mark ≡ Returning n → x.effect ≡ oldest n (seen_effect y.net)

fits_at : (s : Shown) (v : View) → IsShownBy s v → (t : ℕ) → Fits (s.running t) (v.txns t) (pending_of v.under t)
fits_at s v h t = record { mark = h.marks t; pending = h.pending t; effect = h.effects t; returns = h.returns t }

of_fits : (s : Shown) (v : View) → s.failed ≡ v.failed → ((t : ℕ) → Fits (s.running t) (v.txns t) (pending_of v.under t)) → IsShownBy s v
of_fits s v failed all = record { failed = failed; marks = λ t. (all t).mark; pending = λ t. (all t).pending; effects = λ t. (all t).effect; returns = λ t. (all t).returns }

-- one that does not return returns to nothing
not_back : {A : Type 0} (m x : Mark) (n : ℕ) → m ≡ x → (x ≡ Returning n → ⊥) → m ≡ Returning n → A
not_back m x n is other back = absurd (other (sym is ∙ back))

-- where nothing goes on, the effect that is shown is the machine's
pub effect_shown : (s : Shown) (v : View) → IsShownBy s v → (t : ℕ) → pending_of v.under t ≡ None → MayRollBack ((v.txns t).mark) → (s.running t).effect ≡ seen_effect ((v.txns t).net)
effect_shown s v h t none may = sym (ap (λ (o : Option Access). drop_of o ++ (s.running t).effect) none) ∙ h.effects t may

module _ (s : Shown) (v : View) (h : IsShownBy s v) where
  -- one is set
  shown_set : (w : View) (t : ℕ) (x : Running) (y : Txn) (a : List Asked) → w.failed ≡ v.failed → ((u : ℕ) → w.txns u ≡ set_txn v.txns t y u) → ((u : ℕ) → u ≢ t → pending_of w.under u ≡ pending_of v.under u) → Fits x y (pending_of w.under t)
      → IsShownBy (record (with_running t x s) { asked = a }) w
  shown_set w t x y a failed txns others one = of_fits (record (with_running t x s) { asked = a }) w (h.failed ∙ sym failed) (λ u.
      subst (λ (z : Txn). Fits ((with_running t x s).running u) z (pending_of w.under u)) (sym (txns u))
      (by_txn (λ u z. Fits ((with_running t x s).running u) z (pending_of w.under u)) v.txns t y
      (subst (λ (z : Running). Fits z y (pending_of w.under t)) (sym (own_run t x s)) one)
      (λ u differ. subst (λ (z : Running). Fits z (v.txns u) (pending_of w.under u)) (sym (other_run t u x s differ)) (subst (Fits (s.running u) (v.txns u)) (sym (others u differ)) (fits_at s v h u))) u))

  -- marks and nets are as they were
  shown_same : (w : View) (f : Bool) (a : List Asked) → f ≡ w.failed → ((u : ℕ) → (w.txns u).mark ≡ (v.txns u).mark) → ((u : ℕ) → (w.txns u).net ≡ (v.txns u).net)
      → ((u : ℕ) → pending_of w.under u ≡ pending_of v.under u) → IsShownBy (record s { failed = f; asked = a }) w
  shown_same w f a failed same nets under = record {
    failed = failed;
    marks = λ u. subst (IsMarkShown ((s.running u).mark)) (sym (same u)) (h.marks u);
    pending = λ u. h.pending u ∙ sym (under u);
    effects = λ u may. ap (λ (o : Option Access). drop_of o ++ (s.running u).effect) (under u) ∙ h.effects u (subst MayRollBack (same u) may) ∙ ap seen_effect (sym (nets u));
    returns = λ u n back. h.returns u n (sym (same u) ∙ back) ∙ ap (λ (e : Effect). oldest n (seen_effect e)) (sym (nets u));
  }

-- ---- refusals

-- a refusal may break the engine, and sets no transaction
refused_run : (n : ℕ) (step : Step) (s : Shown) → (refused n step s).running ≡ s.running
refused_run n Begin s = refl
refused_run n (Do t a) s = refl
refused_run n (Commit t) s = go (s.failed || n == memory || n == unfinished)
  where
    go : (b : Bool) → (if b then s else record (asks t false s) { failed = breaks n }).running ≡ s.running
    go true = refl
    go false = refl
refused_run n (Rollback t) s = refl
refused_run n (Continue t) s = refl
refused_run n (RollTo t k) s = refl
refused_run n (FlushPage p) s = refl
refused_run n Force s = refl
refused_run n Checkpoint s = refl
refused_run n Switch s = refl

-- what breaks the engine is no want of memory, nor an unfinished change
both_false : (n : ℕ) → (n == memory) ≡ true → breaks n ≡ false
both_false n e = subst (λ (k : ℕ). breaks k ≡ false) (sym (by n e)) refl
  where
    by : (k : ℕ) → (k == memory) ≡ true → k ≡ memory
    by k e = elim (cases_number k memory) [ inl is ↦ is | inr differ ↦ let never : false ≡ true = sym (ne_eqb k memory differ) ∙ e in absurd cc ]

unfinished_false : (n : ℕ) → (n == unfinished) ≡ true → breaks n ≡ false
unfinished_false n e = subst (λ (k : ℕ). breaks k ≡ false) (sym (by n e)) refl
  where
    by : (k : ℕ) → (k == unfinished) ≡ true → k ≡ unfinished
    by k e = elim (cases_number k unfinished) [ inl is ↦ is | inr differ ↦ let never : false ≡ true = sym (ne_eqb k unfinished differ) ∙ e in absurd cc ]

commit_failed : (s : Shown) (t n : ℕ) (f m u : Bool) → s.failed ≡ f → (n == memory) ≡ m → (n == unfinished) ≡ u
    → (if f || m || u then s else record (asks t false s) { failed = breaks n }).failed ≡ (f || breaks n)
commit_failed s t n true m u a b c = a
commit_failed s t n false true u a b c = a ∙ sym (both_false n b)
commit_failed s t n false false true a b c = a ∙ sym (unfinished_false n c)
commit_failed s t n false false false a b c = refl

refused_failed : (n : ℕ) (step : Step) (s : Shown) → (refused n step s).failed ≡ (s.failed || breaks n)
refused_failed n Begin s = refl
refused_failed n (Do t a) s = refl
refused_failed n (Commit t) s = commit_failed s t n s.failed (n == memory) (n == unfinished) refl refl refl
refused_failed n (Rollback t) s = refl
refused_failed n (Continue t) s = refl
refused_failed n (RollTo t k) s = refl
refused_failed n (FlushPage p) s = refl
refused_failed n Force s = refl
refused_failed n Checkpoint s = refl
refused_failed n Switch s = refl

shown_refused : (s : Shown) (v w : View) (step : Step) (n : ℕ) → IsShownBy s v → w.failed ≡ (v.failed || breaks n) → ((u : ℕ) → (w.txns u).mark ≡ (v.txns u).mark) → ((u : ℕ) → (w.txns u).net ≡ (v.txns u).net) → w.under ≡ v.under
    → IsShownBy (refused n step s) w
shown_refused s v w step n h failed same nets under = record {
  failed = refused_failed n step s ∙ ap (λ (b : Bool). b || breaks n) h.failed ∙ sym failed;
  marks = λ u. subst (λ (m : Mark). IsMarkShown m ((w.txns u).mark)) (sym (ap (λ (f : ℕ → Running). (f u).mark) (refused_run n step s))) (subst (IsMarkShown ((s.running u).mark)) (sym (same u)) (h.marks u));
  pending = λ u. ap (λ (f : ℕ → Running). (f u).pending) (refused_run n step s) ∙ h.pending u ∙ ap (λ (o : Option Under). pending_of o u) (sym under);
  effects = λ u may. ap (λ (f : ℕ → Running). drop_of (pending_of w.under u) ++ (f u).effect) (refused_run n step s) ∙ ap (λ (o : Option Under). drop_of (pending_of o u) ++ (s.running u).effect) under
      ∙ h.effects u (subst MayRollBack (same u) may) ∙ ap seen_effect (sym (nets u));
  returns = λ u k back. ap (λ (f : ℕ → Running). (f u).effect) (refused_run n step s) ∙ h.returns u k (sym (same u) ∙ back) ∙ ap (λ (e : Effect). oldest k (seen_effect e)) (sym (nets u));
}

-- ---- accesses

module _ (s : Shown) (v : View) (h : IsShownBy s v) (t : ℕ) (ls : List Lock) (clear : pending_of v.under t ≡ None) (going : (v.txns t).mark ≡ Going) where
  -- the transaction with nothing changed
  still : (a : Access) → changes a v.walk ≡ [] → IsShownBy s (did v t a ls)
  still a none = shown_same s v h (did v t a ls) s.failed s.asked h.failed
      (by_txn (λ u z. z.mark ≡ (v.txns u).mark) v.txns t (did_txn (v.txns t) a v.walk ls) (sym going) (λ u differ. refl))
      (by_txn (λ u z. z.net ≡ (v.txns u).net) v.txns t (did_txn (v.txns t) a v.walk ls) (ap (λ (cs : Effect). cs ++ (v.txns t).net) none) (λ u differ. refl))
      (λ u. refl)

  -- and with one change more
  changed : (a : Access) (c d : Change) → changes a v.walk ≡ c ∷ [] → d ≡ seen_change c → IsShownBy (adds t d s) (did v t a ls)
  changed a c d one is = shown_set s v h (did v t a ls) t (record (s.running t) { effect = d ∷ (s.running t).effect }) (did_txn (v.txns t) a v.walk ls) s.asked refl (λ u. refl) (λ u differ. refl)
      (subst (Fits (record (s.running t) { effect = d ∷ (s.running t).effect }) (did_txn (v.txns t) a v.walk ls)) (sym clear) (record {
        mark = inl (shown_is ((s.running t).mark) ((v.txns t).mark) Going (h.marks t) going (λ e. cc e));
        pending = h.pending t ∙ clear;
        effect = λ may. ap (λ (x : Change). x ∷ (s.running t).effect) is ∙ ap (λ (e : Effect). seen_change c ∷ e) (effect_shown s v h t clear (inl going))
            ∙ sym (ap (λ (cs : Effect). seen_effect (cs ++ (v.txns t).net)) one);
        returns = λ n back. absurd (cc back);
      }))

  fetched : (k : Key) (o : Option ℕ) → IsShownBy (answered (Do t (Fetch k)) (found o) s) (did v t (Fetch k) ls)
  fetched k None = still (Fetch k) refl
  fetched k (Some r) = still (Fetch k) refl

  sought : (k : Key) (o : Option (Key × ℕ)) → IsShownBy (answered (Do t (Seek k)) (entry o) s) (did v t (Seek k) ls)
  sought k None = still (Seek k) refl
  sought k (Some e) = still (Seek k) refl

  next : (k : Key) (o : Option (Key × ℕ)) → IsShownBy (answered (Do t (Next k)) (entry o) s) (did v t (Next k) ls)
  next k None = still (Next k) refl
  next k (Some e) = still (Next k) refl

  prev : (k : Key) (o : Option (Key × ℕ)) → IsShownBy (answered (Do t (Prev k)) (entry o) s) (did v t (Prev k) ls)
  prev k None = still (Prev k) refl
  prev k (Some e) = still (Prev k) refl

  put : (k : Key) (r : ℕ) (b : Bool) → is_some (get v.walk k) ≡ b → IsShownBy (answered (Do t (Insert k r)) (cond b Duplicate Inserted) s) (did v t (Insert k r) ls)
  put k r true e = still (Insert k r) (ap (λ (b : Bool). cond b [] (Put k r ∷ [])) e)
  put k r false e = changed (Insert k r) (Put k r) (Put k r) (ap (λ (b : Bool). cond b [] (Put k r ∷ [])) e) refl

  took : (k : Key) (o : Option ℕ) → get v.walk k ≡ o → IsShownBy (answered (Do t (Delete k)) (cond (is_some o) Deleted Absent) s) (did v t (Delete k) ls)
  took k None e = still (Delete k) (ap (dropped k) e)
  took k (Some r) e = changed (Delete k) (Drop k r) (Drop k 0) (ap (dropped k) e) refl

  shown_did : (a : Access) → IsShownBy (answered (Do t a) (answer a v.walk) s) (did v t a ls)
  shown_did (Fetch k) = fetched k (get v.walk k)
  shown_did (Seek k) = sought k (first (From k) v.walk)
  shown_did (Next k) = next k (first (Above k) v.walk)
  shown_did (Prev k) = prev k (last_below k v.walk)
  shown_did (Scan lo hi n) = still (Scan lo hi n) refl
  shown_did (Insert k r) = put k r (is_some (get v.walk k)) refl
  shown_did (Delete k) = took k (get v.walk k) refl

-- ---- what a check refuses

abbrev early : ℕ → View → Type 0
early f v = ((v.failed ≡ true) × (f ≡ has_failed)) ⊎ ((v.failed ≡ false) × (breaks f ≡ false))

by_check : (b : Bool) (o : Option ℕ) (f : ℕ) → ((g : ℕ) → o ≡ Some g → breaks g ≡ false) → or_else (fault_if b has_failed) o ≡ Some f → ((b ≡ true) × (f ≡ has_failed)) ⊎ ((b ≡ false) × (breaks f ≡ false))
by_check true o f ok e = inl (refl, let is : has_failed ≡ f = cc in sym is)
by_check false o f ok e = inr (refl, ok f e)

marks_ok : (m : Mark) (f : ℕ) → barred_to m ≡ Some f → breaks f ≡ false
marks_ok Idle f e = let is : no_transaction ≡ f = cc in subst (λ k. breaks k ≡ false) is refl
marks_ok Going f e = absurd cc
marks_ok MustRollBack f e = let is : must_roll_back ≡ f = cc in subst (λ k. breaks k ≡ false) is refl
marks_ok RollingBack f e = let is : rolling_back ≡ f = cc in subst (λ k. breaks k ≡ false) is refl
marks_ok (Returning n) f e = let is : rolling_back ≡ f = cc in subst (λ k. breaks k ≡ false) is refl
marks_ok Committing f e = let is : no_transaction ≡ f = cc in subst (λ k. breaks k ≡ false) is refl

rollback_ok : (m : Mark) (f : ℕ) → barred_to_rollback m ≡ Some f → breaks f ≡ false
rollback_ok Idle f e = let is : no_transaction ≡ f = cc in subst (λ k. breaks k ≡ false) is refl
rollback_ok Going f e = absurd cc
rollback_ok MustRollBack f e = absurd cc
rollback_ok RollingBack f e = let is : rolling_back ≡ f = cc in subst (λ k. breaks k ≡ false) is refl
rollback_ok (Returning n) f e = let is : rolling_back ≡ f = cc in subst (λ k. breaks k ≡ false) is refl
rollback_ok Committing f e = let is : no_transaction ≡ f = cc in subst (λ k. breaks k ≡ false) is refl

continue_ok : (m : Mark) (f : ℕ) → barred_to_continue m ≡ Some f → breaks f ≡ false
continue_ok Idle f e = let is : no_transaction ≡ f = cc in subst (λ k. breaks k ≡ false) is refl
continue_ok Going f e = let is : no_transaction ≡ f = cc in subst (λ k. breaks k ≡ false) is refl
continue_ok MustRollBack f e = let is : no_transaction ≡ f = cc in subst (λ k. breaks k ≡ false) is refl
continue_ok RollingBack f e = absurd cc
continue_ok (Returning n) f e = absurd cc
continue_ok Committing f e = let is : no_transaction ≡ f = cc in subst (λ k. breaks k ≡ false) is refl

test_ok : (b : Bool) (n f : ℕ) → breaks n ≡ false → fault_if b n ≡ Some f → breaks f ≡ false
test_ok true n f ok e = let is : n ≡ f = cc in subst (λ k. breaks k ≡ false) is ok
test_ok false n f ok e = absurd cc

either_ok : (o p : Option ℕ) (f : ℕ) → (o ≡ Some f → breaks f ≡ false) → (p ≡ Some f → breaks f ≡ false) → or_else o p ≡ Some f → breaks f ≡ false
either_ok None p f first second e = second e
either_ok (Some g) p f first second e = first e

continues_ok : (o : Bool) (m : Mark) (f : ℕ) → cond o None (barred_to_continue m) ≡ Some f → breaks f ≡ false
continues_ok true m f e = absurd cc
continues_ok false m f e = continue_ok m f e

alone_ok : (b : Bool) (f : ℕ) → fault_if b has_failed ≡ Some f → ((b ≡ true) × (f ≡ has_failed)) ⊎ ((b ≡ false) × (breaks f ≡ false))
alone_ok true f e = inl (refl, let is : has_failed ≡ f = cc in sym is)
alone_ok false f e = absurd cc

early_of : (v : View) (step : Step) (f : ℕ) → barred v step ≡ Some f → early f v
early_of v Begin f e = by_check v.failed (fault_if (not (nat_lt v.active 64)) too_many) f (λ g is. test_ok (not (nat_lt v.active 64)) too_many g refl is) e
early_of v (Do t a) f e = by_check v.failed (or_else (barred_to ((v.txns t).mark)) (or_else (fault_if (is_some (pending_of v.under t)) unfinished) (fault_if (not (keys_fit a)) key_length))) f
    (λ g is. either_ok (barred_to ((v.txns t).mark)) (or_else (fault_if (is_some (pending_of v.under t)) unfinished) (fault_if (not (keys_fit a)) key_length)) g (marks_ok ((v.txns t).mark) g)
    (either_ok (fault_if (is_some (pending_of v.under t)) unfinished) (fault_if (not (keys_fit a)) key_length) g (test_ok (is_some (pending_of v.under t)) unfinished g refl) (test_ok (not (keys_fit a)) key_length g refl)) is) e
early_of v (Commit t) f e = by_check v.failed (or_else (barred_to ((v.txns t).mark)) (fault_if (is_some (pending_of v.under t)) unfinished)) f
    (λ g is. either_ok (barred_to ((v.txns t).mark)) (fault_if (is_some (pending_of v.under t)) unfinished) g (marks_ok ((v.txns t).mark) g) (test_ok (is_some (pending_of v.under t)) unfinished g refl) is) e
early_of v (Rollback t) f e = by_check v.failed (or_else (barred_to_rollback ((v.txns t).mark)) (fault_if (is_some (pending_of v.under t)) unfinished)) f
    (λ g is. either_ok (barred_to_rollback ((v.txns t).mark)) (fault_if (is_some (pending_of v.under t)) unfinished) g (rollback_ok ((v.txns t).mark) g) (test_ok (is_some (pending_of v.under t)) unfinished g refl) is) e
early_of v (Continue t) f e = by_check v.failed (cond (is_some (pending_of v.under t)) None (barred_to_continue ((v.txns t).mark))) f (λ g is. continues_ok (is_some (pending_of v.under t)) ((v.txns t).mark) g is) e
early_of v (RollTo t k) f e = by_check v.failed (or_else (barred_to_rollback ((v.txns t).mark)) (fault_if (is_some (pending_of v.under t)) unfinished)) f
    (λ g is. either_ok (barred_to_rollback ((v.txns t).mark)) (fault_if (is_some (pending_of v.under t)) unfinished) g (rollback_ok ((v.txns t).mark) g) (test_ok (is_some (pending_of v.under t)) unfinished g refl) is) e
early_of v (FlushPage p) f e = alone_ok v.failed f e
early_of v Force f e = alone_ok v.failed f e
early_of v Checkpoint f e = alone_ok v.failed f e
early_of v Switch f e = by_check v.failed (fault_if (nat_lt 0 v.active) busy) f (λ g is. test_ok (nat_lt 0 v.active) busy g refl is) e

early_failed : (v : View) (f : ℕ) → early f v → v.failed ≡ (v.failed || breaks f)
early_failed v f (inl x) = x.0 ∙ sym (ap (λ (b : Bool). b || breaks f) x.0)
early_failed v f (inr x) = x.0 ∙ sym (ap (λ (b : Bool). b || breaks f) x.0 ∙ x.1)

-- ---- the machine's steps

lacks_ok : (step : Step) (f : ℕ) → Wants step f → breaks f ≡ false
lacks_ok Begin f is = subst (λ k. breaks k ≡ false) (sym is) refl
lacks_ok (Do t (Fetch k)) f is = subst (λ k. breaks k ≡ false) (sym is) refl
lacks_ok (Do t (Seek k)) f is = subst (λ k. breaks k ≡ false) (sym is) refl
lacks_ok (Do t (Next k)) f is = subst (λ k. breaks k ≡ false) (sym is) refl
lacks_ok (Do t (Prev k)) f is = subst (λ k. breaks k ≡ false) (sym is) refl
lacks_ok (Do t (Scan a b n)) f is = subst (λ k. breaks k ≡ false) (sym is) refl
lacks_ok (Do t (Insert k r)) f (inl is) = subst (λ k. breaks k ≡ false) (sym is) refl
lacks_ok (Do t (Insert k r)) f (inr is) = subst (λ k. breaks k ≡ false) (sym is) refl
lacks_ok (Do t (Delete k)) f is = subst (λ k. breaks k ≡ false) (sym is) refl
lacks_ok (Commit t) f is = subst (λ k. breaks k ≡ false) (sym is) refl
lacks_ok (Rollback t) f is = subst (λ k. breaks k ≡ false) (sym is) refl
lacks_ok (Continue t) f is = subst (λ k. breaks k ≡ false) (sym is) refl
lacks_ok (RollTo t k) f is = subst (λ k. breaks k ≡ false) (sym is) refl
lacks_ok (FlushPage p) f is = subst (λ k. breaks k ≡ false) (sym is) refl
lacks_ok Force f is = subst (λ k. breaks k ≡ false) (sym is) refl
lacks_ok Checkpoint f is = subst (λ k. breaks k ≡ false) (sym is) refl
lacks_ok Switch f is = subst (λ k. breaks k ≡ false) (sym is) refl

breaks_ok : (f : ℕ) → Breaks f → breaks f ≡ true
breaks_ok f (inl is) = subst (λ k. breaks k ≡ true) (sym is) refl
breaks_ok f (inr (inl is)) = subst (λ k. breaks k ≡ true) (sym is) refl
breaks_ok f (inr (inr (inl is))) = subst (λ k. breaks k ≡ true) (sym is) refl
breaks_ok f (inr (inr (inr is))) = subst (λ k. breaks k ≡ true) (sym is) refl

or_false : (b : Bool) → b ≡ (b || false)
or_false true = refl
or_false false = refl

or_true : (b : Bool) → true ≡ (b || true)
or_true true = refl
or_true false = refl

idle_fits : Fits idle views.idle None
idle_fits = record { mark = inl refl; pending = refl; effect = λ may. refl; returns = λ n back. absurd (cc back) }

-- what another's structure change stands in the way of shows nothing
pub tree_shows : (s : Shown) (t : ℕ) (a : Access) → answered (Do t a) BlockedTree s ≡ s
tree_shows s t (Fetch k) = refl
tree_shows s t (Seek k) = refl
tree_shows s t (Next k) = refl
tree_shows s t (Prev k) = refl
tree_shows s t (Scan lo hi n) = refl
tree_shows s t (Insert k r) = refl
tree_shows s t (Delete k) = refl

-- one set twice
pub twice_set : (f : ℕ → Txn) (t : ℕ) (x : Txn) (g : Txn → Txn) (u : ℕ) → set_txn (set_txn f t x) t (g (set_txn f t x t)) u ≡ set_txn f t (g x) u
twice_set f t x g u = by (u == t)
  where
    own : set_txn f t x t ≡ x
    own = cond-true (t == t) x (f t) (eq-eqb t t refl)

    by : (b : Bool) → cond b (g (set_txn f t x t)) (cond b x (f u)) ≡ cond b (g x) (f u)
    by true = ap g own
    by false = refl

module _ (s : Shown) (v : View) (queue : IsQueue v.queue v.txns) (fresh : (v.txns v.next).mark ≡ Idle) (still_none : (t : ℕ) → ((v.txns t).mark ≡ Going → ⊥) → pending_of v.under t ≡ None)
    (absent_at : (t : ℕ) (k : Key) (r : ℕ) → v.under ≡ Some (record { owner = t; aim = Puts k r }) → get v.walk k ≡ None) (h : IsShownBy s v) where
  none_by_mark : (t : ℕ) (m : Mark) → (v.txns t).mark ≡ m → (m ≡ Going → ⊥) → pending_of v.under t ≡ None
  none_by_mark t m is other = still_none t (λ e. other (sym is ∙ e))

  -- the step and its reply, and the view after them, put in
  abbrev Is : Step → Reply → View → Type 0
  Is step reply w = IsShownBy (answered step reply s) w

  put_in : (step x : Step) (reply y : Reply) (w z : View) → step ≡ x → reply ≡ y → w ≡ z → Is x y z → Is step reply w
  put_in step x reply y w z a b c is = subst (λ (w : View). Is step reply w) (sym c) (subst (λ (r : Reply). Is step r z) (sym b) (subst (λ (st : Step). Is st y z) (sym a) is))

  gone : (t : ℕ) (a : List Asked) (w : View) → w.failed ≡ v.failed → ((u : ℕ) → w.txns u ≡ set_txn v.txns t views.idle u) → ((u : ℕ) → pending_of w.under u ≡ pending_of v.under u) → pending_of v.under t ≡ None → IsShownBy (record (with_running t idle s) { asked = a }) w
  gone t a w failed txns same none = shown_set s v h w t idle views.idle a failed txns (λ u differ. same u) (subst (Fits idle views.idle) (sym (same t ∙ none)) idle_fits)

  remarked : (t : ℕ) (m : Mark) → ((n : ℕ) → m ≡ Returning n → ⊥) → (MayRollBack m → MayRollBack ((v.txns t).mark)) → IsShownBy (shows_mark t m s) (marked v t m)
  remarked t m other may = shown_set s v h (marked v t m) t (record (s.running t) { mark = m }) (record (v.txns t) { mark = m }) s.asked refl (λ u. refl) (λ u differ. refl) (record {
    mark = inl refl;
    pending = h.pending t;
    effect = λ is. h.effects t (may is);
    returns = λ n back. absurd (other n back);
  })

  never_rolls : MayRollBack RollingBack → ⊥
  never_rolls (inl e) = cc e
  never_rolls (inr e) = cc e

  never_waits : MayRollBack Committing → ⊥
  never_waits (inl e) = cc e
  never_waits (inr e) = cc e

  idle_never : MayRollBack Idle → ⊥
  idle_never (inl e) = cc e
  idle_never (inr e) = cc e

  never_returns : (n : ℕ) → MayRollBack (Returning n) → ⊥
  never_returns n (inl e) = cc e
  never_returns n (inr e) = cc e

  -- one that takes its newest change back may not be rolled back, has no access that goes on, and returns to no more than it keeps
  taking_never : (m : Mark) (cs : List Change) → MayTakeBack m cs → MayRollBack m → ⊥
  taking_never m cs (inl rolling) may = never_rolls (subst MayRollBack rolling may)
  taking_never m cs (inr r) may = never_returns r.0 (subst MayRollBack r.1 may)

  none_taking : (t : ℕ) (cs : List Change) → MayTakeBack ((v.txns t).mark) cs → pending_of v.under t ≡ None
  none_taking t cs may = still_none t (λ going. taking_never ((v.txns t).mark) cs may (inl going))

  keeps_some : (m : Mark) (cs : List Change) (n : ℕ) → MayTakeBack m cs → m ≡ Returning n → n ≤ length cs
  keeps_some m cs n (inl rolling) back = absurd (let never : RollingBack ≡ Returning n = sym rolling ∙ back in cc never)
  keeps_some m cs n (inr r) back = let same : Returning r.0 ≡ Returning n = sym r.1 ∙ back in let e : r.0 ≡ n = cc same in subst (λ (k : ℕ). k ≤ length cs) e r.2

  -- its effect without its newest change
  left_shown : (t n : ℕ) (c : Change) (cs : List Change) → (v.txns t).mark ≡ Returning n → (v.txns t).net ≡ c ∷ cs → n ≤ length cs → (s.running t).effect ≡ oldest n (seen_effect cs)
  left_shown t n c cs back net some = h.returns t n back ∙ ap (λ (e : Effect). oldest n (seen_effect e)) net ∙ oldest_less n c cs some

  undone_as : (t : ℕ) (c : Change) (cs : List Change) → MayTakeBack ((v.txns t).mark) cs → (v.txns t).net ≡ c ∷ cs → (w : View) → s.failed ≡ w.failed → ((u : ℕ) → w.txns u ≡ (undid_more v t c cs).txns u) → ((u : ℕ) → pending_of w.under u ≡ pending_of v.under u) → IsShownBy s w
  undone_as t c cs takes net w failed txns same = of_fits s w failed (λ u. subst (λ (z : Txn). Fits (s.running u) z (pending_of w.under u)) (sym (txns u)) (subst (Fits (s.running u) ((undid_more v t c cs).txns u)) (sym (same u))
      (by_txn (λ u z. Fits (s.running u) z (pending_of v.under u)) v.txns t (record (v.txns t) { net = cs })
      (record {
        mark = h.marks t;
        pending = h.pending t;
        effect = λ may. absurd (taking_never ((v.txns t).mark) cs takes may);
        returns = λ n back. left_shown t n c cs back net (keeps_some ((v.txns t).mark) cs n takes back);
      }) (λ u differ. fits_at s v h u) u)))

  undone_more : (t : ℕ) (c : Change) (cs : List Change) → MayTakeBack ((v.txns t).mark) cs → (v.txns t).net ≡ c ∷ cs → IsShownBy s (undid_more v t c cs)
  undone_more t c cs takes net = undone_as t c cs takes net (undid_more v t c cs) h.failed (λ u. refl) (others_pending v.under t (none_taking t cs takes))

  -- one goes on with the changes that were to be left
  back_shown : (t n : ℕ) (w : View) (cs : List Change) → w.failed ≡ v.failed → ((u : ℕ) → w.txns u ≡ set_txn v.txns t (record (v.txns t) { mark = Going; net = cs }) u) → ((u : ℕ) → pending_of w.under u ≡ pending_of v.under u) → pending_of v.under t ≡ None
      → (s.running t).effect ≡ seen_effect cs → IsShownBy (shows_mark t Going s) w
  back_shown t n w cs failed txns same none effect = shown_set s v h w t (record (s.running t) { mark = Going }) (record (v.txns t) { mark = Going; net = cs }) s.asked failed txns (λ u differ. same u)
      (subst (Fits (record (s.running t) { mark = Going }) (record (v.txns t) { mark = Going; net = cs })) (sym (same t ∙ none)) (record {
        mark = inl refl;
        pending = h.pending t ∙ none;
        effect = λ may. effect;
        returns = λ k back. absurd (cc back);
      }))

  -- an access goes on from here, or ended
  begun_own : (t : ℕ) (a : Access) → cond {A = Option Access} (t == t) (Some a) None ≡ Some a
  begun_own t a = rw (eq-eqb t t refl)

  begun_others : (t u : ℕ) (a : Access) → v.under ≡ None → u ≢ t → cond {A = Option Access} (t == u) (Some a) None ≡ pending_of v.under u
  begun_others t u a none differ = ap (λ (b : Bool). cond {A = Option Access} b (Some a) None) (ne_eqb t u (λ e. differ (sym e))) ∙ sym (ap (λ (x : Option Under). pending_of x u) none)

  ended_others : (t u : ℕ) (a : Access) → pending_of v.under u ≡ cond {A = Option Access} (t == u) (Some a) None → u ≢ t → None ≡ pending_of v.under u
  ended_others t u a is differ = sym (is ∙ ap (λ (b : Bool). cond {A = Option Access} b (Some a) None) (ne_eqb t u (λ e. differ (sym e))))

  goes_shown : (step : Step) (reply : Reply) (w : View) → barred v step ≡ None → Goes v step reply w → Is step reply w
  goes_shown step reply w free (begins a l b e) = put_in step Begin reply (Started v.next) w (begun v) a b e
      (shown_set s v h (begun v) v.next (record { mark = Going; effect = []; pending = None }) (record views.idle { mark = Going }) s.asked refl (λ u. refl) (λ u differ. refl)
      (subst (Fits (record { mark = Going; effect = []; pending = None }) (record views.idle { mark = Going })) (sym (none_by_mark v.next Idle fresh (λ e. cc e))) (record { mark = inl refl; pending = refl; effect = λ may. refl; returns = λ n back. absurd (cc back) })))
  goes_shown step reply w free (does t a ls b is unheld same d e) = put_in step (Do t a) reply (answer a v.walk) w (did v t a ls) b d e (shown_did s v h t ls (clear_do v t a (passes_as v step (Do t a) b free)) is a)
  goes_shown step reply w free (waits t a holder b is wait d e) = put_in step (Do t a) reply (Blocked holder) w v b d e (waited a)
    where
      waited : (a : Access) → Is (Do t a) (Blocked holder) v
      waited (Fetch k) = h
      waited (Seek k) = h
      waited (Next k) = h
      waited (Prev k) = h
      waited (Scan lo hi n) = h
      waited (Insert k r) = h
      waited (Delete k) = h
  goes_shown step reply w free (dies t a b is must d e) = put_in step (Do t a) reply Die w (marked v t MustRollBack) b d e (died a)
    where
      here : IsShownBy (shows_mark t MustRollBack s) (marked v t MustRollBack)
      here = remarked t MustRollBack (λ n back. cc back) (λ may. inl is)

      died : (a : Access) → Is (Do t a) Die (marked v t MustRollBack)
      died (Fetch k) = here
      died (Seek k) = here
      died (Next k) = here
      died (Prev k) = here
      died (Scan lo hi n) = here
      died (Insert k r) = here
      died (Delete k) = here
  goes_shown step reply w free (commits t a is alone d e) = put_in step (Commit t) reply Committed w (committed_by v t) a d e (gone t (asks t true s).asked (committed_by v t) refl (λ u. refl) (λ u. refl) (clear_commit v t (passes_as v step (Commit t) a free)))
  goes_shown step reply w free (queues t c cs a is net_is d e) = put_in step (Commit t) reply More w (queued v t) a d e
      (shown_set s v h (queued v t) t (record (s.running t) { mark = Committing }) (record (v.txns t) { mark = Committing }) (asks t false s).asked refl (λ u. refl) (λ u differ. refl) (record { mark = inl refl; pending = h.pending t; effect = λ may. absurd (never_waits may); returns = λ n back. absurd (cc back) }))
  goes_shown step reply w free (drops t a may empty d e) = put_in step (Rollback t) reply RolledBack w (dropped_by v t) a d e (gone t s.asked (dropped_by v t) refl (λ u. refl) (λ u. refl) (clear_rollback v t (passes_as v step (Rollback t) a free)))
  goes_shown step reply w free (turns t c cs a may net_is d e) = put_in step (Rollback t) reply More w (marked v t RollingBack) a d e (remarked t RollingBack (λ n back. cc back) (λ is. absurd (never_rolls is)))
  goes_shown step reply w free (undoes t c d cs a is net_is q e) = put_in step (Continue t) reply More w (undid_more v t c (d ∷ cs)) a q e (undone_more t c (d ∷ cs) (inl is) net_is)
  goes_shown step reply w free (ends t c a is net_is d e) = put_in step (Continue t) reply RolledBack w (undid_last v t c) a d e (gone t s.asked (undid_last v t c) refl (λ u. refl) (others_pending v.under t (none_by_mark t RollingBack is (λ e. cc e))) (none_by_mark t RollingBack is (λ e. cc e)))
  goes_shown step reply w free (puts_later t k r ls b is none absent unheld same d e) = put_in step (Do t (Insert k r)) reply More w (with_change (locked v t ls) t (Puts k r)) b d e
      (shown_set s v h (with_change (locked v t ls) t (Puts k r)) t (record (s.running t) { pending = Some (Insert k r) }) (record (v.txns t) { locks = ls }) s.asked refl (λ u. refl) (λ u differ. begun_others t u (Insert k r) none differ)
      (subst (Fits (record (s.running t) { pending = Some (Insert k r) }) (record (v.txns t) { locks = ls })) (sym (begun_own t (Insert k r))) (record {
        mark = h.marks t;
        pending = refl;
        effect = λ may. effect_shown s v h t (ap (λ (u : Option Under). pending_of u t) none) may;
        returns = λ n back. not_back ((v.txns t).mark) Going n is (λ e. cc e) back;
      })))
  goes_shown step reply w free (puts t k r b is under d e) = put_in step (Continue t) reply Inserted w (change_made (did v t (Insert k r) ((v.txns t).locks))) b d e
      (shown_set s v h (change_made (did v t (Insert k r) ((v.txns t).locks))) t (record (s.running t) { effect = shown_change ((s.running t).pending) Inserted ++ (s.running t).effect; pending = None }) (did_txn (v.txns t) (Insert k r) v.walk ((v.txns t).locks)) s.asked refl (λ u. refl)
      (λ u differ. ended_others t u (Insert k r) (ap (λ (x : Option Under). pending_of x u) under) differ) (record {
        mark = inl (shown_is ((s.running t).mark) ((v.txns t).mark) Going (h.marks t) is (λ e. cc e));
        pending = refl;
        effect = λ may.
            let pending : pending_of v.under t ≡ Some (Insert k r) = ap (λ (x : Option Under). pending_of x t) under ∙ begun_own t (Insert k r) in
            ap (λ (o : Option Access). shown_change o Inserted ++ (s.running t).effect) (h.pending t ∙ pending)
            ∙ ap (λ (es : Effect). Put k r ∷ es) (sym (ap (λ (o : Option Access). drop_of o ++ (s.running t).effect) pending) ∙ h.effects t (inl is))
            ∙ ap (λ (o : Option ℕ). seen_effect (cond (is_some o) [] (Put k r ∷ []) ++ (v.txns t).net)) (sym (absent_at t k r under));
        returns = λ n back. absurd (cc back);
      }))
  goes_shown step reply w free (drops_first t k r ls b is none there unheld same d e) = put_in step (Do t (Delete k)) reply More w (with_change (did v t (Delete k) ls) t (Drops k)) b d e
      (shown_set s v h (with_change (did v t (Delete k) ls) t (Drops k)) t (record (s.running t) { pending = Some (Delete k) }) (did_txn (v.txns t) (Delete k) v.walk ls) s.asked refl (λ u. refl) (λ u differ. begun_others t u (Delete k) none differ)
      (subst (Fits (record (s.running t) { pending = Some (Delete k) }) (did_txn (v.txns t) (Delete k) v.walk ls)) (sym (begun_own t (Delete k))) (record {
        mark = inl (shown_is ((s.running t).mark) ((v.txns t).mark) Going (h.marks t) is (λ e. cc e));
        pending = refl;
        effect = λ may. ap (λ (es : Effect). Drop k 0 ∷ es) (effect_shown s v h t (ap (λ (u : Option Under). pending_of u t) none) (inl is)) ∙ ap (λ (o : Option ℕ). seen_effect (dropped k o ++ (v.txns t).net)) (sym there);
        returns = λ n back. absurd (cc back);
      })))
  goes_shown step reply w free (drops_leaf t k b is under d e) = put_in step (Continue t) reply Deleted w (change_made v) b d e
      (shown_set s v h (change_made v) t (record (s.running t) { effect = shown_change ((s.running t).pending) Deleted ++ (s.running t).effect; pending = None }) (v.txns t) s.asked refl (by_txn (λ u z. v.txns u ≡ z) v.txns t (v.txns t) refl (λ u differ. refl))
      (λ u differ. ended_others t u (Delete k) (ap (λ (x : Option Under). pending_of x u) under) differ) (record {
        mark = h.marks t;
        pending = refl;
        effect = λ may.
            let pending : pending_of v.under t ≡ Some (Delete k) = ap (λ (x : Option Under). pending_of x t) under ∙ begun_own t (Delete k) in
            ap (λ (o : Option Access). shown_change o Deleted ++ (s.running t).effect) (h.pending t ∙ pending)
            ∙ sym (ap (λ (o : Option Access). drop_of o ++ (s.running t).effect) pending) ∙ h.effects t may;
        returns = λ n back. not_back ((v.txns t).mark) Going n is (λ e. cc e) back;
      }))
  goes_shown step reply w free (takes_later t c cs b is none net_is d e) = put_in step (Continue t) reply More w (with_change v t TakesBack) b d e
      (shown_same s v h (with_change v t TakesBack) s.failed s.asked h.failed (λ u. refl) (λ u. refl) (λ u. none_either (t == u) ∙ sym (ap (λ (x : Option Under). pending_of x u) none)))
  goes_shown step reply w free (takes_first t c cs b is none net_is d e) = put_in step (Continue t) reply More w (with_change (undid_more v t c cs) t TookBack) b d e
      (undone_as t c cs is net_is (with_change (undid_more v t c cs) t TookBack) h.failed (λ u. refl) (λ u. none_either (t == u) ∙ sym (ap (λ (x : Option Under). pending_of x u) none)))
  goes_shown step reply w free (takes_leaf t c cs b is under net_is d e) = put_in step (Continue t) reply More w (change_made v) b d e
      (shown_same s v h (change_made v) s.failed s.asked h.failed (λ u. refl) (λ u. refl) (λ u. sym (ap (λ (x : Option Under). pending_of x u) under ∙ none_either (t == u))))
  goes_shown step reply w free (takes_last t b is under empty d e) = put_in step (Continue t) reply RolledBack w (change_made (dropped_by v t)) b d e
      (gone t s.asked (change_made (dropped_by v t)) refl (λ u. refl) (λ u. sym (ap (λ (x : Option Under). pending_of x u) under ∙ none_either (t == u))) (none_by_mark t RollingBack is (λ e. cc e)))
  goes_shown step reply w free (stays_back t n b may few d e) = put_in step (RollTo t n) reply Done w (marked v t Going) b d e (remarked t Going (λ k back. cc back) (λ going. may))
  goes_shown step reply w free (turns_back t n b may more d e) = put_in step (RollTo t n) reply More w (marked v t (Returning n)) b d e
      (let clear = clear_rollback v t (passes_as v step (RollTo t n) b free) in
      shown_set s v h (marked v t (Returning n)) t (record (s.running t) { mark = Returning n; effect = oldest n (s.running t).effect }) (record (v.txns t) { mark = Returning n }) s.asked refl (λ u. refl) (λ u differ. refl) (record {
        mark = inl refl;
        pending = h.pending t;
        effect = λ is. absurd (never_returns n is);
        returns = λ k back. (let same : n ≡ k = cc back in ap (oldest n) (effect_shown s v h t clear may) ∙ ap (λ (x : ℕ). oldest x (seen_effect ((v.txns t).net))) same);
      }))
  goes_shown step reply w free (gives_back t n c cs b back net_is more d e) = put_in step (Continue t) reply More w (undid_more v t c cs) b d e (undone_more t c cs (inr (n, back, omega (arith, more))) net_is)
  goes_shown step reply w free (is_back t n c cs b back net_is is d e) = put_in step (Continue t) reply Done w (marked (undid_more v t c cs) t Going) b d e
      (back_shown t n (marked (undid_more v t c cs) t Going) cs refl (twice_set v.txns t (record (v.txns t) { net = cs }) (λ x. record x { mark = Going })) (others_pending v.under t (none_by_mark t (Returning n) back (λ q. cc q))) (none_by_mark t (Returning n) back (λ q. cc q))
      (left_shown t n c cs back net_is (omega (arith, is)) ∙ oldest_all n (seen_effect cs) (let long : length (seen_effect cs) ≡ length cs = seen_long cs in omega (arith, long, is))))
  goes_shown step reply w free (leaf_is_back t n b back under is d e) = put_in step (Continue t) reply Done w (change_made (marked v t Going)) b d e
      (back_shown t n (change_made (marked v t Going)) ((v.txns t).net) refl (λ u. refl) (λ u. sym (ap (λ (x : Option Under). pending_of x u) under ∙ none_either (t == u))) (none_by_mark t (Returning n) back (λ q. cc q))
      (h.returns t n back ∙ oldest_all n (seen_effect ((v.txns t).net)) (let long : length (seen_effect ((v.txns t).net)) ≡ length ((v.txns t).net) = seen_long ((v.txns t).net) in omega (arith, long, is))))
  goes_shown step reply w free (logs_page t u b under owner d e) = put_in step (Continue t) reply More w v b d e h
  goes_shown step reply w free (tree_blocks t a u b under other d e) = put_in step (Do t a) reply BlockedTree w v b d e (subst (λ (x : Shown). IsShownBy x v) (sym (tree_shows s t a)) h)
  goes_shown step reply w free (tree_halts t u b under other d e) = put_in step (Continue t) reply BlockedTree w v b d e h
  goes_shown step reply w free (flushes p a d e) = put_in step (FlushPage p) reply Done w v a d e h
  goes_shown step reply w free (forces a d e) = put_in step Force reply Done w (forced_by v) a d e (record {
    failed = h.failed;
    marks = by_force_txn (λ u y. IsMarkShown ((s.running u).mark) y.mark) v.txns v.queue
        (λ u some. inr (shown_is ((s.running u).mark) ((v.txns u).mark) Committing (h.marks u) (queue.waits u some) (λ e. cc e), refl)) (λ u none. h.marks u);
    pending = h.pending;
    effects = by_force_txn (λ u y. MayRollBack y.mark → drop_of (pending_of v.under u) ++ (s.running u).effect ≡ seen_effect y.net) v.txns v.queue (λ u some may. absurd (idle_never may)) (λ u none may. h.effects u may);
    returns = by_force_txn (λ u y. (n : ℕ) → y.mark ≡ Returning n → (s.running u).effect ≡ oldest n (seen_effect y.net)) v.txns v.queue (λ u some n back. absurd (cc back)) (λ u none n back. h.returns u n back);
  })
  goes_shown step reply w free (checkpoints a d e) = put_in step Checkpoint reply Done w v a d e h
  goes_shown step reply w free (switches a d e) = put_in step Switch reply Done w v a d e h
  goes_shown step reply w free (lacks fault wants d e) = put_in step step reply (Refused fault) w v refl d e
      (shown_refused s v v step fault h (or_false v.failed ∙ sym (ap (λ (b : Bool). v.failed || b) (lacks_ok step fault wants))) (λ u. refl) (λ u. refl) refl)
  goes_shown step reply w free (machine_breaks fault ls is d e) = put_in step step reply (Refused fault) w (broken v ls) refl d e
      (shown_refused s v (broken v ls) step fault h (or_true v.failed ∙ sym (ap (λ (b : Bool). v.failed || b) (breaks_ok fault is))) (λ u. refl) (λ u. refl) refl)

  answers_shown : (step : Step) (reply : Reply) (w : View) (o : Option ℕ) → barred v step ≡ o → Answers v step reply w o → Is step reply w
  answers_shown step reply w None is goes = goes_shown step reply w is goes
  answers_shown step reply w (Some f) is refuses = put_in step step reply (Refused f) w v refl refuses.0 refuses.1
      (shown_refused s v v step f h (early_failed v f (early_of v step f is)) (λ u. refl) (λ u. refl) refl)

pub moves_are_shown : MovesAreShown
moves_are_shown base s v w step reply reached h moves = answers_shown s v (queue_marks base v reached) (next_is_idle base v reached) (nothing_goes_on base v reached) (pending_absent base v reached) h step reply w (barred v step) refl moves
