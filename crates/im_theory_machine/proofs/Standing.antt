-- What holds between any two steps of a machine, and that each step keeps it.
use Rattle.std.proofs.Common.{◌≡◌, ◌≢◌, ℕ, nat_eq, is_some, ◌≤◌, ◌<◌, Bool, true, false, cond, List, [], ◌∷◌, ◌++◌, length, Option, Some, None, refl, ap, sym, subst, ◌∙◌, inl, inr, arith}
use Rattle.std.proofs.lemmas.Bool.{cases_lt, eq-eqb, ne_eqb}
use Rattle.std.specs.FinMap.{get}
use Rattle.im_base_types.specs.Keys.{Key}
use Rattle.im_base_types.specs.Maps.{IndexMap}
use Rattle.im_base_types.specs.Answers.{Access, Reply, answer, map_after, Mark, Idle, Going, MustRollBack, RollingBack, Returning, Committing, Insert, Delete, Inserted, Deleted, Absent}
use Rattle.im_base_types.specs.Changes.{Change, undone, apply, Touches}
use Rattle.im_theory_machine.specs.Locks.{Name, Lock, Request, Holds, SameLocks, kept, IsFree}
use Rattle.im_theory_machine.specs.declared.lock_kind.Mode.{Mode}
use Rattle.im_theory_machine.specs.Rows.{asked}
use Rattle.im_theory_machine.specs.View.{Txn, View, Under, Puts, Drops, TakesBack, TookBack, pending_of, kept_lock, own_locks, locked, with_change, change_made, idle, set_txn, did_txn, begun, did, marked, committed_by, dropped_by, undid_more, undid_last, is_among, AreDifferent, queued, forced_by, locks_in, MayRollBack}
use Rattle.im_theory_machine.specs.Machine.{MayTakeBack}
use Rattle.im_theory_machine.specs.Isolation.{kept_story}
use Rattle.im_theory_machine.proofs.Invariant.{Told, Through, through_told, IsReturning, StoryHolds, Fits, by_txn, set_txn-same, set_txn-other, Chain}
use Rattle.im_theory_machine.proofs.Stories.{returns_to, stays_told, gone_one, back_told}
use Rattle.im_theory_machine.proofs.Bools.{cases_number, cases_test}
use Rattle.im_theory_machine.proofs.Queue.{among_pushed, pushed_last, pushed_more, different_pushed, by_force_txn, forced_fits, waiting_told}
use Rattle.im_theory_machine.proofs.Pending.{kept_locks_stay}
use Rattle.im_theory_machine.proofs.Fitting.{puts_off_fits, puts_fits, took_off_fits}
use Rattle.im_theory_machine.proofs.Under.{ahead, ahead_by, IsUnder, not_going, ahead_push, ahead_same, ahead_others, under_others, under_set, under_did, under_undone, under_forced}
use Rattle.im_theory_machine.proofs.Keeping.{Sets-fits, sets_mark, sets_story, IsGranted, did-fits, relocked as relocked_fits, commit_sets, walk_but, drop_sets, undo_sets}

-- the queue has those whose Commit waits, each once
pub record IsQueue (queue : List ℕ) (txns : ℕ → Txn) : Type 0 where
  pub each : AreDifferent queue
  pub waits : (t : ℕ) → is_among t queue ≡ true → (txns t).mark ≡ Committing
  pub all : (t : ℕ) → (txns t).mark ≡ Committing → is_among t queue ≡ true

-- one is set that did not wait, and does not
pub queue_set : (queue : List ℕ) (txns : ℕ → Txn) → IsQueue queue txns → (t : ℕ) (x : Txn) → ((txns t).mark ≡ Committing → ⊥) → (x.mark ≡ Committing → ⊥) → IsQueue queue (set_txn txns t x)
queue_set queue txns h t x before now = record {
  each = h.each;
  waits = by_txn (λ s y. is_among s queue ≡ true → y.mark ≡ Committing) txns t x (λ some. absurd (before (h.waits t some))) (λ s ne some. h.waits s some);
  all = by_txn (λ s y. y.mark ≡ Committing → is_among s queue ≡ true) txns t x (λ is. absurd (now is)) (λ s ne is. h.all s is);
}

pub not_waiting : (m n : Mark) → m ≡ n → (n ≡ Committing → ⊥) → m ≡ Committing → ⊥
not_waiting m n e f is = f (sym e ∙ is)

pub not_going_by : (m n : Mark) → m ≡ n → (n ≡ Going → ⊥) → m ≡ Going → ⊥
not_going_by m n e f is = f (sym e ∙ is)

pub may_not_wait : (m : Mark) → MayRollBack m → m ≡ Committing → ⊥
may_not_wait m (inl e) is = let never : Going ≡ Committing = sym e ∙ is in cc never
may_not_wait m (inr e) is = let never : MustRollBack ≡ Committing = sym e ∙ is in cc never

pub record Stands (v : View) (told : ℕ → List (Access × Reply)) : Type 0 where
  -- a Delete that goes on is told from its first reply on
  pub fits : Fits v.committed v.walk v.txns (ahead v.under told)
  -- numbers that were not given out yet
  pub fresh : (s : ℕ) → v.next ≤ s → v.txns s ≡ idle
  pub untold : (s : ℕ) → v.next ≤ s → told s ≡ []
  pub queue : IsQueue v.queue v.txns
  pub change : IsUnder v.under v.txns v.walk

-- a transaction that is not idle has a number that was given out
old_number : (v : View) → ((s : ℕ) → v.next ≤ s → v.txns s ≡ idle) → (t : ℕ) → ((v.txns t).mark ≡ Idle → ⊥) → t < v.next
old_number v fresh t busy =
    elim (cases_lt t v.next) [
      | inl l ↦ l
      | inr l ↦ absurd (busy (ap (λ (x : Txn). x.mark) (fresh t l)))
    ]

going_busy : (m : Mark) → MayRollBack m → m ≡ Idle → ⊥
going_busy m (inl e) i = cc
going_busy m (inr e) i = cc

rolling_busy : (m : Mark) → m ≡ RollingBack → m ≡ Idle → ⊥
rolling_busy m e i = cc

-- one that takes its changes back is neither idle nor going, nor does it wait for a force
taking_busy : (m : Mark) (cs : List Change) → MayTakeBack m cs → m ≡ Idle → ⊥
taking_busy m cs (inl e) i = cc
taking_busy m cs (inr r) i = let never : Returning r.0 ≡ Idle = sym r.1 ∙ i in cc never

taking_not_going : (m : Mark) (cs : List Change) → MayTakeBack m cs → m ≡ Going → ⊥
taking_not_going m cs (inl e) i = cc
taking_not_going m cs (inr r) i = let never : Returning r.0 ≡ Going = sym r.1 ∙ i in cc never

pub taking_not_waiting : (m : Mark) (cs : List Change) → MayTakeBack m cs → m ≡ Committing → ⊥
taking_not_waiting m cs (inl e) i = cc
taking_not_waiting m cs (inr r) i = let never : Returning r.0 ≡ Committing = sym r.1 ∙ i in cc never

-- and what is left of its story is told of what is left of its net
taken_story : (m : Mark) (ls : List Lock) (w base : IndexMap) (story : List (Access × Reply)) (c : Change) (cs : List Change) → MayTakeBack m cs → StoryHolds m ls w base story (c ∷ cs) → StoryHolds m ls (undone w c) base story cs
taken_story m ls w base story c cs (inl e) h = subst (λ (x : Mark). StoryHolds x ls (undone w c) base story cs) (sym e) tt
taken_story m ls w base story c cs (inr r) h = subst (λ (x : Mark). StoryHolds x ls (undone w c) base story cs) (sym r.1) (gone_one r.0 ls w base story c cs r.2 (subst (λ (x : Mark). StoryHolds x ls w base story (c ∷ cs)) r.1 h))

-- the story of one that is going is told on the committed map, and each front of it
told_at : (ls : List Lock) (base w : IndexMap) (story : List (Access × Reply)) (net : List Change) (m : Mark) → MayRollBack m → StoryHolds m ls w base story net → Through ls w base story net
told_at ls base w story net m (inl e) h = subst (λ (m : Mark). StoryHolds m ls w base story net) e h
told_at ls base w story net m (inr e) h = subst (λ (m : Mark). StoryHolds m ls w base story net) e h

-- what one holds it holds beside a kept lock too
held_beside : (ks ls : List Lock) (n : Name) (md : Mode) → Holds ls n md → Holds (ks ++ ls) n md
held_beside [] ls n md h = h
held_beside (k ∷ ks) ls n md h = inr (held_beside ks ls n md h)

pub granted_of : (v : View) (t : ℕ) (row : List Request) → IsFree (locks_in v) t row → IsGranted v.txns t row
granted_of v t row free s n mode theirs ne ask held either = free s (record { name = n; mode = mode; theirs = theirs; other = ne; ask = ask; held = held_beside (kept_lock v.under v.walk s) (own_locks v s) n theirs held; exclusive = either })

-- one story more, told either way round
pub told_of : (t : ℕ) (a : Access) (r q : Reply) → r ≡ q → (told : ℕ → List (Access × Reply)) (s : ℕ) → cond (nat_eq s t) ((a, r) ∷ told s) (told s) ≡ cond (nat_eq t s) ((a, q) ∷ told s) (told s)
told_of t a r q e told s = ap (λ (x : Reply). cond (nat_eq s t) ((a, x) ∷ told s) (told s)) e ∙ elim (cases_number s t) [
  | inl is ↦ rw (eq-eqb s t is, eq-eqb t s (sym is))
  | inr ne ↦ rw (ne_eqb s t ne, ne_eqb t s (λ e. ne (sym e)))
]

-- of t only what it was told while it had n changes
abbrev pub told_less : ℕ → ℕ → (ℕ → List (Access × Reply)) → ℕ → List (Access × Reply)
told_less t n told s = cond (nat_eq t s) (kept_story n (told s)) (told s)

module _ (v : View) (told : ℕ → List (Access × Reply)) (h : Stands v told) where
  fresh_after : (t : ℕ) (x : Txn) → t < v.next → (s : ℕ) → v.next ≤ s → set_txn v.txns t x s ≡ idle
  fresh_after t x l s k = set_txn-other v.txns t x s (λ e. omega arith) ∙ h.fresh s k

  pub going_through : (t : ℕ) → MayRollBack ((v.txns t).mark) → Through ((v.txns t).locks) v.walk v.committed (ahead v.under told t) ((v.txns t).net)
  going_through t may = told_at ((v.txns t).locks) v.committed v.walk (ahead v.under told t) ((v.txns t).net) ((v.txns t).mark) may (h.fits.story t)

  pub going_told : (t : ℕ) → MayRollBack ((v.txns t).mark) → Told ((v.txns t).locks) v.walk v.committed (ahead v.under told t) ((v.txns t).net)
  going_told t may = through_told ((v.txns t).locks) v.walk v.committed (ahead v.under told t) ((v.txns t).net) (going_through t may)

  pub begun_stands : Stands (begun v) told
  begun_stands =
      let is : v.txns v.next ≡ idle = h.fresh v.next (omega arith) in
      let clear : pending_of v.under v.next ≡ None = not_going v.under v.next v.txns v.walk h.change (not_going_by ((v.txns v.next).mark) Idle (ap (λ (x : Txn). x.mark) is) (λ e. cc e)) in
      let none : (k : Key) → Touches ((v.txns v.next).net) k → ⊥ = λ k touch. subst (λ (x : Txn). Touches x.net k) is touch in
      record {
        fits = Sets-fits v.committed v.walk v.txns (ahead v.under told) v.next (record idle { mark = Going }) (record {
          others_apart = λ s u ns nu ne. h.fits.apart s u ne;
          mine = λ s ns n md a b. absurd a;
          theirs = λ s ns n md a b. absurd b;
          chain = tt;
          chains = λ s ns. h.fits.chain s;
          walk_mine = λ k free. h.fits.walk v.next k free ∙ ap (λ (x : Txn). get (apply v.committed x.net) k) is;
          walk_others = λ s k ns mine others. walk_but v.committed v.walk v.txns (ahead v.under told) h.fits v.next s k (none k) others;
          story = subst (λ (fs : List (Access × Reply)). Told [] v.walk v.committed fs []) (sym (ahead_same v.under v.next told clear ∙ h.untold v.next (omega arith))) refl;
          stories = λ s ns. h.fits.story s;
        });
        fresh = λ s k. set_txn-other v.txns v.next (record idle { mark = Going }) s (λ e. omega arith) ∙ h.fresh s (omega arith);
        untold = λ s k. h.untold s (omega arith);
        queue = queue_set v.queue v.txns h.queue v.next (record idle { mark = Going }) (not_waiting ((v.txns v.next).mark) Idle (ap (λ (x : Txn). x.mark) is) (λ e. cc e)) (λ e. cc e);
        change = under_set v.txns v.next (record idle { mark = Going }) (λ n md a. absurd a) v.under v.walk clear h.change;
      }

  pub did_stands : (t : ℕ) (a : Access) (ls : List Lock) → pending_of v.under t ≡ None → (v.txns t).mark ≡ Going → IsFree (locks_in v) t (asked a v.walk) → SameLocks ls (kept (asked a v.walk) ((v.txns t).locks)) → Stands (did v t a ls) (λ s. cond (nat_eq s t) ((a, answer a v.walk) ∷ told s) (told s))
  did_stands t a ls clear is free same =
      let old : t < v.next = old_number v h.fresh t (going_busy ((v.txns t).mark) (inl is)) in
      record {
        fits = subst (λ (fs : ℕ → List (Access × Reply)). Fits v.committed (map_after a v.walk) (set_txn v.txns t (did_txn (v.txns t) a v.walk ls)) fs) (λ i s. ahead_push v.under t told (a, answer a v.walk) clear s i)
            (relocked_fits v.committed (map_after a v.walk) v.txns (λ s. cond (nat_eq s t) ((a, answer a v.walk) ∷ ahead v.under told s) (ahead v.under told s)) t (did_txn (v.txns t) a v.walk (kept (asked a v.walk) ((v.txns t).locks))) ls
            (did-fits v.committed v.walk v.txns (ahead v.under told) h.fits t a (granted_of v t (asked a v.walk) free) (going_through t (inl is))) same);
        fresh = fresh_after t (did_txn (v.txns t) a v.walk ls) old;
        untold = λ s k. let ne : s ≢ t = λ e. omega arith in rw (ne_eqb s t ne) (h.untold s k);
        queue = queue_set v.queue v.txns h.queue t (did_txn (v.txns t) a v.walk ls) (not_waiting ((v.txns t).mark) Going is (λ e. cc e)) (λ e. cc e);
        change = under_did v.under v.txns v.walk t a ls clear h.change free same;
      }

  pub die_stands : (t : ℕ) → pending_of v.under t ≡ None → (v.txns t).mark ≡ Going → Stands (marked v t MustRollBack) told
  die_stands t clear is = record {
    fits = Sets-fits v.committed v.walk v.txns (ahead v.under told) t (record (v.txns t) { mark = MustRollBack }) (sets_mark v.committed v.walk v.txns (ahead v.under told) h.fits t MustRollBack (going_through t (inl is)));
    fresh = fresh_after t (record (v.txns t) { mark = MustRollBack }) (old_number v h.fresh t (going_busy ((v.txns t).mark) (inl is)));
    untold = h.untold;
    queue = queue_set v.queue v.txns h.queue t (record (v.txns t) { mark = MustRollBack }) (not_waiting ((v.txns t).mark) Going is (λ e. cc e)) (λ e. cc e);
    change = under_set v.txns t (record (v.txns t) { mark = MustRollBack }) (λ n md held. held) v.under v.walk clear h.change;
  }

  pub commit_stands : (t : ℕ) → pending_of v.under t ≡ None → (v.txns t).mark ≡ Going → Stands (committed_by v t) told
  commit_stands t clear is = record {
    fits = Sets-fits (apply v.committed ((v.txns t).net)) v.walk v.txns (ahead v.under told) t idle (commit_sets v.committed v.walk v.txns (ahead v.under told) h.fits t);
    fresh = fresh_after t idle (old_number v h.fresh t (going_busy ((v.txns t).mark) (inl is)));
    untold = h.untold;
    queue = queue_set v.queue v.txns h.queue t idle (not_waiting ((v.txns t).mark) Going is (λ e. cc e)) (λ e. cc e);
    change = under_set v.txns t idle (λ n md a. absurd a) v.under v.walk clear h.change;
  }

  pub queue_stands : (t : ℕ) → pending_of v.under t ≡ None → (v.txns t).mark ≡ Going → Stands (queued v t) told
  queue_stands t clear is =
      let new : is_among t v.queue ≡ false = elim (cases_test (is_among t v.queue)) [
        | inl some ↦ absurd (not_waiting ((v.txns t).mark) Going is (λ e. cc e) (h.queue.waits t some))
        | inr none ↦ none
      ] in
      record {
        fits = Sets-fits v.committed v.walk v.txns (ahead v.under told) t (record (v.txns t) { mark = Committing }) (sets_mark v.committed v.walk v.txns (ahead v.under told) h.fits t Committing (going_through t (inl is)));
        fresh = fresh_after t (record (v.txns t) { mark = Committing }) (old_number v h.fresh t (going_busy ((v.txns t).mark) (inl is)));
        untold = h.untold;
        queue = record {
          each = different_pushed t v.queue h.queue.each new;
          waits = by_txn (λ s y. is_among s (v.queue ++ t ∷ []) ≡ true → y.mark ≡ Committing) v.txns t (record (v.txns t) { mark = Committing }) (λ some. refl)
              (λ s ne some. elim (among_pushed s t v.queue some) [ inl before ↦ h.queue.waits s before | inr e ↦ absurd (ne e) ]);
          all = by_txn (λ s y. y.mark ≡ Committing → is_among s (v.queue ++ t ∷ []) ≡ true) v.txns t (record (v.txns t) { mark = Committing }) (λ waits. pushed_last t t v.queue refl)
              (λ s ne waits. pushed_more s t v.queue (h.queue.all s waits));
        };
        change = under_set v.txns t (record (v.txns t) { mark = Committing }) (λ n md held. held) v.under v.walk clear h.change;
      }

  pub waiting_story : (t : ℕ) → (v.txns t).mark ≡ Committing → Told ((v.txns t).locks) v.walk v.committed (ahead v.under told t) ((v.txns t).net)
  waiting_story t is = waiting_told ((v.txns t).locks) v.committed v.walk (ahead v.under told t) ((v.txns t).net) ((v.txns t).mark) is (h.fits.story t)

  pub force_stands : Stands (forced_by v) told
  force_stands = record {
    fits = forced_fits v.committed v.walk v.txns (ahead v.under told) v.queue h.fits h.queue.each;
    fresh = λ s k. by_force_txn (λ u y. v.next ≤ u → y ≡ idle) v.txns v.queue (λ u some old. refl) (λ u none old. h.fresh u old) s k;
    untold = h.untold;
    queue = record {
      each = tt;
      waits = λ t some. absurd (cc some);
      all = by_force_txn (λ t y. y.mark ≡ Committing → is_among t [] ≡ true) v.txns v.queue (λ t some is. cc is) (λ t none is. let never : true ≡ false = sym (h.queue.all t is) ∙ none in cc never);
    };
    change = under_forced v.txns v.queue h.queue.waits v.under v.walk h.change;
  }

  pub drop_stands : (t : ℕ) → pending_of v.under t ≡ None → MayRollBack ((v.txns t).mark) → (v.txns t).net ≡ [] → Stands (dropped_by v t) told
  drop_stands t clear may empty = record {
    fits = Sets-fits v.committed v.walk v.txns (ahead v.under told) t idle (drop_sets v.committed v.walk v.txns (ahead v.under told) h.fits t empty);
    fresh = fresh_after t idle (old_number v h.fresh t (going_busy ((v.txns t).mark) may));
    untold = h.untold;
    queue = queue_set v.queue v.txns h.queue t idle (may_not_wait ((v.txns t).mark) may) (λ e. cc e);
    change = under_set v.txns t idle (λ n md a. absurd a) v.under v.walk clear h.change;
  }

  pub turn_stands : (t : ℕ) → pending_of v.under t ≡ None → MayRollBack ((v.txns t).mark) → Stands (marked v t RollingBack) told
  turn_stands t clear may = record {
    fits = Sets-fits v.committed v.walk v.txns (ahead v.under told) t (record (v.txns t) { mark = RollingBack }) (sets_mark v.committed v.walk v.txns (ahead v.under told) h.fits t RollingBack tt);
    fresh = fresh_after t (record (v.txns t) { mark = RollingBack }) (old_number v h.fresh t (going_busy ((v.txns t).mark) may));
    untold = h.untold;
    queue = queue_set v.queue v.txns h.queue t (record (v.txns t) { mark = RollingBack }) (may_not_wait ((v.txns t).mark) may) (λ e. cc e);
    change = under_set v.txns t (record (v.txns t) { mark = RollingBack }) (λ n md held. held) v.under v.walk clear h.change;
  }

  -- one that takes its changes back has no access that goes on
  pub taking_clear : (t : ℕ) (cs : List Change) → MayTakeBack ((v.txns t).mark) cs → pending_of v.under t ≡ None
  taking_clear t cs may = not_going v.under t v.txns v.walk h.change (taking_not_going ((v.txns t).mark) cs may)

  pub rolling_clear : (t : ℕ) → (v.txns t).mark ≡ RollingBack → pending_of v.under t ≡ None
  rolling_clear t is = taking_clear t [] (inl is)

  taken_change : (t : ℕ) (c : Change) (cs : List Change) → pending_of v.under t ≡ None → (v.txns t).net ≡ c ∷ cs → IsUnder v.under v.txns (undone v.walk c)
  taken_change t c cs clear net_is =
      under_undone v.under v.txns v.walk v.committed t c cs clear (subst (λ (net : List Change). Chain ((v.txns t).locks) v.walk v.committed net) net_is (h.fits.chain t)) h.change

  -- its newest change is taken back
  took_off : (t : ℕ) (c : Change) (cs : List Change) → MayTakeBack ((v.txns t).mark) cs → (v.txns t).net ≡ c ∷ cs → Fits v.committed (undone v.walk c) (set_txn v.txns t (record (v.txns t) { net = cs })) (ahead v.under told)
  took_off t c cs may net_is = took_off_fits v.committed v.walk v.txns (ahead v.under told) t c cs h.fits net_is
      (taken_story ((v.txns t).mark) ((v.txns t).locks) v.walk v.committed (ahead v.under told t) c cs may
      (subst (λ (net : List Change). StoryHolds ((v.txns t).mark) ((v.txns t).locks) v.walk v.committed (ahead v.under told t) net) net_is (h.fits.story t)))

  pub undo_more_stands : (t : ℕ) (c : Change) (cs : List Change) → MayTakeBack ((v.txns t).mark) cs → (v.txns t).net ≡ c ∷ cs → Stands (undid_more v t c cs) told
  undo_more_stands t c cs may net_is =
      let clear = taking_clear t cs may in
      let waits = taking_not_waiting ((v.txns t).mark) cs may in
      record {
        fits = subst (λ (fs : ℕ → List (Access × Reply)). Fits v.committed (undone v.walk c) (set_txn v.txns t (record (v.txns t) { net = cs })) fs) (λ i s. sym (ahead_others v.under t told clear s) i) (took_off t c cs may net_is);
        fresh = fresh_after t (record (v.txns t) { net = cs }) (old_number v h.fresh t (taking_busy ((v.txns t).mark) cs may));
        untold = h.untold;
        queue = queue_set v.queue v.txns h.queue t (record (v.txns t) { net = cs }) waits waits;
        change = under_others v.under t (set_txn v.txns t (record (v.txns t) { net = cs })) (undone v.walk c)
            (under_set v.txns t (record (v.txns t) { net = cs }) (λ n md held. held) v.under (undone v.walk c) clear (taken_change t c cs clear net_is));
      }

  pub undo_last_stands : (t : ℕ) (c : Change) → (v.txns t).mark ≡ RollingBack → (v.txns t).net ≡ c ∷ [] → Stands (undid_last v t c) told
  undo_last_stands t c is net_is = record {
    fits = subst (λ (fs : ℕ → List (Access × Reply)). Fits v.committed (undone v.walk c) (set_txn v.txns t idle) fs) (λ i s. sym (ahead_others v.under t told (rolling_clear t is) s) i)
        (Sets-fits v.committed (undone v.walk c) v.txns (ahead v.under told) t idle
        (undo_sets v.committed v.walk v.txns (ahead v.under told) h.fits t c [] net_is idle refl (λ n md k. absurd k) tt tt));
    fresh = fresh_after t idle (old_number v h.fresh t (rolling_busy ((v.txns t).mark) is));
    untold = h.untold;
    queue = queue_set v.queue v.txns h.queue t idle (not_waiting ((v.txns t).mark) RollingBack is (λ e. cc e)) (λ e. cc e);
    change = under_others v.under t (set_txn v.txns t idle) (undone v.walk c)
        (under_set v.txns t idle (λ n md a. absurd a) v.under (undone v.walk c) (rolling_clear t is) (taken_change t c [] (rolling_clear t is) net_is));
  }

  -- ---- one that returns to its first n changes

  module _ (t n : ℕ) (clear : pending_of v.under t ≡ None) (may : MayRollBack ((v.txns t).mark)) where
    own_through : Through ((v.txns t).locks) v.walk v.committed (told t) ((v.txns t).net)
    own_through = subst (λ (fs : List (Access × Reply)). Through ((v.txns t).locks) v.walk v.committed fs ((v.txns t).net)) (ahead_same v.under t told clear) (going_through t may)

    -- it has no more
    pub all_stands : Stands (marked v t Going) told
    all_stands = record {
      fits = Sets-fits v.committed v.walk v.txns (ahead v.under told) t (record (v.txns t) { mark = Going }) (sets_mark v.committed v.walk v.txns (ahead v.under told) h.fits t Going (going_through t may));
      fresh = fresh_after t (record (v.txns t) { mark = Going }) (old_number v h.fresh t (going_busy ((v.txns t).mark) may));
      untold = h.untold;
      queue = queue_set v.queue v.txns h.queue t (record (v.txns t) { mark = Going }) (may_not_wait ((v.txns t).mark) may) (λ e. cc e);
      change = under_set v.txns t (record (v.txns t) { mark = Going }) (λ m md held. held) v.under v.walk clear h.change;
    }

    pub all_told : length ((v.txns t).net) ≤ n → (s : ℕ) → told_less t n told s ≡ told s
    all_told low s = elim (cases_number t s) [
      | inl e ↦ rw (eq-eqb t s e) (subst (λ (u : ℕ). kept_story n (told u) ≡ told u) e (stays_told n ((v.txns t).locks) v.walk v.committed (told t) ((v.txns t).net) low own_through))
      | inr ne ↦ rw (ne_eqb t s ne)
    ]

    -- it turns, and of its story only what it was told while it had n changes is left
    less_same : ahead v.under (told_less t n told) t ≡ kept_story n (told t)
    less_same = ahead_same v.under t (told_less t n told) clear ∙ ap (λ (b : Bool). cond b (kept_story n (told t)) (told t)) (eq-eqb t t refl)

    less_others : (s : ℕ) → s ≢ t → ahead v.under (told_less t n told) s ≡ ahead v.under told s
    less_others s ne = ahead_by v.under (told_less t n told) told s (ap (λ (b : Bool). cond b (kept_story n (told s)) (told s)) (ne_eqb t s (λ e. ne (sym e))))

    pub return_stands : n < length ((v.txns t).net) → Stands (marked v t (Returning n)) (told_less t n told)
    return_stands over =
        let old : t < v.next = old_number v h.fresh t (going_busy ((v.txns t).mark) may) in
        record {
          fits = Sets-fits v.committed v.walk v.txns (ahead v.under (told_less t n told)) t (record (v.txns t) { mark = Returning n })
              (sets_story v.committed v.walk v.txns (ahead v.under told) h.fits t (Returning n) (ahead v.under (told_less t n told))
              (subst (λ (fs : List (Access × Reply)). IsReturning n ((v.txns t).locks) v.walk v.committed fs ((v.txns t).net)) (sym less_same)
              (returns_to n ((v.txns t).locks) v.walk v.committed (told t) ((v.txns t).net) (omega (arith, over)) own_through)) less_others);
          fresh = fresh_after t (record (v.txns t) { mark = Returning n }) old;
          untold = λ s k. let ne : t ≢ s = λ e. omega arith in rw (ne_eqb t s ne) (h.untold s k);
          queue = queue_set v.queue v.txns h.queue t (record (v.txns t) { mark = Returning n }) (may_not_wait ((v.txns t).mark) may) (λ e. cc e);
          change = under_set v.txns t (record (v.txns t) { mark = Returning n }) (λ m md held. held) v.under v.walk clear h.change;
        }

  -- n are left, and it is going
  pub back_stands : (t n : ℕ) → pending_of v.under t ≡ None → (v.txns t).mark ≡ Returning n → length ((v.txns t).net) ≡ n → Stands (marked v t Going) told
  back_stands t n clear is whole =
      let busy : (v.txns t).mark ≡ Idle → ⊥ = λ i. let never : Returning n ≡ Idle = sym is ∙ i in cc never in
      let waits : (v.txns t).mark ≡ Committing → ⊥ = λ i. let never : Returning n ≡ Committing = sym is ∙ i in cc never in
      record {
        fits = Sets-fits v.committed v.walk v.txns (ahead v.under told) t (record (v.txns t) { mark = Going }) (sets_mark v.committed v.walk v.txns (ahead v.under told) h.fits t Going
            (back_told n ((v.txns t).locks) v.walk v.committed (ahead v.under told t) ((v.txns t).net) whole
            (subst (λ (m : Mark). StoryHolds m ((v.txns t).locks) v.walk v.committed (ahead v.under told t) ((v.txns t).net)) is (h.fits.story t))));
        fresh = fresh_after t (record (v.txns t) { mark = Going }) (old_number v h.fresh t busy);
        untold = h.untold;
        queue = queue_set v.queue v.txns h.queue t (record (v.txns t) { mark = Going }) waits (λ e. cc e);
        change = under_set v.txns t (record (v.txns t) { mark = Going }) (λ m md held. held) v.under v.walk clear h.change;
      }

  -- ---- structure changes that are made page by page

  module _ (none : v.under ≡ None) where
    fits_alone : Fits v.committed v.walk v.txns told
    fits_alone = subst (λ (u : Option Under). Fits v.committed v.walk v.txns (ahead u told)) none h.fits

    free_alone : (t : ℕ) (row : List Request) → IsFree (locks_in v) t row → IsFree (λ s. (v.txns s).locks) t row
    free_alone t row free = subst (λ (u : Option Under). IsFree (λ s. kept_lock u v.walk s ++ own_locks v s) t row) none free

    pub put_begins : (t : ℕ) (k : Key) (r : ℕ) (ls : List Lock) → (v.txns t).mark ≡ Going → get v.walk k ≡ None → IsFree (locks_in v) t (asked (Insert k r) v.walk) → SameLocks ls (kept (asked (Insert k r) v.walk) ((v.txns t).locks))
        → Stands (with_change (locked v t ls) t (Puts k r)) told
    put_begins t k r ls is absent free same = record {
      fits = puts_off_fits v.committed v.walk v.txns told t (asked (Insert k r) v.walk) ls fits_alone is (free_alone t (asked (Insert k r) v.walk) free) same;
      fresh = fresh_after t (record (v.txns t) { locks = ls }) (old_number v h.fresh t (going_busy ((v.txns t).mark) (inl is)));
      untold = h.untold;
      queue = queue_set v.queue v.txns h.queue t (record (v.txns t) { locks = ls }) (not_waiting ((v.txns t).mark) Going is (λ e. cc e)) (not_waiting ((v.txns t).mark) Going is (λ e. cc e));
      change = (ap (λ (x : Txn). x.mark) (set_txn-same v.txns t (record (v.txns t) { locks = ls })) ∙ is, kept_locks_stay.begins v.txns v.walk t k r ls (free_alone t (asked (Insert k r) v.walk) free) absent same);
    }

    pub drop_begins : (t : ℕ) (k : Key) (r : ℕ) (ls : List Lock) → (v.txns t).mark ≡ Going → get v.walk k ≡ Some r → IsFree (locks_in v) t (asked (Delete k) v.walk) → SameLocks ls (kept (asked (Delete k) v.walk) ((v.txns t).locks))
        → Stands (with_change (did v t (Delete k) ls) t (Drops k)) told
    drop_begins t k r ls is there free same = record {
      fits = subst (λ (fs : ℕ → List (Access × Reply)). Fits v.committed (map_after (Delete k) v.walk) (set_txn v.txns t (did_txn (v.txns t) (Delete k) v.walk ls)) fs) (λ i s. told_of t (Delete k) (answer (Delete k) v.walk) Deleted (ap (λ (o : Option ℕ). cond (is_some o) Deleted Absent) there) told s i)
          (relocked_fits v.committed (map_after (Delete k) v.walk) v.txns (λ s. cond (nat_eq s t) ((Delete k, answer (Delete k) v.walk) ∷ told s) (told s)) t (did_txn (v.txns t) (Delete k) v.walk (kept (asked (Delete k) v.walk) ((v.txns t).locks))) ls
          (did-fits v.committed v.walk v.txns told fits_alone t (Delete k) (granted_of v t (asked (Delete k) v.walk) free)
          (subst (λ (u : Option Under). Through ((v.txns t).locks) v.walk v.committed (ahead u told t) ((v.txns t).net)) none (going_through t (inl is)))) same);
      fresh = fresh_after t (did_txn (v.txns t) (Delete k) v.walk ls) (old_number v h.fresh t (going_busy ((v.txns t).mark) (inl is)));
      untold = h.untold;
      queue = queue_set v.queue v.txns h.queue t (did_txn (v.txns t) (Delete k) v.walk ls) (not_waiting ((v.txns t).mark) Going is (λ e. cc e)) (λ e. cc e);
      change = ap (λ (x : Txn). x.mark) (set_txn-same v.txns t (did_txn (v.txns t) (Delete k) v.walk ls));
    }

    pub take_waits : (t : ℕ) → Stands (with_change v t TakesBack) told
    take_waits t = record { fits = fits_alone; fresh = h.fresh; untold = h.untold; queue = h.queue; change = tt }

    pub take_begins : (t : ℕ) (c : Change) (cs : List Change) → MayTakeBack ((v.txns t).mark) cs → (v.txns t).net ≡ c ∷ cs → Stands (with_change (undid_more v t c cs) t TookBack) told
    take_begins t c cs may net_is =
        let on = undo_more_stands t c cs may net_is in
        record { fits = subst (λ (u : Option Under). Fits v.committed (undone v.walk c) (set_txn v.txns t (record (v.txns t) { net = cs })) (ahead u told)) none (took_off t c cs may net_is); fresh = on.fresh; untold = on.untold; queue = on.queue; change = tt }

  pub put_ends : (t : ℕ) (k : Key) (r : ℕ) → (v.txns t).mark ≡ Going → v.under ≡ Some (record { owner = t; aim = Puts k r })
      → Stands (change_made (did v t (Insert k r) ((v.txns t).locks))) (λ s. cond (nat_eq s t) ((Insert k r, Inserted) ∷ told s) (told s))
  put_ends t k r is under =
      let old : t < v.next = old_number v h.fresh t (going_busy ((v.txns t).mark) (inl is)) in
      record {
        fits = puts_fits v.committed v.walk v.txns told t k r (subst (λ (u : Option Under). Fits v.committed v.walk v.txns (ahead u told)) under h.fits) is (subst (λ (u : Option Under). IsUnder u v.txns v.walk) under h.change).1;
        fresh = fresh_after t (did_txn (v.txns t) (Insert k r) v.walk ((v.txns t).locks)) old;
        untold = λ s l. let ne : s ≢ t = λ e. omega arith in rw (ne_eqb s t ne) (h.untold s l);
        queue = queue_set v.queue v.txns h.queue t (did_txn (v.txns t) (Insert k r) v.walk ((v.txns t).locks)) (not_waiting ((v.txns t).mark) Going is (λ e. cc e)) (λ e. cc e);
        change = tt;
      }

  pub drop_ends : (t : ℕ) (k : Key) → (v.txns t).mark ≡ Going → v.under ≡ Some (record { owner = t; aim = Drops k }) → Stands (change_made v) (λ s. cond (nat_eq t s) ((Delete k, Deleted) ∷ told s) (told s))
  drop_ends t k is under =
      let old : t < v.next = old_number v h.fresh t (going_busy ((v.txns t).mark) (inl is)) in
      record {
        fits = subst (λ (u : Option Under). Fits v.committed v.walk v.txns (ahead u told)) under h.fits;
        fresh = h.fresh;
        untold = λ s l. let ne : t ≢ s = λ e. omega arith in rw (ne_eqb t s ne) (h.untold s l);
        queue = h.queue;
        change = tt;
      }

  module _ (t : ℕ) (under : v.under ≡ Some (record { owner = t; aim = TookBack })) where
    fits_taken : Fits v.committed v.walk v.txns told
    fits_taken = subst (λ (u : Option Under). Fits v.committed v.walk v.txns (ahead u told)) under h.fits

    pub take_ends : Stands (change_made v) told
    take_ends = record { fits = fits_taken; fresh = h.fresh; untold = h.untold; queue = h.queue; change = tt }

    pub take_is_over : (v.txns t).mark ≡ RollingBack → (v.txns t).net ≡ [] → Stands (change_made (dropped_by v t)) told
    take_is_over is empty = record {
      fits = Sets-fits v.committed v.walk v.txns told t idle (drop_sets v.committed v.walk v.txns told fits_taken t empty);
      fresh = fresh_after t idle (old_number v h.fresh t (rolling_busy ((v.txns t).mark) is));
      untold = h.untold;
      queue = queue_set v.queue v.txns h.queue t idle (not_waiting ((v.txns t).mark) RollingBack is (λ e. cc e)) (λ e. cc e);
      change = tt;
    }

  pub break_stands : Stands (record v { failed = true }) told
  break_stands = record {
    fits = record { apart = h.fits.apart; chain = h.fits.chain; walk = h.fits.walk; story = h.fits.story };
    fresh = h.fresh;
    untold = h.untold;
    queue = h.queue;
    change = h.change;
  }
