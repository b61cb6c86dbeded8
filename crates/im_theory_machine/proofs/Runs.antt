-- What holds between steps over whole runs, with the stories of a trace.
use Rattle.std.proofs.Common.{◌≡◌, ℕ, nat_eq, is_some, Bool, true, false, cond, List, [], ◌∷◌, ◌++◌, length, Option, Some, None, refl, ap, sym, subst, ◌∙◌, inl, inr, arith}
use Rattle.std.proofs.lemmas.Bool.{true≢false, eq-eqb, ne_eqb}
use Rattle.std.specs.FinMap.{get}
use Rattle.im_base_types.specs.Keys.{Key}
use Rattle.im_base_types.specs.Maps.{IndexMap, From, Above, first, last_below}
use Rattle.im_base_types.specs.Answers.{Access, Reply, More, RolledBack, BlockedTree, Step, answer, Mark, Idle, Going, MustRollBack, RollingBack, Returning, Committing, is_answer, Do, Commit, Rollback, RollTo, Refused, Blocked, Die, Started, Found, Entry, End, Entries, Committed, Done, found, entry, Fetch, Seek, Next, Prev, Scan, Insert, Delete, Duplicate, Inserted, Deleted, Absent, Begin, Continue, FlushPage, Force, Checkpoint, Switch}
use Rattle.im_base_types.specs.Changes.{Change}
use Rattle.im_theory_machine.specs.Locks.{Lock}
use Rattle.im_theory_machine.specs.View.{Txn, View, Under, of_others, Puts, Drops, TakesBack, TookBack, pending_of, locked, with_change, change_made, idle, set_txn, did_txn, begun, did, marked, committed_by, dropped_by, undid_more, undid_last, is_among, queued, forced_by, MayRollBack, relocked, broken}
use Rattle.im_theory_machine.specs.Machine.{barred, barred_to_rollback, MayTakeBack, Answers, Goes, Moves, begins, does, waits, dies, commits, queues, drops, turns, undoes, ends, puts_later, puts, drops_first, drops_leaf, takes_later, takes_first, takes_leaf, takes_last, stays_back, turns_back, gives_back, is_back, leaf_is_back, logs_page, tree_blocks, tree_halts, flushes, forces, checkpoints, switches, lacks, breaks, Run, start, or_else, fault_if}
use Rattle.im_theory_machine.specs.Isolation.{access_of, is_more, is_return, pending_after, kept_after}
use Rattle.im_base_types.specs.Refusals.{failed as has_failed, unfinished}
use Rattle.im_theory_machine.proofs.Invariant.{by_txn, set_txn-same}
use Rattle.im_theory_machine.proofs.Bools.{cases_number, cases_test}
use Rattle.im_theory_machine.proofs.Queue.{among_pushed, pushed_last, pushed_more, different_pushed, by_force_txn}
use Rattle.im_theory_machine.proofs.Under.{none_either, others_pending, none_by}
use Rattle.im_theory_machine.proofs.Standing.{IsQueue, Stands, queue_set, not_waiting, may_not_wait, taking_not_waiting, taking_clear, rolling_clear, begun_stands, did_stands, die_stands, commit_stands, queue_stands, force_stands, drop_stands, turn_stands, undo_more_stands, undo_last_stands, all_stands, all_told, return_stands, back_stands, put_begins, drop_begins, take_waits, take_begins, put_ends, drop_ends, take_ends, take_is_over, break_stands}

-- ---- the queue alone, also in a machine that has failed

queue_at : (v w : View) → w ≡ v → IsQueue v.queue v.txns → IsQueue w.queue w.txns
queue_at v w e h = subst (λ (u : View). IsQueue u.queue u.txns) (sym e) h

queue_push : (queue : List ℕ) (txns : ℕ → Txn) → IsQueue queue txns → (t : ℕ) → (txns t).mark ≡ Going → IsQueue (queue ++ t ∷ []) (set_txn txns t (record (txns t) { mark = Committing }))
queue_push queue txns h t is =
    let new : is_among t queue ≡ false = elim (cases_test (is_among t queue)) [
      | inl some ↦ absurd (not_waiting ((txns t).mark) Going is (λ e. cc e) (h.waits t some))
      | inr none ↦ none
    ] in
    record {
      each = different_pushed t queue h.each new;
      waits = by_txn (λ s y. is_among s (queue ++ t ∷ []) ≡ true → y.mark ≡ Committing) txns t (record (txns t) { mark = Committing }) (λ some. refl)
          (λ s ne some. elim (among_pushed s t queue some) [ inl before ↦ h.waits s before | inr e ↦ absurd (ne e) ]);
      all = by_txn (λ s y. y.mark ≡ Committing → is_among s (queue ++ t ∷ []) ≡ true) txns t (record (txns t) { mark = Committing }) (λ held. pushed_last t t queue refl)
          (λ s ne held. pushed_more s t queue (h.all s held));
    }

pub queue_breaks : (v : View) (ls : ℕ → List Lock) → IsQueue v.queue v.txns → IsQueue (broken v ls).queue (broken v ls).txns
queue_breaks v ls h = record { each = h.each; waits = h.waits; all = h.all }

-- one that has taken its newest change back
pub given_mark : (v : View) (t n : ℕ) (c : Change) (cs : List Change) → (v.txns t).mark ≡ Returning n → ((undid_more v t c cs).txns t).mark ≡ Returning n
given_mark v t n c cs is = ap (λ (x : Txn). x.mark) (set_txn-same v.txns t (record (v.txns t) { net = cs })) ∙ is

pub given_net : (v : View) (t : ℕ) (c : Change) (cs : List Change) → ((undid_more v t c cs).txns t).net ≡ cs
given_net v t c cs = ap (λ (x : Txn). x.net) (set_txn-same v.txns t (record (v.txns t) { net = cs }))

pub queue_goes : (v w : View) (step : Step) (reply : Reply) → IsQueue v.queue v.txns → (v.txns v.next).mark ≡ Idle → Goes v step reply w → IsQueue w.queue w.txns
queue_goes v w step reply h fresh (begins a l b c) = queue_at (begun v) w c (queue_set v.queue v.txns h v.next (record idle { mark = Going }) (not_waiting ((v.txns v.next).mark) Idle fresh (λ e. cc e)) (λ e. cc e))
queue_goes v w step reply h fresh (does t a ls b is free same d e) = queue_at (did v t a ls) w e (queue_set v.queue v.txns h t (did_txn (v.txns t) a v.walk ls) (not_waiting ((v.txns t).mark) Going is (λ e. cc e)) (λ e. cc e))
queue_goes v w step reply h fresh (waits t a holder b is wait d e) = queue_at v w e h
queue_goes v w step reply h fresh (dies t a b is die d e) = queue_at (marked v t MustRollBack) w e (queue_set v.queue v.txns h t (record (v.txns t) { mark = MustRollBack }) (not_waiting ((v.txns t).mark) Going is (λ e. cc e)) (λ e. cc e))
queue_goes v w step reply h fresh (commits t b is alone d e) = queue_at (committed_by v t) w e (queue_set v.queue v.txns h t idle (not_waiting ((v.txns t).mark) Going is (λ e. cc e)) (λ e. cc e))
queue_goes v w step reply h fresh (queues t c cs b is some d e) = queue_at (queued v t) w e (queue_push v.queue v.txns h t is)
queue_goes v w step reply h fresh (drops t b may none d e) = queue_at (dropped_by v t) w e (queue_set v.queue v.txns h t idle (may_not_wait ((v.txns t).mark) may) (λ e. cc e))
queue_goes v w step reply h fresh (turns t c cs b may net d e) = queue_at (marked v t RollingBack) w e (queue_set v.queue v.txns h t (record (v.txns t) { mark = RollingBack }) (may_not_wait ((v.txns t).mark) may) (λ e. cc e))
queue_goes v w step reply h fresh (undoes t x y xs b rolling net d e) = queue_at (undid_more v t x (y ∷ xs)) w e (queue_set v.queue v.txns h t (record (v.txns t) { net = y ∷ xs })
    (not_waiting ((v.txns t).mark) RollingBack rolling (λ e. cc e)) (not_waiting ((v.txns t).mark) RollingBack rolling (λ e. cc e)))
queue_goes v w step reply h fresh (ends t x b rolling net d e) = queue_at (undid_last v t x) w e (queue_set v.queue v.txns h t idle (not_waiting ((v.txns t).mark) RollingBack rolling (λ e. cc e)) (λ e. cc e))
queue_goes v w step reply h fresh (puts_later t k r ls b is none absent free same d e) = queue_at (with_change (locked v t ls) t (Puts k r)) w e (queue_set v.queue v.txns h t (record (v.txns t) { locks = ls })
    (not_waiting ((v.txns t).mark) Going is (λ e. cc e)) (not_waiting ((v.txns t).mark) Going is (λ e. cc e)))
queue_goes v w step reply h fresh (puts t k r b is under d e) = queue_at (change_made (did v t (Insert k r) ((v.txns t).locks))) w e
    (queue_set v.queue v.txns h t (did_txn (v.txns t) (Insert k r) v.walk ((v.txns t).locks)) (not_waiting ((v.txns t).mark) Going is (λ e. cc e)) (λ e. cc e))
queue_goes v w step reply h fresh (drops_first t k r ls b is none there free same d e) = queue_at (with_change (did v t (Delete k) ls) t (Drops k)) w e
    (queue_set v.queue v.txns h t (did_txn (v.txns t) (Delete k) v.walk ls) (not_waiting ((v.txns t).mark) Going is (λ e. cc e)) (λ e. cc e))
queue_goes v w step reply h fresh (drops_leaf t k b is under d e) = queue_at (change_made v) w e h
queue_goes v w step reply h fresh (takes_later t c cs b rolling none net d e) = queue_at (with_change v t TakesBack) w e h
queue_goes v w step reply h fresh (takes_first t c cs b may none net d e) = queue_at (with_change (undid_more v t c cs) t TookBack) w e (queue_set v.queue v.txns h t (record (v.txns t) { net = cs })
    (taking_not_waiting ((v.txns t).mark) cs may) (taking_not_waiting ((v.txns t).mark) cs may))
queue_goes v w step reply h fresh (takes_leaf t c cs b rolling under net d e) = queue_at (change_made v) w e h
queue_goes v w step reply h fresh (takes_last t b rolling under net d e) = queue_at (change_made (dropped_by v t)) w e (queue_set v.queue v.txns h t idle (not_waiting ((v.txns t).mark) RollingBack rolling (λ e. cc e)) (λ e. cc e))
queue_goes v w step reply h fresh (stays_back t n b may low d e) = queue_at (marked v t Going) w e (queue_set v.queue v.txns h t (record (v.txns t) { mark = Going }) (may_not_wait ((v.txns t).mark) may) (λ e. cc e))
queue_goes v w step reply h fresh (turns_back t n b may over d e) = queue_at (marked v t (Returning n)) w e (queue_set v.queue v.txns h t (record (v.txns t) { mark = Returning n }) (may_not_wait ((v.txns t).mark) may) (λ e. cc e))
queue_goes v w step reply h fresh (gives_back t n c cs b is net over d e) = queue_at (undid_more v t c cs) w e (queue_set v.queue v.txns h t (record (v.txns t) { net = cs })
    (not_waiting ((v.txns t).mark) (Returning n) is (λ e. cc e)) (not_waiting ((v.txns t).mark) (Returning n) is (λ e. cc e)))
queue_goes v w step reply h fresh (is_back t n c cs b is net whole d e) = queue_at (marked (undid_more v t c cs) t Going) w e
    (queue_set v.queue (undid_more v t c cs).txns (queue_set v.queue v.txns h t (record (v.txns t) { net = cs }) (not_waiting ((v.txns t).mark) (Returning n) is (λ e. cc e)) (not_waiting ((v.txns t).mark) (Returning n) is (λ e. cc e)))
    t (record ((undid_more v t c cs).txns t) { mark = Going }) (not_waiting (((undid_more v t c cs).txns t).mark) (Returning n) (given_mark v t n c cs is) (λ e. cc e)) (λ e. cc e))
queue_goes v w step reply h fresh (leaf_is_back t n b is under whole d e) = queue_at (change_made (marked v t Going)) w e (queue_set v.queue v.txns h t (record (v.txns t) { mark = Going }) (not_waiting ((v.txns t).mark) (Returning n) is (λ e. cc e)) (λ e. cc e))
queue_goes v w step reply h fresh (logs_page t u b under owner d e) = queue_at v w e h
queue_goes v w step reply h fresh (tree_blocks t a u b under other d e) = queue_at v w e h
queue_goes v w step reply h fresh (tree_halts t u b under other d e) = queue_at v w e h
queue_goes v w step reply h fresh (flushes p b d e) = queue_at v w e h
queue_goes v w step reply h fresh (forces b d e) = queue_at (forced_by v) w e (record {
  each = tt;
  waits = λ t some. absurd (cc some);
  all = by_force_txn (λ t y. y.mark ≡ Committing → is_among t [] ≡ true) v.txns v.queue (λ t some is. cc is) (λ t none is. let never : true ≡ false = sym (h.all t is) ∙ none in cc never);
})
queue_goes v w step reply h fresh (checkpoints b d e) = queue_at v w e h
queue_goes v w step reply h fresh (switches b d e) = queue_at v w e h
queue_goes v w step reply h fresh (lacks fault want d e) = queue_at v w e h
queue_goes v w step reply h fresh (breaks fault ls broke d e) = queue_at (broken v ls) w e (queue_breaks v ls h)

-- ---- the stories of a trace, newest first

-- with the accesses that go on, and without what is taken back
abbrev pub tell : (ℕ → Option Access) → (ℕ → List (Access × Reply)) → Step → Reply → ℕ → List (Access × Reply)
tell pend told step reply s = access_of s (pend s) step reply ++ kept_after s step reply (told s)

abbrev pub tells : (ℕ → Option Access) → (ℕ → List (Access × Reply)) → List (Step × Reply) → ℕ → List (Access × Reply)
tells pend told [] = told
tells pend told (e ∷ es) = tells (λ s. pending_after s (pend s) e.0 e.1) (tell pend told e.0 e.1) es

-- whatever was told, a step with its reply adds nothing to it and takes nothing off
abbrev pub TellsNone : ℕ → Option Access → Step → Reply → Type 0
TellsNone s o step reply = (fs : List (Access × Reply)) → access_of s o step reply ++ kept_after s step reply fs ≡ fs

pub tells_none_at : (s : ℕ) (o : Option Access) (step x : Step) (reply y : Reply) → step ≡ x → reply ≡ y → TellsNone s o x y → TellsNone s o step reply
tells_none_at s o step x reply y a d none fs = ap (λ (z : Step). access_of s o z reply ++ kept_after s z reply fs) a ∙ ap (λ (z : Reply). access_of s o x z ++ kept_after s x z fs) d ∙ none fs

-- a reply that is no answer, and none to a return, finishes nothing
pub silent : (s : ℕ) (o : Option Access) (step : Step) (reply : Reply) → is_answer reply ≡ false → is_return reply ≡ false → TellsNone s o step reply
silent s o Begin reply e f fs = refl
silent s o (Do t a) reply e f fs = rw e
silent s o (Commit t) reply e f fs = refl
silent s o (Rollback t) reply e f fs = refl
silent s o (Continue t) reply e f fs = rw e
silent s o (RollTo t n) reply e f fs = rw f
silent s o (FlushPage p) reply e f fs = refl
silent s o Force reply e f fs = refl
silent s o Checkpoint reply e f fs = refl
silent s o Switch reply e f fs = refl

-- and one that is not More either leaves what goes on
still_pending : (s : ℕ) (o : Option Access) (step : Step) (reply : Reply) → is_answer reply ≡ false → is_more reply ≡ false → pending_after s o step reply ≡ o
still_pending s o Begin reply e m = refl
still_pending s o (Do t a) reply e m = rw m
still_pending s o (Commit t) reply e m = refl
still_pending s o (Rollback t) reply e m = refl
still_pending s o (Continue t) reply e m = rw e
still_pending s o (RollTo t n) reply e m = refl
still_pending s o (FlushPage p) reply e m = refl
still_pending s o Force reply e m = refl
still_pending s o Checkpoint reply e m = refl
still_pending s o Switch reply e m = refl

answer_no_more : (r : Reply) → is_answer r ≡ true → is_more r ≡ false
answer_no_more More e = absurd cc
answer_no_more (Started t) e = refl
answer_no_more (Found r) e = refl
answer_no_more Absent e = refl
answer_no_more (Entry k r) e = refl
answer_no_more End e = refl
answer_no_more (Entries es) e = refl
answer_no_more Inserted e = refl
answer_no_more Duplicate e = refl
answer_no_more Deleted e = refl
answer_no_more Committed e = refl
answer_no_more RolledBack e = refl
answer_no_more (Blocked t) e = refl
answer_no_more BlockedTree e = refl
answer_no_more Die e = refl
answer_no_more Done e = refl
answer_no_more (Refused f) e = refl

found_answers : (o : Option ℕ) → is_answer (found o) ≡ true
found_answers None = refl
found_answers (Some r) = refl

entry_answers : (o : Option (Key × ℕ)) → is_answer (entry o) ≡ true
entry_answers None = refl
entry_answers (Some e) = refl

either_answers : (b : Bool) (p q : Reply) → is_answer p ≡ true → is_answer q ≡ true → is_answer (cond b p q) ≡ true
either_answers true p q g h = g
either_answers false p q g h = h

pub reply_answers : (a : Access) (m : IndexMap) → is_answer (answer a m) ≡ true
reply_answers (Fetch k) m = found_answers (get m k)
reply_answers (Seek k) m = entry_answers (first (From k) m)
reply_answers (Next k) m = entry_answers (first (Above k) m)
reply_answers (Prev k) m = entry_answers (last_below k m)
reply_answers (Scan lo hi n) m = refl
reply_answers (Insert k r) m = either_answers (is_some (get m k)) Duplicate Inserted refl refl
reply_answers (Delete k) m = either_answers (is_some (get m k)) Deleted Absent refl refl

module _ (pend : ℕ → Option Access) where
  quiet_stands : (v : View) (told : ℕ → List (Access × Reply)) (step : Step) (reply : Reply) → ((s : ℕ) → TellsNone s (pend s) step reply) → Stands v told → Stands v (tell pend told step reply)
  quiet_stands v told step reply none h = subst (Stands v) (λ i s. sym (none s (told s)) i) h

  told_by_did : (told : ℕ → List (Access × Reply)) (t : ℕ) (a : Access) (m : IndexMap) (s : ℕ) → cond (nat_eq s t) ((a, answer a m) ∷ told s) (told s) ≡ tell pend told (Do t a) (answer a m) s
  told_by_did told t a m s =
      elim (cases_number s t) [
        | inl e ↦ rw (reply_answers a m, eq-eqb s t e, eq-eqb t s (sym e))
        | inr ne ↦ rw (reply_answers a m, ne_eqb s t ne, ne_eqb t s (λ e. ne (sym e)))
      ]

  none_for : (step : Step) (reply : Reply) (other : Step) → step ≡ other → ((s : ℕ) → TellsNone s (pend s) other reply) → (s : ℕ) → TellsNone s (pend s) step reply
  none_for step reply other e none s = tells_none_at s (pend s) step other reply reply e refl (none s)

  -- Continue that is answered so, by no end of an access
  none_on : (step : Step) (reply y : Reply) (t : ℕ) → step ≡ Continue t → reply ≡ y → is_answer y ≡ false → (s : ℕ) → TellsNone s (pend s) step reply
  none_on step reply y t a d none s = tells_none_at s (pend s) step (Continue t) reply y a d (λ fs. rw none)

  no_answer : (step : Step) (reply other : Reply) → reply ≡ other → is_answer other ≡ false → is_return other ≡ false → (s : ℕ) → TellsNone s (pend s) step reply
  no_answer step reply other d e f s = silent s (pend s) step reply (ap is_answer d ∙ e) (ap is_return d ∙ f)

-- an Insert that ends is told
told_by_put : (told : ℕ → List (Access × Reply)) (t : ℕ) (k : Key) (r s : ℕ)
    → cond (nat_eq s t) ((Insert k r, Inserted) ∷ told s) (told s) ≡ tell (pending_of (Some (record { owner = t; aim = Puts k r }))) told (Continue t) Inserted s
told_by_put told t k r s = elim (cases_number s t) [
  | inl e ↦ rw (eq-eqb s t e, eq-eqb t s (sym e))
  | inr ne ↦ rw (ne_eqb s t ne, ne_eqb t s (λ e. ne (sym e)))
]

-- and a Delete
told_by_drop : (told : ℕ → List (Access × Reply)) (t : ℕ) (k : Key) (s : ℕ)
    → cond (nat_eq t s) ((Delete k, Deleted) ∷ told s) (told s) ≡ tell (pending_of (Some (record { owner = t; aim = Drops k }))) told (Continue t) Deleted s
told_by_drop told t k s = elim (cases_number t s) [ inl e ↦ rw (eq-eqb t s e) | inr ne ↦ rw (ne_eqb t s ne) ]

-- where the engine has failed, it holds with some other locks
pub record Upheld (v : View) (told : ℕ → List (Access × Reply)) : Type 0 where
  pub locks : ℕ → List Lock
  pub stands : Stands (relocked v locks) told
  pub same : v.failed ≡ false → (s : ℕ) → locks s ≡ (v.txns s).locks

upheld_of : (v : View) (told : ℕ → List (Access × Reply)) → Stands v told → Upheld v told
upheld_of v told h = record { locks = λ s. (v.txns s).locks; stands = h; same = λ e s. refl }

pub stands_of : (v : View) (told : ℕ → List (Access × Reply)) → Upheld v told → v.failed ≡ false → Stands v told
stands_of v told h e = subst (λ (ls : ℕ → List Lock). Stands (relocked v ls) told) (λ i s. h.same e s i) h.stands

-- ---- what no check bars

first_none : (o p : Option ℕ) → or_else o p ≡ None → o ≡ None
first_none None p e = refl
first_none (Some f) p e = absurd cc

second_none : (o p : Option ℕ) → or_else o p ≡ None → p ≡ None
second_none None p e = e
second_none (Some f) p e = absurd cc

no_fault : (b : Bool) (n : ℕ) → fault_if b n ≡ None → b ≡ false
no_fault true n e = absurd cc
no_fault false n e = refl

-- its transaction has no access that goes on, but for Continue
pub clear_do : (v : View) (t : ℕ) (a : Access) → barred v (Do t a) ≡ None → pending_of v.under t ≡ None
clear_do v t a e = none_by (pending_of v.under t) (no_fault _ unfinished (first_none _ _ (second_none _ _ (second_none _ _ e))))

pub clear_commit : (v : View) (t : ℕ) → barred v (Commit t) ≡ None → pending_of v.under t ≡ None
clear_commit v t e = none_by (pending_of v.under t) (no_fault _ unfinished (second_none _ _ (second_none _ _ e)))

pub clear_rollback : (v : View) (t : ℕ) → barred v (Rollback t) ≡ None → pending_of v.under t ≡ None
clear_rollback v t e = none_by (pending_of v.under t) (no_fault _ unfinished (second_none _ _ (second_none _ _ e)))

pub clear_return : (v : View) (t n : ℕ) → barred v (RollTo t n) ≡ None → pending_of v.under t ≡ None
clear_return v t n e = none_by (pending_of v.under t) (no_fault _ unfinished (second_none _ _ (second_none _ _ e)))

-- nor is it one that no return begins from
barred_may : (m : Mark) → barred_to_rollback m ≡ None → MayRollBack m
barred_may Idle e = absurd cc
barred_may Going e = inl refl
barred_may MustRollBack e = inr refl
barred_may RollingBack e = absurd cc
barred_may (Returning n) e = absurd cc
barred_may Committing e = absurd cc

pub may_return : (v : View) (t n : ℕ) → barred v (RollTo t n) ≡ None → MayRollBack ((v.txns t).mark)
may_return v t n e = barred_may ((v.txns t).mark) (first_none _ _ (second_none _ _ e))

pub passes_as : (v : View) (step other : Step) → step ≡ other → barred v step ≡ None → barred v other ≡ None
passes_as v step other e free = ap (barred v) (sym e) ∙ free

-- ---- each step keeps it

module _ (v : View) (told : ℕ → List (Access × Reply)) (h : Stands v told) where
  abbrev pend : ℕ → Option Access
  pend = pending_of v.under

  -- a step that finishes nothing
  quietly : (step : Step) (reply : Reply) (w x : View) → w ≡ x → ((s : ℕ) → TellsNone s (pend s) step reply) → Stands x told → Upheld w (tell pend told step reply)
  quietly step reply w x e none stands = upheld_of w (tell pend told step reply) (quiet_stands pend w told step reply none (subst (λ (u : View). Stands u told) (sym e) stands))

  -- one that finishes what went on
  ended : (step : Step) (reply : Reply) (w x : View) (t : ℕ) (u : Under) (r : Reply) (fs : ℕ → List (Access × Reply)) → step ≡ Continue t → v.under ≡ Some u → reply ≡ r → w ≡ x
      → ((s : ℕ) → fs s ≡ tell (pending_of (Some u)) told (Continue t) r s) → Stands x fs → Upheld w (tell pend told step reply)
  ended step reply w x t u r fs a under d e is stands =
      let same : fs ≡ tell pend told step reply = (λ i s. is s i) ∙ (λ i s. tell (pending_of (sym under i)) told (sym a i) (sym d i) s) in
      upheld_of w (tell pend told step reply) (subst (Stands w) same (subst (λ (y : View). Stands y fs) (sym e) stands))

  -- one by which a transaction returns
  returned : (step : Step) (reply : Reply) (w x : View) (t n : ℕ) (r : Reply) → step ≡ RollTo t n → reply ≡ r → w ≡ x → Stands x (tell pend told (RollTo t n) r) → Upheld w (tell pend told step reply)
  returned step reply w x t n r a d e stands =
      let same : tell pend told (RollTo t n) r ≡ tell pend told step reply = λ i s. tell pend told (sym a i) (sym d i) s in
      upheld_of w (tell pend told step reply) (subst (Stands w) same (subst (λ (y : View). Stands y (tell pend told (RollTo t n) r)) (sym e) stands))

  Goes-upheld : (step : Step) (reply : Reply) (w : View) → barred v step ≡ None → Goes v step reply w → Upheld w (tell pend told step reply)
  Goes-upheld step reply w free (begins a l b e) = quietly step reply w (begun v) e (none_for pend step reply Begin a (λ s fs. refl)) (begun_stands v told h)
  Goes-upheld step reply w free (does t a ls b is unheld same d e) =
      let done : Stands (did v t a ls) (tell pend told (Do t a) (answer a v.walk)) = subst (Stands (did v t a ls)) (λ i s. told_by_did pend told t a v.walk s i) (did_stands v told h t a ls (clear_do v t a (passes_as v step (Do t a) b free)) is unheld same) in
      let told_same : tell pend told (Do t a) (answer a v.walk) ≡ tell pend told step reply = λ i s. tell pend told (sym b i) (sym d i) s in
      upheld_of w (tell pend told step reply) (subst (λ (u : View). Stands u (tell pend told step reply)) (sym e) (subst (Stands (did v t a ls)) told_same done))
  Goes-upheld step reply w free (waits t a holder b is wait d e) = quietly step reply w v e (no_answer pend step reply (Blocked holder) d refl refl) h
  Goes-upheld step reply w free (dies t a b is must d e) = quietly step reply w (marked v t MustRollBack) e (no_answer pend step reply Die d refl refl) (die_stands v told h t (clear_do v t a (passes_as v step (Do t a) b free)) is)
  Goes-upheld step reply w free (commits t a is alone d e) = quietly step reply w (committed_by v t) e (none_for pend step reply (Commit t) a (λ s fs. refl)) (commit_stands v told h t (clear_commit v t (passes_as v step (Commit t) a free)) is)
  Goes-upheld step reply w free (queues t c cs a is net_is d e) = quietly step reply w (queued v t) e (none_for pend step reply (Commit t) a (λ s fs. refl)) (queue_stands v told h t (clear_commit v t (passes_as v step (Commit t) a free)) is)
  Goes-upheld step reply w free (drops t a may empty d e) = quietly step reply w (dropped_by v t) e (none_for pend step reply (Rollback t) a (λ s fs. refl)) (drop_stands v told h t (clear_rollback v t (passes_as v step (Rollback t) a free)) may empty)
  Goes-upheld step reply w free (turns t c cs a may net_is d e) = quietly step reply w (marked v t RollingBack) e (none_for pend step reply (Rollback t) a (λ s fs. refl)) (turn_stands v told h t (clear_rollback v t (passes_as v step (Rollback t) a free)) may)
  Goes-upheld step reply w free (undoes t c d cs a is net_is q e) = quietly step reply w (undid_more v t c (d ∷ cs)) e (none_on pend step reply More t a q refl) (undo_more_stands v told h t c (d ∷ cs) (inl is) net_is)
  Goes-upheld step reply w free (ends t c a is net_is d e) = quietly step reply w (undid_last v t c) e (none_on pend step reply RolledBack t a d refl) (undo_last_stands v told h t c is net_is)
  Goes-upheld step reply w free (puts_later t k r ls b is none absent unheld same d e) = quietly step reply w (with_change (locked v t ls) t (Puts k r)) e (λ s. tells_none_at s (pend s) step (Do t (Insert k r)) reply More b d (λ fs. refl)) (put_begins v told h none t k r ls is absent unheld same)
  Goes-upheld step reply w free (puts t k r b is under d e) =
      ended step reply w (change_made (did v t (Insert k r) ((v.txns t).locks))) t (record { owner = t; aim = Puts k r }) Inserted (λ s. cond (nat_eq s t) ((Insert k r, Inserted) ∷ told s) (told s)) b under d e (told_by_put told t k r) (put_ends v told h t k r is under)
  Goes-upheld step reply w free (drops_first t k r ls b is none there unheld same d e) = quietly step reply w (with_change (did v t (Delete k) ls) t (Drops k)) e (λ s. tells_none_at s (pend s) step (Do t (Delete k)) reply More b d (λ fs. refl)) (drop_begins v told h none t k r ls is there unheld same)
  Goes-upheld step reply w free (drops_leaf t k b is under d e) =
      ended step reply w (change_made v) t (record { owner = t; aim = Drops k }) Deleted (λ s. cond (nat_eq t s) ((Delete k, Deleted) ∷ told s) (told s)) b under d e (told_by_drop told t k) (drop_ends v told h t k is under)
  Goes-upheld step reply w free (takes_later t c cs b is none net_is d e) = quietly step reply w (with_change v t TakesBack) e (none_on pend step reply More t b d refl) (take_waits v told h none t)
  Goes-upheld step reply w free (takes_first t c cs b is none net_is d e) = quietly step reply w (with_change (undid_more v t c cs) t TookBack) e (none_on pend step reply More t b d refl) (take_begins v told h none t c cs is net_is)
  Goes-upheld step reply w free (takes_leaf t c cs b is under net_is d e) = quietly step reply w (change_made v) e (none_on pend step reply More t b d refl) (take_ends v told h t under)
  Goes-upheld step reply w free (takes_last t b is under empty d e) = quietly step reply w (change_made (dropped_by v t)) e (none_on pend step reply RolledBack t b d refl) (take_is_over v told h t under is empty)
  Goes-upheld step reply w free (stays_back t n a may low d e) =
      let clear = clear_return v t n (passes_as v step (RollTo t n) a free) in
      let done : Stands (marked v t Going) (tell pend told (RollTo t n) Done) = subst (Stands (marked v t Going)) (λ i s. sym (all_told v told h t n clear may low s) i) (all_stands v told h t n clear may) in
      returned step reply w (marked v t Going) t n Done a d e done
  Goes-upheld step reply w free (turns_back t n a may over d e) =
      returned step reply w (marked v t (Returning n)) t n More a d e (return_stands v told h t n (clear_return v t n (passes_as v step (RollTo t n) a free)) may over)
  Goes-upheld step reply w free (gives_back t n c cs a is net_is over d e) = quietly step reply w (undid_more v t c cs) e (none_on pend step reply More t a d refl) (undo_more_stands v told h t c cs (inr (n, is, omega (arith, over))) net_is)
  Goes-upheld step reply w free (is_back t n c cs a is net_is whole d e) =
      let may : MayTakeBack ((v.txns t).mark) cs = inr (n, is, omega (arith, whole)) in
      let given : Stands (undid_more v t c cs) told = undo_more_stands v told h t c cs may net_is in
      let clear : pending_of (of_others t v.under) t ≡ None = others_pending v.under t (taking_clear v told h t cs may) t ∙ taking_clear v told h t cs may in
      quietly step reply w (marked (undid_more v t c cs) t Going) e (none_on pend step reply Done t a d refl)
      (back_stands (undid_more v t c cs) told given t n clear (given_mark v t n c cs is) (ap (λ (l : List Change). length l) (given_net v t c cs) ∙ sym whole))
  Goes-upheld step reply w free (leaf_is_back t n a is under whole d e) =
      quietly step reply w (change_made (marked v t Going)) e (none_on pend step reply Done t a d refl) (back_stands (change_made v) told (take_ends v told h t under) t n refl is whole)
  Goes-upheld step reply w free (logs_page t u b under owner d e) = quietly step reply w v e (none_on pend step reply More t b d refl) h
  Goes-upheld step reply w free (tree_blocks t a u b under other d e) = quietly step reply w v e (no_answer pend step reply BlockedTree d refl refl) h
  Goes-upheld step reply w free (tree_halts t u b under other d e) = quietly step reply w v e (no_answer pend step reply BlockedTree d refl refl) h
  Goes-upheld step reply w free (flushes p a d e) = quietly step reply w v e (none_for pend step reply (FlushPage p) a (λ s fs. refl)) h
  Goes-upheld step reply w free (forces a d e) = quietly step reply w (forced_by v) e (none_for pend step reply Force a (λ s fs. refl)) (force_stands v told h)
  Goes-upheld step reply w free (checkpoints a d e) = quietly step reply w v e (none_for pend step reply Checkpoint a (λ s fs. refl)) h
  Goes-upheld step reply w free (switches a d e) = quietly step reply w v e (none_for pend step reply Switch a (λ s fs. refl)) h
  Goes-upheld step reply w free (lacks fault wants d e) = quietly step reply w v e (no_answer pend step reply (Refused fault) d refl refl) h
  Goes-upheld step reply w free (breaks fault ls is d e) =
      let kept_locks : ℕ → List Lock = λ s. (v.txns s).locks in
      let failed : Stands (relocked (broken v ls) kept_locks) (tell pend told step reply) = quiet_stands pend (relocked (broken v ls) kept_locks) told step reply (no_answer pend step reply (Refused fault) d refl refl) (break_stands v told h) in
      subst (λ (u : View). Upheld u (tell pend told step reply)) (sym e) (record { locks = kept_locks; stands = failed; same = λ q. absurd (true≢false q) })

  -- what goes on after it
  pending_at : (step x : Step) (reply y : Reply) (w u : View) → step ≡ x → reply ≡ y → w ≡ u → (s : ℕ) → pending_of u.under s ≡ pending_after s (pend s) x y → pending_of w.under s ≡ pending_after s (pend s) step reply
  pending_at step x reply y w u a d e s is = ap (λ (z : View). pending_of z.under s) e ∙ is ∙ ap (λ (z : Step). pending_after s (pend s) z y) (sym a) ∙ ap (pending_after s (pend s) step) (sym d)

  stays_pending : (step : Step) (reply y : Reply) (w u : View) → reply ≡ y → is_answer y ≡ false → is_more y ≡ false → w ≡ u → (s : ℕ) → pending_of u.under s ≡ pend s → pending_of w.under s ≡ pending_after s (pend s) step reply
  stays_pending step reply y w u d f m e s is = ap (λ (z : View). pending_of z.under s) e ∙ is ∙ sym (still_pending s (pend s) step reply (ap is_answer d ∙ f) (ap is_more d ∙ m))

  -- the access of one that has ended it
  no_more : (b : Bool) (a : Access) → cond {A = Option Access} b None (cond b (Some a) None) ≡ None
  no_more true a = refl
  no_more false a = refl

  Goes-pending : (step : Step) (reply : Reply) (w : View) → Goes v step reply w → (s : ℕ) → pending_of w.under s ≡ pending_after s (pend s) step reply
  Goes-pending step reply w (begins a l b e) s = pending_at step Begin reply reply w (begun v) a refl e s refl
  Goes-pending step reply w (does t a ls b is unheld same d e) s = pending_at step (Do t a) reply (answer a v.walk) w (did v t a ls) b d e s (rw (answer_no_more (answer a v.walk) (reply_answers a v.walk)))
  Goes-pending step reply w (waits t a holder b is wait d e) s = stays_pending step reply (Blocked holder) w v d refl refl e s refl
  Goes-pending step reply w (dies t a b is must d e) s = stays_pending step reply Die w (marked v t MustRollBack) d refl refl e s refl
  Goes-pending step reply w (commits t a is alone d e) s = stays_pending step reply Committed w (committed_by v t) d refl refl e s refl
  Goes-pending step reply w (queues t c cs a is net_is d e) s = pending_at step (Commit t) reply More w (queued v t) a d e s refl
  Goes-pending step reply w (drops t a may empty d e) s = stays_pending step reply RolledBack w (dropped_by v t) d refl refl e s refl
  Goes-pending step reply w (turns t c cs a may net_is d e) s = pending_at step (Rollback t) reply More w (marked v t RollingBack) a d e s refl
  Goes-pending step reply w (undoes t c d cs a is net_is q e) s = pending_at step (Continue t) reply More w (undid_more v t c (d ∷ cs)) a q e s (others_pending v.under t (rolling_clear v told h t is) s)
  Goes-pending step reply w (ends t c a is net_is d e) s = pending_at step (Continue t) reply RolledBack w (undid_last v t c) a d e s (others_pending v.under t (rolling_clear v told h t is) s)
  Goes-pending step reply w (puts_later t k r ls b is none absent unheld same d e) s = pending_at step (Do t (Insert k r)) reply More w (with_change (locked v t ls) t (Puts k r)) b d e s (ap (λ (u : Option Under). cond (nat_eq t s) (Some (Insert k r)) (pending_of u s)) (sym none))
  Goes-pending step reply w (puts t k r b is under d e) s = pending_at step (Continue t) reply Inserted w (change_made (did v t (Insert k r) ((v.txns t).locks))) b d e s (sym (ap (λ (u : Option Under). cond (nat_eq t s) None (pending_of u s)) under ∙ no_more (nat_eq t s) (Insert k r)))
  Goes-pending step reply w (drops_first t k r ls b is none there unheld same d e) s = pending_at step (Do t (Delete k)) reply More w (with_change (did v t (Delete k) ls) t (Drops k)) b d e s (ap (λ (u : Option Under). cond (nat_eq t s) (Some (Delete k)) (pending_of u s)) (sym none))
  Goes-pending step reply w (drops_leaf t k b is under d e) s = pending_at step (Continue t) reply Deleted w (change_made v) b d e s (sym (ap (λ (u : Option Under). cond (nat_eq t s) None (pending_of u s)) under ∙ no_more (nat_eq t s) (Delete k)))
  Goes-pending step reply w (takes_later t c cs b is none net_is d e) s = pending_at step (Continue t) reply More w (with_change v t TakesBack) b d e s (none_either (nat_eq t s) ∙ sym (ap (λ (u : Option Under). pending_of u s) none))
  Goes-pending step reply w (takes_first t c cs b is none net_is d e) s = pending_at step (Continue t) reply More w (with_change (undid_more v t c cs) t TookBack) b d e s (none_either (nat_eq t s) ∙ sym (ap (λ (u : Option Under). pending_of u s) none))
  Goes-pending step reply w (takes_leaf t c cs b is under net_is d e) s = pending_at step (Continue t) reply More w (change_made v) b d e s (sym (ap (λ (u : Option Under). pending_of u s) under ∙ none_either (nat_eq t s)))
  Goes-pending step reply w (takes_last t b is under empty d e) s = pending_at step (Continue t) reply RolledBack w (change_made (dropped_by v t)) b d e s (sym (ap (λ (u : Option Under). pending_of u s) under ∙ none_either (nat_eq t s)))
  Goes-pending step reply w (stays_back t n a may low d e) s = pending_at step (RollTo t n) reply Done w (marked v t Going) a d e s refl
  Goes-pending step reply w (turns_back t n a may over d e) s = pending_at step (RollTo t n) reply More w (marked v t (Returning n)) a d e s refl
  Goes-pending step reply w (gives_back t n c cs a is net_is over d e) s = pending_at step (Continue t) reply More w (undid_more v t c cs) a d e s (others_pending v.under t (taking_clear v told h t cs (inr (n, is, omega (arith, over)))) s)
  Goes-pending step reply w (is_back t n c cs a is net_is whole d e) s = pending_at step (Continue t) reply Done w (marked (undid_more v t c cs) t Going) a d e s (others_pending v.under t (taking_clear v told h t cs (inr (n, is, omega (arith, whole)))) s)
  Goes-pending step reply w (leaf_is_back t n b is under whole d e) s = pending_at step (Continue t) reply Done w (change_made (marked v t Going)) b d e s (sym (ap (λ (u : Option Under). pending_of u s) under ∙ none_either (nat_eq t s)))
  Goes-pending step reply w (logs_page t u b under owner d e) s = pending_at step (Continue t) reply More w v b d e s refl
  Goes-pending step reply w (tree_blocks t a u b under other d e) s = stays_pending step reply BlockedTree w v d refl refl e s refl
  Goes-pending step reply w (tree_halts t u b under other d e) s = stays_pending step reply BlockedTree w v d refl refl e s refl
  Goes-pending step reply w (flushes p a d e) s = pending_at step (FlushPage p) reply reply w v a refl e s refl
  Goes-pending step reply w (forces a d e) s = pending_at step Force reply reply w (forced_by v) a refl e s refl
  Goes-pending step reply w (checkpoints a d e) s = pending_at step Checkpoint reply reply w v a refl e s refl
  Goes-pending step reply w (switches a d e) s = pending_at step Switch reply reply w v a refl e s refl
  Goes-pending step reply w (lacks fault wants d e) s = stays_pending step reply (Refused fault) w v d refl refl e s refl
  Goes-pending step reply w (breaks fault ls is d e) s = stays_pending step reply (Refused fault) w (broken v ls) d refl refl e s refl

quiet_upheld : (v : View) (told : ℕ → List (Access × Reply)) (step : Step) (reply : Reply) → ((s : ℕ) → TellsNone s (pending_of v.under s) step reply) → Upheld v told → Upheld v (tell (pending_of v.under) told step reply)
quiet_upheld v told step reply none h = record { locks = h.locks; stands = quiet_stands (pending_of v.under) (relocked v h.locks) told step reply none h.stands; same = h.same }

-- the stories after a step, and what goes on there
pub record OnBy (v : View) (told : ℕ → List (Access × Reply)) (step : Step) (reply : Reply) (w : View) : Type 0 where
  pub upheld : Upheld w (tell (pending_of v.under) told step reply)
  pub pending : (s : ℕ) → pending_of w.under s ≡ pending_after s (pending_of v.under s) step reply

Answers-upheld : (v : View) (told : ℕ → List (Access × Reply)) (step : Step) (reply : Reply) (w : View) (o : Option ℕ) → (o ≡ None → (v.failed ≡ false) × (barred v step ≡ None)) → Upheld v told → Answers v step reply w o → OnBy v told step reply w
Answers-upheld v told step reply w None live h g =
    let stands = stands_of v told h (live refl).0 in
    record { upheld = Goes-upheld v told stands step reply w (live refl).1 g; pending = Goes-pending v told stands step reply w g }
Answers-upheld v told step reply w (Some fault) live h g = record {
  upheld = subst (λ (u : View). Upheld u (tell (pending_of v.under) told step reply)) (sym g.1) (quiet_upheld v told step reply (no_answer (pending_of v.under) step reply (Refused fault) g.0 refl refl) h);
  pending = λ s. ap (λ (u : View). pending_of u.under s) g.1 ∙ sym (still_pending s (pending_of v.under s) step reply (ap is_answer g.0) (ap is_more g.0));
}

-- a step that no check bars finds the engine not failed
not_failed : (b : Bool) (o : Option ℕ) → or_else (fault_if b has_failed) o ≡ None → b ≡ false
not_failed true o e = absurd cc
not_failed false o e = refl

alone_failed : (b : Bool) → fault_if b has_failed ≡ None → b ≡ false
alone_failed true e = absurd cc
alone_failed false e = refl

pub live_at : (v : View) (step : Step) → barred v step ≡ None → v.failed ≡ false
live_at v Begin e = not_failed v.failed _ e
live_at v (Do t a) e = not_failed v.failed _ e
live_at v (Commit t) e = not_failed v.failed _ e
live_at v (Rollback t) e = not_failed v.failed _ e
live_at v (Continue t) e = not_failed v.failed _ e
live_at v (RollTo t n) e = not_failed v.failed _ e
live_at v (FlushPage p) e = alone_failed v.failed e
live_at v Force e = alone_failed v.failed e
live_at v Checkpoint e = alone_failed v.failed e
live_at v Switch e = not_failed v.failed _ e

-- each step keeps it
pub Moves-upheld : (v : View) (told : ℕ → List (Access × Reply)) (step : Step) (reply : Reply) (w : View) → Upheld v told → Moves v step reply w → OnBy v told step reply w
Moves-upheld v told step reply w h g = Answers-upheld v told step reply w (barred v step) (λ e. (live_at v step e, e)) h g

pub Run-upheld : (v : View) (told : ℕ → List (Access × Reply)) (trace : List (Step × Reply)) (w : View) → Upheld v told → Run v trace w → Upheld w (tells (pending_of v.under) told trace)
Run-upheld v told [] w h e = subst (λ (u : View). Upheld u told) (sym e) h
Run-upheld v told (x ∷ xs) w h r =
    let on = Moves-upheld v told x.0 x.1 r.0 h r.1 in
    subst (λ (p : ℕ → Option Access). Upheld w (tells p (tell (pending_of v.under) told x.0 x.1) xs)) (λ i s. on.pending s i)
    (Run-upheld r.0 (tell (pending_of v.under) told x.0 x.1) xs w on.upheld r.2)

abbrev pub nothing_told : ℕ → List (Access × Reply)
nothing_told s = []

pub start_stands : (base : IndexMap) (n : ℕ) → Stands (start base n) nothing_told
start_stands base n = record {
  fits = record {
    apart = λ s u ne n md a b. a;
    chain = λ s. tt;
    walk = λ s k none. refl;
    story = λ s. tt;
  };
  fresh = λ s l. refl;
  untold = λ s l. refl;
  queue = record { each = tt; waits = λ t some. absurd (cc some); all = λ t is. cc is };
  change = tt;
}

-- what holds after a run from a start, with some locks
pub run_upheld : (base : IndexMap) (n : ℕ) (trace : List (Step × Reply)) (v : View) → Run (start base n) trace v → Upheld v (tells (pending_of None) nothing_told trace)
run_upheld base n trace v r = Run-upheld (start base n) nothing_told trace v (upheld_of (start base n) nothing_told (start_stands base n)) r
