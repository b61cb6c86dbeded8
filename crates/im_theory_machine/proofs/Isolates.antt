-- A run is as good as the committed transactions one after another; and all that isolation promises, together.
use Rattle.std.proofs.Common.{◌≢◌, ◌≡◌, ℕ, map, true, false, List, [], ◌∷◌, ◌++◌, Option, Some, None, refl, ap, sym, subst, ◌∙◌, inl, inr, ◌⊎◌, arith}
use Rattle.std.proofs.lemmas.List.{map-append}
use Rattle.std.specs.FinMap.{get}
use Rattle.im_base_types.specs.Keys.{Key}
use Rattle.im_base_types.specs.Maps.{IndexMap}
use Rattle.im_base_types.specs.Changes.{Change, Touches, apply, apply_all, key_of}
use Rattle.im_base_types.specs.Answers.{Going, Committing, Idle, Insert, Delete, Access, Reply, Step, answer, replay, map_after, map_after_all, is_answer, Begin, Do, Commit, Rollback, Continue, RollTo, FlushPage, Force, Checkpoint, Switch, Started, Found, Absent, Entry, End, Entries, Inserted, Duplicate, Deleted, Committed, RolledBack, More, Blocked, BlockedTree, Die, Done, Refused}
use Rattle.im_theory_machine.specs.Rows.{asked}
use Rattle.im_theory_machine.specs.View.{View, Txn, Puts, Under, pending_of, idle, set_txn, is_among, AreDifferent, map_behind, relocked}
use Rattle.im_theory_machine.specs.Machine.{barred, Answers, Goes, Moves, begins, does, waits, dies, commits, queues, drops, turns, undoes, ends, puts_later, puts, drops_first, drops_leaf, takes_later, takes_first, takes_leaf, takes_last, stays_back, turns_back, gives_back, is_back, leaf_is_back, logs_page, tree_blocks, tree_halts, flushes, forces, checkpoints, switches, lacks, breaks, Run, IsReached, start}
use Rattle.im_theory_machine.specs.Isolation.{finished, IsReplay, queue_after, queue_after_all, finished_all, committed_in, serial, Isolates, GrantedChangesAreFree, IsTogether, FreeReadsAreCommitted}
use Rattle.im_theory_machine.proofs.Changes.{same_maps}
use Rattle.im_theory_machine.proofs.Callers.{Run-push}
use Rattle.std.specs.Prelude.{◌==◌}
use Rattle.im_theory_machine.proofs.Bools.{or_true}
use Rattle.im_theory_machine.proofs.Invariant.{Chain-guards, Fits, Told, Told-replay, Told-after_all, accesses_of, replies_of, set_txn-other}
use Rattle.im_theory_machine.proofs.Queue.{among_one, nets_idle, nets_same, waiting_told}
use Rattle.im_theory_machine.proofs.Keeping.{Sets-fits, commit_sets, read_free}
use Rattle.im_theory_machine.proofs.Locks.{cases_access}
use Rattle.im_theory_machine.proofs.ReadKeys.{Reads, reply-agrees, asked-guards}
use Rattle.im_theory_machine.proofs.Guards.{guard}
use Rattle.im_theory_machine.specs.declared.lock_kind.Mode.TheVariants.{Exclusive}
use Rattle.im_theory_machine.specs.Kept.{PendingInsertsAreGranted}
use Rattle.im_theory_machine.proofs.Pending.{kept_locks_stay}
use Rattle.im_theory_machine.proofs.Under.{IsUnder, ahead, ahead_same, not_going}
use Rattle.im_theory_machine.proofs.Standing.{IsQueue, granted_of, going_through}
use Rattle.im_theory_machine.proofs.Runs.{clear_commit, may_return, Upheld, nothing_told, tells, run_upheld, stands_of, reply_answers}
use Rattle.im_theory_machine.proofs.Theorem.{finished_accesses, finished_replies, waiting_replay, force_is, forced_replay, going_replay, after_story, commit_end, rollback_end, no_refusal, unbarred, ended_replay, commit_adds, answers_stays, together_up}

-- ---- accesses in a row

accesses : List (Access × Reply) → List Access
accesses fs = map (λ f. f.0) fs

replay_append : (m : IndexMap) (xs ys : List Access) → replay m (xs ++ ys) ≡ replay m xs ++ replay (map_after_all m xs) ys
replay_append m [] ys = refl
replay_append m (x ∷ xs) ys = ap (λ (rs : List Reply). answer x m ∷ rs) (replay_append (map_after x m) xs ys)

after_append : (m : IndexMap) (xs ys : List Access) → map_after_all m (xs ++ ys) ≡ map_after_all (map_after_all m xs) ys
after_append m [] ys = refl
after_append m (x ∷ xs) ys = after_append (map_after x m) xs ys

abbrev Serially : IndexMap → List (Access × Reply) → IndexMap → Type 0
Serially m fs n = (n ≡ map_after_all m (map (λ f. f.0) fs)) × IsReplay m fs

serially_then : (m n o : IndexMap) (xs ys : List (Access × Reply)) → Serially m xs n → Serially n ys o → Serially m (xs ++ ys) o
serially_then m n o xs ys first next =
    let split : map (λ (f : Access × Reply). f.0) (xs ++ ys) ≡ map (λ f. f.0) xs ++ map (λ f. f.0) ys = map-append (λ (f : Access × Reply). f.0) xs ys in
    let here = first.0 in (
      next.0 ∙ ap (λ (k : IndexMap). map_after_all k (map (λ (f : Access × Reply). f.0) ys)) here ∙ sym (after_append m (map (λ f. f.0) xs) (map (λ f. f.0) ys)) ∙ ap (map_after_all m) (sym split),
      ap (replay m) split ∙ replay_append m (map (λ f. f.0) xs) (map (λ f. f.0) ys)
          ∙ ap (λ (k : IndexMap). replay m (map (λ (f : Access × Reply). f.0) xs) ++ replay k (map (λ f. f.0) ys)) (sym here)
          ∙ ap (λ (rs : List Reply). rs ++ replay n (map (λ (f : Access × Reply). f.0) ys)) first.1
          ∙ ap (λ (rs : List Reply). map (λ (f : Access × Reply). f.1) xs ++ rs) next.1
          ∙ sym (map-append (λ (f : Access × Reply). f.1) xs ys),
    )

-- ---- only a Commit and a force commit

none_in : (front : List (Step × Reply)) (step : Step) (reply : Reply) → reply ≢ Committed → (step ≡ Force → reply ≡ Done → ⊥) → committed_in front step reply ≡ []
none_in front Begin reply other free = refl
none_in front (Do t a) reply other free = refl
none_in front (Rollback t) reply other free = refl
none_in front (Continue t) reply other free = refl
none_in front (RollTo t n) reply other free = refl
none_in front (FlushPage p) reply other free = refl
none_in front Checkpoint reply other free = refl
none_in front Switch reply other free = refl
none_in front (Commit t) Committed other free = absurd (other refl)
none_in front (Commit t) (Started u) other free = refl
none_in front (Commit t) (Found r) other free = refl
none_in front (Commit t) Absent other free = refl
none_in front (Commit t) (Entry k r) other free = refl
none_in front (Commit t) End other free = refl
none_in front (Commit t) (Entries es) other free = refl
none_in front (Commit t) Inserted other free = refl
none_in front (Commit t) Duplicate other free = refl
none_in front (Commit t) Deleted other free = refl
none_in front (Commit t) RolledBack other free = refl
none_in front (Commit t) More other free = refl
none_in front (Commit t) (Blocked h) other free = refl
none_in front (Commit t) BlockedTree other free = refl
none_in front (Commit t) Die other free = refl
none_in front (Commit t) Done other free = refl
none_in front (Commit t) (Refused f) other free = refl
none_in front Force Done other free = absurd (free refl refl)
none_in front Force Committed other free = refl
none_in front Force (Started u) other free = refl
none_in front Force (Found r) other free = refl
none_in front Force Absent other free = refl
none_in front Force (Entry k r) other free = refl
none_in front Force End other free = refl
none_in front Force (Entries es) other free = refl
none_in front Force Inserted other free = refl
none_in front Force Duplicate other free = refl
none_in front Force Deleted other free = refl
none_in front Force RolledBack other free = refl
none_in front Force More other free = refl
none_in front Force (Blocked h) other free = refl
none_in front Force BlockedTree other free = refl
none_in front Force Die other free = refl
none_in front Force (Refused f) other free = refl

abbrev IsCommit : Step → Reply → Type 0
IsCommit step reply = ((t : ℕ) × (step ≡ Commit t) × (reply ≡ Committed)) ⊎ (((step ≡ Force) × (reply ≡ Done)) ⊎ ((reply ≢ Committed) × (step ≡ Force → reply ≡ Done → ⊥)))

not_force : (step x : Step) (reply : Reply) → step ≡ x → (Force ≡ x → ⊥) → step ≡ Force → reply ≡ Done → ⊥
not_force step x reply is other e d = other (sym e ∙ is)

goes_commit : (v w : View) (step : Step) (reply : Reply) → Goes v step reply w → IsCommit step reply
goes_commit v w step reply (begins a l b e) = inr (inr (λ q. cc, not_force step Begin reply a (λ x. cc x)))
goes_commit v w step reply (does t a ls b is free same d e) = inr (inr (λ q. let never : true ≡ false = sym (reply_answers a v.walk) ∙ ap is_answer (sym d ∙ q) in cc, not_force step (Do t a) reply b (λ x. cc x)))
goes_commit v w step reply (waits t a holder b is wait d e) = inr (inr (λ q. cc, not_force step (Do t a) reply b (λ x. cc x)))
goes_commit v w step reply (dies t a b is must d e) = inr (inr (λ q. cc, not_force step (Do t a) reply b (λ x. cc x)))
goes_commit v w step reply (commits t a is alone d e) = inl (t, a, d)
goes_commit v w step reply (queues t c cs a is net_is d e) = inr (inr (λ q. cc, not_force step (Commit t) reply a (λ x. cc x)))
goes_commit v w step reply (drops t a may empty d e) = inr (inr (λ q. cc, not_force step (Rollback t) reply a (λ x. cc x)))
goes_commit v w step reply (turns t c cs a may net_is d e) = inr (inr (λ q. cc, not_force step (Rollback t) reply a (λ x. cc x)))
goes_commit v w step reply (undoes t c d cs a is net_is q e) = inr (inr (λ p. cc, not_force step (Continue t) reply a (λ x. cc x)))
goes_commit v w step reply (ends t c a is net_is d e) = inr (inr (λ q. cc, not_force step (Continue t) reply a (λ x. cc x)))
goes_commit v w step reply (puts_later u k r ls b is none absent unheld same d e) = inr (inr (λ q. cc, not_force step (Do u (Insert k r)) reply b (λ x. cc x)))
goes_commit v w step reply (puts u k r b is under d e) = inr (inr (λ q. cc, not_force step (Continue u) reply b (λ x. cc x)))
goes_commit v w step reply (drops_first u k r ls b is none there unheld same d e) = inr (inr (λ q. cc, not_force step (Do u (Delete k)) reply b (λ x. cc x)))
goes_commit v w step reply (drops_leaf u k b is under d e) = inr (inr (λ q. cc, not_force step (Continue u) reply b (λ x. cc x)))
goes_commit v w step reply (takes_later u c cs b is none net_is d e) = inr (inr (λ q. cc, not_force step (Continue u) reply b (λ x. cc x)))
goes_commit v w step reply (takes_first u c cs b is none net_is d e) = inr (inr (λ q. cc, not_force step (Continue u) reply b (λ x. cc x)))
goes_commit v w step reply (takes_leaf u c cs b is under net_is d e) = inr (inr (λ q. cc, not_force step (Continue u) reply b (λ x. cc x)))
goes_commit v w step reply (takes_last u b is under empty d e) = inr (inr (λ q. cc, not_force step (Continue u) reply b (λ x. cc x)))
goes_commit v w step reply (stays_back u n a may low d e) = inr (inr (λ q. cc, not_force step (RollTo u n) reply a (λ x. cc x)))
goes_commit v w step reply (turns_back u n a may over d e) = inr (inr (λ q. cc, not_force step (RollTo u n) reply a (λ x. cc x)))
goes_commit v w step reply (gives_back u n g cs a is net_is over d e) = inr (inr (λ q. cc, not_force step (Continue u) reply a (λ x. cc x)))
goes_commit v w step reply (is_back u n g cs a is net_is whole d e) = inr (inr (λ q. cc, not_force step (Continue u) reply a (λ x. cc x)))
goes_commit v w step reply (leaf_is_back u n a is under whole d e) = inr (inr (λ q. cc, not_force step (Continue u) reply a (λ x. cc x)))
goes_commit v w step reply (logs_page u x b under owner d e) = inr (inr (λ q. cc, not_force step (Continue u) reply b (λ x. cc x)))
goes_commit v w step reply (tree_blocks u a x b under other d e) = inr (inr (λ q. cc, not_force step (Do u a) reply b (λ x. cc x)))
goes_commit v w step reply (tree_halts u x b under other d e) = inr (inr (λ q. cc, not_force step (Continue u) reply b (λ x. cc x)))
goes_commit v w step reply (flushes p a d e) = inr (inr (λ q. cc, not_force step (FlushPage p) reply a (λ x. cc x)))
goes_commit v w step reply (forces a d e) = inr (inl (a, d))
goes_commit v w step reply (checkpoints a d e) = inr (inr (λ q. cc, not_force step Checkpoint reply a (λ x. cc x)))
goes_commit v w step reply (switches a d e) = inr (inr (λ q. cc, not_force step Switch reply a (λ x. cc x)))
goes_commit v w step reply (lacks fault wants d e) = inr (inr (λ q. cc, λ x y. let never : Done ≡ Refused fault = sym y ∙ d in cc never))
goes_commit v w step reply (breaks fault ls is d e) = inr (inr (λ q. cc, λ x y. let never : Done ≡ Refused fault = sym y ∙ d in cc never))

answers_commit : (v w : View) (step : Step) (reply : Reply) (o : Option ℕ) → Answers v step reply w o → IsCommit step reply
answers_commit v w step reply None g = goes_commit v w step reply g
answers_commit v w step reply (Some fault) g = let is : reply ≡ Refused fault = g.0 in inr (inr (λ q. cc, λ x y. let never : Done ≡ Refused fault = sym y ∙ is in cc never))

-- ---- who waits, by the trace

refused_queue : (queue : List ℕ) (step : Step) (f : ℕ) → queue_after queue step (Refused f) ≡ queue
refused_queue queue Begin f = refl
refused_queue queue (Do t a) f = refl
refused_queue queue (Commit t) f = refl
refused_queue queue (Rollback t) f = refl
refused_queue queue (Continue t) f = refl
refused_queue queue (RollTo t n) f = refl
refused_queue queue (FlushPage p) f = refl
refused_queue queue Force f = refl
refused_queue queue Checkpoint f = refl
refused_queue queue Switch f = refl

queue_by : (queue next : List ℕ) (step x : Step) (reply y : Reply) → step ≡ x → reply ≡ y → next ≡ queue_after queue x y → next ≡ queue_after queue step reply
queue_by queue next step x reply y a b is = is ∙ ap (λ (s : Step). queue_after queue s y) (sym a) ∙ ap (queue_after queue step) (sym b)

goes_queue : (v w : View) (step : Step) (reply : Reply) → Goes v step reply w → w.queue ≡ queue_after v.queue step reply
goes_queue v w step reply (begins a l b e) = queue_by v.queue w.queue step Begin reply reply a refl (ap (λ (y : View). y.queue) e)
goes_queue v w step reply (does t a ls b is free same d e) = queue_by v.queue w.queue step (Do t a) reply reply b refl (ap (λ (y : View). y.queue) e)
goes_queue v w step reply (waits t a holder b is wait d e) = queue_by v.queue w.queue step (Do t a) reply reply b refl (ap (λ (y : View). y.queue) e)
goes_queue v w step reply (dies t a b is must d e) = queue_by v.queue w.queue step (Do t a) reply reply b refl (ap (λ (y : View). y.queue) e)
goes_queue v w step reply (commits t a is alone d e) = queue_by v.queue w.queue step (Commit t) reply Committed a d (ap (λ (y : View). y.queue) e)
goes_queue v w step reply (queues t c cs a is net_is d e) = queue_by v.queue w.queue step (Commit t) reply More a d (ap (λ (y : View). y.queue) e)
goes_queue v w step reply (drops t a may empty d e) = queue_by v.queue w.queue step (Rollback t) reply reply a refl (ap (λ (y : View). y.queue) e)
goes_queue v w step reply (turns t c cs a may net_is d e) = queue_by v.queue w.queue step (Rollback t) reply reply a refl (ap (λ (y : View). y.queue) e)
goes_queue v w step reply (undoes t c d cs a is net_is q e) = queue_by v.queue w.queue step (Continue t) reply reply a refl (ap (λ (y : View). y.queue) e)
goes_queue v w step reply (ends t c a is net_is d e) = queue_by v.queue w.queue step (Continue t) reply reply a refl (ap (λ (y : View). y.queue) e)
goes_queue v w step reply (puts_later u k r ls b is none absent unheld same d e) = queue_by v.queue w.queue step (Do u (Insert k r)) reply reply b refl (ap (λ (y : View). y.queue) e)
goes_queue v w step reply (puts u k r b is under d e) = queue_by v.queue w.queue step (Continue u) reply reply b refl (ap (λ (y : View). y.queue) e)
goes_queue v w step reply (drops_first u k r ls b is none there unheld same d e) = queue_by v.queue w.queue step (Do u (Delete k)) reply reply b refl (ap (λ (y : View). y.queue) e)
goes_queue v w step reply (drops_leaf u k b is under d e) = queue_by v.queue w.queue step (Continue u) reply reply b refl (ap (λ (y : View). y.queue) e)
goes_queue v w step reply (takes_later u c cs b is none net_is d e) = queue_by v.queue w.queue step (Continue u) reply reply b refl (ap (λ (y : View). y.queue) e)
goes_queue v w step reply (takes_first u c cs b is none net_is d e) = queue_by v.queue w.queue step (Continue u) reply reply b refl (ap (λ (y : View). y.queue) e)
goes_queue v w step reply (takes_leaf u c cs b is under net_is d e) = queue_by v.queue w.queue step (Continue u) reply reply b refl (ap (λ (y : View). y.queue) e)
goes_queue v w step reply (takes_last u b is under empty d e) = queue_by v.queue w.queue step (Continue u) reply reply b refl (ap (λ (y : View). y.queue) e)
goes_queue v w step reply (stays_back u n a may low d e) = queue_by v.queue w.queue step (RollTo u n) reply reply a refl (ap (λ (y : View). y.queue) e)
goes_queue v w step reply (turns_back u n a may over d e) = queue_by v.queue w.queue step (RollTo u n) reply reply a refl (ap (λ (y : View). y.queue) e)
goes_queue v w step reply (gives_back u n g cs a is net_is over d e) = queue_by v.queue w.queue step (Continue u) reply reply a refl (ap (λ (y : View). y.queue) e)
goes_queue v w step reply (is_back u n g cs a is net_is whole d e) = queue_by v.queue w.queue step (Continue u) reply reply a refl (ap (λ (y : View). y.queue) e)
goes_queue v w step reply (leaf_is_back u n a is under whole d e) = queue_by v.queue w.queue step (Continue u) reply reply a refl (ap (λ (y : View). y.queue) e)
goes_queue v w step reply (logs_page u x b under owner d e) = queue_by v.queue w.queue step (Continue u) reply reply b refl (ap (λ (y : View). y.queue) e)
goes_queue v w step reply (tree_blocks u a x b under other d e) = queue_by v.queue w.queue step (Do u a) reply reply b refl (ap (λ (y : View). y.queue) e)
goes_queue v w step reply (tree_halts u x b under other d e) = queue_by v.queue w.queue step (Continue u) reply reply b refl (ap (λ (y : View). y.queue) e)
goes_queue v w step reply (flushes p a d e) = queue_by v.queue w.queue step (FlushPage p) reply reply a refl (ap (λ (y : View). y.queue) e)
goes_queue v w step reply (forces a d e) = queue_by v.queue w.queue step Force reply Done a d (ap (λ (y : View). y.queue) e)
goes_queue v w step reply (checkpoints a d e) = queue_by v.queue w.queue step Checkpoint reply reply a refl (ap (λ (y : View). y.queue) e)
goes_queue v w step reply (switches a d e) = queue_by v.queue w.queue step Switch reply reply a refl (ap (λ (y : View). y.queue) e)
goes_queue v w step reply (lacks fault wants d e) = queue_by v.queue w.queue step step reply (Refused fault) refl d (ap (λ (y : View). y.queue) e ∙ sym (refused_queue v.queue step fault))
goes_queue v w step reply (breaks fault ls is d e) = queue_by v.queue w.queue step step reply (Refused fault) refl d (ap (λ (y : View). y.queue) e ∙ sym (refused_queue v.queue step fault))

answers_queue : (v w : View) (step : Step) (reply : Reply) (o : Option ℕ) → Answers v step reply w o → w.queue ≡ queue_after v.queue step reply
answers_queue v w step reply None g = goes_queue v w step reply g
answers_queue v w step reply (Some fault) g = queue_by v.queue w.queue step step reply (Refused fault) refl g.0 (ap (λ (y : View). y.queue) g.1 ∙ sym (refused_queue v.queue step fault))

run_queue : (v : View) (trace : List (Step × Reply)) (w : View) → Run v trace w → w.queue ≡ queue_after_all v.queue trace
run_queue v [] w r = ap (λ (y : View). y.queue) r
run_queue v (e ∷ es) w r = run_queue r.0 es w r.2 ∙ ap (λ (q : List ℕ). queue_after_all q es) (answers_queue v r.0 e.0 e.1 (barred v e.0) r.1)

-- ---- those that a force finishes, one after another

queue_serial : (base w : IndexMap) (f : ℕ → Txn) (told : ℕ → List (Access × Reply)) → Fits base w f told → (ts : List ℕ) → AreDifferent ts → ((t : ℕ) → is_among t ts ≡ true → (f t).mark ≡ Committing) → (trace : List (Step × Reply))
    → ((t : ℕ) → is_among t ts ≡ true → accesses_of (told t) ≡ map (λ p. p.0) (finished t trace)) → ((t : ℕ) → is_among t ts ≡ true → replies_of (told t) ≡ map (λ p. p.1) (finished t trace)) → Serially base (finished_all trace ts) (map_behind base f ts)
queue_serial base w f told fits [] each marks trace as' rs = (refl, refl)
queue_serial base w f told fits (t ∷ ts) each marks trace as' rs =
    let story : Told ((f t).locks) w base (told t) ((f t).net) = waiting_told ((f t).locks) base w (told t) ((f t).net) ((f t).mark) (marks t (among_one t t ts refl)) (fits.story t) in
    let next : IndexMap = apply base ((f t).net) in
    let one : Serially base (finished t trace) next = (
      Told-after_all ((f t).locks) w base (told t) ((f t).net) story ∙ ap (map_after_all base) (as' t (among_one t t ts refl)),
      ap (replay base) (sym (as' t (among_one t t ts refl))) ∙ Told-replay ((f t).locks) w base (told t) ((f t).net) story ∙ rs t (among_one t t ts refl),
    ) in
    let rest : Serially next (finished_all trace ts) (map_behind next (set_txn f t idle) ts) = queue_serial next w (set_txn f t idle) told (Sets-fits next w f told t idle (commit_sets base w f told fits t)) ts each.1
    (λ s some. ap (λ (x : Txn). x.mark) (set_txn-other f t idle s (λ e. let here : is_among t ts ≡ true = subst (λ (k : ℕ). is_among k ts ≡ true) e some in let never : true ≡ false = sym here ∙ each.0 in cc never)) ∙ marks s (or_true (s == t) (is_among s ts) some))
    trace (λ s some. as' s (or_true (s == t) (is_among s ts) some)) (λ s some. rs s (or_true (s == t) (is_among s ts) some)) in
    serially_then base next (map_behind base f (t ∷ ts)) (finished t trace) (finished_all trace ts) one
    (subst (λ (m : IndexMap). Serially next (finished_all trace ts) m) (ap (apply_all next) (nets_idle f t ts each.0)) rest)

-- ---- a whole run

-- what is not refused no check bars
pub passed : (v : View) (step : Step) (reply : Reply) (w : View) (o : Option ℕ) → Answers v step reply w o → ((fault : ℕ) → reply ≡ Refused fault → ⊥) → o ≡ None
passed v step reply w None g never = refl
passed v step reply w (Some fault) g never = absurd (never fault g.0)

module _ (base : IndexMap) (n : ℕ) where
  one_commit : (front : List (Step × Reply)) (v w : View) (t : ℕ) → Run (start base n) front v → Moves v (Commit t) Committed w → Serially v.committed (finished t front) w.committed
  one_commit front v w t r m =
      let g = unbarred v (Commit t) Committed w (barred v (Commit t)) m (λ fault e. cc) in
      let may = (commit_end v t w g).may in
      (commit_adds v t w g ∙ after_story base n front v r t (clear_commit v t (passed v (Commit t) Committed w (barred v (Commit t)) m (λ fault e. cc))) may, going_replay base n front v r t may)

  one_force : (front : List (Step × Reply)) (v w : View) → Run (start base n) front v → Moves v Force Done w → Serially v.committed (finished_all front (queue_after_all [] front)) w.committed
  one_force front v w r m =
      let g = unbarred v Force Done w (barred v Force) m (λ fault e. cc) in
      let up : Upheld v (tells (pending_of None) nothing_told front) = run_upheld base n front v r in
      let u : View = relocked v up.locks in
      let told = tells (pending_of None) nothing_told front in
      let clear : (t : ℕ) → is_among t v.queue ≡ true → pending_of v.under t ≡ None = λ t some. not_going v.under t u.txns v.walk up.stands.change (λ going. let never : Going ≡ Committing = sym going ∙ up.stands.queue.waits t some in cc never) in
      let all : Serially v.committed (finished_all front v.queue) (map_behind v.committed u.txns v.queue) =
      queue_serial v.committed v.walk u.txns (ahead v.under told) up.stands.fits v.queue up.stands.queue.each (λ t some. up.stands.queue.waits t some) front
      (λ t some. ap accesses_of (ahead_same v.under t told (clear t some)) ∙ finished_accesses front t)
      (λ t some. ap replies_of (ahead_same v.under t told (clear t some)) ∙ finished_replies front t) in
      subst (λ (q : List ℕ). Serially v.committed (finished_all front q) w.committed) (run_queue (start base n) front v r)
      (subst (λ (m : IndexMap). Serially v.committed (finished_all front v.queue) m)
      (ap (apply_all v.committed) (nets_same v.txns u.txns v.queue (λ s. refl)) ∙ ap (λ (y : View). y.committed) (sym (force_is v w g))) all)

  one_step : (front : List (Step × Reply)) (v w : View) (step : Step) (reply : Reply) → Run (start base n) front v → Moves v step reply w → Serially v.committed (committed_in front step reply) w.committed
  one_step front v w step reply r m = elim (answers_commit v w step reply (barred v step) m) [
    | inl is ↦
        let moved : Moves v (Commit is.0) Committed w = subst (λ (x : Reply). Moves v (Commit is.0) x w) is.2 (subst (λ (x : Step). Moves v x reply w) is.1 m) in
        subst (λ (fs : List (Access × Reply)). Serially v.committed fs w.committed)
        (sym (ap (λ (x : Step). committed_in front x reply) is.1 ∙ ap (λ (x : Reply). committed_in front (Commit is.0) x) is.2))
        (one_commit front v w is.0 r moved)
    | inr which ↦ elim which [
      | inl is ↦
          let moved : Moves v Force Done w = subst (λ (x : Reply). Moves v Force x w) is.1 (subst (λ (x : Step). Moves v x reply w) is.0 m) in
          subst (λ (fs : List (Access × Reply)). Serially v.committed fs w.committed)
          (sym (ap (λ (x : Step). committed_in front x reply) is.0 ∙ ap (λ (x : Reply). committed_in front Force x) is.1))
          (one_force front v w r moved)
      | inr other ↦
          subst (λ (fs : List (Access × Reply)). Serially v.committed fs w.committed) (sym (none_in front step reply other.0 other.1))
          (answers_stays v w step reply (barred v step) m other.0 (λ a d. absurd (other.1 a d)), refl)
    ]
  ]

  serial_from : (front rest : List (Step × Reply)) (v w : View) → Run (start base n) front v → Run v rest w → Serially v.committed (serial front rest) w.committed
  serial_from front [] v w r q = (ap (λ (x : View). x.committed) q, refl)
  serial_from front (e ∷ es) v w r q =
      serially_then v.committed (q.0).committed w.committed (committed_in front e.0 e.1) (serial (front ++ e ∷ []) es)
      (one_step front v q.0 e.0 e.1 r q.1)
      (serial_from (front ++ e ∷ []) es q.0 w (Run-push (start base n) v q.0 front e.0 e.1 r q.1) q.2)

pub none_refused : (reply : Reply) → (reply ≡ More) ⊎ (reply ≡ Done) → (fault : ℕ) → reply ≡ Refused fault → ⊥
none_refused reply (inl h) fault e = cc
none_refused reply (inr h) fault e = cc

pub isolates : (base : IndexMap) (n : ℕ) → Isolates base n
isolates base n = record {
  going = λ trace v r t which. elim which [ inl may ↦ going_replay base n trace v r t may | inr is ↦ waiting_replay base n trace v r t is ];
  waiting = λ trace v r. run_queue (start base n) trace v r;
  by_force = λ front rest v w end r m later ts us t is. forced_replay base n front rest v w end r (unbarred v Force Done w (barred v Force) m (λ fault e. cc)) later ts us t is;
  committed = λ front rest v w end r t m later.
      ended_replay base n front rest v w end t (Commit t, Committed) r (commit_end v t w (unbarred v (Commit t) Committed w (barred v (Commit t)) m (λ fault e. cc))) (λ o fs. refl) later;
  rolled_back = λ front rest v w end r t reply which m later.
      ended_replay base n front rest v w end t (Rollback t, reply) r (rollback_end v t reply w which (unbarred v (Rollback t) reply w (barred v (Rollback t)) m (no_refusal reply which))) (λ o fs. refl) later;
  returned = λ front v w r t left reply which m. going_replay base n front v r t (may_return v t left (passed v (RollTo t left) reply w (barred v (RollTo t left)) m (none_refused reply which)));
  adds = λ front v w r t m.
      let g = unbarred v (Commit t) Committed w (barred v (Commit t)) m (λ fault e. cc) in
      commit_adds v t w g ∙ after_story base n front v r t (clear_commit v t (passed v (Commit t) Committed w (barred v (Commit t)) m (λ fault e. cc))) ((commit_end v t w g).may);
  stays = λ v w step reply m ne none. answers_stays v w step reply (barred v step) m ne none;
  in_order = λ trace v r. serial_from base n [] trace (start base n) v refl r;
  quiet = λ trace v r none.
      let both = together_up v (tells (pending_of None) nothing_told trace) (run_upheld base n trace v r) in
      same_maps v.walk v.committed (λ k. both.untouched k (λ t touch. subst (λ (net : List Change). Touches net k) (none t) touch));
  together = λ trace v r. together_up v (tells (pending_of None) nothing_told trace) (run_upheld base n trace v r);
}

-- ---- locks that are granted keep nets apart

same_head : (c d : Change) → c ∷ [] ≡ d ∷ [] → c ≡ d
same_head c d e = cc

pub granted_free : GrantedChangesAreFree
granted_free base v reached works t a c going free one u differ touch =
    let told = tells (pending_of None) nothing_told reached.trace in
    let h = stands_of v told (run_upheld base reached.first reached.trace v reached.run) works in
    let story = going_through v told h t (inl going) in
    let read : Reads a v.walk (key_of c) = elim (cases_access a v.walk ((v.txns t).locks)) [
      | inl still ↦ let never : [] ≡ c ∷ [] = sym still.nothing ∙ one in absurd cc
      | inr made ↦ subst (λ (d : Change). Reads a v.walk (key_of d)) (same_head made.0 c (sym made.1.change ∙ one)) made.1.itself
    ] in
    read_free v.committed v.walk v.txns (ahead v.under told) h.fits t a (granted_of v t (asked a v.walk) free) story (key_of c) read u differ touch

-- what a reader who holds nothing finds free is in nobody's net
pub free_reads : FreeReadsAreCommitted
free_reads base v reached works t a none free =
    let told = tells (pending_of None) nothing_told reached.trace in
    let up : Upheld v told = run_upheld base reached.first reached.trace v reached.run in
    let h = stands_of v told up works in
    let both : IsTogether v = together_up v told up in
    reply-agrees a v.walk v.committed (λ x r.
    sym (both.untouched x (λ s touch.
    let g = asked-guards a v.walk x r in
    let differ : s ≢ t = λ e. subst (λ (net : List Change). Touches net x) none (subst (λ (u : ℕ). Touches ((v.txns u).net) x) e touch) in
    granted_of v t (asked a v.walk) free s (guard v.walk x) g.0 Exclusive differ g.1 (Chain-guards _ v.walk v.committed _ (h.fits.chain s) x touch) (inr refl))))

-- ---- who waits, in a machine that was reached

pub queue_marks : (base : IndexMap) (v : View) → IsReached base v → IsQueue v.queue v.txns
queue_marks base v reached =
    let up : Upheld v (tells (pending_of None) nothing_told reached.trace) = run_upheld base reached.first reached.trace v reached.run in
    record { each = up.stands.queue.each; waits = λ t some. up.stands.queue.waits t some; all = λ t is. up.stands.queue.all t is }

-- the number that is given next waits for nothing
pub next_idle : (base : IndexMap) (v : View) → IsReached base v → (v.txns v.next).mark ≡ Committing → ⊥
next_idle base v reached some =
    let up : Upheld v (tells (pending_of None) nothing_told reached.trace) = run_upheld base reached.first reached.trace v reached.run in
    let is : (v.txns v.next).mark ≡ Idle = ap (λ (x : Txn). x.mark) (up.stands.fresh v.next (omega arith)) in
    let never : Committing ≡ Idle = sym some ∙ is in cc never

-- ---- what goes on

-- the number that is given next is idle
pub next_is_idle : (base : IndexMap) (v : View) → IsReached base v → (v.txns v.next).mark ≡ Idle
next_is_idle base v reached =
    let up : Upheld v (tells (pending_of None) nothing_told reached.trace) = run_upheld base reached.first reached.trace v reached.run in
    ap (λ (x : Txn). x.mark) (up.stands.fresh v.next (omega arith))

-- one that is not going has no access that goes on
pub nothing_goes_on : (base : IndexMap) (v : View) → IsReached base v → (t : ℕ) → ((v.txns t).mark ≡ Going → ⊥) → pending_of v.under t ≡ None
nothing_goes_on base v reached t still =
    let up : Upheld v (tells (pending_of None) nothing_told reached.trace) = run_upheld base reached.first reached.trace v reached.run in
    not_going v.under t (relocked v up.locks).txns v.walk up.stands.change still

pub pending_granted : PendingInsertsAreGranted
pending_granted base v reached works t k r under =
    let h = stands_of v (tells (pending_of None) nothing_told reached.trace) (run_upheld base reached.first reached.trace v reached.run) works in
    let pending = (subst (λ (u : Option Under). IsUnder u v.txns v.walk) under h.change).1 in
    (pending, kept_locks_stay.grants v.txns v.walk t k r pending)

-- and the key that it puts is absent till then, in a machine that has failed too
pub pending_absent : (base : IndexMap) (v : View) → IsReached base v → (t : ℕ) (k : Key) (r : ℕ) → v.under ≡ Some (record { owner = t; aim = Puts k r }) → get v.walk k ≡ None
pending_absent base v reached t k r under =
    let up : Upheld v (tells (pending_of None) nothing_told reached.trace) = run_upheld base reached.first reached.trace v reached.run in
    (subst (λ (u : Option Under). IsUnder u (relocked v up.locks).txns v.walk) under up.stands.change).1.absent
