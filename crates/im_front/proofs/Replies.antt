-- What the machine answers, a store may: a reply that suits its step, and no full trace. And a machine that has failed stays so.
use Rattle.std.proofs.Common.{◌≡◌, ℕ, zero, suc, ◌≤◌, Bool, true, false, true≢false, List, [], ◌∷◌, length, take, Option, Some, None, refl, ap, sym, subst, ◌∙◌, inl, inr, arith}
use Rattle.std.specs.Prelude.{◌==◌, cond, is_some, not}
use Rattle.std.specs.FinMap.{get}
use Rattle.im_base_types.specs.Pages as pages
use Rattle.im_base_types.specs.Maps.{IndexMap, From, Above, first, last_below}
use Rattle.im_base_types.specs.Refusals.{failed as has_failed}
use Rattle.im_base_types.specs.Answers.{Access, Fetch, Seek, Next, Prev, Scan, Insert, Delete, Step, Begin, Do, Commit, Rollback, Continue, RollTo, FlushPage, Force, Checkpoint, Switch, Reply, Started, Found, Absent, Entry, End, Entries, Inserted, Duplicate, Deleted, Committed, RolledBack, More, Blocked, BlockedTree, Die, Done, Refused, Mark, Idle, Going, MustRollBack, RollingBack, Returning, Committing, found, entry, answer, limit_of}
use Rattle.im_base_types.specs.Lives.{Shown, shows, accessed}
use Rattle.im_theory_machine.specs.View.{View, pending_of}
use Rattle.im_theory_machine.specs.Machine.{keys_fit, barred, barred_to, barred_to_rollback, barred_to_continue, or_else, fault_if, Answers, Goes, Moves, Wants, Breaks, begins, does, waits, dies, commits, queues, drops, turns, undoes, ends, puts_later, puts, drops_first, drops_leaf, takes_later, takes_first, takes_leaf, takes_last, stays_back, turns_back, gives_back, is_back, leaf_is_back, logs_page, tree_blocks, tree_halts, flushes, forces, checkpoints, switches, lacks, breaks}
use Rattle.im_base_steps.specs.Calls.{most_entries, entries_in, most_key, has_entry, is_blocked}
use Rattle.im_base_steps.specs.Replies.{is_full, is_search, Suits, IsReply, IsCounted}

-- ---- no reply is a full trace

abbrev NotFull : Option ℕ → Type 0
NotFull None = Unit {0}
NotFull (Some f) = (f == 14) ≡ false

or_else-full : (a b : Option ℕ) → NotFull a → NotFull b → NotFull (or_else a b)
or_else-full None b x y = y
or_else-full (Some f) b x y = x

fault_if-full : (b : Bool) (f : ℕ) → (f == 14) ≡ false → NotFull (fault_if b f)
fault_if-full true f e = e
fault_if-full false f e = tt

unless-full : (b : Bool) (o : Option ℕ) → NotFull o → NotFull (cond b None o)
unless-full true o e = tt
unless-full false o e = e

mark-full : (m : Mark) → NotFull (barred_to m) × NotFull (barred_to_rollback m) × NotFull (barred_to_continue m)
mark-full Idle = (refl, refl, refl)
mark-full Going = (tt, tt, refl)
mark-full MustRollBack = (refl, tt, refl)
mark-full RollingBack = (refl, refl, tt)
mark-full (Returning n) = (refl, refl, tt)
mark-full Committing = (refl, refl, refl)

barred-full : (v : View) (s : Step) → NotFull (barred v s)
barred-full v Begin = or_else-full _ _ (fault_if-full v.failed 10 refl) (fault_if-full _ 12 refl)
barred-full v (Do t a) = or_else-full _ _ (fault_if-full v.failed 10 refl) (or_else-full (barred_to ((v.txns t).mark)) (or_else (fault_if (is_some (pending_of v.under t)) 17) (fault_if (not (keys_fit a)) 3)) ((mark-full ((v.txns t).mark)).0)
    (or_else-full (fault_if (is_some (pending_of v.under t)) 17) (fault_if (not (keys_fit a)) 3) (fault_if-full (is_some (pending_of v.under t)) 17 refl) (fault_if-full (not (keys_fit a)) 3 refl)))
barred-full v (Commit t) = or_else-full _ _ (fault_if-full v.failed 10 refl) (or_else-full _ _ ((mark-full ((v.txns t).mark)).0) (fault_if-full _ 17 refl))
barred-full v (Rollback t) = or_else-full _ _ (fault_if-full v.failed 10 refl) (or_else-full _ _ ((mark-full ((v.txns t).mark)).1) (fault_if-full _ 17 refl))
barred-full v (Continue t) = or_else-full _ _ (fault_if-full v.failed 10 refl) (unless-full _ _ ((mark-full ((v.txns t).mark)).2))
barred-full v (RollTo t n) = or_else-full _ _ (fault_if-full v.failed 10 refl) (or_else-full _ _ ((mark-full ((v.txns t).mark)).1) (fault_if-full _ 17 refl))
barred-full v (FlushPage p) = fault_if-full v.failed 10 refl
barred-full v Force = fault_if-full v.failed 10 refl
barred-full v Checkpoint = fault_if-full v.failed 10 refl
barred-full v Switch = or_else-full _ _ (fault_if-full v.failed 10 refl) (fault_if-full _ 15 refl)

wants-full : (s : Step) (f : ℕ) → Wants s f → (f == 14) ≡ false
wants-full (Do t (Insert k r)) f (inl e) = ap (λ n. n == 14) e
wants-full (Do t (Insert k r)) f (inr e) = ap (λ n. n == 14) e
wants-full Begin f e = ap (λ n. n == 14) e
wants-full (Do t (Fetch k)) f e = ap (λ n. n == 14) e
wants-full (Do t (Seek k)) f e = ap (λ n. n == 14) e
wants-full (Do t (Next k)) f e = ap (λ n. n == 14) e
wants-full (Do t (Prev k)) f e = ap (λ n. n == 14) e
wants-full (Do t (Scan lo hi n)) f e = ap (λ n. n == 14) e
wants-full (Do t (Delete k)) f e = ap (λ n. n == 14) e
wants-full (Commit t) f e = ap (λ n. n == 14) e
wants-full (Rollback t) f e = ap (λ n. n == 14) e
wants-full (Continue t) f e = ap (λ n. n == 14) e
wants-full (RollTo t n) f e = ap (λ n. n == 14) e
wants-full (FlushPage p) f e = ap (λ n. n == 14) e
wants-full Force f e = ap (λ n. n == 14) e
wants-full Checkpoint f e = ap (λ n. n == 14) e
wants-full Switch f e = ap (λ n. n == 14) e

breaks-full : (f : ℕ) → Breaks f → (f == 14) ≡ false
breaks-full f (inl e) = ap (λ n. n == 14) e
breaks-full f (inr (inl e)) = ap (λ n. n == 14) e
breaks-full f (inr (inr (inl e))) = ap (λ n. n == 14) e
breaks-full f (inr (inr (inr e))) = ap (λ n. n == 14) e

full_found : (o : Option ℕ) → is_full (found o) ≡ false
full_found None = refl
full_found (Some r) = refl

full_entry : (o : Option pages.Entry) → is_full (entry o) ≡ false
full_entry None = refl
full_entry (Some e) = refl

full_insert : (b : Bool) → is_full (cond b Duplicate Inserted) ≡ false
full_insert true = refl
full_insert false = refl

full_delete : (b : Bool) → is_full (cond b Deleted Absent) ≡ false
full_delete true = refl
full_delete false = refl

answer-full : (a : Access) (m : IndexMap) → is_full (answer a m) ≡ false
answer-full (Fetch k) m = full_found (get m k)
answer-full (Seek k) m = full_entry (first (From k) m)
answer-full (Next k) m = full_entry (first (Above k) m)
answer-full (Prev k) m = full_entry (last_below k m)
answer-full (Scan lo hi n) m = refl
answer-full (Insert k r) m = full_insert (is_some (get m k))
answer-full (Delete k) m = full_delete (is_some (get m k))

goes-full : (v w : View) (s : Step) (r : Reply) → Goes v s r w → is_full r ≡ false
goes-full v w s r (begins a limit b c) = ap is_full b
goes-full v w s r (does t a ls b going free same d e) = ap is_full d ∙ answer-full a v.walk
goes-full v w s r (waits t a holder b going wait d e) = ap is_full d
goes-full v w s r (dies t a b going die d e) = ap is_full d
goes-full v w s r (commits t b going some d e) = ap is_full d
goes-full v w s r (queues t c cs b going some d e) = ap is_full d
goes-full v w s r (drops t b may none d e) = ap is_full d
goes-full v w s r (turns t x xs b may net d e) = ap is_full d
goes-full v w s r (undoes t x y xs b rolling net d e) = ap is_full d
goes-full v w s r (ends t x b rolling net d e) = ap is_full d
goes-full v w s r (puts_later u k i ls b is none absent unheld same d e) = ap is_full d
goes-full v w s r (puts u k i b is under d e) = ap is_full d
goes-full v w s r (drops_first u k i ls b is none there unheld same d e) = ap is_full d
goes-full v w s r (drops_leaf u k b is under d e) = ap is_full d
goes-full v w s r (takes_later u c cs b is none net_is d e) = ap is_full d
goes-full v w s r (takes_first u c cs b is none net_is d e) = ap is_full d
goes-full v w s r (takes_leaf u c cs b is under net_is d e) = ap is_full d
goes-full v w s r (takes_last u b is under empty d e) = ap is_full d
goes-full v w s r (stays_back u n b may few d e) = ap is_full d
goes-full v w s r (turns_back u n b may more d e) = ap is_full d
goes-full v w s r (gives_back u n c cs b returning net_is left d e) = ap is_full d
goes-full v w s r (is_back u n c cs b returning net_is left d e) = ap is_full d
goes-full v w s r (leaf_is_back u n b returning under left d e) = ap is_full d
goes-full v w s r (logs_page u x b under owner d e) = ap is_full d
goes-full v w s r (tree_blocks u a x b under other d e) = ap is_full d
goes-full v w s r (tree_halts u x b under other d e) = ap is_full d
goes-full v w s r (flushes p b d e) = ap is_full d
goes-full v w s r (forces b d e) = ap is_full d
goes-full v w s r (checkpoints b d e) = ap is_full d
goes-full v w s r (switches b d e) = ap is_full d
goes-full v w s r (lacks fault want d e) = ap is_full d ∙ wants-full s fault want
goes-full v w s r (breaks fault ls break d e) = ap is_full d ∙ breaks-full fault break

answers-full : (v w : View) (s : Step) (r : Reply) (o : Option ℕ) → NotFull o → Answers v s r w o → is_full r ≡ false
answers-full v w s r None n a = goes-full v w s r a
answers-full v w s r (Some f) n a = ap is_full a.0 ∙ n

never_full : (v w : View) (s : Step) (r : Reply) → Moves v s r w → is_full r ≡ false
never_full v w s r m = answers-full v w s r (barred v s) (barred-full v s) m

-- ---- each reply suits its step

taken : (n : ℕ) (l : List pages.Entry) → length (take n l) ≤ n
taken zero l = omega arith
taken (suc n) [] = omega arith
taken (suc n) (x ∷ xs) = let e : length (take n xs) ≤ n = taken n xs in omega arith

suits_found : (t : ℕ) (k : List ℕ) (o : Option ℕ) → Suits (Do t (Fetch k)) (found o)
suits_found t k None = refl
suits_found t k (Some r) = refl

suits_entry : (s : Step) (o : Option pages.Entry) → is_search s ≡ true → Suits s (entry o)
suits_entry s None e = e
suits_entry s (Some x) e = e

suits_insert : (t : ℕ) (k : List ℕ) (r : ℕ) (b : Bool) → Suits (Do t (Insert k r)) (cond b Duplicate Inserted)
suits_insert t k r true = refl
suits_insert t k r false = refl

suits_delete : (t : ℕ) (k : List ℕ) (b : Bool) → Suits (Do t (Delete k)) (cond b Deleted Absent)
suits_delete t k true = refl
suits_delete t k false = refl

answer_suits : (t : ℕ) (a : Access) (m : IndexMap) → Suits (Do t a) (answer a m)
answer_suits t (Fetch k) m = suits_found t k (get m k)
answer_suits t (Seek k) m = suits_entry (Do t (Seek k)) (first (From k) m) refl
answer_suits t (Next k) m = suits_entry (Do t (Next k)) (first (Above k) m) refl
answer_suits t (Prev k) m = suits_entry (Do t (Prev k)) (last_below k m) refl
answer_suits t (Scan lo hi n) m = (refl, taken (limit_of n) _)
answer_suits t (Insert k r) m = suits_insert t k r (is_some (get m k))
answer_suits t (Delete k) m = suits_delete t k (is_some (get m k))

suits_at : (s s' : Step) (r r' : Reply) → s ≡ s' → r ≡ r' → Suits s' r' → Suits s r
suits_at s s' r r' e is h = subst (λ (x : Step × Reply). Suits x.0 x.1) (λ i. (sym e i, sym is i)) h

goes_suits : (v w : View) (s : Step) (r : Reply) → Goes v s r w → Suits s r
goes_suits v w s r (begins a limit b c) = suits_at s Begin r _ a b refl
goes_suits v w s r (does t a ls b going free same d e) = suits_at s (Do t a) r _ b d (answer_suits t a v.walk)
goes_suits v w s r (waits t a holder b going wait d e) = suits_at s (Do t a) r (Blocked holder) b d refl
goes_suits v w s r (dies t a b going die d e) = suits_at s (Do t a) r Die b d refl
goes_suits v w s r (commits t b going some d e) = suits_at s (Commit t) r Committed b d refl
goes_suits v w s r (queues t c cs b going some d e) = suits_at s (Commit t) r More b d refl
goes_suits v w s r (drops t b may none d e) = suits_at s (Rollback t) r RolledBack b d refl
goes_suits v w s r (turns t x xs b may net d e) = suits_at s (Rollback t) r More b d refl
goes_suits v w s r (undoes t x y xs b rolling net d e) = suits_at s (Continue t) r More b d refl
goes_suits v w s r (ends t x b rolling net d e) = suits_at s (Continue t) r RolledBack b d refl
goes_suits v w s r (puts_later u k i ls b is none absent unheld same d e) = suits_at s (Do u (Insert k i)) r More b d refl
goes_suits v w s r (puts u k i b is under d e) = suits_at s (Continue u) r Inserted b d refl
goes_suits v w s r (drops_first u k i ls b is none there unheld same d e) = suits_at s (Do u (Delete k)) r More b d refl
goes_suits v w s r (drops_leaf u k b is under d e) = suits_at s (Continue u) r Deleted b d refl
goes_suits v w s r (takes_later u c cs b is none net_is d e) = suits_at s (Continue u) r More b d refl
goes_suits v w s r (takes_first u c cs b is none net_is d e) = suits_at s (Continue u) r More b d refl
goes_suits v w s r (takes_leaf u c cs b is under net_is d e) = suits_at s (Continue u) r More b d refl
goes_suits v w s r (takes_last u b is under empty d e) = suits_at s (Continue u) r RolledBack b d refl
goes_suits v w s r (stays_back u n b may few d e) = suits_at s (RollTo u n) r Done b d refl
goes_suits v w s r (turns_back u n b may more d e) = suits_at s (RollTo u n) r More b d refl
goes_suits v w s r (gives_back u n c cs b returning net_is left d e) = suits_at s (Continue u) r More b d refl
goes_suits v w s r (is_back u n c cs b returning net_is left d e) = suits_at s (Continue u) r Done b d refl
goes_suits v w s r (leaf_is_back u n b returning under left d e) = suits_at s (Continue u) r Done b d refl
goes_suits v w s r (logs_page u x b under owner d e) = suits_at s (Continue u) r More b d refl
goes_suits v w s r (tree_blocks u a x b under other d e) = suits_at s (Do u a) r BlockedTree b d refl
goes_suits v w s r (tree_halts u x b under other d e) = suits_at s (Continue u) r BlockedTree b d refl
goes_suits v w s r (flushes p b d e) = suits_at s (FlushPage p) r Done b d refl
goes_suits v w s r (forces b d e) = suits_at s Force r Done b d refl
goes_suits v w s r (checkpoints b d e) = suits_at s Checkpoint r Done b d refl
goes_suits v w s r (switches b d e) = suits_at s Switch r Done b d refl
goes_suits v w s r (lacks fault want d e) = suits_at s s r (Refused fault) refl d tt
goes_suits v w s r (breaks fault ls break d e) = suits_at s s r (Refused fault) refl d tt

answers_suit : (v w : View) (s : Step) (r : Reply) (o : Option ℕ) → Answers v s r w o → Suits s r
answers_suit v w s r None a = goes_suits v w s r a
answers_suit v w s r (Some f) a = suits_at s s r (Refused f) refl a.0 tt

-- what the machine answers, a store may
pub moves_reply : (v w : View) (s : Step) (r : Reply) → Moves v s r w → IsReply s r
moves_reply v w s r m = record { suits = answers_suit v w s r (barred v s) m; room = never_full v w s r m }

-- ---- so it has no more entries than its step allows, and names an entry only where its step asks for one

few : (r : Reply) (n : ℕ) → entries_in r ≡ [] → length (entries_in r) ≤ n
few r n none = let z : length (entries_in r) ≡ 0 = ap length none in omega arith

pub few_entries : (s : Step) (r : Reply) → Suits s r → length (entries_in r) ≤ most_entries s
few_entries s (Entries l) h = h.1
few_entries s (Started t) h = few (Started t) (most_entries s) refl
few_entries s (Found t) h = few (Found t) (most_entries s) refl
few_entries s Absent h = few Absent (most_entries s) refl
few_entries s (Entry k r) h = few (Entry k r) (most_entries s) refl
few_entries s End h = few End (most_entries s) refl
few_entries s Inserted h = few Inserted (most_entries s) refl
few_entries s Duplicate h = few Duplicate (most_entries s) refl
few_entries s Deleted h = few Deleted (most_entries s) refl
few_entries s Committed h = few Committed (most_entries s) refl
few_entries s RolledBack h = few RolledBack (most_entries s) refl
few_entries s More h = few More (most_entries s) refl
few_entries s (Blocked t) h = few (Blocked t) (most_entries s) refl
few_entries s BlockedTree h = few BlockedTree (most_entries s) refl
few_entries s Die h = few Die (most_entries s) refl
few_entries s Done h = few Done (most_entries s) refl
few_entries s (Refused f) h = few (Refused f) (most_entries s) refl

search_most : (s : Step) → is_search s ≡ true → most_key s ≡ 255
search_most (Do t (Seek k)) h = refl
search_most (Do t (Next k)) h = refl
search_most (Do t (Prev k)) h = refl
search_most (Do t (Fetch k)) h = absurd (true≢false (sym h))
search_most (Do t (Scan lo hi n)) h = absurd (true≢false (sym h))
search_most (Do t (Insert k r)) h = absurd (true≢false (sym h))
search_most (Do t (Delete k)) h = absurd (true≢false (sym h))
search_most Begin h = absurd (true≢false (sym h))
search_most (Commit t) h = absurd (true≢false (sym h))
search_most (Rollback t) h = absurd (true≢false (sym h))
search_most (Continue t) h = absurd (true≢false (sym h))
search_most (RollTo t n) h = absurd (true≢false (sym h))
search_most (FlushPage p) h = absurd (true≢false (sym h))
search_most Force h = absurd (true≢false (sym h))
search_most Checkpoint h = absurd (true≢false (sym h))
search_most Switch h = absurd (true≢false (sym h))

pub entry_asked : (s : Step) (r : Reply) → Suits s r → has_entry r ≡ true → most_key s ≡ 255
entry_asked s (Entry k r) h e = search_most s h
entry_asked s (Started t) h e = absurd (true≢false (sym e))
entry_asked s (Found t) h e = absurd (true≢false (sym e))
entry_asked s Absent h e = absurd (true≢false (sym e))
entry_asked s End h e = absurd (true≢false (sym e))
entry_asked s (Entries l) h e = absurd (true≢false (sym e))
entry_asked s Inserted h e = absurd (true≢false (sym e))
entry_asked s Duplicate h e = absurd (true≢false (sym e))
entry_asked s Deleted h e = absurd (true≢false (sym e))
entry_asked s Committed h e = absurd (true≢false (sym e))
entry_asked s RolledBack h e = absurd (true≢false (sym e))
entry_asked s More h e = absurd (true≢false (sym e))
entry_asked s (Blocked t) h e = absurd (true≢false (sym e))
entry_asked s BlockedTree h e = absurd (true≢false (sym e))
entry_asked s Die h e = absurd (true≢false (sym e))
entry_asked s Done h e = absurd (true≢false (sym e))
entry_asked s (Refused f) h e = absurd (true≢false (sym e))

-- ---- a machine that has failed stays as it is

or_else-first : (o : Option ℕ) (f : ℕ) (b : Bool) → b ≡ true → or_else (fault_if b f) o ≡ Some f
or_else-first o f b e = ap (λ (x : Bool). or_else (fault_if x f) o) e

fault_if-true : (f : ℕ) (b : Bool) → b ≡ true → fault_if b f ≡ Some f
fault_if-true f b e = ap (λ (x : Bool). fault_if x f) e

barred-failed : (v : View) (s : Step) → v.failed ≡ true → barred v s ≡ Some has_failed
barred-failed v Begin e = or_else-first _ _ _ e
barred-failed v (Do t a) e = or_else-first _ _ _ e
barred-failed v (Commit t) e = or_else-first _ _ _ e
barred-failed v (Rollback t) e = or_else-first _ _ _ e
barred-failed v (Continue t) e = or_else-first _ _ _ e
barred-failed v (RollTo t n) e = or_else-first _ _ _ e
barred-failed v (FlushPage p) e = fault_if-true _ _ e
barred-failed v Force e = fault_if-true _ _ e
barred-failed v Checkpoint e = fault_if-true _ _ e
barred-failed v Switch e = or_else-first _ _ _ e

pub stays_failed : (v w : View) (s : Step) (r : Reply) → Moves v s r w → v.failed ≡ true → w.failed ≡ true
stays_failed v w s r m e =
    let a : Answers v s r w (Some has_failed) = subst (λ (o : Option ℕ). Answers v s r w o) (barred-failed v s e) m in
    ap (λ (u : View). u.failed) a.1 ∙ e

-- ---- a reply that blocks changes nothing and shows nothing

unblocked : (v w : View) (r q : Reply) → r ≡ q → is_blocked q ≡ false → is_blocked r ≡ true → w ≡ v
unblocked v w r q e none b = absurd (true≢false (sym b ∙ ap is_blocked e ∙ none))

unblocked_found : (o : Option ℕ) → is_blocked (found o) ≡ false
unblocked_found None = refl
unblocked_found (Some r) = refl

unblocked_entry : (o : Option pages.Entry) → is_blocked (entry o) ≡ false
unblocked_entry None = refl
unblocked_entry (Some e) = refl

unblocked_insert : (b : Bool) → is_blocked (cond b Duplicate Inserted) ≡ false
unblocked_insert true = refl
unblocked_insert false = refl

unblocked_delete : (b : Bool) → is_blocked (cond b Deleted Absent) ≡ false
unblocked_delete true = refl
unblocked_delete false = refl

answer-unblocked : (a : Access) (m : IndexMap) → is_blocked (answer a m) ≡ false
answer-unblocked (Fetch k) m = unblocked_found (get m k)
answer-unblocked (Seek k) m = unblocked_entry (first (From k) m)
answer-unblocked (Next k) m = unblocked_entry (first (Above k) m)
answer-unblocked (Prev k) m = unblocked_entry (last_below k m)
answer-unblocked (Scan lo hi n) m = refl
answer-unblocked (Insert k r) m = unblocked_insert (is_some (get m k))
answer-unblocked (Delete k) m = unblocked_delete (is_some (get m k))

goes-blocked : (v w : View) (s : Step) (r : Reply) → Goes v s r w → is_blocked r ≡ true → w ≡ v
goes-blocked v w s r (begins a limit b c) = unblocked v w r _ b refl
goes-blocked v w s r (does t a ls b going free same d e) = unblocked v w r (answer a v.walk) d (answer-unblocked a v.walk)
goes-blocked v w s r (waits t a holder b going wait d e) = λ q. e
goes-blocked v w s r (dies t a b going die d e) = unblocked v w r _ d refl
goes-blocked v w s r (commits t b going some d e) = unblocked v w r _ d refl
goes-blocked v w s r (queues t c cs b going some d e) = unblocked v w r _ d refl
goes-blocked v w s r (drops t b may none d e) = unblocked v w r _ d refl
goes-blocked v w s r (turns t x xs b may net d e) = unblocked v w r _ d refl
goes-blocked v w s r (undoes t x y xs b rolling net d e) = unblocked v w r _ d refl
goes-blocked v w s r (ends t x b rolling net d e) = unblocked v w r _ d refl
goes-blocked v w s r (puts_later u k i ls b is none absent unheld same d e) = unblocked v w r _ d refl
goes-blocked v w s r (puts u k i b is under d e) = unblocked v w r _ d refl
goes-blocked v w s r (drops_first u k i ls b is none there unheld same d e) = unblocked v w r _ d refl
goes-blocked v w s r (drops_leaf u k b is under d e) = unblocked v w r _ d refl
goes-blocked v w s r (takes_later u c cs b is none net_is d e) = unblocked v w r _ d refl
goes-blocked v w s r (takes_first u c cs b is none net_is d e) = unblocked v w r _ d refl
goes-blocked v w s r (takes_leaf u c cs b is under net_is d e) = unblocked v w r _ d refl
goes-blocked v w s r (takes_last u b is under empty d e) = unblocked v w r _ d refl
goes-blocked v w s r (stays_back u n b may few d e) = unblocked v w r _ d refl
goes-blocked v w s r (turns_back u n b may more d e) = unblocked v w r _ d refl
goes-blocked v w s r (gives_back u n c cs b returning net_is left d e) = unblocked v w r _ d refl
goes-blocked v w s r (is_back u n c cs b returning net_is left d e) = unblocked v w r _ d refl
goes-blocked v w s r (leaf_is_back u n b returning under left d e) = unblocked v w r _ d refl
goes-blocked v w s r (logs_page u x b under owner d e) = unblocked v w r _ d refl
goes-blocked v w s r (tree_blocks u a x b under other d e) = λ q. e
goes-blocked v w s r (tree_halts u x b under other d e) = λ q. e
goes-blocked v w s r (flushes p b d e) = λ q. e
goes-blocked v w s r (forces b d e) = unblocked v w r _ d refl
goes-blocked v w s r (checkpoints b d e) = λ q. e
goes-blocked v w s r (switches b d e) = λ q. e
goes-blocked v w s r (lacks fault want d e) = λ q. e
goes-blocked v w s r (breaks fault ls break d e) = unblocked v w r (Refused fault) d refl

answers-blocked : (v w : View) (s : Step) (r : Reply) (o : Option ℕ) → Answers v s r w o → is_blocked r ≡ true → w ≡ v
answers-blocked v w s r None a = goes-blocked v w s r a
answers-blocked v w s r (Some f) a = λ q. a.1

pub blocked_stays : (v w : View) (s : Step) (r : Reply) → Moves v s r w → is_blocked r ≡ true → w ≡ v
blocked_stays v w s r m = answers-blocked v w s r (barred v s) m

accessed-blocked : (t : ℕ) (a : Access) (s : Shown) (h : ℕ) → (accessed t a (Blocked h) s ≡ s) × (accessed t a BlockedTree s ≡ s)
accessed-blocked t (Fetch k) s h = (refl, refl)
accessed-blocked t (Seek k) s h = (refl, refl)
accessed-blocked t (Next k) s h = (refl, refl)
accessed-blocked t (Prev k) s h = (refl, refl)
accessed-blocked t (Scan lo hi n) s h = (refl, refl)
accessed-blocked t (Insert k r) s h = (refl, refl)
accessed-blocked t (Delete k) s h = (refl, refl)

at_blocked : (step : Step) (s : Shown) (h : ℕ) → (shows s step (Some (Blocked h)) ≡ s) × (shows s step (Some BlockedTree) ≡ s)
at_blocked Begin s h = (refl, refl)
at_blocked (Do t a) s h = accessed-blocked t a s h
at_blocked (Commit t) s h = (refl, refl)
at_blocked (Rollback t) s h = (refl, refl)
at_blocked (Continue t) s h = (refl, refl)
at_blocked (RollTo t n) s h = (refl, refl)
at_blocked (FlushPage p) s h = (refl, refl)
at_blocked Force s h = (refl, refl)
at_blocked Checkpoint s h = (refl, refl)
at_blocked Switch s h = (refl, refl)

pub blocked_shows : (step : Step) (r : Reply) (s : Shown) → is_blocked r ≡ true → shows s step (Some r) ≡ s
blocked_shows step (Blocked h) s b = (at_blocked step s h).0
blocked_shows step BlockedTree s b = (at_blocked step s 0).1
blocked_shows step (Started t) s b = absurd (true≢false (sym b))
blocked_shows step (Found t) s b = absurd (true≢false (sym b))
blocked_shows step Absent s b = absurd (true≢false (sym b))
blocked_shows step (Entry k r) s b = absurd (true≢false (sym b))
blocked_shows step End s b = absurd (true≢false (sym b))
blocked_shows step (Entries l) s b = absurd (true≢false (sym b))
blocked_shows step Inserted s b = absurd (true≢false (sym b))
blocked_shows step Duplicate s b = absurd (true≢false (sym b))
blocked_shows step Deleted s b = absurd (true≢false (sym b))
blocked_shows step Committed s b = absurd (true≢false (sym b))
blocked_shows step RolledBack s b = absurd (true≢false (sym b))
blocked_shows step More s b = absurd (true≢false (sym b))
blocked_shows step Die s b = absurd (true≢false (sym b))
blocked_shows step Done s b = absurd (true≢false (sym b))
blocked_shows step (Refused f) s b = absurd (true≢false (sym b))

-- and leaves as many active, and as many that wait
pub blocked_counts : (s : Step) (r : Reply) (waiting old after new : ℕ) → is_blocked r ≡ true → IsCounted s r waiting old after new → (new ≡ old) × (after ≡ waiting)
blocked_counts s (Blocked h) waiting old after new b e = let same = e.0 in (omega arith, e.1)
blocked_counts s BlockedTree waiting old after new b e = let same = e.0 in (omega arith, e.1)
blocked_counts s (Started t) waiting old after new b e = absurd (true≢false (sym b))
blocked_counts s (Found t) waiting old after new b e = absurd (true≢false (sym b))
blocked_counts s Absent waiting old after new b e = absurd (true≢false (sym b))
blocked_counts s (Entry k r) waiting old after new b e = absurd (true≢false (sym b))
blocked_counts s End waiting old after new b e = absurd (true≢false (sym b))
blocked_counts s (Entries l) waiting old after new b e = absurd (true≢false (sym b))
blocked_counts s Inserted waiting old after new b e = absurd (true≢false (sym b))
blocked_counts s Duplicate waiting old after new b e = absurd (true≢false (sym b))
blocked_counts s Deleted waiting old after new b e = absurd (true≢false (sym b))
blocked_counts s Committed waiting old after new b e = absurd (true≢false (sym b))
blocked_counts s RolledBack waiting old after new b e = absurd (true≢false (sym b))
blocked_counts s More waiting old after new b e = absurd (true≢false (sym b))
blocked_counts s Die waiting old after new b e = absurd (true≢false (sym b))
blocked_counts s Done waiting old after new b e = absurd (true≢false (sym b))
blocked_counts s (Refused f) waiting old after new b e = absurd (true≢false (sym b))
