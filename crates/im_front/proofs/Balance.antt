-- In a run of the machine, what was started has ended or is active.
use Rattle.std.proofs.Common.{◌≡◌, ◌≢◌, ℕ, zero, suc, ◌+◌, ◌-◌, ◌≤◌, ◌<◌, Bool, true, false, true≢false, List, [], ◌∷◌, length, length-append, Option, Some, None, ◌⊎◌, refl, ap, sym, subst, ◌∙◌, inl, inr, arith}
use Rattle.std.proofs.lemmas.Bool.{cases_lt, eq-eqb, ne_eqb}
use Rattle.std.specs.Prelude.{cond, is_some, ◌==◌}
use Rattle.std.specs.FinMap.{get}
use Rattle.im_base_types.specs.Keys.{Key}
use Rattle.im_base_types.specs.Maps.{IndexMap, From, Above, first, last_below}
use Rattle.im_base_types.specs.Changes.{Change}
use Rattle.im_base_types.specs.Answers.{Access, Fetch, Seek, Next, Prev, Scan, Insert, Delete, Step, Begin, Do, Commit, Rollback, Continue, RollTo, FlushPage, Force, Checkpoint, Switch, Reply, Started, Committed, RolledBack, More, Blocked, BlockedTree, Die, Done, Refused, Absent, Inserted, Duplicate, Deleted, Mark, Idle, Going, MustRollBack, RollingBack, Returning, Committing, found, entry, answer}
use Rattle.im_theory_machine.specs.Locks.{Lock}
use Rattle.im_theory_machine.specs.View.{Txn, View, Puts, Drops, TakesBack, TookBack, locked, with_change, change_made, idle, set_txn, begun, did, did_txn, marked, committed_by, dropped_by, undid_more, undid_last, broken, queued, forced_by, is_among, idle_all, AreDifferent, MayRollBack}
use Rattle.im_theory_machine.proofs.Cited.{or_true, among_one, IsQueue, queue_goes, queue_breaks}
use Rattle.im_theory_machine.specs.Machine.{barred, Answers, Goes, MayTakeBack, Moves, begins, does, waits, dies, commits, queues, drops, turns, undoes, ends, puts_later, puts, drops_first, drops_leaf, takes_later, takes_first, takes_leaf, takes_last, stays_back, turns_back, gives_back, is_back, leaf_is_back, logs_page, tree_blocks, tree_halts, flushes, forces, checkpoints, switches, lacks, breaks, start}
use Rattle.im_base_steps.specs.Replies.{started_in, commits_in, rolled_back_in, waits_after, IsCounted}
use Rattle.im_front.specs.Events.{Event, Made, Broke, Runs}

pub cases_number : (s t : ℕ) → (s ≡ t) ⊎ (s ≢ t)
cases_number s t = elim (cases_lt s t) [
  | inl l ↦ inr (λ e. absurd (omega arith))
  | inr l ↦ elim (cases_lt t s) [ inl k ↦ inr (λ e. absurd (omega arith)) | inr k ↦ inl (omega arith) ]
]

-- 1 where a transaction is active
abbrev busy : Mark → ℕ
busy Idle = 0
busy Going = 1
busy MustRollBack = 1
busy RollingBack = 1
busy (Returning n) = 1
busy Committing = 1

-- how many below a number are active
abbrev busy_below : (ℕ → Txn) → ℕ → ℕ
busy_below txns zero = 0
busy_below txns (suc n) = busy ((txns n).mark) + busy_below txns n

busy_below-same : (f g : ℕ → Txn) (n : ℕ) → ((s : ℕ) → s < n → (f s).mark ≡ (g s).mark) → busy_below f n ≡ busy_below g n
busy_below-same f g zero same = refl
busy_below-same f g (suc n) same =
    let here : busy ((f n).mark) ≡ busy ((g n).mark) = ap busy (same n (omega arith)) in
    let rest : busy_below f n ≡ busy_below g n = busy_below-same f g n (λ s l. same s (omega arith)) in
    omega arith

set_txn-same : (txns : ℕ → Txn) (t : ℕ) (x : Txn) (s : ℕ) → s ≡ t → set_txn txns t x s ≡ x
set_txn-same txns t x s e = rw (eq-eqb s t e) refl

set_txn-other : (txns : ℕ → Txn) (t : ℕ) (x : Txn) (s : ℕ) → s ≢ t → set_txn txns t x s ≡ txns s
set_txn-other txns t x s ne = rw (ne_eqb s t ne) refl

busy_below-set : (txns : ℕ → Txn) (t : ℕ) (x : Txn) (n : ℕ) → t < n → busy_below (set_txn txns t x) n + busy ((txns t).mark) ≡ busy_below txns n + busy x.mark
busy_below-set txns t x zero l = absurd (omega arith)
busy_below-set txns t x (suc n) l =
    elim (cases_number n t) [
      | inl e ↦
          (let here : busy ((set_txn txns t x n).mark) ≡ busy x.mark = ap (λ (y : Txn). busy y.mark) (set_txn-same txns t x n e) in
          let was : busy ((txns t).mark) ≡ busy ((txns n).mark) = ap (λ s. busy ((txns s).mark)) (sym e) in
          let rest : busy_below (set_txn txns t x) n ≡ busy_below txns n = busy_below-same (set_txn txns t x) txns n (λ s k. ap (λ (y : Txn). y.mark) (set_txn-other txns t x s (λ q. omega arith))) in
          omega arith)
      | inr ne ↦
          (let here : busy ((set_txn txns t x n).mark) ≡ busy ((txns n).mark) = ap (λ (y : Txn). busy y.mark) (set_txn-other txns t x n ne) in
          let rest : busy_below (set_txn txns t x) n + busy ((txns t).mark) ≡ busy_below txns n + busy x.mark = busy_below-set txns t x n (omega arith) in
          omega arith)
    ]

-- the number of active transactions is how many are not idle; an idle one has nothing, unless the engine has failed
pub record Busy (txns : ℕ → Txn) (next active : ℕ) (failed : Bool) : Type 0 where
  pub active_is : active ≡ busy_below txns next
  pub fresh : (s : ℕ) → next ≤ s → (txns s).mark ≡ Idle
  pub rest : failed ≡ false → (s : ℕ) → (txns s).mark ≡ Idle → txns s ≡ idle

abbrev pub IsBusy : View → Type 0
IsBusy v = Busy v.txns v.next v.active v.failed × IsQueue v.queue v.txns

idle_free : (m : Mark) → busy m ≡ 1 → m ≡ Idle → ⊥
idle_free m b e = let z : busy m ≡ 0 = ap busy e in absurd (omega arith)

busy_may : (m : Mark) → MayRollBack m → busy m ≡ 1
busy_may m (inl e) = ap busy e
busy_may m (inr e) = ap busy e

busy_back : (m : Mark) (cs : List Change) → MayTakeBack m cs → busy m ≡ 1
busy_back m cs (inl e) = ap busy e
busy_back m cs (inr (n, e, some)) = ap busy e

module _ (txns : ℕ → Txn) (next active : ℕ) (failed : Bool) (h : Busy txns next active failed) where
  given_out : (t : ℕ) → busy ((txns t).mark) ≡ 1 → t < next
  given_out t b =
      elim (cases_lt t next) [
        | inl l ↦ l
        | inr l ↦ absurd (idle_free ((txns t).mark) b (h.fresh t l))
      ]

  some_active : (t : ℕ) → busy ((txns t).mark) ≡ 1 → 0 < active
  some_active t b =
      let at : t < next = given_out t b in
      let sum = busy_below-set txns t idle next at in
      let is = h.active_is in
      omega arith

  -- one that is busy stays so
  set_busy : (t : ℕ) (x : Txn) → busy ((txns t).mark) ≡ 1 → busy x.mark ≡ 1 → Busy (set_txn txns t x) next active failed
  set_busy t x was now =
      let at : t < next = given_out t was in
      let sum = busy_below-set txns t x next at in
      let is = h.active_is in
      record {
        active_is = omega arith;
        fresh = λ s l. ap (λ (y : Txn). y.mark) (set_txn-other txns t x s (λ e. omega arith)) ∙ h.fresh s l;
        rest = λ f s e.
            elim (cases_number s t) [
              | inl q ↦ absurd (idle_free x.mark now (sym (ap (λ (y : Txn). y.mark) (set_txn-same txns t x s q)) ∙ e))
              | inr ne ↦ set_txn-other txns t x s ne ∙ h.rest f s (sym (ap (λ (y : Txn). y.mark) (set_txn-other txns t x s ne)) ∙ e)
            ];
      }

  -- one that is busy ends
  set_idle : (t : ℕ) → busy ((txns t).mark) ≡ 1 → Busy (set_txn txns t idle) next (active - 1) failed
  set_idle t was =
      let at : t < next = given_out t was in
      let sum = busy_below-set txns t idle next at in
      let is = h.active_is in
      record {
        active_is = omega arith;
        fresh = λ s l. ap (λ (y : Txn). y.mark) (set_txn-other txns t idle s (λ e. omega arith)) ∙ h.fresh s l;
        rest = λ f s e.
            elim (cases_number s t) [
              | inl q ↦ set_txn-same txns t idle s q
              | inr ne ↦ set_txn-other txns t idle s ne ∙ h.rest f s (sym (ap (λ (y : Txn). y.mark) (set_txn-other txns t idle s ne)) ∙ e)
            ];
      }

  -- as many as this
  of_active : (n : ℕ) → active ≡ n → Busy txns next n failed
  of_active n e = record { active_is = sym e ∙ h.active_is; fresh = h.fresh; rest = h.rest }

  begin_busy : (x : Txn) → busy x.mark ≡ 1 → Busy (set_txn txns next x) (suc next) (suc active) failed
  begin_busy x now =
      let here : busy ((set_txn txns next x next).mark) ≡ busy x.mark = ap (λ (y : Txn). busy y.mark) (set_txn-same txns next x next refl) in
      let others : busy_below (set_txn txns next x) next ≡ busy_below txns next = busy_below-same (set_txn txns next x) txns next (λ s l. ap (λ (y : Txn). y.mark) (set_txn-other txns next x s (λ e. omega arith))) in
      let is = h.active_is in
      record {
        active_is = omega arith;
        fresh = λ s l. ap (λ (y : Txn). y.mark) (set_txn-other txns next x s (λ e. omega arith)) ∙ h.fresh s (omega arith);
        rest = λ f s e.
            elim (cases_number s next) [
              | inl q ↦ absurd (idle_free x.mark now (sym (ap (λ (y : Txn). y.mark) (set_txn-same txns next x s q)) ∙ e))
              | inr ne ↦ set_txn-other txns next x s ne ∙ h.rest f s (sym (ap (λ (y : Txn). y.mark) (set_txn-other txns next x s ne)) ∙ e)
            ];
      }

-- each of these ends
force_busy : (queue : List ℕ) (txns : ℕ → Txn) (next active : ℕ) (failed : Bool) → Busy txns next active failed → AreDifferent queue → ((t : ℕ) → is_among t queue ≡ true → busy ((txns t).mark) ≡ 1)
    → Busy (idle_all txns queue) next (active - length queue) failed × (length queue ≤ active)
force_busy [] txns next active failed h each some = (of_active txns next active failed h (active - 0) (omega arith), omega arith)
force_busy (t ∷ ts) txns next active failed h each some =
    let first = some t (among_one t t ts refl) in
    let one : 0 < active = some_active txns next active failed h t first in
    let rest = force_busy ts (set_txn txns t idle) next (active - 1) failed (set_idle txns next active failed h t first) each.1
    (λ s among. ap (λ (y : Txn). busy y.mark) (set_txn-other txns t idle s (λ e. let here : is_among t ts ≡ true = subst (λ (n : ℕ). is_among n ts ≡ true) e among in absurd (true≢false (sym here ∙ each.0)))) ∙ some s (or_true (s == t) (is_among s ts) among)) in
    let few : length ts ≤ active - 1 = rest.1 in
    (of_active (idle_all (set_txn txns t idle) ts) next (active - 1 - length ts) failed rest.0 (active - suc (length ts)) (omega arith), omega arith)

-- a reply that begins and ends nothing
pub record IsPlain (r : Reply) : Type 0 where
  pub started : started_in r ≡ 0
  pub taken_back : rolled_back_in r ≡ 0
  pub commits_none : (n : ℕ) (s : Step) → commits_in n s r ≡ 0
  pub waits_still : (n : ℕ) (s : Step) → waits_after n s r ≡ n

plain_found : (o : Option ℕ) → IsPlain (found o)
plain_found None = record { started = refl; taken_back = refl; commits_none = λ n s. refl; waits_still = λ n s. refl }
plain_found (Some r) = record { started = refl; taken_back = refl; commits_none = λ n s. refl; waits_still = λ n s. refl }

plain_entry : (o : Option (Key × ℕ)) → IsPlain (entry o)
plain_entry None = record { started = refl; taken_back = refl; commits_none = λ n s. refl; waits_still = λ n s. refl }
plain_entry (Some r) = record { started = refl; taken_back = refl; commits_none = λ n s. refl; waits_still = λ n s. refl }

plain_insert : (b : Bool) → IsPlain (cond b Duplicate Inserted)
plain_insert true = record { started = refl; taken_back = refl; commits_none = λ n s. refl; waits_still = λ n s. refl }
plain_insert false = record { started = refl; taken_back = refl; commits_none = λ n s. refl; waits_still = λ n s. refl }

plain_delete : (b : Bool) → IsPlain (cond b Deleted Absent)
plain_delete true = record { started = refl; taken_back = refl; commits_none = λ n s. refl; waits_still = λ n s. refl }
plain_delete false = record { started = refl; taken_back = refl; commits_none = λ n s. refl; waits_still = λ n s. refl }

answer_plain : (a : Access) (m : IndexMap) → IsPlain (answer a m)
answer_plain (Fetch k) m = plain_found (get m k)
answer_plain (Seek k) m = plain_entry (first (From k) m)
answer_plain (Next k) m = plain_entry (first (Above k) m)
answer_plain (Prev k) m = plain_entry (last_below k m)
answer_plain (Scan lo hi n) m = record { started = refl; taken_back = refl; commits_none = λ n s. refl; waits_still = λ n s. refl }
answer_plain (Insert k r) m = plain_insert (is_some (get m k))
answer_plain (Delete k) m = plain_delete (is_some (get m k))

counts_plainly : (s : Step) (r : Reply) (waiting active : ℕ) → IsPlain r → IsCounted s r waiting active waiting active
counts_plainly s r waiting active p = let a = p.started in let b = p.taken_back in let c = p.commits_none waiting s in (omega arith, sym (p.waits_still waiting s))

-- what a step leaves, and what its reply began and ended
abbrev pub Leaves : View → Step → Reply → View → Type 0
Leaves v s r w = Busy w.txns w.next w.active w.failed × IsCounted s r (length v.queue) v.active (length w.queue) w.active

leaves_at : (v w w' : View) (s s' : Step) (r r' : Reply) → s ≡ s' → r ≡ r' → w ≡ w' → Leaves v s' r' w' → Leaves v s r w
leaves_at v w w' s s' r r' same e is h = subst (λ (x : Step × Reply × View). Leaves v x.0 x.1 x.2) (λ i. (sym same i, sym e i, sym is i)) h

pub broken_busy : (v : View) (ls : ℕ → List Lock) → Busy v.txns v.next v.active v.failed → Busy (broken v ls).txns v.next v.active true
broken_busy v ls h = record {
  active_is = h.active_is ∙ busy_below-same v.txns (λ s. record (v.txns s) { locks = ls s }) v.next (λ s l. refl);
  fresh = h.fresh;
  rest = λ f. absurd (true≢false f);
}

goes_leaves : (v w : View) (s : Step) (r : Reply) → IsBusy v → Goes v s r w → Leaves v s r w
goes_leaves v w s r b (begins a limit x c) = leaves_at v w (begun v) s Begin r (Started v.next) a x c (begin_busy v.txns v.next v.active v.failed b.0 (record idle { mark = Going }) refl, (omega arith, refl))
goes_leaves v w s r b (does t a ls x going free same d e) =
    leaves_at v w (did v t a ls) s (Do t a) r (answer a v.walk) x d e (
      set_busy v.txns v.next v.active v.failed b.0 t (did_txn (v.txns t) a v.walk ls) (ap busy going) refl,
      counts_plainly (Do t a) (answer a v.walk) (length v.queue) v.active (answer_plain a v.walk),
    )
goes_leaves v w s r b (waits t a holder x going wait d e) = leaves_at v w v s (Do t a) r (Blocked holder) x d e (b.0, (refl, refl))
goes_leaves v w s r b (dies t a x going die d e) =
    leaves_at v w (marked v t MustRollBack) s (Do t a) r Die x d e (set_busy v.txns v.next v.active v.failed b.0 t (record (v.txns t) { mark = MustRollBack }) (ap busy going) refl, (refl, refl))
goes_leaves v w s r b (commits t x going some_wait d e) =
    let some = some_active v.txns v.next v.active v.failed b.0 t (ap busy going) in
    leaves_at v w (committed_by v t) s (Commit t) r Committed x d e (set_idle v.txns v.next v.active v.failed b.0 t (ap busy going), (omega arith, refl))
goes_leaves v w s r b (queues t c cs x going some d e) =
    leaves_at v w (queued v t) s (Commit t) r More x d e (set_busy v.txns v.next v.active v.failed b.0 t (record (v.txns t) { mark = Committing }) (ap busy going) refl, (refl, length-append v.queue (t ∷ [])))
goes_leaves v w s r b (drops t x may none d e) =
    let some = some_active v.txns v.next v.active v.failed b.0 t (busy_may ((v.txns t).mark) may) in
    leaves_at v w (dropped_by v t) s (Rollback t) r RolledBack x d e (set_idle v.txns v.next v.active v.failed b.0 t (busy_may ((v.txns t).mark) may), (omega arith, refl))
goes_leaves v w s r b (turns t x xs y may net d e) =
    leaves_at v w (marked v t RollingBack) s (Rollback t) r More y d e (set_busy v.txns v.next v.active v.failed b.0 t (record (v.txns t) { mark = RollingBack }) (busy_may ((v.txns t).mark) may) refl, (refl, refl))
goes_leaves v w s r b (undoes t x y xs z rolling net d e) =
    leaves_at v w (undid_more v t x (y ∷ xs)) s (Continue t) r More z d e (set_busy v.txns v.next v.active v.failed b.0 t (record (v.txns t) { net = y ∷ xs }) (ap busy rolling) (ap busy rolling), (refl, refl))
goes_leaves v w s r b (ends t x y rolling net d e) =
    let some = some_active v.txns v.next v.active v.failed b.0 t (ap busy rolling) in
    leaves_at v w (undid_last v t x) s (Continue t) r RolledBack y d e (set_idle v.txns v.next v.active v.failed b.0 t (ap busy rolling), (omega arith, refl))
goes_leaves v w s r b (puts_later t k i ls x going none absent free same d e) =
    leaves_at v w (with_change (locked v t ls) t (Puts k i)) s (Do t (Insert k i)) r More x d e (set_busy v.txns v.next v.active v.failed b.0 t (record (v.txns t) { locks = ls }) (ap busy going) (ap busy going), (refl, refl))
goes_leaves v w s r b (puts t k i x going under d e) =
    leaves_at v w (change_made (did v t (Insert k i) ((v.txns t).locks))) s (Continue t) r Inserted x d e (set_busy v.txns v.next v.active v.failed b.0 t (did_txn (v.txns t) (Insert k i) v.walk ((v.txns t).locks)) (ap busy going) refl, (refl, refl))
goes_leaves v w s r b (drops_first t k i ls x going none there free same d e) =
    leaves_at v w (with_change (did v t (Delete k) ls) t (Drops k)) s (Do t (Delete k)) r More x d e (set_busy v.txns v.next v.active v.failed b.0 t (did_txn (v.txns t) (Delete k) v.walk ls) (ap busy going) refl, (refl, refl))
goes_leaves v w s r b (drops_leaf t k x going under d e) = leaves_at v w (change_made v) s (Continue t) r Deleted x d e (b.0, (refl, refl))
goes_leaves v w s r b (takes_later t c cs x rolling none net d e) = leaves_at v w (with_change v t TakesBack) s (Continue t) r More x d e (b.0, (refl, refl))
goes_leaves v w s r b (takes_first t c cs x may none net d e) =
    let active = busy_back ((v.txns t).mark) cs may in
    leaves_at v w (with_change (undid_more v t c cs) t TookBack) s (Continue t) r More x d e (set_busy v.txns v.next v.active v.failed b.0 t (record (v.txns t) { net = cs }) active active, (refl, refl))
goes_leaves v w s r b (takes_leaf t c cs x rolling under net d e) = leaves_at v w (change_made v) s (Continue t) r More x d e (b.0, (refl, refl))
goes_leaves v w s r b (takes_last t x rolling under none d e) =
    let some = some_active v.txns v.next v.active v.failed b.0 t (ap busy rolling) in
    leaves_at v w (change_made (dropped_by v t)) s (Continue t) r RolledBack x d e (set_idle v.txns v.next v.active v.failed b.0 t (ap busy rolling), (omega arith, refl))
goes_leaves v w s r b (stays_back t n x may few d e) =
    leaves_at v w (marked v t Going) s (RollTo t n) r Done x d e (set_busy v.txns v.next v.active v.failed b.0 t (record (v.txns t) { mark = Going }) (busy_may ((v.txns t).mark) may) refl, (refl, refl))
goes_leaves v w s r b (turns_back t n x may more d e) =
    leaves_at v w (marked v t (Returning n)) s (RollTo t n) r More x d e (set_busy v.txns v.next v.active v.failed b.0 t (record (v.txns t) { mark = Returning n }) (busy_may ((v.txns t).mark) may) refl, (refl, refl))
goes_leaves v w s r b (gives_back t n c cs x returning net left d e) =
    leaves_at v w (undid_more v t c cs) s (Continue t) r More x d e (set_busy v.txns v.next v.active v.failed b.0 t (record (v.txns t) { net = cs }) (ap busy returning) (ap busy returning), (refl, refl))
goes_leaves v w s r b (is_back t n c cs x returning net left d e) =
    let fewer : Txn = record (v.txns t) { net = cs } in
    let taken = set_busy v.txns v.next v.active v.failed b.0 t fewer (ap busy returning) (ap busy returning) in
    let active = ap (λ (y : Txn). busy y.mark) (set_txn-same v.txns t fewer t refl) ∙ ap busy returning in
    leaves_at v w (marked (undid_more v t c cs) t Going) s (Continue t) r Done x d e (
      set_busy (set_txn v.txns t fewer) v.next v.active v.failed taken t (record (set_txn v.txns t fewer t) { mark = Going }) active refl,
      (refl, refl),
    )
goes_leaves v w s r b (leaf_is_back t n x returning under left d e) =
    leaves_at v w (change_made (marked v t Going)) s (Continue t) r Done x d e (set_busy v.txns v.next v.active v.failed b.0 t (record (v.txns t) { mark = Going }) (ap busy returning) refl, (refl, refl))
goes_leaves v w s r b (logs_page t u x under owner d e) = leaves_at v w v s (Continue t) r More x d e (b.0, (refl, refl))
goes_leaves v w s r b (tree_blocks t a u x under other d e) = leaves_at v w v s (Do t a) r BlockedTree x d e (b.0, (refl, refl))
goes_leaves v w s r b (tree_halts t u x under other d e) = leaves_at v w v s (Continue t) r BlockedTree x d e (b.0, (refl, refl))
goes_leaves v w s r b (flushes p x d e) = leaves_at v w v s (FlushPage p) r Done x d e (b.0, (refl, refl))
goes_leaves v w s r b (forces x d e) =
    let all = force_busy v.queue v.txns v.next v.active v.failed b.0 b.1.each (λ t some. ap busy (b.1.waits t some)) in
    let few : length v.queue ≤ v.active = all.1 in
    leaves_at v w (forced_by v) s Force r Done x d e (all.0, (omega arith, refl))
goes_leaves v w s r b (checkpoints x d e) = leaves_at v w v s Checkpoint r Done x d e (b.0, (refl, refl))
goes_leaves v w s r b (switches x d e) = leaves_at v w v s Switch r Done x d e (b.0, (refl, refl))
goes_leaves v w s r b (lacks fault want d e) = leaves_at v w v s s r (Refused fault) refl d e (b.0, (refl, refl))
goes_leaves v w s r b (breaks fault ls break d e) = leaves_at v w (broken v ls) s s r (Refused fault) refl d e (broken_busy v ls b.0, (refl, refl))

answers_leaves : (v w : View) (s : Step) (r : Reply) → IsBusy v → (o : Option ℕ) → Answers v s r w o → IsBusy w × IsCounted s r (length v.queue) v.active (length w.queue) w.active
answers_leaves v w s r b None a = let on = goes_leaves v w s r b a in ((on.0, queue_goes v w s r b.1 (b.0.fresh v.next (omega arith)) a), on.1)
answers_leaves v w s r b (Some f) a = let on = leaves_at v w v s s r (Refused f) refl a.0 a.1 (b.0, (refl, refl)) in ((on.0, subst (λ (u : View). IsQueue u.queue u.txns) (sym a.1) b.1), on.1)

pub moves_leaves : (v w : View) (s : Step) (r : Reply) → IsBusy v → Moves v s r w → IsBusy w × IsCounted s r (length v.queue) v.active (length w.queue) w.active
moves_leaves v w s r b m = answers_leaves v w s r b (barred v s) m

pub runs_busy : (v w : View) (events : List Event) → IsBusy v → Runs v events w → IsBusy w
runs_busy v w [] h run = subst IsBusy (sym run) h
runs_busy v w (Made step reply ∷ events) h run = runs_busy run.0 w events ((moves_leaves v run.0 step reply h run.1).0) run.2
runs_busy v w (Broke locks ∷ events) h run = runs_busy (broken v locks) w events (broken_busy v locks h.0, queue_breaks v locks h.1) run

none_busy : (n : ℕ) → 0 ≡ busy_below (λ t. idle) n
none_busy zero = refl
none_busy (suc n) = let e = none_busy n in omega arith

pub start_busy : (base : IndexMap) (n : ℕ) → IsBusy (start base n)
start_busy base n = (record { active_is = none_busy n; fresh = λ s l. refl; rest = λ f s e. refl }, record { each = tt; waits = λ t some. absurd (cc some); all = λ t is. cc is })

idle_at : (m : Mark) → busy m ≡ 0 → m ≡ Idle
idle_at Idle e = refl
idle_at Going e = absurd (omega arith)
idle_at MustRollBack e = absurd (omega arith)
idle_at RollingBack e = absurd (omega arith)
idle_at (Returning n) e = absurd (omega arith)
idle_at Committing e = absurd (omega arith)

idle_below : (txns : ℕ → Txn) (n t : ℕ) → busy_below txns n ≡ 0 → t < n → (txns t).mark ≡ Idle
idle_below txns zero t none l = absurd (omega arith)
idle_below txns (suc n) t none l =
    elim (cases_number n t) [
      | inl e ↦ subst (λ s. (txns s).mark ≡ Idle) e (idle_at ((txns n).mark) (omega arith))
      | inr ne ↦ idle_below txns n t (omega arith) (omega arith)
    ]

-- where nothing is active, every transaction is as if it never was
pub all_idle : (v : View) → IsBusy v → v.failed ≡ false → v.active ≡ 0 → (t : ℕ) → v.txns t ≡ idle
all_idle v h f none t = h.0.rest f t (elim (cases_lt t v.next) [
  | inl l ↦ idle_below v.txns v.next t (sym h.0.active_is ∙ none) l
  | inr l ↦ h.0.fresh t l
])

none_of : (queue : List ℕ) → length queue ≡ 0 → queue ≡ []
none_of [] e = refl
none_of (t ∷ ts) e = absurd (omega arith)

-- who waits is active
pub nobody_waits : (v : View) → IsBusy v → v.active ≡ 0 → v.queue ≡ []
nobody_waits v h none =
    let few : length v.queue ≤ v.active = (force_busy v.queue v.txns v.next v.active v.failed h.0 h.1.each (λ t some. ap busy (h.1.waits t some))).1 in
    none_of v.queue (omega (arith, few, none))
