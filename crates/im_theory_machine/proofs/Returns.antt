-- What a return leaves.
use Rattle.std.proofs.Common.{◌≡◌, ℕ, suc, ◌+◌, ◌≤◌, ◌<◌, Bool, true, false, cond, map, List, [], ◌∷◌, ◌++◌, length, None, refl, ap, sym, subst, ◌∙◌, inl, inr, ◌⊎◌, arith, length-append}
use Rattle.std.proofs.lemmas.Grind.{reverse_onto}
use Rattle.std.specs.Prelude.{reverse}
use Rattle.im_base_types.specs.Maps.{IndexMap}
use Rattle.im_base_types.specs.Changes.{Change, undone, apply}
use Rattle.im_base_types.specs.Answers.{Access, Reply, Step, RollTo, Continue, More, Done, Mark, Going, Returning, replay, map_after_all}
use Rattle.im_base_types.specs.Lives.{oldest}
use Rattle.im_base_types.proofs.Oldest.{oldest_rest}
use Rattle.im_theory_machine.specs.Locks.{Lock}
use Rattle.im_theory_machine.specs.View.{Txn, View, MayRollBack, pending_of, set_txn, marked, undid_more, change_made, relocked}
use Rattle.im_theory_machine.specs.Machine.{barred, Goes, begins, does, waits, dies, commits, queues, drops, turns, undoes, ends, puts_later, puts, drops_first, drops_leaf, takes_later, takes_first, takes_leaf, takes_last, stays_back, turns_back, gives_back, is_back, leaf_is_back, logs_page, tree_blocks, tree_halts, flushes, forces, checkpoints, switches, lacks, breaks, Run, start}
use Rattle.im_theory_machine.specs.Isolation.{IsReplay, is_change, count_changes, story_from, finished}
use Rattle.im_theory_machine.specs.Returns.{IsTurned, IsBack, ReturnsStand}
use Rattle.im_theory_machine.proofs.Invariant.{Told, Told-replay, Told-after_all, through_told, Behind, IsReturning, StoryHolds, set_txn-same, by_txn}
use Rattle.im_theory_machine.proofs.Stories.{told_counts}
use Rattle.im_theory_machine.proofs.Under.{ahead, ahead_same, not_going}
use Rattle.im_theory_machine.proofs.Standing.{going_told, not_going_by}
use Rattle.im_theory_machine.proofs.Runs.{Upheld, nothing_told, tells, run_upheld, given_net}
use Rattle.im_theory_machine.proofs.Theorem.{told_one, finished_accesses, finished_replies, unbarred, after_story}
use Rattle.im_theory_machine.proofs.Isolates.{none_refused}

-- ---- one step

-- only the mark is new
same_locks : (f : ℕ → Txn) (t : ℕ) (x : Txn) → x.locks ≡ (f t).locks → (s : ℕ) → (set_txn f t x s).locks ≡ (f s).locks
same_locks f t x e = by_txn (λ s y. y.locks ≡ (f s).locks) f t x e (λ s ne. refl)

same_return : (t u n m : ℕ) → RollTo t n ≡ RollTo u m → (u ≡ t) × (m ≡ n)
same_return t u n m e = (cc, cc)

same_continue : (t u : ℕ) → Continue t ≡ Continue u → u ≡ t
same_continue t u e = cc

stays_turned : (v w : View) (t n : ℕ) (reply : Reply) → MayRollBack ((v.txns t).mark) → length ((v.txns t).net) ≤ n → reply ≡ Done → w ≡ marked v t Going → IsTurned v w t n reply
stays_turned v w t n reply may low d e =
    let at : (marked v t Going).txns t ≡ record (v.txns t) { mark = Going } = set_txn-same v.txns t (record (v.txns t) { mark = Going }) in
    subst (λ (y : View). IsTurned v y t n reply) (sym e) (record {
      may = may;
      committed = refl;
      walk = refl;
      net = ap (λ (x : Txn). x.net) at;
      locks = same_locks v.txns t (record (v.txns t) { mark = Going }) refl;
      on = inl (d, low, ap (λ (x : Txn). x.mark) at);
    })

begins_turned : (v w : View) (t n : ℕ) (reply : Reply) → MayRollBack ((v.txns t).mark) → n < length ((v.txns t).net) → reply ≡ More → w ≡ marked v t (Returning n) → IsTurned v w t n reply
begins_turned v w t n reply may over d e =
    let at : (marked v t (Returning n)).txns t ≡ record (v.txns t) { mark = Returning n } = set_txn-same v.txns t (record (v.txns t) { mark = Returning n }) in
    subst (λ (y : View). IsTurned v y t n reply) (sym e) (record {
      may = may;
      committed = refl;
      walk = refl;
      net = ap (λ (x : Txn). x.net) at;
      locks = same_locks v.txns t (record (v.txns t) { mark = Returning n }) refl;
      on = inr (d, over, ap (λ (x : Txn). x.mark) at);
    })

turned_as : (v w : View) (t u n m : ℕ) (reply : Reply) → (u ≡ t) × (m ≡ n) → IsTurned v w u m reply → IsTurned v w t n reply
turned_as v w t u n m reply same h = subst (λ (x : ℕ). IsTurned v w t x reply) same.1 (subst (λ (x : ℕ). IsTurned v w x m reply) same.0 h)

goes_turned : (v w : View) (t n : ℕ) (reply : Reply) → (reply ≡ More) ⊎ (reply ≡ Done) → Goes v (RollTo t n) reply w → IsTurned v w t n reply
goes_turned v w t n reply h (begins a l b e) = absurd cc
goes_turned v w t n reply h (does u a ls b is free same d e) = absurd cc
goes_turned v w t n reply h (waits u a holder b is wait d e) = absurd cc
goes_turned v w t n reply h (dies u a b is must d e) = absurd cc
goes_turned v w t n reply h (commits u a is alone d e) = absurd cc
goes_turned v w t n reply h (queues u x cs a is net_is q e) = absurd cc
goes_turned v w t n reply h (drops u a may empty d e) = absurd cc
goes_turned v w t n reply h (turns u x cs a may net_is q e) = absurd cc
goes_turned v w t n reply h (undoes u x y cs a is net_is q e) = absurd cc
goes_turned v w t n reply h (ends u x a is net_is q e) = absurd cc
goes_turned v w t n reply h (puts_later u k r ls b is none absent unheld same d e) = absurd cc
goes_turned v w t n reply h (puts u k r b is under d e) = absurd cc
goes_turned v w t n reply h (drops_first u k r ls b is none there unheld same d e) = absurd cc
goes_turned v w t n reply h (drops_leaf u k b is under d e) = absurd cc
goes_turned v w t n reply h (takes_later u x cs b is none net_is d e) = absurd cc
goes_turned v w t n reply h (takes_first u x cs b is none net_is d e) = absurd cc
goes_turned v w t n reply h (takes_leaf u x cs b is under net_is d e) = absurd cc
goes_turned v w t n reply h (takes_last u b is under empty d e) = absurd cc
goes_turned v w t n reply h (stays_back u m a may low d e) = turned_as v w t u n m reply (same_return t u n m a) (stays_turned v w u m reply may low d e)
goes_turned v w t n reply h (turns_back u m a may over d e) = turned_as v w t u n m reply (same_return t u n m a) (begins_turned v w u m reply may over d e)
goes_turned v w t n reply h (gives_back u m x cs a is net_is over d e) = absurd cc
goes_turned v w t n reply h (is_back u m x cs a is net_is whole d e) = absurd cc
goes_turned v w t n reply h (leaf_is_back u m b is under whole d e) = absurd cc
goes_turned v w t n reply h (logs_page u x b under owner d e) = absurd cc
goes_turned v w t n reply h (tree_blocks u a x b under other d e) = absurd cc
goes_turned v w t n reply h (tree_halts u x b under other d e) = absurd cc
goes_turned v w t n reply h (flushes p a d e) = absurd cc
goes_turned v w t n reply h (forces a d e) = absurd cc
goes_turned v w t n reply h (checkpoints a d e) = absurd cc
goes_turned v w t n reply h (switches a d e) = absurd cc
goes_turned v w t n reply h (lacks fault wants d e) = absurd (none_refused reply h fault d)
goes_turned v w t n reply h (breaks fault ls is d e) = absurd (none_refused reply h fault d)

given_back : (v w : View) (t n : ℕ) (c : Change) (cs : List Change) → (v.txns t).mark ≡ Returning n → n ≡ length cs → w ≡ marked (undid_more v t c cs) t Going → IsBack v w t
given_back v w t n c cs is whole e =
    let u : View = undid_more v t c cs in
    let at : (marked u t Going).txns t ≡ record (u.txns t) { mark = Going } = set_txn-same u.txns t (record (u.txns t) { mark = Going }) in
    subst (λ (y : View). IsBack v y t) (sym e) (record {
      left = n;
      from = is;
      count = ap (λ (x : Txn). length x.net) at ∙ ap (λ (l : List Change). length l) (given_net v t c cs) ∙ sym whole;
      committed = refl;
      locks = λ s. same_locks u.txns t (record (u.txns t) { mark = Going }) refl s ∙ same_locks v.txns t (record (v.txns t) { net = cs }) refl s;
      going = ap (λ (x : Txn). x.mark) at;
    })

leaf_back : (v w : View) (t n : ℕ) → (v.txns t).mark ≡ Returning n → length ((v.txns t).net) ≡ n → w ≡ change_made (marked v t Going) → IsBack v w t
leaf_back v w t n is whole e =
    let at : (marked v t Going).txns t ≡ record (v.txns t) { mark = Going } = set_txn-same v.txns t (record (v.txns t) { mark = Going }) in
    subst (λ (y : View). IsBack v y t) (sym e) (record {
      left = n;
      from = is;
      count = ap (λ (x : Txn). length x.net) at ∙ whole;
      committed = refl;
      locks = same_locks v.txns t (record (v.txns t) { mark = Going }) refl;
      going = ap (λ (x : Txn). x.mark) at;
    })

goes_back : (v w : View) (t : ℕ) → Goes v (Continue t) Done w → IsBack v w t
goes_back v w t (begins a l b e) = absurd cc
goes_back v w t (does u a ls b is free same d e) = absurd cc
goes_back v w t (waits u a holder b is wait d e) = absurd cc
goes_back v w t (dies u a b is must d e) = absurd cc
goes_back v w t (commits u a is alone d e) = absurd cc
goes_back v w t (queues u x cs a is net_is q e) = absurd cc
goes_back v w t (drops u a may empty d e) = absurd cc
goes_back v w t (turns u x cs a may net_is q e) = absurd cc
goes_back v w t (undoes u x y cs a is net_is q e) = absurd cc
goes_back v w t (ends u x a is net_is q e) = absurd cc
goes_back v w t (puts_later u k r ls b is none absent unheld same d e) = absurd cc
goes_back v w t (puts u k r b is under d e) = absurd cc
goes_back v w t (drops_first u k r ls b is none there unheld same d e) = absurd cc
goes_back v w t (drops_leaf u k b is under d e) = absurd cc
goes_back v w t (takes_later u x cs b is none net_is d e) = absurd cc
goes_back v w t (takes_first u x cs b is none net_is d e) = absurd cc
goes_back v w t (takes_leaf u x cs b is under net_is d e) = absurd cc
goes_back v w t (takes_last u b is under empty d e) = absurd cc
goes_back v w t (stays_back u m a may low d e) = absurd cc
goes_back v w t (turns_back u m a may over d e) = absurd cc
goes_back v w t (gives_back u m x cs a is net_is over d e) = absurd cc
goes_back v w t (is_back u m x cs a is net_is whole d e) = subst (λ (s : ℕ). IsBack v w s) (same_continue t u a) (given_back v w u m x cs is whole e)
goes_back v w t (leaf_is_back u m b is under whole d e) = subst (λ (s : ℕ). IsBack v w s) (same_continue t u b) (leaf_back v w u m is whole e)
goes_back v w t (logs_page u x b under owner d e) = absurd cc
goes_back v w t (tree_blocks u a x b under other d e) = absurd cc
goes_back v w t (tree_halts u x b under other d e) = absurd cc
goes_back v w t (flushes p a d e) = absurd cc
goes_back v w t (forces a d e) = absurd cc
goes_back v w t (checkpoints a d e) = absurd cc
goes_back v w t (switches a d e) = absurd cc
goes_back v w t (lacks fault wants d e) = absurd cc
goes_back v w t (breaks fault ls is d e) = absurd cc

-- ---- a whole run

-- the story of the rest, on some walk
behind_told : (ls : List Lock) (w base : IndexMap) (story : List (Access × Reply)) (more rest : List Change) → Behind ls w base story more rest → (m : IndexMap) × Told ls m base story rest
behind_told ls w base story [] rest h = (w, through_told ls w base story rest h)
behind_told ls w base story (c ∷ more) rest h = behind_told ls (undone w c) base story more rest h

-- the order of a story is nothing to its count
counts_then : (fs gs : List (Access × Reply)) → count_changes (fs ++ gs) ≡ count_changes fs + count_changes gs
counts_then [] gs = omega arith
counts_then (f ∷ fs) gs = by (is_change f.1) (counts_then fs gs)
  where
    by : (b : Bool) → count_changes (fs ++ gs) ≡ count_changes fs + count_changes gs → cond b (suc (count_changes (fs ++ gs))) (count_changes (fs ++ gs)) ≡ cond b (suc (count_changes fs)) (count_changes fs) + count_changes gs
    by true e = omega (arith, e)
    by false e = e

counts_reversed : (fs : List (Access × Reply)) → count_changes (reverse fs) ≡ count_changes fs
counts_reversed [] = refl
counts_reversed (f ∷ fs) = ap count_changes (reverse_onto fs f []) ∙ counts_then (reverse fs) (f ∷ []) ∙ by (is_change f.1) (counts_reversed fs)
  where
    by : (b : Bool) → count_changes (reverse fs) ≡ count_changes fs → count_changes (reverse fs) + cond b 1 0 ≡ cond b (suc (count_changes fs)) (count_changes fs)
    by true e = omega (arith, e)
    by false e = omega (arith, e)

module _ (base : IndexMap) (first : ℕ) (trace : List (Step × Reply)) (v : View) (r : Run (start base first) trace v) where
  abbrev told : ℕ → List (Access × Reply)
  told = tells (pending_of None) nothing_told trace

  up : Upheld v told
  up = run_upheld base first trace v r

  module _ (t n : ℕ) (is : (v.txns t).mark ≡ Returning n) where
    own_clear : pending_of v.under t ≡ None
    own_clear = not_going v.under t (relocked v up.locks).txns v.walk up.stands.change (not_going_by ((v.txns t).mark) (Returning n) is (λ e. cc e))

    turning : IsReturning n (up.locks t) v.walk v.committed (told t) ((v.txns t).net)
    turning = subst (λ (fs : List (Access × Reply)). IsReturning n (up.locks t) v.walk v.committed fs ((v.txns t).net)) (ahead_same v.under t told own_clear)
        (subst (λ (m : Mark). StoryHolds m (up.locks t) v.walk v.committed (ahead v.under told t) ((v.txns t).net)) is (up.stands.fits.story t))

    within : (n ≤ length ((v.txns t).net)) × IsReplay v.committed (finished t trace) × (apply v.committed (oldest n ((v.txns t).net)) ≡ map_after_all v.committed (map (λ f. f.0) (finished t trace)))
    within =
        let h = turning in
        let b = behind_told (up.locks t) v.walk v.committed (told t) h.more h.rest h.behind in
        let all : length ((v.txns t).net) ≡ length h.more + length h.rest = ap (λ (l : List Change). length l) h.is ∙ length-append h.more h.rest in
        let count : length h.rest ≡ n = h.count in
        let old : oldest n ((v.txns t).net) ≡ h.rest = ap (λ (m : ℕ). oldest m ((v.txns t).net)) (sym h.count) ∙ ap (oldest (length h.rest)) h.is ∙ oldest_rest h.more h.rest in (
          omega (arith, all, count),
          ap (replay v.committed) (sym (finished_accesses trace t)) ∙ Told-replay (up.locks t) b.0 v.committed (told t) h.rest b.1 ∙ finished_replies trace t,
          ap (apply v.committed) old ∙ Told-after_all (up.locks t) b.0 v.committed (told t) h.rest b.1 ∙ ap (map_after_all v.committed) (finished_accesses trace t),
        )

  count_of : (t : ℕ) → MayRollBack ((v.txns t).mark) → pending_of v.under t ≡ None → length ((v.txns t).net) ≡ count_changes (finished t trace)
  count_of t may clear =
      let own : Told (up.locks t) v.walk v.committed (told t) ((v.txns t).net) = subst (λ (fs : List (Access × Reply)). Told (up.locks t) v.walk v.committed fs ((v.txns t).net)) (ahead_same v.under t told clear) (going_told (relocked v up.locks) told up.stands t may) in
      sym (told_counts (up.locks t) v.walk v.committed (told t) ((v.txns t).net) own) ∙ ap count_changes (told_one (pending_of None) nothing_told trace t) ∙ sym (counts_reversed (story_from t None [] trace))

pub returns_stand : (base : IndexMap) (next : ℕ) → ReturnsStand base next
returns_stand base next = record {
  turns = λ v w t n reply which m. goes_turned v w t n reply which (unbarred v (RollTo t n) reply w (barred v (RollTo t n)) m (none_refused reply which));
  within = λ trace v r t n is. within base next trace v r t n is;
  back = λ v w t m. goes_back v w t (unbarred v (Continue t) Done w (barred v (Continue t)) m (λ fault e. cc));
  counted = λ trace v r t may clear. (count_of base next trace v r t may clear, after_story base next trace v r t clear may);
}
