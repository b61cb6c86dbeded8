-- What the invariant gives: each transaction of a run is as good as alone.
use Rattle.std.proofs.Common.{◌≢◌, ◌≡◌, ℕ, nat_eq, ◌&&◌, map, ◌<◌, Bool, true, false, cond, List, [], ◌∷◌, ◌++◌, Option, Some, None, refl, ap, sym, subst, ◌∙◌, inl, inr, ◌⊎◌, arith}
use Rattle.std.proofs.lemmas.Bool.{cases_lt, ne_eqb}
use Rattle.std.proofs.lemmas.List.{map-append}
use Rattle.std.proofs.lemmas.Grind.{reverse_onto}
use Rattle.std.specs.Prelude.{reverse}
use Rattle.im_base_types.specs.Maps.{IndexMap}
use Rattle.im_base_types.specs.Changes.{Change, apply, apply_all}
use Rattle.im_theory_machine.specs.Locks.{Lock}
use Rattle.im_base_types.specs.Answers.{Access, Reply, Step, replay, map_after_all, Mark, Idle, Going, MustRollBack, RollingBack, Returning, Committing, is_answer, Insert, Delete, Deleted, Begin, Do, Commit, Rollback, Continue, RollTo, FlushPage, Force, Checkpoint, Switch, Refused, Committed, RolledBack, More, Done, BlockedTree}
use Rattle.im_theory_machine.specs.View.{Txn, View, Aim, Puts, Drops, TakesBack, TookBack, Under, pending_of, locked, with_change, change_made, idle, set_txn, did, did_txn, begun, marked, committed_by, dropped_by, undid_more, undid_last, queued, forced_by, map_behind, is_among, AreDifferent, idle_all, MayRollBack, relocked, broken}
use Rattle.im_theory_machine.specs.Machine.{barred, Answers, Goes, begins, does, waits, dies, commits, queues, drops, turns, undoes, ends, puts_later, puts, drops_first, drops_leaf, takes_later, takes_first, takes_leaf, takes_last, stays_back, turns_back, gives_back, is_back, leaf_is_back, logs_page, tree_blocks, tree_halts, flushes, forces, checkpoints, switches, lacks, breaks, Run, start}
use Rattle.im_theory_machine.specs.Isolation.{answered_with, access_of, pending_after, is_return, kept_story, kept_after, story_from, finished, IsReplay, IsTogether}
use Rattle.im_theory_machine.proofs.Changes.{apply-untouched}
use Rattle.im_theory_machine.proofs.Invariant.{Told, Told-replay, Told-after_all, accesses_of, replies_of, set_txn-same, set_txn-other}
use Rattle.im_theory_machine.proofs.Bools.{cases_number}
use Rattle.im_theory_machine.proofs.Queue.{by_force_txn, told_behind, none_before, is_in_it, nets_same}
use Rattle.im_theory_machine.proofs.Keeping.{nets_apart}
use Rattle.im_theory_machine.proofs.Standing.{Stands, going_told, waiting_story}
use Rattle.im_theory_machine.proofs.Runs.{Upheld, TellsNone, tells_none_at, silent, tell, tells, nothing_told, run_upheld}
use Rattle.im_theory_machine.proofs.Under.{ahead, ahead_same}

-- ---- the two orders of a story

-- the stories of a trace, one by one
pub told_one : (pend : ℕ → Option Access) (told : ℕ → List (Access × Reply)) (es : List (Step × Reply)) (t : ℕ) → tells pend told es t ≡ story_from t (pend t) (told t) es
told_one pend told [] t = refl
told_one pend told (e ∷ es) t = told_one (λ s. pending_after s (pend s) e.0 e.1) (tell pend told e.0 e.1) es t

reversed_accesses : (fs : List (Access × Reply)) → accesses_of fs ≡ map (λ f. f.0) (reverse fs)
reversed_accesses [] = refl
reversed_accesses (f ∷ fs) =
    ap (λ as'. as' ++ f.0 ∷ []) (reversed_accesses fs) ∙ sym (ap (map (λ (g : Access × Reply). g.0)) (reverse_onto fs f []) ∙ map-append (λ (g : Access × Reply). g.0) (reverse fs) (f ∷ []))

reversed_replies : (fs : List (Access × Reply)) → replies_of fs ≡ map (λ f. f.1) (reverse fs)
reversed_replies [] = refl
reversed_replies (f ∷ fs) =
    ap (λ rs. rs ++ f.1 ∷ []) (reversed_replies fs) ∙ sym (ap (map (λ (g : Access × Reply). g.1)) (reverse_onto fs f []) ∙ map-append (λ (g : Access × Reply). g.1) (reverse fs) (f ∷ []))

pub finished_accesses : (es : List (Step × Reply)) (t : ℕ) → accesses_of (tells (pending_of None) nothing_told es t) ≡ map (λ f. f.0) (finished t es)
finished_accesses es t = ap accesses_of (told_one (pending_of None) nothing_told es t) ∙ reversed_accesses (story_from t None [] es)

pub finished_replies : (es : List (Step × Reply)) (t : ℕ) → replies_of (tells (pending_of None) nothing_told es t) ≡ map (λ f. f.1) (finished t es)
finished_replies es t = ap replies_of (told_one (pending_of None) nothing_told es t) ∙ reversed_replies (story_from t None [] es)

-- a trace longer by one step, which tells one more, or none, and takes nothing off
pub story_longer : (t : ℕ) (o : Option Access) (fs : List (Access × Reply)) (xs : List (Step × Reply)) (e : Step × Reply) (more : List (Access × Reply)) → ((p : Option Access) (gs : List (Access × Reply)) → access_of t p e.0 e.1 ++ kept_after t e.0 e.1 gs ≡ more ++ gs)
    → story_from t o fs (xs ++ e ∷ []) ≡ more ++ story_from t o fs xs
story_longer t o fs [] e more is = is o fs
story_longer t o fs (x ∷ xs) e more is = story_longer t (pending_after t o x.0 x.1) (access_of t o x.0 x.1 ++ kept_after t x.0 x.1 fs) xs e more is

pub finished_none : (t : ℕ) (xs : List (Step × Reply)) (e : Step × Reply) → ((p : Option Access) → TellsNone t p e.0 e.1) → finished t (xs ++ e ∷ []) ≡ finished t xs
finished_none t xs e none = ap (λ gs. reverse gs) (story_longer t None [] xs e [] none)

pub finished_one : (t : ℕ) (xs : List (Step × Reply)) (e : Step × Reply) (f : Access × Reply) → ((p : Option Access) (gs : List (Access × Reply)) → access_of t p e.0 e.1 ++ kept_after t e.0 e.1 gs ≡ f ∷ gs) → finished t (xs ++ e ∷ []) ≡ finished t xs ++ f ∷ []
finished_one t xs e f one = ap (λ gs. reverse gs) (story_longer t None [] xs e (f ∷ []) one) ∙ reverse_onto (story_from t None [] xs) f []

-- ---- one that is going

-- a story without the Delete that goes on is a replay as well
replay_for : (aim : Aim) (o t : ℕ) (told : ℕ → List (Access × Reply)) (ls : List Lock) (w base : IndexMap) (net : List Change) → Told ls w base (ahead (Some (record { owner = o; aim = aim })) told t) net → replay base (accesses_of (told t)) ≡ replies_of (told t)
replay_for (Puts k r) o t told ls w base net h = Told-replay ls w base (told t) net h
replay_for (Drops k) o t told ls w base net h = by (nat_eq o t) h
  where
    by : (b : Bool) → Told ls w base (cond b ((Delete k, Deleted) ∷ told t) (told t)) net → replay base (accesses_of (told t)) ≡ replies_of (told t)
    by true more = Told-replay ls w base (told t) more.0 more.4
    by false more = Told-replay ls w base (told t) net more
replay_for TakesBack o t told ls w base net h = Told-replay ls w base (told t) net h
replay_for TookBack o t told ls w base net h = Told-replay ls w base (told t) net h

ahead_replay : (under : Option Under) (t : ℕ) (told : ℕ → List (Access × Reply)) (ls : List Lock) (w base : IndexMap) (net : List Change) → Told ls w base (ahead under told t) net → replay base (accesses_of (told t)) ≡ replies_of (told t)
ahead_replay None t told ls w base net h = Told-replay ls w base (told t) net h
ahead_replay (Some u) t told ls w base net h = replay_for u.aim u.owner t told ls w base net h

pub going_replay : (base : IndexMap) (n : ℕ) (trace : List (Step × Reply)) (v : View) → Run (start base n) trace v → (t : ℕ) → MayRollBack ((v.txns t).mark) → IsReplay v.committed (finished t trace)
going_replay base n trace v r t may =
    let up : Upheld v (tells (pending_of None) nothing_told trace) = run_upheld base n trace v r in
    let h = ahead_replay v.under t (tells (pending_of None) nothing_told trace) (up.locks t) v.walk v.committed ((v.txns t).net) (going_told (relocked v up.locks) (tells (pending_of None) nothing_told trace) up.stands t may) in
    ap (replay v.committed) (sym (finished_accesses trace t)) ∙ (h ∙ finished_replies trace t)

pub after_story : (base : IndexMap) (n : ℕ) (trace : List (Step × Reply)) (v : View) → Run (start base n) trace v → (t : ℕ) → pending_of v.under t ≡ None → MayRollBack ((v.txns t).mark) → apply v.committed ((v.txns t).net) ≡ map_after_all v.committed (map (λ f. f.0) (finished t trace))
after_story base n trace v r t clear may =
    let up : Upheld v (tells (pending_of None) nothing_told trace) = run_upheld base n trace v r in
    Told-after_all (up.locks t) v.walk v.committed (tells (pending_of None) nothing_told trace t) ((v.txns t).net)
    (subst (λ (fs : List (Access × Reply)). Told (up.locks t) v.walk v.committed fs ((v.txns t).net)) (ahead_same v.under t (tells (pending_of None) nothing_told trace) clear)
    (going_told (relocked v up.locks) (tells (pending_of None) nothing_told trace) up.stands t may))
    ∙ ap (map_after_all v.committed) (finished_accesses trace t)

-- ---- one that has ended or rolls back finishes no more

abbrev pub IsShut : Mark → Type 0
IsShut Idle = Unit {0}
IsShut Going = ⊥
IsShut MustRollBack = ⊥
IsShut RollingBack = Unit {0}
IsShut (Returning n) = ⊥
IsShut Committing = Unit {0}

record Closed (v : View) (t : ℕ) : Type 0 where
  shut : IsShut ((v.txns t).mark)
  old : t < v.next

shut_not_going : (m : Mark) → IsShut m → m ≡ Going → ⊥
shut_not_going m s e = subst IsShut e s

set_shut : (f : ℕ → Txn) (u : ℕ) (x : Txn) (t : ℕ) → IsShut ((f t).mark) → (u ≡ t → IsShut x.mark) → IsShut ((set_txn f u x t).mark)
set_shut f u x t here there =
    elim (cases_number t u) [
      | inl e ↦ subst (λ (y : Txn). IsShut y.mark) (sym (ap (set_txn f u x) e ∙ set_txn-same f u x)) (there (sym e))
      | inr ne ↦ subst (λ (y : Txn). IsShut y.mark) (sym (set_txn-other f u x t ne)) here
    ]

not_itself : (v : View) (t u : ℕ) → Closed v t → (v.txns u).mark ≡ Going → u ≡ t → ⊥
not_itself v t u c is e = shut_not_going ((v.txns t).mark) c.shut (ap (λ s. (v.txns s).mark) (sym e) ∙ is)

-- one that returns is not
returning_not : (v : View) (t u n : ℕ) → Closed v t → (v.txns u).mark ≡ Returning n → u ≡ t → ⊥
returning_not v t u n c is e = subst IsShut (ap (λ s. (v.txns s).mark) (sym e) ∙ is) c.shut

-- nor one that begins to
may_not : (v : View) (t u : ℕ) → Closed v t → MayRollBack ((v.txns u).mark) → u ≡ t → ⊥
may_not v t u c (inl is) e = not_itself v t u c is e
may_not v t u c (inr is) e = subst IsShut (ap (λ s. (v.txns s).mark) (sym e) ∙ is) c.shut

-- whatever goes on
abbrev pub FinishesNone : ℕ → Step → Reply → Type 0
FinishesNone t step reply = (o : Option Access) → TellsNone t o step reply

quiet_for : (t : ℕ) (step other : Step) (reply : Reply) → step ≡ other → FinishesNone t other reply → FinishesNone t step reply
quiet_for t step other reply e h o = tells_none_at t o step other reply reply e refl (h o)

none_if_other : (t u : ℕ) (b : Bool) (fs gs : List (Access × Reply)) → (u ≡ t → ⊥) → cond (b && nat_eq u t) fs gs ≡ gs
none_if_other t u true fs gs ne = rw (ne_eqb u t ne)
none_if_other t u false fs gs ne = refl

other_do : (t u : ℕ) (a : Access) (reply : Reply) → (u ≡ t → ⊥) → FinishesNone t (Do u a) reply
other_do t u a reply ne o fs = ap (λ (gs : List (Access × Reply)). gs ++ fs) (none_if_other t u (is_answer reply) ((a, reply) ∷ []) [] ne)

other_continue : (t u : ℕ) (reply : Reply) → (u ≡ t → ⊥) → FinishesNone t (Continue u) reply
other_continue t u reply ne o fs = ap (λ (gs : List (Access × Reply)). gs ++ fs) (none_if_other t u (is_answer reply) (answered_with o reply) [] ne)

other_return : (t u n : ℕ) (reply : Reply) → (u ≡ t → ⊥) → FinishesNone t (RollTo u n) reply
other_return t u n reply ne o fs = none_if_other t u (is_return reply) (kept_story n fs) fs ne

no_answer : (t : ℕ) (step : Step) (reply : Reply) → is_answer reply ≡ false → is_return reply ≡ false → FinishesNone t step reply
no_answer t step reply e f o = silent t o step reply e f

-- a Continue that ends no access
none_ends : (t u : ℕ) (step : Step) (reply y : Reply) → step ≡ Continue u → reply ≡ y → is_answer y ≡ false → FinishesNone t step reply
none_ends t u step reply y a d none o = tells_none_at t o step (Continue u) reply y a d (λ fs. rw none)

-- an access that goes on
none_begun : (t u : ℕ) (a : Access) (step : Step) (reply : Reply) → step ≡ Do u a → reply ≡ More → FinishesNone t step reply
none_begun t u a step reply b d o = tells_none_at t o step (Do u a) reply More b d (λ fs. refl)

module _ (v : View) (t : ℕ) (c : Closed v t) where
  abbrev Stays : Step → Reply → View → Type 0
  Stays step reply w = FinishesNone t step reply × Closed w t

  at_view : (step : Step) (reply : Reply) (w u : View) → w ≡ u → FinishesNone t step reply → Closed u t → Stays step reply w
  at_view step reply w u e none k = (none, subst (λ (x : View). Closed x t) (sym e) k)

  Goes-closed : (step : Step) (reply : Reply) (w : View) → Goes v step reply w → Stays step reply w
  Goes-closed step reply w (begins a l b e) = at_view step reply w (begun v) e (quiet_for t step Begin reply a (λ o fs. refl))
      (record { shut = set_shut v.txns v.next (record idle { mark = Going }) t c.shut (λ q. let l : t < v.next = c.old in absurd (omega arith)); old = let l : t < v.next = c.old in omega arith })
  Goes-closed step reply w (does u a ls b is free same d e) = at_view step reply w (did v u a ls) e (quiet_for t step (Do u a) reply b (other_do t u a reply (not_itself v t u c is)))
      (record { shut = set_shut v.txns u (did_txn (v.txns u) a v.walk ls) t c.shut (λ q. absurd (not_itself v t u c is q)); old = c.old })
  Goes-closed step reply w (waits u a holder b is wait d e) = at_view step reply w v e (quiet_for t step (Do u a) reply b (other_do t u a reply (not_itself v t u c is))) c
  Goes-closed step reply w (dies u a b is must d e) = at_view step reply w (marked v u MustRollBack) e (quiet_for t step (Do u a) reply b (other_do t u a reply (not_itself v t u c is)))
      (record { shut = set_shut v.txns u (record (v.txns u) { mark = MustRollBack }) t c.shut (λ q. absurd (not_itself v t u c is q)); old = c.old })
  Goes-closed step reply w (commits u a is alone d e) = at_view step reply w (committed_by v u) e (quiet_for t step (Commit u) reply a (λ o fs. refl))
      (record { shut = set_shut v.txns u idle t c.shut (λ q. tt); old = c.old })
  Goes-closed step reply w (queues u d cs a is net_is q e) = at_view step reply w (queued v u) e (quiet_for t step (Commit u) reply a (λ o fs. refl))
      (record { shut = set_shut v.txns u (record (v.txns u) { mark = Committing }) t c.shut (λ q. tt); old = c.old })
  Goes-closed step reply w (drops u a may empty d e) = at_view step reply w (dropped_by v u) e (quiet_for t step (Rollback u) reply a (λ o fs. refl))
      (record { shut = set_shut v.txns u idle t c.shut (λ q. tt); old = c.old })
  Goes-closed step reply w (turns u d cs a may net_is q e) = at_view step reply w (marked v u RollingBack) e (quiet_for t step (Rollback u) reply a (λ o fs. refl))
      (record { shut = set_shut v.txns u (record (v.txns u) { mark = RollingBack }) t c.shut (λ q. tt); old = c.old })
  Goes-closed step reply w (undoes u d g cs a is net_is q e) = at_view step reply w (undid_more v u d (g ∷ cs)) e (none_ends t u step reply More a q refl)
      (record { shut = set_shut v.txns u (record (v.txns u) { net = g ∷ cs }) t c.shut (λ q. subst IsShut (sym is) tt); old = c.old })
  Goes-closed step reply w (ends u d a is net_is q e) = at_view step reply w (undid_last v u d) e (none_ends t u step reply RolledBack a q refl)
      (record { shut = set_shut v.txns u idle t c.shut (λ q. tt); old = c.old })
  Goes-closed step reply w (puts_later u k r ls b is none absent unheld same d e) = at_view step reply w (with_change (locked v u ls) u (Puts k r)) e (none_begun t u (Insert k r) step reply b d)
      (record { shut = set_shut v.txns u (record (v.txns u) { locks = ls }) t c.shut (λ q. absurd (not_itself v t u c is q)); old = c.old })
  Goes-closed step reply w (puts u k r b is under d e) = at_view step reply w (change_made (did v u (Insert k r) ((v.txns u).locks))) e (quiet_for t step (Continue u) reply b (other_continue t u reply (not_itself v t u c is)))
      (record { shut = set_shut v.txns u (did_txn (v.txns u) (Insert k r) v.walk ((v.txns u).locks)) t c.shut (λ q. absurd (not_itself v t u c is q)); old = c.old })
  Goes-closed step reply w (drops_first u k r ls b is none there unheld same d e) = at_view step reply w (with_change (did v u (Delete k) ls) u (Drops k)) e (none_begun t u (Delete k) step reply b d)
      (record { shut = set_shut v.txns u (did_txn (v.txns u) (Delete k) v.walk ls) t c.shut (λ q. absurd (not_itself v t u c is q)); old = c.old })
  Goes-closed step reply w (drops_leaf u k b is under d e) = at_view step reply w (change_made v) e (quiet_for t step (Continue u) reply b (other_continue t u reply (not_itself v t u c is))) (record { shut = c.shut; old = c.old })
  Goes-closed step reply w (takes_later u g cs b is none net_is d e) = at_view step reply w (with_change v u TakesBack) e (none_ends t u step reply More b d refl) (record { shut = c.shut; old = c.old })
  Goes-closed step reply w (takes_first u g cs b may none net_is d e) = at_view step reply w (with_change (undid_more v u g cs) u TookBack) e (none_ends t u step reply More b d refl)
      (record { shut = set_shut v.txns u (record (v.txns u) { net = cs }) t c.shut (λ q. subst (λ s. IsShut ((v.txns s).mark)) (sym q) c.shut); old = c.old })
  Goes-closed step reply w (takes_leaf u g cs b is under net_is d e) = at_view step reply w (change_made v) e (none_ends t u step reply More b d refl) (record { shut = c.shut; old = c.old })
  Goes-closed step reply w (takes_last u b is under empty d e) = at_view step reply w (change_made (dropped_by v u)) e (none_ends t u step reply RolledBack b d refl)
      (record { shut = set_shut v.txns u idle t c.shut (λ q. tt); old = c.old })
  Goes-closed step reply w (stays_back u n a may low d e) = at_view step reply w (marked v u Going) e (quiet_for t step (RollTo u n) reply a (other_return t u n reply (may_not v t u c may)))
      (record { shut = set_shut v.txns u (record (v.txns u) { mark = Going }) t c.shut (λ q. absurd (may_not v t u c may q)); old = c.old })
  Goes-closed step reply w (turns_back u n a may over d e) = at_view step reply w (marked v u (Returning n)) e (quiet_for t step (RollTo u n) reply a (other_return t u n reply (may_not v t u c may)))
      (record { shut = set_shut v.txns u (record (v.txns u) { mark = Returning n }) t c.shut (λ q. absurd (may_not v t u c may q)); old = c.old })
  Goes-closed step reply w (gives_back u n g cs a is net_is over d e) = at_view step reply w (undid_more v u g cs) e (none_ends t u step reply More a d refl)
      (record { shut = set_shut v.txns u (record (v.txns u) { net = cs }) t c.shut (λ q. absurd (returning_not v t u n c is q)); old = c.old })
  Goes-closed step reply w (is_back u n g cs a is net_is whole d e) = at_view step reply w (marked (undid_more v u g cs) u Going) e (none_ends t u step reply Done a d refl)
      (record {
        shut = set_shut (undid_more v u g cs).txns u (record ((undid_more v u g cs).txns u) { mark = Going }) t
            (set_shut v.txns u (record (v.txns u) { net = cs }) t c.shut (λ q. absurd (returning_not v t u n c is q))) (λ q. absurd (returning_not v t u n c is q));
        old = c.old;
      })
  Goes-closed step reply w (leaf_is_back u n a is under whole d e) = at_view step reply w (change_made (marked v u Going)) e (none_ends t u step reply Done a d refl)
      (record { shut = set_shut v.txns u (record (v.txns u) { mark = Going }) t c.shut (λ q. absurd (returning_not v t u n c is q)); old = c.old })
  Goes-closed step reply w (logs_page u x b under owner d e) = at_view step reply w v e (none_ends t u step reply More b d refl) c
  Goes-closed step reply w (tree_blocks u a x b under other d e) = at_view step reply w v e (no_answer t step reply (ap is_answer d) (ap is_return d)) c
  Goes-closed step reply w (tree_halts u x b under other d e) = at_view step reply w v e (none_ends t u step reply BlockedTree b d refl) c
  Goes-closed step reply w (flushes p a d e) = at_view step reply w v e (quiet_for t step (FlushPage p) reply a (λ o fs. refl)) c
  Goes-closed step reply w (forces a d e) = at_view step reply w (forced_by v) e (quiet_for t step Force reply a (λ o fs. refl))
      (record { shut = by_force_txn (λ u y. IsShut ((v.txns u).mark) → IsShut y.mark) v.txns v.queue (λ u some was. tt) (λ u none was. was) t c.shut; old = c.old })
  Goes-closed step reply w (checkpoints a d e) = at_view step reply w v e (quiet_for t step Checkpoint reply a (λ o fs. refl)) c
  Goes-closed step reply w (switches a d e) = at_view step reply w v e (quiet_for t step Switch reply a (λ o fs. refl)) c
  Goes-closed step reply w (lacks fault wants d e) = at_view step reply w v e (no_answer t step reply (ap is_answer d) (ap is_return d)) c
  Goes-closed step reply w (breaks fault ls is d e) = at_view step reply w (broken v ls) e (no_answer t step reply (ap is_answer d) (ap is_return d)) (record { shut = c.shut; old = c.old })

  Answers-closed : (step : Step) (reply : Reply) (w : View) (o : Option ℕ) → Answers v step reply w o → Stays step reply w
  Answers-closed step reply w None g = Goes-closed step reply w g
  Answers-closed step reply w (Some fault) g = at_view step reply w v g.1 (no_answer t step reply (ap is_answer g.0) (ap is_return g.0)) c

closed_quiet : (v : View) (es : List (Step × Reply)) (w : View) (t : ℕ) → Closed v t → Run v es w → (o : Option Access) (fs : List (Access × Reply)) → story_from t o fs es ≡ fs
closed_quiet v [] w t c r o fs = refl
closed_quiet v (e ∷ es) w t c r o fs =
    let s = Answers-closed v t c e.0 e.1 r.0 (barred v e.0) r.1 in
    ap (λ gs. story_from t (pending_after t o e.0 e.1) gs es) (s.0 o fs) ∙ closed_quiet r.0 es w t s.1 r.2 (pending_after t o e.0 e.1) fs

-- a trace that goes on after t has closed tells no more of t
same_story_from : (t : ℕ) (o : Option Access) (fs : List (Access × Reply)) (front : List (Step × Reply)) (e : Step × Reply) (rest : List (Step × Reply)) → FinishesNone t e.0 e.1 → ((p : Option Access) (gs : List (Access × Reply)) → story_from t p gs rest ≡ gs)
    → story_from t o fs (front ++ e ∷ rest) ≡ story_from t o fs front
same_story_from t o fs [] e rest a b = ap (λ gs. story_from t (pending_after t o e.0 e.1) gs rest) (a o fs) ∙ b (pending_after t o e.0 e.1) fs
same_story_from t o fs (d ∷ ds) e rest a b = same_story_from t (pending_after t o d.0 d.1) (access_of t o d.0 d.1 ++ kept_after t d.0 d.1 fs) ds e rest a b

same_story : (base m : IndexMap) (t : ℕ) (front : List (Step × Reply)) (e : Step × Reply) (rest : List (Step × Reply)) → FinishesNone t e.0 e.1 → ((p : Option Access) (gs : List (Access × Reply)) → story_from t p gs rest ≡ gs) → IsReplay m (finished t front) → IsReplay m (finished t (front ++ e ∷ rest))
same_story base m t front e rest a b h = subst (IsReplay m) (sym (ap (λ gs. reverse gs) (same_story_from t None [] front e rest a b))) h

-- ---- the end of a transaction

pub record IsEnd (v : View) (t : ℕ) (w : View) : Type 0 where
  pub may : MayRollBack ((v.txns t).mark)
  pub is_shut : IsShut ((w.txns t).mark)
  pub next : w.next ≡ v.next

shut_by : (f : ℕ → Txn) (t : ℕ) (x : Txn) → IsShut x.mark → IsShut ((set_txn f t x t).mark)
shut_by f t x h = subst (λ (y : Txn). IsShut y.mark) (sym (set_txn-same f t x)) h

same_commit : (t u : ℕ) → Commit t ≡ Commit u → t ≡ u
same_commit t u e = cc

same_rollback : (t u : ℕ) → Rollback t ≡ Rollback u → t ≡ u
same_rollback t u e = cc

end_at : (v : View) (t u : ℕ) (w x : View) → t ≡ u → MayRollBack ((v.txns u).mark) → IsShut ((x.txns u).mark) → x.next ≡ v.next → w ≡ x → IsEnd v t w
end_at v t u w x e may is_shut next q = record {
  may = subst (λ s. MayRollBack ((v.txns s).mark)) (sym e) may;
  is_shut = subst (λ (y : View). IsShut ((y.txns t).mark)) (sym q) (subst (λ s. IsShut ((x.txns s).mark)) (sym e) is_shut);
  next = ap (λ (y : View). y.next) q ∙ next;
}

pub commit_end : (v : View) (t : ℕ) (w : View) → Goes v (Commit t) Committed w → IsEnd v t w
commit_end v t w (begins a l b e) = absurd cc
commit_end v t w (does u a ls b is free same d e) = absurd cc
commit_end v t w (waits u a holder b is wait d e) = absurd cc
commit_end v t w (dies u a b is must d e) = absurd cc
commit_end v t w (commits u a is alone d e) = end_at v t u w (committed_by v u) (same_commit t u a) (inl is) (shut_by v.txns u idle tt) refl e
commit_end v t w (queues u d cs a is net_is q e) = absurd cc
commit_end v t w (drops u a may empty d e) = absurd cc
commit_end v t w (turns u d cs a may net_is q e) = absurd cc
commit_end v t w (undoes u d g cs a is net_is q e) = absurd cc
commit_end v t w (ends u d a is net_is q e) = absurd cc
commit_end v t w (puts_later u k r ls b is none absent unheld same d e) = absurd cc
commit_end v t w (puts u k r b is under d e) = absurd cc
commit_end v t w (drops_first u k r ls b is none there unheld same d e) = absurd cc
commit_end v t w (drops_leaf u k b is under d e) = absurd cc
commit_end v t w (takes_later u c cs b is none net_is d e) = absurd cc
commit_end v t w (takes_first u c cs b is none net_is d e) = absurd cc
commit_end v t w (takes_leaf u c cs b is under net_is d e) = absurd cc
commit_end v t w (takes_last u b is under empty d e) = absurd cc
commit_end v t w (stays_back u n a may low d e) = absurd cc
commit_end v t w (turns_back u n a may over d e) = absurd cc
commit_end v t w (gives_back u n g cs a is net_is over d e) = absurd cc
commit_end v t w (is_back u n g cs a is net_is whole d e) = absurd cc
commit_end v t w (leaf_is_back u n a is under whole d e) = absurd cc
commit_end v t w (logs_page u x b under owner d e) = absurd cc
commit_end v t w (tree_blocks u a x b under other d e) = absurd cc
commit_end v t w (tree_halts u x b under other d e) = absurd cc
commit_end v t w (flushes p a d e) = absurd cc
commit_end v t w (forces a d e) = absurd cc
commit_end v t w (checkpoints a d e) = absurd cc
commit_end v t w (switches a d e) = absurd cc
commit_end v t w (lacks fault wants d e) = absurd cc
commit_end v t w (breaks fault ls is d e) = absurd cc

pub no_refusal : (reply : Reply) → (reply ≡ More) ⊎ (reply ≡ RolledBack) → (fault : ℕ) → reply ≡ Refused fault → ⊥
no_refusal reply (inl h) fault e = cc
no_refusal reply (inr h) fault e = cc

pub rollback_end : (v : View) (t : ℕ) (reply : Reply) (w : View) → (reply ≡ More) ⊎ (reply ≡ RolledBack) → Goes v (Rollback t) reply w → IsEnd v t w
rollback_end v t reply w h (begins a l b e) = absurd cc
rollback_end v t reply w h (does u a ls b is free same d e) = absurd cc
rollback_end v t reply w h (waits u a holder b is wait d e) = absurd cc
rollback_end v t reply w h (dies u a b is must d e) = absurd cc
rollback_end v t reply w h (commits u a is alone d e) = absurd cc
rollback_end v t reply w h (queues u d cs a is net_is q e) = absurd cc
rollback_end v t reply w h (drops u a may empty d e) = end_at v t u w (dropped_by v u) (same_rollback t u a) may (shut_by v.txns u idle tt) refl e
rollback_end v t reply w h (turns u d cs a may net_is q e) = end_at v t u w (marked v u RollingBack) (same_rollback t u a) may (shut_by v.txns u (record (v.txns u) { mark = RollingBack }) tt) refl e
rollback_end v t reply w h (undoes u d g cs a is net_is q e) = absurd cc
rollback_end v t reply w h (ends u d a is net_is q e) = absurd cc
rollback_end v t reply w h (puts_later u k r ls b is none absent unheld same d e) = absurd cc
rollback_end v t reply w h (puts u k r b is under d e) = absurd cc
rollback_end v t reply w h (drops_first u k r ls b is none there unheld same d e) = absurd cc
rollback_end v t reply w h (drops_leaf u k b is under d e) = absurd cc
rollback_end v t reply w h (takes_later u c cs b is none net_is d e) = absurd cc
rollback_end v t reply w h (takes_first u c cs b is none net_is d e) = absurd cc
rollback_end v t reply w h (takes_leaf u c cs b is under net_is d e) = absurd cc
rollback_end v t reply w h (takes_last u b is under empty d e) = absurd cc
rollback_end v t reply w h (stays_back u n a may low d e) = absurd cc
rollback_end v t reply w h (turns_back u n a may over d e) = absurd cc
rollback_end v t reply w h (gives_back u n g cs a is net_is over d e) = absurd cc
rollback_end v t reply w h (is_back u n g cs a is net_is whole d e) = absurd cc
rollback_end v t reply w h (leaf_is_back u n a is under whole d e) = absurd cc
rollback_end v t reply w h (logs_page u x b under owner d e) = absurd cc
rollback_end v t reply w h (tree_blocks u a x b under other d e) = absurd cc
rollback_end v t reply w h (tree_halts u x b under other d e) = absurd cc
rollback_end v t reply w h (flushes p a d e) = absurd cc
rollback_end v t reply w h (forces a d e) = absurd cc
rollback_end v t reply w h (checkpoints a d e) = absurd cc
rollback_end v t reply w h (switches a d e) = absurd cc
rollback_end v t reply w h (lacks fault wants d e) = absurd (no_refusal reply h fault d)
rollback_end v t reply w h (breaks fault ls is d e) = absurd (no_refusal reply h fault d)

pub unbarred : (v : View) (step : Step) (reply : Reply) (w : View) (o : Option ℕ) → Answers v step reply w o → ((fault : ℕ) → reply ≡ Refused fault → ⊥) → Goes v step reply w
unbarred v step reply w None g never = g
unbarred v step reply w (Some fault) g never = absurd (never fault g.0)

going_old : (v : View) (told : ℕ → List (Access × Reply)) → Stands v told → (t : ℕ) → MayRollBack ((v.txns t).mark) → t < v.next
going_old v told h t may =
    elim (cases_lt t v.next) [
      | inl l ↦ l
      | inr l ↦ absurd (let i : (v.txns t).mark ≡ Idle = ap (λ (x : Txn). x.mark) (h.fresh t l) in elim may [ inl e ↦ cc | inr e ↦ cc ])
    ]

pub ended_replay : (base : IndexMap) (n : ℕ) (front rest : List (Step × Reply)) (v w end : View) (t : ℕ) (e : Step × Reply) → Run (start base n) front v → IsEnd v t w → FinishesNone t e.0 e.1 → Run w rest end → IsReplay v.committed (finished t (front ++ e ∷ rest))
ended_replay base n front rest v w end t e r is none later =
    let up : Upheld v (tells (pending_of None) nothing_told front) = run_upheld base n front v r in
    let l : t < v.next = going_old (relocked v up.locks) (tells (pending_of None) nothing_told front) up.stands t is.may in
    let q : w.next ≡ v.next = is.next in
    same_story base v.committed t front e rest none
    (closed_quiet w rest end t (record { shut = is.is_shut; old = omega arith }) later)
    (going_replay base n front v r t is.may)

-- ---- one that waits, and the force

pub waiting_replay : (base : IndexMap) (n : ℕ) (trace : List (Step × Reply)) (v : View) → Run (start base n) trace v → (t : ℕ) → (v.txns t).mark ≡ Committing → IsReplay v.committed (finished t trace)
waiting_replay base n trace v r t is =
    let up : Upheld v (tells (pending_of None) nothing_told trace) = run_upheld base n trace v r in
    let h = ahead_replay v.under t (tells (pending_of None) nothing_told trace) (up.locks t) v.walk v.committed ((v.txns t).net) (waiting_story (relocked v up.locks) (tells (pending_of None) nothing_told trace) up.stands t is) in
    ap (replay v.committed) (sym (finished_accesses trace t)) ∙ (h ∙ finished_replies trace t)

-- where one waits that has this place in the queue
waits_there : (v : View) (told : ℕ → List (Access × Reply)) → Stands v told → (ts us : List ℕ) (t : ℕ) → v.queue ≡ ts ++ t ∷ us → (v.txns t).mark ≡ Committing
waits_there v told h ts us t is = h.queue.waits t (ap (is_among t) is ∙ is_in_it ts us t)

placed_replay : (base : IndexMap) (n : ℕ) (trace : List (Step × Reply)) (v : View) → Run (start base n) trace v → (ts us : List ℕ) (t : ℕ) → v.queue ≡ ts ++ t ∷ us → IsReplay (map_behind v.committed v.txns ts) (finished t trace)
placed_replay base n trace v r ts us t is =
    let up : Upheld v (tells (pending_of None) nothing_told trace) = run_upheld base n trace v r in
    let u : View = relocked v up.locks in
    let same : map_behind v.committed u.txns ts ≡ map_behind v.committed v.txns ts = ap (apply_all v.committed) (nets_same v.txns u.txns ts (λ s. refl)) in
    let story = told_behind v.committed v.walk u.txns (ahead v.under (tells (pending_of None) nothing_told trace)) up.stands.fits ts t (none_before ts us t (subst AreDifferent is up.stands.queue.each))
    (waiting_story u (tells (pending_of None) nothing_told trace) up.stands t (waits_there u (tells (pending_of None) nothing_told trace) up.stands ts us t is)) in
    let h = ahead_replay v.under t (tells (pending_of None) nothing_told trace) (up.locks t) v.walk (map_behind v.committed u.txns ts) ((v.txns t).net) story in
    subst (λ (m : IndexMap). IsReplay m (finished t trace)) same (ap (replay (map_behind v.committed u.txns ts)) (sym (finished_accesses trace t)) ∙ (h ∙ finished_replies trace t))

pub force_is : (v w : View) → Goes v Force Done w → w ≡ forced_by v
force_is v w (begins a l b e) = absurd cc
force_is v w (does u a ls b is free same d e) = absurd cc
force_is v w (waits u a holder b is wait d e) = absurd cc
force_is v w (dies u a b is must d e) = absurd cc
force_is v w (commits u a is alone d e) = absurd cc
force_is v w (queues u d cs a is net_is q e) = absurd cc
force_is v w (drops u a may empty d e) = absurd cc
force_is v w (turns u d cs a may net_is q e) = absurd cc
force_is v w (undoes u d g cs a is net_is q e) = absurd cc
force_is v w (ends u d a is net_is q e) = absurd cc
force_is v w (puts_later u k r ls b is none absent unheld same d e) = absurd cc
force_is v w (puts u k r b is under d e) = absurd cc
force_is v w (drops_first u k r ls b is none there unheld same d e) = absurd cc
force_is v w (drops_leaf u k b is under d e) = absurd cc
force_is v w (takes_later u c cs b is none net_is d e) = absurd cc
force_is v w (takes_first u c cs b is none net_is d e) = absurd cc
force_is v w (takes_leaf u c cs b is under net_is d e) = absurd cc
force_is v w (takes_last u b is under empty d e) = absurd cc
force_is v w (stays_back u n a may low d e) = absurd cc
force_is v w (turns_back u n a may over d e) = absurd cc
force_is v w (gives_back u n g cs a is net_is over d e) = absurd cc
force_is v w (is_back u n g cs a is net_is whole d e) = absurd cc
force_is v w (leaf_is_back u n a is under whole d e) = absurd cc
force_is v w (logs_page u x b under owner d e) = absurd cc
force_is v w (tree_blocks u a x b under other d e) = absurd cc
force_is v w (tree_halts u x b under other d e) = absurd cc
force_is v w (flushes p a d e) = absurd cc
force_is v w (forces a d e) = e
force_is v w (checkpoints a d e) = absurd cc
force_is v w (switches a d e) = absurd cc
force_is v w (lacks fault wants d e) = absurd cc
force_is v w (breaks fault ls is d e) = absurd cc

waiting_old : (v : View) (told : ℕ → List (Access × Reply)) → Stands v told → (t : ℕ) → (v.txns t).mark ≡ Committing → t < v.next
waiting_old v told h t is =
    elim (cases_lt t v.next) [
      | inl l ↦ l
      | inr l ↦ absurd (let i : (v.txns t).mark ≡ Idle = ap (λ (x : Txn). x.mark) (h.fresh t l) in let never : Committing ≡ Idle = sym is ∙ i in cc never)
    ]

pub forced_replay : (base : IndexMap) (n : ℕ) (front rest : List (Step × Reply)) (v w end : View) → Run (start base n) front v → Goes v Force Done w → Run w rest end → (ts us : List ℕ) (t : ℕ) → v.queue ≡ ts ++ t ∷ us
    → IsReplay (map_behind v.committed v.txns ts) (finished t (front ++ (Force, Done) ∷ rest))
forced_replay base n front rest v w end r g later ts us t is =
    let up : Upheld v (tells (pending_of None) nothing_told front) = run_upheld base n front v r in
    let u : View = relocked v up.locks in
    let mark : (v.txns t).mark ≡ Committing = waits_there u (tells (pending_of None) nothing_told front) up.stands ts us t is in
    let old : t < v.next = waiting_old u (tells (pending_of None) nothing_told front) up.stands t mark in
    let e : w ≡ forced_by v = force_is v w g in
    let shut : IsShut ((idle_all v.txns v.queue t).mark) = by_force_txn (λ s y. IsShut ((v.txns s).mark) → IsShut y.mark) v.txns v.queue (λ s some was. tt) (λ s none was. was) t (subst IsShut (sym mark) tt) in
    let closed : Closed w t = subst (λ (y : View). Closed y t) (sym e) (record { shut = shut; old = old }) in
    same_story base (map_behind v.committed v.txns ts) t front (Force, Done) rest (λ o fs. refl) (closed_quiet w rest end t closed later) (placed_replay base n front v r ts us t is)

-- the map committed after a Commit
pub commit_adds : (v : View) (t : ℕ) (w : View) → Goes v (Commit t) Committed w → w.committed ≡ apply v.committed ((v.txns t).net)
commit_adds v t w (begins a l b e) = absurd cc
commit_adds v t w (does u a ls b is free same d e) = absurd cc
commit_adds v t w (waits u a holder b is wait d e) = absurd cc
commit_adds v t w (dies u a b is must d e) = absurd cc
commit_adds v t w (commits u a is alone d e) = ap (λ (y : View). y.committed) e ∙ ap (λ s. apply v.committed ((v.txns s).net)) (sym (same_commit t u a))
commit_adds v t w (queues u d cs a is net_is q e) = absurd cc
commit_adds v t w (drops u a may empty d e) = absurd cc
commit_adds v t w (turns u d cs a may net_is q e) = absurd cc
commit_adds v t w (undoes u d g cs a is net_is q e) = absurd cc
commit_adds v t w (ends u d a is net_is q e) = absurd cc
commit_adds v t w (puts_later u k r ls b is none absent unheld same d e) = absurd cc
commit_adds v t w (puts u k r b is under d e) = absurd cc
commit_adds v t w (drops_first u k r ls b is none there unheld same d e) = absurd cc
commit_adds v t w (drops_leaf u k b is under d e) = absurd cc
commit_adds v t w (takes_later u c cs b is none net_is d e) = absurd cc
commit_adds v t w (takes_first u c cs b is none net_is d e) = absurd cc
commit_adds v t w (takes_leaf u c cs b is under net_is d e) = absurd cc
commit_adds v t w (takes_last u b is under empty d e) = absurd cc
commit_adds v t w (stays_back u n a may low d e) = absurd cc
commit_adds v t w (turns_back u n a may over d e) = absurd cc
commit_adds v t w (gives_back u n g cs a is net_is over d e) = absurd cc
commit_adds v t w (is_back u n g cs a is net_is whole d e) = absurd cc
commit_adds v t w (leaf_is_back u n a is under whole d e) = absurd cc
commit_adds v t w (logs_page u x b under owner d e) = absurd cc
commit_adds v t w (tree_blocks u a x b under other d e) = absurd cc
commit_adds v t w (tree_halts u x b under other d e) = absurd cc
commit_adds v t w (flushes p a d e) = absurd cc
commit_adds v t w (forces a d e) = absurd cc
commit_adds v t w (checkpoints a d e) = absurd cc
commit_adds v t w (switches a d e) = absurd cc
commit_adds v t w (lacks fault wants d e) = absurd cc
commit_adds v t w (breaks fault ls is d e) = absurd cc

-- no other reply changes the map committed
goes_stays : (v w : View) (step : Step) (reply : Reply) → Goes v step reply w → reply ≢ Committed → (step ≡ Force → reply ≡ Done → v.queue ≡ []) → w.committed ≡ v.committed
goes_stays v w step reply (begins a l b e) ne none = ap (λ (y : View). y.committed) e
goes_stays v w step reply (does u a ls b is free same d e) ne none = ap (λ (y : View). y.committed) e
goes_stays v w step reply (waits u a holder b is wait d e) ne none = ap (λ (y : View). y.committed) e
goes_stays v w step reply (dies u a b is must d e) ne none = ap (λ (y : View). y.committed) e
goes_stays v w step reply (commits u a is alone d e) ne none = absurd (ne d)
goes_stays v w step reply (queues u d cs a is net_is q e) ne none = ap (λ (y : View). y.committed) e
goes_stays v w step reply (drops u a may empty d e) ne none = ap (λ (y : View). y.committed) e
goes_stays v w step reply (turns u d cs a may net_is q e) ne none = ap (λ (y : View). y.committed) e
goes_stays v w step reply (undoes u d g cs a is net_is q e) ne none = ap (λ (y : View). y.committed) e
goes_stays v w step reply (ends u d a is net_is q e) ne none = ap (λ (y : View). y.committed) e
goes_stays v w step reply (puts_later u k r ls b is none absent unheld same d e) ne none_waits = ap (λ (y : View). y.committed) e
goes_stays v w step reply (puts u k r b is under d e) ne none_waits = ap (λ (y : View). y.committed) e
goes_stays v w step reply (drops_first u k r ls b is none there unheld same d e) ne none_waits = ap (λ (y : View). y.committed) e
goes_stays v w step reply (drops_leaf u k b is under d e) ne none_waits = ap (λ (y : View). y.committed) e
goes_stays v w step reply (takes_later u c cs b is none net_is d e) ne none_waits = ap (λ (y : View). y.committed) e
goes_stays v w step reply (takes_first u c cs b is none net_is d e) ne none_waits = ap (λ (y : View). y.committed) e
goes_stays v w step reply (takes_leaf u c cs b is under net_is d e) ne none_waits = ap (λ (y : View). y.committed) e
goes_stays v w step reply (takes_last u b is under empty d e) ne none_waits = ap (λ (y : View). y.committed) e
goes_stays v w step reply (stays_back u n a may low d e) ne none_waits = ap (λ (y : View). y.committed) e
goes_stays v w step reply (turns_back u n a may over d e) ne none_waits = ap (λ (y : View). y.committed) e
goes_stays v w step reply (gives_back u n g cs a is net_is over d e) ne none_waits = ap (λ (y : View). y.committed) e
goes_stays v w step reply (is_back u n g cs a is net_is whole d e) ne none_waits = ap (λ (y : View). y.committed) e
goes_stays v w step reply (leaf_is_back u n a is under whole d e) ne none_waits = ap (λ (y : View). y.committed) e
goes_stays v w step reply (logs_page u x b under owner d e) ne none_waits = ap (λ (y : View). y.committed) e
goes_stays v w step reply (tree_blocks u a x b under other d e) ne none_waits = ap (λ (y : View). y.committed) e
goes_stays v w step reply (tree_halts u x b under other d e) ne none_waits = ap (λ (y : View). y.committed) e
goes_stays v w step reply (flushes p a d e) ne none = ap (λ (y : View). y.committed) e
goes_stays v w step reply (forces a d e) ne none = ap (λ (y : View). y.committed) e ∙ ap (map_behind v.committed v.txns) (none a d)
goes_stays v w step reply (checkpoints a d e) ne none = ap (λ (y : View). y.committed) e
goes_stays v w step reply (switches a d e) ne none = ap (λ (y : View). y.committed) e
goes_stays v w step reply (lacks fault wants d e) ne none = ap (λ (y : View). y.committed) e
goes_stays v w step reply (breaks fault ls is d e) ne none = ap (λ (y : View). y.committed) e

pub answers_stays : (v w : View) (step : Step) (reply : Reply) (o : Option ℕ) → Answers v step reply w o → reply ≢ Committed → (step ≡ Force → reply ≡ Done → v.queue ≡ []) → w.committed ≡ v.committed
answers_stays v w step reply None g ne none = goes_stays v w step reply g ne none
answers_stays v w step reply (Some fault) g ne none = ap (λ (y : View). y.committed) g.1

together_of : (v : View) (told : ℕ → List (Access × Reply)) → Stands v told → IsTogether v
together_of v told h = record {
  apart = nets_apart v.committed v.walk v.txns (ahead v.under told) h.fits;
  untouched = λ k none. h.fits.walk 0 k (λ u nu touch. none u touch) ∙ apply-untouched v.committed ((v.txns 0).net) k (none 0);
  touched = λ t k touch. h.fits.walk t k (λ u nu other. nets_apart v.committed v.walk v.txns (ahead v.under told) h.fits u t nu k other touch);
}

pub together_up : (v : View) (told : ℕ → List (Access × Reply)) → Upheld v told → IsTogether v
together_up v told up =
    let h = together_of (relocked v up.locks) told up.stands in
    record { apart = h.apart; untouched = h.untouched; touched = h.touched }
