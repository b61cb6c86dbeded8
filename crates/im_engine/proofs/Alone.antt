-- An access that is answered has the answer of one user alone.
use Rattle.std.proofs.Common.{◌≡◌, ℕ, map, Bool, true, false, cond, is_some, List, [], ◌∷◌, ◌++◌, append-nil, refl, ap, sym, subst, ◌∙◌, inl, inr, eq-eqb}
use Rattle.std.specs.Prelude.{◌&&◌, ◌==◌, if◌then◌else◌, Option, None, Some}
use Rattle.std.specs.FinMap.{empty, get}
use Rattle.im_base_types.specs.Maps.{IndexMap}
use Rattle.im_base_types.specs.Changes.{Effect, Put, Drop, apply, apply_all, seen_effect}
use Rattle.im_base_types.proofs.Changes.{apply_all_append, apply_seen}
use Rattle.im_base_types.specs.Answers.{Access, Step, Begin, Do, Commit, Rollback, Continue, RollTo, FlushPage, Force, Checkpoint, Switch, Reply, Refused, Done, Going, Committing, RolledBack, Inserted, Duplicate, Deleted, Absent, answer, is_answer, changes, dropped, map_after, map_after_all, replay, Insert, Delete, More, BlockedTree}
use Rattle.im_base_types.specs.Lives.{Asked, Shown, effects, shows}
use Rattle.im_theory_machine.specs.Locks.{Lock}
use Rattle.im_base_types.specs.Refusals.{failed as has_failed}
use Rattle.im_theory_machine.specs.View.{View, Aim, Under, Puts, Drops, pending_for, pending_of, Txn, change_made, did, did_txn, forced_by, is_among, nets_of, relocked}
use Rattle.im_theory_machine.specs.Machine.{Moves, Answers, Goes, begins, does, waits, dies, commits, queues, drops, turns, undoes, ends, puts_later, puts, drops_first, drops_leaf, takes_later, takes_first, takes_leaf, takes_last, stays_back, turns_back, gives_back, is_back, leaf_is_back, logs_page, tree_blocks, tree_halts, flushes, forces, checkpoints, switches, lacks, breaks, barred, fault_if, Run, start}
use Rattle.im_theory_machine.specs.Isolation.{access_of, kept_after, pending_after, finished, IsReplay}
use Rattle.im_theory_machine.proofs.Cited.{Run-push, finished_none, finished_one, going_replay, after_story, Moves-upheld, Upheld, clear_do, going_told, nothing_told, run_upheld, tell, tells, IsUnder, ahead, Told, cases_test, idle_others, queue_marks}
use Rattle.im_theory_steps.specs.Seen.{drop_by, drop_of}
use Rattle.im_base_types.specs.Keys.{Key}
use Rattle.im_theory_steps.proofs.Cited.{effect_shown, nets_else, no_effects, step_shows, effects_acked, moves_by}
use Rattle.im_theory_steps.specs.Acknowledged.{AllAcked, IsCleanBut, acked_effects}
use Rattle.im_theory_steps.specs.Lived.{IsLived}
use Rattle.im_engine.specs.Told.{AnswersAlone}

same_number : (t : ℕ) → (t == t) ≡ true
same_number t = eq-eqb t t refl

-- what an answered access is: of one that is going and waits for nothing, which sets no other's net
record IsGranted (v w : View) (t : ℕ) : Type 0 where
  going : (v.txns t).mark ≡ Going
  still : w.committed ≡ v.committed
  works : w.failed ≡ v.failed
  queue : w.queue ≡ v.queue
  nets : is_among t v.queue ≡ false → nets_of w.txns v.queue ≡ nets_of v.txns v.queue
  on : (w.txns t).mark ≡ Going

no_answer : {A : Type 0} (reply other : Reply) → reply ≡ other → is_answer other ≡ false → is_answer reply ≡ true → A
no_answer reply other is none answers = absurd (let never : false ≡ true = sym none ∙ ap is_answer (sym is) ∙ answers in cc never)

granted_by : (v : View) (t : ℕ) (a : Access) (ls : List Lock) → (v.txns t).mark ≡ Going → IsGranted v (did v t a ls) t
granted_by v t a ls going = record {
  going = going;
  still = refl;
  works = refl;
  queue = refl;
  nets = nets_else v.txns t (did_txn (v.txns t) a v.walk ls) v.queue;
  on = ap (λ (b : Bool). (cond b (did_txn (v.txns t) a v.walk ls) (v.txns t)).mark) (same_number t);
}

goes_granted : (v w : View) (t : ℕ) (a : Access) (reply : Reply) → is_answer reply ≡ true → Goes v (Do t a) reply w → IsGranted v w t
goes_granted v w t a reply is (begins same le told next) = absurd (cc same)
goes_granted v w t a reply is (does u b ls same going free locks told next) =
    let own : u ≡ t = cc same in
    subst (λ (x : View). IsGranted v x t) (sym next) (subst (λ (n : ℕ). IsGranted v (did v u b ls) n) own (granted_by v u b ls going))
goes_granted v w t a reply is (waits u b holder same going waits_for told next) = no_answer reply _ told refl is
goes_granted v w t a reply is (dies u b same going must told next) = no_answer reply _ told refl is
goes_granted v w t a reply is (commits u same going alone told next) = absurd (cc same)
goes_granted v w t a reply is (queues u c cs same going some told next) = absurd (cc same)
goes_granted v w t a reply is (drops u same may none told next) = absurd (cc same)
goes_granted v w t a reply is (turns u c cs same may some told next) = absurd (cc same)
goes_granted v w t a reply is (undoes u c d cs same rolling some told next) = absurd (cc same)
goes_granted v w t a reply is (ends u c same rolling one told next) = absurd (cc same)
goes_granted v w t a reply is (puts_later u k r ls b at none absent unheld same d e) = no_answer reply _ d refl is
goes_granted v w t a reply is (puts u k r b at under d e) = absurd (cc b)
goes_granted v w t a reply is (drops_first u k r ls b at none there unheld same d e) = no_answer reply _ d refl is
goes_granted v w t a reply is (drops_leaf u k b at under d e) = absurd (cc b)
goes_granted v w t a reply is (takes_later u c cs b at none net_is d e) = absurd (cc b)
goes_granted v w t a reply is (takes_first u c cs b at none net_is d e) = absurd (cc b)
goes_granted v w t a reply is (takes_leaf u c cs b at under net_is d e) = absurd (cc b)
goes_granted v w t a reply is (takes_last u b at under empty d e) = absurd (cc b)
goes_granted v w t a reply is (stays_back u n b may few d e) = absurd (cc b)
goes_granted v w t a reply is (turns_back u n b may more d e) = absurd (cc b)
goes_granted v w t a reply is (gives_back u n c cs b at net_is more d e) = absurd (cc b)
goes_granted v w t a reply is (is_back u n c cs b at net_is same d e) = absurd (cc b)
goes_granted v w t a reply is (leaf_is_back u n b at under same d e) = absurd (cc b)
goes_granted v w t a reply is (logs_page u x b under owner d e) = absurd (cc b)
goes_granted v w t a reply is (tree_blocks u c x b under other d e) = no_answer reply _ d refl is
goes_granted v w t a reply is (tree_halts u x b under other d e) = absurd (cc b)
goes_granted v w t a reply is (flushes p same told next) = absurd (cc same)
goes_granted v w t a reply is (forces same told next) = absurd (cc same)
goes_granted v w t a reply is (checkpoints same told next) = absurd (cc same)
goes_granted v w t a reply is (switches same told next) = absurd (cc same)
goes_granted v w t a reply is (lacks fault wants told next) = no_answer reply _ told refl is
goes_granted v w t a reply is (breaks fault ls broke told next) = no_answer reply _ told refl is

moves_granted : (v w : View) (t : ℕ) (a : Access) (reply : Reply) → is_answer reply ≡ true → (o : Option ℕ) → Answers v (Do t a) reply w o → IsGranted v w t
moves_granted v w t a reply is None go = goes_granted v w t a reply is go
moves_granted v w t a reply is (Some n) go = no_answer reply (Refused n) go.0 refl is

-- what is answered no check bars
passes : (v w : View) (step : Step) (reply : Reply) → is_answer reply ≡ true → (o : Option ℕ) → Answers v step reply w o → o ≡ None
passes v w step reply is None go = refl
passes v w step reply is (Some n) go = no_answer reply (Refused n) go.0 refl is

here_of : (t : ℕ) (a : Access) (reply : Reply) → is_answer reply ≡ true → (p : Option Access) (gs : List (Access × Reply)) → access_of t p (Do t a) reply ++ kept_after t (Do t a) reply gs ≡ (a, reply) ∷ gs
here_of t a reply is p gs = ap (λ (b : Bool). cond (b && t == t) ((a, reply) ∷ []) [] ++ gs) is ∙ ap (λ (b : Bool). cond b ((a, reply) ∷ []) [] ++ gs) (same_number t)

-- the last reply of a replay
last_reply : (m : IndexMap) (fs : List (Access × Reply)) (a : Access) (reply : Reply) → replay m (map (λ f. f.0) (fs ++ (a, reply) ∷ [])) ≡ map (λ f. f.1) (fs ++ (a, reply) ∷ []) → reply ≡ answer a (map_after_all m (map (λ f. f.0) fs))
last_reply m [] a reply h = let is : answer a m ≡ reply = cc h in sym is
last_reply m (f ∷ fs) a reply h =
    let later : replay (map_after f.0 m) (map (λ (g : Access × Reply). g.0) (fs ++ (a, reply) ∷ [])) ≡ map (λ (g : Access × Reply). g.1) (fs ++ (a, reply) ∷ []) = cc h in
    last_reply (map_after f.0 m) fs a reply later

all_acked : (l : List Asked) → AllAcked l → acked_effects l ≡ effects l
all_acked [] is = refl
all_acked (x ∷ more) is = ap (λ (b : Bool). if b then x.effect ∷ acked_effects more else acked_effects more) is.0 ∙ ap (λ (l : List Effect). x.effect ∷ l) (all_acked more is.1)

-- a force may be made, whoever waits
force_moves : (x : View) → x.failed ≡ false → Moves x Force Done (forced_by x)
force_moves x works = moves_by x (forced_by x) Force Done (ap (λ (b : Bool). fault_if b has_failed) works) (forces refl refl refl)

nothing_more : (t : ℕ) (xs : List (Step × Reply)) → finished t (xs ++ (Force, Done) ∷ []) ≡ finished t xs
nothing_more t xs = finished_none t xs (Force, Done) (λ p gs. refl)

-- where nothing waits all that was asked was acknowledged
all_of : (l : List Asked) → IsCleanBut [] l → AllAcked l
all_of l c =
    let none : c.waiting ≡ [] = no_effects c.waiting c.are in
    let all : c.done ≡ l = sym (append-nil c.done) ∙ ap (λ (more : List Asked). c.done ++ more) (sym none) ∙ c.all in
    subst AllAcked all c.acked

-- ---- an access that a later step ends

-- what goes on after a trace
abbrev pend_all : (ℕ → Option Access) → List (Step × Reply) → ℕ → Option Access
pend_all pend [] = pend
pend_all pend (e ∷ es) = pend_all (λ s. pending_after s (pend s) e.0 e.1) es

run_pending : (v : View) (told : ℕ → List (Access × Reply)) (trace : List (Step × Reply)) (w : View) → Upheld v told → Run v trace w → (s : ℕ) → pending_of w.under s ≡ pend_all (pending_of v.under) trace s
run_pending v told [] w h e s = ap (λ (u : View). pending_of u.under s) e
run_pending v told (x ∷ xs) w h r s =
    let on = Moves-upheld v told x.0 x.1 r.0 h r.1 in
    run_pending r.0 (tell (pending_of v.under) told x.0 x.1) xs w on.upheld r.2 s ∙ ap (λ (p : ℕ → Option Access). pend_all p xs s) (λ i u. on.pending u i)

tells_push : (pend : ℕ → Option Access) (told : ℕ → List (Access × Reply)) (xs : List (Step × Reply)) (e : Step × Reply) → tells pend told (xs ++ e ∷ []) ≡ tell (pend_all pend xs) (tells pend told xs) e.0 e.1
tells_push pend told [] e = refl
tells_push pend told (x ∷ xs) e = tells_push (λ s. pending_after s (pend s) x.0 x.1) (tell pend told x.0 x.1) xs e

-- what its end is: its transaction is going, and has no effect but what it had and what this access changes
record IsEnded (v w : View) (t : ℕ) (a : Access) (reply : Reply) : Type 0 where
  going : (v.txns t).mark ≡ Going
  on : (w.txns t).mark ≡ Going
  still : w.committed ≡ v.committed
  works : w.failed ≡ v.failed
  queue : w.queue ≡ v.queue
  nets : is_among t v.queue ≡ false → nets_of w.txns v.queue ≡ nets_of v.txns v.queue
  clear : w.under ≡ None
  effect : (rest : Effect) (m : IndexMap) → (w.txns t).net ≡ changes a m ++ rest → answer a m ≡ reply → (e : Effect) → drop_by a ++ e ≡ seen_effect ((v.txns t).net) → e ≡ seen_effect rest

put_ends : (v : View) (t : ℕ) (k : Key) (r : ℕ) → (v.txns t).mark ≡ Going → get v.walk k ≡ None → IsEnded v (change_made (did v t (Insert k r) ((v.txns t).locks))) t (Insert k r) Inserted
put_ends v t k r going absent = record {
  going = going;
  on = ap (λ (b : Bool). (cond b x (v.txns t)).mark) (same_number t);
  still = refl;
  works = refl;
  queue = refl;
  nets = nets_else v.txns t x v.queue;
  clear = refl;
  effect = λ rest m net says e shown. shown ∙ ap seen_effect (by rest (get m k) (sym net_is ∙ net) says);
}
  where
    x : Txn
    x = did_txn (v.txns t) (Insert k r) v.walk ((v.txns t).locks)

    net_is : (cond (t == t) x (v.txns t)).net ≡ Put k r ∷ (v.txns t).net
    net_is = ap (λ (b : Bool). (cond b x (v.txns t)).net) (same_number t) ∙ ap (λ (o : Option ℕ). cond (is_some o) [] (Put k r ∷ []) ++ (v.txns t).net) absent

    by : (rest : Effect) (o : Option ℕ) → Put k r ∷ (v.txns t).net ≡ cond (is_some o) [] (Put k r ∷ []) ++ rest → cond (is_some o) Duplicate Inserted ≡ Inserted → (v.txns t).net ≡ rest
    by rest None net says = cc net
    by rest (Some i) net says = absurd (cc says)

drop_ends : (v : View) (t : ℕ) (k : Key) → (v.txns t).mark ≡ Going → IsEnded v (change_made v) t (Delete k) Deleted
drop_ends v t k going = record {
  going = going;
  on = going;
  still = refl;
  works = refl;
  queue = refl;
  nets = λ apart. refl;
  clear = refl;
  effect = λ rest m net says e shown. by rest (get m k) net says e shown;
}
  where
    by : (rest : Effect) (o : Option ℕ) → (v.txns t).net ≡ dropped k o ++ rest → cond (is_some o) Deleted Absent ≡ Deleted → (e : Effect) → Drop k 0 ∷ e ≡ seen_effect ((v.txns t).net) → e ≡ seen_effect rest
    by rest None net says e shown = absurd (cc says)
    by rest (Some i) net says e shown = let both : Drop k 0 ∷ e ≡ Drop k 0 ∷ seen_effect rest = shown ∙ ap seen_effect net in cc both

-- of this one it is, where another number would be meant too
module _ (v w : View) (t : ℕ) (a : Access) (reply : Reply) (is : is_answer reply ≡ true) (pending : pending_of v.under t ≡ Some a) where
  access_is : (aim : Aim) → v.under ≡ Some (record { owner = t; aim = aim }) → pending_for aim ≡ Some a
  access_is aim under = sym (ap (λ (b : Bool). cond b (pending_for aim) None) (same_number t)) ∙ sym (ap (λ (u : Option Under). pending_of u t) under) ∙ pending

  ended_put : (k : Key) (r : ℕ) → (v.txns t).mark ≡ Going → get v.walk k ≡ None → v.under ≡ Some (record { owner = t; aim = Puts k r }) → reply ≡ Inserted → w ≡ change_made (did v t (Insert k r) ((v.txns t).locks)) → IsEnded v w t a reply
  ended_put k r going absent under told next =
      let some : Some (Insert k r) ≡ Some a = access_is (Puts k r) under in
      let same : Insert k r ≡ a = cc some in
      subst (λ (x : View). IsEnded v x t a reply) (sym next) (subst (λ (y : Reply). IsEnded v (change_made (did v t (Insert k r) ((v.txns t).locks))) t a y) (sym told)
      (subst (λ (c : Access). IsEnded v (change_made (did v t (Insert k r) ((v.txns t).locks))) t c Inserted) same (put_ends v t k r going absent)))

  ended_drop : (k : Key) → (v.txns t).mark ≡ Going → v.under ≡ Some (record { owner = t; aim = Drops k }) → reply ≡ Deleted → w ≡ change_made v → IsEnded v w t a reply
  ended_drop k going under told next =
      let some : Some (Delete k) ≡ Some a = access_is (Drops k) under in
      let same : Delete k ≡ a = cc some in
      subst (λ (x : View). IsEnded v x t a reply) (sym next) (subst (λ (y : Reply). IsEnded v (change_made v) t a y) (sym told) (subst (λ (c : Access). IsEnded v (change_made v) t c Deleted) same (drop_ends v t k going)))

  module _ (absent : (k : Key) (r : ℕ) → v.under ≡ Some (record { owner = t; aim = Puts k r }) → get v.walk k ≡ None) where
    ended_by : Goes v (Continue t) reply w → IsEnded v w t a reply
    ended_by (begins same le told next) = absurd (cc same)
    ended_by (does u b ls same going free locks told next) = absurd (cc same)
    ended_by (waits u b holder same going waits_for told next) = absurd (cc same)
    ended_by (dies u b same going must told next) = absurd (cc same)
    ended_by (commits u same going alone told next) = absurd (cc same)
    ended_by (queues u c cs same going some told next) = absurd (cc same)
    ended_by (drops u same may none told next) = absurd (cc same)
    ended_by (turns u c cs same may some told next) = absurd (cc same)
    ended_by (undoes u c d cs same rolling some told next) = no_answer reply More told refl is
    ended_by (ends u c same rolling one told next) = no_answer reply RolledBack told refl is
    ended_by (puts_later u k r ls b at none gone unheld same d e) = absurd (cc b)
    ended_by (puts u k r b at under d e) =
        let own : u ≡ t = cc b in
        let mine : v.under ≡ Some (record { owner = t; aim = Puts k r }) = under ∙ ap (λ (n : ℕ). Some (record { owner = n; aim = Puts k r })) own in
        ended_put k r (ap (λ (n : ℕ). (v.txns n).mark) (sym own) ∙ at) (absent k r mine) mine d (e ∙ ap (λ (n : ℕ). change_made (did v n (Insert k r) ((v.txns n).locks))) own)
    ended_by (drops_first u k r ls b at none there unheld same d e) = absurd (cc b)
    ended_by (drops_leaf u k b at under d e) =
        let own : u ≡ t = cc b in
        ended_drop k (ap (λ (n : ℕ). (v.txns n).mark) (sym own) ∙ at) (under ∙ ap (λ (n : ℕ). Some (record { owner = n; aim = Drops k })) own) d e
    ended_by (takes_later u c cs b at none net_is d e) = no_answer reply More d refl is
    ended_by (takes_first u c cs b at none net_is d e) = no_answer reply More d refl is
    ended_by (takes_leaf u c cs b at under net_is d e) = no_answer reply More d refl is
    ended_by (takes_last u b at under empty d e) = no_answer reply RolledBack d refl is
    ended_by (stays_back u n b may few d e) = absurd (cc b)
    ended_by (turns_back u n b may more d e) = absurd (cc b)
    ended_by (gives_back u n c cs b at net_is more d e) = no_answer reply More d refl is
    ended_by (is_back u n c cs b at net_is same d e) = no_answer reply Done d refl is
    ended_by (leaf_is_back u n b at under same d e) = no_answer reply Done d refl is
    ended_by (logs_page u x b under owner d e) = no_answer reply More d refl is
    ended_by (tree_blocks u c x b under other d e) = absurd (cc b)
    ended_by (tree_halts u x b under other d e) = no_answer reply BlockedTree d refl is
    ended_by (flushes p same told next) = absurd (cc same)
    ended_by (forces same told next) = absurd (cc same)
    ended_by (checkpoints same told next) = absurd (cc same)
    ended_by (switches same told next) = absurd (cc same)
    ended_by (lacks fault wants told next) = no_answer reply (Refused fault) told refl is
    ended_by (breaks fault ls broke told next) = no_answer reply (Refused fault) told refl is

module _ (before : List Effect) (s : Shown) (v w : View) (lived : IsLived (apply_all empty before) s v) (works : v.failed ≡ false) where
  -- on the map after a force, with its own net
  on_net : (t : ℕ) (a : Access) (reply : Reply) → Moves v (Do t a) reply w → is_answer reply ≡ true → IsGranted v w t → reply ≡ answer a (apply (forced_by v).committed ((v.txns t).net))
  on_net t a reply moves is granted =
      let base = apply_all empty before in
      let r = lived.reached in
      let queue = queue_marks base v r in
      let apart : is_among t v.queue ≡ false = elim (cases_test (is_among t v.queue)) [
        | inl some ↦ (let never : Going ≡ Committing = sym granted.going ∙ queue.waits t some in absurd (cc never))
        | inr none ↦ none
      ] in
      let apart_on : is_among t w.queue ≡ false = ap (is_among t) granted.queue ∙ apart in
      let longer = r.trace ++ (Do t a, reply) ∷ [] in
      let run = Run-push (start base r.first) v w r.trace (Do t a) reply r.run moves in
      let forced_run = Run-push (start base r.first) w (forced_by w) longer Force Done run (force_moves w (granted.works ∙ works)) in
      let on : ((forced_by w).txns t).mark ≡ Going = ap (λ (x : Txn). x.mark) (idle_others w.txns w.queue t apart_on) ∙ granted.on in
      let replayed = going_replay base r.first (longer ++ (Force, Done) ∷ []) (forced_by w) forced_run t (inl on) in
      let pushed = nothing_more t longer ∙ finished_one t r.trace (Do t a, reply) (a, reply) (here_of t a reply is) in
      let same : (forced_by w).committed ≡ (forced_by v).committed =
      ap (λ (q : List ℕ). apply_all w.committed (nets_of w.txns q)) granted.queue ∙ ap (apply_all w.committed) (granted.nets apart) ∙ ap (λ (m : IndexMap). apply_all m (nets_of v.txns v.queue)) granted.still in
      let here = subst (λ (m : IndexMap). IsReplay m (finished t r.trace ++ (a, reply) ∷ [])) same (subst (λ (l : List (Access × Reply)). IsReplay (forced_by w).committed l) pushed replayed) in
      let was = Run-push (start base r.first) v (forced_by v) r.trace Force Done r.run (force_moves v works) in
      let idle_is : (forced_by v).txns t ≡ v.txns t = idle_others v.txns v.queue t apart in
      let story = after_story base r.first (r.trace ++ (Force, Done) ∷ []) (forced_by v) was t (clear_do v t a (passes v w (Do t a) reply is (barred v (Do t a)) moves)) (inl (ap (λ (x : Txn). x.mark) idle_is ∙ granted.going)) in
      let story_is : apply (forced_by v).committed ((v.txns t).net) ≡ map_after_all (forced_by v).committed (map (λ f. f.0) (finished t r.trace)) =
      ap (λ (x : Txn). apply (forced_by v).committed x.net) (sym idle_is) ∙ story ∙ ap (λ (l : List (Access × Reply)). map_after_all (forced_by v).committed (map (λ f. f.0) l)) (nothing_more t r.trace) in
      last_reply (forced_by v).committed (finished t r.trace) a reply here ∙ ap (answer a) (sym story_is)

  -- after a force all that was asked is committed
  committed_is : (forced_by v).committed ≡ apply_all empty (before ++ effects s.asked)
  committed_is =
      let base = apply_all empty before in
      let on = step_shows base s v lived.shows lived.reached Force Done (forced_by v) (force_moves v works) in
      let asked = (shows s Force (Some Done)).asked in
      on.commits ∙ ap (apply_all base) (all_acked asked (all_of asked (on.clean works)) ∙ effects_acked s.asked) ∙ sym (apply_all_append empty before (effects s.asked))

  -- an Insert or a Delete that goes on, and ends here
  on_end : (t : ℕ) (a : Access) (reply : Reply) → Moves v (Continue t) reply w → is_answer reply ≡ true → (s.running t).pending ≡ Some a → reply ≡ answer a (apply_all empty ((before ++ effects s.asked) ++ (s.running t).effect ∷ []))
  on_end t a reply moves is shown =
      let base = apply_all empty before in
      let r = lived.reached in
      let pending : pending_of v.under t ≡ Some a = sym (lived.shows.shown.pending t) ∙ shown in
      let up = run_upheld base r.first r.trace v r.run in
      let goes : Goes v (Continue t) reply w = subst (λ (o : Option ℕ). Answers v (Continue t) reply w o) (passes v w (Continue t) reply is (barred v (Continue t)) moves) moves in
      let ended = ended_by v w t a reply is pending (λ k i under. (subst (λ (u : Option Under). IsUnder u (relocked v up.locks).txns v.walk) under up.stands.change).1.absent) goes in
      let queue = queue_marks base v r in
      let apart : is_among t v.queue ≡ false = elim (cases_test (is_among t v.queue)) [
        | inl some ↦ (let never : Going ≡ Committing = sym ended.going ∙ queue.waits t some in absurd (cc never))
        | inr none ↦ none
      ] in
      let longer = r.trace ++ (Continue t, reply) ∷ [] in
      let all = longer ++ (Force, Done) ∷ [] in
      let run = Run-push (start base r.first) v w r.trace (Continue t) reply r.run moves in
      let forced_run = Run-push (start base r.first) w (forced_by w) longer Force Done run (force_moves w (ended.works ∙ works)) in
      let upf = run_upheld base r.first all (forced_by w) forced_run in
      let idle_is : (forced_by w).txns t ≡ w.txns t = idle_others w.txns w.queue t (ap (is_among t) ended.queue ∙ apart) in
      let told_v = tells (pending_of None) nothing_told r.trace in
      let told_f = tells (pending_of None) nothing_told all in
      let goes_on : pend_all (pending_of None) r.trace t ≡ Some a = sym (run_pending (start base r.first) nothing_told r.trace v (run_upheld base r.first [] (start base r.first) refl) r.run t) ∙ pending in
      let told_is : ahead w.under told_f t ≡ (a, reply) ∷ told_v t =
      ap (λ (u : Option Under). ahead u told_f t) ended.clear ∙ ap (λ (f : ℕ → List (Access × Reply)). f t) (tells_push (pending_of None) nothing_told longer (Force, Done))
      ∙ ap (λ (f : ℕ → List (Access × Reply)). f t) (tells_push (pending_of None) nothing_told r.trace (Continue t, reply))
      ∙ ap (λ (p : Option Access). access_of t p (Continue t) reply ++ told_v t) goes_on
      ∙ ap (λ (b : Bool). cond b ((a, reply) ∷ []) [] ++ told_v t) (ap (λ (b : Bool). b && t == t) is ∙ same_number t) in
      let told = subst (λ (fs : List (Access × Reply)). Told (upf.locks t) (forced_by w).walk (forced_by w).committed fs ((forced_by w).txns t).net) told_is
      (going_told (relocked (forced_by w) upf.locks) told_f upf.stands t (inl (ap (λ (x : Txn). x.mark) idle_is ∙ ended.on))) in
      let rest = told.0 in
      let map : IndexMap = (forced_by w).committed in
      let effect_is : (s.running t).effect ≡ seen_effect rest = ended.effect rest (apply map rest) (sym (ap (λ (x : Txn). x.net) idle_is) ∙ told.1) told.2 ((s.running t).effect)
      (ap (λ (o : Option Access). drop_of o ++ (s.running t).effect) (sym pending) ∙ lived.shows.shown.effects t (inl ended.going)) in
      let same : (forced_by w).committed ≡ (forced_by v).committed =
      ap (λ (q : List ℕ). apply_all w.committed (nets_of w.txns q)) ended.queue ∙ ap (apply_all w.committed) (ended.nets apart) ∙ ap (λ (m : IndexMap). apply_all m (nets_of v.txns v.queue)) ended.still in
      sym told.2 ∙ ap (answer a) (sym (apply_seen map rest) ∙ ap (apply map) (sym effect_is) ∙ ap (λ (m : IndexMap). apply m ((s.running t).effect)) (same ∙ committed_is) ∙ sym (apply_all_append empty (before ++ effects s.asked) ((s.running t).effect ∷ [])))

  -- in the words of what was shown
  own_map : (t : ℕ) → pending_of v.under t ≡ None → (v.txns t).mark ≡ Going → apply (forced_by v).committed ((v.txns t).net) ≡ apply_all empty ((before ++ effects s.asked) ++ (s.running t).effect ∷ [])
  own_map t clear going =
      let net_is : apply (forced_by v).committed ((v.txns t).net) ≡ apply (forced_by v).committed ((s.running t).effect) =
      sym (apply_seen (forced_by v).committed ((v.txns t).net)) ∙ ap (apply (forced_by v).committed) (sym (effect_shown s v lived.shows.shown t clear (inl going))) in
      net_is ∙ ap (λ (m : IndexMap). apply m ((s.running t).effect)) committed_is ∙ sym (apply_all_append empty (before ++ effects s.asked) ((s.running t).effect ∷ []))

  pub answers_alone : (step : Step) (reply : Reply) → Moves v step reply w → AnswersAlone before s step reply
  answers_alone (Do t a) reply moves = λ is.
      let granted = moves_granted v w t a reply is (barred v (Do t a)) moves in
      on_net t a reply moves is granted ∙ ap (answer a) (own_map t (clear_do v t a (passes v w (Do t a) reply is (barred v (Do t a)) moves)) granted.going)
  answers_alone Begin reply moves = tt
  answers_alone (Commit t) reply moves = tt
  answers_alone (Rollback t) reply moves = tt
  answers_alone (Continue t) reply moves = λ a shown is. on_end t a reply moves is shown
  answers_alone (RollTo t n) reply moves = tt
  answers_alone (FlushPage p) reply moves = tt
  answers_alone Force reply moves = tt
  answers_alone Checkpoint reply moves = tt
  answers_alone Switch reply moves = tt
