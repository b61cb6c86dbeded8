-- What a run commits is what its replies show as acknowledged.
use Rattle.std.proofs.Common.{◌≡◌, inl, inr, ◌⊎◌, ℕ, List, [], ◌∷◌, ◌++◌, refl, sym, ◌∙◌, ap, subst, true, false, Bool, Option, None, Some, is_some, append-nil, append_assoc}
use Rattle.std.specs.Prelude.{if◌then◌else◌, ◌==◌, ◌||◌}
use Rattle.im_base_types.specs.Maps.{IndexMap, first}
use Rattle.im_base_types.specs.Changes.{Change, Effect, apply, apply_all, seen, seen_effect}
use Rattle.im_base_types.proofs.Changes.{apply_seen, apply_all_append, apply_all_seen, seen_append}
use Rattle.im_base_types.specs.Answers.{Insert, Delete, Inserted, Deleted, BlockedTree, Step, Begin, Do, Commit, Rollback, Continue, RollTo, FlushPage, Force, Checkpoint, Switch, Reply, Started, Committed, RolledBack, More, Blocked, Die, Done, Refused, Mark, Idle, Going, MustRollBack, RollingBack, Returning, Committing, answer}
use Rattle.im_base_types.specs.Refusals.{memory, unfinished, failed as has_failed}
use Rattle.im_base_types.specs.Lives.{Asked, Shown, asks, effect_asked, refused, answered, breaks, nothing_shown, shown_by, all_acked, shows, NoneAcked, effects}
use Rattle.im_theory_machine.specs.View.{View, Puts, Drops, TakesBack, TookBack, pending_of, locked, with_change, change_made, begun, did, marked, committed_by, dropped_by, undid_more, undid_last, broken, Txn, idle, set_txn, did_txn, queued, forced_by, is_among, nets_of, MayRollBack}
use Rattle.im_theory_machine.specs.Machine.{barred, barred_to, or_else, fault_if, Answers, Goes, Moves, MayTakeBack, begins, does, waits, dies, commits, queues, drops, turns, undoes, ends, puts_later, puts, drops_first, drops_leaf, takes_later, takes_first, takes_leaf, takes_last, stays_back, turns_back, gives_back, is_back, leaf_is_back, logs_page, tree_blocks, tree_halts, flushes, forces, checkpoints, switches, lacks, breaks as machine_breaks, Run, IsReached, start}
use Rattle.im_theory_machine.proofs.Cited.{cases_test, nets_same, IsQueue, live_at, clear_commit, passes_as, queue_marks, next_idle}
use Rattle.im_theory_steps.proofs.Together.{nets_append, nets_else, net_marked}
use Rattle.im_theory_steps.proofs.Promises.{moves_reach}
use Rattle.im_theory_steps.specs.Acknowledged.{acked_effects, AllAcked, IsCleanBut, Shows, RunsCommitWhatTheyShow}
use Rattle.im_theory_steps.proofs.Showing.{tree_shows, moves_are_shown, shown_is, is_shown_so, effect_shown}
use Rattle.im_theory_steps.proofs.Asking.{asks_none, asks_nothing, waits_ask_nothing, dies_ask_nothing, effects_append, effects_acked, empty_asked, none_asked, commit_wants}

acked_append : (xs ys : List Asked) → acked_effects (xs ++ ys) ≡ acked_effects xs ++ acked_effects ys
acked_append [] ys = refl
acked_append (x ∷ xs) ys = go x.acked (acked_append xs ys)
  where
    go : (b : Bool) → acked_effects (xs ++ ys) ≡ acked_effects xs ++ acked_effects ys → (if b then x.effect ∷ acked_effects (xs ++ ys) else acked_effects (xs ++ ys)) ≡ (if b then x.effect ∷ acked_effects xs else acked_effects xs) ++ acked_effects ys
    go true h = ap (λ (l : List Effect). x.effect ∷ l) h
    go false h = h

all_append : (xs ys : List Asked) → AllAcked xs → AllAcked ys → AllAcked (xs ++ ys)
all_append [] ys a b = b
all_append (x ∷ xs) ys a b = (a.0, all_append xs ys a.1 b)

-- what a Commit asks for that was not answered is not acknowledged
unacked : (t : ℕ) (m : Mark) (e : Effect) → acked_effects (effect_asked t false m e) ≡ []
unacked t Idle e = refl
unacked t Going [] = refl
unacked t Going (c ∷ cs) = refl
unacked t MustRollBack e = refl
unacked t RollingBack e = refl
unacked t (Returning k) e = refl
unacked t Committing e = refl

-- ---- a refusal

refused_acked : (n : ℕ) (step : Step) (s : Shown) → acked_effects (refused n step s).asked ≡ acked_effects s.asked
refused_acked n (Commit t) s = go (s.failed || n == memory || n == unfinished)
  where
    go : (b : Bool) → acked_effects (if b then s else record (asks t false s) { failed = breaks n }).asked ≡ acked_effects s.asked
    go true = refl
    go false = acked_append s.asked (effect_asked t false (s.running t).mark (s.running t).effect)
        ∙ ap (λ (l : List Effect). acked_effects s.asked ++ l) (unacked t (s.running t).mark (s.running t).effect) ∙ append-nil (acked_effects s.asked)
refused_acked n Begin s = refl
refused_acked n (Do t a) s = refl
refused_acked n (Rollback t) s = refl
refused_acked n (Continue t) s = refl
refused_acked n (RollTo t k) s = refl
refused_acked n (FlushPage p) s = refl
refused_acked n Force s = refl
refused_acked n Checkpoint s = refl
refused_acked n Switch s = refl

-- a refusal that asks nothing
refused_clean : (n : ℕ) (step : Step) (s : Shown) (nets : List Effect) → ((t : ℕ) → step ≡ Commit t → (asks_none n ≡ true) ⊎ ((s.running t).mark ≡ Going → ⊥)) → IsCleanBut nets s.asked → IsCleanBut nets (refused n step s).asked
refused_clean n (Commit t) s nets how h = by (how t refl)
  where
    quiet : (b : Bool) → effect_asked t false (s.running t).mark (s.running t).effect ≡ [] → IsCleanBut nets (if b then s else record (asks t false s) { failed = breaks n }).asked
    quiet true none = h
    quiet false none = subst (λ (l : List Asked). IsCleanBut nets (s.asked ++ l)) (sym none) (subst (IsCleanBut nets) (sym (append-nil s.asked)) h)

    skip : (a b c : Bool) → (b || c) ≡ true → IsCleanBut nets (if a || b || c then s else record (asks t false s) { failed = breaks n }).asked
    skip true b c e = h
    skip false true c e = h
    skip false false true e = h
    skip false false false e = absurd cc

    by : (asks_none n ≡ true) ⊎ ((s.running t).mark ≡ Going → ⊥) → IsCleanBut nets (refused n (Commit t) s).asked
    by (inl e) = skip s.failed (n == memory) (n == unfinished) e
    by (inr ne) = quiet (s.failed || n == memory || n == unfinished) (none_asked t false (s.running t).mark (s.running t).effect ne)
refused_clean n Begin s nets how h = h
refused_clean n (Do t a) s nets how h = h
refused_clean n (Rollback t) s nets how h = h
refused_clean n (Continue t) s nets how h = h
refused_clean n (RollTo t k) s nets how h = h
refused_clean n (FlushPage p) s nets how h = h
refused_clean n Force s nets how h = h
refused_clean n Checkpoint s nets how h = h
refused_clean n Switch s nets how h = h

-- what is acknowledged all of it
acked_all : (xs : List Asked) → AllAcked xs → acked_effects xs ≡ effects xs
acked_all [] h = refl
acked_all (x ∷ xs) h = ap (λ (b : Bool). if b then x.effect ∷ acked_effects xs else acked_effects xs) h.0 ∙ ap (λ (l : List Effect). x.effect ∷ l) (acked_all xs h.1)

acked_none : (xs : List Asked) → NoneAcked xs → acked_effects xs ≡ []
acked_none [] h = refl
acked_none (x ∷ xs) h = ap (λ (b : Bool). if b then x.effect ∷ acked_effects xs else acked_effects xs) h.0 ∙ acked_none xs h.1

forced_all : (xs : List Asked) → AllAcked (all_acked xs)
forced_all [] = tt
forced_all (x ∷ xs) = (refl, forced_all xs)

none_append : (xs ys : List Asked) → NoneAcked xs → NoneAcked ys → NoneAcked (xs ++ ys)
none_append [] ys a b = b
none_append (x ∷ xs) ys a b = (a.0, none_append xs ys a.1 b)

pub unacked_none : (t : ℕ) (m : Mark) (e : Effect) → NoneAcked (effect_asked t false m e)
unacked_none t Idle e = tt
unacked_none t Going [] = tt
unacked_none t Going (c ∷ cs) = (refl, tt)
unacked_none t MustRollBack e = tt
unacked_none t RollingBack e = tt
unacked_none t (Returning k) e = tt
unacked_none t Committing e = tt

-- what waits, once a force has finished it
forced_is : (base : IndexMap) (nets : List Effect) (asked : List Asked) → IsCleanBut nets asked → apply_all (apply_all base (acked_effects asked)) nets ≡ apply_all base (acked_effects (all_acked asked))
forced_is base nets asked c =
    let here : acked_effects asked ≡ effects c.done =
    ap acked_effects (sym c.all) ∙ acked_append c.done c.waiting ∙ ap (λ (l : List Effect). acked_effects c.done ++ l) (acked_none c.waiting c.none) ∙ append-nil (acked_effects c.done) ∙ acked_all c.done c.acked in
    let there : acked_effects (all_acked asked) ≡ effects c.done ++ seen nets =
    acked_all (all_acked asked) (forced_all asked) ∙ effects_acked asked ∙ ap effects (sym c.all) ∙ effects_append c.done c.waiting ∙ ap (λ (l : List Effect). effects c.done ++ l) c.are in
    ap (λ (l : List Effect). apply_all (apply_all base l) nets) here
    ∙ sym (apply_all_seen (apply_all base (effects c.done)) nets)
    ∙ sym (apply_all_append base (effects c.done) (seen nets))
    ∙ ap (apply_all base) (sym there)

-- ---- a Commit

commit_asks : (t : ℕ) (m : Mark) (e net : Effect) → m ≡ Going → e ≡ seen_effect net → (base : IndexMap) → apply_all base (acked_effects (effect_asked t true m e)) ≡ apply base net
commit_asks t m e net going is base =
    ap (λ (x : Mark). apply_all base (acked_effects (effect_asked t true x e))) going
    ∙ by e ∙ ap (λ (x : Effect). apply base x) is ∙ apply_seen base net
  where
    by : (e : Effect) → apply_all base (acked_effects (effect_asked t true Going e)) ≡ apply base e
    by [] = refl
    by (c ∷ cs) = refl

apply_more : (base : IndexMap) (es fs : List Effect) → apply_all base (es ++ fs) ≡ apply_all (apply_all base es) fs
apply_more base [] fs = refl
apply_more base (e ∷ es) fs = apply_more (apply base e) es fs

commit_clean : (t : ℕ) (m : Mark) (e : Effect) → AllAcked (effect_asked t true m e)
commit_clean t Idle e = tt
commit_clean t Going [] = tt
commit_clean t Going (c ∷ cs) = (refl, tt)
commit_clean t MustRollBack e = tt
commit_clean t RollingBack e = tt
commit_clean t (Returning k) e = tt
commit_clean t Committing e = tt

-- ---- the steps

-- a Commit that a check bars asks nothing: its transaction is not going, or it has an access that goes on
pub going_free : (b o : Bool) (f : ℕ) (m : Mark) → b ≡ false → or_else (fault_if b has_failed) (or_else (barred_to m) (fault_if o unfinished)) ≡ Some f → (asks_none f ≡ true) ⊎ (m ≡ Going → ⊥)
going_free true o f m live e = absurd (cc live)
going_free false true f Going live e = inl (let is : unfinished ≡ f = cc in subst (λ (k : ℕ). asks_none k ≡ true) is refl)
going_free false false f Going live e = absurd (cc e)
going_free false o f Idle live e = inr (λ g. cc g)
going_free false o f MustRollBack live e = inr (λ g. cc g)
going_free false o f RollingBack live e = inr (λ g. cc g)
going_free false o f (Returning k) live e = inr (λ g. cc g)
going_free false o f Committing live e = inr (λ g. cc g)

pub no_effects : (xs : List Asked) → effects xs ≡ [] → xs ≡ []
no_effects [] is = refl
no_effects (x ∷ xs) is = absurd (cc is)

module _ (base : IndexMap) (s : Shown) (v : View) (h : Shows base s v) (next_free : (v.txns v.next).mark ≡ Committing → ⊥) (queue : IsQueue v.queue v.txns) where
  abbrev Is : Step → Reply → View → Type 0
  Is step reply w = (w.committed ≡ apply_all base (acked_effects (answered step reply s).asked)) × (w.failed ≡ false → IsCleanBut (nets_of w.txns w.queue) (answered step reply s).asked)

  put_in : (step x : Step) (reply y : Reply) (w z : View) → step ≡ x → reply ≡ y → w ≡ z → Is x y z → Is step reply w
  put_in step x reply y w z a b c is = subst (λ (w : View). Is step reply w) (sym c) (subst (λ (r : Reply). Is step r z) (sym b) (subst (λ (st : Step). Is st y z) (sym a) is))

  same : (w : View) (asked : List Asked) → asked ≡ s.asked → w.committed ≡ v.committed → w.failed ≡ v.failed → nets_of w.txns w.queue ≡ nets_of v.txns v.queue
      → (w.committed ≡ apply_all base (acked_effects asked)) × (w.failed ≡ false → IsCleanBut (nets_of w.txns w.queue) asked)
  same w asked is map failed nets = (
    map ∙ h.commits ∙ ap (λ (l : List Asked). apply_all base (acked_effects l)) (sym is),
    λ e. subst (λ (n : List Effect). IsCleanBut n asked) (sym nets) (subst (IsCleanBut (nets_of v.txns v.queue)) (sym is) (h.clean (sym failed ∙ e))),
  )

  not_queued : (t : ℕ) → ((v.txns t).mark ≡ Committing → ⊥) → is_among t v.queue ≡ false
  not_queued t free = elim (cases_test (is_among t v.queue)) [ inl some ↦ absurd (free (queue.waits t some)) | inr none ↦ none ]

  -- one is set that does not wait
  else_set : (t : ℕ) (x : Txn) → ((v.txns t).mark ≡ Committing → ⊥) → nets_of (set_txn v.txns t x) v.queue ≡ nets_of v.txns v.queue
  else_set t x free = nets_else v.txns t x v.queue (not_queued t free)

  no_wait : (t : ℕ) (m : Mark) → (v.txns t).mark ≡ m → (m ≡ Committing → ⊥) → (v.txns t).mark ≡ Committing → ⊥
  no_wait t m is free held = free (sym is ∙ held)

  may_no_wait : (t : ℕ) → MayRollBack ((v.txns t).mark) → (v.txns t).mark ≡ Committing → ⊥
  may_no_wait t (inl e) held = let never : Going ≡ Committing = sym e ∙ held in cc never
  may_no_wait t (inr e) held = let never : MustRollBack ≡ Committing = sym e ∙ held in cc never

  taking_no_wait : (t : ℕ) (cs : List Change) → MayTakeBack ((v.txns t).mark) cs → (v.txns t).mark ≡ Committing → ⊥
  taking_no_wait t cs (inl rolling) held = let never : RollingBack ≡ Committing = sym rolling ∙ held in cc never
  taking_no_wait t cs (inr r) held = let never : Returning r.0 ≡ Committing = sym r.1 ∙ held in cc never

  mark_same : (t : ℕ) (m : Mark) (q : List ℕ) → nets_of (set_txn v.txns t (record (v.txns t) { mark = m })) q ≡ nets_of v.txns q
  mark_same t m q = nets_same v.txns (set_txn v.txns t (record (v.txns t) { mark = m })) q (λ u. net_marked v.txns t m u)

  -- a Commit at once: nobody waits, or it asks nothing
  commits_clean : (t : ℕ) → pending_of v.under t ≡ None → (v.txns t).mark ≡ Going → (v.queue ≡ []) ⊎ ((v.txns t).net ≡ []) → IsCleanBut (nets_of v.txns v.queue) s.asked → IsCleanBut (nets_of v.txns v.queue) (s.asked ++ effect_asked t true (s.running t).mark (s.running t).effect)
  commits_clean t clear is (inl alone) c =
      let none : c.waiting ≡ [] = no_effects c.waiting (c.are ∙ ap seen (ap (nets_of v.txns) alone)) in
      let all : c.done ≡ s.asked = sym (append-nil c.done) ∙ ap (λ (l : List Asked). c.done ++ l) (sym none) ∙ c.all in
      record {
        done = s.asked ++ effect_asked t true (s.running t).mark (s.running t).effect;
        waiting = [];
        all = append-nil (s.asked ++ effect_asked t true (s.running t).mark (s.running t).effect);
        acked = all_append s.asked (effect_asked t true (s.running t).mark (s.running t).effect) (subst AllAcked all c.acked) (commit_clean t (s.running t).mark (s.running t).effect);
        none = tt;
        are = sym (ap seen (ap (nets_of v.txns) alone));
      }
  commits_clean t clear is (inr empty) c =
      let none = empty_asked t true (s.running t).mark (s.running t).effect (effect_shown s v h.shown t clear (inl is) ∙ ap seen_effect empty) in
      subst (λ (l : List Asked). IsCleanBut (nets_of v.txns v.queue) (s.asked ++ l)) (sym none) (subst (IsCleanBut (nets_of v.txns v.queue)) (sym (append-nil s.asked)) c)

  -- a Commit that waits: its effect comes last
  waits_clean : (t : ℕ) (c : Change) (cs : List Change) → pending_of v.under t ≡ None → (v.txns t).mark ≡ Going → (v.txns t).net ≡ c ∷ cs → IsCleanBut (nets_of v.txns v.queue) s.asked
      → IsCleanBut (nets_of (queued v t).txns (v.queue ++ t ∷ [])) (s.asked ++ effect_asked t false (s.running t).mark (s.running t).effect)
  waits_clean t c cs clear is net_is k =
      let more = effect_asked t false (s.running t).mark (s.running t).effect in
      let nets : nets_of (queued v t).txns (v.queue ++ t ∷ []) ≡ nets_of v.txns v.queue ++ (v.txns t).net ∷ [] = mark_same t Committing (v.queue ++ t ∷ []) ∙ nets_append v.txns v.queue (t ∷ []) in
      let mark : (s.running t).mark ≡ Going = shown_is ((s.running t).mark) ((v.txns t).mark) Going (h.shown.marks t) is (λ e. cc e) in
      let effect : (s.running t).effect ≡ seen_effect (c ∷ cs) = effect_shown s v h.shown t clear (inl is) ∙ ap seen_effect net_is in
      let asks_it : effects more ≡ seen_effect ((v.txns t).net) ∷ [] =
      ap (λ (m : Mark). effects (effect_asked t false m (s.running t).effect)) mark ∙ ap (λ (e : Effect). effects (effect_asked t false Going e)) effect ∙ ap (λ (e : Effect). seen_effect e ∷ []) (sym net_is) in
      record {
        done = k.done;
        waiting = k.waiting ++ more;
        all = sym (append_assoc k.done k.waiting more) ∙ ap (λ (l : List Asked). l ++ more) k.all;
        acked = k.acked;
        none = none_append k.waiting more k.none (unacked_none t (s.running t).mark (s.running t).effect);
        are = effects_append k.waiting more ∙ ap (λ (l : List Effect). l ++ effects more) k.are ∙ ap (λ (l : List Effect). seen (nets_of v.txns v.queue) ++ l) asks_it
            ∙ sym (seen_append (nets_of v.txns v.queue) ((v.txns t).net ∷ [])) ∙ ap seen (sym nets);
      }

  by_goes : (step : Step) (reply : Reply) (w : View) → v.failed ≡ false → barred v step ≡ None → Goes v step reply w → Is step reply w
  by_goes step reply w live free (begins a l b e) = put_in step Begin reply (Started v.next) w (begun v) a b e (same (begun v) s.asked refl refl refl (nets_else v.txns v.next (record idle { mark = Going }) v.queue (not_queued v.next next_free)))
  by_goes step reply w live free (does t a ls b is unheld sm d e) = put_in step (Do t a) reply (answer a v.walk) w (did v t a ls) b d e (same (did v t a ls) _ (asks_nothing s t a v) refl refl (else_set t (did_txn (v.txns t) a v.walk ls) (no_wait t Going is (λ e. cc e))))
  by_goes step reply w live free (waits t a holder b is wait d e) = put_in step (Do t a) reply (Blocked holder) w v b d e (same v _ (waits_ask_nothing s t holder a) refl refl refl)
  by_goes step reply w live free (dies t a b is must d e) = put_in step (Do t a) reply Die w (marked v t MustRollBack) b d e (same (marked v t MustRollBack) _ (dies_ask_nothing s t a) refl refl (mark_same t MustRollBack v.queue))
  by_goes step reply w live free (commits t a is alone d e) = put_in step (Commit t) reply Committed w (committed_by v t) a d e (
    ap (λ (m : IndexMap). apply m ((v.txns t).net)) h.commits
        ∙ sym (commit_asks t (s.running t).mark (s.running t).effect ((v.txns t).net) (shown_is ((s.running t).mark) ((v.txns t).mark) Going (h.shown.marks t) is (λ e. cc e)) (effect_shown s v h.shown t (clear_commit v t (passes_as v step (Commit t) a free)) (inl is)) (apply_all base (acked_effects s.asked)))
        ∙ sym (apply_more base (acked_effects s.asked) (acked_effects (effect_asked t true (s.running t).mark (s.running t).effect)))
        ∙ ap (apply_all base) (sym (acked_append s.asked (effect_asked t true (s.running t).mark (s.running t).effect))),
    λ q. subst (λ (n : List Effect). IsCleanBut n (s.asked ++ effect_asked t true (s.running t).mark (s.running t).effect)) (sym (else_set t idle (no_wait t Going is (λ e. cc e)))) (commits_clean t (clear_commit v t (passes_as v step (Commit t) a free)) is alone (h.clean q)),
  )
  by_goes step reply w live free (queues t c cs a is net_is d e) = put_in step (Commit t) reply More w (queued v t) a d e (
    h.commits ∙ ap (apply_all base) (sym (acked_append s.asked (effect_asked t false (s.running t).mark (s.running t).effect)
        ∙ ap (λ (l : List Effect). acked_effects s.asked ++ l) (unacked t (s.running t).mark (s.running t).effect) ∙ append-nil (acked_effects s.asked))),
    λ q. waits_clean t c cs (clear_commit v t (passes_as v step (Commit t) a free)) is net_is (h.clean q),
  )
  by_goes step reply w live free (drops t a may empty d e) = put_in step (Rollback t) reply RolledBack w (dropped_by v t) a d e (same (dropped_by v t) s.asked refl refl refl (else_set t idle (may_no_wait t may)))
  by_goes step reply w live free (turns t c cs a may net_is d e) = put_in step (Rollback t) reply More w (marked v t RollingBack) a d e (same (marked v t RollingBack) s.asked refl refl refl (mark_same t RollingBack v.queue))
  by_goes step reply w live free (undoes t c d cs a is net_is q e) = put_in step (Continue t) reply More w (undid_more v t c (d ∷ cs)) a q e (same (undid_more v t c (d ∷ cs)) s.asked refl refl refl (else_set t (record (v.txns t) { net = d ∷ cs }) (no_wait t RollingBack is (λ e. cc e))))
  by_goes step reply w live free (ends t c a is net_is d e) = put_in step (Continue t) reply RolledBack w (undid_last v t c) a d e (same (undid_last v t c) s.asked refl refl refl (else_set t idle (no_wait t RollingBack is (λ e. cc e))))
  by_goes step reply w live free (puts_later t k r ls b is none absent unheld same_ls d e) = put_in step (Do t (Insert k r)) reply More w (with_change (locked v t ls) t (Puts k r)) b d e
      (same (with_change (locked v t ls) t (Puts k r)) s.asked refl refl refl (else_set t (record (v.txns t) { locks = ls }) (no_wait t Going is (λ e. cc e))))
  by_goes step reply w live free (puts t k r b is under d e) = put_in step (Continue t) reply Inserted w (change_made (did v t (Insert k r) ((v.txns t).locks))) b d e
      (same (change_made (did v t (Insert k r) ((v.txns t).locks))) s.asked refl refl refl (else_set t (did_txn (v.txns t) (Insert k r) v.walk ((v.txns t).locks)) (no_wait t Going is (λ e. cc e))))
  by_goes step reply w live free (drops_first t k r ls b is none there unheld same_ls d e) = put_in step (Do t (Delete k)) reply More w (with_change (did v t (Delete k) ls) t (Drops k)) b d e
      (same (with_change (did v t (Delete k) ls) t (Drops k)) s.asked refl refl refl (else_set t (did_txn (v.txns t) (Delete k) v.walk ls) (no_wait t Going is (λ e. cc e))))
  by_goes step reply w live free (drops_leaf t k b is under d e) = put_in step (Continue t) reply Deleted w (change_made v) b d e (same (change_made v) s.asked refl refl refl refl)
  by_goes step reply w live free (takes_later t c cs b is none net_is d e) = put_in step (Continue t) reply More w (with_change v t TakesBack) b d e (same (with_change v t TakesBack) s.asked refl refl refl refl)
  by_goes step reply w live free (takes_first t c cs b is none net_is d e) = put_in step (Continue t) reply More w (with_change (undid_more v t c cs) t TookBack) b d e
      (same (with_change (undid_more v t c cs) t TookBack) s.asked refl refl refl (else_set t (record (v.txns t) { net = cs }) (taking_no_wait t cs is)))
  by_goes step reply w live free (takes_leaf t c cs b is under net_is d e) = put_in step (Continue t) reply More w (change_made v) b d e (same (change_made v) s.asked refl refl refl refl)
  by_goes step reply w live free (takes_last t b is under empty d e) = put_in step (Continue t) reply RolledBack w (change_made (dropped_by v t)) b d e
      (same (change_made (dropped_by v t)) s.asked refl refl refl (else_set t idle (no_wait t RollingBack is (λ e. cc e))))
  by_goes step reply w live free (stays_back t n b may few d e) = put_in step (RollTo t n) reply Done w (marked v t Going) b d e (same (marked v t Going) s.asked refl refl refl (mark_same t Going v.queue))
  by_goes step reply w live free (turns_back t n b may more d e) = put_in step (RollTo t n) reply More w (marked v t (Returning n)) b d e (same (marked v t (Returning n)) s.asked refl refl refl (mark_same t (Returning n) v.queue))
  by_goes step reply w live free (gives_back t n c cs b back net_is more d e) = put_in step (Continue t) reply More w (undid_more v t c cs) b d e
      (same (undid_more v t c cs) s.asked refl refl refl (else_set t (record (v.txns t) { net = cs }) (no_wait t (Returning n) back (λ e. cc e))))
  by_goes step reply w live free (is_back t n c cs b back net_is is d e) = put_in step (Continue t) reply Done w (marked (undid_more v t c cs) t Going) b d e
      (same (marked (undid_more v t c cs) t Going) s.asked refl refl refl
      (nets_same (undid_more v t c cs).txns (marked (undid_more v t c cs) t Going).txns v.queue (λ u. net_marked (undid_more v t c cs).txns t Going u) ∙ else_set t (record (v.txns t) { net = cs }) (no_wait t (Returning n) back (λ e. cc e))))
  by_goes step reply w live free (leaf_is_back t n b back under is d e) = put_in step (Continue t) reply Done w (change_made (marked v t Going)) b d e (same (change_made (marked v t Going)) s.asked refl refl refl (mark_same t Going v.queue))
  by_goes step reply w live free (logs_page t u b under owner d e) = put_in step (Continue t) reply More w v b d e (same v s.asked refl refl refl refl)
  by_goes step reply w live free (tree_blocks t a u b under other d e) = put_in step (Do t a) reply BlockedTree w v b d e (same v (answered (Do t a) BlockedTree s).asked (ap (λ (x : Shown). x.asked) (tree_shows s t a)) refl refl refl)
  by_goes step reply w live free (tree_halts t u b under other d e) = put_in step (Continue t) reply BlockedTree w v b d e (same v s.asked refl refl refl refl)
  by_goes step reply w live free (flushes p a d e) = put_in step (FlushPage p) reply Done w v a d e (same v s.asked refl refl refl refl)
  by_goes step reply w live free (forces a d e) = put_in step Force reply Done w (forced_by v) a d e (
    ap (λ (m : IndexMap). apply_all m (nets_of v.txns v.queue)) h.commits ∙ forced_is base (nets_of v.txns v.queue) s.asked (h.clean live),
    λ q. record { done = all_acked s.asked; waiting = []; all = append-nil (all_acked s.asked); acked = forced_all s.asked; none = tt; are = refl },
  )
  by_goes step reply w live free (checkpoints a d e) = put_in step Checkpoint reply Done w v a d e (same v s.asked refl refl refl refl)
  by_goes step reply w live free (switches a d e) = put_in step Switch reply Done w v a d e (same v s.asked refl refl refl refl)
  by_goes step reply w live free (lacks fault wants d e) = put_in step step reply (Refused fault) w v refl d e (
    h.commits ∙ ap (apply_all base) (sym (refused_acked fault step s)),
    λ q. refused_clean fault step s (nets_of v.txns v.queue) (λ t is. inl (commit_wants step fault t wants is)) (h.clean q),
  )
  by_goes step reply w live free (machine_breaks fault ls is d e) = put_in step step reply (Refused fault) w (broken v ls) refl d e (
    h.commits ∙ ap (apply_all base) (sym (refused_acked fault step s)),
    λ q. absurd cc,
  )

  by_answers : (step : Step) (reply : Reply) (w : View) (o : Option ℕ) → barred v step ≡ o → Answers v step reply w o → Is step reply w
  by_answers step reply w None is goes = by_goes step reply w (live_at v step is) is goes
  by_answers step reply w (Some f) is refuses = put_in step step reply (Refused f) w v refl refuses.0 refuses.1 (
    h.commits ∙ ap (apply_all base) (sym (refused_acked f step s)),
    λ q. refused_clean f step s (nets_of v.txns v.queue) (λ t e. elim (going_free v.failed (is_some (pending_of v.under t)) f ((v.txns t).mark) q (sym (ap (λ (x : Step). barred v x) e) ∙ is)) [
      | inl quiet ↦ inl quiet
      | inr still ↦ inr (λ going. still (is_shown_so ((s.running t).mark) ((v.txns t).mark) Going (h.shown.marks t) going (λ x. cc x)))
    ]) (h.clean q),
  )

  shows_by : (step : Step) (reply : Reply) (w : View) → IsReached base v → Moves v step reply w → Shows base (shows s step (Some reply)) w
  shows_by step reply w reached moves =
      let now = by_answers step reply w (barred v step) refl moves in
      record { shown = moves_are_shown base s v w step reply reached h.shown moves; commits = now.0; clean = now.1 }

pub step_shows : (base : IndexMap) (s : Shown) (v : View) → Shows base s v → IsReached base v → (step : Step) (reply : Reply) (w : View) → Moves v step reply w → Shows base (shows s step (Some reply)) w
step_shows base s v h reached step reply w moves = shows_by base s v h (next_idle base v reached) (queue_marks base v reached) step reply w reached moves

run_shows : (base : IndexMap) (s : Shown) (v w : View) (trace : List (Step × Reply)) → Shows base s v → IsReached base v → Run v trace w → Shows base (shown_by s trace) w
run_shows base s v w [] h reached e = subst (λ (x : View). Shows base s x) (sym e) h
run_shows base s v w (x ∷ xs) h reached r = run_shows base (shows s x.0 (Some x.1)) r.0 w xs (step_shows base s v h reached x.0 x.1 r.0 r.1) (moves_reach base v r.0 x.0 x.1 reached r.1) r.2

pub runs_commit : RunsCommitWhatTheyShow
runs_commit base first trace v r =
    run_shows base nothing_shown (start base first) v trace
    (record { shown = record { failed = refl; marks = λ t. inl refl; pending = λ t. refl; effects = λ t may. refl; returns = λ t n is. absurd (cc is) }; commits = refl; clean = λ q. record { done = []; waiting = []; all = refl; acked = tt; none = tt; are = refl } })
    (record { trace = []; first = first; run = refl }) r
