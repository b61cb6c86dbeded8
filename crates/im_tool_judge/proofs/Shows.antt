-- What is kept of a life while its lines are read.
use Rattle.std.proofs.Common.{Vec, Global, ◌≡◌, ◌≢◌, ◌⊎◌, inl, inr, ℕ, zero, suc, ◌+◌, ◌<◌, ◌≤◌, nat_eq, Bool, true, false, List, [], ◌∷◌, ◌++◌, length, take, get_or, Option, None, Some, refl, sym, ◌∙◌, ap, subst, arith}
use Rattle.std.specs.Prelude.{◌==◌, ◌||◌, if◌then◌else◌}
use Rattle.std.proofs.lemmas.Bool.{eqb-true, eq-eqb, ne_eqb, cond-true, cond-false}
use Rattle.std.proofs.lemmas.List.{map-append, take_more, append-nil, length-take-le}
use Rattle.im_base_types.specs.Answers.{Mark, Going, Idle, MustRollBack, RollingBack, Returning, Committing}
use Rattle.im_base_types.specs.Answers as answers
use Rattle.im_base_types.specs.Changes.{Effect}
use Rattle.im_base_types.specs.Changes as changes
use Rattle.im_base_steps.specs.declared.step.Step.{Step}
use Rattle.im_base_steps.specs.declared.step.Step.TheVariants as steps
use Rattle.im_base_steps.specs.Calls.{asked_by}
use Rattle.im_base_types.specs.Lives.{Running, Shown, Asked, idle, oldest, with_running, adds, pends, shown_change, answered, asks, effect_asked, all_acked, refused, breaks, cut_off}
use Rattle.im_base_types.specs.Refusals.{memory, unfinished}
use Rattle.im_tool_lines.specs.declared.store_life.StoreLine.{StoreLine}
use Rattle.im_tool_lines.specs.declared.store_answers.StoreReply.{StoreReply}
use Rattle.im_tool_lines.specs.StoreShown.{shown_after, shown_by_lines}
use Rattle.im_tool_lines.proofs.StoreShown.{shown_push}
use Rattle.im_tool_judge.specs.declared.change.Change.{Change}
use Rattle.im_tool_judge.specs.declared.change.AskedEffect.{AskedEffect}
use Rattle.im_tool_judge.specs.declared.happened.Event.{Event}
use Rattle.im_tool_judge.specs.declared.happened.Found.{Found}
use Rattle.im_tool_judge.specs.declared.happened.Happened.{Happened}
use Rattle.im_tool_judge.specs.declared.happened.Happened.TheVariants.{Began, Changed, GoesOn, InsertEnded, DeleteEnded, Died, Turned, Returned, Resumed, Waited, Ended}
use Rattle.im_tool_judge.specs.declared.showing.Showing.{Showing}
use Rattle.im_tool_judge.specs.Judged.{asked_effect, asked_in, change_of, newest_before}
use Rattle.im_tool_judge.specs.Shows.{KeepsShown, IsFound, transaction_of_access, maker_of, pending_in, effect_in, behind, is_going, running_from}

-- ---- transactions

same_or_not : (t u : ℕ) → (t ≡ u) ⊎ (t ≢ u)
same_or_not t u = go (nat_eq t u) refl
  where
    go : (b : Bool) → nat_eq t u ≡ b → (t ≡ u) ⊎ (t ≢ u)
    go true e = inl (eqb-true t u e)
    go false e = inr (λ q. let f = eq-eqb t u q in absurd cc)

-- one thing more happened
running_push : (t : ℕ) (r : Running) (es : List Event) (e : Event) → running_from t r (es ++ e ∷ []) ≡ (if t == e.txn then behind e.what (running_from t r es) else running_from t r es)
running_push t r [] e = refl
running_push t r (x ∷ es) e = running_push t (if t == x.txn then behind x.what r else r) es e

pub own_push : (t : ℕ) (es : List Event) (e : Event) → t ≡ e.txn → running_from t idle (es ++ e ∷ []) ≡ behind e.what (running_from t idle es)
own_push t es e same = running_push t idle es e ∙ cond-true (t == e.txn) (behind e.what (running_from t idle es)) (running_from t idle es) (eq-eqb t e.txn same)

pub other_push : (t : ℕ) (es : List Event) (e : Event) → t ≢ e.txn → running_from t idle (es ++ e ∷ []) ≡ running_from t idle es
other_push t es e differ = running_push t idle es e ∙ cond-false (t == e.txn) (behind e.what (running_from t idle es)) (running_from t idle es) (ne_eqb t e.txn differ)

own_run : (t : ℕ) (x : Running) (s : Shown) → (with_running t x s).running t ≡ x
own_run t x s = cond-true (t == t) x (s.running t) (eq-eqb t t refl)

other_run : (t u : ℕ) (x : Running) (s : Shown) → u ≢ t → (with_running t x s).running u ≡ s.running u
other_run t u x s differ = cond-false (u == t) x (s.running u) (ne_eqb u t differ)

-- something happened to a transaction
pub happened : (w new : Showing) (s : Shown) (e : Event) → KeepsShown w s → new.failed ≡ w.failed → new.asked.items ≡ w.asked.items → new.events.items ≡ w.events.items ++ e ∷ []
    → KeepsShown new (with_running e.txn (behind e.what (s.running e.txn)) s)
happened w new s e h failed asked events = record {
  failed = failed ∙ h.failed;
  running = λ u. running u (same_or_not u e.txn) ∙ ap (λ (l : List Event). running_from u idle l) (sym events);
  asked = ap (λ (l : List AskedEffect). asked_in l) asked ∙ h.asked;
}
  where
    running : (u : ℕ) → (u ≡ e.txn) ⊎ (u ≢ e.txn) → (with_running e.txn (behind e.what (s.running e.txn)) s).running u ≡ running_from u idle (w.events.items ++ e ∷ [])
    running u (inl same) =
        ap (λ (t : ℕ). (with_running e.txn (behind e.what (s.running e.txn)) s).running t) same
        ∙ own_run e.txn (behind e.what (s.running e.txn)) s
        ∙ ap (λ (r : Running). behind e.what r) (ap (λ (t : ℕ). s.running t) (sym same) ∙ h.running u)
        ∙ sym (own_push u w.events.items e same)
    running u (inr differ) = other_run e.txn u (behind e.what (s.running e.txn)) s differ ∙ h.running u ∙ sym (other_push u w.events.items e differ)

-- what was found of a transaction, one event more
pub found_own : (f new : Found) (t : ℕ) (es : List Event) (i : ℕ) (e : Event) → i < length es → e ≡ get_or es i e → t ≡ e.txn → IsFound f (running_from t idle (take i es))
    → ((r : Running) → IsFound f r → IsFound new (behind e.what r)) → IsFound new (running_from t idle (take (i + 1) es))
found_own f new t es i e within is same found step =
    subst (λ (r : Running). IsFound new r) (sym (ap (λ (l : List Event). running_from t idle l) (one_more es i e within is) ∙ own_push t (take i es) e same)) (step (running_from t idle (take i es)) found)
  where
    one_more : (es : List Event) (i : ℕ) (e : Event) → i < length es → e ≡ get_or es i e → take (i + 1) es ≡ take i es ++ e ∷ []
    one_more es i e within is = take_more es i e within ∙ ap (λ (x : Event). take i es ++ x ∷ []) (sym is)

pub found_other : (f : Found) (t : ℕ) (es : List Event) (i : ℕ) (e : Event) → i < length es → e ≡ get_or es i e → t ≢ e.txn → IsFound f (running_from t idle (take i es))
    → IsFound f (running_from t idle (take (i + 1) es))
found_other f t es i e within is differ found =
    subst (λ (r : Running). IsFound f r)
    (sym (ap (λ (l : List Event). running_from t idle l) (take_more es i e within ∙ ap (λ (x : Event). take i es ++ x ∷ []) (sym is)) ∙ other_push t (take i es) e differ)) found

-- one change more, the newest
pub newest_push : (cs : List Change) (c : Change) (e : Effect) → newest_before (cs ++ c ∷ []) e ≡ change_of c ∷ newest_before cs e
newest_push [] c e = refl
newest_push (x ∷ cs) c e = newest_push cs c (change_of x ∷ e)

found_push : (f new : Found) (r : Running) (c copy : Change) → IsFound f r → new.going ≡ f.going → new.pending ≡ f.pending → new.changes.items ≡ f.changes.items ++ copy ∷ [] → change_of copy ≡ change_of c
    → IsFound new (record r { effect = change_of c ∷ r.effect })
found_push f new r c copy found going same_pending pushed is = record {
  mark = going ∙ found.mark;
  effect =
      ap (λ (e : Effect). change_of c ∷ e) found.effect
      ∙ ap (λ (x : changes.Change). x ∷ newest_before f.changes.items []) (sym is)
      ∙ sym (newest_push f.changes.items copy [])
      ∙ ap (λ (l : List Change). newest_before l []) (sym pushed);
  pending = found.pending ∙ ap pending_in (sym same_pending);
}

pub found_change : (f new : Found) (r : Running) (what : Happened) (c copy : Change) → what ≡ Changed c → IsFound f r → new.going ≡ f.going → new.pending ≡ f.pending → new.changes.items ≡ f.changes.items ++ copy ∷ [] → change_of copy ≡ change_of c → IsFound new (behind what r)
found_change f new r what c copy happened_so found going same_pending pushed is = subst (λ (w : Happened). IsFound new (behind w r)) (sym happened_so) (found_push f new r c copy found going same_pending pushed is)

-- an access of a transaction goes on
pub found_goes_on : (f new : Found) (r : Running) (what : Happened) (c copy : Change) → what ≡ GoesOn c → IsFound f r → new.going ≡ f.going → new.changes ≡ f.changes → new.pending ≡ Some copy → change_of copy ≡ change_of c → IsFound new (behind what r)
found_goes_on f new r what c copy happened_so found going same now is = subst (λ (w : Happened). IsFound new (behind w r)) (sym happened_so) (record {
  mark = going ∙ found.mark;
  effect = found.effect ∙ ap (λ (l : Vec Change Global). newest_before l.items []) (sym same);
  pending = ap (λ (x : changes.Change). Some (maker_of x)) (sym is) ∙ ap pending_in (sym now);
})

-- it is answered
pub found_ended : (f new : Found) (r : Running) (reply : answers.Reply) (more : Option Change) → IsFound f r → new.going ≡ f.going → newest_before new.changes.items [] ≡ effect_in more ++ newest_before f.changes.items [] → new.pending ≡ None
    → effect_in more ≡ shown_change (pending_in f.pending) reply → IsFound new (record r { effect = shown_change r.pending reply ++ r.effect; pending = None })
found_ended f new r reply more found going joins none shown = record {
  mark = going ∙ found.mark;
  effect =
      ap (λ (o : Option answers.Access). shown_change o reply ++ r.effect) found.pending
      ∙ ap (λ (e : Effect). e ++ r.effect) (sym shown)
      ∙ ap (λ (e : Effect). effect_in more ++ e) found.effect
      ∙ sym joins;
  pending = ap pending_in (sym none);
}

pub found_insert_ended : (new : Found) (r : Running) (what : Happened) → what ≡ InsertEnded → IsFound new (behind InsertEnded r) → IsFound new (behind what r)
found_insert_ended new r what is found = subst (λ (w : Happened). IsFound new (behind w r)) (sym is) found

pub found_delete_ended : (new : Found) (r : Running) (what : Happened) → what ≡ DeleteEnded → IsFound new (behind DeleteEnded r) → IsFound new (behind what r)
found_delete_ended new r what is found = subst (λ (w : Happened). IsFound new (behind w r)) (sym is) found

-- a transaction that makes no more changes
found_stopped : (f new : Found) (r : Running) (m : Mark) → is_going m ≡ false → IsFound f r → new.going ≡ false → new.changes ≡ f.changes → new.pending ≡ f.pending → IsFound new (record r { mark = m })
found_stopped f new r m stops found going same kept = record { mark = going ∙ sym stops; effect = found.effect ∙ ap (λ (l : Vec Change Global). newest_before l.items []) (sym same); pending = found.pending ∙ ap pending_in (sym kept) }

pub found_died : (f new : Found) (r : Running) (what : Happened) → what ≡ Died → IsFound f r → new.going ≡ false → new.changes ≡ f.changes → new.pending ≡ f.pending → IsFound new (behind what r)
found_died f new r what is found going same kept = subst (λ (w : Happened). IsFound new (behind w r)) (sym is) (found_stopped f new r MustRollBack refl found going same kept)

pub found_turned : (f new : Found) (r : Running) (what : Happened) → what ≡ Turned → IsFound f r → new.going ≡ false → new.changes ≡ f.changes → new.pending ≡ f.pending → IsFound new (behind what r)
found_turned f new r what is found going same kept = subst (λ (w : Happened). IsFound new (behind w r)) (sym is) (found_stopped f new r RollingBack refl found going same kept)

-- its newest changes are taken back
pub found_returned : (f new : Found) (r : Running) (what : Happened) (n : ℕ) → what ≡ Returned n → IsFound f r → new.going ≡ false → newest_before new.changes.items [] ≡ oldest n (newest_before f.changes.items []) → new.pending ≡ f.pending → IsFound new (behind what r)
found_returned f new r what n is found going left kept = subst (λ (w : Happened). IsFound new (behind w r)) (sym is) (record {
  mark = going;
  effect = ap (oldest n) found.effect ∙ sym left;
  pending = found.pending ∙ ap pending_in (sym kept);
})

-- it goes on
pub found_resumed : (f new : Found) (r : Running) (what : Happened) → what ≡ Resumed → IsFound f r → new.going ≡ true → new.changes ≡ f.changes → new.pending ≡ f.pending → IsFound new (behind what r)
found_resumed f new r what is found going same kept = subst (λ (w : Happened). IsFound new (behind w r)) (sym is) (record {
  mark = going;
  effect = found.effect ∙ ap (λ (l : Vec Change Global). newest_before l.items []) (sym same);
  pending = found.pending ∙ ap pending_in (sym kept);
})

pub found_waited : (f new : Found) (r : Running) (what : Happened) → what ≡ Waited → IsFound f r → new.going ≡ false → new.changes ≡ f.changes → new.pending ≡ f.pending → IsFound new (behind what r)
found_waited f new r what is found going same kept = subst (λ (w : Happened). IsFound new (behind w r)) (sym is) (found_stopped f new r Committing refl found going same kept)

-- ---- Commits

-- a Commit of a transaction that is going and has changes is asked
asked_one : (t : ℕ) (acked : Bool) (cs : List Change) (c : changes.Change) (e : Effect) → effect_asked t acked Going (newest_before cs (c ∷ e)) ≡ record { txn = t; effect = newest_before cs (c ∷ e); acked = acked } ∷ []
asked_one t acked [] c e = refl
asked_one t acked (x ∷ cs) c e = asked_one t acked cs (change_of x) (c ∷ e)

asked_some : (t : ℕ) (acked : Bool) (cs : List Change) → (cs ≡ [] → ⊥) → effect_asked t acked Going (newest_before cs []) ≡ record { txn = t; effect = newest_before cs []; acked = acked } ∷ []
asked_some t acked [] some = absurd (some refl)
asked_some t acked (c ∷ cs) some = asked_one t acked cs (change_of c) []

-- one that is idle or has none is not
asked_none : (t : ℕ) (acked : Bool) (m : Mark) (cs : List Change) → (is_going m ≡ false) ⊎ (cs ≡ []) → effect_asked t acked m (newest_before cs []) ≡ []
asked_none t acked Going cs (inl not_going) = absurd (cc)
asked_none t acked Going cs (inr none) = ap (λ (l : List Change). effect_asked t acked Going (newest_before l [])) none
asked_none t acked Idle cs either = refl
asked_none t acked MustRollBack cs either = refl
asked_none t acked RollingBack cs either = refl
asked_none t acked (Returning n) cs either = refl
asked_none t acked Committing cs either = refl

going_is : (m : Mark) → is_going m ≡ true → m ≡ Going
going_is Going is = refl
going_is Idle is = absurd (cc)
going_is MustRollBack is = absurd (cc)
going_is RollingBack is = absurd (cc)
going_is (Returning n) is = absurd (cc)
going_is Committing is = absurd (cc)

none_going : (f : Found) (m : Mark) → f.going ≡ is_going m → (f.going ≡ false) ⊎ (f.changes.items ≡ []) → (is_going m ≡ false) ⊎ (f.changes.items ≡ [])
none_going f m is (inl stopped) = inl (sym is ∙ stopped)
none_going f m is (inr none) = inr none

found_asks : (t : ℕ) (acked : Bool) (s : Shown) (f : Found) → IsFound f (s.running t) → effect_asked t acked (s.running t).mark (s.running t).effect ≡ effect_asked t acked (s.running t).mark (newest_before f.changes.items [])
found_asks t acked s f found = ap (λ (e : Effect). effect_asked t acked (s.running t).mark e) found.effect

pub none_asked : (w : Showing) (s : Shown) (t : ℕ) (acked : Bool) (f : Found) → KeepsShown w s → IsFound f (running_from t idle w.events.items) → (f.going ≡ false) ⊎ (f.changes.items ≡ []) → KeepsShown w (asks t acked s)
none_asked w s t acked f h found why = record {
  failed = h.failed;
  running = h.running;
  asked = h.asked ∙ sym (append-nil s.asked) ∙ ap (λ (l : List Asked). s.asked ++ l) (sym (found_asks t acked s f own ∙ asked_none t acked (s.running t).mark f.changes.items (none_going f (s.running t).mark own.mark why)));
}
  where
    own : IsFound f (s.running t)
    own = subst (λ (r : Running). IsFound f r) (sym (h.running t)) found

pub one_asked : (w new : Showing) (s : Shown) (t : ℕ) (acked : Bool) (f : Found) (a : AskedEffect) → KeepsShown w s → IsFound f (running_from t idle w.events.items) → f.going ≡ true → (f.changes.items ≡ [] → ⊥)
    → a.txn ≡ t → a.acked ≡ acked → a.changes.items ≡ f.changes.items → new.failed ≡ w.failed → new.events.items ≡ w.events.items → new.asked.items ≡ w.asked.items ++ a ∷ [] → KeepsShown new (asks t acked s)
one_asked w new s t acked f a h found going some txn ack same failed events asked = record {
  failed = failed ∙ h.failed;
  running = λ u. h.running u ∙ ap (λ (l : List Event). running_from u idle l) (sym events);
  asked =
      ap (λ (l : List AskedEffect). asked_in l) asked
      ∙ map-append asked_effect w.asked.items (a ∷ [])
      ∙ ap (λ (l : List Asked). l ++ asked_effect a ∷ []) h.asked
      ∙ ap (λ (l : List Asked). s.asked ++ l) (is ∙ sym (found_asks t acked s f own ∙ ap (λ (m : Mark). effect_asked t acked m (newest_before f.changes.items [])) (going_is (s.running t).mark (sym own.mark ∙ going)) ∙ asked_some t acked f.changes.items some));
}
  where
    own : IsFound f (s.running t)
    own = subst (λ (r : Running). IsFound f r) (sym (h.running t)) found

    is : asked_effect a ∷ [] ≡ record { txn = t; effect = newest_before f.changes.items []; acked = acked } ∷ []
    is = ap (λ (n : ℕ). record { txn = n; effect = newest_before a.changes.items []; acked = a.acked } ∷ []) txn
        ∙ ap (λ (l : List Change). record { txn = t; effect = newest_before l []; acked = a.acked } ∷ []) same
        ∙ ap (λ (b : Bool). record { txn = t; effect = newest_before f.changes.items []; acked = b } ∷ []) ack

-- a Commit that was refused, or cut off
pub not_asked : (w : Showing) (s : Shown) (t n : ℕ) → KeepsShown w s → (w.failed || n == memory || n == unfinished) ≡ true → KeepsShown w (refused n (answers.Commit t) s)
not_asked w s t n h why =
    subst (λ (x : Shown). KeepsShown w x) (sym (cond-true (s.failed || n == memory || n == unfinished) s (record (asks t false s) { failed = breaks n }) (ap (λ (b : Bool). b || n == memory || n == unfinished) (sym h.failed) ∙ why))) h

pub refused_asked : (w mid new : Showing) (s : Shown) (t n : ℕ) → KeepsShown w s → (w.failed || n == memory || n == unfinished) ≡ false → KeepsShown mid (asks t false s) → new.failed ≡ breaks n → new.events.items ≡ mid.events.items → new.asked.items ≡ mid.asked.items
    → KeepsShown new (refused n (answers.Commit t) s)
refused_asked w mid new s t n h why asks_it failed events asked =
    subst (λ (x : Shown). KeepsShown new x) (sym (cond-false (s.failed || n == memory || n == unfinished) s (record (asks t false s) { failed = breaks n }) (ap (λ (b : Bool). b || n == memory || n == unfinished) (sym h.failed) ∙ why))) (record {
      failed = failed;
      running = λ u. asks_it.running u ∙ ap (λ (l : List Event). running_from u idle l) (sym events);
      asked = ap (λ (l : List AskedEffect). asked_in l) asked ∙ asks_it.asked;
    })

pub cut_failed : (w : Showing) (s : Shown) (t : ℕ) → KeepsShown w s → w.failed ≡ true → KeepsShown w (cut_off (answers.Commit t) s)
cut_failed w s t h failed = subst (λ (x : Shown). KeepsShown w x) (sym (cond-true s.failed s (asks t false s) (sym h.failed ∙ failed))) h

pub cut_asked : (w new : Showing) (s : Shown) (t : ℕ) → KeepsShown w s → w.failed ≡ false → KeepsShown new (asks t false s) → KeepsShown new (cut_off (answers.Commit t) s)
cut_asked w new s t h works asked = subst (λ (x : Shown). KeepsShown new x) (sym (cond-false s.failed s (asks t false s) (sym h.failed ∙ works))) asked

-- ---- steps

pub started : (step : Step) (t : ℕ) (new : Showing) (s : Shown) → step ≡ steps.Begin → KeepsShown new (with_running t (behind Began (s.running t)) s) → KeepsShown new (answered (asked_by step) (answers.Started t) s)
started step t new s is shown = subst (λ (x : Step). KeepsShown new (answered (asked_by x) (answers.Started t) s)) (sym is) shown

pub inserted : (step : Step) (t : ℕ) (key : Vec ℕ Global) (rid : ℕ) (bytes : List ℕ) (x : changes.Change) (new : Showing) (s : Shown) → step ≡ steps.Insert t key rid → bytes ≡ key.items → x ≡ changes.Put bytes rid → KeepsShown new (adds t x s)
    → KeepsShown new (answered (asked_by step) answers.Inserted s)
inserted step t key rid bytes x new s is same put shown =
    subst (λ (y : Step). KeepsShown new (answered (asked_by y) answers.Inserted s)) (sym is)
    (subst (λ (y : changes.Change). KeepsShown new (adds t y s)) (put ∙ ap (λ (k : List ℕ). changes.Put k rid) same) shown)

pub deleted : (step : Step) (t : ℕ) (key : Vec ℕ Global) (bytes : List ℕ) (x : changes.Change) (new : Showing) (s : Shown) → step ≡ steps.Delete t key → bytes ≡ key.items → x ≡ changes.Drop bytes 0 → KeepsShown new (adds t x s)
    → KeepsShown new (answered (asked_by step) answers.Deleted s)
deleted step t key bytes x new s is same drop shown =
    subst (λ (y : Step). KeepsShown new (answered (asked_by y) answers.Deleted s)) (sym is)
    (subst (λ (y : changes.Change). KeepsShown new (adds t y s)) (drop ∙ ap (λ (k : List ℕ). changes.Drop k 0) same) shown)

pub insert_goes_on : (step : Step) (t : ℕ) (key : Vec ℕ Global) (rid : ℕ) (bytes : List ℕ) (c : Change) (new : Showing) (s : Shown) → step ≡ steps.Insert t key rid → bytes ≡ key.items → change_of c ≡ changes.Put bytes rid
    → KeepsShown new (with_running t (behind (GoesOn c) (s.running t)) s) → KeepsShown new (answered (asked_by step) answers.More s)
insert_goes_on step t key rid bytes c new s is same put shown =
    subst (λ (y : Step). KeepsShown new (answered (asked_by y) answers.More s)) (sym is)
    (subst (λ (y : changes.Change). KeepsShown new (pends t (maker_of y) s)) (put ∙ ap (λ (k : List ℕ). changes.Put k rid) same) shown)

pub delete_goes_on : (step : Step) (t : ℕ) (key : Vec ℕ Global) (bytes : List ℕ) (c : Change) (new : Showing) (s : Shown) → step ≡ steps.Delete t key → bytes ≡ key.items → change_of c ≡ changes.Drop bytes 0
    → KeepsShown new (with_running t (behind (GoesOn c) (s.running t)) s) → KeepsShown new (answered (asked_by step) answers.More s)
delete_goes_on step t key bytes c new s is same drop shown =
    subst (λ (y : Step). KeepsShown new (answered (asked_by y) answers.More s)) (sym is)
    (subst (λ (y : changes.Change). KeepsShown new (pends t (maker_of y) s)) (drop ∙ ap (λ (k : List ℕ). changes.Drop k 0) same) shown)

pub insert_ends : (step : Step) (t : ℕ) (new : Showing) (s : Shown) → step ≡ steps.Continue t → KeepsShown new (with_running t (behind InsertEnded (s.running t)) s) → KeepsShown new (answered (asked_by step) answers.Inserted s)
insert_ends step t new s is shown = subst (λ (y : Step). KeepsShown new (answered (asked_by y) answers.Inserted s)) (sym is) shown

pub delete_ends : (step : Step) (t : ℕ) (new : Showing) (s : Shown) → step ≡ steps.Continue t → KeepsShown new (with_running t (behind DeleteEnded (s.running t)) s) → KeepsShown new (answered (asked_by step) answers.Deleted s)
delete_ends step t new s is shown = subst (λ (y : Step). KeepsShown new (answered (asked_by y) answers.Deleted s)) (sym is) shown

pub committed : (step : Step) (t : ℕ) (mid new : Showing) (s : Shown) → step ≡ steps.Commit t → ((u : Shown) → KeepsShown mid u → KeepsShown new (with_running t (behind Ended (u.running t)) u)) → KeepsShown mid (asks t true s)
    → KeepsShown new (answered (asked_by step) answers.Committed s)
committed step t mid new s is ends shown = subst (λ (y : Step). KeepsShown new (answered (asked_by y) answers.Committed s)) (sym is) (ends (asks t true s) shown)

pub waits : (step : Step) (t : ℕ) (mid new : Showing) (s : Shown) → step ≡ steps.Commit t → ((u : Shown) → KeepsShown mid u → KeepsShown new (with_running t (behind Waited (u.running t)) u)) → KeepsShown mid (asks t false s)
    → KeepsShown new (answered (asked_by step) answers.More s)
waits step t mid new s is happens shown = subst (λ (y : Step). KeepsShown new (answered (asked_by y) answers.More s)) (sym is) (happens (asks t false s) shown)

pub turned : (step : Step) (t : ℕ) (new : Showing) (s : Shown) → step ≡ steps.Rollback t → KeepsShown new (with_running t (behind Turned (s.running t)) s) → KeepsShown new (answered (asked_by step) answers.More s)
turned step t new s is shown = subst (λ (y : Step). KeepsShown new (answered (asked_by y) answers.More s)) (sym is) shown

pub returns_to : (step : Step) (t n : ℕ) (new : Showing) (s : Shown) → step ≡ steps.RollTo t n → KeepsShown new (with_running t (behind (Returned n) (s.running t)) s) → KeepsShown new (answered (asked_by step) answers.More s)
returns_to step t n new s is shown = subst (λ (y : Step). KeepsShown new (answered (asked_by y) answers.More s)) (sym is) shown

pub had_none : (step : Step) (t n : ℕ) (new : Showing) (s : Shown) → step ≡ steps.RollTo t n → KeepsShown new (with_running t (behind Resumed (s.running t)) s) → KeepsShown new (answered (asked_by step) answers.Done s)
had_none step t n new s is shown = subst (λ (y : Step). KeepsShown new (answered (asked_by y) answers.Done s)) (sym is) shown

pub resumes : (step : Step) (t : ℕ) (new : Showing) (s : Shown) → step ≡ steps.Continue t → KeepsShown new (with_running t (behind Resumed (s.running t)) s) → KeepsShown new (answered (asked_by step) answers.Done s)
resumes step t new s is shown = subst (λ (y : Step). KeepsShown new (answered (asked_by y) answers.Done s)) (sym is) shown

pub rolled_back : (step : Step) (t : ℕ) (new : Showing) (s : Shown) → (step ≡ steps.Rollback t) ⊎ (step ≡ steps.Continue t) → KeepsShown new (with_running t (behind Ended (s.running t)) s) → KeepsShown new (answered (asked_by step) answers.RolledBack s)
rolled_back step t new s (inl is) shown = subst (λ (y : Step). KeepsShown new (answered (asked_by y) answers.RolledBack s)) (sym is) shown
rolled_back step t new s (inr is) shown = subst (λ (y : Step). KeepsShown new (answered (asked_by y) answers.RolledBack s)) (sym is) shown

dies : (t : ℕ) (a : answers.Access) (new : Showing) (s : Shown) → KeepsShown new (with_running t (behind Died (s.running t)) s) → KeepsShown new (answered (answers.Do t a) answers.Die s)
dies t (answers.Fetch k) new s shown = shown
dies t (answers.Seek k) new s shown = shown
dies t (answers.Next k) new s shown = shown
dies t (answers.Prev k) new s shown = shown
dies t (answers.Scan lo hi n) new s shown = shown
dies t (answers.Insert k r) new s shown = shown
dies t (answers.Delete k) new s shown = shown

pub died : (step : answers.Step) (t : ℕ) (new : Showing) (s : Shown) → transaction_of_access step ≡ Some t → KeepsShown new (with_running t (behind Died (s.running t)) s) → KeepsShown new (answered step answers.Die s)
died (answers.Do u a) t new s is shown = let same : t ≡ u = cc in dies u a new s (subst (λ (x : ℕ). KeepsShown new (with_running x (behind Died (s.running x)) s)) same shown)
died answers.Begin t new s is shown = absurd (cc)
died (answers.Commit u) t new s is shown = absurd (cc)
died (answers.Rollback u) t new s is shown = absurd (cc)
died (answers.Continue u) t new s is shown = absurd (cc)
died (answers.RollTo u n) t new s is shown = absurd (cc)
died (answers.FlushPage p) t new s is shown = absurd (cc)
died answers.Force t new s is shown = absurd (cc)
died answers.Checkpoint t new s is shown = absurd (cc)
died answers.Switch t new s is shown = absurd (cc)

pub none_died : (step : answers.Step) (w : Showing) (s : Shown) → transaction_of_access step ≡ None → KeepsShown w s → KeepsShown w (answered step answers.Die s)
none_died (answers.Do u a) w s is shown = absurd (cc)
none_died answers.Begin w s is shown = shown
none_died (answers.Commit u) w s is shown = shown
none_died (answers.Rollback u) w s is shown = shown
none_died (answers.Continue u) w s is shown = shown
none_died (answers.RollTo u n) w s is shown = shown
none_died (answers.FlushPage p) w s is shown = shown
none_died answers.Force w s is shown = shown
none_died answers.Checkpoint w s is shown = shown
none_died answers.Switch w s is shown = shown

-- ---- what else changes

-- the engine may have failed
pub failed_now : (w new : Showing) (s : Shown) (b : Bool) → KeepsShown w s → new.failed ≡ b → new.events.items ≡ w.events.items → new.asked.items ≡ w.asked.items → KeepsShown new (record s { failed = b })
failed_now w new s b h failed events asked = record {
  failed = failed;
  running = λ u. h.running u ∙ ap (λ (l : List Event). running_from u idle l) (sym events);
  asked = ap (λ (l : List AskedEffect). asked_in l) asked ∙ h.asked;
}

-- all that was asked is acknowledged
pub all_acked_now : (w new : Showing) (s : Shown) → KeepsShown w s → new.failed ≡ w.failed → new.events.items ≡ w.events.items → asked_in new.asked.items ≡ all_acked (asked_in w.asked.items) → KeepsShown new (record s { asked = all_acked s.asked })
all_acked_now w new s h failed events asked = record {
  failed = failed ∙ h.failed;
  running = λ u. h.running u ∙ ap (λ (l : List Event). running_from u idle l) (sym events);
  asked = asked ∙ ap all_acked h.asked;
}

acked_append : (xs ys : List Asked) → all_acked (xs ++ ys) ≡ all_acked xs ++ all_acked ys
acked_append [] ys = refl
acked_append (x ∷ xs) ys = ap (λ (l : List Asked). record x { acked = true } ∷ l) (acked_append xs ys)

pub acked_push : (some all : List AskedEffect) (a b : AskedEffect) → asked_in all ≡ all_acked (asked_in some) → b.txn ≡ a.txn → b.changes.items ≡ a.changes.items → b.acked ≡ true → asked_in (all ++ b ∷ []) ≡ all_acked (asked_in (some ++ a ∷ []))
acked_push some all a b is txn same acked =
    map-append asked_effect all (b ∷ [])
    ∙ ap (λ (l : List Asked). l ++ asked_effect b ∷ []) is
    ∙ ap (λ (l : List Asked). all_acked (asked_in some) ++ l) one
    ∙ sym (acked_append (asked_in some) (asked_effect a ∷ []))
    ∙ ap (λ (l : List Asked). all_acked l) (sym (map-append asked_effect some (a ∷ [])))
  where
    one : asked_effect b ∷ [] ≡ all_acked (asked_effect a ∷ [])
    one = ap (λ (n : ℕ). record { txn = n; effect = newest_before b.changes.items []; acked = b.acked } ∷ []) txn
        ∙ ap (λ (l : List Change). record { txn = a.txn; effect = newest_before l []; acked = b.acked } ∷ []) same
        ∙ ap (λ (x : Bool). record { txn = a.txn; effect = newest_before a.changes.items []; acked = x } ∷ []) acked

-- ---- lines

-- one line more
pub shown_more : (s : Shown) (all : List StoreLine) (told : List StoreReply) (i : ℕ) (line : StoreLine) (reply : StoreReply) → i < length all → i < length told → line ≡ get_or all i line → reply ≡ get_or told i reply
    → shown_by_lines s (take (i + 1) all) (take (i + 1) told) ≡ shown_after (shown_by_lines s (take i all) (take i told)) line reply
shown_more s all told i line reply within answered line_is reply_is =
    let lines : take (i + 1) all ≡ take i all ++ line ∷ [] = take_more all i line within ∙ ap (λ (x : StoreLine). take i all ++ x ∷ []) (sym line_is) in
    let replies : take (i + 1) told ≡ take i told ++ reply ∷ [] = take_more told i reply answered ∙ ap (λ (x : StoreReply). take i told ++ x ∷ []) (sym reply_is) in
    let long : length (take i told) ≡ length (take i all) = length-take-le i told (omega arith) ∙ sym (length-take-le i all (omega arith)) in
    ap (λ (l : List StoreLine). shown_by_lines s l (take (i + 1) told)) lines ∙ ap (λ (l : List StoreReply). shown_by_lines s (take i all ++ line ∷ []) l) replies ∙ shown_push s (take i all) (take i told) line reply long

-- after the last line, or the last reply, nothing is shown
pub shown_end : (s : Shown) (all : List StoreLine) (told : List StoreReply) (i : ℕ) → (length all ≤ i) ⊎ (length told ≤ i) → shown_by_lines s (take i all) (take i told) ≡ shown_by_lines s all told
shown_end s [] told zero e = refl
shown_end s [] told (suc i) e = refl
shown_end s (line ∷ all) [] zero e = refl
shown_end s (line ∷ all) [] (suc i) e = refl
shown_end s (line ∷ all) (reply ∷ told) zero e = absurd (elim e [ inl less ↦ omega arith | inr less ↦ omega arith ])
shown_end s (line ∷ all) (reply ∷ told) (suc i) e = shown_end (shown_after s line reply) all told i (elim e [ inl less ↦ inl (omega arith) | inr less ↦ inr (omega arith) ])
