-- What a step, a cut and a refused look do to what lies under the lock.
use Rattle.std.proofs.Common.{◌≡◌, ℕ, ◌+◌, ◌≤◌, ◌^◌, true, false, true≢false, List, [], ◌∷◌, ◌++◌, length, slice_index, Some, refl, ap, sym, subst, ◌∙◌, inl, inr, arith, length-append}
use Rattle.std.specs.FinMap.{empty, entries}
use Rattle.std.proofs.lemmas.List.Elements.{All-nil, All-push}
use Rattle.im_base_types.specs.Pages.{Entry}
use Rattle.im_base_types.specs.Answers as answers
use Rattle.im_base_types.specs.Answers.{Step, Reply}
use Rattle.im_base_types.specs.Changes.{Effect, apply_all}
use Rattle.im_base_types.specs.Maps.{IndexMap}
use Rattle.im_base_types.specs.Lives.{Shown, shows, effects, nothing_shown, shown_by}
use Rattle.im_theory_machine.specs.Locks.{Lock}
use Rattle.im_theory_machine.specs.View.{Txn, View, broken}
use Rattle.im_theory_machine.specs.Machine.{Moves, Run, start}
use Rattle.im_theory_machine.specs.Isolation.{Isolates}
use Rattle.im_front.specs.declared.recorded.Recorded.{Recorded}
use Rattle.im_base_steps.specs.Calls.{asked_by, is_blocked}
use Rattle.im_front.specs.Traces.{reply_of_told, trace_of}
use Rattle.im_front.specs.Events.{Event, Made, Broke, made_in, Runs, shown_in}
use Rattle.im_base_steps.specs.Replies.{started_in, commits_in, rolled_back_in, waits_after, IsReply, IsCounted}
use Rattle.im_theory_store_trait.specs.Store.{IsAlive, StepKept, LookKept}
use Rattle.im_front.specs.Held.{after_reply, after_trace, waits_in, IsTallied, Stands, IsRun, IsCut}
use Rattle.im_front.proofs.Balance.{runs_busy, start_busy, all_idle}
use Rattle.im_front.proofs.Replies.{stays_failed, blocked_stays, blocked_shows}

-- ---- lists of events

pub Runs-push : (v mid w : View) (events : List Event) (step : Step) (reply : Reply) → Runs v events mid → Moves mid step reply w → Runs v (events ++ Made step reply ∷ []) w
Runs-push v mid w [] step reply run m = (w, subst (λ (u : View). Moves u step reply w) run m, refl)
Runs-push v mid w (Made s r ∷ events) step reply run m = (run.0, run.1, Runs-push run.0 mid w events step reply run.2 m)
Runs-push v mid w (Broke locks ∷ events) step reply run m = Runs-push (broken v locks) mid w events step reply run m

pub Runs-broke : (v mid : View) (events : List Event) (locks : ℕ → List Lock) → Runs v events mid → Runs v (events ++ Broke locks ∷ []) (broken mid locks)
Runs-broke v mid [] locks run = ap (λ (u : View). broken u locks) run
Runs-broke v mid (Made s r ∷ events) locks run = (run.0, run.1, Runs-broke run.0 mid events locks run.2)
Runs-broke v mid (Broke ls ∷ events) locks run = Runs-broke (broken v ls) mid events locks run

made_in-push : (events : List Event) (step : Step) (reply : Reply) → made_in (events ++ Made step reply ∷ []) ≡ made_in events ++ (step, reply) ∷ []
made_in-push [] step reply = refl
made_in-push (Made s r ∷ events) step reply = ap (λ l. (s, r) ∷ l) (made_in-push events step reply)
made_in-push (Broke locks ∷ events) step reply = made_in-push events step reply

made_in-broke : (events : List Event) (locks : ℕ → List Lock) → made_in (events ++ Broke locks ∷ []) ≡ made_in events
made_in-broke [] locks = refl
made_in-broke (Made s r ∷ events) locks = ap (λ l. (s, r) ∷ l) (made_in-broke events locks)
made_in-broke (Broke ls ∷ events) locks = made_in-broke events locks

shown_in-push : (s : Shown) (events : List Event) (step : Step) (reply : Reply) → shown_in s (events ++ Made step reply ∷ []) ≡ shows (shown_in s events) step (Some reply)
shown_in-push s [] step reply = refl
shown_in-push s (Made a r ∷ events) step reply = shown_in-push (shows s a (Some r)) events step reply
shown_in-push s (Broke locks ∷ events) step reply = shown_in-push (record s { failed = true }) events step reply

shown_in-broke : (s : Shown) (events : List Event) (locks : ℕ → List Lock) → shown_in s (events ++ Broke locks ∷ []) ≡ record (shown_in s events) { failed = true }
shown_in-broke s [] locks = refl
shown_in-broke s (Made a r ∷ events) locks = shown_in-broke (shows s a (Some r)) events locks
shown_in-broke s (Broke ls ∷ events) locks = shown_in-broke (record s { failed = true }) events locks

runs_failed : (v w : View) (events : List Event) → v.failed ≡ true → Runs v events w → w.failed ≡ true
runs_failed v w [] f run = ap (λ (u : View). u.failed) run ∙ f
runs_failed v w (Made s r ∷ events) f run = runs_failed run.0 w events (stays_failed v run.0 s r run.1 f) run.2
runs_failed v w (Broke locks ∷ events) f run = runs_failed (broken v locks) w events refl run

-- where the engine works in the end, nothing broke it: what was done is a run
pub works : (v w : View) (events : List Event) → Runs v events w → w.failed ≡ false → Run v (made_in events) w
works v w [] run f = run
works v w (Made s r ∷ events) run f = (run.0, run.1, works run.0 w events run.2 f)
works v w (Broke locks ∷ events) run f = absurd (true≢false (sym (runs_failed (broken v locks) w events refl run) ∙ f))

-- and it shows what a run shows
pub shown_plainly : (s : Shown) (v w : View) (events : List Event) → Runs v events w → w.failed ≡ false → shown_in s events ≡ shown_by s (made_in events)
shown_plainly s v w [] run f = refl
shown_plainly s v w (Made a r ∷ events) run f = shown_plainly (shows s a (Some r)) run.0 w events run.2 f
shown_plainly s v w (Broke locks ∷ events) run f = absurd (true≢false (sym (runs_failed (broken v locks) w events refl run) ∙ f))

-- ---- traces

after_trace-push : (n : ℕ) (c : List ℕ) (trace : List (Step × Reply)) (e : Step × Reply) → after_trace n c (trace ++ e ∷ []) ≡ after_reply (waits_in n trace) (after_trace n c trace) e.0 e.1
after_trace-push n c [] e = refl
after_trace-push n c (x ∷ xs) e = after_trace-push (waits_after n x.0 x.1) (after_reply n c x.0 x.1) xs e

pub waits_in-push : (n : ℕ) (trace : List (Step × Reply)) (e : Step × Reply) → waits_in n (trace ++ e ∷ []) ≡ waits_after (waits_in n trace) e.0 e.1
waits_in-push n [] e = refl
waits_in-push n (x ∷ xs) e = waits_in-push (waits_after n x.0 x.1) xs e

pub trace_of-push : (rs : List Recorded) (r : Recorded) → trace_of (rs ++ r ∷ []) ≡ trace_of rs ++ (asked_by r.step, reply_of_told r.reply) ∷ []
trace_of-push [] r = refl
trace_of-push (x ∷ xs) r = ap (λ l. (asked_by x.step, reply_of_told x.reply) ∷ l) (trace_of-push xs r)

pub trace_of-recorded : (olds news : List Recorded) (r : Recorded) (step : Step) (reply : Reply) → news ≡ olds ++ r ∷ [] → asked_by r.step ≡ step → reply_of_told r.reply ≡ reply → trace_of news ≡ trace_of olds ++ (step, reply) ∷ []
trace_of-recorded olds news r step reply is asked told = ap trace_of is ∙ trace_of-push olds r ∙ (λ i. trace_of olds ++ (asked i, told i) ∷ [])

pub length-trace_of : (rs : List Recorded) → length (trace_of rs) ≡ length rs
length-trace_of [] = refl
length-trace_of (x ∷ xs) = let e : length (trace_of xs) ≡ length xs = length-trace_of xs in omega arith

-- a reply begins and takes back one at most, and what it commits had waited or was one
at_most_one : (n : ℕ) (s : Step) (r : Reply) → (started_in r ≤ 1) × (commits_in n s r + waits_after n s r ≤ n + 1) × (rolled_back_in r ≤ 1)
at_most_one n s (answers.Started t) = (omega arith, omega arith, omega arith)
at_most_one n s answers.RolledBack = (omega arith, omega arith, omega arith)
at_most_one n s (answers.Blocked h) = (omega arith, omega arith, omega arith)
at_most_one n s answers.BlockedTree = (omega arith, omega arith, omega arith)
at_most_one n s (answers.Found t) = (omega arith, omega arith, omega arith)
at_most_one n s answers.Absent = (omega arith, omega arith, omega arith)
at_most_one n s (answers.Entry k r) = (omega arith, omega arith, omega arith)
at_most_one n s answers.End = (omega arith, omega arith, omega arith)
at_most_one n s (answers.Entries l) = (omega arith, omega arith, omega arith)
at_most_one n s answers.Inserted = (omega arith, omega arith, omega arith)
at_most_one n s answers.Duplicate = (omega arith, omega arith, omega arith)
at_most_one n s answers.Deleted = (omega arith, omega arith, omega arith)
at_most_one n s answers.Committed = (omega arith, omega arith, omega arith)
at_most_one n s answers.Die = (omega arith, omega arith, omega arith)
at_most_one n s (answers.Refused f) = (omega arith, omega arith, omega arith)
at_most_one n answers.Begin answers.More = (omega arith, omega arith, omega arith)
at_most_one n (answers.Do t a) answers.More = (omega arith, omega arith, omega arith)
at_most_one n (answers.Commit t) answers.More = (omega arith, omega arith, omega arith)
at_most_one n (answers.Rollback t) answers.More = (omega arith, omega arith, omega arith)
at_most_one n (answers.Continue t) answers.More = (omega arith, omega arith, omega arith)
at_most_one n (answers.RollTo t left) answers.More = (omega arith, omega arith, omega arith)
at_most_one n (answers.FlushPage p) answers.More = (omega arith, omega arith, omega arith)
at_most_one n answers.Force answers.More = (omega arith, omega arith, omega arith)
at_most_one n answers.Checkpoint answers.More = (omega arith, omega arith, omega arith)
at_most_one n answers.Switch answers.More = (omega arith, omega arith, omega arith)
at_most_one n answers.Begin answers.Done = (omega arith, omega arith, omega arith)
at_most_one n (answers.Do t a) answers.Done = (omega arith, omega arith, omega arith)
at_most_one n (answers.Commit t) answers.Done = (omega arith, omega arith, omega arith)
at_most_one n (answers.Rollback t) answers.Done = (omega arith, omega arith, omega arith)
at_most_one n (answers.Continue t) answers.Done = (omega arith, omega arith, omega arith)
at_most_one n (answers.RollTo t left) answers.Done = (omega arith, omega arith, omega arith)
at_most_one n (answers.FlushPage p) answers.Done = (omega arith, omega arith, omega arith)
at_most_one n answers.Force answers.Done = (omega arith, omega arith, omega arith)
at_most_one n answers.Checkpoint answers.Done = (omega arith, omega arith, omega arith)
at_most_one n answers.Switch answers.Done = (omega arith, omega arith, omega arith)

-- ---- counts

module _ (trace : List (Step × Reply)) (active waiting cut : ℕ) (kept counts : List ℕ) (h : IsTallied trace active waiting cut kept counts) where
  -- a step that is recorded
  pub tallied_push : (after waits : ℕ) (now : List ℕ) (step : Step) (reply : Reply) → IsReply step reply → IsCounted step reply waiting active waits after → now ≡ after_reply waiting counts step reply → IsTallied (trace ++ (step, reply) ∷ []) after waits cut kept now
  tallied_push after waits now step reply is leaves e =
      let one = at_most_one waiting step reply in
      let a : slice_index now 0 ≡ slice_index counts 0 + started_in reply = ap (λ l. slice_index l 0) e in
      let b : slice_index now 1 ≡ slice_index counts 1 + commits_in waiting step reply = ap (λ l. slice_index l 1) e in
      let c : slice_index now 2 ≡ slice_index counts 2 + rolled_back_in reply = ap (λ l. slice_index l 2) e in
      let longer : length (trace ++ (step, reply) ∷ []) ≡ length trace + 1 = length-append trace ((step, reply) ∷ []) in
      let small = h.counts_small in
      let was = h.balanced in
      let left = leaves.0 in
      let still = leaves.1 in
      record {
        replies = All-push (λ x. IsReply x.0 x.1) trace (step, reply) h.replies is;
        counted = e ∙ (λ i. after_reply (h.waits i) (h.counted i) step reply) ∙ sym (after_trace-push 0 kept trace (step, reply));
        waits = leaves.1 ∙ ap (λ n. waits_after n step reply) h.waits ∙ sym (waits_in-push 0 trace (step, reply));
        long = ap length e;
        cut_small = h.cut_small;
        counts_small = (omega (arith, one.0, small.0), omega (arith, one.1, small.1, still), omega (arith, one.2, small.2));
        balanced = omega (arith, left);
      }

  -- as many are active as before, and as many wait
  pub tallied_as : (after waits : ℕ) → after ≡ active → waits ≡ waiting → IsTallied trace after waits cut kept counts
  tallied_as after waits e same = subst (λ (x : ℕ × ℕ). IsTallied trace x.0 x.1 cut kept counts) (λ i. (sym e i, sym same i)) h

  -- the trace is cut
  pub tallied_cut : (after waits : ℕ) → after ≡ active → waits ≡ 0 → cut + length trace ≤ 2 ^ 62 → IsTallied [] after waits (cut + length trace) counts counts
  tallied_cut after waits e none small =
      let few = h.counts_small in
      let was = h.balanced in
      record {
        replies = All-nil (λ x. IsReply x.0 x.1);
        counted = refl;
        waits = none;
        long = h.long;
        cut_small = small;
        counts_small = (omega (arith, few.0), omega (arith, few.1, none), omega (arith, few.2));
        balanced = omega (arith, e, was);
      }

-- an empty trace, and nothing active
pub tallied_new : (active waiting : ℕ) (counts : List ℕ) → active ≡ 0 → waiting ≡ 0 → counts ≡ 0 ∷ 0 ∷ 0 ∷ [] → IsTallied [] active waiting 0 counts counts
tallied_new active waiting counts none nobody zeros =
    let x : slice_index counts 0 ≡ 0 = ap (λ l. slice_index l 0) zeros in
    let y : slice_index counts 1 ≡ 0 = ap (λ l. slice_index l 1) zeros in
    let z : slice_index counts 2 ≡ 0 = ap (λ l. slice_index l 2) zeros in
    record {
      replies = All-nil (λ x. IsReply x.0 x.1);
      counted = refl;
      waits = nobody;
      long = ap length zeros;
      cut_small = omega arith;
      counts_small = (omega arith, omega arith, omega arith);
      balanced = omega arith;
    }

-- who waits is active
pub none_waiting : (waiting active : ℕ) → waiting ≤ active → active ≡ 0 → waiting ≡ 0
none_waiting waiting active few none = omega arith

-- ---- what stands under the lock

-- the engine is a view of the machine, where it tells
pub alive_of : {E : Type 0} (life : List Effect → Shown → View → E → Type 0) (tells : Type 0) (base : List Entry) (trace : List (Step × Reply)) (engine : E) → (tells → Stands life base trace engine) → IsAlive life tells engine
alive_of life tells base trace engine stands t = let h = stands t in (h.before, shown_in nothing_shown h.events, h.view, h.life_is)

module _ {E : Type 0} (life : List Effect → Shown → View → E → Type 0) (base : List Entry) (trace : List (Step × Reply)) (engine : E) (h : Stands life base trace engine) where
  -- a step that is recorded
  pub stands_push : (new : E) (step : Step) (reply : Reply) → StepKept life h.before (shown_in nothing_shown h.events) h.view step reply new → Stands life base (trace ++ (step, reply) ∷ []) new
  stands_push new step reply made = record {
    before = h.before;
    first = h.first;
    events = h.events ++ Made step reply ∷ [];
    view = made.next;
    based = h.based;
    made = made_in-push h.events step reply ∙ ap (λ l. l ++ (step, reply) ∷ []) h.made;
    runs = Runs-push (start (apply_all empty h.before) h.first) h.view made.next h.events step reply h.runs made.moves;
    life_is = subst (λ (s : Shown). life h.before s made.next new) (sym (shown_in-push nothing_shown h.events step reply)) made.after;
  }

  -- the engine went on with nothing shown
  pub stands_life : (new : E) → life h.before (shown_in nothing_shown h.events) h.view new → Stands life base trace new
  stands_life new now = record {
    before = h.before;
    first = h.first;
    events = h.events;
    view = h.view;
    based = h.based;
    made = h.made;
    runs = h.runs;
    life_is = now;
  }

  -- a step that was blocked
  pub stands_blocked : (new : E) (step : Step) (reply : Reply) → StepKept life h.before (shown_in nothing_shown h.events) h.view step reply new → is_blocked reply ≡ true → Stands life base trace new
  stands_blocked new step reply made b =
      let same = blocked_stays h.view made.next step reply made.moves b in
      let shown = blocked_shows step reply (shown_in nothing_shown h.events) b in
      stands_life new (subst (λ (x : Shown × View). life h.before x.0 x.1 new) (λ j. (shown j, same j)) made.after)

  -- a look at the entries that was refused
  pub stands_look : (new : E) → LookKept life h.before (shown_in nothing_shown h.events) h.view new → Stands life base trace new
  stands_look new (inl same) = stands_life new same
  stands_look new (inr broke) = record {
    before = h.before;
    first = h.first;
    events = h.events ++ Broke broke.0 ∷ [];
    view = broken h.view broke.0;
    based = h.based;
    made = made_in-broke h.events broke.0 ∙ h.made;
    runs = Runs-broke (start (apply_all empty h.before) h.first) h.view h.events broke.0 h.runs;
    life_is = subst (λ (s : Shown). life h.before s (broken h.view broke.0) new) (sym (shown_in-broke nothing_shown h.events broke.0)) broke.1;
  }

  -- an engine at rest: its walk is the committed map
  pub rest_walk : Isolates (apply_all empty h.before) h.first → h.view.failed ≡ false → h.view.active ≡ 0 → h.view.walk ≡ h.view.committed
  rest_walk isolates f none =
      let busy = runs_busy (start (apply_all empty h.before) h.first) h.view h.events (start_busy (apply_all empty h.before) h.first) h.runs in
      isolates.quiet (made_in h.events) h.view (works (start (apply_all empty h.before) h.first) h.view h.events h.runs f) (λ t. ap (λ (x : Txn). x.net) (all_idle h.view busy f none t))

  -- the trace is cut: a new run begins with what was committed
  pub stands_cut : (new : E) (list : List Entry) → h.view.active ≡ 0
      → (h.view.committed ≡ apply_all empty (h.before ++ effects (shown_in nothing_shown h.events).asked)) × life (h.before ++ effects (shown_in nothing_shown h.events).asked) nothing_shown (start h.view.committed h.view.next) new
      → list ≡ entries h.view.committed → Stands life list [] new
  stands_cut new list none settled is =
      record {
        before = h.before ++ effects (shown_in nothing_shown h.events).asked;
        first = h.view.next;
        events = [];
        view = start h.view.committed h.view.next;
        based = is ∙ ap entries settled.0;
        made = refl;
        runs = ap (λ (m : IndexMap). start m h.view.next) settled.0;
        life_is = settled.1;
      }

  -- what was cut
  pub is_cut : (list : List Entry) → h.view.failed ≡ false → h.view.committed ≡ apply_all empty (h.before ++ effects (shown_in nothing_shown h.events).asked) → list ≡ entries h.view.committed → IsCut base list trace
  is_cut list f settled is =
      let plain : shown_in nothing_shown h.events ≡ shown_by nothing_shown trace = shown_plainly nothing_shown (start (apply_all empty h.before) h.first) h.view h.events h.runs f ∙ ap (shown_by nothing_shown) h.made in
      record {
        before = h.before;
        based = h.based;
        next = is ∙ ap entries (settled ∙ ap (λ (s : Shown). apply_all empty (h.before ++ effects s.asked)) plain);
      }

  -- the trace is a run
  pub run_of : IsRun life base trace engine
  run_of = record {
    before = h.before;
    first = h.first;
    events = h.events;
    view = h.view;
    based = h.based;
    made = h.made;
    runs = h.runs;
    works = λ f. subst (λ (l : List (Step × Reply)). Run (start (apply_all empty h.before) h.first) l h.view) h.made (works (start (apply_all empty h.before) h.first) h.view h.events h.runs f);
    life_is = h.life_is;
  }

-- an engine at rest, and an empty trace
pub stands_new : {E : Type 0} (life : List Effect → Shown → View → E → Type 0) (base : List Entry) (engine : E) (before : List Effect) (first : ℕ)
    → life before nothing_shown (start (apply_all empty before) first) engine → base ≡ entries (apply_all empty before) → Stands life base [] engine
stands_new life base engine before first resting is = record {
  before = before;
  first = first;
  events = [];
  view = start (apply_all empty before) first;
  based = is;
  made = refl;
  runs = refl;
  life_is = resting;
}
