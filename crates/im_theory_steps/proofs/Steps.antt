-- Each kind of step keeps what holds between steps.
use Rattle.std.proofs.Common.{◌≡◌, ◌≢◌, ◌≤◌, ◌<◌, ◌^◌, ◌+◌, suc, inl, inr, ◌⊎◌, ℕ, nat_lt, List, ◌++◌, [], ◌∷◌, length, length-append, map, refl, sym, ◌∙◌, ap, subst, true, false, Bool, not, Option, is_some, cond, None, Some, append-nil, append_assoc, arith, lt-ltb, ne_eqb}
use Rattle.std.specs.Prelude.{find, ◌||◌}
use Rattle.std.specs.FinMap.{empty}
use Rattle.im_base_types.specs.Keys.{Key}
use Rattle.im_base_types.specs.Maps.{IndexMap}
use Rattle.im_base_types.specs.Changes.{Change, Effect, apply_all, seen, seen_effect, undone}
use Rattle.im_base_types.proofs.Changes.{apply_all_append, apply_all_seen, seen_append}
use Rattle.im_theory_log.proofs.Committed.{nets_of}
use Rattle.im_base_types.proofs.Nets.{no_nets}
use Rattle.im_theory_log.specs.Tree.{Tree}
use Rattle.im_theory_log.specs.Histories.{History, Base}
use Rattle.im_theory_log.specs.Transactions.{committed, contents, net, last_of, to_undo, is_finished, changes_of}
use Rattle.im_base_types.specs.Answers as answers
use Rattle.im_base_types.specs.Answers.{Access, Step, Reply, Begin, Started, Do, Commit, Committed, Rollback, RolledBack, Continue, RollTo, More, Blocked, Die, FlushPage, Force, Checkpoint, Done, Refused, answer}
use Rattle.im_base_types.specs.Lives.{Shown, Asked, effects, effect_asked, nothing_shown, shows}
use Rattle.im_base_types.specs.Refusals.{failed as has_failed, key_length, too_many, unfinished}
use Rattle.im_base_txn.specs.declared.transaction.Mark as marks
use Rattle.im_base_txn.specs.declared.transaction.Mark.TheVariants.{Going, MustRollBack, RollingBack, Returning, Committing}
use Rattle.im_base_txn.specs.declared.transaction.Transaction.{Transaction}
use Rattle.im_base_txn.specs.Rows.{begun as row_begun, is_of, changed, with_mark}
use Rattle.im_base_txn.specs.LookUps.{without}
use Rattle.im_base_txn.proofs.LookUps.{look_ups_follow}
use Rattle.im_theory_machine.specs.Table.{Table, lasting_of, IsReleased}
use Rattle.im_theory_machine.specs.declared.verdict.Verdict.TheVariants.{Granted, Wait, Die as MustDie}
use Rattle.im_theory_machine.specs.Changing.{MatchesWithKept}
use Rattle.im_theory_machine.specs.View.{View, Puts, kept_lock, owner_in, pending_of, of_others, Txn, idle, set_txn, begun, did, did_txn, marked, committed_by, dropped_by, undid_more, undid_last, queued, forced_by, is_among, MayRollBack}
use Rattle.im_theory_machine.specs.Kept.{IsPending}
use Rattle.im_theory_machine.specs.Machine.{Moves, Answers, Goes, begins, commits, queues, drops, turns, undoes, ends, stays_back, turns_back, gives_back, is_back, flushes, forces, checkpoints, lacks, barred, barred_to, barred_to_rollback, barred_to_continue, or_else, fault_if, keys_fit, start}
use Rattle.im_theory_machine.proofs.Cited.{changes-serve, cases_number, cases_test, among_other, by_force_txn, nothing_goes_on, queue_marks, unowned_clear}
use Rattle.im_theory_steps.specs.Growth.{Stays, TakesBack, IsOfOthers, IsOver, HasNone}
use Rattle.im_theory_steps.specs.Seen.{IsSeen}
use Rattle.im_theory_steps.specs.Serving.{IsRow, IsRowOf, IsWaitingRow, IsAt, AreRows, mark_of, IsServing, IsServed}
use Rattle.im_theory_steps.specs.Steps.{NewStoresServe, OpenedStoresServe, QuietLogsHoldCommitted, ChangesAreServed, ReadsAreServed, WaitsAreServed, DiesAreServed, BeginsAreServed, CommitsAreServed, CommitsWait, counted, takes_back, with_made, with_undone, without_all, UnloggedCommitsAreServed, ReturnsStay, ReturnsTurn, DropsAreServed, TurnsAreServed, UndoIsServed, EndsAreServed, FlushesAreServed, ForcesAreServed, CheckpointsAreServed, BarredStepsAreServed, LacksAreServed}
use Rattle.im_theory_steps.proofs.Growth.{same_here, none_last, none_undo, none_finished, none_to_undo, unlogged}
use Rattle.im_theory_steps.proofs.Together.{together, marked_seen, dropped_seen, empty_seen, begun_seen}
use Rattle.im_theory_steps.proofs.Holding.{same_itself, kept_none, kept_undone, GoWith, same_locks, released_locks, forced_locks, pends_beside}
use Rattle.im_theory_steps.proofs.Promises.{moves_reach}
use Rattle.im_theory_steps.proofs.Asking.{asks_nothing, waits_ask_nothing, dies_ask_nothing, effects_append, effects_acked, asked_effect, empty_asked, refusals_ask_nothing, commit_wants}
use Rattle.im_theory_steps.proofs.Showing.{shown_is, is_shown_so, effect_shown}
use Rattle.im_theory_steps.proofs.Acknowledged.{going_free, step_shows}
use Rattle.im_theory_steps.proofs.Rows.{same_at, row_on, row_as, as_row, row_of_found, rows_after, rows_changed, rows_ended, rows_stay, row_marked, length_map, one_fewer, counted_at, some_stand}

-- ---- the checks pass

module _ (v : View) (t : ℕ) (works : v.failed ≡ false) where
  abbrev goes_on : Option ℕ
  goes_on = fault_if (is_some (pending_of v.under t)) unfinished

  pub do_passes : (a : Access) → owner_in v ≢ Some t → (v.txns t).mark ≡ answers.Going → keys_fit a ≡ true → barred v (Do t a) ≡ None
  do_passes a free going fits =
      ap (λ (b : Bool). or_else (fault_if b has_failed) (or_else (barred_to ((v.txns t).mark)) (or_else goes_on (fault_if (not (keys_fit a)) key_length)))) works
      ∙ ap (λ (m : answers.Mark). or_else (barred_to m) (or_else goes_on (fault_if (not (keys_fit a)) key_length))) going
      ∙ ap (λ (o : Option Access). or_else (fault_if (is_some o) unfinished) (fault_if (not (keys_fit a)) key_length)) (unowned_clear v.under t free)
      ∙ ap (λ (b : Bool). fault_if (not b) key_length) fits

  commit_passes : owner_in v ≢ Some t → (v.txns t).mark ≡ answers.Going → barred v (Commit t) ≡ None
  commit_passes free going =
      ap (λ (b : Bool). or_else (fault_if b has_failed) (or_else (barred_to ((v.txns t).mark)) goes_on)) works
      ∙ ap (λ (m : answers.Mark). or_else (barred_to m) goes_on) going
      ∙ ap (λ (o : Option Access). fault_if (is_some o) unfinished) (unowned_clear v.under t free)

  rollback_passes : owner_in v ≢ Some t → MayRollBack ((v.txns t).mark) → barred v (Rollback t) ≡ None
  rollback_passes free may =
      ap (λ (b : Bool). or_else (fault_if b has_failed) (or_else (barred_to_rollback ((v.txns t).mark)) goes_on)) works
      ∙ by may
      ∙ ap (λ (o : Option Access). fault_if (is_some o) unfinished) (unowned_clear v.under t free)
    where
      by : MayRollBack ((v.txns t).mark) → or_else (barred_to_rollback ((v.txns t).mark)) goes_on ≡ goes_on
      by (inl e) = ap (λ (m : answers.Mark). or_else (barred_to_rollback m) goes_on) e
      by (inr e) = ap (λ (m : answers.Mark). or_else (barred_to_rollback m) goes_on) e

  -- a RollTo passes as a Rollback does
  roll_to_passes : (n : ℕ) → owner_in v ≢ Some t → MayRollBack ((v.txns t).mark) → barred v (RollTo t n) ≡ None
  roll_to_passes n free may = rollback_passes free may

  pub taking_passes : takes_back ((v.txns t).mark) ≡ true → barred v (Continue t) ≡ None
  taking_passes takes =
      ap (λ (b : Bool). or_else (fault_if b has_failed) (cond (is_some (pending_of v.under t)) None (barred_to_continue ((v.txns t).mark)))) works
      ∙ ap (λ (o : Option ℕ). cond (is_some (pending_of v.under t)) None o) (may_continue ((v.txns t).mark) takes)
      ∙ by (is_some (pending_of v.under t))
    where
      by : (b : Bool) → cond {A = Option ℕ} b None None ≡ None
      by true = refl
      by false = refl

      may_continue : (m : answers.Mark) → takes_back m ≡ true → barred_to_continue m ≡ None
      may_continue answers.RollingBack e = refl
      may_continue (answers.Returning n) e = refl
      may_continue answers.Idle e = absurd (cc e)
      may_continue answers.Going e = absurd (cc e)
      may_continue answers.MustRollBack e = absurd (cc e)
      may_continue answers.Committing e = absurd (cc e)

  pub continue_passes : (v.txns t).mark ≡ answers.RollingBack → barred v (Continue t) ≡ None
  continue_passes rolling = taking_passes (ap takes_back rolling)

pub moves_by : (v w : View) (step : Step) (reply : Reply) → barred v step ≡ None → Goes v step reply w → Moves v step reply w
moves_by v w step reply checked goes = subst (λ (o : Option ℕ). Answers v step reply w o) (sym checked) goes

-- what is left of a list that is not empty
pub cases_net : (e : Effect) → e ≢ [] → (c : Change) × (cs : Effect) × (e ≡ c ∷ cs)
cases_net [] some = absurd (some refl)
cases_net (c ∷ cs) some = (c, cs, refl)

seen_some : (e : Effect) → e ≢ [] → seen_effect e ≢ []
seen_some [] some = absurd (some refl)
seen_some (c ∷ cs) some = λ e. cc

pub mark_free : (m x : marks.Mark) → m ≡ x → (x ≡ Committing → ⊥) → m ≡ Committing → ⊥
mark_free m x is free waits = free (sym is ∙ waits)

pub either_free : (m : marks.Mark) → (m ≡ Going) ⊎ (m ≡ MustRollBack) → m ≡ Committing → ⊥
either_free m (inl e) = mark_free m Going e (λ x. cc x)
either_free m (inr e) = mark_free m MustRollBack e (λ x. cc x)

-- ---- a step of a store that serves

module _ (b : Base) (earlier before : List Effect) (s : Shown) (v : View) (older : History) (rows : List Transaction) (next : ℕ) (old : Table) (h : IsServing b earlier before s v older rows next old) where
  -- one that commits nothing
  pub served : (step : Step) (reply : Reply) (w : View) (longer : History) (after : List Transaction) (further : ℕ) (new : Table) → Moves v step reply w → w.failed ≡ false → IsSeen b longer w
      → committed longer ≡ committed older → effects ((shows s step (Some reply)).asked) ≡ effects s.asked → AreRows after further longer w → MatchesWithKept w new → IsServed b earlier before s v step reply w longer after further new
  served step reply w longer after further new moves works seen_by same asks table held = (
    moves,
    record {
      made = h.made;
      works = works;
      seen_by = seen_by;
      shows = step_shows (apply_all empty before) s v h.shows h.reached step reply w moves;
      reached = moves_reach _ v w step reply h.reached moves;
      says = ap (λ (es : List Effect). earlier ++ seen es) same ∙ h.says ∙ ap (λ (l : List Effect). before ++ l) (sym asks);
      table = table;
      locks = held;
    },
  )

  -- the transaction of a row that is found
  pub at : (t : ℕ) (row : Transaction) → find (is_of t) rows ≡ Some row → (row.mark ≡ Committing → ⊥) → (row.number ≡ t) × IsRow row next older × ((v.txns t).mark ≡ mark_of row.mark)
  at t row found free =
      let is = row_of_found t next older (v.txns t) (find (is_of t) rows) row found (h.table.each t) in
      (is.0, row_as row.mark row next older free is.1, is.2)

  pub new_by : (t : ℕ) (m : answers.Mark) → (v.txns t).mark ≡ m → (m ≡ answers.Committing → ⊥) → is_among t v.queue ≡ false
  new_by t m is free = elim (cases_test (is_among t v.queue)) [ inl some ↦ absurd (free (sym is ∙ (queue_marks _ v h.reached).waits t some)) | inr none ↦ none ]

  may_new : (t : ℕ) → MayRollBack ((v.txns t).mark) → is_among t v.queue ≡ false
  may_new t (inl e) = new_by t answers.Going e (λ x. cc x)
  may_new t (inr e) = new_by t answers.MustRollBack e (λ x. cc x)

  may_roll : (t : ℕ) (row : Transaction) → find (is_of t) rows ≡ Some row → (row.mark ≡ Going) ⊎ (row.mark ≡ MustRollBack) → MayRollBack ((v.txns t).mark)
  may_roll t row found (inl e) = inl ((at t row found (mark_free row.mark Going e (λ x. cc x))).2 ∙ ap mark_of e)
  may_roll t row found (inr e) = inr ((at t row found (mark_free row.mark MustRollBack e (λ x. cc x))).2 ∙ ap mark_of e)

  -- one that has no record
  nothing_logged : (t : ℕ) (row : Transaction) → find (is_of t) rows ≡ Some row → (row.mark ≡ Committing → ⊥) → row.last ≡ 0 → last_of t older ≡ 0
  nothing_logged t row found free none = let is = at t row found free in sym (is.1.last ∙ ap (λ (n : ℕ). last_of n older) is.0) ∙ none

  -- nobody keeps another lock where the structure change under way and the map are as they were
  as_kept : (u : ℕ) → kept_lock v.under v.walk u ≡ kept_lock v.under v.walk u
  as_kept u = refl

  -- t has no access that goes on
  pub clear : (t : ℕ) → owner_in v ≢ Some t → pending_of v.under t ≡ None
  clear t free = unowned_clear v.under t free

  pub still : (t : ℕ) (m : answers.Mark) → (v.txns t).mark ≡ m → (m ≡ answers.Going → ⊥) → pending_of v.under t ≡ None
  still t m is not = nothing_goes_on (apply_all empty before) v h.reached t (λ going. not (sym is ∙ going))

  -- one transaction is set, which holds what it held
  pub set_locks : (t : ℕ) (x : Txn) → x.locks ≡ (v.txns t).locks → GoWith (set_txn v.txns t x) v.under v.walk old
  set_locks t x same = same_locks v old t x h.locks same v.under v.walk as_kept

  -- and one that has given its locks back
  pub gone_locks : (t : ℕ) (new : Table) → pending_of v.under t ≡ None → IsReleased old t new → GoWith (set_txn v.txns t idle) v.under v.walk new
  gone_locks t new none r = released_locks v old new t h.locks r v.under v.walk (kept_none v.under v.walk t none) (λ u differ. refl)

  pub beside : (t : ℕ) → owner_in v ≢ Some t → (u : ℕ) (k : Key) (r : ℕ) → v.under ≡ Some (record { owner = u; aim = Puts k r }) → (t ≢ u) × IsPending v.txns v.walk u k
  beside t free u k r is = pends_beside (apply_all empty before) v h.reached h.works t (clear t free) u k r is

-- ---- accesses

pub changes_served : ChangesAreServed
changes_served b earlier before s v older longer rows next old new t lsn row a c h found mark unowned fits one decides adds on now_row =
    let is = at b earlier before s v older rows next old h t row found (mark_free row.mark Going mark (λ x. cc x)) in
    let going : (v.txns t).mark ≡ answers.Going = is.2 ∙ ap mark_of mark in
    let goes = changes-serve.decided v old new h.locks t a Granted going (beside b earlier before s v older rows next old h t unowned) decides in
    let w = did v t a (lasting_of new t) in
    served b earlier before s v older rows next old h (Do t a) (answer a v.walk) w longer (counted t lsn rows) next new
    (moves_by v w (Do t a) (answer a v.walk) (do_passes v t h.works a unowned going fits) goes.0)
    h.works
    (together.adds b older longer v t a c (lasting_of new t) h.seen_by (new_by b earlier before s v older rows next old h t answers.Going going (λ x. cc x)) one adds)
    adds.commits
    (ap effects (asks_nothing s t a v))
    (record {
      each = rows_changed t next older longer rows v.txns (did_txn (v.txns t) a v.walk (lasting_of new t)) (with_made lsn) row (λ r. refl) on h.table.each found is.0 (as_row row.mark (with_made lsn row) next longer (mark_free row.mark Going mark (λ x. cc x)) now_row) (sym (ap mark_of mark));
      active = h.table.active ∙ sym (length_map (changed t (with_made lsn)) rows);
      numbers = h.table.numbers;
    })
    goes.1

pub reads_served : ReadsAreServed
reads_served b earlier before s v older longer rows next old new t row a h found mark unowned fits none decides stays all =
    let is = at b earlier before s v older rows next old h t row found (mark_free row.mark Going mark (λ x. cc x)) in
    let going : (v.txns t).mark ≡ answers.Going = is.2 ∙ ap mark_of mark in
    let goes = changes-serve.decided v old new h.locks t a Granted going (beside b earlier before s v older rows next old h t unowned) decides in
    let w = did v t a (lasting_of new t) in
    served b earlier before s v older rows next old h (Do t a) (answer a v.walk) w longer rows next new
    (moves_by v w (Do t a) (answer a v.walk) (do_passes v t h.works a unowned going fits) goes.0)
    h.works
    (together.reads b older longer v t a (lasting_of new t) h.seen_by (new_by b earlier before s v older rows next old h t answers.Going going (λ x. cc x)) none stays)
    stays.commits
    (ap effects (asks_nothing s t a v))
    (record {
      each = rows_stay t next older longer rows v.txns (did_txn (v.txns t) a v.walk (lasting_of new t)) row all h.table.each found (sym (ap mark_of mark));
      active = h.table.active;
      numbers = h.table.numbers;
    })
    goes.1

pub waits_served : WaitsAreServed
waits_served b earlier before s v older longer rows next old new t holder row a h found mark unowned fits decides stays all =
    let is = at b earlier before s v older rows next old h t row found (mark_free row.mark Going mark (λ x. cc x)) in
    let going : (v.txns t).mark ≡ answers.Going = is.2 ∙ ap mark_of mark in
    let goes = changes-serve.decided v old new h.locks t a (Wait holder) going (beside b earlier before s v older rows next old h t unowned) decides in
    served b earlier before s v older rows next old h (Do t a) (Blocked holder) v longer rows next new
    (moves_by v v (Do t a) (Blocked holder) (do_passes v t h.works a unowned going fits) goes.0)
    h.works
    (together.stays b older longer v h.seen_by stays)
    stays.commits
    (ap effects (waits_ask_nothing s t holder a))
    (record { each = λ u. same_at u next older longer (all u) (find (is_of u) rows) (v.txns u) (h.table.each u); active = h.table.active; numbers = h.table.numbers })
    goes.1

pub dies_served : DiesAreServed
dies_served b earlier before s v older longer rows next old new t row a h found mark unowned fits decides stays all =
    let is = at b earlier before s v older rows next old h t row found (mark_free row.mark Going mark (λ x. cc x)) in
    let going : (v.txns t).mark ≡ answers.Going = is.2 ∙ ap mark_of mark in
    let goes = changes-serve.decided v old new h.locks t a MustDie going (beside b earlier before s v older rows next old h t unowned) decides in
    let w = marked v t answers.MustRollBack in
    served b earlier before s v older rows next old h (Do t a) Die w longer (map (changed t (with_mark MustRollBack)) rows) next new
    (moves_by v w (Do t a) Die (do_passes v t h.works a unowned going fits) goes.0)
    h.works
    (marked_seen b longer v t answers.MustRollBack (together.stays b older longer v h.seen_by stays))
    stays.commits
    (ap effects (dies_ask_nothing s t a))
    (record {
      each = rows_changed t next older longer rows v.txns (record (v.txns t) { mark = answers.MustRollBack }) (with_mark MustRollBack) row (λ r. refl) (λ u differ. all u) h.table.each found is.0
          (row_marked MustRollBack row next longer (row_on row next older longer (all row.number) is.1)) refl;
      active = h.table.active ∙ sym (length_map (changed t (with_mark MustRollBack)) rows);
      numbers = h.table.numbers;
    })
    goes.1

-- ---- transactions

below_of : (m : marks.Mark) (row : Transaction) (next : ℕ) (log : History) → IsRowOf m row next log → row.number < next
below_of Committing row next log r = r.below
below_of Going row next log r = r.below
below_of MustRollBack row next log r = r.below
below_of RollingBack row next log r = r.below
below_of (Returning n) row next log r = r.below

wider_row : (row : Transaction) (next : ℕ) (log : History) → IsRow row next log → IsRow row (suc next) log
wider_row row next log r = let l : row.number < next = r.below in record { number = r.number; below = omega (arith, l); last = r.last; undo = r.undo; unfinished = r.unfinished; changes = r.changes }

wider_of : (m : marks.Mark) (row : Transaction) (next : ℕ) (log : History) → IsRowOf m row next log → IsRowOf m row (suc next) log
wider_of Committing row next log r = let l : row.number < next = r.below in record { number = r.number; below = omega (arith, l); over = r.over; stack = r.stack }
wider_of Going row next log r = wider_row row next log r
wider_of MustRollBack row next log r = wider_row row next log r
wider_of RollingBack row next log r = wider_row row next log r
wider_of (Returning n) row next log r = wider_row row next log r

-- the next number is in no row
no_row : (next : ℕ) (log : History) (o : Option Transaction) (x : Txn) → IsAt next o next log x → o ≡ None
no_row next log None x is = refl
no_row next log (Some row) x is = let e : row.number ≡ next = is.0 in let l : row.number < next = below_of row.mark row next log is.1 in absurd (omega (arith, e, l))

wider : (u next : ℕ) (log : History) (o : Option Transaction) (x : Txn) → IsAt u o next log x → IsAt u o (suc next) log x
wider u next log None x is = is
wider u next log (Some row) x is = (is.0, wider_of row.mark row next log is.1, is.2)

begun_row : (next : ℕ) (log : History) → HasNone next log → 1 ≤ next → IsRow (row_begun next) (suc next) log
begun_row next log none one = record {
  number = one;
  below = omega arith;
  last = sym (none_last next log none);
  undo = sym (none_undo next log none);
  unfinished = none_finished next log none;
  changes = sym (ap (λ (stack : History). length (changes_of stack)) (none_to_undo next log none));
}

one_more : (n : ℕ) → suc n ≡ n + 1
one_more n = omega arith

pub begins_served : BeginsAreServed
begins_served b earlier before s v log rows next held h unused one few room =
    let e : v.next ≡ next = h.table.numbers in
    let none : find (is_of next) rows ≡ None = no_row next log (find (is_of next) rows) (v.txns next) (h.table.each next) in
    let free : IsAt next None next log (v.txns next) = subst (λ (o : Option Transaction). IsAt next o next log (v.txns next)) none (h.table.each next) in
    let idle_is : v.txns v.next ≡ idle = ap v.txns e ∙ free.2 in
    let few_active : v.active < 64 = subst (λ (n : ℕ). n < 64) (sym h.table.active) room in
    let checked : barred v Begin ≡ None = ap (λ (x : Bool). or_else (fault_if x has_failed) (fault_if (not (nat_lt v.active 64)) too_many)) h.works ∙ ap (λ (x : Bool). fault_if (not x) too_many) (lt-ltb v.active 64 few_active) in
    let goes : Goes v Begin (Started next) (begun v) = begins refl (subst (λ (n : ℕ). n ≤ 2 ^ 62) (sym e) few) (ap (λ (n : ℕ). Started n) (sym e)) refl in
    let x : Txn = record idle { mark = answers.Going } in
    let after = rows ++ row_begun next ∷ [] in
    let own : IsAt next (find (is_of next) after) (suc next) log x = subst (λ (o : Option Transaction). IsAt next o (suc next) log x) (sym (look_ups_follow.begun_own next rows none)) (refl, begun_row next log unused one, refl) in
    served b earlier before s v log rows next held h Begin (Started next) (begun v) log after (suc next) held
    (moves_by v (begun v) Begin (Started next) checked goes)
    h.works
    (begun_seen b log v h.seen_by (new_by b earlier before s v log rows next held h v.next answers.Idle (ap (λ (x : Txn). x.mark) idle_is) (λ x. cc x)) (ap (λ (n : ℕ). net n log) e ∙ ap changes_of free.1))
    refl
    refl
    (record {
      each = rows_after v.next next (suc next) log log rows after v.txns x (λ u differ is. wider u next log (find (is_of u) rows) (v.txns u) is) h.table.each
          (λ u differ. look_ups_follow.begun_other u next rows (λ q. differ (q ∙ sym e)))
          (subst (λ (n : ℕ). IsAt n (find (is_of n) after) (suc next) log x) (sym e) own);
      active = ap (λ (n : ℕ). suc n) h.table.active ∙ one_more (length rows) ∙ sym (length-append rows (row_begun next ∷ []));
      numbers = ap (λ (n : ℕ). suc n) e;
    })
    (let on = set_locks b earlier before s v log rows next held h v.next x (sym (ap (λ (y : Txn). y.locks) idle_is)) in record { lasting = on.0; held = on.1 })

pub commits_served : CommitsAreServed
commits_served b earlier before s v older longer rows next old new t row h found mark le free alone released on others over stack once =
    let is = at b earlier before s v older rows next old h t row found (mark_free row.mark Going mark (λ x. cc x)) in
    let going : (v.txns t).mark ≡ answers.Going = is.2 ∙ ap mark_of mark in
    let moves = moves_by v (committed_by v t) (Commit t) Committed (commit_passes v t h.works free going) (commits t refl going (inl alone) refl refl) in
    let some : net t older ≢ [] = some_stand t next older row is.0 is.1 le in
    let effect_is : (s.running t).effect ≡ seen_effect (net t older) = effect_shown s v h.shows.shown t (unowned_clear v.under t free) (inl going) ∙ ap seen_effect (h.seen_by.nets t (new_by b earlier before s v older rows next old h t answers.Going going (λ x. cc x))) in
    let asks : effects (effect_asked t true (s.running t).mark (s.running t).effect) ≡ seen_effect (net t older) ∷ [] =
    ap (λ (m : answers.Mark). effects (effect_asked t true m (s.running t).effect)) (shown_is ((s.running t).mark) ((v.txns t).mark) answers.Going (h.shows.shown.marks t) going (λ x. cc x))
    ∙ ap (λ (e : Effect). effects (effect_asked t true answers.Going e)) effect_is ∙ asked_effect t (seen_effect (net t older)) (seen_some (net t older) some) in (
      moves,
      record {
        made = h.made;
        works = h.works;
        seen_by = together.commits b older longer v t h.seen_by alone on;
        shows = step_shows (apply_all empty before) s v h.shows h.reached (Commit t) Committed (committed_by v t) moves;
        reached = moves_reach _ v (committed_by v t) (Commit t) Committed h.reached moves;
        says = ap (λ (es : List Effect). earlier ++ seen es) on.commits
            ∙ ap (λ (es : List Effect). earlier ++ es) (seen_append (committed older) (net t older ∷ []))
            ∙ sym (append_assoc earlier (seen (committed older)) (seen_effect (net t older) ∷ []))
            ∙ ap (λ (l : List Effect). l ++ seen_effect (net t older) ∷ []) h.says
            ∙ append_assoc before (effects s.asked) (seen_effect (net t older) ∷ [])
            ∙ ap (λ (l : List Effect). before ++ (effects s.asked ++ l)) (sym asks)
            ∙ ap (λ (l : List Effect). before ++ l) (sym (effects_append s.asked (effect_asked t true (s.running t).mark (s.running t).effect)));
        table = record {
          each = rows_ended t next older longer rows v.txns others h.table.each (over, stack, refl);
          active = one_fewer v.active (length rows) (length (without t rows)) h.table.active once;
          numbers = h.table.numbers;
        };
        locks = let on = gone_locks b earlier before s v older rows next old h t new (clear b earlier before s v older rows next old h t free) released in record { lasting = on.0; held = on.1 };
      },
    )

pub commits_wait : CommitsWait
commits_wait b earlier before s v older longer rows next held t row h found mark le unowned on others over stack =
    let free = mark_free row.mark Going mark (λ x. cc x) in
    let is = at b earlier before s v older rows next held h t row found free in
    let going : (v.txns t).mark ≡ answers.Going = is.2 ∙ ap mark_of mark in
    let new = new_by b earlier before s v older rows next held h t answers.Going going (λ x. cc x) in
    let some : net t older ≢ [] = some_stand t next older row is.0 is.1 le in
    let more = cases_net (net t older) some in
    let moves = moves_by v (queued v t) (Commit t) More (commit_passes v t h.works unowned going) (queues t more.0 more.1 refl going (h.seen_by.nets t new ∙ more.2) refl refl) in
    let effect_is : (s.running t).effect ≡ seen_effect (net t older) = effect_shown s v h.shows.shown t (unowned_clear v.under t unowned) (inl going) ∙ ap seen_effect (h.seen_by.nets t new) in
    let asks : effects (effect_asked t false (s.running t).mark (s.running t).effect) ≡ seen_effect (net t older) ∷ [] =
    ap (λ (m : answers.Mark). effects (effect_asked t false m (s.running t).effect)) (shown_is ((s.running t).mark) ((v.txns t).mark) answers.Going (h.shows.shown.marks t) going (λ x. cc x))
    ∙ ap (λ (e : Effect). effects (effect_asked t false answers.Going e)) (effect_is ∙ ap seen_effect more.2) ∙ ap (λ (e : Effect). seen_effect e ∷ []) (sym more.2) in (
      moves,
      record {
        made = h.made;
        works = h.works;
        seen_by = together.queues b older longer v t h.seen_by new on;
        shows = step_shows (apply_all empty before) s v h.shows h.reached (Commit t) More (queued v t) moves;
        reached = moves_reach _ v (queued v t) (Commit t) More h.reached moves;
        says = ap (λ (es : List Effect). earlier ++ seen es) on.commits
            ∙ ap (λ (es : List Effect). earlier ++ es) (seen_append (committed older) (net t older ∷ []))
            ∙ sym (append_assoc earlier (seen (committed older)) (seen_effect (net t older) ∷ []))
            ∙ ap (λ (l : List Effect). l ++ seen_effect (net t older) ∷ []) h.says
            ∙ append_assoc before (effects s.asked) (seen_effect (net t older) ∷ [])
            ∙ ap (λ (l : List Effect). before ++ (effects s.asked ++ l)) (sym asks)
            ∙ ap (λ (l : List Effect). before ++ l) (sym (effects_append s.asked (effect_asked t false (s.running t).mark (s.running t).effect)));
        table = record {
          each = rows_changed t next older longer rows v.txns (record (v.txns t) { mark = answers.Committing }) (with_mark Committing) row (λ r. refl) others h.table.each found is.0
              (record {
                number = is.1.number;
                below = is.1.below;
                over = ap (λ (n : ℕ). is_finished n longer) is.0 ∙ over;
                stack = ap (λ (n : ℕ). to_undo n longer) is.0 ∙ stack;
              })
              refl;
          active = h.table.active ∙ sym (length_map (changed t (with_mark Committing)) rows);
          numbers = h.table.numbers;
        };
        locks = let on = set_locks b earlier before s v older rows next held h t (record (v.txns t) { mark = answers.Committing }) refl in record { lasting = on.0; held = on.1 };
      },
    )

-- it has no record
over_by : (t : ℕ) (log : History) → last_of t log ≡ 0 → IsOver t log
over_by t log none one le = absurd (omega (arith, le, none))

stays_here : (b : Base) (log : History) → Stays b log log
stays_here b log = record { commits = refl; walk = refl; nets = λ u. refl }

-- one all of whose changes are taken back, ended by records that change nothing else
pub empty_commits : (b : Base) (earlier before : List Effect) (s : Shown) (v : View) (older longer : History) (rows : List Transaction) (next : ℕ) (old new : Table) (t : ℕ) (row : Transaction)
    → IsServing b earlier before s v older rows next old → find (is_of t) rows ≡ Some row → row.mark ≡ Going → owner_in v ≢ Some t → Stays b older longer → IsOfOthers t older longer → IsOver t longer → to_undo t longer ≡ [] → IsReleased old t new → length rows ≡ length (without t rows) + 1
    → IsServed b earlier before s v (Commit t) Committed (committed_by v t) longer (without t rows) next new
empty_commits b earlier before s v older longer rows next old new t row h found mark unowned stays others over stack released once =
    let is = at b earlier before s v older rows next old h t row found (mark_free row.mark Going mark (λ x. cc x)) in
    let going : (v.txns t).mark ≡ answers.Going = is.2 ∙ ap mark_of mark in
    let new_one = new_by b earlier before s v older rows next old h t answers.Going going (λ x. cc x) in
    let seen_now = together.stays b older longer v h.seen_by stays in
    let empty : net t longer ≡ [] = ap changes_of stack in
    let none : (v.txns t).net ≡ [] = seen_now.nets t new_one ∙ empty in
    let effect_is : (s.running t).effect ≡ [] = effect_shown s v h.shows.shown t (unowned_clear v.under t unowned) (inl going) ∙ ap seen_effect none in
    served b earlier before s v older rows next old h (Commit t) Committed (committed_by v t) longer (without t rows) next new
    (moves_by v (committed_by v t) (Commit t) Committed (commit_passes v t h.works unowned going) (commits t refl going (inr none) refl refl))
    h.works
    (empty_seen b longer v t seen_now new_one empty)
    stays.commits
    (ap effects (ap (λ (l : List Asked). s.asked ++ l) (empty_asked t true (s.running t).mark (s.running t).effect effect_is) ∙ append-nil s.asked))
    (record {
      each = rows_ended t next older longer rows v.txns others h.table.each (over, stack, refl);
      active = one_fewer v.active (length rows) (length (without t rows)) h.table.active once;
      numbers = h.table.numbers;
    })
    (let on = gone_locks b earlier before s v older rows next old h t new (clear b earlier before s v older rows next old h t unowned) released in record { lasting = on.0; held = on.1 })

pub empty_rollbacks : (b : Base) (earlier before : List Effect) (s : Shown) (v : View) (older longer : History) (rows : List Transaction) (next : ℕ) (old new : Table) (t : ℕ) (row : Transaction)
    → IsServing b earlier before s v older rows next old → find (is_of t) rows ≡ Some row → (row.mark ≡ Going) ⊎ (row.mark ≡ MustRollBack) → owner_in v ≢ Some t → Stays b older longer → IsOfOthers t older longer → IsOver t longer → to_undo t longer ≡ [] → IsReleased old t new
    → length rows ≡ length (without t rows) + 1 → IsServed b earlier before s v (Rollback t) RolledBack (dropped_by v t) longer (without t rows) next new
empty_rollbacks b earlier before s v older longer rows next old new t row h found mark unowned stays others over stack released once =
    let may = may_roll b earlier before s v older rows next old h t row found mark in
    let new_one = may_new b earlier before s v older rows next old h t may in
    let seen_now = together.stays b older longer v h.seen_by stays in
    let empty : net t longer ≡ [] = ap changes_of stack in
    served b earlier before s v older rows next old h (Rollback t) RolledBack (dropped_by v t) longer (without t rows) next new
    (moves_by v (dropped_by v t) (Rollback t) RolledBack (rollback_passes v t h.works unowned may) (drops t refl may (seen_now.nets t new_one ∙ empty) refl refl))
    h.works
    (dropped_seen b longer v t seen_now new_one empty)
    stays.commits
    refl
    (record {
      each = rows_ended t next older longer rows v.txns others h.table.each (over, stack, refl);
      active = one_fewer v.active (length rows) (length (without t rows)) h.table.active once;
      numbers = h.table.numbers;
    })
    (let on = gone_locks b earlier before s v older rows next old h t new (clear b earlier before s v older rows next old h t unowned) released in record { lasting = on.0; held = on.1 })

pub unlogged_commits_served : UnloggedCommitsAreServed
unlogged_commits_served b earlier before s v log rows next old new t row h rises found mark unowned none released once =
    let last_is = nothing_logged b earlier before s v log rows next old h t row found (mark_free row.mark Going mark (λ x. cc x)) none in
    empty_commits b earlier before s v log log rows next old new t row h found mark unowned (stays_here b log) (λ u differ. same_here u log) (over_by t log last_is) (unlogged b t log rises last_is) released once

pub drops_served : DropsAreServed
drops_served b earlier before s v log rows next old new t row h rises found mark unowned none released once =
    let last_is = nothing_logged b earlier before s v log rows next old h t row found (either_free row.mark mark) none in
    empty_rollbacks b earlier before s v log log rows next old new t row h found mark unowned (stays_here b log) (λ u differ. same_here u log) (over_by t log last_is) (unlogged b t log rises last_is) released once

-- one that was marked, and its row
module _ (b : Base) (earlier before : List Effect) (s : Shown) (v : View) (log : History) (rows : List Transaction) (next : ℕ) (held : Table) (t : ℕ) (row : Transaction) (h : IsServing b earlier before s v log rows next held) (found : find (is_of t) rows ≡ Some row)
    (mark : (row.mark ≡ Going) ⊎ (row.mark ≡ MustRollBack)) where
  remarked : (m : marks.Mark) (step : Step) (reply : Reply) → IsRowOf m (with_mark m row) next log → Moves v step reply (marked v t (mark_of m)) → effects ((shows s step (Some reply)).asked) ≡ effects s.asked
      → IsServed b earlier before s v step reply (marked v t (mark_of m)) log (map (changed t (with_mark m)) rows) next held
  remarked m step reply now moves asks =
      let is = at b earlier before s v log rows next held h t row found (either_free row.mark mark) in
      served b earlier before s v log rows next held h step reply (marked v t (mark_of m)) log (map (changed t (with_mark m)) rows) next held
      moves
      h.works
      (marked_seen b log v t (mark_of m) h.seen_by)
      refl
      asks
      (record {
        each = rows_changed t next log log rows v.txns (record (v.txns t) { mark = mark_of m }) (with_mark m) row (λ r. refl) (λ u differ. same_here u log) h.table.each found is.0 now refl;
        active = h.table.active ∙ sym (length_map (changed t (with_mark m)) rows);
        numbers = h.table.numbers;
      })
      (let on = set_locks b earlier before s v log rows next held h t (record (v.txns t) { mark = mark_of m }) refl in record { lasting = on.0; held = on.1 })

  -- its count is the machine's
  counts : row.changes ≡ length ((v.txns t).net)
  counts =
      let is = at b earlier before s v log rows next held h t row found (either_free row.mark mark) in
      let may = may_roll b earlier before s v log rows next held h t row found mark in
      counted_at t next log row is.0 is.1 ∙ ap (λ (e : Effect). length e) (sym (h.seen_by.nets t (may_new b earlier before s v log rows next held h t may)))

pub turns_served : TurnsAreServed
turns_served b earlier before s v log rows next held t row h found mark some free =
    let is = at b earlier before s v log rows next held h t row found (either_free row.mark mark) in
    let may = may_roll b earlier before s v log rows next held h t row found mark in
    let more = cases_net (net t log) (some_stand t next log row is.0 is.1 some) in
    let moves = moves_by v (marked v t answers.RollingBack) (Rollback t) More (rollback_passes v t h.works free may)
    (turns t more.0 more.1 refl may (h.seen_by.nets t (may_new b earlier before s v log rows next held h t may) ∙ more.2) refl refl) in
    remarked b earlier before s v log rows next held t row h found mark RollingBack (Rollback t) More (row_marked RollingBack row next log is.1) moves refl

pub returns_stay : ReturnsStay
returns_stay b earlier before s v log rows next held t n row h found mark few free =
    let is = at b earlier before s v log rows next held h t row found (either_free row.mark mark) in
    let may = may_roll b earlier before s v log rows next held h t row found mark in
    let moves = moves_by v (marked v t answers.Going) (RollTo t n) Done (roll_to_passes v t h.works n free may) (stays_back t n refl may (subst (λ (k : ℕ). k ≤ n) (counts b earlier before s v log rows next held t row h found mark) few) refl refl) in
    remarked b earlier before s v log rows next held t row h found mark Going (RollTo t n) Done (row_marked Going row next log is.1) moves refl

pub returns_turn : ReturnsTurn
returns_turn b earlier before s v log rows next held t n row h found mark more free =
    let is = at b earlier before s v log rows next held h t row found (either_free row.mark mark) in
    let may = may_roll b earlier before s v log rows next held h t row found mark in
    let moves = moves_by v (marked v t (answers.Returning n)) (RollTo t n) More (roll_to_passes v t h.works n free may) (turns_back t n refl may (subst (λ (k : ℕ). n < k) (counts b earlier before s v log rows next held t row h found mark) more) refl refl) in
    remarked b earlier before s v log rows next held t row h found mark (Returning n) (RollTo t n) More (row_marked (Returning n) row next log is.1) moves refl

-- a change of t was taken back, and its row says so
module _ (b : Base) (earlier before : List Effect) (s : Shown) (v : View) (older longer : History) (rows : List Transaction) (next : ℕ) (held : Table) (t last undo_next : ℕ) (row : Transaction) (c : Change)
    (h : IsServing b earlier before s v older rows next held) (found : find (is_of t) rows ≡ Some row) (taking : takes_back (mark_of row.mark) ≡ true) (on : TakesBack b t c older longer) (others : IsOfOthers t older longer)
    (now_row : IsRow (with_undone last undo_next row) next longer) where
  taking_free : row.mark ≡ Committing → ⊥
  taking_free e = let never : false ≡ true = sym (ap (λ (m : marks.Mark). takes_back (mark_of m)) e) ∙ taking in cc never

  taking_at : (row.number ≡ t) × IsRow row next older × ((v.txns t).mark ≡ mark_of row.mark)
  taking_at = at b earlier before s v older rows next held h t row found taking_free

  takes : takes_back ((v.txns t).mark) ≡ true
  takes = ap takes_back taking_at.2 ∙ taking

  taking_new : is_among t v.queue ≡ false
  taking_new = new_by b earlier before s v older rows next held h t ((v.txns t).mark) refl (λ e. let never : false ≡ true = sym (ap takes_back e) ∙ takes in cc never)

  pub back_net : (v.txns t).net ≡ c ∷ net t longer
  back_net = h.seen_by.nets t taking_new ∙ on.own

  abbrev back_view : View
  back_view = undid_more v t c (net t longer)

  abbrev back_rows : List Transaction
  back_rows = map (changed t (with_undone last undo_next)) rows

  pub back_found : find (is_of t) back_rows ≡ Some (with_undone last undo_next row)
  back_found = look_ups_follow.changed_own t (with_undone last undo_next) (λ r. refl) rows row found

  pub back_seen : IsSeen b longer back_view
  back_seen = together.takes_back b older longer v t c (net t longer) h.seen_by taking_new back_net on

  pub back_table : AreRows back_rows next longer back_view
  back_table = record {
    each = rows_after t next next older longer rows back_rows v.txns (record (v.txns t) { net = net t longer })
        (λ u differ at_u. same_at u next older longer (others u differ) (find (is_of u) rows) (v.txns u) at_u)
        h.table.each
        (λ u differ. look_ups_follow.changed_other u t (with_undone last undo_next) (λ r. refl) rows differ)
        (subst (λ (o : Option Transaction). IsAt t o next longer (record (v.txns t) { net = net t longer })) (sym back_found)
        (taking_at.0, as_row row.mark (with_undone last undo_next row) next longer taking_free now_row, taking_at.2));
    active = h.table.active ∙ sym (length_map (changed t (with_undone last undo_next)) rows);
    numbers = h.table.numbers;
  }

  pub back_locks : MatchesWithKept back_view held
  back_locks =
      let still : (v.txns t).mark ≡ answers.Going → ⊥ = λ e. let never : false ≡ true = sym (ap takes_back e) ∙ takes in cc never in
      let locks = same_locks v held t (record (v.txns t) { net = net t longer }) h.locks refl (of_others t v.under) (undone v.walk c) (kept_undone (apply_all empty before) v h.reached h.works t c (net t longer) still back_net) in
      record { lasting = locks.0; held = locks.1 }

  pub taken_back : (reply : Reply) → effects ((shows s (Continue t) (Some reply)).asked) ≡ effects s.asked → Goes v (Continue t) reply back_view → IsServed b earlier before s v (Continue t) reply back_view longer back_rows next held
  taken_back reply asks goes =
      served b earlier before s v older rows next held h (Continue t) reply back_view longer back_rows next held
      (moves_by v back_view (Continue t) reply (taking_passes v t h.works takes) goes) h.works back_seen on.commits asks back_table back_locks

pub undo_served : UndoIsServed
undo_served b earlier before s v older longer rows next held t last undo_next row c h found mark on left others now_row =
    let taking : takes_back (mark_of row.mark) ≡ true = ap (λ (m : marks.Mark). takes_back (mark_of m)) mark in
    let is = taking_at b earlier before s v older longer rows next held t last undo_next row c h found taking on others now_row in
    let net_is = back_net b earlier before s v older longer rows next held t last undo_next row c h found taking on others now_row in
    let more = cases_net (net t longer) left in
    taken_back b earlier before s v older longer rows next held t last undo_next row c h found taking on others now_row More refl
    (undoes t c more.0 more.1 refl (is.2 ∙ ap mark_of mark) (net_is ∙ ap (λ (e : Effect). c ∷ e) more.2) refl (ap (λ (e : Effect). undid_more v t c e) more.2))

-- it returns to n changes, and has more, or these
pub gives_served : (b : Base) (earlier before : List Effect) (s : Shown) (v : View) (older longer : History) (rows : List Transaction) (next : ℕ) (held : Table) (t n last undo_next : ℕ) (row : Transaction) (c : Change)
    → IsServing b earlier before s v older rows next held → find (is_of t) rows ≡ Some row → row.mark ≡ Returning n → TakesBack b t c older longer → n < length (net t longer) → IsOfOthers t older longer → IsRow (with_undone last undo_next row) next longer
    → IsServed b earlier before s v (Continue t) More (undid_more v t c (net t longer)) longer (map (changed t (with_undone last undo_next)) rows) next held
gives_served b earlier before s v older longer rows next held t n last undo_next row c h found mark on left others now_row =
    let taking : takes_back (mark_of row.mark) ≡ true = ap (λ (m : marks.Mark). takes_back (mark_of m)) mark in
    let is = taking_at b earlier before s v older longer rows next held t last undo_next row c h found taking on others now_row in
    let net_is = back_net b earlier before s v older longer rows next held t last undo_next row c h found taking on others now_row in
    taken_back b earlier before s v older longer rows next held t last undo_next row c h found taking on others now_row More refl (gives_back t n c (net t longer) refl (is.2 ∙ ap mark_of mark) net_is left refl refl)

pub is_back_served : (b : Base) (earlier before : List Effect) (s : Shown) (v : View) (older longer : History) (rows : List Transaction) (next : ℕ) (held : Table) (t n last undo_next : ℕ) (row : Transaction) (c : Change)
    → IsServing b earlier before s v older rows next held → find (is_of t) rows ≡ Some row → row.mark ≡ Returning n → TakesBack b t c older longer → n ≡ length (net t longer) → IsOfOthers t older longer → IsRow (with_undone last undo_next row) next longer
    → IsServed b earlier before s v (Continue t) Done (marked (undid_more v t c (net t longer)) t answers.Going) longer (map (changed t (with_mark Going)) (map (changed t (with_undone last undo_next)) rows)) next held
is_back_served b earlier before s v older longer rows next held t n last undo_next row c h found mark on left others now_row =
    let taking : takes_back (mark_of row.mark) ≡ true = ap (λ (m : marks.Mark). takes_back (mark_of m)) mark in
    let is = taking_at b earlier before s v older longer rows next held t last undo_next row c h found taking on others now_row in
    let net_is = back_net b earlier before s v older longer rows next held t last undo_next row c h found taking on others now_row in
    let mid = undid_more v t c (net t longer) in
    let mid_rows = map (changed t (with_undone last undo_next)) rows in
    let mid_row = with_undone last undo_next row in
    let seen_mid = back_seen b earlier before s v older longer rows next held t last undo_next row c h found taking on others now_row in
    let table_mid = back_table b earlier before s v older longer rows next held t last undo_next row c h found taking on others now_row in
    let locks_mid = back_locks b earlier before s v older longer rows next held t last undo_next row c h found taking on others now_row in
    let found_mid = back_found b earlier before s v older longer rows next held t last undo_next row c h found taking on others now_row in
    let w = marked mid t answers.Going in
    served b earlier before s v older rows next held h (Continue t) Done w longer (map (changed t (with_mark Going)) mid_rows) next held
    (moves_by v w (Continue t) Done (taking_passes v t h.works (ap takes_back is.2 ∙ taking)) (is_back t n c (net t longer) refl (is.2 ∙ ap mark_of mark) net_is left refl refl))
    h.works
    (marked_seen b longer mid t answers.Going seen_mid)
    on.commits
    refl
    (record {
      each = rows_changed t next longer longer mid_rows mid.txns (record (mid.txns t) { mark = answers.Going }) (with_mark Going) mid_row (λ r. refl) (λ u differ. same_here u longer) table_mid.each found_mid is.0 (row_marked Going mid_row next longer now_row) refl;
      active = table_mid.active ∙ sym (length_map (changed t (with_mark Going)) mid_rows);
      numbers = table_mid.numbers;
    })
    (let locks = same_locks mid held t (record (mid.txns t) { mark = answers.Going }) locks_mid refl mid.under mid.walk (λ u. refl) in record { lasting = locks.0; held = locks.1 })

pub ends_served : EndsAreServed
ends_served b earlier before s v older longer rows next old new t row c h found mark on none others over stack released once =
    let is = at b earlier before s v older rows next old h t row found (mark_free row.mark RollingBack mark (λ x. cc x)) in
    let rolling : (v.txns t).mark ≡ answers.RollingBack = is.2 ∙ ap mark_of mark in
    let net_is : (v.txns t).net ≡ c ∷ [] = h.seen_by.nets t (new_by b earlier before s v older rows next old h t answers.RollingBack rolling (λ x. cc x)) ∙ on.own ∙ ap (λ (e : Effect). c ∷ e) none in
    let w = undid_last v t c in
    served b earlier before s v older rows next old h (Continue t) RolledBack w longer (without t rows) next new
    (moves_by v w (Continue t) RolledBack (continue_passes v t h.works rolling) (ends t c refl rolling net_is refl refl))
    h.works
    (together.takes_last b older longer v t c h.seen_by (new_by b earlier before s v older rows next old h t answers.RollingBack rolling (λ x. cc x)) net_is on)
    on.commits
    refl
    (record {
      each = rows_after t next next older longer rows (without t rows) v.txns idle
          (λ u differ at_u. same_at u next older longer (others u differ) (find (is_of u) rows) (v.txns u) at_u)
          h.table.each
          (λ u differ. look_ups_follow.ended_other u t rows differ)
          (subst (λ (o : Option Transaction). IsAt t o next longer idle) (sym (look_ups_follow.ended_own t rows)) (over, stack, refl));
      active = one_fewer v.active (length rows) (length (without t rows)) h.table.active once;
      numbers = h.table.numbers;
    })
    (let kept = kept_undone (apply_all empty before) v h.reached h.works t c [] (λ going. let never : answers.Going ≡ answers.RollingBack = sym going ∙ rolling in cc never) net_is in
    let on = released_locks v old new t h.locks released (of_others t v.under) (undone v.walk c)
    (kept t ∙ kept_none v.under v.walk t (still b earlier before s v older rows next old h t answers.RollingBack rolling (λ x. cc x)))
    (λ u differ. kept u) in
    record { lasting = on.0; held = on.1 })

-- ---- the store

pub flushes_served : FlushesAreServed
flushes_served b earlier before s v older longer rows next held p h stays all =
    served b earlier before s v older rows next held h (FlushPage p) Done v longer rows next held
    (moves_by v v (FlushPage p) Done (ap (λ (x : Bool). fault_if x has_failed) h.works) (flushes p refl refl refl))
    h.works
    (together.stays b older longer v h.seen_by stays)
    stays.commits
    refl
    (record { each = λ u. same_at u next older longer (all u) (find (is_of u) rows) (v.txns u) (h.table.each u); active = h.table.active; numbers = h.table.numbers })
    h.locks

none_stays : (u : ℕ) (ts : List ℕ) (rows : List Transaction) → find (is_of u) rows ≡ None → find (is_of u) (without_all ts rows) ≡ None
none_stays u [] rows none = none
none_stays u (t ∷ ts) rows none = none_stays u ts (without t rows) (elim (cases_number u t) [
  | inl e ↦ subst (λ (n : ℕ). find (is_of n) (without t rows) ≡ None) (sym e) (look_ups_follow.ended_own t rows)
  | inr ne ↦ look_ups_follow.ended_other u t rows ne ∙ none
])

all_gone : (u : ℕ) (ts : List ℕ) (rows : List Transaction) → is_among u ts ≡ true → find (is_of u) (without_all ts rows) ≡ None
all_gone u [] rows some = absurd (cc some)
all_gone u (t ∷ ts) rows some = elim (cases_number u t) [
  | inl e ↦ none_stays u ts (without t rows) (subst (λ (n : ℕ). find (is_of n) (without t rows) ≡ None) (sym e) (look_ups_follow.ended_own t rows))
  | inr ne ↦ all_gone u ts (without t rows) (ap (λ (x : Bool). x || is_among u ts) (sym (ne_eqb u t ne)) ∙ some)
]

others_stay : (u : ℕ) (ts : List ℕ) (rows : List Transaction) → is_among u ts ≡ false → find (is_of u) (without_all ts rows) ≡ find (is_of u) rows
others_stay u [] rows none = refl
others_stay u (t ∷ ts) rows none = let out = among_other u t ts none in others_stay u ts (without t rows) out.1 ∙ look_ups_follow.ended_other u t rows out.0

-- the row of one that waits
waiting_over : (u next : ℕ) (log : History) (o : Option Transaction) (x : Txn) → x.mark ≡ answers.Committing → IsAt u o next log x → IsOver u log × (to_undo u log ≡ [])
waiting_over u next log None x waits is = absurd (let never : answers.Committing ≡ answers.Idle = sym waits ∙ ap (λ (y : Txn). y.mark) is.2 in cc never)
waiting_over u next log (Some row) x waits is = by row.mark refl is.1
  where
    clash : (m : marks.Mark) → row.mark ≡ m → mark_of m ≡ answers.Committing
    clash m e = ap mark_of (sym e) ∙ sym is.2 ∙ waits

    by : (m : marks.Mark) → row.mark ≡ m → IsRowOf row.mark row next log → IsOver u log × (to_undo u log ≡ [])
    by Committing e r =
        let w : IsWaitingRow row next log = subst (λ (m : marks.Mark). IsRowOf m row next log) e r in
        (λ one le. ap (λ (n : ℕ). is_finished n log) (sym is.0) ∙ w.over, ap (λ (n : ℕ). to_undo n log) (sym is.0) ∙ w.stack)
    by Going e r = absurd (let never = clash Going e in cc never)
    by MustRollBack e r = absurd (let never = clash MustRollBack e in cc never)
    by RollingBack e r = absurd (let never = clash RollingBack e in cc never)
    by (Returning n) e r = absurd (let never = clash (Returning n) e in cc never)

pub forces_served : ForcesAreServed
forces_served b earlier before s v older longer rows next old new h stays all released count =
    let queue = queue_marks _ v h.reached in
    served b earlier before s v older rows next old h Force Done (forced_by v) longer (without_all v.queue rows) next new
    (moves_by v (forced_by v) Force Done (ap (λ (x : Bool). fault_if x has_failed) h.works) (forces refl refl refl))
    h.works
    (together.forces b longer v (together.stays b older longer v h.seen_by stays))
    stays.commits
    (effects_acked s.asked)
    (record {
      each = by_force_txn (λ u y. IsAt u (find (is_of u) (without_all v.queue rows)) next longer y) v.txns v.queue
          (λ u some.
          let was = waiting_over u next older (find (is_of u) rows) (v.txns u) (queue.waits u some) (h.table.each u) in
          subst (λ (o : Option Transaction). IsAt u o next longer idle) (sym (all_gone u v.queue rows some)) (same_at u next older longer (all u) None idle (was.0, was.1, refl)))
          (λ u none. subst (λ (o : Option Transaction). IsAt u o next longer (v.txns u)) (sym (others_stay u v.queue rows none)) (same_at u next older longer (all u) (find (is_of u) rows) (v.txns u) (h.table.each u)));
      active = let a : v.active ≡ length rows = h.table.active in omega (arith, a, count);
      numbers = h.table.numbers;
    })
    (let on = forced_locks (apply_all empty before) v old new h.reached h.locks released in record { lasting = on.0; held = on.1 })

pub checkpoints_served : CheckpointsAreServed
checkpoints_served b earlier before s v older longer rows next held h stays all =
    served b earlier before s v older rows next held h Checkpoint Done v longer rows next held
    (moves_by v v Checkpoint Done (ap (λ (x : Bool). fault_if x has_failed) h.works) (checkpoints refl refl refl))
    h.works
    (together.stays b older longer v h.seen_by stays)
    stays.commits
    refl
    (record { each = λ u. same_at u next older longer (all u) (find (is_of u) rows) (v.txns u) (h.table.each u); active = h.table.active; numbers = h.table.numbers })
    h.locks

-- ---- refusals

pub barred_served : BarredStepsAreServed
barred_served b earlier before s v log rows next held step fault h checked =
    served b earlier before s v log rows next held h step (Refused fault) v log rows next held
    (subst (λ (o : Option ℕ). Answers v step (Refused fault) v o) (sym checked) (refl, refl))
    h.works
    h.seen_by
    refl
    (ap effects (refusals_ask_nothing fault step s (λ t is. elim (going_free v.failed (is_some (pending_of v.under t)) fault ((v.txns t).mark) h.works (sym (ap (λ (x : Step). barred v x) is) ∙ checked)) [
      | inl quiet ↦ inl quiet
      | inr still ↦ inr (λ going. still (is_shown_so ((s.running t).mark) ((v.txns t).mark) answers.Going (h.shows.shown.marks t) going (λ x. cc x)))
    ])))
    h.table
    h.locks

pub lacks_served : LacksAreServed
lacks_served b earlier before s v older longer rows next held step fault h checked wants stays all =
    served b earlier before s v older rows next held h step (Refused fault) v longer rows next held
    (moves_by v v step (Refused fault) checked (lacks fault wants refl refl))
    h.works
    (together.stays b older longer v h.seen_by stays)
    stays.commits
    (ap effects (refusals_ask_nothing fault step s (λ t is. inl (commit_wants step fault t wants is))))
    (record { each = λ u. same_at u next older longer (all u) (find (is_of u) rows) (v.txns u) (h.table.each u); active = h.table.active; numbers = h.table.numbers })
    h.locks

-- ---- what an opening leaves

-- the map that the log's first map and its Commits make
pub map_made : (b : Base) (earlier before : List Effect) (log : History) → apply_all empty earlier ≡ b.map → earlier ++ seen (committed log) ≡ before → apply_all empty before ≡ apply_all b.map (committed log)
map_made b earlier before log made is =
    ap (apply_all empty) (sym is) ∙ apply_all_append empty earlier (seen (committed log)) ∙ ap (λ (m : IndexMap). apply_all m (seen (committed log))) made ∙ apply_all_seen b.map (committed log)

pub opened_serves : OpenedStoresServe
opened_serves b earlier before log next made is over stack walk = record {
  made = made;
  works = refl;
  seen_by = record {
    finished = committed log;
    all = sym (append-nil (committed log));
    answered = map_is;
    walk = map_is ∙ sym walk;
    nets = λ t none. sym (ap changes_of (stack t));
    over = λ t some. absurd (cc some);
  };
  shows = record { shown = record { failed = refl; marks = λ t. inl refl; pending = λ t. refl; effects = λ t may. refl; returns = λ t n is. absurd (cc is) }; commits = refl; clean = λ q. record { done = []; waiting = []; all = refl; acked = tt; none = tt; are = refl } };
  reached = record { trace = []; first = next; run = refl };
  says = is ∙ sym (append-nil before);
  table = record { each = λ t. (over t, stack t, refl); active = refl; numbers = refl };
  locks = record { lasting = λ s. refl; held = λ s. same_itself [] };
}
  where
    map_is : apply_all empty before ≡ apply_all b.map (committed log)
    map_is = map_made b earlier before log made is

pub new_serves : NewStoresServe
new_serves b earlier made =
    subst (λ (m : IndexMap). IsServing b earlier earlier nothing_shown (start m 1) [] [] 1 []) made (opened_serves b earlier earlier [] 1 made (append-nil earlier) (λ t one le. absurd (omega (arith, le))) (λ t. refl) refl)

-- where nothing is left to undo, the tree holds what is committed
pub quiet_logs : (tree : Tree) → QuietLogsHoldCommitted tree
quiet_logs tree b log law none = no_nets (apply_all b.map (committed log)) (contents b log) (λ (t : ℕ). net t log) (nets_of b tree log law) (λ t. ap changes_of (none t))
