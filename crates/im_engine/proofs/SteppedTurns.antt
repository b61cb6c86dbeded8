-- Changes that are taken back in a store whose structure changes are made page by page: what a step of that is.
use Rattle.std.proofs.Common.{◌≡◌, ◌≢◌, inl, inr, ℕ, ◌+◌, ◌≤◌, ◌<◌, ◌^◌, suc, List, [], ◌∷◌, ◌++◌, Bool, true, false, Option, Some, None, Ok, length, map, refl, sym, ap, subst, ◌∙◌, arith}
use Rattle.std.specs.Prelude.{find, zero, suc, ◌==◌}
use Rattle.std.proofs.lemmas.Bool.{cases_Bool, cond-false, cond-true, eq-eqb, ne_eqb}
use Rattle.im_base_types.specs.Answers.{Continue, More, RolledBack, BlockedTree, Refused}
use Rattle.im_base_types.specs.Changes.{Change, Effect}
use Rattle.im_base_types.specs.Faults.{number_of}
use Rattle.im_base_types.specs.Lives.{Asked, Shown, shows}
use Rattle.im_base_types.specs.Records.{Logged}
use Rattle.im_base_types.specs.declared.fault.Fault.{Fault}
use Rattle.im_base_types.specs.declared.fault.Fault.TheVariants.{Capacity, Failed, LogFull, Device, Memory, NotAStore}
use Rattle.im_base_disk.specs.declared.disk.Disk.{Ghosts}
use Rattle.im_base_disk.specs.Disk.{Files}
use Rattle.im_base_disk.specs.Runs.{LeavesOnly}
use Rattle.im_base_disk.proofs.Runs.{weakened}
use Rattle.im_base_txn.specs.LookUps.{without}
use Rattle.im_base_txn.specs.Rows.{changed, is_of, with_record}
use Rattle.im_base_txn.specs.declared.transaction.Transaction.{Transaction}
use Rattle.im_theory_log.specs.Histories.{Base, History, Rises, end_of}
use Rattle.im_theory_log.specs.Lawful.{IsLawful}
use Rattle.im_theory_log.specs.Transactions.{committed, last_of, net, to_undo, undo_next_of, is_finished}
use Rattle.im_theory_log.specs.Writer.{Writer}
use Rattle.im_theory_log.proofs.Fronts.{rises}
use Rattle.im_log.proofs.Above.{front_then}
use Rattle.im_log.specs.Spelled.{logged_at}
use Rattle.im_log_record.specs.Entry as entries
use Rattle.im_page_writer.specs.declared.page_writer.PageWriter.{PageWriter}
use Rattle.im_page_table.specs.DirtyTable.{FitsRecord}
use Rattle.im_page_writer.specs.PageWriter.{Evicted}
use Rattle.im_theory_tree.specs.Theory.{page_tree}
use Rattle.im_tree_search.specs.declared.change_beside.Beside.{Beside}
use Rattle.im_smo_log.specs.Changes.{GrowsByChange}
use Rattle.im_smo_log.specs.Logged.{smo_at}
use Rattle.im_smo_actions.proofs.Growth.{images_as_change}
use Rattle.im_smo_actions.specs.declared.begun_change.BegunChange.{BegunChange}
use Rattle.im_restart_analysis.specs.Losers.{row_of}
use Rattle.im_restart_undo.specs.declared.back.Back.TheVariants.{Plain}
use Rattle.im_restart_undo.specs.GoingBeside.{IsGoingBeside}
use Rattle.im_restart_undo.specs.Undoing.{LeavesUndo, LeftByUndo}
use Rattle.im_restart_undo.proofs.Growth.{grows_change}
use Rattle.im_engine_rollback.specs.Ends.{TurnEnds, may_turn}
use Rattle.im_engine_rollback.specs.InSteps.{InStepsKept, IsDropping, IsSplitting}
use Rattle.im_engine_rollback.specs.declared.undone_in_steps.UndoneInSteps.{UndoneInSteps}
use Rattle.im_tree_search.specs.declared.sight.Sight.{Sight}
use Rattle.im_engine_rollback.specs.SplitsBack.{IsSplitBack}
use Rattle.im_engine_rollback.specs.declared.undone.Undone.TheVariants as turns
use Rattle.im_engine_rollback.specs.TurnsBeside.{HasEndedBeside, IsHiddenBack, MadeBeside, TookBeside}
use Rattle.im_theory_machine.specs.Machine.{barred}
use Rattle.im_theory_machine.specs.Table.{IsReleased, Table, locks_of, lasting_of}
use Rattle.im_theory_machine.specs.View as views
use Rattle.im_theory_machine.specs.View.{View, of_others, owner_in, owner_of, owns_in, undid_last, undid_more, with_change}
use Rattle.im_theory_steps.specs.Checks.{checked_by}
use Rattle.im_theory_steps.specs.Growth.{AreBelow, GrowsByStructure, GrowsWithin}
use Rattle.im_theory_steps.specs.Serving.{IsRow, IsServed, IsServing, mark_of}
use Rattle.im_theory_steps.specs.Durable.{AreCommitted}
use Rattle.im_theory_steps.specs.Steps.{TurnsOn, noted, with_undone}
use Rattle.im_theory_steps.proofs.Cited.{trees_halt, turns_begin, turns_empty, commits_stand, numbers_stay_new, structure_changes_no_key, unlogged, within_leaves_others, counted_at, ends_leave_nothing, last_undone_served, undo_takes_back}
use Rattle.im_engine.specs.declared.engine.Engine.{Engine}
use Rattle.im_engine.specs.declared.stepped.Aim.TheVariants.{TakesBack, TookBack}
use Rattle.im_engine.specs.declared.stepped.Under.{Under}
use Rattle.im_engine.specs.Aims.{IsBesideOf, IsChanging, IsGoing, under_of}
use Rattle.im_engine.specs.Faults.{told_as, ends_engine}
use Rattle.im_engine.specs.Growing as grows
use Rattle.im_engine.specs.Kept.{IsDone, StepKept}
use Rattle.im_engine.specs.Numbered.{Numbered, ends_back, has_returned, on_again}
use Rattle.im_engine.specs.Running.{IsLife, IsRunning}
use Rattle.im_engine.specs.Stands.{Allowed}
use Rattle.im_engine.proofs.Edited.{by_structure}
use Rattle.im_engine.proofs.Made.{grown_made, step_made}
use Rattle.im_engine.proofs.Refused.{breaks_with, lacks_with}
use Rattle.im_engine.proofs.Running.{checks_tell, left_on, outside_of}
use Rattle.im_engine.proofs.SteppedBacks.{change_back, end_changing, takes_alone, takes_one, taken_last, taken_newest, taken_next, turn_changing}
use Rattle.im_engine.proofs.Returning.{GoesBack, back_served, back_takes, continue_back, ends_rolling, going_if, more_left, returns_free, rolling_ends, row_at, told_back, turns_on}
use Rattle.im_engine.proofs.Turning.{undo_grows}

-- ---- the last record of a transaction

-- after later records a transaction that has one has one still
pub last_some : (b : Base) (t : ℕ) (more older : History) → Rises b (more ++ older) → 1 ≤ last_of t older → 1 ≤ last_of t (more ++ older)
last_some b t [] older up some = some
last_some b t (r ∷ more) older up some = elim (cases_Bool (r.txn == t)) [
  | inl mine ↦
      let high : end_of b (more ++ older) < r.lsn = up.1 in
      let one : 1 ≤ r.lsn = omega (arith, high) in
      subst (λ (n : ℕ). 1 ≤ n) (sym (cond-true (r.txn == t) r.lsn (last_of t (more ++ older)) mine)) one
  | inr other ↦ subst (λ (n : ℕ). 1 ≤ n) (sym (cond-false (r.txn == t) r.lsn (last_of t (more ++ older)) other)) (last_some b t more older up.0 some)
]

-- what a step came to, by what it answered
pub kept_as : {D : Type 0} (d : Ghosts D) (b : Base) (base : ℕ) (ends : Bool) (s : Writer) (e t last undo_next : ℕ) (beside : Beside) (old : D) (w : PageWriter) (disk : D) (sight answer : Sight UndoneInSteps) → sight ≡ answer
    → InStepsKept d b base ends s e t last undo_next beside old w disk (Ok sight) → InStepsKept d b base ends s e t last undo_next beside old w disk (Ok answer)
kept_as d b base ends s e t last undo_next beside old w disk sight answer is kept = subst (λ (x : Sight UndoneInSteps). InStepsKept d b base ends s e t last undo_next beside old w disk (Ok x)) is kept

-- a change was taken back, and of one that rolls back others are left
pub made_more : {D : Type 0} (d : Ghosts D) (b : Base) (base : ℕ) (ends : Bool) (s : Writer) (e t last undo_next : ℕ) (beside : Beside) (old : D) (w : PageWriter) (disk : D) → MadeBeside d b base ends s e t beside old w disk (turns.More last undo_next)
    → (is : TookBeside d b base s e t last undo_next beside old w disk) × (ends ≡ true → net t is.took.taken.now.log ≢ [])
made_more d b base true s e t last undo_next beside old w disk is = (record { entry = is.entry; next = is.next; took = is.took }, λ ends. is.left)
made_more d b base false s e t last undo_next beside old w disk is = (is, λ ends. absurd (cc ends))

-- it ended, as one that rolls back
pub made_ended : {D : Type 0} (d : Ghosts D) (b : Base) (base : ℕ) (ends : Bool) (s : Writer) (e t : ℕ) (beside : Beside) (old : D) (w : PageWriter) (disk : D) → MadeBeside d b base ends s e t beside old w disk turns.Ended → (ends ≡ true) × HasEndedBeside d b base s e t beside old w disk
made_ended d b base true s e t beside old w disk is = (refl, is)
made_ended d b base false s e t beside old w disk is = absurd is

-- of an owner alone its change ends
pub of_others_stays : (t : ℕ) (u : Option views.Under) → owner_of u ≢ Some t → of_others t u ≡ u
of_others_stays t None other = refl
of_others_stays t (Some u) other = cond-false (u.owner == t) None (Some u) (ne_eqb u.owner t (λ e. other (ap (λ (n : ℕ). Some n) e)))

-- ---- by what is answered to a change that was taken back

pub going_under : (reply : Bool) (t : ℕ) (v : View) → (going_if reply t v).under ≡ v.under
going_under true t v = refl
going_under false t v = refl

pub back_asks : (reply : Bool) (t : ℕ) (s : Shown) → (shows s (Continue t) (Some (told_back reply))).asked ≡ s.asked
back_asks true t s = refl
back_asks false t s = refl

pub back_done : {D : Type 0} (d : Ghosts D) (before : List Effect) (s : Shown) (v : View) (t : ℕ) (reply : Bool) (e : Engine D d) → IsDone d before s v (Continue t) (told_back reply) e
back_done d before s v t true e = tt
back_done d before s v t false e = tt

pub back_grows : (b : Base) (Few : Type 0) (was now : Option views.Under) (t : ℕ) (older longer : History) (reply : Bool) → grows.GoesOnBy b was now t older longer → grows.GrowsAs b Few was now (told_back reply) (Continue t) older longer
back_grows b Few was now t older longer true by = by
back_grows b Few was now t older longer false by = by

-- ---- the row of a step that goes on

module _ {D : Type 0} (d : Ghosts D) {b : Base} (before : List Effect) (s : Shown) (v : View) (t : ℕ) (row : Transaction) (old : Engine D d) (r : IsRunning d b before s v old)
    (found : find (is_of t) old.txns.rows ≡ Some row) (checked : checked_by old.txns.rows false (Continue t) ≡ None) where
  pub goes : GoesBack row
  goes = continue_back old.txns.rows t row found checked

  pub its : (row.number ≡ t) × IsRow row old.txns.next r.now.log × ((v.txns t).mark ≡ mark_of row.mark)
  its = row_at b r.earlier before s v r.now.log old.txns.rows old.txns.next old.locks t row r.serving found goes

  -- numbers from the next one on stay new
  pub below_next : t < old.txns.next
  below_next = subst (λ (n : ℕ). n < old.txns.next) its.0 its.1.below

  -- a stop within it
  pub stops_back : (disk : D) → LeavesUndo d b r.base r.now t old.disk disk → LeavesOnly d old.disk disk (Allowed before s)
  stops_back disk stops =
      weakened d old.disk disk (LeftByUndo d b r.base r.now t) (Allowed before s) stops
      (λ told c is. left_on d before s v old r is.high is.lawful (within_leaves_others t r.now.log is.high (undo_grows t r.now.log is.high is.grows)).1 c is.covered)

  pub row_last : row.last ≡ last_of t r.now.log
  row_last = its.1.last ∙ ap (λ (n : ℕ). last_of n r.now.log) its.0

  module _ (other : owner_of (under_of old.under) ≢ Some t) where
    pub other_in : owner_in v ≢ Some t
    other_in is = other (ap owner_of (sym r.same) ∙ is)

    -- how the transaction stands in front of it
    pub going_beside : IsGoingBeside d b r.base r.now r.redo_end t row.last row.undo_next old.writer old.disk
    going_beside = record {
      stands = r.stands;
      over = r.over;
      lawful = r.lawful;
      outside = outside_of d before s v old r t other_in;
      owner = subst (λ (n : ℕ). 1 ≤ n) its.0 its.1.number;
      unfinished = ap (λ (n : ℕ). is_finished n r.now.log) (sym its.0) ∙ its.1.unfinished;
      row = ap (λ (n : ℕ). row_of n r.now.log) (sym its.0)
          ∙ ap (λ (n : ℕ). record { last = n; undo_next = undo_next_of row.number r.now.log }) (sym its.1.last)
          ∙ ap (λ (n : ℕ). record { last = row.last; undo_next = n }) (sym its.1.undo);
    }

    pub some_left : to_undo t r.now.log ≢ []
    some_left = more_left b r.earlier before s v r.now.log old.txns.rows old.txns.next old.locks t row r.serving found goes other_in

    -- it has a record
    pub row_some : 1 ≤ row.last
    row_some = by row.last refl
      where
        by : (n : ℕ) → row.last ≡ n → 1 ≤ n
        by zero none = absurd (some_left (unlogged b t r.now.log (rises b page_tree r.now.log r.lawful) (sym row_last ∙ none)))
        by (suc n) some = omega arith

-- ---- a step

module _ {D : Type 0} (d : Ghosts D) (before : List Effect) (s : Shown) (v : View) (t : ℕ) (row : Transaction) (old new : Engine D d) (life : IsLife d before s v old) (works : old.failed ≡ false)
    (found : find (is_of t) old.txns.rows ≡ Some row) (checked : checked_by old.txns.rows false (Continue t) ≡ None) where
  abbrev pub run : (b : Base) × IsRunning d b before s v old
  run = life.running works

  back : GoesBack row
  back = goes d before s v t row old run.1 found checked

  back_stops : LeavesUndo d run.0 run.1.base run.1.now t old.disk new.disk → LeavesOnly d old.disk new.disk (Allowed before s)
  back_stops stops = stops_back d before s v t row old run.1 found checked new.disk stops

  -- it has a change more to take back
  on_now : owner_of (under_of old.under) ≢ Some t → TurnsOn row
  on_now other =
      let r = run.1 in
      turns_on run.0 r.earlier before s v r.now.log old.txns.rows old.txns.next old.locks t row r.serving found back (other_in d before s v t row old r found checked other)

  module _ (other : owner_of (under_of old.under) ≢ Some t) (works_on : new.failed ≡ false) (stops : LeavesUndo d run.0 run.1.base run.1.now t old.disk new.disk) (beside : Beside) (told : IsBesideOf old.under beside) where
    -- beside the change of another, or none: a change was taken back, and with this reply all goes on
    took_on : (reply : Bool) (last undo_next : ℕ) (is : TookBeside d run.0 run.1.base run.1.now run.1.redo_end t last undo_next beside old.disk new.writer new.disk) (c : Change) (list : List Transaction)
        → IsServed run.0 run.1.earlier before s v (Continue t) (told_back reply) (going_if reply t (undid_more v t c (net t is.took.taken.now.log))) is.took.taken.now.log list old.txns.next old.locks → new.under ≡ old.under → new.locks ≡ old.locks
        → new.txns ≡ record old.txns { rows = list } → StepKept d before s v (Continue t) (told_back reply) old new
    took_on reply last undo_next is c list served kept locks table =
        let b = run.0 in
        let r = run.1 in
        let took = is.took in
        let taken = took.taken in
        let now = taken.now in
        let to = is.next.next in
        let undoes = taken_newest d b r.base r.now r.redo_end t is.entry to (Plain took.page) last old.disk new.writer new.disk taken in
        let same = within_leaves_others t r.now.log now.log undoes.grows in
        let undid = undid_more v t c (net t now.log) in
        let w = going_if reply t undid in
        let shown = shows s (Continue t) (Some (told_back reply)) in
        let changing : IsChanging b new.under now.log = subst (λ (u : Option Under). IsChanging b u now.log) (sym kept)
        (turn_changing b old.under beside t took.page r.now.log now.log taken.grows told took.planned.clear taken.planned other taken.going_on taken.going.lawful r.changing) in
        let running : IsRunning d b before shown w new = record {
          base = r.base;
          start = r.start;
          counted = r.counted;
          earlier = r.earlier;
          now = now;
          stands = taken.going.stands;
          redo_end = r.redo_end;
          over = taken.going.over;
          lawful = taken.going.lawful;
          changing = changing;
          serving = subst (λ (x : Numbered). IsServing b r.earlier before shown w now.log x.rows x.next new.locks) (sym table)
              (subst (λ (l : Table). IsServing b r.earlier before shown w now.log list old.txns.next l) (sym locks) served.1);
          commits = subst (λ (l : List Asked). AreCommitted r.earlier before l now.durable now.log) (sym (back_asks reply t s))
              (commits_stand.more r.earlier before s.asked r.now.durable now.log now.durable (commits_stand.stay r.earlier before s.asked r.now.durable r.now.log now.log r.commits same.1)
              (record { from = taken.durable; upto = taken.going.stands.writing.stands.kept.front }));
          numbered = subst (λ (n : ℕ). n ≤ 2 ^ 62 → AreBelow n now.log) (sym (ap (λ (x : Numbered). x.next) table))
              (λ le. numbers_stay_new.within old.txns.next t r.now.log now.log (below_next d before s v t row old r found checked) (r.numbered le) undoes.grows);
          same = going_under reply t undid ∙ of_others_stays t v.under (other_in d before s v t row old r found checked other) ∙ r.same ∙ ap under_of (sym kept);
        } in
        step_made d before s v (Continue t) (told_back reply) old new w served.0 running works_on (back_stops stops) (back_done d before shown w t reply new) r
        (back_grows b (FitsRecord old.writer.table) (under_of old.under) (under_of new.under) t r.now.log now.log reply
        (grows.turns other (λ is_owner. other (ap (λ (u : Option Under). owner_of (under_of u)) (sym kept) ∙ is_owner)) (takes_one d b r.base r.now r.redo_end t is.entry to (Plain took.page) last old.disk new.writer new.disk taken)))

    -- other changes are left, or it has returned
    pub turned_more : (ends reply : Bool) (last undo_next : ℕ) → ends ≡ ends_back row → reply ≡ has_returned (with_undone last undo_next row) → MadeBeside d run.0 run.1.base ends run.1.now run.1.redo_end t beside old.disk new.writer new.disk (turns.More last undo_next)
        → new.under ≡ old.under → new.locks ≡ old.locks → new.txns ≡ record old.txns { rows = on_again t (map (changed t (with_undone last undo_next)) old.txns.rows) } → StepKept d before s v (Continue t) (told_back reply) old new
    turned_more ends reply last undo_next ends_is reply_is made kept locks table =
        let b = run.0 in
        let r = run.1 in
        let made_is = made_more d b r.base ends r.now r.redo_end t last undo_next beside old.disk new.writer new.disk made in
        let is = made_is.0 in
        let took = is.took in
        let taken = took.taken in
        let to = is.next.next in
        let undoes = taken_newest d b r.base r.now r.redo_end t is.entry to (Plain took.page) last old.disk new.writer new.disk taken in
        let c = change_back d b r.base r.now r.redo_end t is.entry to (Plain took.page) last old.disk new.writer new.disk taken in
        took_on reply last undo_next is c (on_again t (map (changed t (with_undone last undo_next)) old.txns.rows))
        (back_served b r.earlier before s v r.now.log old.txns.rows old.txns.next old.locks t row r.serving found back taken.now.log c undoes taken.going.unfinished last undo_next
        (taken_last d b r.base r.now r.redo_end t is.entry to (Plain took.page) last old.disk new.writer new.disk taken)
        (taken_next d b r.base r.now r.redo_end t is.entry to (Plain took.page) last old.disk new.writer new.disk taken ∙ sym took.leads)
        (λ rolling. made_is.1 (ends_is ∙ rolling_ends row rolling))
        (returns_free b r.earlier before s v r.now.log old.txns.rows old.txns.next old.locks t row r.serving found back (other_in d before s v t row old r found checked other))
        reply reply_is)
        kept locks table

    -- the last one was taken back
    pub turned_ended : (ends : Bool) → ends ≡ ends_back row → MadeBeside d run.0 run.1.base ends run.1.now run.1.redo_end t beside old.disk new.writer new.disk turns.Ended → new.under ≡ old.under → IsReleased old.locks t new.locks → length old.txns.rows ≡ length (without t old.txns.rows) + 1
        → new.txns ≡ record old.txns { rows = without t old.txns.rows } → StepKept d before s v (Continue t) RolledBack old new
    turned_ended ends ends_is made kept released once table =
        let b = run.0 in
        let r = run.1 in
        let made_is = made_ended d b r.base ends r.now r.redo_end t beside old.disk new.writer new.disk made in
        let is = made_is.1 in
        let rolling = ends_rolling row back (sym ends_is ∙ made_is.0) in
        let took = is.took in
        let taken = took.taken in
        let between = taken.now.log in
        let to = is.next.next in
        let undoes = taken_newest d b r.base r.now r.redo_end t is.entry to (Plain took.page) is.last old.disk is.between is.mid taken in
        let c = change_back d b r.base r.now r.redo_end t is.entry to (Plain took.page) is.last old.disk is.between is.mid taken in
        let newest = logged_at is.end.lsn (entries.End t is.last) in
        let longer : History = newest ∷ between in
        let ended = ends_leave_nothing b t c r.now.log between newest undoes is.none refl refl in
        let w = undid_last v t c in
        let shown = shows s (Continue t) (Some RolledBack) in
        let served = last_undone_served b r.earlier before s v r.now.log between old.txns.rows old.txns.next old.locks new.locks t row c newest r.serving found rolling undoes is.none refl refl released once in
        let now = is.end.now in
        let law : IsLawful b page_tree longer = subst (λ (l : History). IsLawful b page_tree l) is.end.log is.end.lawful in
        let middle : IsChanging b old.under between = turn_changing b old.under beside t took.page r.now.log between taken.grows told took.planned.clear taken.planned other taken.going_on taken.going.lawful r.changing in
        let behind : IsChanging b old.under longer = end_changing b old.under t is.end.lsn is.last between other law middle in
        let running : IsRunning d b before shown w new = record {
          base = r.base;
          start = r.start;
          counted = r.counted;
          earlier = r.earlier;
          now = now;
          stands = is.end.stands;
          redo_end = r.redo_end;
          over = is.end.over;
          lawful = is.end.lawful;
          changing = subst (λ (u : Option Under). IsChanging b u now.log) (sym kept) (subst (λ (l : History). IsChanging b old.under l) (sym is.end.log) behind);
          serving = subst (λ (x : Numbered). IsServing b r.earlier before shown w now.log x.rows x.next new.locks) (sym table)
              (subst (λ (l : History). IsServing b r.earlier before shown w l (without t old.txns.rows) old.txns.next new.locks) (sym is.end.log) served.1);
          commits = commits_stand.more r.earlier before s.asked r.now.durable now.log now.durable
              (commits_stand.stay r.earlier before s.asked r.now.durable r.now.log now.log r.commits (ap committed is.end.log ∙ ended.back.commits))
              (record { from = front_then r.now.durable taken.now.durable now.durable taken.durable is.end.durable; upto = is.end.stands.writing.stands.kept.front });
          numbered = subst (λ (n : ℕ). n ≤ 2 ^ 62 → AreBelow n now.log) (sym (ap (λ (x : Numbered). x.next) table))
              (λ le.
              let below = below_next d before s v t row old r found checked in
              subst (λ (l : History). AreBelow old.txns.next l) (sym is.end.log) (below, numbers_stay_new.within old.txns.next t r.now.log between below (r.numbered le) undoes.grows));
          same = of_others_stays t v.under (other_in d before s v t row old r found checked other) ∙ r.same ∙ ap under_of (sym kept);
        } in
        step_made d before s v (Continue t) RolledBack old new w served.0 running works_on (back_stops stops) tt r
        (grows.ends_by_turn other (record { between = between; one = takes_one d b r.base r.now r.redo_end t is.entry to (Plain took.page) is.last old.disk is.between is.mid taken; last = is.last; lsn = is.end.lsn; is = is.end.log }))

    -- none is under way
    module _ (none : old.under ≡ None) where
      view_none : v.under ≡ None
      view_none = run.1.same ∙ ap under_of none

      was_none : under_of old.under ≡ None
      was_none = ap under_of none

      -- a split begins
      pub splitting : (begun : BegunChange) → IsSplitting d run.0 run.1.base run.1.now run.1.redo_end t row.last row.undo_next beside begun new.writer new.disk → new.under ≡ Some (record { begun = begun; aim = TakesBack }) → new.locks ≡ old.locks
          → new.txns ≡ record old.txns { rows = map (changed t (with_record begun.change.last begun.change.last)) old.txns.rows } → StepKept d before s v (Continue t) More old new
      splitting begun is begins locks table =
          let b = run.0 in
          let r = run.1 in
          let first = is.first in
          let now = first.now in
          let law : IsLawful b page_tree now.log = first.goes.lawful in
          let page : Logged = smo_at begun.change.last t row.last first.page first.was first.new in
          let images = images_as_change b t r.now.log first.before first.images in
          let change : GrowsByChange t r.now.log now.log = record { more = page ∷ images.more; is = first.log ∙ ap (λ (l : History). page ∷ l) images.is; all = (refl, images.all) } in
          let grown : GrowsByStructure t r.now.log now.log = by_structure t r.now.log now.log change in
          let within : GrowsWithin t r.now.log now.log = undo_grows t r.now.log now.log (grows_change t r.now.log now.log change) in
          let stays = structure_changes_no_key b t r.now.log now.log grown in
          let w = with_change v t views.TakesBack in
          let served = turns_begin b r.earlier before s v r.now.log now.log old.txns.rows old.txns.next old.locks t row r.serving found (on_now other) view_none grown in
          let last_is : last_of t now.log ≡ begun.change.last = ap (last_of t) first.log ∙ cond-true (t == t) begun.change.last (last_of t first.before) (eq-eqb t t refl) in
          let next_is : undo_next_of t now.log ≡ begun.change.last = ap (undo_next_of t) first.log ∙ cond-true (t == t) begun.change.last (undo_next_of t first.before) (eq-eqb t t refl) in
          let up : Rises b (page ∷ first.before) = subst (λ (l : History). Rises b l) first.log (rises b page_tree now.log law) in
          let high : end_of b first.before < begun.change.last = up.1 in
          let going : IsGoing b (record { begun = begun; aim = TakesBack }) now.log = record {
            goes = first.goes;
            some = omega (arith, high);
            count = first.count;
            aims = subst (λ (n : ℕ). IsSplitBack b n begun.change.images now.log) (sym first.by.leads) first.back;
          } in
          let rows_of : ℕ → ℕ → List Transaction = λ l n. map (changed t (with_record l n)) old.txns.rows in
          let table_is : new.txns ≡ record old.txns { rows = noted t now.log old.txns.rows } =
          table ∙ ap (λ (l : ℕ). record old.txns { rows = rows_of l begun.change.last }) (sym last_is) ∙ ap (λ (n : ℕ). record old.txns { rows = rows_of (last_of t now.log) n }) (sym next_is) in
          let owned_is : Some (record { owner = t; aim = views.TakesBack }) ≡ under_of new.under = ap (λ (n : ℕ). Some (record { owner = n; aim = views.TakesBack })) (sym first.by.owner) ∙ ap under_of (sym begins) in
          let running : IsRunning d b before s w new = record {
            base = r.base;
            start = r.start;
            counted = r.counted;
            earlier = r.earlier;
            now = now;
            stands = first.stands;
            redo_end = r.redo_end;
            over = first.over;
            lawful = law;
            changing = subst (λ (u : Option Under). IsChanging b u now.log) (sym begins) going;
            serving = subst (λ (x : Numbered). IsServing b r.earlier before s w now.log x.rows x.next new.locks) (sym table_is)
                (subst (λ (l : Table). IsServing b r.earlier before s w now.log (noted t now.log old.txns.rows) old.txns.next l) (sym locks) served.1);
            commits = commits_stand.more r.earlier before s.asked r.now.durable now.log now.durable (commits_stand.stay r.earlier before s.asked r.now.durable r.now.log now.log r.commits stays.stays.commits)
                (record { from = first.durable; upto = first.stands.writing.stands.kept.front });
            numbered = subst (λ (n : ℕ). n ≤ 2 ^ 62 → AreBelow n now.log) (sym (ap (λ (x : Numbered). x.next) table))
                (λ le. numbers_stay_new.within old.txns.next t r.now.log now.log (below_next d before s v t row old r found checked) (r.numbered le) within);
            same = owned_is;
          } in
          step_made d before s v (Continue t) More old new w served.0 running works_on (back_stops stops) tt r
          (grows.splits was_none (sym owned_is) (record { between = first.before; images = first.images; last = row.last; lsn = begun.change.last; page = first.page; was = first.was; now = first.new; marked = first.marked; is = first.log }))

      -- a change was taken back, and a deletion begins
      pub dropping : (begun : BegunChange) → IsDropping d run.0 run.1.base run.1.now run.1.redo_end t beside begun old.disk new.writer new.disk → new.under ≡ Some (record { begun = begun; aim = TookBack }) → new.locks ≡ old.locks
          → new.txns ≡ record old.txns { rows = map (changed t (with_undone begun.change.last begun.change.undo_next)) old.txns.rows } → StepKept d before s v (Continue t) More old new
      dropping begun is begins locks table =
          let b = run.0 in
          let r = run.1 in
          let taken = is.taken in
          let now = taken.now in
          let to = is.next.next in
          let last = begun.change.last in
          let next = begun.change.undo_next in
          let row_its = its d before s v t row old r found checked in
          let undoes = taken_newest d b r.base r.now r.redo_end t is.entry to (Plain is.page) last old.disk new.writer new.disk taken in
          let c = change_back d b r.base r.now r.redo_end t is.entry to (Plain is.page) last old.disk new.writer new.disk taken in
          let on = undo_takes_back b t c r.now.log now.log undoes in
          let last_is : last_of t now.log ≡ last = taken_last d b r.base r.now r.redo_end t is.entry to (Plain is.page) last old.disk new.writer new.disk taken in
          let next_is : undo_next_of t now.log ≡ next = taken_next d b r.base r.now r.redo_end t is.entry to (Plain is.page) last old.disk new.writer new.disk taken ∙ sym is.by.leads in
          let now_row : IsRow (with_undone last next row) old.txns.next now.log = record {
            number = row_its.1.number;
            below = row_its.1.below;
            last = sym last_is ∙ ap (λ (n : ℕ). last_of n now.log) (sym row_its.0);
            undo = sym next_is ∙ ap (λ (n : ℕ). undo_next_of n now.log) (sym row_its.0);
            unfinished = ap (λ (n : ℕ). is_finished n now.log) row_its.0 ∙ taken.going.unfinished;
            changes =
                let was : row.changes ≡ suc (length (net t now.log)) = counted_at t old.txns.next r.now.log row row_its.0 row_its.1 ∙ ap (λ (e : Effect). length e) on.0.own in
                let same : length (net row.number now.log) ≡ length (net t now.log) = ap (λ (n : ℕ). length (net n now.log)) row_its.0 in
                omega (arith, was, same);
          } in
          let w = with_change (undid_more v t c (net t now.log)) t views.TookBack in
          let served = turns_empty b r.earlier before s v r.now.log now.log old.txns.rows old.txns.next old.locks t last next row c r.serving found (on_now other) view_none on.0 on.1 now_row in
          let some : 1 ≤ last_of t now.log =
          subst (λ (l : History). 1 ≤ last_of t l) (sym taken.grows.is)
          (last_some b t taken.grows.more r.now.log (subst (λ (l : History). Rises b l) taken.grows.is (rises b page_tree now.log taken.going.lawful))
          (subst (λ (n : ℕ). 1 ≤ n) (row_last d before s v t row old r found checked) (row_some d before s v t row old r found checked other))) in
          let going : IsGoing b (record { begun = begun; aim = TookBack }) now.log = record { goes = is.goes; some = subst (λ (n : ℕ). 1 ≤ n) last_is some; count = is.count; aims = tt } in
          let owned_is : Some (record { owner = t; aim = views.TookBack }) ≡ under_of new.under = ap (λ (n : ℕ). Some (record { owner = n; aim = views.TookBack })) (sym is.by.owner) ∙ ap under_of (sym begins) in
          let running : IsRunning d b before s w new = record {
            base = r.base;
            start = r.start;
            counted = r.counted;
            earlier = r.earlier;
            now = now;
            stands = taken.going.stands;
            redo_end = r.redo_end;
            over = taken.going.over;
            lawful = taken.going.lawful;
            changing = subst (λ (u : Option Under). IsChanging b u now.log) (sym begins) going;
            serving = subst (λ (x : Numbered). IsServing b r.earlier before s w now.log x.rows x.next new.locks) (sym table)
                (subst (λ (l : Table). IsServing b r.earlier before s w now.log (map (changed t (with_undone last next)) old.txns.rows) old.txns.next l) (sym locks) served.1);
            commits = commits_stand.more r.earlier before s.asked r.now.durable now.log now.durable (commits_stand.stay r.earlier before s.asked r.now.durable r.now.log now.log r.commits on.0.commits)
                (record { from = taken.durable; upto = taken.going.stands.writing.stands.kept.front });
            numbered = subst (λ (n : ℕ). n ≤ 2 ^ 62 → AreBelow n now.log) (sym (ap (λ (x : Numbered). x.next) table))
                (λ le. numbers_stay_new.within old.txns.next t r.now.log now.log (below_next d before s v t row old r found checked) (r.numbered le) undoes.grows);
            same = owned_is;
          } in
          step_made d before s v (Continue t) More old new w served.0 running works_on (back_stops stops) tt r
          (grows.empties was_none (sym owned_is) (takes_alone d b r.base r.now r.redo_end t is.entry is.page last old.disk new.writer new.disk taken))

    -- the structure change of another is in the way
    pub halted : (u : Under) → old.under ≡ Some u → IsHiddenBack d run.0 run.1.base run.1.now t beside old.disk new.writer new.disk → new.under ≡ old.under → new.locks ≡ old.locks → new.txns ≡ old.txns → StepKept d before s v (Continue t) BlockedTree old new
    halted u some is kept locks table =
        let b = run.0 in
        let r = run.1 in
        let owner = u.begun.change.transaction in
        let differ : t ≢ owner = λ e. other (ap (λ (x : Option Under). owner_of (under_of x)) some ∙ ap (λ (n : ℕ). Some n) (sym e)) in
        grown_made d before s v v (Continue t) BlockedTree old new r old.txns refl is.evicted
        (λ longer stays all.
        subst (λ (l : Table). IsServed b r.earlier before s v (Continue t) BlockedTree v longer old.txns.rows old.txns.next l) (sym locks)
        (trees_halt b r.earlier before s v r.now.log longer old.txns.rows old.txns.next old.locks t row _ r.serving found (back_takes row back) (r.same ∙ ap under_of some) differ stays all))
        refl refl table refl (back_stops stops) works_on tt (λ longer images. images) kept

  -- ---- it is refused

  -- for want of memory all is as it was, and any other refusal breaks the engine
  pub back_refused : owns_in (under_of old.under) (Continue t) ≡ false → (f : Fault) → TurnEnds d may_turn old.writer new.writer new.disk (Some f) → f ≢ NotAStore → (f ≡ Memory → Evicted d run.0 run.1.base run.1.now old.disk new.writer new.disk)
      → LeavesUndo d run.0 run.1.base run.1.now t old.disk new.disk → new.failed ≡ ends_engine f → new.under ≡ old.under → new.txns ≡ old.txns → new.locks ≡ old.locks → (told : Fault) → told ≡ told_as f
      → ((u : ℕ) (c : Files) → u ≤ d.moment new.disk → d.may_leave new.disk c → d.left_since new.disk u c) → StepKept d before s v (Continue t) (Refused (number_of told)) old new
  back_refused free f one sound again stops fails kept table locks told is counts_now =
      subst (λ (y : Fault). StepKept d before s v (Continue t) (Refused (number_of y)) old new) (sym is) (by f one sound again fails)
    where
      r : IsRunning d run.0 before s v old
      r = run.1

      let_pass : barred v (Continue t) ≡ None
      let_pass = checks_tell d before s v old r (Continue t) ∙ ap (λ (o : Bool). checked_by old.txns.rows o (Continue t)) free ∙ checked

      by : (g : Fault) → TurnEnds d may_turn old.writer new.writer new.disk (Some g) → g ≢ NotAStore → (g ≡ Memory → Evicted d run.0 run.1.base run.1.now old.disk new.writer new.disk) → new.failed ≡ ends_engine g
          → StepKept d before s v (Continue t) (Refused (number_of (told_as g))) old new
      by Memory x other back on =
          lacks_with d before s v (Continue t) (λ u e. cc e) let_pass old new life works counts_now refl (back refl) (back_stops stops) table ((λ u. ap (λ (l : Table). locks_of l u) locks), (λ u. ap (λ (l : Table). lasting_of l u) locks)) on kept
      by Capacity x other back on = breaks_with d before s v (Continue t) (λ u e. cc e) let_pass old new life works counts_now 6 (inl refl) on (back_stops stops)
      by LogFull x other back on = breaks_with d before s v (Continue t) (λ u e. cc e) let_pass old new life works counts_now 7 (inr (inl refl)) on (back_stops stops)
      by Device x other back on = breaks_with d before s v (Continue t) (λ u e. cc e) let_pass old new life works counts_now 8 (inr (inr (inl refl))) on (back_stops stops)
      by Failed x other back on = breaks_with d before s v (Continue t) (λ u e. cc e) let_pass old new life works counts_now 10 (inr (inr (inr refl))) on (back_stops stops)
      by NotAStore x other back on = absurd (other refl)
      by g x other back on = absurd (let never = x.0 in cc never)
