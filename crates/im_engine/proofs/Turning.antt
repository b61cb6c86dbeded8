-- Changes that are taken back, one at a time.
use Rattle.std.proofs.Common.{◌≡◌, ◌≢◌, inl, inr, ℕ, suc, Bool, ◌-◌, ◌+◌, ◌≤◌, ◌<◌, ◌^◌, List, [], ◌∷◌, ◌++◌, true, false, Option, Some, None, length, map, refl, sym, ap, subst, ◌∙◌, arith}
use Rattle.std.specs.Prelude.{find}
use Rattle.im_base_types.specs.Keys.{Key}
use Rattle.im_base_types.specs.Maps.{IndexMap}
use Rattle.im_base_types.specs.Changes.{Change, Put, Drop, Effect, undone}
use Rattle.im_base_types.specs.Records.{What, InsertKey, DeleteKey, UndoInsert, UndoDelete, Smo, UndoSmo, DummyClr, Commit, End, Image, Checkpoint, Unreadable, Logged}
use Rattle.im_base_types.specs.Answers as answers
use Rattle.im_base_types.specs.Answers.{Continue, More, Done, RolledBack, Refused}
use Rattle.im_base_types.specs.declared.fault.Fault.{Fault}
use Rattle.im_base_types.specs.declared.fault.Fault.TheVariants.{Capacity, Failed, LogFull, Device, Memory, NotAStore, PagesFull}
use Rattle.im_theory_log.specs.Histories.{Base, History}
use Rattle.im_theory_log.specs.LogLaws as logs
use Rattle.im_theory_log.specs.Structure.{settled}
use Rattle.std.specs.FinMap.{get}
use Rattle.im_theory_log.specs.Transactions.{change_of, changes_of, committed, contents, contents_after, net, is_end, is_finished, is_key, last_of, undo_next_of, to_undo}
use Rattle.im_base_types.specs.Lives.{Asked, Shown, shows}
use Rattle.im_theory_log.specs.Writer.{Writer}
use Rattle.im_base_disk.specs.declared.disk.Disk.{Ghosts}
use Rattle.im_base_disk.specs.Disk.{Files}
use Rattle.im_base_disk.specs.Runs.{LeavesOnly}
use Rattle.im_base_disk.proofs.Runs.{weakened}
use Rattle.im_log_record.specs.Entry as entries
use Rattle.im_log_record.specs.Entry.{Entry}
use Rattle.im_log.specs.Whats.{what_of}
use Rattle.im_log.specs.Spelled.{logged_at}
use Rattle.im_log.specs.declared.log_file.LogFile.{LogFile}
use Rattle.im_log.proofs.Above.{front_then}
use Rattle.im_page_writer.specs.declared.page_writer.PageWriter.{PageWriter}
use Rattle.im_page_writer.specs.PageWriter.{Evicted}
use Rattle.im_theory_tree.specs.Good.{AllOf}
use Rattle.im_theory_tree.specs.Theory.{page_tree}
use Rattle.im_theory_tree.specs.Levels.{Pages}
use Rattle.im_tree_search.specs.Levels.{bodies}
use Rattle.im_smo_split.specs.Tops.{LacksRoomFor}
use Rattle.im_smo_actions.specs.Structure.{IsUsedUp}
use Rattle.im_restart_analysis.specs.Undo.{IsUndoable}
use Rattle.im_restart_analysis.specs.Losers.{row_of}
use Rattle.im_restart_analysis.specs.declared.rows.Loser.{Loser}
use Rattle.im_restart_undo.specs.Records.{IsOfUndo, GrowsByUndo, inverse_of}
use Rattle.im_restart_undo.specs.Undoing.{IsGoing, IsToUndo, LeavesUndo, LeftByUndo, ShowsChange, UsesUp, WantsRoom}
use Rattle.im_restart_undo.proofs.Shown.{get_is, shows_change}
use Rattle.im_engine_rollback.specs.Ends.{TurnEnds, may_turn}
use Rattle.im_engine_rollback.specs.declared.undone.Undone.{Undone}
use Rattle.im_engine_rollback.specs.declared.undone.Undone.TheVariants as turns
use Rattle.im_engine_rollback.specs.Turns.{Took, HasMore, HasEndedNow, LacksWayBack, Turned, LacksRoomBack}
use Rattle.im_base_txn.specs.Rows.{is_of, changed, with_mark}
use Rattle.im_base_txn.specs.LookUps.{without}
use Rattle.im_base_txn.specs.declared.transaction.Mark.{Mark}
use Rattle.im_base_txn.specs.declared.transaction.Mark.TheVariants as marks
use Rattle.im_base_txn.specs.declared.transaction.Transaction.{Transaction}
use Rattle.im_base_types.specs.declared.fault.Fault.TheVariants as faults
use Rattle.im_base_steps.specs.declared.reply.Reply.{Reply}
use Rattle.im_base_steps.specs.declared.reply.Reply.TheVariants as replies
use Rattle.im_base_types.specs.Faults.{number_of}
use Rattle.im_theory_machine.specs.Table.{Table, IsReleased, locks_of, lasting_of}
use Rattle.im_theory_machine.specs.View.{View, marked, of_others, undid_more, undid_last, owner_in, owner_of, owns_in}
use Rattle.im_theory_machine.specs.Machine.{barred, barred_to_continue}
use Rattle.im_theory_steps.specs.Checks.{checked_by, mark_at}
use Rattle.im_theory_steps.specs.Growth.{AreBelow, AreWithin, GrowsWithin, IsWithin}
use Rattle.im_theory_steps.specs.Steps.{TurnsOn, with_undone}
use Rattle.im_theory_steps.specs.Undone.{UndoesNewest, uncounted}
use Rattle.im_theory_steps.specs.Durable.{AreCommitted}
use Rattle.im_theory_steps.specs.Serving.{IsRow, IsServed, IsServing, mark_of}
use Rattle.im_theory_steps.proofs.Cited.{numbers_stay_new, within_leaves_others, commits_stand, at, counted_at, ends_leave_nothing, last_undone_served, returning_more, returns_end, returns_go_on, rolling_has_more, some_stand, undo_takes_back, undone_served}
use Rattle.im_engine.specs.declared.engine.Engine.{Engine}
use Rattle.im_engine.specs.Faults.{told_as, ends_engine}
use Rattle.im_engine.specs.Numbered.{Numbered, ends_back, has_returned, is_rolling_back}
use Rattle.im_engine.specs.Stands.{Allowed}
use Rattle.im_engine.specs.Running.{IsRunning, IsLife}
use Rattle.im_engine.specs.Kept.{IsDone, StepKept}
use Rattle.im_engine.specs.Told.{LacksRoom, TurnCause}
use Rattle.im_engine.proofs.Waits.{out_of, not_waiting}
use Rattle.im_engine.specs.declared.stepped.Under.{Under}
use Rattle.im_engine.specs.Aims.{IsChanging, under_of}
use Rattle.im_engine.specs.Growing.{GoesOnBy, GrowsAs, turns as by_turn, ends_by_turn}
use Rattle.im_page_table.specs.DirtyTable.{FitsRecord}
use Rattle.im_engine.proofs.Running.{nobody_owner, closed_now, checks_tell, bodies_are, left_on}
use Rattle.im_engine.proofs.Made.{step_made}
use Rattle.im_engine.proofs.Numbers.{has_come_back, not_yet_back}
use Rattle.im_engine.proofs.Returning.{GoesBack, back_free, back_waits, continue_back}
use Rattle.im_engine.proofs.Refused.{breaks_with, lacks_with}
use Rattle.im_engine.proofs.Causes.{Answers, behind, not_refused_for, refused_for}
use Rattle.im_engine.proofs.Looked.{not_true}

-- ---- the row of a step that goes on

pub continue_found : (rows : List Transaction) (t : ℕ) → find (is_of t) rows ≡ None → checked_by rows false (Continue t) ≡ None → ⊥
continue_found rows t none is = let never = sym (ap (λ (o : Option Transaction). barred_to_continue (mark_at o)) none) ∙ is in cc never

-- ---- what an undo adds to a log, in the words of steps

undo_record : (t : ℕ) (r : Logged) (w : What) → r.what ≡ w → IsOfUndo t r w → IsWithin t r
undo_record t r (UndoInsert k i) is own = inr (own, ap is_end is)
undo_record t r (UndoDelete k i) is own = inr (own, ap is_end is)
undo_record t r (Smo was now) is own = inr (own, ap is_end is)
undo_record t r DummyClr is own = inr (own, ap is_end is)
undo_record t r (Image c) is own = inl (record { copy = c; what = is; no_owner = own })
undo_record t r (InsertKey k i) is own = absurd own
undo_record t r (DeleteKey k i) is own = absurd own
undo_record t r (UndoSmo now) is own = absurd own
undo_record t r Commit is own = absurd own
undo_record t r End is own = absurd own
undo_record t r (Checkpoint n a dirty) is own = absurd own
undo_record t r Unreadable is own = absurd own

undo_records : (t : ℕ) (more : History) → AllOf (λ (r : Logged). IsOfUndo t r r.what) more → AreWithin t more
undo_records t [] all = tt
undo_records t (r ∷ more) all = (undo_record t r r.what refl all.0, undo_records t more all.1)

pub undo_grows : (t : ℕ) (older longer : History) → GrowsByUndo t older longer → GrowsWithin t older longer
undo_grows t older longer by = record { more = by.more; is = sym by.is; within = undo_records t by.more by.all }

-- the change of a key record, and what its inverse does
pub made_by : (w : What) → is_key w ≡ true → (c : Change) × (change_of w ≡ c ∷ []) × ((m : IndexMap) → contents_after (inverse_of w) m ≡ undone m c)
made_by (InsertKey k i) is = (Put k i, refl, λ m. refl)
made_by (DeleteKey k i) is = (Drop k i, refl, λ m. refl)
made_by (UndoInsert k i) is = absurd cc
made_by (UndoDelete k i) is = absurd cc
made_by (Smo was now) is = absurd cc
made_by (UndoSmo now) is = absurd cc
made_by DummyClr is = absurd cc
made_by Commit is = absurd cc
made_by End is = absurd cc
made_by (Image c) is = absurd cc
made_by (Checkpoint n a dirty) is = absurd cc
made_by Unreadable is = absurd cc

module _ {D : Type 0} (d : Ghosts D) (b : Base) (base : ℕ) (s : Writer) (e t last undo_next : ℕ) (old : D) (w : PageWriter) (disk : D) (took : Took d b base s e t last undo_next old w disk) where
  undone_change : Change
  undone_change = (made_by (what_of took.entry) took.next.next.key).0

  -- one change was taken back
  took_newest : UndoesNewest b t undone_change s.log took.taken.now.log
  unfolding undone_change
  took_newest =
      let made = made_by (what_of took.entry) took.next.next.key in
      record {
        grows = undo_grows t s.log took.taken.now.log took.taken.goes.grows;
        newest = logged_at took.taken.lsn took.entry;
        made = made.1;
        stack = took.taken.stack;
        walk = took.taken.map ∙ made.2 (contents b s.log);
      }

  -- and the transaction's records end, and its undo goes on, where the row says so
  took_last : last_of t took.taken.now.log ≡ last
  took_last = ap (λ (x : Loser). x.last) took.taken.goes.going.row

  took_next : undo_next_of t took.taken.now.log ≡ undo_next
  took_next = ap (λ (x : Loser). x.undo_next) took.taken.goes.going.row ∙ sym took.leads

-- ---- a step

module _ {D : Type 0} (d : Ghosts D) {b : Base} (before : List Effect) (s : Shown) (v : View) (t : ℕ) (row : Transaction) (old : Engine D d) (r : IsRunning d b before s v old)
    (found : find (is_of t) old.txns.rows ≡ Some row) (free : owner_in v ≢ Some t) where
  -- one that goes back, and has no structure change under way, has a change more to take back
  pub turns_on : GoesBack row → TurnsOn row
  turns_on (inl is) = inl is
  turns_on (inr x) = inr (x.0, x.1, returning_more b r.earlier before s v r.now.log old.txns.rows old.txns.next old.locks t x.0 row r.serving found x.1 free)

  pub left_to_undo : GoesBack row → to_undo t r.now.log ≢ []
  left_to_undo (inl is) = rolling_has_more b r.earlier before s v r.now.log old.txns.rows old.txns.next old.locks t row r.serving found is free
  left_to_undo (inr x) =
      let more = returning_more b r.earlier before s v r.now.log old.txns.rows old.txns.next old.locks t x.0 row r.serving found x.1 free in
      let is = at b r.earlier before s v r.now.log old.txns.rows old.txns.next old.locks r.serving t row found (back_free row (inr x)) in
      (λ none. some_stand t old.txns.next r.now.log row is.0 is.1 (omega (arith, more)) (ap changes_of none))

-- where no structure change is under way, nobody has one, and the check is that of the table
none_owns : {under : Option Under} (t : ℕ) → under ≡ None → owner_of (under_of under) ≢ Some t
none_owns t none is = let never : None ≡ Some t = sym (ap (λ (u : Option Under). owner_of (under_of u)) none) ∙ is in cc never

pub alone_checked : {D : Type 0} (d : Ghosts D) (old : Engine D d) (t : ℕ) → old.under ≡ None → checked_by old.txns.rows (owns_in (under_of old.under) (Continue t)) (Continue t) ≡ None → checked_by old.txns.rows false (Continue t) ≡ None
alone_checked d old t plain checked = subst (λ (u : Option Under). checked_by old.txns.rows (owns_in (under_of u) (Continue t)) (Continue t) ≡ None) plain checked

module _ {D : Type 0} (d : Ghosts D) {b : Base} (before : List Effect) (s : Shown) (v : View) (t : ℕ) (row : Transaction) (old : Engine D d) (r : IsRunning d b before s v old)
    (found : find (is_of t) old.txns.rows ≡ Some row) (checked : checked_by old.txns.rows (owns_in (under_of old.under) (Continue t)) (Continue t) ≡ None) (plain : old.under ≡ None) where
  mark : GoesBack row
  mark = continue_back old.txns.rows t row found (alone_checked d old t plain checked)

  its : (row.number ≡ t) × IsRow row old.txns.next r.now.log × ((v.txns t).mark ≡ mark_of row.mark)
  its = at b r.earlier before s v r.now.log old.txns.rows old.txns.next old.locks r.serving t row found (back_free row mark)

  -- how the transaction stands in front of it
  pub stands_going : IsGoing d b r.base r.now r.redo_end t row.last row.undo_next old.writer old.disk
  stands_going = record {
    stands = r.stands;
    over = r.over;
    can = record { lawful = r.lawful; closed = closed_now d before s v old r plain };
    owner = subst (λ (n : ℕ). 1 ≤ n) its.0 its.1.number;
    unfinished = ap (λ (n : ℕ). is_finished n r.now.log) (sym its.0) ∙ its.1.unfinished;
    row = ap (λ (n : ℕ). row_of n r.now.log) (sym its.0)
        ∙ ap (λ (n : ℕ). record { last = n; undo_next = undo_next_of row.number r.now.log }) (sym its.1.last)
        ∙ ap (λ (n : ℕ). record { last = row.last; undo_next = n }) (sym its.1.undo);
  }

  pub has_more_to_undo : to_undo t r.now.log ≢ []
  has_more_to_undo = left_to_undo d before s v t row old r found (nobody_owner d before s v old r plain t) mark

  -- numbers from the next one on stay new
  below_next : t < old.txns.next
  below_next = subst (λ (n : ℕ). n < old.txns.next) its.0 its.1.below

  -- what the machine has of it
  net_now : (v.txns t).net ≡ net t r.now.log
  net_now = r.serving.seen_by.nets t (out_of b r.earlier before s v r.now.log old.txns.rows old.txns.next old.locks r.serving t (not_waiting old.txns.rows t row found (back_waits row mark)))

  -- the key of the record that is to undo next comes back, and finds its leaf without room
  abbrev comes_back : (entry : Entry) (next : IsToUndo d b r.base r.now t entry) (k : Key) (i : ℕ) → what_of entry ≡ DeleteKey k i → LacksRoomFor (bodies r.now) k → LacksRoom (settled b r.now.log) v.walk ((v.txns t).net)
  comes_back entry next k i is lacks =
      let can : IsUndoable b page_tree r.now.log = record { lawful = r.lawful; closed = closed_now d before s v old r plain } in
      let shows = subst (λ (w : What). ShowsChange (logs.bodies b r.now.log) w) is (shows_change b r.now.log can t (logged_at next.lsn entry) next.next) in
      record {
        key = k;
        rid = i;
        older = changes_of next.next.rest;
        newest = net_now ∙ ap changes_of next.next.stack ∙ ap (λ (w : What). change_of w ++ changes_of next.next.rest) is;
        absent = ap (λ (m : IndexMap). get m k) r.serving.seen_by.walk ∙ get_is b r.now.log can k ∙ shows;
        lacks = subst (λ (pages : Pages). LacksRoomFor pages k) (bodies_are d before s v old r plain) lacks;
      }

  -- a key that comes back finds its leaf without room
  pub lacks_room : LacksRoomBack d b r.base r.now t → LacksRoom (settled b r.now.log) v.walk ((v.txns t).net)
  lacks_room is = by (what_of is.entry) refl is.lacks
    where
      by : (w : What) → what_of is.entry ≡ w → WantsRoom (bodies r.now) w → LacksRoom (settled b r.now.log) v.walk ((v.txns t).net)
      by (DeleteKey k i) same wants = comes_back is.entry is.next k i same wants
      by (InsertKey k i) same wants = absurd wants
      by (UndoInsert k i) same wants = absurd wants
      by (UndoDelete k i) same wants = absurd wants
      by (Smo was now) same wants = absurd wants
      by (UndoSmo now) same wants = absurd wants
      by DummyClr same wants = absurd wants
      by Commit same wants = absurd wants
      by End same wants = absurd wants
      by (Image c) same wants = absurd wants
      by (Checkpoint n a dirty) same wants = absurd wants
      by Unreadable same wants = absurd wants

  -- and its split is not to be had
  pub lacks_way : LacksWayBack d b r.base r.now t → (wants : LacksRoom (settled b r.now.log) v.walk ((v.txns t).net)) × IsUsedUp false (settled b r.now.log) wants.key
  lacks_way is = by (what_of is.entry) refl is.used_up
    where
      by : (w : What) → what_of is.entry ≡ w → UsesUp (bodies r.now) w → (wants : LacksRoom (settled b r.now.log) v.walk ((v.txns t).net)) × IsUsedUp false (settled b r.now.log) wants.key
      by (DeleteKey k i) same full =
          let used_up : IsUsedUp false (settled b r.now.log) k = subst (λ (pages : Pages). IsUsedUp false pages k) (bodies_are d before s v old r plain) full.used_up in
          (comes_back is.entry is.next k i same full.lacks, used_up)
      by (InsertKey k i) same full = absurd full
      by (UndoInsert k i) same full = absurd full
      by (UndoDelete k i) same full = absurd full
      by (Smo was now) same full = absurd full
      by (UndoSmo now) same full = absurd full
      by DummyClr same full = absurd full
      by Commit same full = absurd full
      by End same full = absurd full
      by (Image c) same full = absurd full
      by (Checkpoint n a dirty) same full = absurd full
      by Unreadable same full = absurd full

module _ {D : Type 0} (d : Ghosts D) (before : List Effect) (s : Shown) (v : View) (t : ℕ) (row : Transaction) (old new : Engine D d) (life : IsLife d before s v old) (works : old.failed ≡ false)
    (found : find (is_of t) old.txns.rows ≡ Some row) (checked : checked_by old.txns.rows (owns_in (under_of old.under) (Continue t)) (Continue t) ≡ None) (plain : old.under ≡ None) (stays : new.under ≡ old.under) where
  abbrev run : (b : Base) × IsRunning d b before s v old
  run = life.running works

  -- a stop within it
  pub undo_stops : LeavesUndo d run.0 run.1.base run.1.now t old.disk new.disk → LeavesOnly d old.disk new.disk (Allowed before s)
  undo_stops stops =
      let r = run.1 in
      weakened d old.disk new.disk (LeftByUndo d run.0 r.base r.now t) (Allowed before s) stops
      (λ told c is. left_on d before s v old r is.high is.lawful (within_leaves_others t r.now.log is.high (undo_grows t r.now.log is.high is.grows)).1 c is.covered)

  module _ (works_on : new.failed ≡ false) (stops : LeavesUndo d run.0 run.1.base run.1.now t old.disk new.disk) where
    -- one change was taken back: after that these are the rows, and the machine is there
    module _ (last undo_next : ℕ) (took : Took d run.0 run.1.base run.1.now run.1.redo_end t last undo_next old.disk new.writer new.disk) where
      abbrev longer : History
      longer = took.taken.now.log

      abbrev change : Change
      change = undone_change d run.0 run.1.base run.1.now run.1.redo_end t last undo_next old.disk new.writer new.disk took

      undoes : UndoesNewest run.0 t change run.1.now.log longer
      undoes = took_newest d run.0 run.1.base run.1.now run.1.redo_end t last undo_next old.disk new.writer new.disk took

      abbrev undone_to : View
      undone_to = undid_more v t change (net t longer)

      -- the rows that note it
      noted_so : uncounted t longer old.txns.rows ≡ map (changed t (with_undone last undo_next)) old.txns.rows
      noted_so =
          let rows_of : ℕ → ℕ → List Transaction = λ l n. map (changed t (with_undone l n)) old.txns.rows in
          ap (λ (l : ℕ). rows_of l (undo_next_of t longer)) (took_last d run.0 run.1.base run.1.now run.1.redo_end t last undo_next old.disk new.writer new.disk took)
          ∙ ap (λ (n : ℕ). rows_of last n) (took_next d run.0 run.1.base run.1.now run.1.redo_end t last undo_next old.disk new.writer new.disk took)

      -- one change fewer is left
      one_fewer : row.changes ≡ suc (length (net t longer))
      one_fewer =
          let is = its d before s v t row old run.1 found checked plain in
          counted_at t old.txns.next run.1.now.log row is.0 is.1 ∙ ap (λ (e : Effect). length e) (undo_takes_back run.0 t change run.1.now.log longer undoes).0.own

      went_on : (reply : answers.Reply) (rows : List Transaction) (w : View) → w.under ≡ of_others t v.under → IsServed run.0 run.1.earlier before s v (Continue t) reply w longer rows old.txns.next old.locks
          → (shows s (Continue t) (Some reply)).asked ≡ s.asked → IsDone d before (shows s (Continue t) (Some reply)) w (Continue t) reply new
          → GrowsAs run.0 (FitsRecord old.writer.table) (under_of old.under) (under_of new.under) reply (Continue t) run.1.now.log longer
          → new.locks ≡ old.locks → new.txns ≡ record old.txns { rows = rows } → StepKept d before s v (Continue t) reply old new
      went_on reply rows w beside served asks done grows locks table =
          let b = run.0 in
          let r = run.1 in
          let below = below_next d before s v t row old r found checked plain in
          let now = took.taken.now in
          let going = took.taken.goes.going in
          let left_same = within_leaves_others t r.now.log now.log undoes.grows in
          let shown = shows s (Continue t) (Some reply) in
          let commits = commits_stand.more r.earlier before s.asked r.now.durable now.log now.durable (commits_stand.stay r.earlier before s.asked r.now.durable r.now.log now.log r.commits left_same.1)
          (record { from = took.taken.goes.durable; upto = going.stands.writing.stands.kept.front }) in
          let running : IsRunning d b before shown w new = record {
            base = r.base;
            start = r.start;
            counted = r.counted;
            earlier = r.earlier;
            now = now;
            stands = going.stands;
            redo_end = r.redo_end;
            over = going.over;
            lawful = going.can.lawful;
            changing = subst (λ (u : Option Under). IsChanging b u now.log) (sym (stays ∙ plain)) going.can.closed;
            serving = subst (λ (x : Numbered). IsServing b r.earlier before shown w now.log x.rows x.next new.locks) (sym table)
                (subst (λ (l : Table). IsServing b r.earlier before shown w now.log rows old.txns.next l) (sym locks) served.1);
            commits = subst (λ (l : List Asked). AreCommitted r.earlier before l now.durable now.log) (sym asks) commits;
            numbered = subst (λ (n : ℕ). n ≤ 2 ^ 62 → AreBelow n now.log) (sym (ap (λ (x : Numbered). x.next) table))
                (λ le. numbers_stay_new.within old.txns.next t r.now.log now.log below (r.numbered le) undoes.grows);
            same = beside ∙ ap (of_others t) (r.same ∙ ap under_of plain) ∙ sym (ap under_of (stays ∙ plain));
          } in
          step_made d before s v (Continue t) reply old new w served.0 running works_on (undo_stops stops) done r grows

      turns_so : GoesOnBy run.0 (under_of old.under) (under_of new.under) t run.1.now.log longer
      turns_so = by_turn (none_owns t plain) (none_owns t (stays ∙ plain)) (record { grows = took.taken.goes.grows; once = took.taken.once })

      going_still : is_finished t longer ≡ false
      going_still = took.taken.goes.going.unfinished

      -- of one that rolls back others are left
      rolls_on : row.mark ≡ marks.RollingBack → net t longer ≢ [] → new.locks ≡ old.locks → new.txns ≡ record old.txns { rows = map (changed t (with_undone last undo_next)) old.txns.rows } → StepKept d before s v (Continue t) More old new
      rolls_on is left locks table =
          went_on More (uncounted t longer old.txns.rows) undone_to refl
          (undone_served run.0 run.1.earlier before s v run.1.now.log longer old.txns.rows old.txns.next old.locks t row change run.1.serving found is undoes left going_still)
          refl tt turns_so locks (table ∙ ap (λ (rows : List Transaction). record old.txns { rows = rows }) (sym noted_so))

      -- of one that returns more are left than it returns to
      returns_on : (n : ℕ) → row.mark ≡ marks.Returning n → n < row.changes - 1 → new.locks ≡ old.locks → new.txns ≡ record old.txns { rows = map (changed t (with_undone last undo_next)) old.txns.rows } → StepKept d before s v (Continue t) More old new
      returns_on n is more locks table =
          let count = one_fewer in
          went_on More (uncounted t longer old.txns.rows) undone_to refl
          (returns_go_on run.0 run.1.earlier before s v run.1.now.log longer old.txns.rows old.txns.next old.locks t n row change run.1.serving found is undoes (omega (arith, more, count)) going_still)
          refl tt turns_so locks (table ∙ ap (λ (rows : List Transaction). record old.txns { rows = rows }) (sym noted_so))

      -- or as many, and it is going
      returned : (n : ℕ) → row.mark ≡ marks.Returning n → row.changes - 1 ≤ n → new.locks ≡ old.locks → new.txns ≡ record old.txns { rows = map (changed t (with_mark marks.Going)) (map (changed t (with_undone last undo_next)) old.txns.rows) }
          → StepKept d before s v (Continue t) Done old new
      returned n is few locks table =
          let count = one_fewer in
          let more = returning_more run.0 run.1.earlier before s v run.1.now.log old.txns.rows old.txns.next old.locks t n row run.1.serving found is (nobody_owner d before s v old run.1 plain t) in
          went_on Done (map (changed t (with_mark marks.Going)) (uncounted t longer old.txns.rows)) (marked undone_to t answers.Going) refl
          (returns_end run.0 run.1.earlier before s v run.1.now.log longer old.txns.rows old.txns.next old.locks t n row change run.1.serving found is undoes (omega (arith, few, more, count)) going_still)
          refl tt turns_so locks (table ∙ ap (λ (rows : List Transaction). record old.txns { rows = map (changed t (with_mark marks.Going)) rows }) (sym noted_so))

    -- other changes are left to take back
    pub has_more : (ends : Bool) → ends ≡ ends_back row → (u : Undone) (last undo_next : ℕ) → u ≡ turns.More last undo_next → Turned d run.0 run.1.base ends run.1.now run.1.redo_end t old.disk new.writer new.disk u
        → has_returned (with_undone last undo_next row) ≡ false → new.locks ≡ old.locks → new.txns ≡ record old.txns { rows = map (changed t (with_undone last undo_next)) old.txns.rows } → StepKept d before s v (Continue t) More old new
    has_more ends ends_so u last undo_next same turned yet locks table = by (mark d before s v t row old run.1 found checked plain)
      where
        by : GoesBack row → StepKept d before s v (Continue t) More old new
        by (inl is) =
            let it : HasMore d run.0 run.1.base run.1.now run.1.redo_end t last undo_next old.disk new.writer new.disk =
            subst (λ (x : Bool × Undone). Turned d run.0 run.1.base x.0 run.1.now run.1.redo_end t old.disk new.writer new.disk x.1) (λ i. ((ends_so ∙ ap is_rolling_back is) i, same i)) turned in
            rolls_on last undo_next it.took is it.left locks table
        by (inr x) =
            let took : Took d run.0 run.1.base run.1.now run.1.redo_end t last undo_next old.disk new.writer new.disk =
            subst (λ (y : Bool × Undone). Turned d run.0 run.1.base y.0 run.1.now run.1.redo_end t old.disk new.writer new.disk y.1) (λ i. ((ends_so ∙ ap is_rolling_back x.1) i, same i)) turned in
            returns_on last undo_next took x.0 x.1 (not_yet_back (with_undone last undo_next row) yet x.0 x.1) locks table

    -- it has returned
    pub has_gone_back : (ends : Bool) → ends ≡ ends_back row → (u : Undone) (last undo_next : ℕ) → u ≡ turns.More last undo_next → Turned d run.0 run.1.base ends run.1.now run.1.redo_end t old.disk new.writer new.disk u
        → has_returned (with_undone last undo_next row) ≡ true → new.locks ≡ old.locks → new.txns ≡ record old.txns { rows = map (changed t (with_mark marks.Going)) (map (changed t (with_undone last undo_next)) old.txns.rows) }
        → StepKept d before s v (Continue t) Done old new
    has_gone_back ends ends_so u last undo_next same turned back locks table =
        let is = has_come_back (with_undone last undo_next row) back in
        let took : Took d run.0 run.1.base run.1.now run.1.redo_end t last undo_next old.disk new.writer new.disk =
        subst (λ (y : Bool × Undone). Turned d run.0 run.1.base y.0 run.1.now run.1.redo_end t old.disk new.writer new.disk y.1) (λ i. ((ends_so ∙ ap is_rolling_back is.1) i, same i)) turned in
        returned last undo_next took is.0 is.1 is.2 locks table

    -- the last one was taken back
    has_ended_so : row.mark ≡ marks.RollingBack → HasEndedNow d run.0 run.1.base run.1.now run.1.redo_end t old.disk new.writer new.disk → IsReleased old.locks t new.locks → length old.txns.rows ≡ length (without t old.txns.rows) + 1
        → new.txns ≡ record old.txns { rows = without t old.txns.rows } → StepKept d before s v (Continue t) RolledBack old new
    has_ended_so rolling is released once table =
        let b = run.0 in
        let r = run.1 in
        let below = below_next d before s v t row old r found checked plain in
        let took = is.took in
        let between = took.taken.now.log in
        let undoes = took_newest d b r.base r.now r.redo_end t is.last is.undo_next old.disk is.between is.mid took in
        let c = undone_change d b r.base r.now r.redo_end t is.last is.undo_next old.disk is.between is.mid took in
        let newest = logged_at is.end.lsn (entries.End t is.last) in
        let longer : History = newest ∷ between in
        let ended = ends_leave_nothing b t c r.now.log between newest undoes is.none refl refl in
        let w = undid_last v t c in
        let shown = shows s (Continue t) (Some RolledBack) in
        let served = last_undone_served b r.earlier before s v r.now.log between old.txns.rows old.txns.next old.locks new.locks t row c newest r.serving found rolling undoes is.none refl refl released once in
        let now = is.end.now in
        let running : IsRunning d b before shown w new = record {
          base = r.base;
          start = r.start;
          counted = r.counted;
          earlier = r.earlier;
          now = now;
          stands = is.end.stands;
          redo_end = r.redo_end;
          over = is.end.over;
          lawful = is.end.can.lawful;
          changing = subst (λ (u : Option Under). IsChanging b u now.log) (sym (stays ∙ plain)) is.end.can.closed;
          serving = subst (λ (x : Numbered). IsServing b r.earlier before shown w now.log x.rows x.next new.locks) (sym table)
              (subst (λ (l : History). IsServing b r.earlier before shown w l (without t old.txns.rows) old.txns.next new.locks) (sym is.end.log) served.1);
          commits = commits_stand.more r.earlier before s.asked r.now.durable now.log now.durable
              (commits_stand.stay r.earlier before s.asked r.now.durable r.now.log now.log r.commits (ap committed is.end.log ∙ ended.back.commits))
              (record { from = front_then r.now.durable took.taken.now.durable now.durable took.taken.goes.durable is.end.durable; upto = is.end.stands.writing.stands.kept.front });
          numbered = subst (λ (n : ℕ). n ≤ 2 ^ 62 → AreBelow n now.log) (sym (ap (λ (x : Numbered). x.next) table))
              (λ le. subst (λ (l : History). AreBelow old.txns.next l) (sym is.end.log) (below, numbers_stay_new.within old.txns.next t r.now.log between below (r.numbered le) undoes.grows));
          same = ap (of_others t) (r.same ∙ ap under_of plain) ∙ sym (ap under_of (stays ∙ plain));
        } in
        step_made d before s v (Continue t) RolledBack old new w served.0 running works_on (undo_stops stops) tt r
        (ends_by_turn (none_owns t plain) (record { between = between; one = record { grows = took.taken.goes.grows; once = took.taken.once }; last = is.last; lsn = is.end.lsn; is = is.end.log }))

    pub has_ended : (ends : Bool) → ends ≡ ends_back row → (u : Undone) → u ≡ turns.Ended → Turned d run.0 run.1.base ends run.1.now run.1.redo_end t old.disk new.writer new.disk u → IsReleased old.locks t new.locks
        → length old.txns.rows ≡ length (without t old.txns.rows) + 1 → new.txns ≡ record old.txns { rows = without t old.txns.rows } → StepKept d before s v (Continue t) RolledBack old new
    has_ended ends ends_so u same turned released once table = by (mark d before s v t row old run.1 found checked plain)
      where
        so : (m : Mark) → row.mark ≡ m → Turned d run.0 run.1.base (is_rolling_back m) run.1.now run.1.redo_end t old.disk new.writer new.disk turns.Ended
        so m is = subst (λ (x : Bool × Undone). Turned d run.0 run.1.base x.0 run.1.now run.1.redo_end t old.disk new.writer new.disk x.1) (λ i. ((ends_so ∙ ap is_rolling_back is) i, same i)) turned

        by : GoesBack row → StepKept d before s v (Continue t) RolledBack old new
        by (inl is) = has_ended_so is (so marks.RollingBack is) released once table
        by (inr x) = absurd (so (marks.Returning x.0) x.1)

  -- it is refused: for want of memory all is as it was, and any other refusal breaks the engine
  pub turn_refused : (f : Fault) → TurnEnds d may_turn old.writer new.writer new.disk (Some f) → f ≢ NotAStore → (f ≡ Memory → Evicted d run.0 run.1.base run.1.now old.disk new.writer new.disk)
      → LeavesUndo d run.0 run.1.base run.1.now t old.disk new.disk → new.failed ≡ ends_engine f → new.txns ≡ old.txns → new.locks ≡ old.locks → (told : Fault) → told ≡ told_as f
      → ((u : ℕ) (c : Files) → u ≤ d.moment new.disk → d.may_leave new.disk c → d.left_since new.disk u c) → StepKept d before s v (Continue t) (Refused (number_of told)) old new
  turn_refused f one sound again stops fails table locks told is counts_now =
      subst (λ (y : Fault). StepKept d before s v (Continue t) (Refused (number_of y)) old new) (sym is) (by f one sound again fails)
    where
      let_pass : barred v (Continue t) ≡ None
      let_pass = checks_tell d before s v old run.1 (Continue t) ∙ checked

      by : (g : Fault) → TurnEnds d may_turn old.writer new.writer new.disk (Some g) → g ≢ NotAStore → (g ≡ Memory → Evicted d run.0 run.1.base run.1.now old.disk new.writer new.disk) → new.failed ≡ ends_engine g
          → StepKept d before s v (Continue t) (Refused (number_of (told_as g))) old new
      by Memory x other back on =
          lacks_with d before s v (Continue t) (λ u e. cc e) let_pass old new life works counts_now refl (back refl) (undo_stops stops) table ((λ u. ap (λ (l : Table). locks_of l u) locks), (λ u. ap (λ (l : Table). lasting_of l u) locks)) on stays
      by Capacity x other back on = breaks_with d before s v (Continue t) (λ u e. cc e) let_pass old new life works counts_now 6 (inl refl) on (undo_stops stops)
      by LogFull x other back on = breaks_with d before s v (Continue t) (λ u e. cc e) let_pass old new life works counts_now 7 (inr (inl refl)) on (undo_stops stops)
      by Device x other back on = breaks_with d before s v (Continue t) (λ u e. cc e) let_pass old new life works counts_now 8 (inr (inr (inl refl))) on (undo_stops stops)
      by Failed x other back on = breaks_with d before s v (Continue t) (λ u e. cc e) let_pass old new life works counts_now 10 (inr (inr (inr refl))) on (undo_stops stops)
      by NotAStore x other back on = absurd (other refl)
      by g x other back on = absurd (let never = x.0 in cc never)

-- ---- what its refusal says

module _ {D : Type 0} (d : Ghosts D) (v w : PageWriter) (new : D) where
  -- why it is refused
  pub turn_cause : (f : Fault) → TurnEnds d may_turn v w new (Some f) → TurnCause d w.log new (told_as f)
  turn_cause Device x = x.1
  turn_cause LogFull x = x.3
  turn_cause PagesFull x = absurd (let never = x.0 in cc never)
  turn_cause e x = tt

  -- a disk that failed is told
  pub turn_lost : d.failed new ≡ true → (f : Fault) → TurnEnds d may_turn v w new (Some f) → told_as f ≡ faults.Device
  turn_lost lost Device x = refl
  turn_lost lost LogFull x = absurd (not_true (d.failed new) x.2 lost)
  turn_lost lost NotAStore x = absurd (not_true (d.failed new) x.1 lost)
  turn_lost lost e x = absurd (not_true (d.failed new) x.1.alive lost)

-- ---- what a Continue says of its cause

module _ {D : Type 0} (d : Ghosts D) (old : Engine D d) (works : old.failed ≡ false) (t : ℕ) (checked : checked_by old.txns.rows (owns_in (under_of old.under) (Continue t)) (Continue t) ≡ None) where
  pub continue_made : (log : LogFile) (disk : D) (reply : Reply) → ((x : Fault) → reply ≢ replies.Refused x) → Answers d old log disk (Continue t) reply
  continue_made log disk reply not = behind d old log disk works (Continue t) reply checked (λ fault. not_refused_for d old log disk works (TurnCause d log disk) reply not fault)

  pub continue_refused : (w : PageWriter) (disk : D) (f : Fault) (told : Fault) → told ≡ told_as f → TurnEnds d may_turn old.writer w disk (Some f) → Answers d old w.log disk (Continue t) (replies.Refused told)
  continue_refused w disk f told is x =
      behind d old w.log disk works (Continue t) (replies.Refused told) checked (λ fault. refused_for d old w.log disk works (TurnCause d w.log disk) f told is (turn_cause d old.writer w disk f x) fault)

-- it is told that it failed only where it did
pub told_failed : {D : Type 0} (d : Ghosts D) (v w : PageWriter) (new : D) (f : Fault) → TurnEnds d may_turn v w new (Some f) → told_as f ≡ faults.Failed → f ≡ Failed
told_failed d v w new Failed x is = refl
told_failed d v w new Memory x is = absurd (cc is)
told_failed d v w new Capacity x is = absurd (cc is)
told_failed d v w new LogFull x is = absurd (cc is)
told_failed d v w new Device x is = absurd (cc is)
told_failed d v w new NotAStore x is = absurd (cc is)
told_failed d v w new g x is = absurd (let never = x.0 in cc never)

-- a refusal that is told so was one
pub told_memory : (f : Fault) → told_as f ≡ faults.Memory → f ≡ Memory
told_memory Capacity is = absurd (cc is)
told_memory PagesFull is = absurd (cc is)
told_memory LogFull is = absurd (cc is)
told_memory Device is = absurd (cc is)
told_memory Memory is = refl
told_memory NotAStore is = absurd (cc is)
told_memory e is = absurd (cc is)

pub told_capacity : (f : Fault) → told_as f ≡ faults.Capacity → f ≡ Capacity
told_capacity Capacity is = refl
told_capacity PagesFull is = absurd (cc is)
told_capacity LogFull is = absurd (cc is)
told_capacity Device is = absurd (cc is)
told_capacity Memory is = absurd (cc is)
told_capacity NotAStore is = absurd (cc is)
told_capacity e is = absurd (cc is)
