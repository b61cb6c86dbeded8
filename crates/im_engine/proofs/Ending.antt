-- Transactions that begin and end, and the force of the log.
use Rattle.std.proofs.Common.{◌≢◌, ◌≡◌, ◌⊎◌, inl, inr, ℕ, suc, ◌+◌, ◌≤◌, ◌<◌, ◌^◌, List, [], ◌∷◌, ◌++◌, append-nil, Bool, true, false, Option, Some, None, length, refl, sym, ap, subst, ◌∙◌, arith, ltb-true}
use Rattle.std.specs.Prelude.{find, map, nat_lt, not, if◌then◌else◌}
use Rattle.im_base_types.specs.Faults.{number_of}
use Rattle.im_base_types.specs.declared.fault.Fault.{Fault}
use Rattle.im_page_writer.specs.Outcome.{LogEnds, Ends, Flushes, AsksNothing, none_mild}
use Rattle.im_page_writer.proofs.Cited.{flush_asks, goes_on_start}
use Rattle.im_base_types.specs.Pages.{Page}
use Rattle.im_engine.specs.Faults.{told_as}
use Rattle.im_engine.proofs.Refused.{breaks_with}
use Rattle.im_base_types.specs.Answers as answers
use Rattle.im_base_types.specs.Answers.{Begin, Started, Commit, Committed, Rollback, RolledBack, RollTo, More, Force, FlushPage, Done, Refused}
use Rattle.im_base_types.specs.Changes.{Effect, seen_effect}
use Rattle.im_theory_log.specs.Histories.{Base, History, Rises, end_of}
use Rattle.im_theory_log.specs.Lawful.{IsLawful, Follows, IsOutside}
use Rattle.im_theory_log.specs.Structure.{open_smo}
use Rattle.im_theory_log.proofs.Cited.{logs_stay_lawful, rises as rises_of}
use Rattle.im_theory_log.specs.Transactions.{last_of, net, changes_of, is_finished}
use Rattle.im_base_types.specs.Refusals.{memory, unfinished, too_many}
use Rattle.im_base_types.specs.declared.fault.Fault.TheVariants.{Failed, LogFull, Device, NotAStore}
use Rattle.im_theory_log.specs.Writer.{Writer}
use Rattle.im_theory_log.specs.WriterSteps.{appended, forced}
use Rattle.im_base_types.specs.Lives.{Asked, Shown, Survives, asks, shows}
use Rattle.im_base_disk.specs.declared.disk.Disk.{Ghosts}
use Rattle.im_base_disk.specs.Disk.{Files}
use Rattle.im_base_disk.specs.Runs.{LeavesOnly}
use Rattle.im_base_disk.proofs.Runs.{weakened, then_on}
use Rattle.im_log_record.specs.Entry as entries
use Rattle.im_log.specs.Spelled.{logged_at}
use Rattle.im_log.proofs.Above.{left_now}
use Rattle.im_page_file.specs.Stands.{IsCovered, LeavesCovered}
use Rattle.im_page_writer.specs.declared.page_writer.PageWriter.{PageWriter}
use Rattle.im_page_writer.specs.PageWriter.{StandsAs, GoesOn, FlushedOne, LoggedOnly}
use Rattle.im_theory_tree.specs.Theory.{page_tree}
use Rattle.im_theory_tree.proofs.TheoryLaws.{page_tree_laws}
use Rattle.im_base_txn.specs.Rows.{AreRising, begun as row_begun, is_of, is_committing, changed, with_mark, waiting_in, waiting_numbers, without_waiting}
use Rattle.im_base_txn.specs.LookUps.{without}
use Rattle.im_base_txn.specs.declared.transaction.Mark.{Mark}
use Rattle.im_base_txn.specs.declared.transaction.Mark.TheVariants.{Going, MustRollBack, RollingBack, Returning, Committing}
use Rattle.im_base_txn.specs.declared.transaction.Transaction.{Transaction}
use Rattle.im_theory_machine.specs.Table.{Table, AreReleased, IsReleased, locks_of}
use Rattle.im_theory_machine.specs.View.{View, begun, marked, committed_by, dropped_by, queued, forced_by, is_among, owns_in, pending_of, owner_in, owner_of}
use Rattle.im_theory_machine.specs.Machine.{Breaks, barred, fault_if}
use Rattle.im_theory_steps.specs.Checks.{checked_by}
use Rattle.im_theory_steps.specs.Durable.{AreCommitted}
use Rattle.im_theory_steps.specs.Growth.{AreBelow, Stays, IsOfAll}
use Rattle.im_theory_steps.specs.Serving.{IsServed, IsServing, mark_of}
use Rattle.im_theory_steps.proofs.Cited.{empty_asked, copies_are_images, images_change_nothing, numbers_stay_new, unlogged, commits_stand, others_ask_nothing, cut_commits_stand, commit_commits, logged_commits_served, logged_commits_wait, effect_shown, at, mark_free, unlogged_commits_served, begins_served, drops_served, returns_stay, returns_turn, turns_served, flushes_served, forces_served, some_stand}
use Rattle.im_theory_steps.specs.Steps.{commit_record}
use Rattle.im_engine.specs.declared.engine.Engine.{Engine}
use Rattle.im_engine.specs.Numbered.{Numbered}
use Rattle.im_engine.specs.Stands.{Allowed}
use Rattle.im_engine.specs.Running.{IsRunning, IsLife}
use Rattle.im_engine.specs.Kept.{IsDone, StepKept}
use Rattle.im_engine.proofs.Stands.{covered_allowed}
use Rattle.im_engine.specs.declared.stepped.Under.{Under}
use Rattle.im_engine.specs.Aims.{IsChanging, under_of}
use Rattle.im_engine.proofs.GoingOn.{record_goes}
use Rattle.im_engine.proofs.Running.{outside_of, not_owner, nothing_pending, checks_tell, allowed_as, tells, none_waits, page_is, read_stops, covered_stops, idle_stops, runs_on}
use Rattle.im_engine.specs.Growing.{GrowsAs, no_records, with_records, without_records}
use Rattle.im_page_table.specs.DirtyTable.{FitsRecord}
use Rattle.im_engine.proofs.Made.{step_made, step_broke, leaves_as}
use Rattle.im_engine.proofs.Waits.{out_of, not_waiting, nobody, left_rows, left_count, left_locks}

-- the record of a Commit leaves a lawful log
commit_lawful : (b : Base) (earlier before : List Effect) (s : Shown) (v : View) (older : History) (rows : List Transaction) (next : ℕ) (held : Table) (t lsn : ℕ) (row : Transaction) → IsServing b earlier before s v older rows next held
    → find (is_of t) rows ≡ Some row → row.mark ≡ Going → IsLawful b page_tree older → IsOutside t (open_smo older) → end_of b older < lsn → IsLawful b page_tree (commit_record t row.last lsn ∷ older)
commit_lawful b earlier before s v older rows next held t lsn row h found mark law out rises =
    let is = at b earlier before s v older rows next held h t row found (mark_free row.mark Going mark (λ x. cc x)) in
    let newest = commit_record t row.last lsn in
    let follows : Follows b page_tree newest older = record {
      rises = rises;
      chained = λ owned. record {
        number = subst (λ (n : ℕ). 1 ≤ n) is.0 is.1.number;
        prev = is.1.last ∙ ap (λ (n : ℕ). last_of n older) is.0;
        unfinished = ap (λ (n : ℕ). is_finished n older) (sym is.0) ∙ is.1.unfinished;
      };
      may = record {
        no_undo_next = refl;
        outside = out;
      };
    } in
    logs_stay_lawful page_tree page_tree_laws b older newest law follows (λ e. absurd cc)

-- who is going, or must roll back, does not wait for a force
pub waits_not : (m : Mark) → (m ≡ Going) ⊎ (m ≡ MustRollBack) → m ≡ Committing → ⊥
waits_not m (inl is) = mark_free m Going is (λ x. cc x)
waits_not m (inr is) = mark_free m MustRollBack is (λ x. cc x)

-- records that are none of a transaction's leave it as it is
stays_here : (b : Base) (log : History) → Stays b log log × IsOfAll log log
stays_here b log = images_change_nothing b log log (record { more = []; is = refl; images = tt })

-- a stop within a Commit may leave what it might leave before
pub cut_leaves : {D : Type 0} (d : Ghosts D) (before : List Effect) (s : Shown) (t : ℕ) (old new : D) → LeavesOnly d old new (Allowed before s) → LeavesOnly d old new (Allowed before (shows s (Commit t) None))
cut_leaves d before s t old new leaves =
    let more = others_ask_nothing.more s t in
    weakened d old new (Allowed before s) (Allowed before (shows s (Commit t) None)) leaves
    (λ told c is. (is.0, subst (λ (l : List Asked). Survives before l is.0) (sym more.2) (commits_stand.lost before is.0 s.asked more.0 is.1 more.1), is.2))

-- a refusal of an append or a force, by its number
pub record IsOfLog (f : Fault) : Type 0 where
  pub broken : Breaks (number_of (told_as f))
  pub no_memory : number_of (told_as f) ≡ memory → ⊥
  pub no_structure : number_of (told_as f) ≡ unfinished → ⊥

pub of_log : {D : Type 0} (d : Ghosts D) (v : PageWriter) (old : D) (w : PageWriter) (new : D) → v.failed ≡ false → (f : Fault) → LogEnds d false none_mild v old w new (Some f) → IsOfLog f
of_log d v old w new works Failed x = absurd (let never : false ≡ true = sym works ∙ x.0 in cc never)
of_log d v old w new works NotAStore x = absurd (let never = x.0 in cc never)
of_log d v old w new works Device x = record { broken = inr (inr (inl refl)); no_memory = λ e. cc e; no_structure = λ e. cc e }
of_log d v old w new works LogFull x = record { broken = inr (inl refl); no_memory = λ e. cc e; no_structure = λ e. cc e }
of_log d v old w new works f x = absurd (let never = x.0 in cc never)

pub of_flush : {D : Type 0} (d : Ghosts D) (v : PageWriter) (old : D) (w : PageWriter) (new : D) → v.failed ≡ false → (f : Fault) → Ends d AsksNothing none_mild v old w new (Some f) → IsOfLog f
of_flush d v old w new works Failed x = absurd (let never : false ≡ true = sym works ∙ x.0 in cc never)
of_flush d v old w new works Device x = record { broken = inr (inr (inl refl)); no_memory = λ e. cc e; no_structure = λ e. cc e }
of_flush d v old w new works LogFull x = record { broken = inr (inl refl); no_memory = λ e. cc e; no_structure = λ e. cc e }
of_flush d v old w new works f x = absurd (let never = x.0 in cc never)

few_of : (n : ℕ) → fault_if (not (nat_lt n 64)) too_many ≡ None → n < 64
few_of n is = by (nat_lt n 64) refl is
  where
    by : (b : Bool) → nat_lt n 64 ≡ b → fault_if (not b) too_many ≡ None → n < 64
    by true here none = ltb-true n 64 here
    by false here none = absurd (cc none)

-- a Begin finds room in the table
pub begin_few : (rows : List Transaction) → checked_by rows false Begin ≡ None → length rows < 64
begin_few rows is = few_of (length rows) is

module _ {D : Type 0} (d : Ghosts D) (before : List Effect) (s : Shown) (v : View) (old new : Engine D d) (life : IsLife d before s v old) (works : old.failed ≡ false) where
  abbrev run : (b : Base) × IsRunning d b before s v old
  run = life.running works

  -- what a step is that made no call of the writer
  module _ (writer : new.writer ≡ old.writer) (disk : new.disk ≡ old.disk) (stays : new.under ≡ old.under) (only_now : (c : Files) → d.left_since old.disk (d.moment old.disk) c → d.may_leave old.disk c) where
    on_here : GoesOn d run.0 run.1.base run.1.now old.disk run.1.now new.writer new.disk
    on_here = subst (λ (w : PageWriter). GoesOn d run.0 run.1.base run.1.now old.disk run.1.now w new.disk) (sym writer)
        (subst (λ (x : D). GoesOn d run.0 run.1.base run.1.now old.disk run.1.now old.writer x) (sym disk) (goes_on_start d run.0 run.1.base run.1.now old.writer old.disk only_now run.1.stands))

    stops_here : (t : Shown) → t.asked ≡ s.asked → LeavesOnly d old.disk new.disk (Allowed before t)
    stops_here t same = leaves_as d before s t old.disk new.disk same (subst (λ (x : D). LeavesOnly d old.disk x (Allowed before s)) (sym disk) (idle_stops d before s v old run.1 only_now))

    -- a transaction began
    pub began : (number : ℕ) → number ≡ old.txns.next → number ≤ 2 ^ 62 → length old.txns.rows < 64 → new.txns ≡ record old.txns { rows = old.txns.rows ++ row_begun number ∷ []; next = number + 1 } → new.locks ≡ old.locks → new.failed ≡ false
        → StepKept d before s v Begin (Started number) old new
    unfolding runs_on
    began number is le few table locks works_on =
        let r = run.1 in
        let le_old : old.txns.next ≤ 2 ^ 62 = subst (λ (n : ℕ). n ≤ 2 ^ 62) is le in
        let below = r.numbered le_old in
        let served = begins_served run.0 r.earlier before s v r.now.log old.txns.rows old.txns.next old.locks r.serving (numbers_stay_new.none old.txns.next r.now.log below) old.numbered le_old few in
        let after : Numbered = record old.txns { rows = old.txns.rows ++ row_begun old.txns.next ∷ []; next = suc old.txns.next } in
        let next_is : number + 1 ≡ suc old.txns.next = omega (arith, is) in
        let table_is : new.txns ≡ after = table ∙ ap (λ (n : ℕ). record old.txns { rows = old.txns.rows ++ row_begun n ∷ []; next = number + 1 }) is ∙ ap (λ (n : ℕ). record old.txns { rows = old.txns.rows ++ row_begun old.txns.next ∷ []; next = n }) next_is in
        let t = shows s Begin (Some (Started old.txns.next)) in
        let w = begun v in
        let serving : IsServing run.0 r.earlier before t w r.now.log new.txns.rows new.txns.next new.locks =
        subst (λ (x : Numbered). IsServing run.0 r.earlier before t w r.now.log x.rows x.next new.locks) (sym table_is)
        (subst (λ (l : _). IsServing run.0 r.earlier before t w r.now.log after.rows after.next l) (sym locks) served.1) in
        let running = runs_on d before s v old r t w new r.now on_here serving r.commits
        (subst (λ (n : ℕ). n ≤ 2 ^ 62 → AreBelow n r.now.log) (sym (ap (λ (x : Numbered). x.next) table_is)) (λ le_new. numbers_stay_new.more old.txns.next (suc old.txns.next) r.now.log (omega arith) below)) refl stays in
        subst (λ (n : ℕ). StepKept d before s v Begin (Started n) old new) (sym is) (step_made d before s v Begin (Started old.txns.next) old new w served.0 running works_on (stops_here (shows s Begin None) refl) tt r refl)

    module _ (t : ℕ) (row : Transaction) (found : find (is_of t) old.txns.rows ≡ Some row) (mark : (row.mark ≡ Going) ⊎ (row.mark ≡ MustRollBack)) (unowned : pending_of (under_of old.under) t ≡ None) where
      free : owner_in v ≢ Some t
      free = not_owner d before s v old run.1 t row found mark unowned

      rises : Rises run.0 run.1.now.log
      rises = rises_of run.0 page_tree run.1.now.log run.1.lawful

      -- it has no record, and is over
      pub dropped : row.last ≡ 0 → IsReleased old.locks t new.locks → length old.txns.rows ≡ length (without t old.txns.rows) + 1 → new.txns ≡ record old.txns { rows = without t old.txns.rows } → new.failed ≡ false → StepKept d before s v (Rollback t) RolledBack old new
      unfolding runs_on
      dropped none released once table works_on =
          let r = run.1 in
          let served = drops_served run.0 r.earlier before s v r.now.log old.txns.rows old.txns.next old.locks new.locks t row r.serving rises found mark free none released once in
          let after : Numbered = record old.txns { rows = without t old.txns.rows } in
          let shown = shows s (Rollback t) (Some RolledBack) in
          let w = dropped_by v t in
          let running = runs_on d before s v old r shown w new r.now on_here
          (subst (λ (x : Numbered). IsServing run.0 r.earlier before shown w r.now.log x.rows x.next new.locks) (sym table) served.1) r.commits
          (subst (λ (n : ℕ). n ≤ 2 ^ 62 → AreBelow n r.now.log) (sym (ap (λ (x : Numbered). x.next) table)) r.numbered) refl stays in
          let is = at run.0 r.earlier before s v r.now.log old.txns.rows old.txns.next old.locks r.serving t row found (waits_not row.mark mark) in
          let last_is : last_of t r.now.log ≡ 0 = sym (is.1.last ∙ ap (λ (n : ℕ). last_of n r.now.log) is.0) ∙ none in
          step_made d before s v (Rollback t) RolledBack old new w served.0 running works_on (stops_here (shows s (Rollback t) None) refl) tt r (no_records last_is refl)

      -- its mark is another, and all else is as it was
      remarked : (step : answers.Step) (reply : answers.Reply) (m : Mark) (w : View) → w.under ≡ v.under → IsServed run.0 run.1.earlier before s v step reply w run.1.now.log (map (changed t (with_mark m)) old.txns.rows) old.txns.next old.locks
          → (shows s step None).asked ≡ s.asked → (shows s step (Some reply)).asked ≡ s.asked → IsDone d before (shows s step (Some reply)) w step reply new
          → GrowsAs run.0 (FitsRecord old.writer.table) (under_of old.under) (under_of new.under) reply step run.1.now.log run.1.now.log
          → new.locks ≡ old.locks → new.txns ≡ record old.txns { rows = map (changed t (with_mark m)) old.txns.rows } → new.failed ≡ false → StepKept d before s v step reply old new
      unfolding runs_on
      remarked step reply m w beside served cut asks done grows locks table works_on =
          let r = run.1 in
          let after : Numbered = record old.txns { rows = map (changed t (with_mark m)) old.txns.rows } in
          let shown = shows s step (Some reply) in
          let running = runs_on d before s v old r shown w new r.now on_here
          (subst (λ (x : Numbered). IsServing run.0 r.earlier before shown w r.now.log x.rows x.next new.locks) (sym table)
          (subst (λ (l : _). IsServing run.0 r.earlier before shown w r.now.log after.rows after.next l) (sym locks) served.1))
          (subst (λ (l : List Asked). AreCommitted r.earlier before l r.now.durable r.now.log) (sym asks) r.commits)
          (subst (λ (n : ℕ). n ≤ 2 ^ 62 → AreBelow n r.now.log) (sym (ap (λ (x : Numbered). x.next) table)) r.numbered) beside stays in
          step_made d before s v step reply old new w served.0 running works_on (stops_here (shows s step None) cut) done r grows

      -- it has changes left, and rolls back
      pub turned : 1 ≤ row.changes → new.locks ≡ old.locks → new.txns ≡ record old.txns { rows = map (changed t (with_mark RollingBack)) old.txns.rows } → new.failed ≡ false → StepKept d before s v (Rollback t) More old new
      turned some locks table works_on =
          let served = turns_served run.0 run.1.earlier before s v run.1.now.log old.txns.rows old.txns.next old.locks t row run.1.serving found mark some free in
          remarked (Rollback t) More RollingBack (marked v t answers.RollingBack) refl served refl refl tt refl locks table works_on

      -- it has no more changes than its RollTo leaves, and is going
      pub stays_back : (left : ℕ) → row.changes ≤ left → new.locks ≡ old.locks → new.txns ≡ record old.txns { rows = map (changed t (with_mark Going)) old.txns.rows } → new.failed ≡ false → StepKept d before s v (RollTo t left) Done old new
      stays_back left few locks table works_on =
          let served = returns_stay run.0 run.1.earlier before s v run.1.now.log old.txns.rows old.txns.next old.locks t left row run.1.serving found mark few free in
          remarked (RollTo t left) Done Going (marked v t answers.Going) refl served refl refl tt refl locks table works_on

      -- it has more, and returns
      pub turns_back : (left : ℕ) → left < row.changes → new.locks ≡ old.locks → new.txns ≡ record old.txns { rows = map (changed t (with_mark (Returning left))) old.txns.rows } → new.failed ≡ false → StepKept d before s v (RollTo t left) More old new
      turns_back left more locks table works_on =
          let served = returns_turn run.0 run.1.earlier before s v run.1.now.log old.txns.rows old.txns.next old.locks t left row run.1.serving found mark more free in
          remarked (RollTo t left) More (Returning left) (marked v t (answers.Returning left)) refl served refl refl tt refl locks table works_on

  -- the log was forced, and all that waited have ended
  pub log_forced : GoesOn d run.0 run.1.base run.1.now old.disk (forced run.1.now) new.writer new.disk → LeavesCovered d run.0 run.1.base run.1.now.durable run.1.now.log old.disk new.disk → AreRising old.txns.rows → AreReleased old.locks (λ t. is_among t (waiting_numbers old.txns.rows)) new.locks
      → new.txns ≡ record old.txns { rows = without_waiting old.txns.rows; waiting = 0 } → new.failed ≡ false → new.under ≡ old.under → StepKept d before s v Force Done old new
  unfolding runs_on
  log_forced on run_stops rising released table works_on stays =
      let r = run.1 in
      let same = stays_here run.0 r.now.log in
      let gone = left_locks run.0 r.earlier before s v r.now.log old.txns.rows old.txns.next old.locks r.serving rising new.locks released in
      let served = forces_served run.0 r.earlier before s v r.now.log r.now.log old.txns.rows old.txns.next old.locks new.locks r.serving same.0 same.1 gone (left_count run.0 r.earlier before s v r.now.log old.txns.rows old.txns.next old.locks r.serving rising) in
      let shown = shows s Force (Some Done) in
      let w = forced_by v in
      let running = runs_on d before s v old r shown w new (forced r.now) on
      (subst (λ (x : Numbered). IsServing run.0 r.earlier before shown w r.now.log x.rows x.next new.locks) (sym table)
      (subst (λ (rows : List Transaction). IsServing run.0 r.earlier before shown w r.now.log rows old.txns.next new.locks) (sym (left_rows run.0 r.earlier before s v r.now.log old.txns.rows old.txns.next old.locks r.serving rising)) served.1))
      (commits_stand.all r.earlier before shown.asked r.now.log served.1.says)
      (subst (λ (n : ℕ). n ≤ 2 ^ 62 → AreBelow n r.now.log) (sym (ap (λ (x : Numbered). x.next) table)) r.numbered) refl stays in
      step_made d before s v Force Done old new w served.0 running works_on (covered_stops d before s v old r new.disk run_stops) (record { b = run.0; running = running; all = refl; finished = refl }) r refl

  -- what a Commit asks, of a transaction that logged nothing
  module _ (t : ℕ) (row : Transaction) (found : find (is_of t) old.txns.rows ≡ Some row) (mark : row.mark ≡ Going) (released : IsReleased old.locks t new.locks) (once : length old.txns.rows ≡ length (without t old.txns.rows) + 1)
      (table : new.txns ≡ record old.txns { rows = without t old.txns.rows }) (works_on : new.failed ≡ false) (unowned : pending_of (under_of old.under) t ≡ None) (stays : new.under ≡ old.under) where
    its_free : owner_in v ≢ Some t
    its_free = not_owner d before s v old run.1 t row found (inl mark) unowned

    abbrev after : Numbered
    after = record old.txns { rows = without t old.txns.rows }

    -- it logged nothing
    pub ended : row.last ≡ 0 → new.writer ≡ old.writer → new.disk ≡ old.disk → ((c : Files) → d.left_since old.disk (d.moment old.disk) c → d.may_leave old.disk c) → StepKept d before s v (Commit t) Committed old new
    unfolding runs_on
    ended none writer disk only_now =
        let r = run.1 in
        let rises = rises_of run.0 page_tree r.now.log r.lawful in
        let served = unlogged_commits_served run.0 r.earlier before s v r.now.log old.txns.rows old.txns.next old.locks new.locks t row r.serving rises found mark its_free none released once in
        let shown = shows s (Commit t) (Some Committed) in
        let w = committed_by v t in
        let is = at run.0 r.earlier before s v r.now.log old.txns.rows old.txns.next old.locks r.serving t row found (mark_free row.mark Going mark (λ x. cc x)) in
        let last_is : last_of t r.now.log ≡ 0 = sym (is.1.last ∙ ap (λ (n : ℕ). last_of n r.now.log) is.0) ∙ none in
        let empty : net t r.now.log ≡ [] = ap changes_of (unlogged run.0 t r.now.log rises last_is) in
        let effect_is : (s.running t).effect ≡ [] = effect_shown s v r.serving.shows.shown t (nothing_pending d before s v old r t unowned) (inl (is.2 ∙ ap mark_of mark)) ∙ ap seen_effect (r.serving.seen_by.nets t (out_of run.0 r.earlier before s v r.now.log old.txns.rows old.txns.next old.locks r.serving t (not_waiting old.txns.rows t row found (ap is_committing mark))) ∙ empty) in
        let asks : shown.asked ≡ s.asked = ap (λ (l : List Asked). s.asked ++ l) (empty_asked t true (s.running t).mark (s.running t).effect effect_is) ∙ append-nil s.asked in
        let running = runs_on d before s v old r shown w new r.now (on_here writer disk stays only_now)
        (subst (λ (x : Numbered). IsServing run.0 r.earlier before shown w r.now.log x.rows x.next new.locks) (sym table) served.1)
        (subst (λ (l : List Asked). AreCommitted r.earlier before l r.now.durable r.now.log) (sym asks) r.commits)
        (subst (λ (n : ℕ). n ≤ 2 ^ 62 → AreBelow n r.now.log) (sym (ap (λ (x : Numbered). x.next) table)) r.numbered) refl stays in
        step_made d before s v (Commit t) Committed old new w served.0 running works_on (cut_leaves d before s t old.disk new.disk (stops_here writer disk stays only_now s refl)) tt r
        (without_records last_is refl)

  -- a Commit that was logged
  module _ (t : ℕ) (row : Transaction) (found : find (is_of t) old.txns.rows ≡ Some row) (mark : row.mark ≡ Going) (some : 1 ≤ row.last) (has : 1 ≤ row.changes) (lsn : ℕ) (x : PageWriter) (mid : D) (logged : LoggedOnly d run.0 run.1.base run.1.now (entries.Commit t row.last) lsn x mid)
      (unowned : pending_of (under_of old.under) t ≡ None) where
    left_free : owner_in v ≢ Some t
    left_free = not_owner d before s v old run.1 t row found (inl mark) unowned

    -- the open structure change is another's
    out : IsOutside t (open_smo run.1.now.log)
    out = outside_of d before s v old run.1 t left_free

    abbrev longer : History
    longer = commit_record t row.last lsn ∷ run.1.now.log

    abbrev with_commit : Writer
    with_commit = record (appended (logged_at lsn (entries.Commit t row.last)) run.1.now) { durable = logged.durable }

    lawful_on : IsLawful run.0 page_tree longer
    lawful_on =
        let r = run.1 in
        commit_lawful run.0 r.earlier before s v r.now.log old.txns.rows old.txns.next old.locks t lsn row r.serving found mark r.lawful out logged.high

    -- the structure change under way goes on beside it
    goes_behind : IsLawful run.0 page_tree longer → IsChanging run.0 old.under longer
    goes_behind law = record_goes run.0 old.under (commit_record t row.last lsn) run.1.now.log law refl (λ u is same. left_free (ap owner_of (run.1.same ∙ ap under_of is) ∙ ap (λ (n : ℕ). Some n) (sym same))) refl refl run.1.changing

    -- as long as it is not acknowledged, it may be left or not
    asked_on : AreCommitted run.1.earlier before (shows s (Commit t) None).asked logged.durable longer
    asked_on =
        let r = run.1 in
        let cut = cut_commits_stand run.0 r.earlier before s v r.now.log longer r.now.durable old.txns.rows old.txns.next old.locks t row r.serving found mark has left_free
        (commit_commits run.0 r.now.log (commit_record t row.last lsn) t refl refl) r.commits in
        commits_stand.more r.earlier before (shows s (Commit t) None).asked r.now.durable longer logged.durable cut (record { from = logged.grows; upto = logged.stands.writing.stands.kept.front })

    -- a stop within both calls
    pub commit_stops : (last : D) → LeavesCovered d run.0 run.1.base run.1.now.durable run.1.now.log old.disk mid → LeavesCovered d run.0 run.1.base logged.durable longer mid last → LeavesOnly d old.disk last (Allowed before (shows s (Commit t) None))
    commit_stops last first second =
        let r = run.1 in
        then_on d old.disk mid last (Allowed before (shows s (Commit t) None)) (IsCovered run.0 r.base logged.durable longer) (cut_leaves d before s t old.disk mid (covered_stops d before s v old r mid first)) second
        (λ told c is. covered_allowed run.0 r.base r.earlier before (shows s (Commit t) None) logged.durable longer r.start r.counted r.serving.made lawful_on asked_on c is)

    -- after them, where nobody waits
    pub committed_on : AreRising old.txns.rows → waiting_in old.txns.rows ≡ 0 → GoesOn d run.0 run.1.base with_commit mid (forced with_commit) new.writer new.disk → LeavesOnly d old.disk new.disk (Allowed before (shows s (Commit t) None))
        → IsReleased old.locks t new.locks → length old.txns.rows ≡ length (without t old.txns.rows) + 1 → new.txns ≡ record old.txns { rows = without t old.txns.rows } → new.failed ≡ false → new.under ≡ old.under → StepKept d before s v (Commit t) Committed old new
    committed_on rising alone on stops released once table works_on stays =
        let r = run.1 in
        let law = logged_commits_served page_tree page_tree_laws run.0 r.earlier before s v r.now.log old.txns.rows old.txns.next old.locks new.locks t lsn row r.serving found mark has left_free r.lawful out logged.high (nobody run.0 r.earlier before s v r.now.log old.txns.rows old.txns.next old.locks r.serving rising alone) released once in
        let shown = shows s (Commit t) (Some Committed) in
        let w = committed_by v t in
        let is = at run.0 r.earlier before s v r.now.log old.txns.rows old.txns.next old.locks r.serving t row found (mark_free row.mark Going mark (λ x. cc x)) in
        let running : IsRunning d run.0 before shown w new = record {
          base = r.base;
          start = r.start;
          counted = r.counted;
          earlier = r.earlier;
          now = forced with_commit;
          stands = record { working = on.working; writing = on.goes.writing; known = on.known };
          redo_end = r.redo_end;
          over = r.over;
          lawful = law.lawful;
          changing = subst (λ (u : Option Under). IsChanging run.0 u longer) (sym stays) (goes_behind law.lawful);
          serving = subst (λ (x : Numbered). IsServing run.0 r.earlier before shown w longer x.rows x.next new.locks) (sym table) law.served.1;
          commits = commits_stand.all r.earlier before shown.asked longer law.served.1.says;
          numbered = subst (λ (n : ℕ). n ≤ 2 ^ 62 → AreBelow n longer) (sym (ap (λ (x : Numbered). x.next) table)) (λ le. (subst (λ (n : ℕ). n < old.txns.next) is.0 is.1.below, r.numbered le));
          same = r.same ∙ ap under_of (sym stays);
        } in
        let last_is : row.last ≡ last_of t r.now.log = is.1.last ∙ ap (λ (n : ℕ). last_of n r.now.log) is.0 in
        step_made d before s v (Commit t) Committed old new w law.served.0 running works_on stops tt r
        (with_records lsn (subst (λ (n : ℕ). 1 ≤ n) last_is some) (some_stand t old.txns.next r.now.log row is.0 is.1 has) (ap (λ (n : ℕ). commit_record t n lsn ∷ r.now.log) last_is))

    -- after the record alone: it waits
    pub queued_on : new.writer ≡ x → new.disk ≡ mid → LeavesCovered d run.0 run.1.base run.1.now.durable run.1.now.log old.disk new.disk → new.locks ≡ old.locks → new.txns ≡ record old.txns { rows = map (changed t (with_mark Committing)) old.txns.rows; waiting = old.txns.waiting + 1 } → new.failed ≡ false → new.under ≡ old.under
        → StepKept d before s v (Commit t) More old new
    queued_on writer disk run_stops locks table works_on stays =
        let r = run.1 in
        let law = logged_commits_wait page_tree page_tree_laws run.0 r.earlier before s v r.now.log old.txns.rows old.txns.next old.locks t lsn row r.serving found mark has left_free r.lawful out logged.high in
        let shown = shows s (Commit t) (Some More) in
        let w = queued v t in
        let is = at run.0 r.earlier before s v r.now.log old.txns.rows old.txns.next old.locks r.serving t row found (mark_free row.mark Going mark (λ x. cc x)) in
        let works_now : s.failed ≡ false = r.serving.shows.shown.failed ∙ r.serving.works in
        let asked_same : (shows s (Commit t) None).asked ≡ shown.asked = ap (λ (b : Bool). (if b then s else asks t false s).asked) works_now in
        let running : IsRunning d run.0 before shown w new = record {
          base = r.base;
          start = r.start;
          counted = r.counted;
          earlier = r.earlier;
          now = with_commit;
          stands = subst (λ (y : PageWriter × D). StandsAs d run.0 r.base with_commit y.0 y.1) (λ i. (sym writer i, sym disk i)) logged.stands;
          redo_end = r.redo_end;
          over = r.over;
          lawful = law.lawful;
          changing = subst (λ (u : Option Under). IsChanging run.0 u longer) (sym stays) (goes_behind law.lawful);
          serving = subst (λ (x : Numbered). IsServing run.0 r.earlier before shown w longer x.rows x.next new.locks) (sym table)
              (subst (λ (l : Table). IsServing run.0 r.earlier before shown w longer (map (changed t (with_mark Committing)) old.txns.rows) old.txns.next l) (sym locks) law.served.1);
          commits = subst (λ (l : List Asked). AreCommitted r.earlier before l logged.durable longer) asked_same asked_on;
          numbered = subst (λ (n : ℕ). n ≤ 2 ^ 62 → AreBelow n longer) (sym (ap (λ (x : Numbered). x.next) table)) (λ le. (subst (λ (n : ℕ). n < old.txns.next) is.0 is.1.below, r.numbered le));
          same = r.same ∙ ap under_of (sym stays);
        } in
        let last_is : row.last ≡ last_of t r.now.log = is.1.last ∙ ap (λ (n : ℕ). last_of n r.now.log) is.0 in
        step_made d before s v (Commit t) More old new w law.served.0 running works_on (cut_leaves d before s t old.disk new.disk (covered_stops d before s v old r new.disk run_stops)) tt r
        (with_records lsn (subst (λ (n : ℕ). 1 ≤ n) last_is some) (some_stand t old.txns.next r.now.log row is.0 is.1 has) (ap (λ (n : ℕ). commit_record t n lsn ∷ r.now.log) last_is))

  -- one that a call refused has failed
  pub commit_broke : (t fault : ℕ) → barred v (Commit t) ≡ None → Breaks fault → (fault ≡ memory → ⊥) → (fault ≡ unfinished → ⊥) → new.failed ≡ true → LeavesOnly d old.disk new.disk (Allowed before (shows s (Commit t) None))
      → ((u : ℕ) (c : Files) → u ≤ d.moment new.disk → d.may_leave new.disk c → d.left_since new.disk u c) → StepKept d before s v (Commit t) (Refused fault) old new
  commit_broke t fault checked is no_memory no_structure fails leaves counts_now =
      step_broke d before s v (Commit t) fault old new (locks_of new.locks) life checked is fails leaves
      (λ c left. allowed_as before (shows s (Commit t) None) (shows s (Commit t) (Some (Refused fault))) c (others_ask_nothing.refused s t fault no_memory no_structure)
      (left_now d old.disk new.disk (Allowed before (shows s (Commit t) None)) counts_now leaves (tells d before s v old run.1) c left))
      tt

  -- a Commit that an append or the force refused
  pub commit_refused : (t : ℕ) → checked_by old.txns.rows (owns_in (under_of old.under) (Commit t)) (Commit t) ≡ None → (f : Fault) → IsOfLog f → (told : Fault) → told ≡ told_as f → new.failed ≡ true → LeavesOnly d old.disk new.disk (Allowed before (shows s (Commit t) None))
      → ((u : ℕ) (c : Files) → u ≤ d.moment new.disk → d.may_leave new.disk c → d.left_since new.disk u c) → StepKept d before s v (Commit t) (Refused (number_of told)) old new
  commit_refused t checked f of told is fails leaves counts_now =
      subst (λ (y : Fault). StepKept d before s v (Commit t) (Refused (number_of y)) old new) (sym is)
      (commit_broke t (number_of (told_as f)) (checks_tell d before s v old run.1 (Commit t) ∙ checked) of.broken of.no_memory of.no_structure fails leaves counts_now)

  -- a force that the disk refused
  pub force_refused : (f : Fault) → IsOfLog f → (told : Fault) → told ≡ told_as f → new.failed ≡ true → LeavesCovered d run.0 run.1.base run.1.now.durable run.1.now.log old.disk new.disk
      → ((u : ℕ) (c : Files) → u ≤ d.moment new.disk → d.may_leave new.disk c → d.left_since new.disk u c) → StepKept d before s v Force (Refused (number_of told)) old new
  force_refused f of told is fails run_stops counts_now =
      subst (λ (y : Fault). StepKept d before s v Force (Refused (number_of y)) old new) (sym is)
      (breaks_with d before s v Force (λ u e. cc e) (checks_tell d before s v old run.1 Force) old new life works counts_now (number_of (told_as f)) of.broken fails
      (covered_stops d before s v old run.1 new.disk run_stops))

  -- numbers are used up
  pub numbers_end : checked_by old.txns.rows false Begin ≡ None → new.failed ≡ true → new.disk ≡ old.disk → ((c : Files) → d.left_since old.disk (d.moment old.disk) c → d.may_leave old.disk c)
      → ((u : ℕ) (c : Files) → u ≤ d.moment new.disk → d.may_leave new.disk c → d.left_since new.disk u c) → StepKept d before s v Begin (Refused 6) old new
  numbers_end checked fails disk only_now counts_now =
      breaks_with d before s v Begin (λ u e. cc e) (checks_tell d before s v old run.1 Begin ∙ checked) old new life works counts_now 6 (inl refl) fails
      (subst (λ (x : D). LeavesOnly d old.disk x (Allowed before s)) (sym disk) (idle_stops d before s v old run.1 only_now))

  -- a page was written, after Images
  pub flushed : (p : ℕ) → Flushes d old.writer old.disk new.writer new.disk None → FlushedOne d run.0 run.1.base run.1.now p old.disk new.writer new.disk → new.txns ≡ old.txns → new.locks ≡ old.locks → new.failed ≡ false → new.under ≡ old.under
      → StepKept d before s v (FlushPage p) Done old new
  unfolding runs_on
  flushed p one f table locks works_on stays =
      let b = run.0 in
      let r = run.1 in
      let same = copies_are_images page_tree b r.now.log f.now.log f.on.goes.keeps.log in
      let grown = images_change_nothing b r.now.log f.now.log same.images in
      let served = flushes_served b r.earlier before s v r.now.log f.now.log old.txns.rows old.txns.next old.locks p r.serving grown.0 grown.1 in
      let commits = commits_stand.more r.earlier before s.asked r.now.durable f.now.log f.now.durable (commits_stand.stay r.earlier before s.asked r.now.durable r.now.log f.now.log r.commits grown.0.commits)
      (record { from = f.on.goes.keeps.durable; upto = f.on.goes.writing.stands.kept.front }) in
      let running = runs_on d before s v old r s v new f.now f.on
      (subst (λ (x : Numbered). IsServing b r.earlier before s v f.now.log x.rows x.next new.locks) (sym table)
      (subst (λ (l : _). IsServing b r.earlier before s v f.now.log old.txns.rows old.txns.next l) (sym locks) served.1)) commits
      (subst (λ (n : ℕ). n ≤ 2 ^ 62 → AreBelow n f.now.log) (sym (ap (λ (x : Numbered). x.next) table)) (λ le. same.below old.txns.next old.numbered (r.numbered le))) refl stays in
      let reads = f.on.goes.writing.stands.file.reads p ∙ f.in_file ((f.on.goes.keeps.pages p).waits ∙ none_waits d before s v old r p) ∙ ap (λ (g : Page). Some g) (page_is d before s v new running p) in
      step_made d before s v (FlushPage p) Done old new v served.0 running works_on (read_stops d before s v old r new.writer new.disk (flush_asks d one)) (record { b = b; running = running; reads = reads }) r
      f.on.goes.keeps.log

  -- a flush that was refused
  pub flush_refused : (p : ℕ) (f : Fault) → Flushes d old.writer old.disk new.writer new.disk (Some f) → (told : Fault) → told ≡ told_as f → new.failed ≡ true
      → ((u : ℕ) (c : Files) → u ≤ d.moment new.disk → d.may_leave new.disk c → d.left_since new.disk u c) → StepKept d before s v (FlushPage p) (Refused (number_of told)) old new
  flush_refused p f one told is fails counts_now =
      subst (λ (y : Fault). StepKept d before s v (FlushPage p) (Refused (number_of y)) old new) (sym is)
      (breaks_with d before s v (FlushPage p) (λ u e. cc e) (checks_tell d before s v old run.1 (FlushPage p)) old new life works counts_now (number_of (told_as f))
      (of_flush d old.writer old.disk new.writer new.disk (old.working works) f one.ends).broken fails (read_stops d before s v old run.1 new.writer new.disk (flush_asks d one)))
