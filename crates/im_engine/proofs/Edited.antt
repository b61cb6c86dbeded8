-- Steps that change a key: what their calls below ask, what a stop within them leaves, and the engine after them.
use Rattle.std.proofs.Common.{◌≡◌, ◌≢◌, ⊎_elim, inl, inr, ℕ, ◌≤◌, ◌<◌, ◌^◌, List, [], ◌∷◌, true, false, cond, is_some, Option, Some, None, map, refl, sym, ap, subst, ◌∙◌}
use Rattle.std.specs.Prelude.{find}
use Rattle.im_base_types.specs.Answers as answers
use Rattle.im_base_types.specs.Answers.{Access, Blocked, Commit, Delete, Die, Do, Refused, Reply, answer, changes}
use Rattle.im_base_types.specs.Refusals.{memory}
use Rattle.im_base_types.specs.declared.fault.Fault.{Fault}
use Rattle.im_base_types.specs.declared.fault.Fault.TheVariants.{Device, Failed, LogFull, Memory, NotAStore}
use Rattle.im_base_types.specs.Changes.{Effect}
use Rattle.im_theory_log.specs.Histories.{Base, History, IsFront}
use Rattle.im_base_types.specs.Keys.{Key}
use Rattle.im_theory_log.specs.Lawful.{IsLawful}
use Rattle.im_theory_log.specs.Lawful as lawful
use Rattle.im_base_types.specs.Maps.{IndexMap}
use Rattle.im_base_types.specs.Records.{What, InsertKey, DeleteKey, UndoInsert, UndoDelete, Smo, UndoSmo, DummyClr, Commit as CommitRecord, End, Image, Checkpoint, Unreadable, Logged}
use Rattle.im_theory_log.specs.Structure.{open_smo, settled}
use Rattle.im_theory_log.specs.Transactions.{contents, last_of, undo_next_of}
use Rattle.im_theory_log.specs.Writer.{Writer}
use Rattle.im_base_types.specs.Lives.{Asked, Shown, shows}
use Rattle.im_theory_log.specs.Copies as copies
use Rattle.im_theory_log.proofs.Fronts.{has_tree, lawful_front}
use Rattle.im_base_disk.specs.declared.disk.Disk.{Ghosts}
use Rattle.im_base_disk.specs.Disk.{Files}
use Rattle.im_base_disk.specs.Runs.{LeavesOnly}
use Rattle.im_base_disk.proofs.Runs.{weakened}
use Rattle.im_page_table.specs.DirtyTable.{FitsRecord}
use Rattle.im_page_writer.specs.declared.page_writer.PageWriter.{PageWriter}
use Rattle.im_page_writer.specs.Outcome.{LogEnds, mild}
use Rattle.im_page_writer.specs.PageWriter.{Evicted}
use Rattle.im_theory_tree.specs.Good.{AllOf}
use Rattle.im_theory_tree.specs.Theory.{page_tree}
use Rattle.im_theory_tree.proofs.TheoryLaws.{page_tree_laws}
use Rattle.im_smo_log.specs.Changes.{IsOfChange, GrowsByChange, HasRecordOf}
use Rattle.im_smo_actions.specs.Structure.{IsUnfinished}
use Rattle.im_base_txn.specs.declared.transaction.Mark.TheVariants.{Going, MustRollBack}
use Rattle.im_base_txn.specs.declared.transaction.Transaction.{Transaction}
use Rattle.im_base_txn.specs.Rows.{is_of, changed, with_mark, with_record}
use Rattle.im_base_txn.proofs.LookUps.{look_ups_follow}
use Rattle.im_theory_machine.specs.Locks.{Request}
use Rattle.im_theory_machine.specs.Locks as locks
use Rattle.im_theory_machine.specs.Rows.{asked}
use Rattle.im_theory_machine.specs.Changing.{MatchesWithKept}
use Rattle.im_theory_machine.specs.Table.{Table, Decides, locks_of, lasting_of}
use Rattle.im_theory_machine.specs.declared.verdict.Verdict.{Verdict}
use Rattle.im_theory_machine.specs.declared.verdict.Verdict.TheVariants.{Granted, Wait, Die as MustDie}
use Rattle.im_theory_machine.specs.View.{View, did, locks_in, marked, owner_in, owns_in}
use Rattle.im_theory_machine.specs.Machine.{Wants, barred, keys_fit}
use Rattle.im_base_types.specs.declared.fault.Fault.TheVariants as faults
use Rattle.im_base_types.specs.Faults.{number_of}
use Rattle.im_theory_steps.specs.Checks.{checked_by}
use Rattle.im_theory_steps.specs.Growth.{AreBelow, AreStructural, GrowsByStructure, GrowsWithin, IsStructural, is_structural}
use Rattle.im_theory_steps.specs.Serving.{IsRow, IsServing, IsServed, mark_of}
use Rattle.im_theory_steps.specs.Steps.{IsOnTheWay, key_record, with_made}
use Rattle.im_theory_steps.specs.Durable.{AreCommitted}
use Rattle.im_theory_steps.proofs.Cited.{asks_nothing, dies_ask_nothing, waits_ask_nothing, commits_stand, copies_are_images, images_change_nothing, numbers_stay_new, within_leaves_others, deletes_served, granted_keys_free, at, dies_served, mark_free, reads_served, structure_keeps, waits_served, ways_lead_on}
use Rattle.im_engine_access.specs.KeyLogs.{LeftByEdit, LeavesEdit}
use Rattle.im_engine_access.specs.Edits.{MayEdit, Deleted, HasOne}
use Rattle.im_engine_access.specs.declared.noted.Noted.{Noted}
use Rattle.im_engine_access.proofs.KeyLogs.{grows_within}
use Rattle.im_engine_access.proofs.Deletes.{more_is_not_one, within_then}
use Rattle.im_smo_actions.proofs.Growth.{images_as_change}
use Rattle.im_engine.specs.declared.engine.Engine.{Engine}
use Rattle.im_engine.specs.Numbered.{Numbered}
use Rattle.im_engine.specs.Stands.{Allowed}
use Rattle.im_engine.specs.Running.{IsRunning, IsLife}
use Rattle.im_engine.specs.Kept.{StepKept}
use Rattle.im_engine.specs.Growing.{DropsKey, GrowsAs}
use Rattle.im_engine.specs.Faults.{told_as, ends_engine}
use Rattle.im_engine.specs.declared.stepped.Under.{Under}
use Rattle.im_engine.specs.Aims.{IsChanging, under_of}
use Rattle.im_engine.proofs.Running.{outside, not_in, closed_now, checks_tell, left_on, read_on}
use Rattle.im_engine.proofs.Grown.{read_grows}
use Rattle.im_engine.proofs.Numbers.{fused, with_taken}
use Rattle.im_engine.proofs.Made.{grown_made, leaves_as, step_made}
use Rattle.im_engine.proofs.Refused.{KeepsLocks, breaks_with, lacks_with}

-- ---- logs

structural : (t : ℕ) (r : Logged) (w : What) → r.what ≡ w → IsOfChange t r w → IsStructural t r
structural t r (Smo was now) same is = inr (is, ap is_structural same)
structural t r DummyClr same is = inr (is, ap is_structural same)
structural t r (Image c) same is = inl (record { copy = c; what = same; no_owner = is })
structural t r (InsertKey k i) same is = absurd is
structural t r (DeleteKey k i) same is = absurd is
structural t r (UndoInsert k i) same is = absurd is
structural t r (UndoDelete k i) same is = absurd is
structural t r (UndoSmo now) same is = absurd is
structural t r CommitRecord same is = absurd is
structural t r End same is = absurd is
structural t r (Checkpoint n a dirty) same is = absurd is
structural t r Unreadable same is = absurd is

all_structural : (t : ℕ) (more : History) → AllOf (λ (r : Logged). IsOfChange t r r.what) more → AreStructural t more
all_structural t [] all = tt
all_structural t (r ∷ more) all = (structural t r r.what refl all.0, all_structural t more all.1)

-- a structure change and Images
pub by_structure : (t : ℕ) (older longer : History) → GrowsByChange t older longer → GrowsByStructure t older longer
by_structure t older longer by = record { more = by.more; is = sym by.is; structural = all_structural t by.more by.all }

-- what is free by the table is free for the machine
free_in : (v : View) (table : Table) (t : ℕ) (row : List Request) → MatchesWithKept v table → locks.IsFree (locks_of table) t row → locks.IsFree (locks_in v) t row
free_in v table t row h free s p = free s (record {
  name = p.name;
  mode = p.mode;
  theirs = p.theirs;
  other = p.other;
  ask = p.ask;
  held = (h.held s p.name p.theirs).0 p.held;
  exclusive = p.exclusive;
})

module _ {D : Type 0} (d : Ghosts D) {b : Base} (before : List Effect) (s : Shown) (v : View) (old : Engine D d) (r : IsRunning d b before s v old) (t : ℕ) (row : Transaction) (found : find (is_of t) old.txns.rows ≡ Some row) (mark : row.mark ≡ Going) (free : owner_in v ≢ Some t) where
  way : IsOnTheWay b t row.last r.now.log r.now.log
  way = ways_lead_on.begins b r.earlier before s v r.now.log old.txns.rows old.txns.next old.locks t row r.serving found mark

  is_at : (row.number ≡ t) × IsRow row old.txns.next r.now.log × ((v.txns t).mark ≡ mark_of row.mark)
  is_at = at b r.earlier before s v r.now.log old.txns.rows old.txns.next old.locks r.serving t row found (mark_free row.mark Going mark (λ x. cc x))

  walk_of : v.walk ≡ contents b r.now.log
  walk_of = r.serving.seen_by.walk

  -- what an insert or a delete below asks
  pub may_edit : old.under ≡ None → (a : Access) → MayEdit d b r.base r.now r.redo_end t row.last row.undo_next a old.locks old.writer old.disk
  may_edit plain a = record {
    unfinished = record {
      stands = r.stands;
      over = r.over;
      lawful = r.lawful;
      closed = closed_now d before s v old r plain;
      newest = way.newest;
      undo = sym (is_at.1.undo ∙ ap (λ (n : ℕ). undo_next_of n r.now.log) is_at.0);
      unfinished = way.unfinished;
    };
    free = λ c free one.
        granted_keys_free _ b r.now.log v t a c r.serving.reached r.serving.seen_by r.serving.works (is_at.2 ∙ ap mark_of mark)
        (free_in v old.locks t (asked a v.walk) r.serving.locks (subst (λ (m : IndexMap). locks.IsFree (locks_of old.locks) t (asked a m)) (sym walk_of) free))
        (ap (changes a) walk_of ∙ one);
  }

  -- what the table decided
  pub decided_here : (a : Access) (verdict : Verdict) (new : Table) → Decides old.locks t (asked a (contents b r.now.log)) verdict new → Decides old.locks t (asked a v.walk) verdict new
  decided_here a verdict new decides = subst (λ (m : IndexMap). Decides old.locks t (asked a m) verdict new) (sym walk_of) decides

  pub number_below : t < old.txns.next
  number_below = subst (λ (n : ℕ). n < old.txns.next) is_at.0 is_at.1.below

  pub owned : 1 ≤ t
  owned = subst (λ (n : ℕ). 1 ≤ n) is_at.0 is_at.1.number

  -- a stop within such a call
  pub edit_stops : (new : D) → LeavesEdit d b r.base r.now t old.disk new → LeavesOnly d old.disk new (Allowed before s)
  edit_stops new run = weakened d old.disk new (LeftByEdit d b r.base r.now t) (Allowed before s) run
      (λ told c is. left_on d before s v old r is.high is.lawful (within_leaves_others t r.now.log is.high is.grows).1 c is.covered)

  -- on the way over Images
  pub way_by_images : (between : History) → copies.GrowsByImages b r.now.log between → IsOnTheWay b t row.last r.now.log between
  way_by_images between by =
      let on = images_change_nothing b r.now.log between (copies_are_images page_tree b r.now.log between by).images in
      record {
        stays = on.0;
        others = λ u differ. on.1 u;
        newest = (on.1 t).last owned ∙ way.newest;
        unfinished = (on.1 t).finished ∙ way.unfinished;
      }

  -- ---- the engine after a change

  module _ (a : Access) (new : Engine D d) (now : Writer) (e last undo_next : ℕ) (is : IsUnfinished d b r.base now e t last undo_next new.writer new.disk) (durable : IsFront r.now.durable now.durable) (grows : GrowsWithin t r.now.log now.log)
      (rows : List Transaction) (table : new.txns ≡ record old.txns { rows = rows }) (w : View) (served : IsServed b r.earlier before s v (Do t a) (answer a v.walk) w now.log rows old.txns.next new.locks) (goes_on : w.under ≡ v.under) (plain : old.under ≡ None) (stays : new.under ≡ old.under) where
    unfoldable pub edited_runs : IsRunning d b before (shows s (Do t a) (Some (answer a v.walk))) w new
    edited_runs =
        let same = (within_leaves_others t r.now.log now.log grows).1 in
        let commits = commits_stand.more r.earlier before s.asked r.now.durable now.log now.durable
        (commits_stand.stay r.earlier before s.asked r.now.durable r.now.log now.log r.commits same)
        (record { from = durable; upto = is.stands.writing.stands.kept.front }) in
        record {
          base = r.base;
          start = r.start;
          counted = r.counted;
          earlier = r.earlier;
          now = now;
          stands = is.stands;
          redo_end = e;
          over = is.over;
          lawful = is.lawful;
          changing = subst (λ (u : Option Under). IsChanging b u now.log) (sym (stays ∙ plain)) is.closed;
          serving = subst (λ (x : Numbered). IsServing b r.earlier before (shows s (Do t a) (Some (answer a v.walk))) w now.log x.rows x.next new.locks) (sym table) served.1;
          commits = subst (λ (l : List Asked). AreCommitted r.earlier before l now.durable now.log) (sym (asks_nothing s t a v)) commits;
          numbered = subst (λ (n : ℕ). n ≤ 2 ^ 62 → AreBelow n now.log) (sym (ap (λ (x : Numbered). x.next) table))
              (λ le. numbers_stay_new.within old.txns.next t r.now.log now.log number_below (r.numbered le) grows);
          same = goes_on ∙ r.same ∙ ap under_of (sym stays);
        }

    pub edited : LeavesEdit d b r.base r.now t old.disk new.disk → new.failed ≡ false → GrowsAs b (FitsRecord old.writer.table) (under_of old.under) (under_of new.under) (answer a v.walk) (Do t a) r.now.log now.log → StepKept d before s v (Do t a) (answer a v.walk) old new
    unfolding edited_runs
    edited stops works adds = step_made d before s v (Do t a) (answer a v.walk) old new w served.0 edited_runs works (leaves_as d before s (shows s (Do t a) None) old.disk new.disk refl (edit_stops new.disk stops)) tt r adds

  -- a key that went
  module _ (key : Key) (new : Engine D d) (fits : keys_fit (Delete key) ≡ true) (taken : Noted) (is : Deleted d b r.base r.now r.redo_end t row.last key taken new.writer new.disk) (decides : Decides old.locks t (asked (Delete key) (contents b r.now.log)) Granted new.locks)
      (plain : old.under ≡ None) (stays : new.under ≡ old.under) where
    abbrev newest : Logged
    newest = key_record t row.last taken.undo_next is.page (DeleteKey key is.rid)

    abbrev mid : History
    mid = newest ∷ is.before

    law : IsLawful b page_tree mid
    law = lawful_front b page_tree is.change.more mid (subst (λ (l : History). IsLawful b page_tree l) is.change.is is.stands.lawful)

    closed_before : open_smo is.before ≡ []
    closed_before = (copies_are_images page_tree b r.now.log is.before is.images).opened ∙ closed_now d before s v old r plain

    may : lawful.MayDelete b page_tree newest is.before key is.rid
    may = law.1.may

    abbrev record_rows : List Transaction
    record_rows = map (changed t (with_made taken.undo_next)) old.txns.rows

    after_record : IsServed b r.earlier before s v (Do t (Delete key)) answers.Deleted (did v t (Delete key) (lasting_of new.locks t)) mid record_rows old.txns.next new.locks
    after_record = (deletes_served page_tree page_tree_laws b r.earlier before s v r.now.log is.before old.txns.rows old.txns.next old.locks new.locks t row.last taken.undo_next is.page row key is.rid r.serving found mark free fits
        (way_by_images is.before is.images) law.0 (outside t (open_smo is.before) closed_before) (not_in is.page (open_smo is.before) closed_before) is.there (decided_here (Delete key) Granted new.locks decides) may.can_drop law.1.rises).served

    says : answer (Delete key) v.walk ≡ answers.Deleted
    says = ap (λ (m : IndexMap). answer (Delete key) m) walk_of ∙ ap (λ (o : Option ℕ). cond (is_some o) answers.Deleted answers.Absent) is.there

    rows_now : map (changed t (with_record (last_of t is.now.log) (undo_next_of t is.now.log))) record_rows ≡ map (changed t (with_taken taken.last taken.undo_next)) old.txns.rows
    rows_now =
        ap (λ (n : ℕ). map (changed t (with_record n (undo_next_of t is.now.log))) record_rows) is.stands.newest
        ∙ ap (λ (n : ℕ). map (changed t (with_record taken.last n)) record_rows) is.stands.undo
        ∙ fused t (with_made taken.undo_next) (with_record taken.last taken.undo_next) (λ x. refl) old.txns.rows

    in_full : IsServing b r.earlier before (shows s (Do t (Delete key)) (Some answers.Deleted)) (did v t (Delete key) (lasting_of new.locks t)) is.now.log (map (changed t (with_taken taken.last taken.undo_next)) old.txns.rows) old.txns.next new.locks
    in_full = subst (λ (rows : List Transaction). IsServing b r.earlier before (shows s (Do t (Delete key)) (Some answers.Deleted)) (did v t (Delete key) (lasting_of new.locks t)) is.now.log rows old.txns.next new.locks) rows_now
        (structure_keeps b r.earlier before (shows s (Do t (Delete key)) (Some answers.Deleted)) (did v t (Delete key) (lasting_of new.locks t)) mid is.now.log record_rows old.txns.next new.locks t (with_made taken.undo_next row) after_record.1
        (look_ups_follow.changed_own t (with_made taken.undo_next) (λ x. refl) old.txns.rows row found) (mark_free row.mark Going mark (λ x. cc x)) (by_structure t mid is.now.log is.change))

    grown : GrowsWithin t r.now.log is.now.log
    grown =
        let images = grows_within t r.now.log is.before (images_as_change b t r.now.log is.before is.images) in
        let with_record_of : GrowsWithin t r.now.log mid = record { more = newest ∷ images.more; is = ap (λ (l : History). newest ∷ l) images.is; within = (inr (refl, refl), images.within) } in
        within_then t r.now.log mid is.now.log with_record_of (grows_within t mid is.now.log is.change)

    some : HasOne (settled b r.now.log) key → HasRecordOf t is.change.more
    some one = ⊎_elim (λ more. absurd (more_is_not_one (settled b r.now.log) key (has_tree b page_tree r.now.log r.lawful).good more one)) (λ has. has) is.ended

    drops : DropsKey b t key r.now.log is.now.log
    drops = record { before = is.before; images = is.images; rid = is.rid; last = row.last; lsn = taken.undo_next; page = is.page; change = is.change; only = is.only; some = some }

    pub deleted : new.txns ≡ record old.txns { rows = map (changed t (with_taken taken.last taken.undo_next)) old.txns.rows } → LeavesEdit d b r.base r.now t old.disk new.disk → new.failed ≡ false
        → StepKept d before s v (Do t (Delete key)) answers.Deleted old new
    deleted table stops works =
        let w = did v t (Delete key) (lasting_of new.locks t) in
        let rows = map (changed t (with_taken taken.last taken.undo_next)) old.txns.rows in
        subst (λ (reply : Reply). StepKept d before s v (Do t (Delete key)) reply old new) says
        (edited (Delete key) new is.now r.redo_end taken.last taken.undo_next is.stands is.durable grown rows table w
        (subst (λ (reply : Reply). IsServed b r.earlier before s v (Do t (Delete key)) reply w is.now.log rows old.txns.next new.locks) (sym says) (after_record.0, in_full)) refl plain stays stops works (subst (λ (reply : Reply). GrowsAs b (FitsRecord old.writer.table) (under_of old.under) (under_of new.under) reply (Do t (Delete key)) r.now.log is.now.log) (sym says) drops))

  -- ---- a change that was not made

  module _ (a : Access) (new : Engine D d) (stops : LeavesEdit d b r.base r.now t old.disk new.disk) (fits : keys_fit a ≡ true) (stays : new.under ≡ old.under) where
    -- granted, of a key that needs none
    pub unchanged : changes a (contents b r.now.log) ≡ [] → Decides old.locks t (asked a (contents b r.now.log)) Granted new.locks → Evicted d b r.base r.now old.disk new.writer new.disk → (reply : Reply) → answer a (contents b r.now.log) ≡ reply
        → new.txns ≡ old.txns → new.failed ≡ false → StepKept d before s v (Do t a) reply old new
    unchanged none decides ev reply says table works =
        subst (λ (y : Reply). StepKept d before s v (Do t a) y old new) (ap (answer a) walk_of ∙ says)
        (grown_made d before s v (did v t a (lasting_of new.locks t)) (Do t a) (answer a v.walk) old new r old.txns refl ev
        (λ longer stays all. reads_served b r.earlier before s v r.now.log longer old.txns.rows old.txns.next old.locks new.locks t row a r.serving found mark free fits (ap (changes a) walk_of ∙ none) (decided_here a Granted new.locks decides) stays all)
        (asks_nothing s t a v) refl table refl (edit_stops new.disk stops) works tt (λ longer images. read_grows (FitsRecord old.writer.table) (under_of old.under) (under_of new.under) b t r.now.log longer images a v.walk (ap (changes a) walk_of ∙ none)) stays)

    -- it has to wait
    pub blocked : (holder : ℕ) → Decides old.locks t (asked a (contents b r.now.log)) (Wait holder) new.locks → Evicted d b r.base r.now old.disk new.writer new.disk → new.txns ≡ old.txns → new.failed ≡ false → StepKept d before s v (Do t a) (Blocked holder) old new
    blocked holder decides ev table works =
        grown_made d before s v v (Do t a) (Blocked holder) old new r old.txns refl ev
        (λ longer stays all. waits_served b r.earlier before s v r.now.log longer old.txns.rows old.txns.next old.locks new.locks t holder row a r.serving found mark free fits (decided_here a (Wait holder) new.locks decides) stays all)
        (waits_ask_nothing s t holder a) refl table refl (edit_stops new.disk stops) works tt (λ longer images. images) stays

    -- its transaction must die
    pub died : Decides old.locks t (asked a (contents b r.now.log)) MustDie new.locks → Evicted d b r.base r.now old.disk new.writer new.disk → new.txns ≡ record old.txns { rows = map (changed t (with_mark MustRollBack)) old.txns.rows } → new.failed ≡ false
        → StepKept d before s v (Do t a) Die old new
    died decides ev table works =
        grown_made d before s v (marked v t answers.MustRollBack) (Do t a) Die old new r (record old.txns { rows = map (changed t (with_mark MustRollBack)) old.txns.rows }) refl ev
        (λ longer stays all. dies_served b r.earlier before s v r.now.log longer old.txns.rows old.txns.next old.locks new.locks t row a r.serving found mark free fits (decided_here a MustDie new.locks decides) stays all)
        (dies_ask_nothing s t a) refl table refl (edit_stops new.disk stops) works tt (λ longer images. images) stays

-- ---- refusals

no_commit : (t : ℕ) (a : Access) (u : ℕ) → Do t a ≡ Commit u → ⊥
no_commit t a u is = cc is

module _ {D : Type 0} (d : Ghosts D) (before : List Effect) (s : Shown) (v : View) (t : ℕ) (a : Access) (old new : Engine D d) (life : IsLife d before s v old) (works : old.failed ≡ false) (checked : checked_by old.txns.rows (owns_in (under_of old.under) (Do t a)) (Do t a) ≡ None)
    (counts_now : (u : ℕ) (c : Files) → u ≤ d.moment new.disk → d.may_leave new.disk c → d.left_since new.disk u c) where
  abbrev run : (b : Base) × IsRunning d b before s v old
  run = life.running works

  bars : barred v (Do t a) ≡ None
  bars = checks_tell d before s v old run.1 (Do t a) ∙ checked

  -- a change that a call refused which may be refused late
  pub edit_refused : (f : Fault) → Wants (Do t a) memory → LogEnds d true mild old.writer old.disk new.writer new.disk (Some f) → LeavesOnly d old.disk new.disk (Allowed before s) → f ≢ NotAStore → new.failed ≡ ends_engine f → new.txns ≡ old.txns
      → (f ≡ Memory → KeepsLocks old.locks new.locks) → (told : Fault) → told ≡ told_as f → new.under ≡ old.under → StepKept d before s v (Do t a) (Refused (number_of told)) old new
  edit_refused f wants ends leaves sound fails table same told is stays = subst (λ (y : Fault). StepKept d before s v (Do t a) (Refused (number_of y)) old new) (sym is) (by f ends sound fails same)
    where
      by : (g : Fault) → LogEnds d true mild old.writer old.disk new.writer new.disk (Some g) → g ≢ NotAStore → new.failed ≡ ends_engine g → (g ≡ Memory → KeepsLocks old.locks new.locks) → StepKept d before s v (Do t a) (Refused (number_of (told_as g))) old new
      by Memory x other on same_locks = lacks_with d before s v (Do t a) (no_commit t a) bars old new life works counts_now wants (read_on d before s v old run.1 new.writer new.disk x.1) leaves table (same_locks refl) on stays
      by LogFull x other on same_locks = breaks_with d before s v (Do t a) (no_commit t a) bars old new life works counts_now 7 (inr (inl refl)) on leaves
      by Device x other on same_locks = breaks_with d before s v (Do t a) (no_commit t a) bars old new life works counts_now 8 (inr (inr (inl refl))) on leaves
      by Failed x other on same_locks = breaks_with d before s v (Do t a) (no_commit t a) bars old new life works counts_now 10 (inr (inr (inr refl))) on leaves
      by NotAStore x other on same_locks = absurd (other refl)
      by g x other on same_locks = absurd (let never = x.0 in cc never)

-- it is told that it failed only where it did
pub failed_as : {D : Type 0} (d : Ghosts D) (v : PageWriter) (old : D) (w : PageWriter) (new : D) (f : Fault) → LogEnds d true mild v old w new (Some f) → told_as f ≡ faults.Failed → f ≡ Failed
failed_as d v old w new Failed x is = refl
failed_as d v old w new Memory x is = absurd (cc is)
failed_as d v old w new LogFull x is = absurd (cc is)
failed_as d v old w new Device x is = absurd (cc is)
failed_as d v old w new NotAStore x is = absurd (cc is)
failed_as d v old w new g x is = absurd (let never = x.0 in cc never)
