-- An Insert and a Delete end whose structure change went on over several steps.
use Rattle.std.proofs.Common.{◌≡◌, ◌≢◌, inr, ℕ, ◌≤◌, List, [], ◌∷◌, true, false, length, Option, None, Some, Result, Ok, Err, map, refl, sym, ap, subst, ◌∙◌}
use Rattle.std.proofs.lemmas.List.{length-map}
use Rattle.im_base_types.specs.Answers as answers
use Rattle.im_base_types.specs.Answers.{Insert, Continue}
use Rattle.im_base_types.specs.Changes.{Effect}
use Rattle.im_base_types.specs.Keys.{Key}
use Rattle.im_base_types.specs.Lives.{Shown}
use Rattle.im_base_types.specs.Records.{InsertKey, Logged}
use Rattle.im_base_types.specs.declared.fault.Fault.{Fault}
use Rattle.im_base_types.specs.declared.fault.Fault.TheVariants.{Failed}
use Rattle.im_base_disk.specs.declared.disk.Disk.{Ghosts}
use Rattle.im_base_disk.specs.Disk.{Files}
use Rattle.im_base_steps.specs.declared.reply.Reply.TheVariants as replies
use Rattle.im_base_txn.specs.Rows.{changed, with_record}
use Rattle.im_base_txn.specs.declared.transaction.Mark.TheVariants.{Going}
use Rattle.im_base_txn.specs.declared.transaction.Transaction.{Transaction}
use Rattle.im_theory_log.specs.Histories.{Base, History}
use Rattle.im_theory_log.specs.Lawful as lawful
use Rattle.im_theory_log.specs.Lawful.{IsLawful}
use Rattle.im_theory_log.specs.Transactions.{undo_next_of}
use Rattle.im_theory_log.specs.Writer.{Writer}
use Rattle.im_theory_log.specs.WriterSteps.{appended}
use Rattle.im_theory_machine.specs.Table.{HasFallen, Table}
use Rattle.im_theory_machine.specs.View as views
use Rattle.im_theory_machine.specs.View.{View, change_made, did, own_locks, owns_in}
use Rattle.im_theory_steps.specs.Checks.{checked_by}
use Rattle.im_theory_steps.specs.Growth.{GrowsWithin}
use Rattle.im_theory_steps.specs.Serving.{IsServed, mark_of}
use Rattle.im_theory_steps.specs.Steps.{IsMarkFor, IsOnTheWay, key_record, noted, with_made}
use Rattle.im_theory_steps.proofs.Cited.{deletes_end, inserts_end, inserts_free, ways_lead_on}
use Rattle.im_theory_tree.specs.Theory.{page_tree}
use Rattle.im_theory_tree.proofs.TheoryLaws.{page_tree_laws}
use Rattle.im_smo_log.specs.declared.change.Change.{Change}
use Rattle.im_smo_log.specs.Changes.{GrowsByChange}
use Rattle.im_smo_log.specs.GoingOn.{HasClosed}
use Rattle.im_smo_log.specs.Logged.{dummy_at}
use Rattle.im_smo_log.specs.Stepping.{Closed, CloseKept}
use Rattle.im_smo_actions.proofs.Growth.{change_then, images_as_change}
use Rattle.im_engine_access.specs.EditsBeside.{InsertEnded, InsertEndKept, MayEnd}
use Rattle.im_engine_access.specs.KeyLogs.{LeavesEdit}
use Rattle.im_engine_access.proofs.KeyLogs.{grows_within}
use Rattle.im_page_file.specs.Stands.{LeavesCovered}
use Rattle.im_page_table.specs.DirtyTable.{FitsRecord}
use Rattle.im_page_writer.specs.declared.page_writer.PageWriter.{PageWriter}
use Rattle.im_page_writer.specs.Outcome.{LogEnds, Logs, none_mild}
use Rattle.im_page_writer.specs.PageWriter.{StandsAs}
use Rattle.im_engine.specs.declared.engine.Engine.{Engine}
use Rattle.im_engine.specs.declared.stepped.Aim.{Aim}
use Rattle.im_engine.specs.declared.stepped.Aim.TheVariants.{Puts, Drops}
use Rattle.im_engine.specs.declared.stepped.Under.{Under}
use Rattle.im_engine.specs.Aims.{Aims, IsChanging, IsGoing, PutsInto, aim_of, under_of}
use Rattle.im_engine.specs.Faults.{told_as, ends_engine}
use Rattle.im_engine.specs.Growing.{GrowsAs, PutsPending}
use Rattle.im_engine.specs.Paces.{EndsAs}
use Rattle.im_engine.specs.Kept.{StepKept}
use Rattle.im_engine.specs.Running.{IsRunning}
use Rattle.im_engine.specs.Told.{IsMade, fixed_of}
use Rattle.im_engine.proofs.Edited.{by_structure}
use Rattle.im_engine.proofs.Running.{covered_stops}
use Rattle.im_engine.proofs.SteppedEnds.{end_made, end_refused, going_mark}
use Rattle.im_engine.proofs.Telling.{late_lost, log_lost}
use Rattle.im_engine.proofs.SteppedMade.{left_by_edit, logged_made}
use Rattle.im_engine.proofs.SteppedOwners.{OwnsRow, goes_here, owner_below, owner_row, view_has}
use Rattle.im_engine.proofs.Looked.{not_true}

never_failed : {D : Type 0} (d : Ghosts D) (v : PageWriter) (old : D) (w : PageWriter) (new : D) → v.failed ≡ false → (f : Fault) → LogEnds d false none_mild v old w new (Some f) → f ≡ Failed → ⊥
never_failed d v old w new works f x is = let moved : LogEnds d false none_mild v old w new (Some Failed) = subst (λ (g : Fault). LogEnds d false none_mild v old w new (Some g)) is x in not_true v.failed works moved.0

-- ---- an Insert

module _ {D : Type 0} (d : Ghosts D) (old new : Engine D d) (u : Under) (was : old.under ≡ Some u) (key : Key) (rid leaf : ℕ) (aim : u.aim ≡ Puts key rid leaf) where
  abbrev c : Change
  c = u.begun.change

  abbrev t : ℕ
  t = u.begun.change.transaction

  module _ {b : Base} (before : List Effect) (s : Shown) (v : View) (r : IsRunning d b before s v old) where
    own : OwnsRow old.txns.rows t (aim_of u.aim)
    own = owner_row d before s v old r u was t refl

    mark : own.row.mark ≡ Going
    mark = going_mark own.row.mark (subst (λ (x : Aim). IsMarkFor (aim_of x) (mark_of own.row.mark)) aim own.mark)

    view : v.under ≡ Some (record { owner = t; aim = views.Puts key rid })
    view = view_has d before s v old r u was t refl ∙ ap (λ (x : Aim). Some (record { owner = t; aim = aim_of x })) aim

    going : IsGoing b u r.now.log
    going = goes_here d before s v old r u was t refl

    puts : PutsInto b c.images key leaf r.now.log
    puts = subst (λ (x : Aim). Aims b x c.undo_next c.images r.now.log) aim going.aims

    -- what the call below asks
    pub may_end : MayEnd d b r.base r.now r.redo_end c leaf key old.writer old.disk
    unfolding own
    may_end =
        let free = inserts_free b r.earlier before s v r.now.log old.txns.rows old.txns.next old.locks t own.row key rid r.serving own.found mark view in
        record {
          stands = r.stands;
          over = r.over;
          goes = going.goes;
          to = record { way = puts.way; image = puts.image; is = puts.is; room = puts.room };
          free = free.1;
          absent = free.0;
        }

    module _ (lsn : ℕ) (is : InsertEnded d b r.base r.now r.redo_end c leaf key rid lsn new.writer new.disk) where
      abbrev newest : Logged
      newest = key_record t is.closing lsn leaf (InsertKey key rid)

      abbrev closing : Logged
      closing = dummy_at is.closing t c.last c.undo_next

      law : IsLawful b page_tree (newest ∷ is.before)
      law = subst (λ (l : History). IsLawful b page_tree l) is.is is.stands.lawful

      may : lawful.MayInsert b page_tree newest is.before key rid
      may = law.1.may

      change : GrowsByChange t r.now.log is.before
      change = change_then t r.now.log (closing ∷ r.now.log) is.before (record { more = closing ∷ []; is = refl; all = (refl, tt) }) (images_as_change b t (closing ∷ r.now.log) is.before is.images)

      way : IsOnTheWay b t is.closing r.now.log is.before
      way =
          let first = ways_lead_on.begins b r.earlier before s v r.now.log old.txns.rows old.txns.next old.locks t own.row r.serving own.found mark in
          subst (λ (n : ℕ). IsOnTheWay b t n r.now.log is.before) (sym (law.1.chained refl).prev) (ways_lead_on.leads b t own.row.last r.now.log r.now.log is.before first (by_structure t r.now.log is.before change))

      abbrev next : View
      next = change_made (did v t (Insert key rid) (own_locks v t))

      abbrev rows : List Transaction
      rows = map (changed t (with_made lsn)) old.txns.rows

      served : HasFallen old.locks t new.locks → IsServed b r.earlier before s v (Continue t) answers.Inserted next is.now.log rows old.txns.next new.locks
      served falls =
          subst (λ (l : History). IsServed b r.earlier before s v (Continue t) answers.Inserted next l rows old.txns.next new.locks) (sym is.is)
          (inserts_end page_tree page_tree_laws b r.earlier before s v r.now.log is.before old.txns.rows old.txns.next old.locks new.locks t is.closing lsn leaf own.row key rid r.serving own.found mark view
          way law.0 may.outside may.not_in may.can_put law.1.rises falls).served

      grows : GrowsWithin t r.now.log is.now.log
      grows = let on = grows_within t r.now.log is.before change in record { more = newest ∷ on.more; is = ap (λ (l : History). newest ∷ l) on.is ∙ sym is.is; within = (inr (refl, refl), on.within) }

      adds : GrowsAs b (FitsRecord old.writer.table) (under_of old.under) (under_of new.under) answers.Inserted (Continue t) r.now.log is.now.log
      adds = record {
        closed = closing ∷ r.now.log;
        closes = record { last = c.last; lsn = is.closing; undo_next = c.undo_next; is = refl };
        behind = subst (λ (o : Option views.Under). PutsPending b o (closing ∷ r.now.log) is.now.log) (sym (ap under_of was ∙ ap (λ (x : Aim). Some (record { owner = t; aim = aim_of x })) aim))
            (record { between = is.before; images = is.images; last = is.closing; lsn = lsn; page = leaf; is = is.is });
      }

      pub insert_finished : HasFallen old.locks t new.locks → LeavesEdit d b r.base r.now t old.disk new.disk → new.txns ≡ record old.txns { rows = rows } → new.failed ≡ false → new.under ≡ None → StepKept d before s v (Continue t) answers.Inserted old new
      insert_finished falls stops table works_on none =
          logged_made d before s v next (Continue t) answers.Inserted old new r t (owner_below d before s v old r u was t refl) is.now is.stands.stands is.stands.over is.stands.lawful
          (subst (λ (o : Option Under). IsChanging b o is.now.log) (sym none) is.stands.closed) is.durable grows rows table (served falls) (sym (ap under_of none)) refl refl (left_by_edit d before s v old r t new.disk stops) works_on tt adds

-- ---- a Delete

module _ {D : Type 0} (d : Ghosts D) (old new : Engine D d) (u : Under) (was : old.under ≡ Some u) (key : Key) (aim : u.aim ≡ Drops key) where
  abbrev change_of : Change
  change_of = u.begun.change

  abbrev whose : ℕ
  whose = u.begun.change.transaction

  module _ {b : Base} (before : List Effect) (s : Shown) (v : View) (r : IsRunning d b before s v old) (lsn : ℕ) (is : Closed d b r.base r.now change_of lsn new.writer new.disk) where
    abbrev end : Logged
    end = dummy_at lsn whose change_of.last change_of.undo_next

    closed : HasClosed b whose change_of.undo_next lsn (end ∷ r.now.log)
    closed = is.goes (goes_here d before s v old r u was whose refl).goes

    abbrev now : Writer
    now = record (appended end r.now) { durable = is.logged.durable }

    grown : GrowsByChange whose r.now.log (end ∷ r.now.log)
    grown = record { more = end ∷ []; is = refl; all = (refl, tt) }

    its : OwnsRow old.txns.rows whose (aim_of u.aim)
    its = owner_row d before s v old r u was whose refl

    abbrev noted_rows : List Transaction
    noted_rows = map (changed whose (with_record lsn change_of.undo_next)) old.txns.rows

    rows_noted : noted whose (end ∷ r.now.log) old.txns.rows ≡ noted_rows
    rows_noted =
        ap (λ (n : ℕ). map (changed whose (with_record n (undo_next_of whose (end ∷ r.now.log)))) old.txns.rows) closed.last
        ∙ ap (λ (n : ℕ). map (changed whose (with_record lsn n)) old.txns.rows) closed.undo

    end_served : IsServed b r.earlier before s v (Continue whose) answers.Deleted (change_made v) (end ∷ r.now.log) noted_rows old.txns.next old.locks
    end_served =
        subst (λ (x : List Transaction). IsServed b r.earlier before s v (Continue whose) answers.Deleted (change_made v) (end ∷ r.now.log) x old.txns.next old.locks) rows_noted
        (deletes_end b r.earlier before s v r.now.log (end ∷ r.now.log) old.txns.rows old.txns.next old.locks whose its.row key r.serving its.found (going_mark its.row.mark (subst (λ (x : Aim). IsMarkFor (aim_of x) (mark_of its.row.mark)) aim its.mark))
        (view_has d before s v old r u was whose refl ∙ ap (λ (x : Aim). Some (record { owner = whose; aim = aim_of x })) aim) (by_structure whose r.now.log (end ∷ r.now.log) grown))

    pub delete_finished : LeavesCovered d b r.base r.now.durable r.now.log old.disk new.disk → new.locks ≡ old.locks → new.txns ≡ record old.txns { rows = noted_rows } → new.failed ≡ false → new.under ≡ None → StepKept d before s v (Continue whose) answers.Deleted old new
    delete_finished stops locks table works_on none =
        logged_made d before s v (change_made v) (Continue whose) answers.Deleted old new r whose (owner_below d before s v old r u was whose refl) now is.logged.stands r.over closed.lawful
        (subst (λ (o : Option Under). IsChanging b o (end ∷ r.now.log)) (sym none) closed.closed) is.logged.grows (grows_within whose r.now.log (end ∷ r.now.log) grown) noted_rows table
        (subst (λ (l : Table). IsServed b r.earlier before s v (Continue whose) answers.Deleted (change_made v) (end ∷ r.now.log) noted_rows old.txns.next l) (sym locks) end_served) (sym (ap under_of none)) refl refl (covered_stops d before s v old r new.disk stops) works_on tt
        (record { last = change_of.last; lsn = lsn; undo_next = change_of.undo_next; is = refl })

-- ---- as `IsMade` has it

-- what the call below kept, whatever it stood on
module _ {D : Type 0} (d : Ghosts D) (old new : Engine D d) where
  abbrev pub InsertBelow : Change → (key : Key) (rid leaf : ℕ) → Result ℕ Fault → Type 0
  InsertBelow change key rid leaf result = (b : Base) (base : ℕ) (s : Writer) (e : ℕ) → MayEnd d b base s e change leaf key old.writer old.disk → InsertEndKept d b base s e change leaf key rid old.disk new.writer new.disk result

  abbrev pub DeleteBelow : Change → Result ℕ Fault → Type 0
  DeleteBelow change result = (b : Base) (base : ℕ) (s : Writer) (e : ℕ) → StandsAs d b base s old.writer old.disk → s.redo_end ≡ Some e → CloseKept d b base s change old.disk new.writer new.disk result

module _ {D : Type 0} (d : Ghosts D) (old new : Engine D d) (works : old.failed ≡ false) (u : Under) (was : old.under ≡ Some u) (end : u.begun.change.done ≡ length u.begun.change.images) (fixed : fixed_of d new ≡ fixed_of d old) (works_on : new.failed ≡ false) (none : new.under ≡ None) where
  abbrev Checks : ℕ → Type 0
  Checks t = checked_by old.txns.rows (owns_in (under_of old.under) (Continue t)) (Continue t) ≡ None

  insert_of_owner : (key : Key) (rid leaf : ℕ) → u.aim ≡ Puts key rid leaf → (lsn : ℕ) → InsertBelow d old new u.begun.change key rid leaf (Ok lsn) → Logs d true none_mild old.writer old.disk new.writer new.disk None
      → Checks u.begun.change.transaction → HasFallen old.locks u.begun.change.transaction new.locks → new.txns ≡ record old.txns { rows = map (changed u.begun.change.transaction (with_made lsn)) old.txns.rows } → IsMade d (Continue u.begun.change.transaction) replies.Inserted old new
  insert_of_owner key rid leaf aim lsn below one checked falls table =
      let t = u.begun.change.transaction in
      end_made d t old new works u was refl end checked fixed replies.Inserted (λ x e. cc e) (subst (λ (a : Aim). EndsAs a replies.Inserted) (sym aim) refl) (λ clash. (let never : answers.Inserted ≡ answers.BlockedTree = clash in cc never))
      (record { stays = λ k. refl; late = refl; answered = refl; number = tt; suits = refl; grouped = tt }) (map (changed t (with_made lsn)) old.txns.rows) (length-map old.txns.rows (changed t (with_made lsn))) table works_on one.ends.alive one.frames none
      (λ before s v life.
      let r = (life.running works).1 in
      let k = below (life.running works).0 r.base r.now r.redo_end (may_end d old new u was key rid leaf aim before s v r) in
      insert_finished d old new u was key rid leaf aim before s v r lsn k.sound falls k.stops table works_on none)

  pub made_inserted : (t : ℕ) → u.begun.change.transaction ≡ t → (change : Change) → change ≡ u.begun.change → (key bytes : Key) → bytes ≡ key → (rid leaf : ℕ) → u.aim ≡ Puts key rid leaf → (lsn : ℕ) → InsertBelow d old new change bytes rid leaf (Ok lsn)
      → Logs d true none_mild old.writer old.disk new.writer new.disk None → Checks t → HasFallen old.locks t new.locks → new.txns ≡ record old.txns { rows = map (changed t (with_made lsn)) old.txns.rows } → IsMade d (Continue t) replies.Inserted old new
  made_inserted t owner plan same key bytes is rid leaf aim lsn below one =
      subst (λ (n : ℕ). Checks n → HasFallen old.locks n new.locks → new.txns ≡ record old.txns { rows = map (changed n (with_made lsn)) old.txns.rows } → IsMade d (Continue n) replies.Inserted old new) owner
      (insert_of_owner key rid leaf aim lsn (subst (λ (x : Change). InsertBelow d old new x key rid leaf (Ok lsn)) same (subst (λ (k : Key). InsertBelow d old new plan k rid leaf (Ok lsn)) is below)) one)

  delete_of_owner : (key : Key) → u.aim ≡ Drops key → (lsn : ℕ) → DeleteBelow d old new u.begun.change (Ok lsn) → Logs d false none_mild old.writer old.disk new.writer new.disk None → new.locks ≡ old.locks
      → Checks u.begun.change.transaction → new.txns ≡ record old.txns { rows = map (changed u.begun.change.transaction (with_record lsn u.begun.change.undo_next)) old.txns.rows } → IsMade d (Continue u.begun.change.transaction) replies.Deleted old new
  delete_of_owner key aim lsn below one locks checked table =
      let t = u.begun.change.transaction in
      let next = u.begun.change.undo_next in
      end_made d t old new works u was refl end checked fixed replies.Deleted (λ x e. cc e) (subst (λ (a : Aim). EndsAs a replies.Deleted) (sym aim) refl) (λ clash. (let never : answers.Deleted ≡ answers.BlockedTree = clash in cc never))
      (record { stays = λ k. refl; late = refl; answered = refl; number = tt; suits = refl; grouped = tt }) (map (changed t (with_record lsn next)) old.txns.rows) (length-map old.txns.rows (changed t (with_record lsn next))) table works_on one.ends.alive one.frames none
      (λ before s v life.
      let r = (life.running works).1 in
      let k = below (life.running works).0 r.base r.now r.redo_end r.stands r.over in
      delete_finished d old new u was key aim before s v r lsn k.sound k.stops locks table works_on none)

  pub made_deleted : (t : ℕ) → u.begun.change.transaction ≡ t → (change : Change) → change ≡ u.begun.change → (key : Key) → u.aim ≡ Drops key → (lsn : ℕ) → DeleteBelow d old new change (Ok lsn) → Logs d false none_mild old.writer old.disk new.writer new.disk None → new.locks ≡ old.locks
      → Checks t → (next : ℕ) → next ≡ change.undo_next → new.txns ≡ record old.txns { rows = map (changed t (with_record lsn next)) old.txns.rows } → IsMade d (Continue t) replies.Deleted old new
  made_deleted t owner plan same key aim lsn below one locks checked undo from table =
      subst (λ (n : ℕ). Checks n → new.txns ≡ record old.txns { rows = map (changed n (with_record lsn u.begun.change.undo_next)) old.txns.rows } → IsMade d (Continue n) replies.Deleted old new) owner
      (delete_of_owner key aim lsn (subst (λ (x : Change). DeleteBelow d old new x (Ok lsn)) same below) one locks) checked
      (table ∙ ap (λ (n : ℕ). record old.txns { rows = map (changed t (with_record lsn n)) old.txns.rows }) (from ∙ ap (λ (x : Change). x.undo_next) same))

module _ {D : Type 0} (d : Ghosts D) (old new : Engine D d) (works : old.failed ≡ false) (t : ℕ) (u : Under) (was : old.under ≡ Some u) (owner : u.begun.change.transaction ≡ t) (end : u.begun.change.done ≡ length u.begun.change.images) (fixed : fixed_of d new ≡ fixed_of d old)
    (checked : checked_by old.txns.rows (owns_in (under_of old.under) (Continue t)) (Continue t) ≡ None) (table : new.txns ≡ old.txns) (counts_now : (n : ℕ) (files : Files) → n ≤ d.moment new.disk → d.may_leave new.disk files → d.left_since new.disk n files) (change : Change) (same : change ≡ u.begun.change) where
  pub insert_not_ended : (key bytes : Key) → bytes ≡ key → (rid leaf : ℕ) → u.aim ≡ Puts key rid leaf → (f : Fault) → InsertBelow d old new change bytes rid leaf (Err f)
      → Logs d true none_mild old.writer old.disk new.writer new.disk (Some f) → f ≢ Failed → new.failed ≡ ends_engine f → (said : Fault) → said ≡ told_as f → IsMade d (Continue t) (replies.Refused said) old new
  insert_not_ended key bytes is rid leaf aim f below one other fails said so =
      let its : InsertBelow d old new u.begun.change key rid leaf (Err f) = subst (λ (x : Change). InsertBelow d old new x key rid leaf (Err f)) same (subst (λ (k : Key). InsertBelow d old new change k rid leaf (Err f)) is below) in
      end_refused d t old new works u was owner end checked fixed true f one other (λ lost. late_lost d old.writer old.disk new.writer new.disk lost none_mild f one.ends) table fails said so counts_now
      (λ before s v life.
      let r = (life.running works).1 in
      let k = its (life.running works).0 r.base r.now r.redo_end (may_end d old new u was key rid leaf aim before s v r) in
      (k.sound, left_by_edit d before s v old r u.begun.change.transaction new.disk k.stops))

  pub delete_not_ended : (f : Fault) → DeleteBelow d old new change (Err f) → Logs d false none_mild old.writer old.disk new.writer new.disk (Some f) → new.failed ≡ ends_engine f → (said : Fault) → said ≡ told_as f → IsMade d (Continue t) (replies.Refused said) old new
  delete_not_ended f below one fails said so =
      end_refused d t old new works u was owner end checked fixed false f one (λ is. never_failed d old.writer old.disk new.writer new.disk (old.working works) f one.ends is) (λ lost. log_lost d old.writer old.disk new.writer new.disk lost none_mild f one.ends (old.working works)) table fails said so counts_now
      (λ before s v life.
      let r = (life.running works).1 in
      let k = below (life.running works).0 r.base r.now r.redo_end r.stands r.over in
      (k.sound, covered_stops d before s v old r new.disk k.stops))
