-- An insert of a key beside a structure change, or with one that begins, from how the call below ended.
use Rattle.std.proofs.Common.{◌≡◌, ◌≢◌, ℕ, ◌≤◌, ◌<◌, List, [], ◌∷◌, true, false, Option, Some, None, Result, map, refl, sym, ap, subst, ◌∙◌, arith}
use Rattle.std.specs.Prelude.{find, ◌==◌}
use Rattle.std.specs.FinMap.{get}
use Rattle.std.proofs.lemmas.Bool.{cond-true, eq-eqb}
use Rattle.im_base_types.specs.Answers as answers
use Rattle.im_base_types.specs.Answers.{Insert, Do}
use Rattle.im_base_types.specs.Changes.{Effect}
use Rattle.im_base_types.specs.Keys.{Key}
use Rattle.im_base_types.specs.Lives.{Shown}
use Rattle.im_base_types.specs.Maps.{IndexMap}
use Rattle.im_base_types.specs.Records.{InsertKey, Logged}
use Rattle.im_base_types.specs.declared.fault.Fault.{Fault}
use Rattle.im_base_disk.specs.declared.disk.Disk.{Ghosts}
use Rattle.im_base_disk.specs.Runs.{LeavesOnly}
use Rattle.im_base_txn.specs.Rows.{is_of, changed, with_record}
use Rattle.im_base_txn.specs.declared.transaction.Transaction.{Transaction}
use Rattle.im_theory_log.specs.Copies.{AreImages}
use Rattle.im_theory_log.specs.Histories.{Base, History, end_of}
use Rattle.im_theory_log.specs.Lawful as lawful
use Rattle.im_theory_log.specs.Lawful.{IsLawful}
use Rattle.im_theory_log.specs.Structure.{settled}
use Rattle.im_theory_log.specs.Transactions.{contents, last_of, undo_next_of}
use Rattle.im_theory_log.specs.Writer.{Writer}
use Rattle.im_theory_log.proofs.Fronts.{has_tree}
use Rattle.im_theory_machine.specs.Changing.{asked_begun}
use Rattle.im_theory_machine.specs.Machine.{keys_fit}
use Rattle.im_theory_machine.specs.Rows.{asked}
use Rattle.im_theory_machine.specs.Table.{Decides, lasting_of}
use Rattle.im_theory_machine.specs.declared.verdict.Verdict.TheVariants.{Granted as GrantedAll}
use Rattle.im_theory_machine.specs.View as views
use Rattle.im_theory_machine.specs.View.{View, did, locked, owns_in, with_change}
use Rattle.im_theory_steps.specs.Checks.{checked_by}
use Rattle.im_theory_steps.specs.Serving.{IsServed}
use Rattle.im_theory_steps.specs.Steps.{key_record, noted, with_made}
use Rattle.im_theory_steps.proofs.Cited.{inserts_begin, inserts_served}
use Rattle.im_theory_page.specs.Split.{HasRoom}
use Rattle.im_theory_tree.specs.Levels.{Pages}
use Rattle.im_theory_tree.specs.Good.{IsGoodTree}
use Rattle.im_theory_tree.specs.Theory.{page_tree}
use Rattle.im_theory_tree.proofs.TheoryLaws.{page_tree_laws}
use Rattle.im_tree_search.specs.declared.change_beside.Beside.{Beside}
use Rattle.im_tree_search.specs.declared.sight.Sight.{Sight}
use Rattle.im_smo_log.specs.Changes.{GrowsByChange, HasRecordOf}
use Rattle.im_smo_log.specs.Logged.{smo_at}
use Rattle.im_smo_split.specs.Tops.{HasRoomFor, LacksRoomFor}
use Rattle.im_smo_split.proofs.OneLeaf.{one_leaf}
use Rattle.im_smo_actions.specs.declared.begun_change.BegunChange.{BegunChange}
use Rattle.im_smo_actions.proofs.Growth.{images_as_change, record_front}
use Rattle.im_engine_access.specs.declared.begun.Inserting.{Inserting}
use Rattle.im_engine_access.specs.declared.lock_answer.LockAnswer.{LockAnswer}
use Rattle.im_engine_access.specs.EditsBeside.{InsertBegun, InsertBesideKept, MayEditBeside, PutBeside}
use Rattle.im_engine_access.specs.KeyLogs.{LeavesEdit}
use Rattle.im_engine_access.proofs.Inserts.{past_images}
use Rattle.im_engine_access.proofs.KeyLogs.{grows_within}
use Rattle.im_engine.specs.declared.engine.Engine.{Engine}
use Rattle.im_engine.specs.declared.stepped.Aim.TheVariants.{Puts}
use Rattle.im_engine.specs.declared.stepped.Under.{Under}
use Rattle.im_engine.specs.Aims.{IsBesideOf, IsChanging, IsGoing, under_of}
use Rattle.im_engine.specs.Growing.{PutsKey}
use Rattle.im_engine.specs.Kept.{StepKept}
use Rattle.im_engine.specs.Running.{IsRunning}
use Rattle.im_engine.specs.Stands.{Allowed}
use Rattle.im_engine.proofs.Checked.{access_fits}
use Rattle.im_engine.proofs.Edited.{by_structure, way_by_images}
use Rattle.im_engine.proofs.SteppedEdits.{below_next, by_itself, decided_here, its_mark, its_number, key_changing, key_grows, key_law, may_edit_here, owned_by, walk_of}
use Rattle.im_engine.proofs.SteppedMade.{left_by_edit, logged_made}
use Rattle.im_engine.proofs.SteppedTold.{none_under}

-- a leaf has room, or lacks it
pub room_is_had : (pages : Pages) (key : Key) → IsGoodTree pages [] → HasRoomFor pages key → LacksRoomFor pages key → ⊥
room_is_had pages key good has lacks = lacks.lacks (subst (λ (p : ℕ). HasRoom true (pages p).entries (key, 0)) (one_leaf pages [] key has.page lacks.page good has.way lacks.way) has.room)

-- Images are nobody's
pub none_recorded : (b : Base) (t : ℕ) (images older : History) → t ≢ 0 → AreImages b images older → HasRecordOf t images → ⊥
none_recorded b t images older some all has = past_images b t images older [] some all (record_front t images [] has)

module _ {D : Type 0} (d : Ghosts D) (t : ℕ) (key : Key) (rid : ℕ) (old new : Engine D d) (row : Transaction) (found : find (is_of t) old.txns.rows ≡ Some row) (checked : checked_by old.txns.rows (owns_in (under_of old.under) (Do t (Insert key rid))) (Do t (Insert key rid)) ≡ None)
    (beside : Beside) (told : IsBesideOf old.under beside) where
  -- what the call below kept, whatever it stood on
  abbrev pub Below : Result (Sight (LockAnswer Inserting)) Fault → Type 0
  Below result = (b : Base) (base : ℕ) (s : Writer) (e : ℕ) → MayEditBeside d b base s e row.number row.last row.undo_next (Insert key rid) beside old.locks old.writer old.disk
      → InsertBesideKept d b base s e row.number row.last row.undo_next key rid old.dense old.max_pages beside old.locks new.locks old.disk new.writer new.disk result

  pub fits : keys_fit (Insert key rid) ≡ true
  fits = access_fits old.txns.rows _ t (Insert key rid) checked

  module _ {b : Base} (before : List Effect) (s : Shown) (v : View) (r : IsRunning d b before s v old) where
    abbrev pub Here : Result (Sight (LockAnswer Inserting)) Fault → Type 0
    Here result = InsertBesideKept d b r.base r.now r.redo_end t row.last row.undo_next key rid old.dense old.max_pages beside old.locks new.locks old.disk new.writer new.disk result

    pub kept_here : (result : Result (Sight (LockAnswer Inserting)) Fault) → Below result → Here result
    kept_here result below =
        let number = its_number d t (Insert key rid) old row found checked in
        subst (λ (n : ℕ). InsertBesideKept d b r.base r.now r.redo_end n row.last row.undo_next key rid old.dense old.max_pages beside old.locks new.locks old.disk new.writer new.disk result) number
        (below b r.base r.now r.redo_end (subst (λ (n : ℕ). MayEditBeside d b r.base r.now r.redo_end n row.last row.undo_next (Insert key rid) beside old.locks old.writer old.disk) (sym number) (may_edit_here d t (Insert key rid) old row found checked before s v r beside told)))

    pub stopped : LeavesEdit d b r.base r.now t old.disk new.disk → LeavesOnly d old.disk new.disk (Allowed before s)
    stopped stops = left_by_edit d before s v old r t new.disk stops

    good : IsGoodTree (settled b r.now.log) []
    good = (has_tree b page_tree r.now.log r.lawful).good

    some : 1 ≤ t
    some = owned_by d t (Insert key rid) old row found checked before s v r

    -- ---- a key that came

    module _ (lsn : ℕ) (is : PutBeside d b r.base r.now r.redo_end t row.last key rid beside lsn new.writer new.disk) (decides : Decides old.locks t (asked (Insert key rid) (contents b r.now.log)) GrantedAll new.locks) (same : new.under ≡ old.under) where
      abbrev before_it : History
      before_it = is.logged.before

      its_law : IsLawful b page_tree (key_record t row.last lsn is.page (InsertKey key rid) ∷ before_it)
      its_law = key_law d t (Insert key rid) old row found checked before s v r beside told is.page (InsertKey key rid) lsn new.writer new.disk is.logged

      may : lawful.MayInsert b page_tree (key_record t row.last lsn is.page (InsertKey key rid)) before_it key rid
      may = its_law.1.may

      put_served : IsServed b r.earlier before s v (Do t (Insert key rid)) answers.Inserted (did v t (Insert key rid) (lasting_of new.locks t)) is.logged.now.log (map (changed t (with_made lsn)) old.txns.rows) old.txns.next new.locks
      put_served =
          subst (λ (l : History). IsServed b r.earlier before s v (Do t (Insert key rid)) answers.Inserted (did v t (Insert key rid) (lasting_of new.locks t)) l (map (changed t (with_made lsn)) old.txns.rows) old.txns.next new.locks) (sym is.logged.is)
          (inserts_served page_tree page_tree_laws b r.earlier before s v r.now.log before_it old.txns.rows old.txns.next old.locks new.locks t row.last lsn is.page row key rid r.serving found (its_mark d t (Insert key rid) old row found checked)
          (by_itself d t (Insert key rid) old row found checked before s v r) fits (way_by_images d before s v old r t row found (its_mark d t (Insert key rid) old row found checked) (by_itself d t (Insert key rid) old row found checked before s v r) before_it is.logged.images)
          its_law.0 may.outside may.not_in is.absent (decided_here d t (Insert key rid) old row found checked before s v r beside told GrantedAll new.locks decides) may.can_put its_law.1.rises).served

      puts : PutsKey b t key rid r.now.log is.logged.now.log
      puts = record {
        between = before_it;
        change = images_as_change b t r.now.log before_it is.logged.images;
        some = λ lacks. absurd (room_is_had (settled b r.now.log) key good is.room lacks);
        only = λ has. absurd (none_recorded b t is.logged.images.images r.now.log (λ none. absurd (omega (arith, some, none))) is.logged.images.all has);
        last = row.last;
        lsn = lsn;
        page = is.page;
        is = is.logged.is;
      }

      pub put_made : LeavesEdit d b r.base r.now t old.disk new.disk → new.txns ≡ record old.txns { rows = map (changed t (with_made lsn)) old.txns.rows } → new.failed ≡ false → StepKept d before s v (Do t (Insert key rid)) answers.Inserted old new
      put_made stops table works_on =
          logged_made d before s v (did v t (Insert key rid) (lasting_of new.locks t)) (Do t (Insert key rid)) answers.Inserted old new r t (below_next d t (Insert key rid) old row found checked before s v r)
          is.logged.now is.logged.stands.stands is.logged.stands.over is.logged.stands.lawful
          (subst (λ (u : Option Under). IsChanging b u is.logged.now.log) (sym same) (key_changing d t (Insert key rid) old row found checked before s v r beside told is.page (InsertKey key rid) lsn new.writer new.disk is.logged refl is.apart))
          is.logged.durable (key_grows d t (Insert key rid) old row found checked before s v r beside told is.page (InsertKey key rid) lsn new.writer new.disk is.logged refl)
          (map (changed t (with_made lsn)) old.txns.rows) table put_served (r.same ∙ ap under_of (sym same)) refl refl (stopped stops) works_on tt puts

    -- ---- a structure change that begins

    module _ (begun : BegunChange) (leaf : ℕ) (is : InsertBegun d b r.base r.now r.redo_end t row.last row.undo_next key old.dense old.max_pages beside begun leaf new.writer new.disk) (decides : Decides old.locks t (asked_begun key (contents b r.now.log)) GrantedAll new.locks)
        (under : new.under ≡ Some (record { begun = begun; aim = Puts key rid leaf })) where
      abbrev lsn : ℕ
      lsn = begun.change.last

      abbrev newest : Logged
      newest = smo_at lsn t row.last is.page is.was is.made

      law : IsLawful b page_tree (newest ∷ is.before)
      law = subst (λ (l : History). IsLawful b page_tree l) is.is is.goes.lawful

      none : v.under ≡ None
      none = r.same ∙ ap under_of (none_under old.under beside told is.alone)

      change : GrowsByChange t r.now.log is.now.log
      change =
          let images = images_as_change b t r.now.log is.before is.images in
          record { more = newest ∷ images.more; is = is.is ∙ ap (λ (l : History). newest ∷ l) images.is; all = (refl, images.all) }

      abbrev rows : List Transaction
      rows = map (changed t (with_record lsn lsn)) old.txns.rows

      rows_noted : noted t is.now.log old.txns.rows ≡ rows
      rows_noted =
          let last : last_of t is.now.log ≡ lsn = ap (last_of t) is.is ∙ cond-true (t == t) lsn (last_of t is.before) (eq-eqb t t refl) in
          let undo : undo_next_of t is.now.log ≡ lsn = ap (undo_next_of t) is.is ∙ cond-true (t == t) lsn (undo_next_of t is.before) (eq-eqb t t refl) in
          ap (λ (n : ℕ). map (changed t (with_record n (undo_next_of t is.now.log))) old.txns.rows) last
          ∙ ap (λ (n : ℕ). map (changed t (with_record lsn n)) old.txns.rows) undo

      abbrev next : View
      next = with_change (locked v t (lasting_of new.locks t)) t (views.Puts key rid)

      begun_served : IsServed b r.earlier before s v (Do t (Insert key rid)) answers.More next is.now.log rows old.txns.next new.locks
      begun_served =
          subst (λ (x : List Transaction). IsServed b r.earlier before s v (Do t (Insert key rid)) answers.More next is.now.log x old.txns.next new.locks) rows_noted
          (inserts_begin b r.earlier before s v r.now.log is.now.log old.txns.rows old.txns.next old.locks new.locks t row key rid r.serving found (its_mark d t (Insert key rid) old row found checked) none fits
          (ap (λ (m : IndexMap). get m key) (walk_of d t (Insert key rid) old row found checked before s v r) ∙ is.absent)
          (subst (λ (m : IndexMap). Decides old.locks t (asked_begun key m) GrantedAll new.locks) (sym (walk_of d t (Insert key rid) old row found checked before s v r)) decides)
          (by_structure t r.now.log is.now.log change))

      going : IsGoing b (record { begun = begun; aim = Puts key rid leaf }) is.now.log
      going = record {
        goes = is.goes;
        some = let rises : end_of b is.before < lsn = law.1.rises in omega (arith, rises);
        count = is.count;
        aims = record { way = is.to.way; image = is.to.image; is = is.to.is; room = is.to.room };
      }

      pub begun_made : LeavesEdit d b r.base r.now t old.disk new.disk → new.txns ≡ record old.txns { rows = rows } → new.failed ≡ false → StepKept d before s v (Do t (Insert key rid)) answers.More old new
      begun_made stops table works_on =
          logged_made d before s v next (Do t (Insert key rid)) answers.More old new r t (below_next d t (Insert key rid) old row found checked before s v r)
          is.now is.stands is.over is.goes.lawful (subst (λ (u : Option Under). IsChanging b u is.now.log) (sym under) going) is.durable (grows_within t r.now.log is.now.log change) rows table begun_served
          (ap (λ (n : ℕ). Some (record { owner = n; aim = views.Puts key rid })) (sym is.owner) ∙ ap under_of (sym under)) refl refl (stopped stops) works_on tt
          (record { between = is.before; images = is.images; last = row.last; lsn = lsn; page = is.page; was = is.was; now = is.made; marked = is.marked; is = is.is })
