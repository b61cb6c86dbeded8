-- A delete of a key beside a structure change, or with one that begins, from how the call below ended.
use Rattle.std.proofs.Common.{◌≡◌, ℕ, ◌≤◌, ◌<◌, List, [], ◌∷◌, true, false, Option, Some, None, Result, map, refl, sym, ap, subst, ◌∙◌, arith}
use Rattle.std.specs.Prelude.{find}
use Rattle.im_base_types.specs.Answers as answers
use Rattle.im_base_types.specs.Answers.{Delete, Do}
use Rattle.im_base_types.specs.Changes.{Effect}
use Rattle.im_base_types.specs.Keys.{Key}
use Rattle.im_base_types.specs.Lives.{Shown}
use Rattle.im_base_types.specs.Records.{DeleteKey}
use Rattle.im_base_types.specs.declared.fault.Fault.{Fault}
use Rattle.im_base_disk.specs.declared.disk.Disk.{Ghosts}
use Rattle.im_base_txn.specs.Rows.{is_of, changed}
use Rattle.im_base_txn.specs.declared.transaction.Transaction.{Transaction}
use Rattle.im_theory_log.specs.Histories.{Base, History, end_of}
use Rattle.im_theory_log.specs.Lawful as lawful
use Rattle.im_theory_log.specs.Lawful.{IsLawful}
use Rattle.im_theory_log.specs.Structure.{settled}
use Rattle.im_theory_log.specs.Transactions.{contents}
use Rattle.im_theory_log.specs.Writer.{Writer}
use Rattle.im_theory_log.proofs.Cited.{has_tree}
use Rattle.im_theory_machine.specs.Machine.{keys_fit}
use Rattle.im_theory_machine.specs.Rows.{asked}
use Rattle.im_theory_machine.specs.Table.{Decides, lasting_of}
use Rattle.im_theory_machine.specs.declared.verdict.Verdict.TheVariants.{Granted as GrantedAll}
use Rattle.im_theory_machine.specs.View as views
use Rattle.im_theory_machine.specs.View.{View, did, owns_in, with_change}
use Rattle.im_theory_steps.specs.Checks.{checked_by}
use Rattle.im_theory_steps.specs.Serving.{IsServed}
use Rattle.im_theory_steps.specs.Steps.{key_record, with_made}
use Rattle.im_theory_steps.proofs.Cited.{deletes_begin, deletes_served}
use Rattle.im_theory_tree.specs.Theory.{page_tree}
use Rattle.im_theory_tree.proofs.TheoryLaws.{page_tree_laws}
use Rattle.im_tree_search.specs.declared.change_beside.Beside.{Beside}
use Rattle.im_tree_search.specs.declared.sight.Sight.{Sight}
use Rattle.im_smo_actions.specs.declared.begun_change.BegunChange.{BegunChange}
use Rattle.im_engine_access.specs.declared.begun.Deleting.{Deleting}
use Rattle.im_engine_access.specs.declared.lock_answer.LockAnswer.{LockAnswer}
use Rattle.im_engine_access.specs.EditsBeside.{DeleteBegun, DeleteBesideKept, MayEditBeside, TakenBeside}
use Rattle.im_engine_access.proofs.Deletes.{more_is_not_one}
use Rattle.im_engine_access.specs.KeyLogs.{LeavesEdit}
use Rattle.im_engine.specs.declared.engine.Engine.{Engine}
use Rattle.im_engine.specs.declared.stepped.Aim.TheVariants.{Drops}
use Rattle.im_engine.specs.declared.stepped.Under.{Under}
use Rattle.im_engine.specs.Aims.{IsBesideOf, IsChanging, IsGoing, under_of}
use Rattle.im_engine.specs.Growing.{DropsKey}
use Rattle.im_engine.specs.Kept.{StepKept}
use Rattle.im_engine.specs.Running.{IsRunning}
use Rattle.im_engine.proofs.Checked.{access_fits}
use Rattle.im_engine.proofs.Edited.{way_by_images}
use Rattle.im_engine.proofs.SteppedEdits.{below_next, by_itself, decided_here, its_mark, its_number, key_changing, key_grows, key_law, may_edit_here}
use Rattle.im_engine.proofs.SteppedMade.{left_by_edit, logged_made}
use Rattle.im_engine.proofs.SteppedTold.{none_under}

module _ {D : Type 0} (d : Ghosts D) (t : ℕ) (key : Key) (old new : Engine D d) (row : Transaction) (found : find (is_of t) old.txns.rows ≡ Some row) (checked : checked_by old.txns.rows (owns_in (under_of old.under) (Do t (Delete key))) (Do t (Delete key)) ≡ None)
    (beside : Beside) (told : IsBesideOf old.under beside) where
  -- what the call below kept, whatever it stood on
  abbrev pub Below : Result (Sight (LockAnswer Deleting)) Fault → Type 0
  Below result = (b : Base) (base : ℕ) (s : Writer) (e : ℕ) → MayEditBeside d b base s e row.number row.last row.undo_next (Delete key) beside old.locks old.writer old.disk
      → DeleteBesideKept d b base s e row.number row.last key beside old.locks new.locks old.disk new.writer new.disk result

  pub fits : keys_fit (Delete key) ≡ true
  fits = access_fits old.txns.rows _ t (Delete key) checked

  module _ {b : Base} (before : List Effect) (s : Shown) (v : View) (r : IsRunning d b before s v old) where
    abbrev pub Here : Result (Sight (LockAnswer Deleting)) Fault → Type 0
    Here result = DeleteBesideKept d b r.base r.now r.redo_end t row.last key beside old.locks new.locks old.disk new.writer new.disk result

    pub kept_here : (result : Result (Sight (LockAnswer Deleting)) Fault) → Below result → Here result
    kept_here result below =
        let number = its_number d t (Delete key) old row found checked in
        subst (λ (n : ℕ). DeleteBesideKept d b r.base r.now r.redo_end n row.last key beside old.locks new.locks old.disk new.writer new.disk result) number
        (below b r.base r.now r.redo_end (subst (λ (n : ℕ). MayEditBeside d b r.base r.now r.redo_end n row.last row.undo_next (Delete key) beside old.locks old.writer old.disk) (sym number) (may_edit_here d t (Delete key) old row found checked before s v r beside told)))

    -- ---- a key that went

    module _ (lsn : ℕ) (is : TakenBeside d b r.base r.now r.redo_end t row.last key beside lsn new.writer new.disk) (decides : Decides old.locks t (asked (Delete key) (contents b r.now.log)) GrantedAll new.locks) (same : new.under ≡ old.under) where
      abbrev before_it : History
      before_it = is.logged.before

      its_law : IsLawful b page_tree (key_record t row.last lsn is.page (DeleteKey key is.rid) ∷ before_it)
      its_law = key_law d t (Delete key) old row found checked before s v r beside told is.page (DeleteKey key is.rid) lsn new.writer new.disk is.logged

      may : lawful.MayDelete b page_tree (key_record t row.last lsn is.page (DeleteKey key is.rid)) before_it key is.rid
      may = its_law.1.may

      taken_served : IsServed b r.earlier before s v (Do t (Delete key)) answers.Deleted (did v t (Delete key) (lasting_of new.locks t)) is.logged.now.log (map (changed t (with_made lsn)) old.txns.rows) old.txns.next new.locks
      taken_served =
          subst (λ (l : History). IsServed b r.earlier before s v (Do t (Delete key)) answers.Deleted (did v t (Delete key) (lasting_of new.locks t)) l (map (changed t (with_made lsn)) old.txns.rows) old.txns.next new.locks) (sym is.logged.is)
          (deletes_served page_tree page_tree_laws b r.earlier before s v r.now.log before_it old.txns.rows old.txns.next old.locks new.locks t row.last lsn is.page row key is.rid r.serving found (its_mark d t (Delete key) old row found checked)
          (by_itself d t (Delete key) old row found checked before s v r) fits (way_by_images d before s v old r t row found (its_mark d t (Delete key) old row found checked) (by_itself d t (Delete key) old row found checked before s v r) before_it is.logged.images)
          its_law.0 may.outside may.not_in is.there (decided_here d t (Delete key) old row found checked before s v r beside told GrantedAll new.locks decides) may.can_drop its_law.1.rises).served

      drops : DropsKey b t key r.now.log is.logged.now.log
      drops = record {
        before = before_it;
        images = is.logged.images;
        rid = is.rid;
        last = row.last;
        lsn = lsn;
        page = is.page;
        change = record { more = []; is = is.logged.is; all = tt };
        only = λ has. absurd has;
        some = λ one. absurd (more_is_not_one (settled b r.now.log) key (has_tree b page_tree r.now.log r.lawful).good is.more one);
      }

      pub taken_made : LeavesEdit d b r.base r.now t old.disk new.disk → new.txns ≡ record old.txns { rows = map (changed t (with_made lsn)) old.txns.rows } → new.failed ≡ false → StepKept d before s v (Do t (Delete key)) answers.Deleted old new
      taken_made stops table works_on =
          logged_made d before s v (did v t (Delete key) (lasting_of new.locks t)) (Do t (Delete key)) answers.Deleted old new r t (below_next d t (Delete key) old row found checked before s v r)
          is.logged.now is.logged.stands.stands is.logged.stands.over is.logged.stands.lawful
          (subst (λ (u : Option Under). IsChanging b u is.logged.now.log) (sym same) (key_changing d t (Delete key) old row found checked before s v r beside told is.page (DeleteKey key is.rid) lsn new.writer new.disk is.logged refl is.apart))
          is.logged.durable (key_grows d t (Delete key) old row found checked before s v r beside told is.page (DeleteKey key is.rid) lsn new.writer new.disk is.logged refl)
          (map (changed t (with_made lsn)) old.txns.rows) table taken_served (r.same ∙ ap under_of (sym same)) refl refl (left_by_edit d before s v old r t new.disk stops) works_on tt drops

    -- ---- a structure change that begins

    module _ (begun : BegunChange) (is : DeleteBegun d b r.base r.now r.redo_end t row.last key beside begun new.writer new.disk) (decides : Decides old.locks t (asked (Delete key) (contents b r.now.log)) GrantedAll new.locks) (under : new.under ≡ Some (record { begun = begun; aim = Drops key })) where
      begun_law : IsLawful b page_tree (key_record t row.last is.lsn is.page (DeleteKey key is.rid) ∷ is.logged.before)
      begun_law = key_law d t (Delete key) old row found checked before s v r beside told is.page (DeleteKey key is.rid) is.lsn new.writer new.disk is.logged

      begun_may : lawful.MayDelete b page_tree (key_record t row.last is.lsn is.page (DeleteKey key is.rid)) is.logged.before key is.rid
      begun_may = begun_law.1.may

      none : v.under ≡ None
      none = r.same ∙ ap under_of (none_under old.under beside told is.alone)

      abbrev next : View
      next = with_change (did v t (Delete key) (lasting_of new.locks t)) t (views.Drops key)

      abbrev rows : List Transaction
      rows = map (changed t (with_made begun.change.last)) old.txns.rows

      begun_served : IsServed b r.earlier before s v (Do t (Delete key)) answers.More next is.logged.now.log rows old.txns.next new.locks
      begun_served =
          subst (λ (n : ℕ). IsServed b r.earlier before s v (Do t (Delete key)) answers.More next is.logged.now.log (map (changed t (with_made n)) old.txns.rows) old.txns.next new.locks) (sym is.newest)
          (subst (λ (l : History). IsServed b r.earlier before s v (Do t (Delete key)) answers.More next l (map (changed t (with_made is.lsn)) old.txns.rows) old.txns.next new.locks) (sym is.logged.is)
          (deletes_begin page_tree page_tree_laws b r.earlier before s v r.now.log is.logged.before old.txns.rows old.txns.next old.locks new.locks t row.last is.lsn is.page row key is.rid r.serving found (its_mark d t (Delete key) old row found checked) none fits
          (way_by_images d before s v old r t row found (its_mark d t (Delete key) old row found checked) (by_itself d t (Delete key) old row found checked before s v r) is.logged.before is.logged.images)
          begun_law.0 begun_may.outside begun_may.not_in is.there (decided_here d t (Delete key) old row found checked before s v r beside told GrantedAll new.locks decides) begun_may.can_drop begun_law.1.rises).served)

      going : IsGoing b (record { begun = begun; aim = Drops key }) is.logged.now.log
      going = record {
        goes = is.goes;
        some = let rises : end_of b is.logged.before < is.lsn = begun_law.1.rises in subst (λ (n : ℕ). 1 ≤ n) (sym is.newest) (omega (arith, rises));
        count = is.count;
        aims = tt;
      }

      pub begun_made : LeavesEdit d b r.base r.now t old.disk new.disk → new.txns ≡ record old.txns { rows = rows } → new.failed ≡ false → StepKept d before s v (Do t (Delete key)) answers.More old new
      begun_made stops table works_on =
          logged_made d before s v next (Do t (Delete key)) answers.More old new r t (below_next d t (Delete key) old row found checked before s v r)
          is.logged.now is.logged.stands.stands is.logged.stands.over is.logged.stands.lawful (subst (λ (u : Option Under). IsChanging b u is.logged.now.log) (sym under) going) is.logged.durable
          (key_grows d t (Delete key) old row found checked before s v r beside told is.page (DeleteKey key is.rid) is.lsn new.writer new.disk is.logged refl) rows table begun_served
          (ap (λ (n : ℕ). Some (record { owner = n; aim = views.Drops key })) (sym is.owner) ∙ ap under_of (sym under)) refl refl (left_by_edit d before s v old r t new.disk stops) works_on tt
          (record { between = is.logged.before; images = is.logged.images; rid = is.rid; last = row.last; lsn = is.lsn; page = is.page; is = is.logged.is })
