-- The end of a structure change for a change that is taken back, and what comes after it.
use Rattle.std.proofs.Common.{◌≡◌, ◌≢◌, inl, inr, ℕ, suc, ◌+◌, ◌≤◌, ◌<◌, ◌^◌, List, [], ◌∷◌, Bool, true, false, not, Option, Some, None, Result, length, map, refl, sym, ap, subst, ◌∙◌}
use Rattle.std.specs.Prelude.{find, ◌==◌}
use Rattle.std.proofs.lemmas.Bool.{cases_Bool, cases_eq, cond-false, cond-true, eq-eqb}
use Rattle.im_base_types.specs.Answers.{Continue, RolledBack}
use Rattle.im_base_types.specs.Changes.{Effect}
use Rattle.im_base_types.specs.declared.fault.Fault.{Fault}
use Rattle.im_base_types.specs.Lives.{Asked, Shown, shows}
use Rattle.im_base_types.specs.Records.{Logged}
use Rattle.im_base_disk.specs.declared.disk.Disk.{Ghosts}
use Rattle.im_base_txn.specs.LookUps.{without}
use Rattle.im_base_txn.proofs.LookUps.{look_ups_follow}
use Rattle.im_base_txn.specs.Rows.{changed, is_of, with_record}
use Rattle.im_base_txn.specs.declared.transaction.Transaction.{Transaction}
use Rattle.im_theory_log.specs.Histories.{Base, History}
use Rattle.im_theory_log.specs.Structure.{open_smo}
use Rattle.im_theory_log.specs.Transactions.{changes_of, committed, is_finished, last_of, net, to_undo, undo_next_of}
use Rattle.im_theory_log.specs.Writer.{Writer}
use Rattle.im_log.proofs.Above.{front_then}
use Rattle.im_log.specs.Spelled.{logged_at}
use Rattle.im_log_record.specs.Entry as entries
use Rattle.im_page_table.specs.DirtyTable.{FitsRecord}
use Rattle.im_page_writer.specs.declared.page_writer.PageWriter.{PageWriter}
use Rattle.im_page_writer.specs.PageWriter.{StandsAs}
use Rattle.im_smo_log.specs.Changes.{GrowsByChange}
use Rattle.im_smo_log.specs.Logged.{dummy_at}
use Rattle.im_smo_log.specs.Stepping.{Goes}
use Rattle.im_smo_log.specs.declared.change.Change.{Change}
use Rattle.im_restart_analysis.specs.declared.rows.Loser.{Loser}
use Rattle.im_restart_undo.specs.declared.back.Back.TheVariants.{Plain}
use Rattle.im_restart_undo.specs.Undoing.{LeavesUndo}
use Rattle.im_restart_undo.proofs.Growth.{grows_change}
use Rattle.im_engine_rollback.specs.SplitsBack.{BackClosed, CloseBackKept, ClosedBack, DropClosed, IsSplitBack, SplitClosed}
use Rattle.im_engine_rollback.specs.declared.undone.Undone.{Undone}
use Rattle.im_engine_rollback.specs.Turns.{EndedNow, WentOn}
use Rattle.im_engine_rollback.specs.declared.undone.Undone.TheVariants as turns
use Rattle.im_theory_machine.specs.Table.{IsReleased, Table}
use Rattle.im_theory_machine.specs.View as views
use Rattle.im_theory_machine.specs.View.{View, change_made, dropped_by, of_others, undid_last, undid_more}
use Rattle.im_theory_steps.specs.Checks.{checked_by}
use Rattle.im_theory_steps.specs.Growth.{AreBelow, GrowsByStructure, GrowsWithin, IsOfOthers, IsOver, Stays}
use Rattle.im_theory_steps.specs.Durable.{AreCommitted}
use Rattle.im_theory_steps.specs.Serving.{IsServing}
use Rattle.im_theory_steps.specs.Steps.{noted, with_undone}
use Rattle.im_theory_steps.proofs.Cited.{turns_end, commits_stand, numbers_stay_new, same_by, same_then, structure_changes_no_key, within_leaves_others, structure_keeps, ends_leave_nothing, last_undone_served}
use Rattle.im_engine.specs.declared.engine.Engine.{Engine}
use Rattle.im_engine.specs.declared.stepped.Aim.{Aim}
use Rattle.im_engine.specs.declared.stepped.Aim.TheVariants.{TakesBack, TookBack}
use Rattle.im_engine.specs.declared.stepped.Under.{Under}
use Rattle.im_engine.specs.Aims.{Aims, IsChanging, IsGoing, aim_of, owned, under_of}
use Rattle.im_engine.specs.Growing as grows
use Rattle.im_engine.specs.Kept.{StepKept}
use Rattle.im_engine.specs.Numbered.{Numbered, ends_back, has_returned, on_again, with_back}
use Rattle.im_engine.specs.Running.{IsRunning}
use Rattle.im_engine.specs.TurningBack.{EndsBack, aim_back}
use Rattle.im_engine.proofs.Edited.{by_structure}
use Rattle.im_engine.proofs.Numbers.{fused}
use Rattle.im_engine.proofs.Made.{step_made}
use Rattle.im_engine.proofs.SteppedBacks.{change_back, takes_alone, takes_one, taken_last, taken_newest, taken_next}
use Rattle.im_engine.proofs.Returning.{GoesBack, back_free, back_served, drop_served, ends_rolling, going_if, returns_later, rolling_ends, told_back}
use Rattle.im_engine.proofs.SteppedTurns.{back_asks, back_done, back_grows, below_next, goes, going_under, made_ended, made_more, stops_back}
use Rattle.im_engine.proofs.Turning.{undo_grows}

-- ---- rows

gone_one : (t : ℕ) (f : Transaction → Transaction) (row : Transaction) (c : Bool) → (row.number == t) ≡ c → ((x : Transaction) → (f x).number ≡ x.number) → is_of t (changed t f row) ≡ is_of t row
gone_one t f row true is keeps = ap (λ (x : Transaction). is_of t x) (cond-true (row.number == t) (f row) row is) ∙ ap (λ (n : ℕ). n == t) (keeps row)
gone_one t f row false is keeps = ap (λ (x : Transaction). is_of t x) (cond-false (row.number == t) (f row) row is)

-- a row that goes may have noted what it likes
without_noted : (t l n : ℕ) (rows : List Transaction) → without t (map (changed t (with_record l n)) rows) ≡ without t rows
without_noted t l n [] = refl
without_noted t l n (row ∷ rows) = elim (cases_Bool (row.number == t)) [
  | inl mine ↦
      cond-false (not (is_of t (changed t (with_record l n) row))) (changed t (with_record l n) row ∷ without t (map (changed t (with_record l n)) rows)) (without t (map (changed t (with_record l n)) rows))
      (ap (λ (b : Bool). not b) (gone_one t (with_record l n) row true mine (λ x. refl) ∙ mine))
      ∙ without_noted t l n rows
      ∙ sym (cond-false (not (is_of t row)) (row ∷ without t rows) (without t rows) (ap (λ (b : Bool). not b) mine))
  | inr other ↦
      cond-true (not (is_of t (changed t (with_record l n) row))) (changed t (with_record l n) row ∷ without t (map (changed t (with_record l n)) rows)) (without t (map (changed t (with_record l n)) rows))
      (ap (λ (b : Bool). not b) (gone_one t (with_record l n) row false other (λ x. refl) ∙ other))
      ∙ ap (λ (x : Transaction). x ∷ without t (map (changed t (with_record l n)) rows)) (cond-false (row.number == t) (with_record l n row) row other)
      ∙ ap (λ (xs : List Transaction). row ∷ xs) (without_noted t l n rows)
      ∙ sym (cond-true (not (is_of t row)) (row ∷ without t rows) (without t rows) (ap (λ (b : Bool). not b) other))
]

length_noted : (f : Transaction → Transaction) (rows : List Transaction) → length (map f rows) ≡ length rows
length_noted f [] = refl
length_noted f (row ∷ rows) = ap (λ (n : ℕ). suc n) (length_noted f rows)

-- ---- the change of its own transaction

-- is open no more
pub of_own : (t : ℕ) (u : views.Under) → u.owner ≡ t → of_others t (Some u) ≡ None
of_own t u own = cond-true (u.owner == t) None (Some u) (eq-eqb u.owner t own)

-- the End after the record that closes it leaves nothing of the transaction
module _ (b : Base) (t lsn last : ℕ) (older log : History) (stays : Stays b older log) (others : IsOfOthers t older log) (none : net t log ≡ []) where
  abbrev newest : Logged
  newest = logged_at lsn (entries.End t last)

  pub ended_stack : to_undo t (newest ∷ log) ≡ []
  ended_stack = cond-true (t == t) [] (to_undo t log) (eq-eqb t t refl)

  pub ended_over : IsOver t (newest ∷ log)
  ended_over one some = cond-true (t == t) true (is_finished t log) (eq-eqb t t refl)

  pub ended_others : IsOfOthers t older (newest ∷ log)
  ended_others u differ = same_then u older log (newest ∷ log) (others u differ) (same_by u newest log (λ e. differ (sym e)))

  pub ended_stays : Stays b older (newest ∷ log)
  ended_stays = record {
    commits = stays.commits;
    walk = stays.walk;
    nets = λ u. elim (cases_eq u t) [
      | inl own ↦ subst (λ (n : ℕ). net n (newest ∷ log) ≡ net n older) (sym own) (ap changes_of ended_stack ∙ sym none ∙ stays.nets t)
      | inr differ ↦ ap changes_of (ended_others u differ).stack
    ];
  }

-- ---- after a deletion was closed

-- it goes on, and of one that rolls back changes are left
record WentMore {D : Type 0} (d : Ghosts D) (b : Base) (base : ℕ) (ends : Bool) (s : Writer) (t last undo_next l n : ℕ) (w : PageWriter) (disk : D) : Type 0 where
  last_is : l ≡ last
  next_is : n ≡ undo_next
  left : ends ≡ true → net t s.log ≢ []
  stands : StandsAs d b base s w disk

went_more : {D : Type 0} (d : Ghosts D) (b : Base) (base : ℕ) (ends : Bool) (s : Writer) (e t last undo_next l n : ℕ) (w : PageWriter) (disk : D) → WentOn d b base ends s e t last undo_next w disk (turns.More l n) → WentMore d b base ends s t last undo_next l n w disk
went_more d b base true s e t last undo_next l n w disk is = record { last_is = is.0; next_is = is.1; left = λ ends. is.2; stands = is.3 }
went_more d b base false s e t last undo_next l n w disk is = record { last_is = is.0; next_is = is.1; left = λ ends. absurd (cc ends); stands = is.2 }

-- it ended, as one that rolls back
went_ended : {D : Type 0} (d : Ghosts D) (b : Base) (base : ℕ) (ends : Bool) (s : Writer) (e t last undo_next : ℕ) (w : PageWriter) (disk : D) → WentOn d b base ends s e t last undo_next w disk turns.Ended → (ends ≡ true) × (net t s.log ≡ []) × EndedNow d b base s e t last w disk
went_ended d b base true s e t last undo_next w disk is = (refl, is.0, is.1)
went_ended d b base false s e t last undo_next w disk is = absurd is

-- ---- the record that closes a change of its own

module _ {D : Type 0} (d : Ghosts D) {b : Base} (before : List Effect) (s : Shown) (v : View) (t : ℕ) (row : Transaction) (old : Engine D d) (r : IsRunning d b before s v old) (found : find (is_of t) old.txns.rows ≡ Some row) (checked : checked_by old.txns.rows false (Continue t) ≡ None)
    (splits : Bool) (ends : EndsBack splits t old.under) where
  back : GoesBack row
  back = goes d before s v t row old r found checked

  was_as : (m : views.Aim) → aim_of ends.u.aim ≡ m → under_of old.under ≡ Some (record { owner = t; aim = m })
  was_as m is = ap under_of ends.is ∙ ap (λ (n : ℕ). Some (record { owner = n; aim = aim_of ends.u.aim })) ends.owner ∙ ap (λ (x : views.Aim). Some (record { owner = t; aim = x })) is

  was : v.under ≡ Some (owned ends.u)
  was = r.same ∙ ap under_of ends.is

  going : IsGoing b ends.u r.now.log
  going = subst (λ (u : Option Under). IsChanging b u r.now.log) ends.is r.changing

  below : t < old.txns.next
  below = below_next d before s v t row old r found checked

  -- what closing it keeps, of its own transaction
  pub back_kept : (last_too : Bool) (c : Change) → c ≡ ends.u.begun.change → (w : PageWriter) (disk : D) (result answer : Result Undone Fault) → result ≡ answer
      → (Goes b c r.now.log → (splits ≡ true → IsSplitBack b c.undo_next c.images r.now.log) → CloseBackKept d b r.base splits last_too r.now r.redo_end c.transaction c.last c.undo_next old.disk w disk result)
      → CloseBackKept d b r.base splits last_too r.now r.redo_end t ends.u.begun.change.last ends.u.begun.change.undo_next old.disk w disk answer
  back_kept last_too c same w disk result answer is kept =
      let u = ends.u in
      subst (λ (x : Result Undone Fault). CloseBackKept d b r.base splits last_too r.now r.redo_end t u.begun.change.last u.begun.change.undo_next old.disk w disk x) is
      (subst (λ (n : ℕ). CloseBackKept d b r.base splits last_too r.now r.redo_end n u.begun.change.last u.begun.change.undo_next old.disk w disk result) ends.owner
      (subst (λ (x : Change). Goes b x r.now.log → (splits ≡ true → IsSplitBack b x.undo_next x.images r.now.log) → CloseBackKept d b r.base splits last_too r.now r.redo_end x.transaction x.last x.undo_next old.disk w disk result) same kept going.goes
      (λ for_split. subst (λ (a : Aim). Aims b a u.begun.change.undo_next u.begun.change.images r.now.log) (ends.aim_is ∙ ap aim_back for_split) going.aims)))

  module _ (lsn : ℕ) (closed : Writer) (between : PageWriter) (mid : D) (shut : ClosedBack d b r.base r.now r.redo_end t ends.u.begun.change.last ends.u.begun.change.undo_next lsn closed between mid) where
    change : GrowsByChange t r.now.log closed.log
    change = record { more = dummy_at lsn t ends.u.begun.change.last ends.u.begun.change.undo_next ∷ []; is = shut.log; all = (refl, tt) }

    pub grown : GrowsByStructure t r.now.log closed.log
    grown = by_structure t r.now.log closed.log change

    pub within : GrowsWithin t r.now.log closed.log
    within = undo_grows t r.now.log closed.log (grows_change t r.now.log closed.log change)

    pub closes : grows.Closes t r.now.log closed.log
    closes = record { last = ends.u.begun.change.last; lsn = lsn; undo_next = ends.u.begun.change.undo_next; is = shut.log }

    abbrev pub row_now : Transaction
    row_now = with_record (last_of t closed.log) (undo_next_of t closed.log) row

    pub found_now : find (is_of t) (noted t closed.log old.txns.rows) ≡ Some row_now
    found_now = look_ups_follow.changed_own t (with_record (last_of t closed.log) (undo_next_of t closed.log)) (λ x. refl) old.txns.rows row found

    pub serving_now : IsServing b r.earlier before s v closed.log (noted t closed.log old.txns.rows) old.txns.next old.locks
    serving_now = structure_keeps b r.earlier before s v r.now.log closed.log old.txns.rows old.txns.next old.locks t row r.serving found (back_free row back) grown

    pub closed_last : last_of t closed.log ≡ lsn
    closed_last = ap (λ (x : Loser). x.last) shut.going.row

    pub closed_next : undo_next_of t closed.log ≡ ends.u.begun.change.undo_next
    closed_next = ap (λ (x : Loser). x.undo_next) shut.going.row

    pub numbers : old.txns.next ≤ 2 ^ 62 → AreBelow old.txns.next closed.log
    numbers le = numbers_stay_new.within old.txns.next t r.now.log closed.log below (r.numbered le) within

    pub same_committed : committed closed.log ≡ committed r.now.log
    same_committed = (structure_changes_no_key b t r.now.log closed.log grown).stays.commits

  module _ (new : Engine D d) (works_on : new.failed ≡ false) (stops : LeavesUndo d b r.base r.now t old.disk new.disk) (gone : new.under ≡ None) where
    under_gone : under_of new.under ≡ None
    under_gone = ap under_of gone

    none_now : of_others t v.under ≡ under_of new.under
    none_now = ap (of_others t) was ∙ of_own t (owned ends.u) ends.owner ∙ sym under_gone

    -- ---- a split is closed, and the key comes back

    split_more : (takes : ends.u.aim ≡ TakesBack) (last_too reply : Bool) (last undo_next : ℕ) → last_too ≡ ends_back row → reply ≡ has_returned (with_undone last undo_next row)
        → SplitClosed d b r.base last_too r.now r.redo_end t ends.u.begun.change.last ends.u.begun.change.undo_next new.writer new.disk (turns.More last undo_next) → new.locks ≡ old.locks
        → new.txns ≡ record old.txns { rows = on_again t (map (changed t (with_undone last undo_next)) old.txns.rows) } → StepKept d before s v (Continue t) (told_back reply) old new
    split_more takes last_too reply last undo_next ends_is reply_is is locks table =
        let closed = is.closed in
        let shut = is.shut in
        let made_is = made_more d b r.base last_too closed r.redo_end t last undo_next is.beside is.mid new.writer new.disk is.turned in
        let turned = made_is.0 in
        let took = turned.took in
        let taken = took.taken in
        let now = taken.now in
        let to = turned.next.next in
        let rows_closed = noted t closed.log old.txns.rows in
        let undoes = taken_newest d b r.base closed r.redo_end t turned.entry to (Plain took.page) last is.mid new.writer new.disk taken in
        let c = change_back d b r.base closed r.redo_end t turned.entry to (Plain took.page) last is.mid new.writer new.disk taken in
        let same = within_leaves_others t closed.log now.log undoes.grows in
        let undid = undid_more v t c (net t now.log) in
        let w = going_if reply t undid in
        let shown = shows s (Continue t) (Some (told_back reply)) in
        let list = on_again t (map (changed t (with_undone last undo_next)) rows_closed) in
        let served = back_served b r.earlier before s v closed.log rows_closed old.txns.next old.locks t (row_now is.lsn closed is.between is.mid shut) (serving_now is.lsn closed is.between is.mid shut) (found_now is.lsn closed is.between is.mid shut) back
        now.log c undoes taken.going.unfinished last undo_next
        (taken_last d b r.base closed r.redo_end t turned.entry to (Plain took.page) last is.mid new.writer new.disk taken)
        (taken_next d b r.base closed r.redo_end t turned.entry to (Plain took.page) last is.mid new.writer new.disk taken ∙ sym took.leads)
        (λ rolling. made_is.1 (ends_is ∙ rolling_ends row rolling))
        (returns_later b r.earlier before s v r.now.log old.txns.rows old.txns.next old.locks t row r.serving found back (r.same ∙ was_as views.TakesBack (ap aim_of takes)))
        reply reply_is in
        let table_is : new.txns ≡ record old.txns { rows = list } =
        table ∙ ap (λ (rows : List Transaction). record old.txns { rows = on_again t rows }) (sym (fused t (with_record (last_of t closed.log) (undo_next_of t closed.log)) (with_undone last undo_next) (λ x. refl) old.txns.rows)) in
        let running : IsRunning d b before shown w new = record {
          base = r.base;
          start = r.start;
          counted = r.counted;
          earlier = r.earlier;
          now = now;
          stands = taken.going.stands;
          redo_end = r.redo_end;
          over = taken.going.over;
          lawful = taken.going.lawful;
          changing = subst (λ (u : Option Under). IsChanging b u now.log) (sym gone) (taken.going_on ∙ shut.going.can.closed);
          serving = subst (λ (x : Numbered). IsServing b r.earlier before shown w now.log x.rows x.next new.locks) (sym table_is)
              (subst (λ (l : Table). IsServing b r.earlier before shown w now.log list old.txns.next l) (sym locks) served.1);
          commits = subst (λ (l : List Asked). AreCommitted r.earlier before l now.durable now.log) (sym (back_asks reply t s))
              (commits_stand.more r.earlier before s.asked r.now.durable now.log now.durable (commits_stand.stay r.earlier before s.asked r.now.durable r.now.log now.log r.commits (same.1 ∙ same_committed is.lsn closed is.between is.mid shut))
              (record { from = front_then r.now.durable closed.durable now.durable shut.durable taken.durable; upto = taken.going.stands.writing.stands.kept.front }));
          numbered = subst (λ (n : ℕ). n ≤ 2 ^ 62 → AreBelow n now.log) (sym (ap (λ (x : Numbered). x.next) table))
              (λ le. numbers_stay_new.within old.txns.next t closed.log now.log below (numbers is.lsn closed is.between is.mid shut le) undoes.grows);
          same = going_under reply t undid ∙ none_now;
        } in
        step_made d before s v (Continue t) (told_back reply) old new w served.0 running works_on (stops_back d before s v t row old r found checked new.disk stops) (back_done d before shown w t reply new) r
        (back_grows b (FitsRecord old.writer.table) (under_of old.under) (under_of new.under) t r.now.log now.log reply
        (grows.takes_behind (was_as views.TakesBack (ap aim_of takes)) under_gone (record { closed = closed.log; closes = closes is.lsn closed is.between is.mid shut; behind = takes_alone d b r.base closed r.redo_end t turned.entry took.page last is.mid new.writer new.disk taken })))

    split_ended : (takes : ends.u.aim ≡ TakesBack) (last_too : Bool) → last_too ≡ ends_back row → SplitClosed d b r.base last_too r.now r.redo_end t ends.u.begun.change.last ends.u.begun.change.undo_next new.writer new.disk turns.Ended → IsReleased old.locks t new.locks → length old.txns.rows ≡ length (without t old.txns.rows) + 1
        → new.txns ≡ record old.txns { rows = without t old.txns.rows } → StepKept d before s v (Continue t) RolledBack old new
    split_ended takes last_too ends_is is released once table =
        let closed = is.closed in
        let shut = is.shut in
        let made_is = made_ended d b r.base last_too closed r.redo_end t is.beside is.mid new.writer new.disk is.turned in
        let turned = made_is.1 in
        let rolling = ends_rolling row back (sym ends_is ∙ made_is.0) in
        let took = turned.took in
        let taken = took.taken in
        let middle = taken.now.log in
        let to = turned.next.next in
        let rows_closed = noted t closed.log old.txns.rows in
        let gone_rows : without t rows_closed ≡ without t old.txns.rows = without_noted t (last_of t closed.log) (undo_next_of t closed.log) old.txns.rows in
        let undoes = taken_newest d b r.base closed r.redo_end t turned.entry to (Plain took.page) turned.last is.mid turned.between turned.mid taken in
        let c = change_back d b r.base closed r.redo_end t turned.entry to (Plain took.page) turned.last is.mid turned.between turned.mid taken in
        let newest = logged_at turned.end.lsn (entries.End t turned.last) in
        let longer : History = newest ∷ middle in
        let ended = ends_leave_nothing b t c closed.log middle newest undoes turned.none refl refl in
        let w = undid_last v t c in
        let shown = shows s (Continue t) (Some RolledBack) in
        let once_now : length rows_closed ≡ length (without t rows_closed) + 1 =
        length_noted (changed t (with_record (last_of t closed.log) (undo_next_of t closed.log))) old.txns.rows ∙ once ∙ ap (λ (xs : List Transaction). length xs + 1) (sym gone_rows) in
        let served = last_undone_served b r.earlier before s v closed.log middle rows_closed old.txns.next old.locks new.locks t (row_now is.lsn closed is.between is.mid shut) c newest (serving_now is.lsn closed is.between is.mid shut) (found_now is.lsn closed is.between is.mid shut) rolling undoes turned.none refl refl released once_now in
        let now = turned.end.now in
        let open_is : open_smo now.log ≡ [] = turned.end.going_on ∙ taken.going_on ∙ shut.going.can.closed in
        let running : IsRunning d b before shown w new = record {
          base = r.base;
          start = r.start;
          counted = r.counted;
          earlier = r.earlier;
          now = now;
          stands = turned.end.stands;
          redo_end = r.redo_end;
          over = turned.end.over;
          lawful = turned.end.lawful;
          changing = subst (λ (u : Option Under). IsChanging b u now.log) (sym gone) open_is;
          serving = subst (λ (x : Numbered). IsServing b r.earlier before shown w now.log x.rows x.next new.locks) (sym table)
              (subst (λ (rows : List Transaction). IsServing b r.earlier before shown w now.log rows old.txns.next new.locks) gone_rows
              (subst (λ (l : History). IsServing b r.earlier before shown w l (without t rows_closed) old.txns.next new.locks) (sym turned.end.log) served.1));
          commits = commits_stand.more r.earlier before s.asked r.now.durable now.log now.durable
              (commits_stand.stay r.earlier before s.asked r.now.durable r.now.log now.log r.commits (ap committed turned.end.log ∙ ended.back.commits ∙ same_committed is.lsn closed is.between is.mid shut))
              (record { from = front_then r.now.durable taken.now.durable now.durable (front_then r.now.durable closed.durable taken.now.durable shut.durable taken.durable) turned.end.durable; upto = turned.end.stands.writing.stands.kept.front });
          numbered = subst (λ (n : ℕ). n ≤ 2 ^ 62 → AreBelow n now.log) (sym (ap (λ (x : Numbered). x.next) table))
              (λ le. subst (λ (l : History). AreBelow old.txns.next l) (sym turned.end.log) (below, numbers_stay_new.within old.txns.next t closed.log middle below (numbers is.lsn closed is.between is.mid shut le) undoes.grows));
          same = none_now;
        } in
        step_made d before s v (Continue t) RolledBack old new w served.0 running works_on (stops_back d before s v t row old r found checked new.disk stops) tt r
        (grows.ends_behind (was_as views.TakesBack (ap aim_of takes)) (record {
          closed = closed.log;
          closes = closes is.lsn closed is.between is.mid shut;
          behind = record { between = middle; one = takes_one d b r.base closed r.redo_end t turned.entry to (Plain took.page) turned.last is.mid turned.between turned.mid taken; last = turned.last; lsn = turned.end.lsn; is = turned.end.log };
        }))

    -- ---- a deletion is closed, after which others are left

    drop_more : (took : ends.u.aim ≡ TookBack) (last_too reply : Bool) (last undo_next : ℕ) → last_too ≡ ends_back row → reply ≡ has_returned (with_record last undo_next row)
        → DropClosed d b r.base last_too r.now r.redo_end t ends.u.begun.change.last ends.u.begun.change.undo_next new.writer new.disk (turns.More last undo_next) → new.locks ≡ old.locks
        → new.txns ≡ record old.txns { rows = on_again t (map (changed t (with_record last undo_next)) old.txns.rows) } → StepKept d before s v (Continue t) (told_back reply) old new
    drop_more took last_too reply last undo_next ends_is reply_is is locks table =
        let closed = is.closed in
        let shut = is.shut in
        let went = went_more d b r.base last_too closed r.redo_end t is.lsn ends.u.begun.change.undo_next last undo_next new.writer new.disk is.went in
        let w = change_made (going_if reply t v) in
        let shown = shows s (Continue t) (Some (told_back reply)) in
        let list = on_again t (map (changed t (with_record last undo_next)) old.txns.rows) in
        let served = drop_served b r.earlier before s v r.now.log old.txns.rows old.txns.next old.locks t row r.serving found back closed.log (r.same ∙ was_as views.TookBack (ap aim_of took)) (grown is.lsn closed is.between is.mid shut) last undo_next
        (closed_last is.lsn closed is.between is.mid shut ∙ sym went.last_is) (closed_next is.lsn closed is.between is.mid shut ∙ sym went.next_is) (λ rolling. went.left (ends_is ∙ rolling_ends row rolling)) reply reply_is in
        let running : IsRunning d b before shown w new = record {
          base = r.base;
          start = r.start;
          counted = r.counted;
          earlier = r.earlier;
          now = closed;
          stands = went.stands;
          redo_end = r.redo_end;
          over = shut.going.over;
          lawful = shut.going.can.lawful;
          changing = subst (λ (u : Option Under). IsChanging b u closed.log) (sym gone) shut.going.can.closed;
          serving = subst (λ (x : Numbered). IsServing b r.earlier before shown w closed.log x.rows x.next new.locks) (sym table)
              (subst (λ (l : Table). IsServing b r.earlier before shown w closed.log list old.txns.next l) (sym locks) served.1);
          commits = subst (λ (l : List Asked). AreCommitted r.earlier before l closed.durable closed.log) (sym (back_asks reply t s))
              (commits_stand.more r.earlier before s.asked r.now.durable closed.log closed.durable (commits_stand.stay r.earlier before s.asked r.now.durable r.now.log closed.log r.commits (same_committed is.lsn closed is.between is.mid shut))
              (record { from = shut.durable; upto = went.stands.writing.stands.kept.front }));
          numbered = subst (λ (n : ℕ). n ≤ 2 ^ 62 → AreBelow n closed.log) (sym (ap (λ (x : Numbered). x.next) table)) (numbers is.lsn closed is.between is.mid shut);
          same = sym under_gone;
        } in
        step_made d before s v (Continue t) (told_back reply) old new w served.0 running works_on (stops_back d before s v t row old r found checked new.disk stops) (back_done d before shown w t reply new) r
        (back_grows b (FitsRecord old.writer.table) (under_of old.under) (under_of new.under) t r.now.log closed.log reply (grows.drops (was_as views.TookBack (ap aim_of took)) under_gone (closes is.lsn closed is.between is.mid shut)))

    drop_ended : (took : ends.u.aim ≡ TookBack) (last_too : Bool) → last_too ≡ ends_back row → DropClosed d b r.base last_too r.now r.redo_end t ends.u.begun.change.last ends.u.begun.change.undo_next new.writer new.disk turns.Ended → IsReleased old.locks t new.locks → length old.txns.rows ≡ length (without t old.txns.rows) + 1
        → new.txns ≡ record old.txns { rows = without t old.txns.rows } → StepKept d before s v (Continue t) RolledBack old new
    drop_ended took last_too ends_is is released once table =
        let closed = is.closed in
        let shut = is.shut in
        let went = went_ended d b r.base last_too closed r.redo_end t is.lsn ends.u.begun.change.undo_next new.writer new.disk is.went in
        let rolling = ends_rolling row back (sym ends_is ∙ went.0) in
        let end = went.2 in
        let newest = logged_at end.lsn (entries.End t is.lsn) in
        let longer : History = newest ∷ closed.log in
        let on = structure_changes_no_key b t r.now.log closed.log (grown is.lsn closed is.between is.mid shut) in
        let stack = ended_stack b t end.lsn is.lsn r.now.log closed.log on.stays on.others went.1 in
        let w = change_made (dropped_by v t) in
        let shown = shows s (Continue t) (Some RolledBack) in
        let served = turns_end b r.earlier before s v r.now.log longer old.txns.rows old.txns.next old.locks new.locks t row r.serving found rolling (r.same ∙ was_as views.TookBack (ap aim_of took)) (ap changes_of stack)
        (ended_stays b t end.lsn is.lsn r.now.log closed.log on.stays on.others went.1) (ended_others b t end.lsn is.lsn r.now.log closed.log on.stays on.others went.1)
        (ended_over b t end.lsn is.lsn r.now.log closed.log on.stays on.others went.1) stack released once in
        let now = end.now in
        let running : IsRunning d b before shown w new = record {
          base = r.base;
          start = r.start;
          counted = r.counted;
          earlier = r.earlier;
          now = now;
          stands = end.stands;
          redo_end = r.redo_end;
          over = end.over;
          lawful = end.can.lawful;
          changing = subst (λ (u : Option Under). IsChanging b u now.log) (sym gone) end.can.closed;
          serving = subst (λ (x : Numbered). IsServing b r.earlier before shown w now.log x.rows x.next new.locks) (sym table)
              (subst (λ (l : History). IsServing b r.earlier before shown w l (without t old.txns.rows) old.txns.next new.locks) (sym end.log) served.1);
          commits = commits_stand.more r.earlier before s.asked r.now.durable now.log now.durable
              (commits_stand.stay r.earlier before s.asked r.now.durable r.now.log now.log r.commits (ap committed end.log ∙ same_committed is.lsn closed is.between is.mid shut))
              (record { from = front_then r.now.durable closed.durable now.durable shut.durable end.durable; upto = end.stands.writing.stands.kept.front });
          numbered = subst (λ (n : ℕ). n ≤ 2 ^ 62 → AreBelow n now.log) (sym (ap (λ (x : Numbered). x.next) table))
              (λ le. subst (λ (l : History). AreBelow old.txns.next l) (sym end.log) (below, numbers is.lsn closed is.between is.mid shut le));
          same = sym under_gone;
        } in
        step_made d before s v (Continue t) RolledBack old new w served.0 running works_on (stops_back d before s v t row old r found checked new.disk stops) tt r
        (grows.ends_drop (was_as views.TookBack (ap aim_of took)) (record { closed = closed.log; closes = closes is.lsn closed is.between is.mid shut; behind = record { last = is.lsn; lsn = end.lsn; is = end.log } }))

    -- ---- one of them is closed

    pub back_more : (for_split : Bool) → ends.u.aim ≡ aim_back for_split → (last_too reply : Bool) (last undo_next : ℕ) → last_too ≡ ends_back row → reply ≡ has_returned (with_back for_split last undo_next row)
        → BackClosed d b r.base for_split last_too r.now r.redo_end t ends.u.begun.change.last ends.u.begun.change.undo_next new.writer new.disk (turns.More last undo_next)
        → new.locks ≡ old.locks → new.txns ≡ record old.txns { rows = on_again t (map (changed t (with_back for_split last undo_next)) old.txns.rows) } → StepKept d before s v (Continue t) (told_back reply) old new
    back_more true = split_more
    back_more false = drop_more

    pub back_ended : (for_split : Bool) → ends.u.aim ≡ aim_back for_split → (last_too : Bool) → last_too ≡ ends_back row → BackClosed d b r.base for_split last_too r.now r.redo_end t ends.u.begun.change.last ends.u.begun.change.undo_next new.writer new.disk turns.Ended → IsReleased old.locks t new.locks
        → length old.txns.rows ≡ length (without t old.txns.rows) + 1 → new.txns ≡ record old.txns { rows = without t old.txns.rows } → StepKept d before s v (Continue t) RolledBack old new
    back_ended true = split_ended
    back_ended false = drop_ended
