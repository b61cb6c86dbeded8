-- The exits of a Delete beside a structure change, or with one that begins.
use Rattle.std.proofs.Common.{◌≡◌, ◌≢◌, ◌⊎◌, inl, inr, ⊎_elim, ℕ, ◌≤◌, List, Bool, true, false, cond, is_some, length, Option, Some, None, Result, Ok, Err, map, refl, sym, ap, subst, ◌∙◌}
use Rattle.std.specs.Prelude.{find}
use Rattle.std.proofs.lemmas.List.{length-map}
use Rattle.im_base_types.specs.Answers as answers
use Rattle.im_base_types.specs.Answers.{Delete, Do, dropped}
use Rattle.im_base_types.specs.Changes.{Effect}
use Rattle.im_base_types.specs.Faults.{number_of}
use Rattle.im_base_types.specs.Keys.{Key}
use Rattle.im_base_types.specs.Lives.{Shown}
use Rattle.im_base_types.specs.Maps.{IndexMap}
use Rattle.im_base_types.specs.declared.fault.Fault.{Fault}
use Rattle.im_base_types.specs.declared.fault.Fault.TheVariants.{Device, Failed, LogFull, Memory, NotAStore}
use Rattle.im_base_types.specs.declared.fault.Fault.TheVariants as faults
use Rattle.im_base_disk.specs.declared.disk.Disk.{Ghosts}
use Rattle.im_base_disk.specs.Disk.{Files}
use Rattle.im_base_steps.specs.declared.reply.Blocker.TheVariants as blockers
use Rattle.im_base_steps.specs.declared.reply.Reply.{Reply}
use Rattle.im_base_steps.specs.declared.reply.Reply.TheVariants as replies
use Rattle.im_base_steps.specs.Calls.{told_by}
use Rattle.im_base_txn.specs.Rows.{is_of, changed, with_mark}
use Rattle.im_base_txn.specs.declared.transaction.Mark.TheVariants.{MustRollBack}
use Rattle.im_base_txn.specs.declared.transaction.Transaction.{Transaction}
use Rattle.im_theory_log.specs.Histories.{Base}
use Rattle.im_theory_log.specs.Structure.{settled}
use Rattle.im_theory_log.specs.Transactions.{contents}
use Rattle.im_theory_log.proofs.Fronts.{has_tree}
use Rattle.im_page_writer.specs.declared.page_writer.PageWriter.{PageWriter}
use Rattle.im_page_writer.specs.Outcome.{LogEnds, Logs, mild}
use Rattle.im_page_writer.specs.PageWriter.{Evicted}
use Rattle.im_theory_machine.specs.Locks.{Lock}
use Rattle.im_theory_machine.specs.Table.{SameLasting, SameTable, locks_of}
use Rattle.im_theory_machine.specs.View.{View, owns_in}
use Rattle.im_theory_steps.specs.Checks.{checked_by}
use Rattle.im_theory_tree.specs.Levels.{Pages}
use Rattle.im_theory_tree.specs.Theory.{page_tree}
use Rattle.im_tree_search.specs.declared.change_beside.Beside.{Beside}
use Rattle.im_tree_search.specs.declared.sight.Sight.{Sight}
use Rattle.im_tree_search.specs.declared.sight.Sight.TheVariants.{Seen, Hidden}
use Rattle.im_smo_actions.specs.declared.begun_change.BegunChange.{BegunChange}
use Rattle.im_engine_access.specs.declared.begun.Deleting.{Deleting}
use Rattle.im_engine_access.specs.declared.begun.Deleting.TheVariants.{Gone, Taken, Dropping}
use Rattle.im_engine_access.specs.declared.lock_answer.LockAnswer.{LockAnswer}
use Rattle.im_engine_access.specs.declared.lock_answer.LockAnswer.TheVariants.{Granted, Wait, Die}
use Rattle.im_engine_access.specs.Barred as barred
use Rattle.im_engine_access.specs.Barred.{Bars}
use Rattle.im_engine_access.specs.Edits.{HasOne}
use Rattle.im_theory_steps.specs.Steps.{with_made}
use Rattle.im_engine.specs.declared.engine.Engine.{Engine}
use Rattle.im_engine.specs.declared.stepped.Aim.TheVariants.{Drops}
use Rattle.im_engine.specs.declared.stepped.Under.{Under}
use Rattle.im_engine.specs.Aims.{IsBesideOf, IsSameUnder, under_of}
use Rattle.im_engine.specs.Faults.{told_as, ends_engine}
use Rattle.im_engine.specs.Kept.{StepKept}
use Rattle.im_engine.specs.Numbered.{Numbered, besides_rows}
use Rattle.im_engine.specs.Running.{IsLife, IsRunning}
use Rattle.im_engine.specs.Told.{DeleteCause, DeleteWants, IsAnswered, IsMade, fixed_of}
use Rattle.im_engine.proofs.Answered.{IsPlain, exit_made}
use Rattle.im_engine.proofs.Causes.{behind, delete_cause, not_refused_for, refused_for, refused_inj}
use Rattle.im_engine.proofs.Edited.{blocked, died, edit_refused, failed_as, unchanged}
use Rattle.im_engine_access.proofs.Deletes.{more_is_not_one}
use Rattle.im_engine.proofs.SteppedDeleting.{Below, Here, begun_made, fits, kept_here, taken_made}
use Rattle.im_engine.proofs.SteppedEdits.{by_itself, its_mark, walk_of}
use Rattle.im_engine.proofs.SteppedExits.{barred_seen, hides, paced_by}
use Rattle.im_engine.proofs.SteppedMade.{left_by_edit, tree_made}
use Rattle.im_engine.proofs.SteppedPaces.{same_under}
use Rattle.im_engine.proofs.SteppedTold.{none_under}
use Rattle.im_engine.proofs.Telling.{delete_table, late_lost, told_refused}
use Rattle.im_engine.proofs.Looked.{not_true}

-- a call that is not refused late ends as one that may be
as_late : {D : Type 0} (d : Ghosts D) (v : PageWriter) (old : D) (w : PageWriter) (new : D) → v.failed ≡ false → (f : Fault) → LogEnds d false mild v old w new (Some f) → LogEnds d true mild v old w new (Some f)
as_late d v old w new works Failed x = absurd (not_true v.failed works x.0)
as_late d v old w new works NotAStore x = record { began = x.1.began; works = x.1.works; alive = x.1.alive }
as_late d v old w new works Device x = x
as_late d v old w new works LogFull x = x
as_late d v old w new works g x = x

never_failed : {D : Type 0} (d : Ghosts D) (v : PageWriter) (old : D) (w : PageWriter) (new : D) → v.failed ≡ false → (f : Fault) → LogEnds d false mild v old w new (Some f) → f ≡ Failed → ⊥
never_failed d v old w new works f x is = let moved : LogEnds d false mild v old w new (Some Failed) = subst (λ (g : Fault). LogEnds d false mild v old w new (Some g)) is x in not_true v.failed works moved.0

module _ (pages : Pages) (m : IndexMap) (Idle : Type 0) (stepped : Bool) (held : ℕ → List Lock) (t : ℕ) (key : Key) where
  -- one that was not refused
  wants_here : (reply : Reply) → ((x : Fault) → reply ≢ replies.Refused x) → (reply ≡ replies.Deleted → HasOne pages key → ⊥) → (reply ≡ replies.More → HasOne pages key) → DeleteWants pages m Idle stepped held t key reply
  wants_here reply not keeps begun = record { fails = λ is. absurd (not faults.Failed is); at_once = λ is one. absurd (keeps is one); begun = begun }

module _ {D : Type 0} (d : Ghosts D) (t : ℕ) (key : Key) (old new : Engine D d) (works : old.failed ≡ false) (row : Transaction) (found : find (is_of t) old.txns.rows ≡ Some row) (checked : checked_by old.txns.rows (owns_in (under_of old.under) (Do t (Delete key))) (Do t (Delete key)) ≡ None)
    (beside : Beside) (told : IsBesideOf old.under beside) (fixed : fixed_of d new ≡ fixed_of d old) where
  abbrev a : answers.Access
  a = Delete key

  abbrev Kept : Result (Sight (LockAnswer Deleting)) Fault → Type 0
  Kept result = Below d t key old new row found checked beside told result

  answered : (reply : Reply) → ((x : Fault) → reply ≢ replies.Refused x) → IsAnswered d (Do t a) reply old new
  answered reply not = behind d old new.writer.log new.disk works (Do t a) reply checked (λ fault. not_refused_for d old new.writer.log new.disk works (DeleteCause d new.writer.log new.disk) reply not fault)

  module _ (o : Sight (LockAnswer Deleting)) (kept : Kept (Ok o)) (one : Logs d false mild old.writer old.disk new.writer new.disk None) (works_on : new.failed ≡ false) where
    module _ {b : Base} (before : List Effect) (s : Shown) (v : View) (r : IsRunning d b before s v old) where
      abbrev At : Sight (LockAnswer Deleting) → Type 0
      At y = Here d t key old new row found checked beside told before s v r (Ok y)

      at : (y : Sight (LockAnswer Deleting)) → o ≡ y → At y
      at y so = subst At so (kept_here d t key old new row found checked beside told before s v r (Ok o) kept)

      walk_now : v.walk ≡ contents b r.now.log
      walk_now = walk_of d t a old row found checked before s v r

      off : (x : LockAnswer Deleting) → o ≡ Seen x → Bars (settled b r.now.log) beside a v.walk → ⊥
      off x so bars = barred_seen o x so ((at o refl).first (subst (λ (m : IndexMap). Bars (settled b r.now.log) beside a m) walk_now bars))

    -- ---- seen, with no structure change begun

    module _ (same : new.under ≡ old.under) where
      stays_under : IsSameUnder old.under new.under
      stays_under = subst (λ (x : Option Under). IsSameUnder old.under x) (sym same) (same_under old.under)

      seen_made : (x : LockAnswer Deleting) → o ≡ Seen x → (reply : Reply) → IsPlain d t a old new reply → besides_rows new.txns ≡ besides_rows old.txns → length new.txns.rows ≡ length old.txns.rows → ((y : Fault) → reply ≢ replies.Refused y) → (told_by reply ≢ answers.BlockedTree)
          → (reply ≢ replies.More) → ((b : Base) (before : List Effect) (s : Shown) (v : View) (r : IsRunning d b before s v old) → reply ≡ replies.Deleted → HasOne (settled b r.now.log) key → ⊥)
          → ((before : List Effect) (s : Shown) (v : View) → IsLife d before s v old → StepKept d before s v (Do t a) (told_by reply) old new) → IsMade d (Do t a) reply old new
      seen_made x so reply plain rest rows not unblocked no_more keeps kept_as =
          exit_made d t a old new (λ none. absurd (none tt)) works fixed reply plain rest rows works_on one.ends.alive one.frames kept_as (answered reply not)
          (paced_by d t a old new checked beside told reply (λ clash. absurd (unblocked clash)) (λ b before s v r bars. absurd (off before s v r x so bars)) (λ b before s v r. inl stays_under))
          (λ b before s v r. wants_here (settled b r.now.log) v.walk (Evicted d b r.base r.now old.disk new.writer new.disk) old.stepped (locks_of old.locks) t key reply not (keeps b before s v r) (λ is. absurd (no_more is)))

      -- the key is not there
      pub made_gone : o ≡ Seen (Granted Gone) → new.txns ≡ old.txns → IsMade d (Do t a) replies.Absent old new
      made_gone so table =
          seen_made (Granted Gone) so replies.Absent (record { stays = λ k. refl; late = refl; answered = refl; number = tt; suits = refl; at_once = λ _. refl; grouped = tt }) (ap besides_rows table) (ap (λ (z : Numbered). length z.rows) table)
          (λ y e. cc e) (λ e. (let clash : answers.Absent ≡ answers.BlockedTree = e in cc clash)) (λ e. cc e) (λ b before s v r e. absurd (cc e))
          (λ before s v life.
          let r = (life.running works).1 in
          let is = at before s v r (Seen (Granted Gone)) so in
          unchanged d before s v old r t row found (its_mark d t a old row found checked) (by_itself d t a old row found checked before s v r) a new is.stops (fits d t key old new row found checked beside told) same
          (ap (dropped key) is.sound.1.0) is.sound.0 is.sound.1.1 answers.Absent (ap (λ (y : Option ℕ). cond (is_some y) answers.Deleted answers.Absent) is.sound.1.0) table works_on)

      -- it went
      pub made_taken : (lsn : ℕ) → o ≡ Seen (Granted (Taken lsn)) → new.txns ≡ record old.txns { rows = map (changed t (with_made lsn)) old.txns.rows } → IsMade d (Do t a) replies.Deleted old new
      made_taken lsn so table =
          seen_made (Granted (Taken lsn)) so replies.Deleted (record { stays = λ k. refl; late = refl; answered = refl; number = tt; suits = refl; at_once = λ _. refl; grouped = tt }) (ap besides_rows table)
          (ap (λ (z : Numbered). length z.rows) table ∙ length-map old.txns.rows (changed t (with_made lsn)))
          (λ y e. cc e) (λ e. (let clash : answers.Deleted ≡ answers.BlockedTree = e in cc clash)) (λ e. cc e)
          (λ b before s v r e only. more_is_not_one (settled b r.now.log) key (has_tree b page_tree r.now.log r.lawful).good (at before s v r (Seen (Granted (Taken lsn))) so).sound.1.more only)
          (λ before s v life.
          let r = (life.running works).1 in
          let is = at before s v r (Seen (Granted (Taken lsn))) so in
          taken_made d t key old new row found checked beside told before s v r lsn is.sound.1 is.sound.0 same is.stops table works_on)

      -- it has to wait
      pub made_waits : (holder : ℕ) → o ≡ Seen (Wait holder) → new.txns ≡ old.txns → IsMade d (Do t a) (replies.Blocked (blockers.Lock holder)) old new
      made_waits holder so table =
          seen_made (Wait holder) so (replies.Blocked (blockers.Lock holder)) (record { stays = λ k. refl; late = refl; answered = refl; number = tt; suits = refl; at_once = λ _. refl; grouped = tt }) (ap besides_rows table) (ap (λ (z : Numbered). length z.rows) table)
          (λ y e. cc e) (λ e. (let clash : answers.Blocked holder ≡ answers.BlockedTree = e in cc clash)) (λ e. cc e) (λ b before s v r e. absurd (cc e))
          (λ before s v life.
          let r = (life.running works).1 in
          let is = at before s v r (Seen (Wait holder)) so in
          blocked d before s v old r t row found (its_mark d t a old row found checked) (by_itself d t a old row found checked before s v r) a new is.stops (fits d t key old new row found checked beside told) same holder is.sound.0 is.sound.1 table works_on)

      -- its transaction must die
      pub made_dies : o ≡ Seen Die → new.txns ≡ record old.txns { rows = map (changed t (with_mark MustRollBack)) old.txns.rows } → IsMade d (Do t a) replies.Die old new
      made_dies so table =
          seen_made Die so replies.Die (record { stays = λ k. refl; late = refl; answered = refl; number = tt; suits = refl; at_once = λ _. refl; grouped = tt }) (ap besides_rows table)
          (ap (λ (z : Numbered). length z.rows) table ∙ length-map old.txns.rows (changed t (with_mark MustRollBack)))
          (λ y e. cc e) (λ e. (let clash : answers.Die ≡ answers.BlockedTree = e in cc clash)) (λ e. cc e) (λ b before s v r e. absurd (cc e))
          (λ before s v life.
          let r = (life.running works).1 in
          let is = at before s v r (Seen Die) so in
          died d before s v old r t row found (its_mark d t a old row found checked) (by_itself d t a old row found checked before s v r) a new is.stops (fits d t key old new row found checked beside told) same is.sound.0 is.sound.1 table works_on)

      cause : {b : Base} (before : List Effect) (s : Shown) (v : View) (r : IsRunning d b before s v old) → o ≡ Hidden → barred.TreeCause (settled b r.now.log) beside a v.walk
      cause {b} before s v r so = subst (λ (m : IndexMap). barred.TreeCause (settled b r.now.log) beside a m) (sym (walk_now before s v r)) (at before s v r Hidden so).sound.0

      -- the structure change of another stands in its way
      pub made_hidden : o ≡ Hidden → new.txns ≡ old.txns → IsMade d (Do t a) (replies.Blocked blockers.Tree) old new
      made_hidden so table =
          exit_made d t a old new (λ none. absurd (none tt)) works fixed (replies.Blocked blockers.Tree) (record { stays = λ k. refl; late = refl; answered = refl; number = tt; suits = refl; at_once = λ _. refl; grouped = tt }) (ap besides_rows table) (ap (λ (z : Numbered). length z.rows) table)
          works_on one.ends.alive one.frames
          (λ before s v life.
          let r = (life.running works).1 in
          let is = at before s v r Hidden so in
          let by = hides d t a old new checked beside told before s v r (cause before s v r so) in
          tree_made d t a old checked before s v r new same is.sound.2 (left_by_edit d before s v old r t new.disk is.stops) works_on by.0 by.1 is.sound.1 table)
          (answered (replies.Blocked blockers.Tree) (λ y e. cc e))
          (paced_by d t a old new checked beside told (replies.Blocked blockers.Tree) (λ is b before s v r. (hides d t a old new checked beside told before s v r (cause before s v r so)).2) (λ b before s v r bars. inl refl) (λ b before s v r. inl stays_under))
          (λ b before s v r. wants_here (settled b r.now.log) v.walk (Evicted d b r.base r.now old.disk new.writer new.disk) old.stepped (locks_of old.locks) t key (replies.Blocked blockers.Tree) (λ y e. cc e) (λ e. absurd (cc e)) (λ e. absurd (cc e)))

    -- ---- a structure change begins

    pub made_begun : (stepped : old.stepped ≡ true) (begun : BegunChange) → o ≡ Seen (Granted (Dropping begun)) → new.under ≡ Some (record { begun = begun; aim = Drops key })
        → new.txns ≡ record old.txns { rows = map (changed t (with_made begun.change.last)) old.txns.rows } → IsMade d (Do t a) replies.More old new
    made_begun stepped begun so under table =
        exit_made d t a old new (λ none. absurd (none tt)) works fixed replies.More
        (record { stays = λ k. refl; late = refl; answered = refl; number = tt; suits = refl; at_once = λ plain. absurd (let clash : true ≡ false = sym stepped ∙ plain in cc clash); grouped = tt }) (ap besides_rows table)
        (ap (λ (z : Numbered). length z.rows) table ∙ length-map old.txns.rows (changed t (with_made begun.change.last))) works_on one.ends.alive one.frames
        (λ before s v life.
        let r = (life.running works).1 in
        let is = at before s v r (Seen (Granted (Dropping begun))) so in
        begun_made d t key old new row found checked beside told before s v r begun is.sound.1 is.sound.0 under is.stops table works_on)
        (answered replies.More (λ y e. cc e))
        (paced_by d t a old new checked beside told replies.More (λ clash. absurd (let never : answers.More ≡ answers.BlockedTree = clash in cc never)) (λ b before s v r bars. absurd (off before s v r (Granted (Dropping begun)) so bars))
        (λ b before s v r. inr (none_under old.under beside told (at before s v r (Seen (Granted (Dropping begun))) so).sound.1.alone, stepped, refl, ap is_some under)))
        (λ b before s v r.
        wants_here (settled b r.now.log) v.walk (Evicted d b r.base r.now old.disk new.writer new.disk) old.stepped (locks_of old.locks) t key replies.More (λ y e. cc e) (λ e. absurd (cc e)) (λ _. (at before s v r (Seen (Granted (Dropping begun))) so).sound.1.one))

  -- ---- a call below refused it

  module _ (f : Fault) (kept : Kept (Err f)) (one : Logs d false mild old.writer old.disk new.writer new.disk (Some f)) (same : new.under ≡ old.under) (table : new.txns ≡ old.txns) where
    refused_at : {b : Base} (before : List Effect) (s : Shown) (v : View) (r : IsRunning d b before s v old) → Here d t key old new row found checked beside told before s v r (Err f)
    refused_at before s v r = kept_here d t key old new row found checked beside told before s v r (Err f) kept

    ends : LogEnds d true mild old.writer old.disk new.writer new.disk (Some f)
    ends = as_late d old.writer old.disk new.writer new.disk (old.working works) f one.ends

    pub made_refused : ((u : ℕ) (c : Files) → u ≤ d.moment new.disk → d.may_leave new.disk c → d.left_since new.disk u c) → new.failed ≡ ends_engine f → (f ≡ Memory → SameTable old.locks new.locks) → (f ≡ Memory → SameLasting old.locks new.locks)
        → (said : Fault) → said ≡ told_as f → IsMade d (Do t a) (replies.Refused said) old new
    made_refused counts_now fails locks lasting said so = record {
      kept = λ before s v life.
          let r = (life.running works).1 in
          edit_refused d before s v t a old new life works checked counts_now f refl ends (left_by_edit d before s v old r t new.disk (refused_at before s v r).stops) (refused_at before s v r).sound fails table (λ is. (locks is, lasting is)) said so same;
      told = told_refused d old new works (ap besides_rows table) fixed f said so fails table (delete_table d old.writer old.disk new.writer new.disk f ends old.locks new.locks locks) (λ lost. late_lost d old.writer old.disk new.writer new.disk lost mild f ends);
      answered = behind d old new.writer.log new.disk works (Do t a) (replies.Refused said) checked (λ fault. refused_for d old new.writer.log new.disk works (DeleteCause d new.writer.log new.disk) f said so (delete_cause d old.writer old.disk new.writer new.disk f ends) fault);
      suits = tt;
      at_once = λ _. tt;
      paced = paced_by d t a old new checked beside told (replies.Refused said) (λ clash. absurd (let never : answers.Refused (number_of said) ≡ answers.BlockedTree = clash in cc never))
          (λ b before s v r bars. inr (barred_off b before s v r bars)) (λ b before s v r. inl (subst (λ (x : Option Under). IsSameUnder old.under x) (sym same) (same_under old.under)));
      grouped = tt;
      frames = one.frames;
      wants = λ b before s v r. record {
        fails = λ is. absurd (never_failed d old.writer old.disk new.writer new.disk (old.working works) f one.ends (failed_as d old.writer old.disk new.writer new.disk f ends (sym so ∙ refused_inj said faults.Failed is)));
        at_once = λ clash. absurd (cc clash);
        begun = λ clash. absurd (cc clash);
      };
      quiet = λ none. absurd (none tt);
      costs = tt;
    }
      where
        barred_off : (b : Base) (before : List Effect) (s : Shown) (v : View) (r : IsRunning d b before s v old) → Bars (settled b r.now.log) beside a v.walk → (replies.Refused said ≡ replies.Refused Device) ⊎ (replies.Refused said ≡ replies.Refused LogFull)
        barred_off b before s v r bars =
            let off = ((refused_at before s v r).first (subst (λ (m : IndexMap). Bars (settled b r.now.log) beside a m) (walk_of d t a old row found checked before s v r) bars)).1 in
            ⊎_elim (λ lost. inl (ap replies.Refused (so ∙ ap told_as lost))) (λ full. inr (ap replies.Refused (so ∙ ap told_as full))) off
