-- The exits of an Insert beside a structure change, or with one that begins.
use Rattle.std.proofs.Common.{◌≡◌, ◌≢◌, ◌⊎◌, inl, inr, ⊎_elim, ℕ, ◌≤◌, List, [], ◌∷◌, Bool, true, false, cond, is_some, length, Option, Some, None, Result, Ok, Err, map, refl, sym, ap, subst, ◌∙◌}
use Rattle.std.specs.Prelude.{find}
use Rattle.std.specs.FinMap.{get}
use Rattle.std.proofs.lemmas.List.{length-map}
use Rattle.im_base_types.specs.Answers as answers
use Rattle.im_base_types.specs.Answers.{Insert, Do}
use Rattle.im_base_types.specs.Changes.{Effect, Put}
use Rattle.im_base_types.specs.Faults.{number_of}
use Rattle.im_base_types.specs.Keys.{Key}
use Rattle.im_base_types.specs.Lives.{Shown}
use Rattle.im_base_types.specs.Maps.{IndexMap}
use Rattle.im_base_types.specs.declared.fault.Fault.{Fault}
use Rattle.im_base_types.specs.declared.fault.Fault.TheVariants.{Capacity, Device, Failed, LogFull, Memory, PagesFull}
use Rattle.im_base_types.specs.declared.fault.Fault.TheVariants as faults
use Rattle.im_base_disk.specs.declared.disk.Disk.{Ghosts}
use Rattle.im_base_disk.specs.Disk.{Files}
use Rattle.im_base_disk.specs.Runs.{LeavesOnly}
use Rattle.im_base_steps.specs.declared.reply.Blocker.TheVariants as blockers
use Rattle.im_base_steps.specs.declared.reply.Reply.{Reply}
use Rattle.im_base_steps.specs.declared.reply.Reply.TheVariants as replies
use Rattle.im_base_steps.specs.Calls.{told_by}
use Rattle.im_base_txn.specs.Rows.{is_of, changed, with_mark, with_record}
use Rattle.im_base_txn.specs.declared.transaction.Mark.TheVariants.{MustRollBack}
use Rattle.im_base_txn.specs.declared.transaction.Transaction.{Transaction}
use Rattle.im_theory_log.specs.Histories.{Base}
use Rattle.im_theory_log.specs.Structure.{settled}
use Rattle.im_theory_log.specs.Transactions.{contents}
use Rattle.im_theory_log.proofs.Fronts.{has_tree}
use Rattle.im_page_writer.specs.Outcome.{Logs}
use Rattle.im_page_writer.specs.PageWriter.{Evicted}
use Rattle.im_theory_machine.specs.Changing.{asked_begun}
use Rattle.im_theory_machine.specs.Locks.{At as Named, IsFree, Lock}
use Rattle.im_theory_machine.specs.Locks as locks
use Rattle.im_theory_machine.specs.declared.lock_kind.Mode.TheVariants.{Exclusive}
use Rattle.im_theory_machine.specs.declared.lock_kind.Duration.TheVariants.{Instant, ToCommit}
use Rattle.im_theory_machine.specs.Rows.{asked, next_name, shared}
use Rattle.im_theory_machine.specs.Table.{SameLasting, SameTable, locks_of}
use Rattle.im_theory_machine.specs.View.{View, owns_in}
use Rattle.im_theory_steps.specs.Checks.{checked_by}
use Rattle.im_theory_tree.specs.Levels.{Pages}
use Rattle.im_theory_tree.specs.Theory.{page_tree}
use Rattle.im_tree_search.specs.declared.change_beside.Beside.{Beside}
use Rattle.im_tree_search.specs.declared.sight.Sight.{Sight}
use Rattle.im_tree_search.specs.declared.sight.Sight.TheVariants.{Seen, Hidden}
use Rattle.im_smo_split.specs.Kept.{mild_to_split}
use Rattle.im_smo_split.specs.Plan.{IsWithin}
use Rattle.im_smo_split.specs.Tops.{LacksRoomFor}
use Rattle.im_smo_actions.specs.declared.begun_change.BegunChange.{BegunChange}
use Rattle.im_engine_access.specs.declared.begun.Inserting.{Inserting}
use Rattle.im_engine_access.specs.declared.begun.Inserting.TheVariants.{There, Put as PutIn, Split}
use Rattle.im_engine_access.specs.declared.lock_answer.LockAnswer.{LockAnswer}
use Rattle.im_engine_access.specs.declared.lock_answer.LockAnswer.TheVariants.{Granted, Wait, Die}
use Rattle.im_engine_access.specs.Barred as barred
use Rattle.im_engine_access.specs.Barred.{Bars}
use Rattle.im_engine_access.specs.Edits.{IsLimited}
use Rattle.im_theory_steps.specs.Steps.{with_made}
use Rattle.im_engine.specs.declared.engine.Engine.{Engine}
use Rattle.im_engine.specs.declared.stepped.Aim.TheVariants.{Puts}
use Rattle.im_engine.specs.declared.stepped.Under.{Under}
use Rattle.im_engine.specs.Aims.{IsBesideOf, IsSameUnder, under_of}
use Rattle.im_engine.specs.Faults.{told_as, ends_engine}
use Rattle.im_engine.specs.Kept.{StepKept}
use Rattle.im_engine.specs.Numbered.{Numbered, besides_rows}
use Rattle.im_engine.specs.Running.{IsLife, IsRunning}
use Rattle.im_engine.specs.Stands.{Allowed}
use Rattle.im_engine.specs.Told.{AsksChange, InsertWants, IsMade, fixed_of, wants_memory, wants_numbers, wants_pages}
use Rattle.im_engine.proofs.Answered.{IsPlain, exit_made}
use Rattle.im_engine.proofs.Causes.{insert_cause, refused_inj}
use Rattle.im_engine.proofs.Edited.{blocked, died, unchanged}
use Rattle.im_engine.proofs.Inserting.{failed_is, full_is, insert_answered, insert_not_answered, insert_stopped, used_up_is}
use Rattle.im_engine.proofs.SteppedEdits.{by_itself, its_mark, walk_of}
use Rattle.im_engine.proofs.SteppedExits.{barred_seen, hides, paced_by}
use Rattle.im_engine.proofs.SteppedInserting.{Below, Here, begun_made, fits, kept_here, put_made, room_is_had, stopped}
use Rattle.im_engine.proofs.SteppedMade.{tree_made}
use Rattle.im_engine.proofs.SteppedPaces.{same_under}
use Rattle.im_engine.proofs.SteppedTold.{none_under}
use Rattle.im_engine.proofs.Telling.{late_lost, told_refused}

-- what an Insert asks that ends later is what one asks that ends at once
asks_begun : (k : Key) (i : ℕ) (w : IndexMap) → get w k ≡ None → (f : ℕ → List Lock) (t : ℕ) → IsFree f t (asked_begun k w) → IsFree f t (asked (Insert k i) w)
asks_begun k i w absent f t free s p = free s (record {
  name = p.name;
  mode = p.mode;
  theirs = p.theirs;
  other = p.other;
  ask = subst (λ (o : Option ℕ). locks.Asks (cond (is_some o) (shared (Named k) ∷ []) (record { name = next_name w k; mode = Exclusive; duration = Instant } ∷ record { name = Named k; mode = Exclusive; duration = ToCommit } ∷ [])) p.name p.mode → locks.Asks (asked_begun k w) p.name p.mode) (sym absent) (λ q. q) p.ask;
  held = p.held;
  exclusive = p.exclusive;
})

-- ---- what it wants

module _ (pages : Pages) (m : IndexMap) (Idle : Type 0) (stepped : Bool) (held : ℕ → List Lock) (dense : Bool) (max t : ℕ) (key : Key) (rid : ℕ) where
  -- one that was not refused
  wants_here : (reply : Reply) → ((x : Fault) → reply ≢ replies.Refused x) → (told_by reply ≢ answers.BlockedTree → get m key ≡ None → IsLimited dense pages key max) → (reply ≡ replies.Inserted → LacksRoomFor pages key → ⊥) → (reply ≡ replies.More → LacksRoomFor pages key × IsWithin dense pages key max)
      → InsertWants pages m Idle stepped held dense max t key rid reply
  wants_here reply not limited fits begun = record {
    made = λ is lacks. absurd (fits is lacks);
    at_once = λ is lacks. absurd (fits is lacks);
    begun = begun;
    limited = λ none other. limited other;
    full = λ is. absurd (not faults.PagesFull is);
    used_up = λ is. absurd (not faults.Capacity is);
    granted = λ is. ⊎_elim (λ numbers. absurd (not faults.Capacity numbers)) (λ memory. absurd (not faults.Failed memory)) is;
    absent = asks;
    broken = λ is. absurd (not faults.Failed is);
  }
    where
      asks : AsksChange reply → get m key ≡ None
      asks (wants_pages is) = absurd (not faults.PagesFull is)
      asks (wants_numbers is) = absurd (not faults.Capacity is)
      asks (wants_memory is) = absurd (not faults.Failed is)

module _ {D : Type 0} (d : Ghosts D) (t : ℕ) (key : Key) (rid : ℕ) (old new : Engine D d) (works : old.failed ≡ false) (row : Transaction) (found : find (is_of t) old.txns.rows ≡ Some row) (checked : checked_by old.txns.rows (owns_in (under_of old.under) (Do t (Insert key rid))) (Do t (Insert key rid)) ≡ None)
    (beside : Beside) (told : IsBesideOf old.under beside) (fixed : fixed_of d new ≡ fixed_of d old) where
  abbrev a : answers.Access
  a = Insert key rid

  abbrev Kept : Result (Sight (LockAnswer Inserting)) Fault → Type 0
  Kept result = Below d t key rid old new row found checked beside told result

  module _ (o : Sight (LockAnswer Inserting)) (kept : Kept (Ok o)) (one : Logs d true (mild_to_split (Some old.max_pages)) old.writer old.disk new.writer new.disk None) (works_on : new.failed ≡ false) where
    module _ {b : Base} (before : List Effect) (s : Shown) (v : View) (r : IsRunning d b before s v old) where
      abbrev At : Sight (LockAnswer Inserting) → Type 0
      At y = Here d t key rid old new row found checked beside told before s v r (Ok y)

      at : (y : Sight (LockAnswer Inserting)) → o ≡ y → At y
      at y so = subst At so (kept_here d t key rid old new row found checked beside told before s v r (Ok o) kept)

      at_first : At o
      at_first = at o refl

      walk_now : v.walk ≡ contents b r.now.log
      walk_now = walk_of d t a old row found checked before s v r

      ended : LeavesOnly d old.disk new.disk (Allowed before s)
      ended = stopped d t key rid old new row found checked beside told before s v r at_first.stops

      -- what is said of pages where it was seen
      within : (x : LockAnswer Inserting) → o ≡ Seen x → get v.walk key ≡ None → IsLimited old.dense (settled b r.now.log) key old.max_pages
      within x so none = (at (Seen x) so).limited (sym (ap (λ (m : IndexMap). get m key) walk_now) ∙ none)

      -- and where it is barred
      off : (x : LockAnswer Inserting) → o ≡ Seen x → Bars (settled b r.now.log) beside a v.walk → ⊥
      off x so bars = barred_seen o x so (at_first.first (subst (λ (m : IndexMap). Bars (settled b r.now.log) beside a m) walk_now bars))

    -- ---- seen, with nothing changed

    module _ (same : new.under ≡ old.under) where
      stays_under : IsSameUnder old.under new.under
      stays_under = subst (λ (x : Option Under). IsSameUnder old.under x) (sym same) (same_under old.under)

      seen_made : (x : LockAnswer Inserting) → o ≡ Seen x → (reply : Reply) → IsPlain d t a old new reply → besides_rows new.txns ≡ besides_rows old.txns → length new.txns.rows ≡ length old.txns.rows → ((y : Fault) → reply ≢ replies.Refused y) → (told_by reply ≢ answers.BlockedTree)
          → (reply ≢ replies.More) → ((b : Base) (before : List Effect) (s : Shown) (v : View) (r : IsRunning d b before s v old) → reply ≡ replies.Inserted → LacksRoomFor (settled b r.now.log) key → ⊥)
          → ((before : List Effect) (s : Shown) (v : View) → IsLife d before s v old → StepKept d before s v (Do t a) (told_by reply) old new) → IsMade d (Do t a) reply old new
      seen_made x so reply plain rest rows not unblocked no_more fits_in kept_as =
          exit_made d t a old new (λ none. absurd (none tt)) works fixed reply plain rest rows works_on one.ends.alive one.frames kept_as
          (insert_answered d old new.writer.log new.disk works t key rid checked reply not)
          (paced_by d t a old new checked beside told reply (λ clash. absurd (unblocked clash)) (λ b before s v r bars. absurd (off before s v r x so bars)) (λ b before s v r. inl stays_under))
          (λ b before s v r. wants_here (settled b r.now.log) v.walk (Evicted d b r.base r.now old.disk new.writer new.disk) old.stepped (locks_of old.locks) old.dense old.max_pages t key rid reply not (λ other. within before s v r x so) (fits_in b before s v r) (λ is. absurd (no_more is)))

      -- the key is there
      pub made_there : o ≡ Seen (Granted There) → new.txns ≡ old.txns → IsMade d (Do t a) replies.Duplicate old new
      made_there so table =
          seen_made (Granted There) so replies.Duplicate (record { stays = λ k. refl; late = refl; answered = refl; number = tt; suits = refl; at_once = λ _. refl; grouped = tt }) (ap besides_rows table) (ap (λ (z : Numbered). length z.rows) table)
          (λ y e. cc e) (λ e. (let clash : answers.Duplicate ≡ answers.BlockedTree = e in cc clash)) (λ e. cc e) (λ b before s v r e. absurd (cc e))
          (λ before s v life.
          let r = (life.running works).1 in
          let is = at before s v r (Seen (Granted There)) so in
          unchanged d before s v old r t row found (its_mark d t a old row found checked) (by_itself d t a old row found checked before s v r) a new is.stops (fits d t key rid old new row found checked beside told) same
          (ap (λ (y : Option ℕ). cond (is_some y) [] (Put key rid ∷ [])) is.sound.1.1) is.sound.0 is.sound.1.2 answers.Duplicate (ap (λ (y : Option ℕ). cond (is_some y) answers.Duplicate answers.Inserted) is.sound.1.1) table works_on)

      -- it came
      pub made_put : (lsn : ℕ) → o ≡ Seen (Granted (PutIn lsn)) → new.txns ≡ record old.txns { rows = map (changed t (with_made lsn)) old.txns.rows } → IsMade d (Do t a) replies.Inserted old new
      made_put lsn so table =
          seen_made (Granted (PutIn lsn)) so replies.Inserted (record { stays = λ k. refl; late = refl; answered = refl; number = tt; suits = refl; at_once = λ _. refl; grouped = tt }) (ap besides_rows table)
          (ap (λ (z : Numbered). length z.rows) table ∙ length-map old.txns.rows (changed t (with_made lsn)))
          (λ y e. cc e) (λ e. (let clash : answers.Inserted ≡ answers.BlockedTree = e in cc clash)) (λ e. cc e)
          (λ b before s v r e lacks. room_is_had (settled b r.now.log) key (has_tree b page_tree r.now.log r.lawful).good (at before s v r (Seen (Granted (PutIn lsn))) so).sound.1.room lacks)
          (λ before s v life.
          let r = (life.running works).1 in
          let is = at before s v r (Seen (Granted (PutIn lsn))) so in
          put_made d t key rid old new row found checked beside told before s v r lsn is.sound.1 is.sound.0 same is.stops table works_on)

      -- it has to wait
      pub made_waits : (holder : ℕ) → o ≡ Seen (Wait holder) → new.txns ≡ old.txns → IsMade d (Do t a) (replies.Blocked (blockers.Lock holder)) old new
      made_waits holder so table =
          seen_made (Wait holder) so (replies.Blocked (blockers.Lock holder)) (record { stays = λ k. refl; late = refl; answered = refl; number = tt; suits = refl; at_once = λ _. refl; grouped = tt }) (ap besides_rows table) (ap (λ (z : Numbered). length z.rows) table)
          (λ y e. cc e) (λ e. (let clash : answers.Blocked holder ≡ answers.BlockedTree = e in cc clash)) (λ e. cc e) (λ b before s v r e. absurd (cc e))
          (λ before s v life.
          let r = (life.running works).1 in
          let is = at before s v r (Seen (Wait holder)) so in
          blocked d before s v old r t row found (its_mark d t a old row found checked) (by_itself d t a old row found checked before s v r) a new is.stops (fits d t key rid old new row found checked beside told) same holder is.sound.0 is.sound.1 table works_on)

      -- its transaction must die
      pub made_dies : o ≡ Seen Die → new.txns ≡ record old.txns { rows = map (changed t (with_mark MustRollBack)) old.txns.rows } → IsMade d (Do t a) replies.Die old new
      made_dies so table =
          seen_made Die so replies.Die (record { stays = λ k. refl; late = refl; answered = refl; number = tt; suits = refl; at_once = λ _. refl; grouped = tt }) (ap besides_rows table)
          (ap (λ (z : Numbered). length z.rows) table ∙ length-map old.txns.rows (changed t (with_mark MustRollBack)))
          (λ y e. cc e) (λ e. (let clash : answers.Die ≡ answers.BlockedTree = e in cc clash)) (λ e. cc e) (λ b before s v r e. absurd (cc e))
          (λ before s v life.
          let r = (life.running works).1 in
          let is = at before s v r (Seen Die) so in
          died d before s v old r t row found (its_mark d t a old row found checked) (by_itself d t a old row found checked before s v r) a new is.stops (fits d t key rid old new row found checked beside told) same is.sound.0 is.sound.1 table works_on)

      -- the structure change of another stands in its way
      pub made_hidden : o ≡ Hidden → new.txns ≡ old.txns → IsMade d (Do t a) (replies.Blocked blockers.Tree) old new
      made_hidden so table =
          exit_made d t a old new (λ none. absurd (none tt)) works fixed (replies.Blocked blockers.Tree) (record { stays = λ k. refl; late = refl; answered = refl; number = tt; suits = refl; at_once = λ _. refl; grouped = tt }) (ap besides_rows table) (ap (λ (z : Numbered). length z.rows) table)
          works_on one.ends.alive one.frames
          (λ before s v life.
          let r = (life.running works).1 in
          let is = at before s v r Hidden so in
          let by = hides d t a old new checked beside told before s v r (cause before s v r so) in
          tree_made d t a old checked before s v r new same is.sound.2 (ended before s v r) works_on by.0 by.1 is.sound.1 table)
          (insert_answered d old new.writer.log new.disk works t key rid checked (replies.Blocked blockers.Tree) (λ y e. cc e))
          (paced_by d t a old new checked beside told (replies.Blocked blockers.Tree) (λ is b before s v r. (hides d t a old new checked beside told before s v r (cause before s v r so)).2) (λ b before s v r bars. inl refl) (λ b before s v r. inl stays_under))
          (λ b before s v r. wants_here (settled b r.now.log) v.walk (Evicted d b r.base r.now old.disk new.writer new.disk) old.stepped (locks_of old.locks) old.dense old.max_pages t key rid (replies.Blocked blockers.Tree) (λ y e. cc e) (λ other. absurd (other refl)) (λ e. absurd (cc e)) (λ e. absurd (cc e)))
        where
          cause : {b : Base} (before : List Effect) (s : Shown) (v : View) (r : IsRunning d b before s v old) → o ≡ Hidden → barred.TreeCause (settled b r.now.log) beside a v.walk
          cause {b} before s v r so = subst (λ (m : IndexMap). barred.TreeCause (settled b r.now.log) beside a m) (sym (walk_now before s v r)) (at before s v r Hidden so).sound.0

    -- ---- a structure change begins

    pub made_begun : (stepped : old.stepped ≡ true) (begun : BegunChange) (leaf : ℕ) → o ≡ Seen (Granted (Split begun leaf)) → new.under ≡ Some (record { begun = begun; aim = Puts key rid leaf })
        → new.txns ≡ record old.txns { rows = map (changed t (with_record begun.change.last begun.change.last)) old.txns.rows } → IsMade d (Do t a) replies.More old new
    made_begun stepped begun leaf so under table =
        exit_made d t a old new (λ none. absurd (none tt)) works fixed replies.More
        (record { stays = λ k. refl; late = refl; answered = refl; number = tt; suits = refl; at_once = λ plain. absurd (let clash : true ≡ false = sym stepped ∙ plain in cc clash); grouped = tt }) (ap besides_rows table)
        (ap (λ (z : Numbered). length z.rows) table ∙ length-map old.txns.rows (changed t (with_record begun.change.last begun.change.last))) works_on one.ends.alive one.frames
        (λ before s v life.
        let r = (life.running works).1 in
        let is = at before s v r (Seen (Granted (Split begun leaf))) so in
        begun_made d t key rid old new row found checked beside told before s v r begun leaf is.sound.1 is.sound.0 under is.stops table works_on)
        (insert_answered d old new.writer.log new.disk works t key rid checked replies.More (λ y e. cc e))
        (paced_by d t a old new checked beside told replies.More (λ clash. absurd (let never : answers.More ≡ answers.BlockedTree = clash in cc never)) (λ b before s v r bars. absurd (off before s v r (Granted (Split begun leaf)) so bars))
        (λ b before s v r. inr (none_under old.under beside told (at before s v r (Seen (Granted (Split begun leaf))) so).sound.1.alone, stepped, refl, ap is_some under)))
        (λ b before s v r.
        let is = (at before s v r (Seen (Granted (Split begun leaf))) so).sound.1 in
        wants_here (settled b r.now.log) v.walk (Evicted d b r.base r.now old.disk new.writer new.disk) old.stepped (locks_of old.locks) old.dense old.max_pages t key rid replies.More (λ y e. cc e) (λ other. within before s v r (Granted (Split begun leaf)) so) (λ e. absurd (cc e)) (λ _. (is.lacks, is.within)))

  -- ---- a call below refused it

  module _ (f : Fault) (kept : Kept (Err f)) (one : Logs d true (mild_to_split (Some old.max_pages)) old.writer old.disk new.writer new.disk (Some f)) (same : new.under ≡ old.under) (table : new.txns ≡ old.txns) where
    module _ {b : Base} (before : List Effect) (s : Shown) (v : View) (r : IsRunning d b before s v old) where
      refused_at : Here d t key rid old new row found checked beside told before s v r (Err f)
      refused_at = kept_here d t key rid old new row found checked beside told before s v r (Err f) kept

      walk_then : v.walk ≡ contents b r.now.log
      walk_then = walk_of d t a old row found checked before s v r

      refused_wants : (said : Fault) → said ≡ told_as f → InsertWants (settled b r.now.log) v.walk (Evicted d b r.base r.now old.disk new.writer new.disk) old.stepped (locks_of old.locks) old.dense old.max_pages t key rid (replies.Refused said)
      refused_wants said so = record {
        made = λ clash lacks. absurd (cc clash);
        at_once = λ clash lacks. absurd (cc clash);
        begun = λ clash. absurd (cc clash);
        limited = λ not. absurd (not said refl);
        full = λ full. let why = refused_at.full (is_full full) in (why.1, why.2);
        used_up = λ full. let why = refused_at.used_up (is_used full) in (why.1, why.2);
        granted = λ late. subst (λ (m : IndexMap). IsFree (locks_of old.locks) t (asked a m)) (sym walk_then) (free late);
        absent = asks;
        broken = λ late. inl (refused_at.begun (is_late late)).1;
      }
        where
          is_full : replies.Refused said ≡ replies.Refused faults.PagesFull → f ≡ PagesFull
          is_full e = full_is f (sym so ∙ refused_inj said faults.PagesFull e)

          is_used : replies.Refused said ≡ replies.Refused faults.Capacity → f ≡ Capacity
          is_used e = used_up_is f (sym so ∙ refused_inj said faults.Capacity e)

          is_late : replies.Refused said ≡ replies.Refused faults.Failed → f ≡ Failed
          is_late e = failed_is d old.max_pages old.writer old.disk new.writer new.disk f one.ends (sym so ∙ refused_inj said faults.Failed e)

          lacks : get (contents b r.now.log) key ≡ None → get v.walk key ≡ None
          lacks none = ap (λ (m : IndexMap). get m key) walk_then ∙ none

          free : (replies.Refused said ≡ replies.Refused faults.Capacity) ⊎ (replies.Refused said ≡ replies.Refused faults.Failed) → IsFree (locks_of old.locks) t (asked a (contents b r.now.log))
          free (inl why) = (refused_at.used_up (is_used why)).3.0
          free (inr why) = let begun = refused_at.begun (is_late why) in asks_begun key rid (contents b r.now.log) begun.0 (locks_of old.locks) t begun.2.0

          asks : AsksChange (replies.Refused said) → get v.walk key ≡ None
          asks (wants_pages why) = lacks (refused_at.full (is_full why)).0
          asks (wants_numbers why) = lacks (refused_at.used_up (is_used why)).0
          asks (wants_memory why) = lacks (refused_at.begun (is_late why)).0

    pub made_refused : ((u : ℕ) (c : Files) → u ≤ d.moment new.disk → d.may_leave new.disk c → d.left_since new.disk u c) → new.failed ≡ ends_engine f → ((f ≡ Memory) ⊎ (f ≡ PagesFull) → SameTable old.locks new.locks) → ((f ≡ Memory) ⊎ (f ≡ PagesFull) → SameLasting old.locks new.locks)
        → (said : Fault) → said ≡ told_as f → IsMade d (Do t a) (replies.Refused said) old new
    made_refused counts_now fails locks lasting said so = record {
      kept = λ before s v life.
          let r = (life.running works).1 in
          insert_stopped d before s v t key rid old new life works checked counts_now same f one.ends (stopped d t key rid old new row found checked beside told before s v r (refused_at before s v r).stops) (refused_at before s v r).sound fails table (λ which. (locks which, lasting which)) said so;
      told = told_refused d old new works (ap besides_rows table) fixed f said so fails table locks (λ lost. late_lost d old.writer old.disk new.writer new.disk lost (mild_to_split (Some old.max_pages)) f one.ends);
      answered = insert_not_answered d old new.writer.log new.disk works t key rid checked f said so (insert_cause d old.writer old.disk new.writer new.disk (mild_to_split (Some old.max_pages)) f one.ends);
      suits = tt;
      at_once = λ _. tt;
      paced = paced_by d t a old new checked beside told (replies.Refused said) (λ clash. absurd (let never : answers.Refused (number_of said) ≡ answers.BlockedTree = clash in cc never))
          (λ b before s v r bars. inr (barred_off b before s v r bars)) (λ b before s v r. inl (subst (λ (x : Option Under). IsSameUnder old.under x) (sym same) (same_under old.under)));
      grouped = tt;
      frames = one.frames;
      wants = λ b before s v r. refused_wants before s v r said so;
      quiet = λ none. absurd (none tt);
      costs = tt;
    }
      where
        barred_off : (b : Base) (before : List Effect) (s : Shown) (v : View) (r : IsRunning d b before s v old) → Bars (settled b r.now.log) beside a v.walk → (replies.Refused said ≡ replies.Refused Device) ⊎ (replies.Refused said ≡ replies.Refused LogFull)
        barred_off b before s v r bars =
            let off = ((refused_at before s v r).first (subst (λ (m : IndexMap). Bars (settled b r.now.log) beside a m) (walk_then before s v r) bars)).1 in
            ⊎_elim (λ lost. inl (ap replies.Refused (so ∙ ap told_as lost))) (λ full. inr (ap replies.Refused (so ∙ ap told_as full))) off
