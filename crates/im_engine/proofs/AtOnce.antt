-- The exits of an Insert and of a Delete by a store that makes each structure change within a step, by what the call below it came to.
use Rattle.std.proofs.Common.{◌≡◌, ◌≢◌, ◌⊎◌, ℕ, ◌≤◌, List, true, false, length, Option, Some, None, Result, Ok, Err, IfErr, map, refl, sym, ap, subst, ◌∙◌}
use Rattle.std.specs.Prelude.{find}
use Rattle.std.proofs.lemmas.List.{length-map}
use Rattle.im_base_types.specs.Answers as answers
use Rattle.im_base_types.specs.Answers.{Insert, Delete, Do}
use Rattle.im_base_types.specs.Changes.{Effect}
use Rattle.im_base_types.specs.Faults.{number_of}
use Rattle.im_base_types.specs.Keys.{Key}
use Rattle.im_base_types.specs.Lives.{Shown}
use Rattle.im_base_types.specs.declared.fault.Fault.{Fault}
use Rattle.im_base_types.specs.declared.fault.Fault.TheVariants.{Memory, PagesFull}
use Rattle.im_base_types.specs.declared.fault.Fault.TheVariants as faults
use Rattle.im_base_disk.specs.declared.disk.Disk.{Ghosts}
use Rattle.im_base_disk.specs.Disk.{Files}
use Rattle.im_base_steps.specs.declared.reply.Blocker.TheVariants as blockers
use Rattle.im_base_steps.specs.declared.reply.Reply.{Reply}
use Rattle.im_base_steps.specs.declared.reply.Reply.TheVariants as replies
use Rattle.im_base_txn.specs.Rows.{is_of, changed, with_mark}
use Rattle.im_base_txn.specs.declared.transaction.Mark.TheVariants.{MustRollBack}
use Rattle.im_base_txn.specs.declared.transaction.Transaction.{Transaction}
use Rattle.im_theory_log.specs.Histories.{Base}
use Rattle.im_page_writer.specs.declared.page_writer.PageWriter.{PageWriter}
use Rattle.im_page_writer.specs.Outcome.{fault_of, mild, Logs}
use Rattle.im_theory_machine.specs.Table.{SameLasting, SameTable, Table}
use Rattle.im_theory_machine.specs.View.{View, owns_in}
use Rattle.im_theory_steps.specs.Checks.{checked_by}
use Rattle.im_tree_search.specs.declared.sight.Sight.{Sight}
use Rattle.im_tree_search.specs.declared.sight.Sight.TheVariants.{Seen, Hidden}
use Rattle.im_smo_split.specs.Kept.{mild_to_split}
use Rattle.im_engine_access.specs.declared.lock_answer.LockAnswer.{LockAnswer}
use Rattle.im_engine_access.specs.declared.lock_answer.LockAnswer.TheVariants.{Granted, Wait, Die}
use Rattle.im_engine_access.specs.declared.noted.Noted.{Noted}
use Rattle.im_engine.specs.declared.engine.Engine.{Engine}
use Rattle.im_engine.specs.Accesses.{answer_in, as_seen, failed_in, rest_of, rows_in}
use Rattle.im_engine.specs.Aims.{under_of}
use Rattle.im_engine.specs.Faults.{told_as, ends_engine}
use Rattle.im_engine.specs.Numbered.{Numbered, besides_rows}
use Rattle.im_engine.specs.Running.{IsRunning}
use Rattle.im_engine.specs.Told.{DeleteCause, IsAnswered, IsMade, WantsHere, fixed_of}
use Rattle.im_theory_steps.specs.Steps.{with_made}
use Rattle.im_engine.proofs.Numbers.{with_taken}
use Rattle.im_engine.proofs.Answered.{dies_plain, exit_made, granted_at, noted_rows, other_at, refused_made, rest_fixed, rest_here, same_rows, waits_plain}
use Rattle.im_engine.proofs.Causes.{behind, delete_cause, insert_cause, not_refused_for, refused_for}
use Rattle.im_engine.proofs.Deleting as deleting
use Rattle.im_engine.proofs.Inserting as inserting
use Rattle.im_engine.proofs.Paced.{paced_alone}
use Rattle.im_engine.proofs.Running.{plain_under}
use Rattle.im_engine.proofs.Telling.{delete_table, late_lost}

-- a call that goes on beside no structure change says of what it came to what it says of what was seen, and nothing is hidden from it
abbrev OfSeen : {X : Type 0} → (Result (LockAnswer X) Fault → Type 0) → Result (Sight (LockAnswer X)) Fault → Type 0
OfSeen P (Ok (Seen o)) = P (Ok o)
OfSeen P (Ok Hidden) = ⊥
OfSeen P (Err f) = P (Err f)

seen_as : {X : Type 0} (P : Result (LockAnswer X) Fault → Type 0) (came : Result (LockAnswer X) Fault) → P came → OfSeen P (as_seen came)
seen_as P (Ok o) has = has
seen_as P (Err f) has = has

of_seen : {X : Type 0} (P : Result (LockAnswer X) Fault → Type 0) (came : Result (LockAnswer X) Fault) (sight : Result (Sight (LockAnswer X)) Fault) → sight ≡ as_seen came → P came → OfSeen P sight
of_seen {X} P came sight seen has = subst (λ (x : Result (Sight (LockAnswer X)) Fault). OfSeen P x) (sym seen) (seen_as P came has)

-- ---- an Insert

module _ {D : Type 0} (d : Ghosts D) (t : ℕ) (key : Key) (rid : ℕ) (old : Engine D d) (row : Transaction) (found : find (is_of t) old.txns.rows ≡ Some row) (checked : checked_by old.txns.rows (owns_in (under_of old.under) (Do t (Insert key rid))) (Do t (Insert key rid)) ≡ None) (plain : old.stepped ≡ false) where
  -- what the call below says of what it came to, and of what it left
  pub record InsertsBelow (came : Result (LockAnswer (Option Noted)) Fault) (writer : PageWriter) (disk : D) (locks : Table) : Type 0 where
    pub outcome : Logs d true (mild_to_split (Some old.max_pages)) old.writer old.disk writer disk (fault_of came)
    pub kept : inserting.Below d old locks writer disk t key rid row found checked (plain_under d old plain) plain came
    pub table : IfErr came (λ e. (e ≡ Memory) ⊎ (e ≡ PagesFull) → SameTable old.locks locks)
    pub lasting : IfErr came (λ e. (e ≡ Memory) ⊎ (e ≡ PagesFull) → SameLasting old.locks locks)

  module _ (new : Engine D d) (works : old.failed ≡ false) (put_same : new.under ≡ old.under) (writer : PageWriter) (disk : D) (locks : Table) (rest : rest_of d new ≡ (writer, disk, locks, fixed_of d old, old.room.items)) where
    put_fixed : fixed_of d new ≡ fixed_of d old
    put_fixed = rest_fixed d new writer disk locks (fixed_of d old) old.room.items rest

    abbrev Put : Result (LockAnswer (Option Noted)) Fault → Type 0
    Put came = InsertsBelow came new.writer new.disk new.locks

    put_answered : (reply : Reply) → ((x : Fault) → reply ≢ replies.Refused x) → IsAnswered d (Do t (Insert key rid)) reply old new
    put_answered reply not = inserting.insert_answered d old new.writer.log new.disk works t key rid checked reply not

    put_wants : (o : LockAnswer (Option Noted)) → Put (Ok o) → (reply : Reply) → reply ≢ replies.Inserted → reply ≢ replies.More → ((x : Fault) → reply ≢ replies.Refused x) → (b : Base) (before : List Effect) (s : Shown) (v : View) (r : IsRunning d b before s v old) → WantsHere d b before s v r (Do t (Insert key rid)) reply new
    put_wants o has reply no_insert no_more not b before s v r = inserting.other_wants d old new.locks new.writer new.disk t key rid row found checked (plain_under d old plain) plain before s v r o has.kept reply no_insert no_more not

    put_made : (x : Option Noted) → Put (Ok (Granted x)) → new.failed ≡ false → (noted : Noted) → x ≡ Some noted → new.txns ≡ record old.txns { rows = map (changed t (with_made noted.last)) old.txns.rows } → IsMade d (Do t (Insert key rid)) replies.Inserted old new
    put_made x has on noted some table =
        exit_made d t (Insert key rid) old new (λ none. absurd (none tt)) works put_fixed replies.Inserted (record { stays = λ k. refl; late = refl; answered = refl; number = tt; suits = refl; at_once = λ _. refl; grouped = tt }) (ap besides_rows table) (ap (λ (z : Numbered). length z.rows) table ∙ length-map old.txns.rows (changed t (with_made noted.last))) on has.outcome.ends.alive has.outcome.frames
        (λ before s v life. inserting.insert_made d old new t key rid row found checked (plain_under d old plain) plain put_same before s v (life.running works).1 (Granted x) has.kept x refl noted some table on)
        (put_answered replies.Inserted (λ y e. cc e)) (paced_alone d (Do t (Insert key rid)) replies.Inserted old new put_same (λ e. (let clash : answers.Inserted ≡ answers.BlockedTree = e in cc clash)) plain) (λ b before s v r. inserting.made_wants d old new.locks new.writer new.disk t key rid row found checked (plain_under d old plain) plain before s v r (Granted x) has.kept x refl noted some)

    put_needless : (x : Option Noted) → Put (Ok (Granted x)) → new.failed ≡ false → x ≡ None → new.txns ≡ old.txns → IsMade d (Do t (Insert key rid)) replies.Duplicate old new
    put_needless x has on none table =
        exit_made d t (Insert key rid) old new (λ none. absurd (none tt)) works put_fixed replies.Duplicate (record { stays = λ k. refl; late = refl; answered = refl; number = tt; suits = refl; at_once = λ _. refl; grouped = tt }) (ap besides_rows table) (ap (λ (z : Numbered). length z.rows) table) on has.outcome.ends.alive has.outcome.frames
        (λ before s v life. inserting.insert_there d old new t key rid row found checked (plain_under d old plain) plain put_same before s v (life.running works).1 (Granted x) has.kept x refl none table on)
        (put_answered replies.Duplicate (λ y e. cc e)) (paced_alone d (Do t (Insert key rid)) replies.Duplicate old new put_same (λ e. (let clash : answers.Duplicate ≡ answers.BlockedTree = e in cc clash)) plain) (put_wants (Granted x) has replies.Duplicate (λ e. cc e) (λ e. cc e) (λ y e. cc e))

    put_waits : (holder : ℕ) → Put (Ok (Wait holder)) → new.failed ≡ false → new.txns ≡ old.txns → IsMade d (Do t (Insert key rid)) (replies.Blocked (blockers.Lock holder)) old new
    put_waits holder has on table =
        exit_made d t (Insert key rid) old new (λ none. absurd (none tt)) works put_fixed (replies.Blocked (blockers.Lock holder)) (waits_plain d t (Insert key rid) old new holder) (ap besides_rows table) (ap (λ (z : Numbered). length z.rows) table) on has.outcome.ends.alive has.outcome.frames
        (λ before s v life. inserting.insert_waits d old new t key rid row found checked (plain_under d old plain) plain put_same before s v (life.running works).1 (Wait holder) has.kept holder refl table on)
        (put_answered (replies.Blocked (blockers.Lock holder)) (λ y e. cc e)) (paced_alone d (Do t (Insert key rid)) (replies.Blocked (blockers.Lock holder)) old new put_same (λ e. (let clash : answers.Blocked holder ≡ answers.BlockedTree = e in cc clash)) plain) (put_wants (Wait holder) has (replies.Blocked (blockers.Lock holder)) (λ e. cc e) (λ e. cc e) (λ y e. cc e))

    put_dies : Put (Ok Die) → new.failed ≡ false → new.txns ≡ record old.txns { rows = map (changed t (with_mark MustRollBack)) old.txns.rows } → IsMade d (Do t (Insert key rid)) replies.Die old new
    put_dies has on table =
        exit_made d t (Insert key rid) old new (λ none. absurd (none tt)) works put_fixed replies.Die (dies_plain d t (Insert key rid) old new) (ap besides_rows table) (ap (λ (z : Numbered). length z.rows) table ∙ length-map old.txns.rows (changed t (with_mark MustRollBack))) on has.outcome.ends.alive has.outcome.frames
        (λ before s v life. inserting.insert_dies d old new t key rid row found checked (plain_under d old plain) plain put_same before s v (life.running works).1 Die has.kept refl table on)
        (put_answered replies.Die (λ y e. cc e)) (paced_alone d (Do t (Insert key rid)) replies.Die old new put_same (λ e. (let clash : answers.Die ≡ answers.BlockedTree = e in cc clash)) plain) (put_wants Die has replies.Die (λ e. cc e) (λ e. cc e) (λ y e. cc e))

    put_refused : ((u : ℕ) (c : Files) → u ≤ d.moment new.disk → d.may_leave new.disk c → d.left_since new.disk u c) → (f : Fault) → Put (Err f) → new.failed ≡ ends_engine f → new.txns ≡ old.txns → IsMade d (Do t (Insert key rid)) (replies.Refused (told_as f)) old new
    put_refused counts_now f has fails table =
        refused_made d t (Insert key rid) old new (λ none. absurd (none tt)) works put_fixed f fails table has.table (λ lost. late_lost d old.writer old.disk new.writer new.disk lost (mild_to_split (Some old.max_pages)) f has.outcome.ends) has.outcome.frames
        (λ before s v life. inserting.insert_refused d old new t key rid row found checked (plain_under d old plain) plain put_same before s v life works counts_now f has.kept has.outcome.ends fails table (λ which. (has.table which, has.lasting which)) (told_as f) refl)
        (inserting.insert_not_answered d old new.writer.log new.disk works t key rid checked f (told_as f) refl (insert_cause d old.writer old.disk new.writer new.disk (mild_to_split (Some old.max_pages)) f has.outcome.ends))
        (paced_alone d (Do t (Insert key rid)) (replies.Refused (told_as f)) old new put_same (λ e. (let clash : answers.Refused (number_of (told_as f)) ≡ answers.BlockedTree = e in cc clash)) plain)
        (λ b before s v r. inserting.refused_wants d old new.locks new.writer new.disk t key rid row found checked (plain_under d old plain) plain before s v r f has.kept has.outcome.ends (told_as f) refl)

    module _ (came : Result (LockAnswer (Option Noted)) Fault) (has : InsertsBelow came writer disk locks) (sight : Result (Sight (LockAnswer (Option Noted))) Fault) (seen : sight ≡ as_seen came) (fails : new.failed ≡ failed_in sight) where
      put_here : OfSeen Put sight
      put_here = of_seen Put came sight seen (rest_here d new writer disk locks (fixed_of d old) old.room.items rest (InsertsBelow came) has)

      -- the key came
      pub insert_granted : (x : Option Noted) → Ok x ≡ answer_in sight → (noted : Noted) → x ≡ Some noted → (mid : Numbered) → mid ≡ record old.txns { rows = rows_in t sight old.txns.rows } → new.txns ≡ record mid { rows = map (changed t (with_made noted.last)) mid.rows } → IsMade d (Do t (Insert key rid)) replies.Inserted old new
      insert_granted x so noted some mid is table =
          let at = granted_at d t (Insert key rid) old new (OfSeen Put) sight put_here fails x so in
          put_made x at.0 at.1 noted some (noted_rows old.txns mid new.txns (rows_in t sight old.txns.rows) (changed t (with_made noted.last)) at.2 is table)

      -- it is there
      pub insert_needless : (x : Option Noted) → Ok x ≡ answer_in sight → x ≡ None → new.txns ≡ record old.txns { rows = rows_in t sight old.txns.rows } → IsMade d (Do t (Insert key rid)) replies.Duplicate old new
      insert_needless x so none table =
          let at = granted_at d t (Insert key rid) old new (OfSeen Put) sight put_here fails x so in
          put_needless x at.0 at.1 none (same_rows old.txns new.txns (rows_in t sight old.txns.rows) at.2 table)

      -- its locks were not granted, or the call below refused it
      pub insert_otherwise : new.txns ≡ record old.txns { rows = rows_in t sight old.txns.rows } → ((u : ℕ) (c : Files) → u ≤ d.moment new.disk → d.may_leave new.disk c → d.left_since new.disk u c) → (reply : Reply) → Err reply ≡ answer_in sight → IsMade d (Do t (Insert key rid)) reply old new
      insert_otherwise table counts_now reply so = other_at d t (Insert key rid) old new (OfSeen Put) sight put_here fails put_waits put_dies (λ never. absurd never) (put_refused counts_now) table reply so

-- ---- a Delete

module _ {D : Type 0} (d : Ghosts D) (t : ℕ) (key : Key) (old : Engine D d) (row : Transaction) (found : find (is_of t) old.txns.rows ≡ Some row) (checked : checked_by old.txns.rows (owns_in (under_of old.under) (Do t (Delete key))) (Do t (Delete key)) ≡ None) (plain : old.stepped ≡ false) where
  -- what the call below says of what it came to, and of what it left
  pub record DeletesBelow (came : Result (LockAnswer (Option Noted)) Fault) (writer : PageWriter) (disk : D) (locks : Table) : Type 0 where
    pub outcome : Logs d true mild old.writer old.disk writer disk (fault_of came)
    pub kept : deleting.Below d old t key row found checked (plain_under d old plain) locks writer disk came
    pub table : IfErr came (λ e. e ≡ Memory → SameTable old.locks locks)
    pub lasting : IfErr came (λ e. e ≡ Memory → SameLasting old.locks locks)

  module _ (new : Engine D d) (works : old.failed ≡ false) (drop_same : new.under ≡ old.under) (writer : PageWriter) (disk : D) (locks : Table) (rest : rest_of d new ≡ (writer, disk, locks, fixed_of d old, old.room.items)) where
    drop_fixed : fixed_of d new ≡ fixed_of d old
    drop_fixed = rest_fixed d new writer disk locks (fixed_of d old) old.room.items rest

    abbrev Dropped : Result (LockAnswer (Option Noted)) Fault → Type 0
    Dropped came = DeletesBelow came new.writer new.disk new.locks

    drop_answered : (reply : Reply) → ((x : Fault) → reply ≢ replies.Refused x) → IsAnswered d (Do t (Delete key)) reply old new
    drop_answered reply not = behind d old new.writer.log new.disk works (Do t (Delete key)) reply checked (λ fault. not_refused_for d old new.writer.log new.disk works (DeleteCause d new.writer.log new.disk) reply not fault)

    drop_wants : (o : LockAnswer (Option Noted)) → Dropped (Ok o) → (reply : Reply) → reply ≢ replies.More → ((x : Fault) → reply ≢ replies.Refused x) → (b : Base) (before : List Effect) (s : Shown) (v : View) (r : IsRunning d b before s v old) → WantsHere d b before s v r (Do t (Delete key)) reply new
    drop_wants o has reply no_more not b before s v r = deleting.no_wants old.stepped plain _ _ _ _ _ _ _ (not faults.Failed) no_more

    drop_made : (x : Option Noted) → Dropped (Ok (Granted x)) → new.failed ≡ false → (taken : Noted) → x ≡ Some taken → new.txns ≡ record old.txns { rows = map (changed t (with_taken taken.last taken.undo_next)) old.txns.rows } → IsMade d (Do t (Delete key)) replies.Deleted old new
    drop_made x has on taken some table =
        exit_made d t (Delete key) old new (λ none. absurd (none tt)) works drop_fixed replies.Deleted (record { stays = λ k. refl; late = refl; answered = refl; number = tt; suits = refl; at_once = λ _. refl; grouped = tt }) (ap besides_rows table) (ap (λ (z : Numbered). length z.rows) table ∙ length-map old.txns.rows (changed t (with_taken taken.last taken.undo_next))) on has.outcome.ends.alive has.outcome.frames
        (λ before s v life. deleting.delete_made d old t key row found checked (plain_under d old plain) new drop_same before s v (life.running works).1 (Granted x) has.kept x refl taken some table on)
        (drop_answered replies.Deleted (λ y e. cc e)) (paced_alone d (Do t (Delete key)) replies.Deleted old new drop_same (λ e. (let clash : answers.Deleted ≡ answers.BlockedTree = e in cc clash)) plain) (drop_wants (Granted x) has replies.Deleted (λ e. cc e) (λ y e. cc e))

    drop_needless : (x : Option Noted) → Dropped (Ok (Granted x)) → new.failed ≡ false → x ≡ None → new.txns ≡ old.txns → IsMade d (Do t (Delete key)) replies.Absent old new
    drop_needless x has on none table =
        exit_made d t (Delete key) old new (λ none. absurd (none tt)) works drop_fixed replies.Absent (record { stays = λ k. refl; late = refl; answered = refl; number = tt; suits = refl; at_once = λ _. refl; grouped = tt }) (ap besides_rows table) (ap (λ (z : Numbered). length z.rows) table) on has.outcome.ends.alive has.outcome.frames
        (λ before s v life. deleting.delete_absent d old t key row found checked (plain_under d old plain) new drop_same before s v (life.running works).1 (Granted x) has.kept x refl none table on)
        (drop_answered replies.Absent (λ y e. cc e)) (paced_alone d (Do t (Delete key)) replies.Absent old new drop_same (λ e. (let clash : answers.Absent ≡ answers.BlockedTree = e in cc clash)) plain) (drop_wants (Granted x) has replies.Absent (λ e. cc e) (λ y e. cc e))

    drop_waits : (holder : ℕ) → Dropped (Ok (Wait holder)) → new.failed ≡ false → new.txns ≡ old.txns → IsMade d (Do t (Delete key)) (replies.Blocked (blockers.Lock holder)) old new
    drop_waits holder has on table =
        exit_made d t (Delete key) old new (λ none. absurd (none tt)) works drop_fixed (replies.Blocked (blockers.Lock holder)) (waits_plain d t (Delete key) old new holder) (ap besides_rows table) (ap (λ (z : Numbered). length z.rows) table) on has.outcome.ends.alive has.outcome.frames
        (λ before s v life. deleting.delete_waits d old t key row found checked (plain_under d old plain) new drop_same before s v (life.running works).1 (Wait holder) has.kept holder refl table on)
        (drop_answered (replies.Blocked (blockers.Lock holder)) (λ y e. cc e)) (paced_alone d (Do t (Delete key)) (replies.Blocked (blockers.Lock holder)) old new drop_same (λ e. (let clash : answers.Blocked holder ≡ answers.BlockedTree = e in cc clash)) plain) (drop_wants (Wait holder) has (replies.Blocked (blockers.Lock holder)) (λ e. cc e) (λ y e. cc e))

    drop_dies : Dropped (Ok Die) → new.failed ≡ false → new.txns ≡ record old.txns { rows = map (changed t (with_mark MustRollBack)) old.txns.rows } → IsMade d (Do t (Delete key)) replies.Die old new
    drop_dies has on table =
        exit_made d t (Delete key) old new (λ none. absurd (none tt)) works drop_fixed replies.Die (dies_plain d t (Delete key) old new) (ap besides_rows table) (ap (λ (z : Numbered). length z.rows) table ∙ length-map old.txns.rows (changed t (with_mark MustRollBack))) on has.outcome.ends.alive has.outcome.frames
        (λ before s v life. deleting.delete_dies d old t key row found checked (plain_under d old plain) new drop_same before s v (life.running works).1 Die has.kept refl table on)
        (drop_answered replies.Die (λ y e. cc e)) (paced_alone d (Do t (Delete key)) replies.Die old new drop_same (λ e. (let clash : answers.Die ≡ answers.BlockedTree = e in cc clash)) plain) (drop_wants Die has replies.Die (λ e. cc e) (λ y e. cc e))

    drop_refused : ((u : ℕ) (c : Files) → u ≤ d.moment new.disk → d.may_leave new.disk c → d.left_since new.disk u c) → (f : Fault) → Dropped (Err f) → new.failed ≡ ends_engine f → new.txns ≡ old.txns → IsMade d (Do t (Delete key)) (replies.Refused (told_as f)) old new
    drop_refused counts_now f has fails table =
        refused_made d t (Delete key) old new (λ none. absurd (none tt)) works drop_fixed f fails table (delete_table d old.writer old.disk new.writer new.disk f has.outcome.ends old.locks new.locks has.table) (λ lost. late_lost d old.writer old.disk new.writer new.disk lost mild f has.outcome.ends) has.outcome.frames
        (λ before s v life. deleting.delete_refused d old t key row found checked (plain_under d old plain) new drop_same before s v life works counts_now f has.kept has.outcome.ends fails table (λ which. (has.table which, has.lasting which)) (told_as f) refl)
        (behind d old new.writer.log new.disk works (Do t (Delete key)) (replies.Refused (told_as f)) checked (λ fault. refused_for d old new.writer.log new.disk works (DeleteCause d new.writer.log new.disk) f (told_as f) refl (delete_cause d old.writer old.disk new.writer new.disk f has.outcome.ends) fault))
        (paced_alone d (Do t (Delete key)) (replies.Refused (told_as f)) old new drop_same (λ e. (let clash : answers.Refused (number_of (told_as f)) ≡ answers.BlockedTree = e in cc clash)) plain)
        (λ b before s v r. deleting.delete_wants d old t key row found checked (plain_under d old plain) new.locks new.writer new.disk before s v r plain f has.kept has.outcome.ends (told_as f) refl)

    module _ (came : Result (LockAnswer (Option Noted)) Fault) (has : DeletesBelow came writer disk locks) (sight : Result (Sight (LockAnswer (Option Noted))) Fault) (seen : sight ≡ as_seen came) (fails : new.failed ≡ failed_in sight) where
      drop_here : OfSeen Dropped sight
      drop_here = of_seen Dropped came sight seen (rest_here d new writer disk locks (fixed_of d old) old.room.items rest (DeletesBelow came) has)

      -- the key went
      pub delete_granted : (x : Option Noted) → Ok x ≡ answer_in sight → (taken : Noted) → x ≡ Some taken → (mid : Numbered) → mid ≡ record old.txns { rows = rows_in t sight old.txns.rows } → new.txns ≡ record mid { rows = map (changed t (with_taken taken.last taken.undo_next)) mid.rows } → IsMade d (Do t (Delete key)) replies.Deleted old new
      delete_granted x so taken some mid is table =
          let at = granted_at d t (Delete key) old new (OfSeen Dropped) sight drop_here fails x so in
          drop_made x at.0 at.1 taken some (noted_rows old.txns mid new.txns (rows_in t sight old.txns.rows) (changed t (with_taken taken.last taken.undo_next)) at.2 is table)

      -- it is not there
      pub delete_needless : (x : Option Noted) → Ok x ≡ answer_in sight → x ≡ None → new.txns ≡ record old.txns { rows = rows_in t sight old.txns.rows } → IsMade d (Do t (Delete key)) replies.Absent old new
      delete_needless x so none table =
          let at = granted_at d t (Delete key) old new (OfSeen Dropped) sight drop_here fails x so in
          drop_needless x at.0 at.1 none (same_rows old.txns new.txns (rows_in t sight old.txns.rows) at.2 table)

      -- its locks were not granted, or the call below refused it
      pub delete_otherwise : new.txns ≡ record old.txns { rows = rows_in t sight old.txns.rows } → ((u : ℕ) (c : Files) → u ≤ d.moment new.disk → d.may_leave new.disk c → d.left_since new.disk u c) → (reply : Reply) → Err reply ≡ answer_in sight → IsMade d (Do t (Delete key)) reply old new
      delete_otherwise table counts_now reply so = other_at d t (Delete key) old new (OfSeen Dropped) sight drop_here fails drop_waits drop_dies (λ never. absurd never) (drop_refused counts_now) table reply so
