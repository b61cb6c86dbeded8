-- The exits of an Insert and of a Delete beside a structure change, or with one that begins, by what the call below it came to.
use Rattle.std.proofs.Common.{◌≡◌, ◌⊎◌, ℕ, ◌≤◌, true, false, Some, None, Result, Ok, Err, IfErr, map, refl, ap}
use Rattle.std.specs.Prelude.{find}
use Rattle.im_base_types.specs.Answers.{Insert, Delete, Do}
use Rattle.im_base_types.specs.Keys.{Key}
use Rattle.im_base_types.specs.declared.fault.Fault.{Fault}
use Rattle.im_base_types.specs.declared.fault.Fault.TheVariants.{Memory, PagesFull}
use Rattle.im_base_disk.specs.declared.disk.Disk.{Ghosts}
use Rattle.im_base_disk.specs.Disk.{Files}
use Rattle.im_base_steps.specs.declared.reply.Reply.{Reply}
use Rattle.im_base_steps.specs.declared.reply.Reply.TheVariants as replies
use Rattle.im_base_txn.specs.Rows.{is_of, changed, with_record}
use Rattle.im_base_txn.specs.declared.transaction.Transaction.{Transaction}
use Rattle.im_theory_log.specs.Histories.{Base}
use Rattle.im_theory_log.specs.Writer.{Writer}
use Rattle.im_page_writer.specs.declared.page_writer.PageWriter.{PageWriter}
use Rattle.im_page_writer.specs.Outcome.{fault_of, mild, Logs}
use Rattle.im_theory_machine.specs.Table.{SameLasting, SameTable, Table}
use Rattle.im_theory_machine.specs.View.{owns_in}
use Rattle.im_theory_steps.specs.Checks.{checked_by}
use Rattle.im_tree_search.specs.declared.change_beside.Beside.{Beside}
use Rattle.im_tree_search.specs.declared.sight.Sight.{Sight}
use Rattle.im_tree_search.specs.declared.sight.Sight.TheVariants.{Seen, Hidden}
use Rattle.im_smo_split.specs.Kept.{mild_to_split}
use Rattle.im_smo_actions.specs.declared.begun_change.BegunChange.{BegunChange}
use Rattle.im_engine_access.specs.declared.begun.Deleting.{Deleting}
use Rattle.im_engine_access.specs.declared.begun.Deleting.TheVariants.{Gone, Taken, Dropping}
use Rattle.im_engine_access.specs.declared.begun.Inserting.{Inserting}
use Rattle.im_engine_access.specs.declared.begun.Inserting.TheVariants.{There, Put as PutIn, Split}
use Rattle.im_engine_access.specs.declared.lock_answer.LockAnswer.{LockAnswer}
use Rattle.im_engine_access.specs.declared.lock_answer.LockAnswer.TheVariants.{Granted, Wait, Die}
use Rattle.im_engine_access.specs.EditsBeside.{DeleteBesideKept, InsertBesideKept, MayEditBeside}
use Rattle.im_theory_steps.specs.Steps.{with_made}
use Rattle.im_engine.specs.declared.engine.Engine.{Engine}
use Rattle.im_engine.specs.declared.stepped.Aim.TheVariants.{Puts, Drops}
use Rattle.im_engine.specs.Accesses.{answer_in, failed_in, rest_of, rows_in}
use Rattle.im_engine.specs.Aims.{IsBesideOf, under_of}
use Rattle.im_engine.specs.Faults.{told_as}
use Rattle.im_engine.specs.Numbered.{Numbered}
use Rattle.im_engine.specs.Told.{IsMade, fixed_of}
use Rattle.im_engine.proofs.Answered.{Granting, granted_at, noted_rows, other_at, rest_fixed, rest_here, same_rows}
use Rattle.im_engine.proofs.SteppedDeletes as deletes
use Rattle.im_engine.proofs.SteppedInserts as inserts

-- ---- an Insert

module _ {D : Type 0} (d : Ghosts D) (t : ℕ) (key : Key) (rid : ℕ) (old : Engine D d) (row : Transaction) (found : find (is_of t) old.txns.rows ≡ Some row) (checked : checked_by old.txns.rows (owns_in (under_of old.under) (Do t (Insert key rid))) (Do t (Insert key rid)) ≡ None) (beside : Beside) (told : IsBesideOf old.under beside) where
  -- what the call below says of what it came to, and of what it left
  pub record InsertsBeside (came : Result (Sight (LockAnswer Inserting)) Fault) (writer : PageWriter) (disk : D) (locks : Table) : Type 0 where
    pub outcome : Logs d true (mild_to_split (Some old.max_pages)) old.writer old.disk writer disk (fault_of came)
    pub kept : (b : Base) (base : ℕ) (s : Writer) (e : ℕ) → MayEditBeside d b base s e row.number row.last row.undo_next (Insert key rid) beside old.locks old.writer old.disk → InsertBesideKept d b base s e row.number row.last row.undo_next key rid old.dense old.max_pages beside old.locks locks old.disk writer disk came
    pub table : IfErr came (λ e. (e ≡ Memory) ⊎ (e ≡ PagesFull) → SameTable old.locks locks)
    pub lasting : IfErr came (λ e. (e ≡ Memory) ⊎ (e ≡ PagesFull) → SameLasting old.locks locks)

  module _ (new : Engine D d) (works : old.failed ≡ false) (writer : PageWriter) (disk : D) (locks : Table) (rest : rest_of d new ≡ (writer, disk, locks, fixed_of d old, old.room.items))
      (came : Result (Sight (LockAnswer Inserting)) Fault) (has : InsertsBeside came writer disk locks) (fails : new.failed ≡ failed_in came) where
    come_fixed : fixed_of d new ≡ fixed_of d old
    come_fixed = rest_fixed d new writer disk locks (fixed_of d old) old.room.items rest

    abbrev ComesBeside : Result (Sight (LockAnswer Inserting)) Fault → Type 0
    ComesBeside r = InsertsBeside r new.writer new.disk new.locks

    come_here : ComesBeside came
    come_here = rest_here d new writer disk locks (fixed_of d old) old.room.items rest (InsertsBeside came) has

    come_granted : (y : Inserting) → Ok y ≡ answer_in came → Granting d t (Insert key rid) old new ComesBeside came come_here fails y
    come_granted y so = granted_at d t (Insert key rid) old new ComesBeside came come_here fails y so

    -- the key is there
    pub insert_needless : (y : Inserting) → Ok y ≡ answer_in came → y ≡ There → new.under ≡ old.under → new.txns ≡ record old.txns { rows = rows_in t came old.txns.rows } → IsMade d (Do t (Insert key rid)) replies.Duplicate old new
    insert_needless y so is same table =
        let at = come_granted y so in
        inserts.made_there d t key rid old new works row found checked beside told come_fixed (Seen (Granted y)) at.0.kept at.0.outcome at.1 same (ap (λ (z : Inserting). Seen (Granted z)) is) (same_rows old.txns new.txns (rows_in t came old.txns.rows) at.2 table)

    -- it came
    pub insert_granted : (y : Inserting) → Ok y ≡ answer_in came → (lsn : ℕ) → y ≡ PutIn lsn → new.under ≡ old.under → (mid : Numbered) → mid ≡ record old.txns { rows = rows_in t came old.txns.rows } → new.txns ≡ record mid { rows = map (changed t (with_made lsn)) mid.rows } → IsMade d (Do t (Insert key rid)) replies.Inserted old new
    insert_granted y so lsn is same mid was table =
        let at = come_granted y so in
        inserts.made_put d t key rid old new works row found checked beside told come_fixed (Seen (Granted y)) at.0.kept at.0.outcome at.1 same lsn (ap (λ (z : Inserting). Seen (Granted z)) is) (noted_rows old.txns mid new.txns (rows_in t came old.txns.rows) (changed t (with_made lsn)) at.2 was table)

    -- a structure change begins for it
    pub insert_begins : old.stepped ≡ true → (y : Inserting) → Ok y ≡ answer_in came → (begun : BegunChange) (leaf : ℕ) → y ≡ Split begun leaf → new.under ≡ Some (record { begun = begun; aim = Puts key rid leaf }) → (mid : Numbered) → mid ≡ record old.txns { rows = rows_in t came old.txns.rows } → new.txns ≡ record mid { rows = map (changed t (with_record begun.change.last begun.change.last)) mid.rows } → IsMade d (Do t (Insert key rid)) replies.More old new
    insert_begins stepped y so begun leaf is under mid was table =
        let at = come_granted y so in
        inserts.made_begun d t key rid old new works row found checked beside told come_fixed (Seen (Granted y)) at.0.kept at.0.outcome at.1 stepped begun leaf (ap (λ (z : Inserting). Seen (Granted z)) is) under (noted_rows old.txns mid new.txns (rows_in t came old.txns.rows) (changed t (with_record begun.change.last begun.change.last)) at.2 was table)

    -- its locks were not granted, the tree is blocked, or the call below refused it
    pub insert_otherwise : new.under ≡ old.under → new.txns ≡ record old.txns { rows = rows_in t came old.txns.rows } → ((u : ℕ) (c : Files) → u ≤ d.moment new.disk → d.may_leave new.disk c → d.left_since new.disk u c) → (reply : Reply) → Err reply ≡ answer_in came → IsMade d (Do t (Insert key rid)) reply old new
    insert_otherwise same table counts_now reply so =
        other_at d t (Insert key rid) old new ComesBeside came come_here fails
        (λ holder at on kept. inserts.made_waits d t key rid old new works row found checked beside told come_fixed (Seen (Wait holder)) at.kept at.outcome on same holder refl kept)
        (λ at on marked. inserts.made_dies d t key rid old new works row found checked beside told come_fixed (Seen Die) at.kept at.outcome on same refl marked)
        (λ at on kept. inserts.made_hidden d t key rid old new works row found checked beside told come_fixed Hidden at.kept at.outcome on same refl kept)
        (λ f at on kept. inserts.made_refused d t key rid old new works row found checked beside told come_fixed f at.kept at.outcome same kept counts_now on at.table at.lasting (told_as f) refl)
        table reply so

-- ---- a Delete

module _ {D : Type 0} (d : Ghosts D) (t : ℕ) (key : Key) (old : Engine D d) (row : Transaction) (found : find (is_of t) old.txns.rows ≡ Some row) (checked : checked_by old.txns.rows (owns_in (under_of old.under) (Do t (Delete key))) (Do t (Delete key)) ≡ None) (beside : Beside) (told : IsBesideOf old.under beside) where
  -- what the call below says of what it came to, and of what it left
  pub record DeletesBeside (came : Result (Sight (LockAnswer Deleting)) Fault) (writer : PageWriter) (disk : D) (locks : Table) : Type 0 where
    pub outcome : Logs d false mild old.writer old.disk writer disk (fault_of came)
    pub kept : (b : Base) (base : ℕ) (s : Writer) (e : ℕ) → MayEditBeside d b base s e row.number row.last row.undo_next (Delete key) beside old.locks old.writer old.disk → DeleteBesideKept d b base s e row.number row.last key beside old.locks locks old.disk writer disk came
    pub table : IfErr came (λ e. e ≡ Memory → SameTable old.locks locks)
    pub lasting : IfErr came (λ e. e ≡ Memory → SameLasting old.locks locks)

  module _ (new : Engine D d) (works : old.failed ≡ false) (writer : PageWriter) (disk : D) (locks : Table) (rest : rest_of d new ≡ (writer, disk, locks, fixed_of d old, old.room.items))
      (came : Result (Sight (LockAnswer Deleting)) Fault) (has : DeletesBeside came writer disk locks) (fails : new.failed ≡ failed_in came) where
    go_fixed : fixed_of d new ≡ fixed_of d old
    go_fixed = rest_fixed d new writer disk locks (fixed_of d old) old.room.items rest

    abbrev GoesBeside : Result (Sight (LockAnswer Deleting)) Fault → Type 0
    GoesBeside r = DeletesBeside r new.writer new.disk new.locks

    go_here : GoesBeside came
    go_here = rest_here d new writer disk locks (fixed_of d old) old.room.items rest (DeletesBeside came) has

    go_granted : (y : Deleting) → Ok y ≡ answer_in came → Granting d t (Delete key) old new GoesBeside came go_here fails y
    go_granted y so = granted_at d t (Delete key) old new GoesBeside came go_here fails y so

    -- the key is not there
    pub delete_needless : (y : Deleting) → Ok y ≡ answer_in came → y ≡ Gone → new.under ≡ old.under → new.txns ≡ record old.txns { rows = rows_in t came old.txns.rows } → IsMade d (Do t (Delete key)) replies.Absent old new
    delete_needless y so is same table =
        let at = go_granted y so in
        deletes.made_gone d t key old new works row found checked beside told go_fixed (Seen (Granted y)) at.0.kept at.0.outcome at.1 same (ap (λ (z : Deleting). Seen (Granted z)) is) (same_rows old.txns new.txns (rows_in t came old.txns.rows) at.2 table)

    -- it went
    pub delete_granted : (y : Deleting) → Ok y ≡ answer_in came → (lsn : ℕ) → y ≡ Taken lsn → new.under ≡ old.under → (mid : Numbered) → mid ≡ record old.txns { rows = rows_in t came old.txns.rows } → new.txns ≡ record mid { rows = map (changed t (with_made lsn)) mid.rows } → IsMade d (Do t (Delete key)) replies.Deleted old new
    delete_granted y so lsn is same mid was table =
        let at = go_granted y so in
        deletes.made_taken d t key old new works row found checked beside told go_fixed (Seen (Granted y)) at.0.kept at.0.outcome at.1 same lsn (ap (λ (z : Deleting). Seen (Granted z)) is) (noted_rows old.txns mid new.txns (rows_in t came old.txns.rows) (changed t (with_made lsn)) at.2 was table)

    -- a structure change begins for it
    pub delete_begins : old.stepped ≡ true → (y : Deleting) → Ok y ≡ answer_in came → (begun : BegunChange) → y ≡ Dropping begun → new.under ≡ Some (record { begun = begun; aim = Drops key }) → (mid : Numbered) → mid ≡ record old.txns { rows = rows_in t came old.txns.rows } → new.txns ≡ record mid { rows = map (changed t (with_made begun.change.last)) mid.rows } → IsMade d (Do t (Delete key)) replies.More old new
    delete_begins stepped y so begun is under mid was table =
        let at = go_granted y so in
        deletes.made_begun d t key old new works row found checked beside told go_fixed (Seen (Granted y)) at.0.kept at.0.outcome at.1 stepped begun (ap (λ (z : Deleting). Seen (Granted z)) is) under (noted_rows old.txns mid new.txns (rows_in t came old.txns.rows) (changed t (with_made begun.change.last)) at.2 was table)

    -- its locks were not granted, the tree is blocked, or the call below refused it
    pub delete_otherwise : new.under ≡ old.under → new.txns ≡ record old.txns { rows = rows_in t came old.txns.rows } → ((u : ℕ) (c : Files) → u ≤ d.moment new.disk → d.may_leave new.disk c → d.left_since new.disk u c) → (reply : Reply) → Err reply ≡ answer_in came → IsMade d (Do t (Delete key)) reply old new
    delete_otherwise same table counts_now reply so =
        other_at d t (Delete key) old new GoesBeside came go_here fails
        (λ holder at on kept. deletes.made_waits d t key old new works row found checked beside told go_fixed (Seen (Wait holder)) at.kept at.outcome on same holder refl kept)
        (λ at on marked. deletes.made_dies d t key old new works row found checked beside told go_fixed (Seen Die) at.kept at.outcome on same refl marked)
        (λ at on kept. deletes.made_hidden d t key old new works row found checked beside told go_fixed Hidden at.kept at.outcome on same refl kept)
        (λ f at on kept. deletes.made_refused d t key old new works row found checked beside told go_fixed f at.kept at.outcome same kept counts_now on at.table at.lasting (told_as f) refl)
        table reply so
