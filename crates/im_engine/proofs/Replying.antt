-- What a step is answered over any disk: never a full trace, and what its reply begins and ends is what the table then has.
use Rattle.std.proofs.Common.{◌≡◌, ◌⊎◌, inl, inr, ℕ, ◌≤◌, ◌+◌, ◌-◌, Bool, true, false, List, [], ◌∷◌, length, Option, None, Some, refl, sym, ap, subst, ◌∙◌, true≢false, arith}
use Rattle.std.specs.Prelude.{if◌then◌else◌}
use Rattle.std.proofs.lemmas.Bool.{cases_Bool}
use Rattle.im_base_types.specs.Answers as answers
use Rattle.im_base_types.specs.declared.fault.Fault as below
use Rattle.im_base_disk.specs.declared.disk.Disk.{Ghosts}
use Rattle.im_log.specs.declared.log_file.LogFile.{LogFile}
use Rattle.im_theory_machine.specs.Machine.{first_check, mark_for}
use Rattle.im_theory_steps.specs.Checks.{marks_in}
use Rattle.im_base_txn.specs.declared.transaction.Transaction.{Transaction}
use Rattle.im_base_steps.specs.declared.step.Step.{Step}
use Rattle.im_base_types.specs.declared.fault.Fault.{Fault}
use Rattle.im_base_types.specs.declared.fault.Fault.TheVariants as faults
use Rattle.im_base_steps.specs.declared.reply.Blocker.TheVariants as blockers
use Rattle.im_base_steps.specs.declared.reply.Reply.{Reply}
use Rattle.im_base_steps.specs.declared.reply.Reply.TheVariants as replies
use Rattle.im_base_steps.specs.Calls.{asked_by, told_by, is_continue, is_force}
use Rattle.im_base_types.specs.Faults.{number_of}
use Rattle.im_base_steps.specs.Replies.{is_commit, takes_back, is_full, Suits, IsReply, IsCounted}
use Rattle.im_base_types.specs.Answers.{Idle}
use Rattle.im_theory_machine.specs.View.{owns_in}
use Rattle.im_engine.specs.declared.stepped.Under.{Under}
use Rattle.im_engine.specs.Aims.{under_of}
use Rattle.im_engine.proofs.Paced.{owner_stays}
use Rattle.im_engine.specs.declared.engine.Engine.{Engine}
use Rattle.im_engine.specs.Looking.{Looks}
use Rattle.im_engine.specs.Numbered.{Numbered}
use Rattle.im_engine.specs.Told.{Known, Where, Checked, IsFor, Refuses, FlushCause, SwitchCause, after, check_of, known_of, IsStep}
use Rattle.im_engine.proofs.Causes.{refused_inj}
use Rattle.im_engine.proofs.Looked.{looks_txns}
use Rattle.im_engine.proofs.Stepping.{by_check}

-- ---- no refusal is for a full trace

no_where : {P A B : Type 0} → (A → ⊥) → (B → ⊥) → Where P A B → ⊥
no_where a b (inl x) = a x.1
no_where a b (inr x) = b x.1

module _ {D : Type 0} (d : Ghosts D) (reply : Reply) (old : Engine D d) (log : LogFile) (disk : D) where
  no_cause : (step : answers.Step) → Refuses d reply old log disk faults.TraceFull step → ⊥
  no_cause answers.Begin is = no_where (λ e. cc e) (λ e. e) is
  no_cause (answers.Do t (answers.Fetch k)) is = is.1
  no_cause (answers.Do t (answers.Seek k)) is = is.1
  no_cause (answers.Do t (answers.Next k)) is = is.1
  no_cause (answers.Do t (answers.Prev k)) is = is.1
  no_cause (answers.Do t (answers.Scan lo hi n)) is = is.1
  no_cause (answers.Do t (answers.Insert k r)) is = is.1
  no_cause (answers.Do t (answers.Delete k)) is = is.1
  no_cause (answers.Commit t) is = no_where (no_where (λ e. cc e) (no_where (λ e. cc e) (λ e. e))) (λ e. e) is
  no_cause (answers.Rollback t) is = no_where (no_where (λ e. cc e) (no_where (λ e. cc e) (λ e. e))) (λ e. e) is
  no_cause (answers.RollTo t n) is = is
  no_cause (answers.Continue t) is = is.1
  no_cause (answers.FlushPage p) is = is.1
  no_cause answers.Force is = no_where (λ e. cc e) (λ e. e) is
  no_cause answers.Checkpoint is = no_where (λ e. cc e) (no_where (no_where (λ e. cc e) (λ e. e)) (λ (h : IsFor d reply old log disk faults.TraceFull (FlushCause d log disk)). h.1)) is
  no_cause answers.Switch is = no_where (λ e. cc e) (no_where (λ e. cc e) (λ (h : IsFor d reply old log disk faults.TraceFull (SwitchCause d log disk)). h.1)) is

-- neither by a check nor after the checks
never_checked : (o : Option ℕ) (Cause : Type 0) → (Cause → ⊥) → ((n : ℕ) → o ≡ Some n → number_of faults.TraceFull ≡ n → ⊥) → Checked o faults.TraceFull Cause → ⊥
never_checked None Cause none some cause = none cause
never_checked (Some n) Cause none some same = some n refl same

module _ {D : Type 0} (d : Ghosts D) (step : Step) (reply : Reply) (old new : Engine D d) (one : IsStep d step reply old new) where
  -- the first check, of an engine that works
  checked_now : old.failed ≡ false → check_of d (asked_by step) old ≡ first_check false (length old.txns.rows) (mark_for (marks_in old.txns.rows) (asked_by step)) (owns_in (under_of old.under) (asked_by step)) (asked_by step)
  checked_now works = ap (λ (b : Bool). first_check b (length old.txns.rows) (mark_for (marks_in old.txns.rows) (asked_by step)) (owns_in (under_of old.under) (asked_by step)) (asked_by step)) works

  -- no check refuses so
  unchecked : old.failed ≡ false → (n : ℕ) → check_of d (asked_by step) old ≡ Some n → number_of faults.TraceFull ≡ n → ⊥
  unchecked works n some same =
      by_check (λ (k : ℕ). 14 ≡ k → ⊥) n (λ e. cc e) (λ e. cc e) (λ e. cc e) (λ e. cc e) (λ e. cc e) (λ e. cc e) (owns_in (under_of old.under) (asked_by step)) (λ q e. cc e) (length old.txns.rows) (mark_for (marks_in old.txns.rows) (asked_by step)) (asked_by step) (sym (checked_now works) ∙ some) same

  not_full : old.failed ≡ false → reply ≡ replies.Refused faults.TraceFull → ⊥
  not_full works is =
      never_checked (check_of d (asked_by step) old) (Refuses d reply old new.writer.log new.disk faults.TraceFull (asked_by step)) (no_cause d reply old new.writer.log new.disk (asked_by step)) (unchecked works) ((one.answered faults.TraceFull).0 is)

  never_full : (fault : Fault) → reply ≡ replies.Refused fault → is_full (told_by (replies.Refused fault)) ≡ false
  never_full faults.TraceFull is = absurd (elim (cases_Bool old.failed) [
    | inl failed ↦ (let never = refused_inj faults.TraceFull faults.Failed (sym is ∙ one.told.failed failed) in cc never)
    | inr works ↦ not_full works is
  ])
  never_full faults.NoTransaction is = refl
  never_full faults.MustRollBack is = refl
  never_full faults.KeyLength is = refl
  never_full faults.RollingBack is = refl
  never_full faults.PagesFull is = refl
  never_full faults.Capacity is = refl
  never_full faults.LogFull is = refl
  never_full faults.Device is = refl
  never_full faults.Memory is = refl
  never_full faults.Failed is = refl
  never_full faults.NotAStore is = refl
  never_full faults.TooMany is = refl
  never_full faults.PoolSize is = refl
  never_full faults.Busy is = refl
  never_full faults.BadScript is = refl
  never_full faults.Unfinished is = refl
  never_full faults.Workers is = refl
  never_full faults.Locked is = refl

  has_room : (r : Reply) → reply ≡ r → is_full (told_by r) ≡ false
  has_room (replies.Refused fault) is = never_full fault is
  has_room (replies.Started n) is = refl
  has_room (replies.Found rid) is = refl
  has_room replies.Absent is = refl
  has_room (replies.Entry key rid) is = refl
  has_room replies.End is = refl
  has_room (replies.Entries list) is = refl
  has_room replies.Inserted is = refl
  has_room replies.Duplicate is = refl
  has_room replies.Deleted is = refl
  has_room replies.Committed is = refl
  has_room replies.RolledBack is = refl
  has_room replies.More is = refl
  has_room (replies.Blocked (blockers.Lock h)) is = refl
  has_room (replies.Blocked blockers.Tree) is = refl
  has_room replies.Die is = refl
  has_room replies.Done is = refl

  -- a reply that the step may have, and no refusal of the front's own
  pub step_replies : IsReply (asked_by step) (told_by reply)
  step_replies = record { suits = one.suits; room = has_room reply refl }

-- ---- who ends had begun

-- no Commit is a Continue
no_both : (step : answers.Step) → is_commit step ≡ true → is_continue step ≡ true → ⊥
no_both answers.Begin c e = cc c
no_both (answers.Do t a) c e = cc c
no_both (answers.Commit t) c e = cc e
no_both (answers.Rollback t) c e = cc c
no_both (answers.Continue t) c e = cc c
no_both (answers.RollTo t n) c e = cc c
no_both (answers.FlushPage p) c e = cc c
no_both answers.Force c e = cc c
no_both answers.Checkpoint c e = cc c
no_both answers.Switch c e = cc c

-- a step that ends a transaction is refused where there is none
no_row : (owns : Bool) (step : answers.Step) → ((is_commit step ≡ true) ⊎ (takes_back step ≡ true)) → (is_continue step ≡ true → owns ≡ false) → first_check false 0 (mark_for (marks_in []) step) owns step ≡ Some (number_of faults.NoTransaction)
no_row owns (answers.Commit t) e free = refl
no_row owns (answers.Rollback t) e free = refl
no_row owns (answers.Continue t) e free = ap (λ (o : Bool). first_check false 0 Idle o (answers.Continue t)) (free refl)
no_row owns answers.Begin (inl e) free = absurd (true≢false (sym e))
no_row owns answers.Begin (inr e) free = absurd (true≢false (sym e))
no_row owns (answers.Do t a) (inl e) free = absurd (true≢false (sym e))
no_row owns (answers.Do t a) (inr e) free = absurd (true≢false (sym e))
no_row owns (answers.RollTo t n) (inl e) free = absurd (true≢false (sym e))
no_row owns (answers.FlushPage p) (inl e) free = absurd (true≢false (sym e))
no_row owns (answers.RollTo t n) (inr e) free = absurd (true≢false (sym e))
no_row owns (answers.FlushPage p) (inr e) free = absurd (true≢false (sym e))
no_row owns answers.Force (inl e) free = absurd (true≢false (sym e))
no_row owns answers.Force (inr e) free = absurd (true≢false (sym e))
no_row owns answers.Checkpoint (inl e) free = absurd (true≢false (sym e))
no_row owns answers.Checkpoint (inr e) free = absurd (true≢false (sym e))
no_row owns answers.Switch (inl e) free = absurd (true≢false (sym e))
no_row owns answers.Switch (inr e) free = absurd (true≢false (sym e))

module _ {D : Type 0} (d : Ghosts D) (step : Step) (reply : Reply) (old new : Engine D d) (one : IsStep d step reply old new) (few : old.txns.waiting ≤ length old.txns.rows) where
  -- whose Insert or Delete goes on is not told that it is rolled back
  by_continue : old.failed ≡ false → reply ≡ replies.RolledBack → (s : answers.Step) → asked_by step ≡ s → is_continue s ≡ true → owns_in (under_of old.under) s ≡ true → ⊥
  by_continue works rolled answers.Begin same is owns = cc is
  by_continue works rolled (answers.Do t a) same is owns = cc is
  by_continue works rolled (answers.Commit t) same is owns = cc is
  by_continue works rolled (answers.Rollback t) same is owns = cc is
  by_continue works rolled (answers.RollTo t n) same is owns = cc is
  by_continue works rolled (answers.FlushPage p) same is owns = cc is
  by_continue works rolled answers.Force same is owns = cc is
  by_continue works rolled answers.Checkpoint same is owns = cc is
  by_continue works rolled answers.Switch same is owns = cc is
  by_continue works rolled (answers.Continue t) same is owns = by old.under refl owns
    where
      passed : check_of d (asked_by step) old ≡ None
      passed =
          ap (λ (s : answers.Step). check_of d s old) same
          ∙ ap (λ (b : Bool). first_check b (length old.txns.rows) (marks_in old.txns.rows t) (owns_in (under_of old.under) (answers.Continue t)) (answers.Continue t)) works
          ∙ ap (λ (o : Bool). first_check false (length old.txns.rows) (marks_in old.txns.rows t) o (answers.Continue t)) owns

      by : (o : Option Under) → old.under ≡ o → owns_in (under_of o) (answers.Continue t) ≡ true → ⊥
      by None here owns_it = cc owns_it
      by (Some u) here owns_it = owner_stays u reply t owns_it (λ own. one.paced.told passed u here (same ∙ ap (λ (n : ℕ). answers.Continue n) (sym own))) rolled

  unowned : old.failed ≡ false → reply ≡ replies.RolledBack → is_continue (asked_by step) ≡ true → owns_in (under_of old.under) (asked_by step) ≡ false
  unowned works rolled is = elim (cases_Bool (owns_in (under_of old.under) (asked_by step))) [
    | inl owns ↦ absurd (by_continue works rolled (asked_by step) refl is owns)
    | inr free ↦ free
  ]

  -- where a reply that is no refusal ended a transaction, there was one
  some_row : ((fault : Fault) → reply ≡ replies.Refused fault → ⊥) → ((is_commit (asked_by step) ≡ true) ⊎ (takes_back (asked_by step) ≡ true))
      → (old.failed ≡ false → is_continue (asked_by step) ≡ true → owns_in (under_of old.under) (asked_by step) ≡ false) → 1 ≤ length old.txns.rows
  some_row answered ends free = by old.txns.rows refl
    where
      none : old.txns.rows ≡ [] → ⊥
      none empty = elim (cases_Bool old.failed) [
        | inl failed ↦ answered faults.Failed (one.told.failed failed)
        | inr works ↦
            (let check : check_of d (asked_by step) old ≡ Some (number_of faults.NoTransaction) = ap (λ (b : Bool). first_check b (length old.txns.rows) (mark_for (marks_in old.txns.rows) (asked_by step)) (owns_in (under_of old.under) (asked_by step)) (asked_by step)) works
            ∙ ap (λ (rows : List Transaction). first_check false (length rows) (mark_for (marks_in rows) (asked_by step)) (owns_in (under_of old.under) (asked_by step)) (asked_by step)) empty ∙ no_row (owns_in (under_of old.under) (asked_by step)) (asked_by step) ends (free works) in
            answered faults.NoTransaction (one.checked faults.NoTransaction (sym check)).0)
      ]

      by : (rows : List Transaction) → old.txns.rows ≡ rows → 1 ≤ length old.txns.rows
      by [] is = absurd (none is)
      by (row ∷ rows) is = let long : length old.txns.rows ≡ length (row ∷ rows) = ap length is in omega (arith, long)

  now : (r : Reply) → reply ≡ r → length new.txns.rows ≡ (after (asked_by step) r (known_of d old)).active
  now r is = ap (λ (k : Known). k.active) one.told.known ∙ ap (λ (x : Reply). (after (asked_by step) x (known_of d old)).active) is

  waits_now : (r : Reply) → reply ≡ r → new.txns.waiting ≡ (after (asked_by step) r (known_of d old)).waiting
  waits_now r is = ap (λ (k : Known). k.waiting) one.told.known ∙ ap (λ (x : Reply). (after (asked_by step) x (known_of d old)).waiting) is

  abbrev AreCounted : Reply → Type 0
  AreCounted r = IsCounted (asked_by step) (told_by r) old.txns.waiting (length old.txns.rows) new.txns.waiting (length new.txns.rows)

  plain : length new.txns.rows ≡ length old.txns.rows → 0 + length old.txns.rows ≡ (0 + 0) + length new.txns.rows
  plain e = omega (arith, e)

  counts : (r : Reply) → reply ≡ r → AreCounted r
  counts (replies.Started n) is = let e : length new.txns.rows ≡ length old.txns.rows + 1 = now (replies.Started n) is in (omega arith, waits_now (replies.Started n) is)
  counts replies.Committed is =
      let e : length new.txns.rows ≡ length old.txns.rows - 1 = now replies.Committed is in
      let suits : is_commit (asked_by step) ≡ true = subst (λ (r : Reply). Suits (asked_by step) (told_by r)) is one.suits in
      let some = some_row (λ fault so. (let never = sym is ∙ so in cc never)) (inl suits) (λ works go_on. absurd (no_both (asked_by step) suits go_on)) in
      (omega (arith, e, some), waits_now replies.Committed is)
  counts replies.RolledBack is =
      let e : length new.txns.rows ≡ length old.txns.rows - 1 = now replies.RolledBack is in
      let suits : takes_back (asked_by step) ≡ true = subst (λ (r : Reply). Suits (asked_by step) (told_by r)) is one.suits in
      let some = some_row (λ fault so. (let never = sym is ∙ so in cc never)) (inr suits) (λ works. unowned works is) in
      (omega (arith, e, some), waits_now replies.RolledBack is)
  counts replies.More is = by (is_commit (asked_by step)) (now replies.More is) (waits_now replies.More is)
    where
      by : (b : Bool) → length new.txns.rows ≡ (if b then record (known_of d old) { waiting = old.txns.waiting + 1 } else known_of d old).active → new.txns.waiting ≡ (if b then record (known_of d old) { waiting = old.txns.waiting + 1 } else known_of d old).waiting
          → (0 + length old.txns.rows ≡ (0 + 0) + length new.txns.rows) × (new.txns.waiting ≡ (if b then old.txns.waiting + 1 else old.txns.waiting))
      by true e waits = (plain e, waits)
      by false e waits = (plain e, waits)
  counts replies.Done is = by (is_force (asked_by step)) (now replies.Done is) (waits_now replies.Done is)
    where
      by : (b : Bool) → length new.txns.rows ≡ (if b then record (known_of d old) { active = length old.txns.rows - old.txns.waiting; waiting = 0 } else known_of d old).active
          → new.txns.waiting ≡ (if b then record (known_of d old) { active = length old.txns.rows - old.txns.waiting; waiting = 0 } else known_of d old).waiting
          → (0 + length old.txns.rows ≡ ((if b then old.txns.waiting else 0) + 0) + length new.txns.rows) × (new.txns.waiting ≡ (if b then 0 else old.txns.waiting))
      by true e waits = let left : length new.txns.rows ≡ length old.txns.rows - old.txns.waiting = e in (omega (arith, left, few), waits)
      by false e waits = (plain e, waits)
  counts (replies.Refused fault) is = (plain (now (replies.Refused fault) is), waits_now (replies.Refused fault) is)
  counts (replies.Found rid) is = (plain (now (replies.Found rid) is), waits_now (replies.Found rid) is)
  counts replies.Absent is = (plain (now replies.Absent is), waits_now replies.Absent is)
  counts (replies.Entry key rid) is = (plain (now (replies.Entry key rid) is), waits_now (replies.Entry key rid) is)
  counts replies.End is = (plain (now replies.End is), waits_now replies.End is)
  counts (replies.Entries list) is = (plain (now (replies.Entries list) is), waits_now (replies.Entries list) is)
  counts replies.Inserted is = (plain (now replies.Inserted is), waits_now replies.Inserted is)
  counts replies.Duplicate is = (plain (now replies.Duplicate is), waits_now replies.Duplicate is)
  counts replies.Deleted is = (plain (now replies.Deleted is), waits_now replies.Deleted is)
  counts (replies.Blocked (blockers.Lock h)) is = (plain (now (replies.Blocked (blockers.Lock h)) is), waits_now (replies.Blocked (blockers.Lock h)) is)
  counts (replies.Blocked blockers.Tree) is = (plain (now (replies.Blocked blockers.Tree) is), waits_now (replies.Blocked blockers.Tree) is)
  counts replies.Die is = (plain (now replies.Die is), waits_now replies.Die is)

  pub step_counts : AreCounted reply
  step_counts = counts reply refl

-- ---- a look

-- leaves as many active
pub looks_rows : {D : Type 0} (d : Ghosts D) (why : Option below.Fault) (old new : Engine D d) → Looks d why old new → new.txns.rows ≡ old.txns.rows
looks_rows {D = D} d why old new looks = ap (λ (x : Numbered). x.rows) (looks_txns d why old new looks)

pub looks_active : {D : Type 0} (d : Ghosts D) (why : Option below.Fault) (old new : Engine D d) → Looks d why old new → length new.txns.rows ≡ length old.txns.rows
looks_active {D = D} d why old new looks = ap (λ (x : Numbered). length x.rows) (looks_txns d why old new looks)
