-- What a step by a key makes of the call below it: from what that call says of each thing that it may come to, to what was made of the one that it came to.
use Rattle.std.proofs.Common.{◌≡◌, ◌⊎◌, ℕ, List, true, false, length, Result, Ok, Err, IfOk, IfErr, map, refl, sym, ap, subst, ◌∙◌}
use Rattle.im_base_types.specs.Answers as answers
use Rattle.im_base_types.specs.Answers.{Access, Do}
use Rattle.im_base_types.specs.Changes.{Effect}
use Rattle.im_base_types.specs.Faults.{number_of}
use Rattle.im_base_types.specs.Lives.{Shown}
use Rattle.im_base_types.specs.declared.fault.Fault.{Fault}
use Rattle.im_base_types.specs.declared.fault.Fault.TheVariants.{Memory, PagesFull}
use Rattle.im_base_types.specs.declared.fault.Fault.TheVariants as faults
use Rattle.im_base_disk.specs.declared.disk.Disk.{Ghosts}
use Rattle.im_base_steps.specs.declared.reply.Blocker.TheVariants as blockers
use Rattle.im_base_steps.specs.declared.reply.Reply.{Reply}
use Rattle.im_base_steps.specs.declared.reply.Reply.TheVariants as replies
use Rattle.im_base_steps.specs.Calls.{told_by}
use Rattle.im_base_steps.specs.Replies.{Suits, SuitsAtOnce}
use Rattle.im_base_txn.specs.Rows.{changed, with_mark}
use Rattle.im_base_txn.specs.declared.transaction.Mark.TheVariants.{MustRollBack}
use Rattle.im_base_txn.specs.declared.transaction.Transaction.{Transaction}
use Rattle.im_theory_log.specs.Histories.{Base}
use Rattle.im_page_writer.specs.declared.page_writer.PageWriter.{PageWriter}
use Rattle.im_theory_machine.specs.Table.{SameTable, Table}
use Rattle.im_theory_machine.specs.View.{View}
use Rattle.im_tree_search.specs.declared.sight.Sight.{Sight}
use Rattle.im_tree_search.specs.declared.sight.Sight.TheVariants.{Seen, Hidden}
use Rattle.im_engine_access.specs.declared.lock_answer.LockAnswer.{LockAnswer}
use Rattle.im_engine_access.specs.declared.lock_answer.LockAnswer.TheVariants.{Granted, Wait, Die}
use Rattle.im_engine.specs.declared.engine.Engine.{Engine}
use Rattle.im_engine.specs.Accesses.{Rest, answer_in, failed_in, rest_of, rows_in}
use Rattle.im_engine.specs.Faults.{told_as, ends_engine}
use Rattle.im_engine.specs.Kept.{StepKept}
use Rattle.im_engine.specs.Numbered.{Numbered, besides_rows}
use Rattle.im_engine.specs.Running.{IsLife, IsRunning}
use Rattle.im_engine.specs.Told.{Fixed, HasNext, IsAnswered, IsIdle, IsMade, IsPaced, Known, SuitsGroup, WantsHere, after, fixed_of, is_early}
use Rattle.im_engine.proofs.Telling.{is_refused, told_answered, told_refused}

-- ---- what the engine has of the call below

module _ {D : Type 0} (d : Ghosts D) (new : Engine D d) (writer : PageWriter) (disk : D) (locks : Table) (fixed : Fixed) (room : List ℕ) (rest : rest_of d new ≡ (writer, disk, locks, fixed, room)) where
  pub rest_here : (P : PageWriter → D → Table → Type 0) → P writer disk locks → P new.writer new.disk new.locks
  rest_here P has = subst (λ (x : Rest D). P x.0 x.1 x.2) (sym rest) has

  pub rest_fixed : fixed_of d new ≡ fixed
  rest_fixed = λ j. (rest j).3

-- no row was marked
pub same_rows : (old new : Numbered) (rows : List Transaction) → rows ≡ old.rows → new ≡ record old { rows = rows } → new ≡ old
same_rows old new rows same is = is ∙ ap (λ (r : List Transaction). record old { rows = r }) same

-- and then a record is noted
pub noted_rows : (old mid new : Numbered) (rows : List Transaction) (f : Transaction → Transaction) → rows ≡ old.rows → mid ≡ record old { rows = rows } → new ≡ record mid { rows = map f mid.rows } → new ≡ record old { rows = map f old.rows }
noted_rows old mid new rows f same is table = table ∙ ap (λ (x : Numbered). record x { rows = map f x.rows }) (same_rows old mid rows same is)

-- ---- by what it came to

module _ {D : Type 0} (d : Ghosts D) (t : ℕ) (a : Access) (old new : Engine D d) {X : Type 0} (Below : Result (Sight (LockAnswer X)) Fault → Type 0) (came : Result (Sight (LockAnswer X)) Fault) (has : Below came) (fails : new.failed ≡ failed_in came) where
  -- where the value was granted, what the call says there; the engine works, and no row was marked
  abbrev pub Granting : X → Type 0
  Granting y = Below (Ok (Seen (Granted y))) × (new.failed ≡ false) × (rows_in t came old.txns.rows ≡ old.txns.rows)

  granted_as : (r : Result (Sight (LockAnswer X)) Fault) → Below r → came ≡ r → new.failed ≡ failed_in r → IfOk (answer_in r) Granting
  granted_as (Ok (Seen (Granted y))) at is on = (at, on, ap (λ (x : Result (Sight (LockAnswer X)) Fault). rows_in t x old.txns.rows) is)
  granted_as (Ok (Seen (Wait holder))) at is on = tt
  granted_as (Ok (Seen Die)) at is on = tt
  granted_as (Ok Hidden) at is on = tt
  granted_as (Err f) at is on = tt

  pub granted_at : (y : X) → Ok y ≡ answer_in came → Granting y
  granted_at y so = subst (λ (r : Result X Reply). IfOk r Granting) (sym so) (granted_as came has refl fails)

  -- where it was not, the step is answered as each of these says
  module _ (waits : (holder : ℕ) → Below (Ok (Seen (Wait holder))) → new.failed ≡ false → new.txns ≡ old.txns → IsMade d (Do t a) (replies.Blocked (blockers.Lock holder)) old new)
      (dies : Below (Ok (Seen Die)) → new.failed ≡ false → new.txns ≡ record old.txns { rows = map (changed t (with_mark MustRollBack)) old.txns.rows } → IsMade d (Do t a) replies.Die old new)
      (hidden : Below (Ok Hidden) → new.failed ≡ false → new.txns ≡ old.txns → IsMade d (Do t a) (replies.Blocked blockers.Tree) old new)
      (refused : (f : Fault) → Below (Err f) → new.failed ≡ ends_engine f → new.txns ≡ old.txns → IsMade d (Do t a) (replies.Refused (told_as f)) old new) where
    other_as : (r : Result (Sight (LockAnswer X)) Fault) → Below r → new.failed ≡ failed_in r → new.txns ≡ record old.txns { rows = rows_in t r old.txns.rows } → IfErr (answer_in r) (λ reply. IsMade d (Do t a) reply old new)
    other_as (Ok (Seen (Granted y))) at on table = tt
    other_as (Ok (Seen (Wait holder))) at on table = waits holder at on table
    other_as (Ok (Seen Die)) at on table = dies at on table
    other_as (Ok Hidden) at on table = hidden at on table
    other_as (Err f) at on table = refused f at on table

    pub other_at : new.txns ≡ record old.txns { rows = rows_in t came old.txns.rows } → (reply : Reply) → Err reply ≡ answer_in came → IsMade d (Do t a) reply old new
    other_at table reply so = subst (λ (r : Result X Reply). IfErr r (λ z. IsMade d (Do t a) z old new)) (sym so) (other_as came has fails table)

-- ---- exits of such a step

module _ {D : Type 0} (d : Ghosts D) (t : ℕ) (a : Access) (old new : Engine D d) where
  -- it was told something that is no refusal
  pub record IsPlain (reply : Reply) : Type 0 where
    pub stays : (k : Known) → after (Do t a) reply k ≡ k
    pub late : is_early reply ≡ false
    pub answered : is_refused reply ≡ false
    pub number : HasNext reply old.txns.next
    pub suits : Suits (Do t a) (told_by reply)
    pub at_once : old.stepped ≡ false → SuitsAtOnce (Do t a) (told_by reply)
    pub grouped : SuitsGroup (Do t a) reply old.txns

  pub exit_made : (IsIdle d (Do t a) old → new.disk ≡ old.disk) → (works : old.failed ≡ false) (fixed : fixed_of d new ≡ fixed_of d old) (reply : Reply) → IsPlain reply → besides_rows new.txns ≡ besides_rows old.txns → length new.txns.rows ≡ length old.txns.rows → new.failed ≡ false → d.failed new.disk ≡ false → new.writer.pool.frames ≡ old.writer.pool.frames
      → ((before : List Effect) (s : Shown) (v : View) → IsLife d before s v old → StepKept d before s v (Do t a) (told_by reply) old new) → IsAnswered d (Do t a) reply old new → IsPaced d (Do t a) reply old new
      → ((b : Base) (before : List Effect) (s : Shown) (v : View) (r : IsRunning d b before s v old) → WantsHere d b before s v r (Do t a) reply new) → IsMade d (Do t a) reply old new
  exit_made quiet works fixed reply plain rest rows works_on alive frames kept answered paced wants = record {
    kept = kept;
    told = told_answered d old new works rest fixed reply plain.stays plain.late plain.answered plain.number works_on rows alive;
    answered = answered;
    suits = plain.suits;
    at_once = plain.at_once;
    paced = paced;
    grouped = plain.grouped;
    frames = frames;
    wants = wants;
    quiet = quiet;
    costs = tt;
  }

  pub waits_plain : (holder : ℕ) → IsPlain (replies.Blocked (blockers.Lock holder))
  waits_plain holder = record { stays = λ k. refl; late = refl; answered = refl; number = tt; suits = refl; at_once = λ _. refl; grouped = tt }

  pub dies_plain : IsPlain replies.Die
  dies_plain = record { stays = λ k. refl; late = refl; answered = refl; number = tt; suits = refl; at_once = λ _. refl; grouped = tt }

  -- a call below refused it
  pub refused_made : (IsIdle d (Do t a) old → new.disk ≡ old.disk) → (works : old.failed ≡ false) (fixed : fixed_of d new ≡ fixed_of d old) (f : Fault) → new.failed ≡ ends_engine f → new.txns ≡ old.txns → ((f ≡ Memory) ⊎ (f ≡ PagesFull) → SameTable old.locks new.locks) → (d.failed new.disk ≡ true → told_as f ≡ faults.Device) → new.writer.pool.frames ≡ old.writer.pool.frames
      → ((before : List Effect) (s : Shown) (v : View) → IsLife d before s v old → StepKept d before s v (Do t a) (answers.Refused (number_of (told_as f))) old new) → IsAnswered d (Do t a) (replies.Refused (told_as f)) old new → IsPaced d (Do t a) (replies.Refused (told_as f)) old new
      → ((b : Base) (before : List Effect) (s : Shown) (v : View) (r : IsRunning d b before s v old) → WantsHere d b before s v r (Do t a) (replies.Refused (told_as f)) new) → IsMade d (Do t a) (replies.Refused (told_as f)) old new
  refused_made quiet works fixed f fails table locks lost frames kept answered paced wants = record {
    kept = kept;
    told = told_refused d old new works (ap besides_rows table) fixed f (told_as f) refl fails table locks lost;
    answered = answered;
    suits = tt;
    at_once = λ _. tt;
    paced = paced;
    grouped = tt;
    frames = frames;
    wants = wants;
    quiet = quiet;
    costs = tt;
  }
