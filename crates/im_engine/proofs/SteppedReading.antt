-- The exits of an access that changes nothing, beside a structure change, by what the call below it came to.
use Rattle.std.proofs.Common.{◌≡◌, ◌≢◌, inl, ℕ, ◌≤◌, List, [], Bool, true, false, length, Option, None, Result, Ok, Err, IfOk, OnErr, Vec, Global, refl, sym, ap, subst, ◌∙◌}
use Rattle.std.specs.Prelude.{map}
use Rattle.std.specs.FinMap.{entries}
use Rattle.std.proofs.lemmas.List.{length-map}
use Rattle.im_base_types.specs.Answers as answers
use Rattle.im_base_types.specs.Answers.{Access, Fetch, Seek, Next, Prev, Scan, Insert, Delete, Do, changes, limit_of}
use Rattle.im_base_types.specs.Changes.{Effect}
use Rattle.im_base_types.specs.Keys.{Key}
use Rattle.im_base_types.specs.Faults.{number_of}
use Rattle.im_base_types.specs.Lives.{Shown}
use Rattle.im_base_types.specs.Maps.{IndexMap}
use Rattle.im_base_types.specs.Refusals.{memory}
use Rattle.im_base_types.specs.declared.fault.Fault.{Fault}
use Rattle.im_base_disk.specs.declared.disk.Disk.{Ghosts}
use Rattle.im_base_disk.specs.Disk.{Files}
use Rattle.im_base_steps.specs.declared.reply.Blocker.TheVariants as blockers
use Rattle.im_base_steps.specs.declared.reply.Reply.{Reply}
use Rattle.im_base_steps.specs.declared.reply.Reply.TheVariants as replies
use Rattle.im_base_steps.specs.Calls.{told_by}
use Rattle.im_base_steps.specs.Replies.{is_search}
use Rattle.im_base_txn.specs.Rows.{changed, with_mark}
use Rattle.im_base_txn.specs.declared.transaction.Mark.TheVariants.{MustRollBack}
use Rattle.im_theory_log.specs.Histories.{Base}
use Rattle.im_theory_log.specs.Structure.{settled}
use Rattle.im_page_writer.specs.declared.page_writer.PageWriter.{PageWriter}
use Rattle.im_page_writer.specs.Outcome.{fault_of, AllPages, IsSound}
use Rattle.im_page_writer.specs.PageWriter.{Evicted}
use Rattle.im_restart_undo.specs.Undoing.{HasBegun}
use Rattle.im_theory_machine.specs.Locks.{Lock}
use Rattle.im_theory_machine.specs.Machine.{Wants}
use Rattle.im_theory_machine.specs.Table.{SameLasting, SameTable, Table, locks_of}
use Rattle.im_theory_machine.specs.View.{View, Under as Changing, owns_in}
use Rattle.im_theory_steps.specs.Checks.{checked_by}
use Rattle.im_theory_tree.specs.Levels.{Pages, walk}
use Rattle.im_tree_search.specs.declared.change_beside.Beside.{Beside}
use Rattle.im_tree_search.specs.declared.sight.Sight.{Sight}
use Rattle.im_tree_search.specs.declared.sight.Sight.TheVariants.{Seen, Hidden}
use Rattle.im_tree_search.specs.HeldPages.{HoldsOn}
use Rattle.im_tree_search.specs.Levels.{bodies_of}
use Rattle.im_tree_search.specs.Sights.{HasTreeBut, IfSeen}
use Rattle.im_engine_access.specs.declared.lock_answer.LockAnswer.{LockAnswer}
use Rattle.im_engine_access.specs.declared.lock_answer.LockAnswer.TheVariants.{Granted, Wait, Die}
use Rattle.im_engine_access.specs.LockAnswers.{IfGranted, seek_at}
use Rattle.im_engine_access.specs.LockCalls.{AsksLocks}
use Rattle.im_engine_access.specs.Reads.{IsRead, IsReadBeside}
use Rattle.im_engine.specs.declared.engine.Engine.{Engine}
use Rattle.im_engine.specs.Accesses.{answer_in, failed_in, rest_of, rows_in}
use Rattle.im_engine.specs.Aims.{IsBesideOf, under_of}
use Rattle.im_engine.specs.Faults.{told_as, ends_engine}
use Rattle.im_engine.specs.Kept.{StepKept}
use Rattle.im_engine.specs.Numbered.{Numbered, besides_rows}
use Rattle.im_engine.specs.Running.{IsLife, IsRunning}
use Rattle.im_engine.specs.Told.{IsBlockedBy, IsIdle, IsMade, WantsHere, WantsOf, fixed_of}
use Rattle.im_engine.proofs.Answered.{IsPlain, dies_plain, exit_made, granted_at, other_at, refused_made, rest_fixed, rest_here, same_rows, waits_plain}
use Rattle.im_engine.proofs.Causes.{read_answered, read_cause, read_refused, reads}
use Rattle.im_engine.proofs.Telling.{is_refused, read_lost}
use Rattle.im_engine.proofs.SteppedPaces.{blocked_by, paced_read}
use Rattle.im_engine.proofs.Reading.{dies, granted, refused, waits}
use Rattle.im_engine.proofs.Running.{read_on, read_stops}
use Rattle.im_engine.proofs.SteppedMade.{tree_made}
use Rattle.im_engine.proofs.SteppedReads.{hidden_here, seen_here}
use Rattle.im_engine.proofs.SteppedTold.{tree_here, walk_here}
use Rattle.im_engine.proofs.Looked.{not_true}

-- it wants nothing
reads_want : (pages : Pages) (m : IndexMap) (Idle : Type 0) (stepped : Bool) (was now : Option Changing) (Begun : ℕ → Type 0) (nets : ℕ → Effect) (locks : ℕ → List Lock) (dense : Bool) (max t : ℕ) (a : Access) → reads a ≡ true → (reply : Reply) → WantsOf pages m Idle stepped was now Begun nets locks dense max (Do t a) reply
reads_want pages m Idle stepped was now Begun nets locks dense max t (Fetch k) is reply = tt
reads_want pages m Idle stepped was now Begun nets locks dense max t (Seek k) is reply = tt
reads_want pages m Idle stepped was now Begun nets locks dense max t (Next k) is reply = tt
reads_want pages m Idle stepped was now Begun nets locks dense max t (Prev k) is reply = tt
reads_want pages m Idle stepped was now Begun nets locks dense max t (Scan lo hi n) is reply = tt
reads_want pages m Idle stepped was now Begun nets locks dense max t (Insert k r) is reply = absurd (cc is)
reads_want pages m Idle stepped was now Begun nets locks dense max t (Delete k) is reply = absurd (cc is)

-- and wants memory for the locks
reads_want_memory : (t : ℕ) (a : Access) → reads a ≡ true → Wants (Do t a) memory
reads_want_memory t (Fetch k) is = refl
reads_want_memory t (Seek k) is = refl
reads_want_memory t (Next k) is = refl
reads_want_memory t (Prev k) is = refl
reads_want_memory t (Scan lo hi n) is = refl
reads_want_memory t (Insert k r) is = absurd (cc is)
reads_want_memory t (Delete k) is = absurd (cc is)

-- it changes nothing
reads_change : (a : Access) → reads a ≡ true → (m : IndexMap) → changes a m ≡ []
reads_change (Fetch k) is m = refl
reads_change (Seek k) is m = refl
reads_change (Next k) is m = refl
reads_change (Prev k) is m = refl
reads_change (Scan lo hi n) is m = refl
reads_change (Insert k r) is m = absurd (cc is)
reads_change (Delete k) is m = absurd (cc is)

-- a reply that is no refusal, and one that does not find the tree blocked
pub never_refused : (reply : Reply) → is_refused reply ≡ false → (x : Fault) → reply ≢ replies.Refused x
never_refused reply plain x is = not_true (is_refused reply) plain (ap is_refused is)

abbrev pub is_tree : answers.Reply → Bool
is_tree answers.BlockedTree = true
is_tree reply = false

pub unblocked : (reply : answers.Reply) → is_tree reply ≡ false → reply ≢ answers.BlockedTree
unblocked reply not is = not_true (is_tree reply) not (ap is_tree is)

-- ---- by what the call below came to

-- what the call below says of what it came to, and of what it left
module _ {D : Type 0} (d : Ghosts D) (t : ℕ) (a : Access) (old : Engine D d) (beside : Beside) {X : Type 0} (says : X → answers.Reply) where
  pub record ReadsBelow (came : Result (Sight (LockAnswer X)) Fault) (writer : PageWriter) (disk : D) (locks : Table) : Type 0 where
    pub outcome : AsksLocks d old.writer old.disk writer disk (fault_of came)
    pub kept : (pages : AllPages) (m : IndexMap) → HasTreeBut d pages beside old.writer old.disk → walk (bodies_of pages) ≡ entries m → IsSound came (IsReadBeside says t a m (bodies_of pages) beside old.locks locks)
    pub table : OnErr came (SameTable old.locks locks)
    pub lasting : OnErr came (SameLasting old.locks locks)
    pub quiet : IsIdle d (Do t a) old → disk ≡ old.disk

module _ {D : Type 0} (d : Ghosts D) (t : ℕ) (a : Access) (is : reads a ≡ true) (old new : Engine D d) (works : old.failed ≡ false) (checked : checked_by old.txns.rows (owns_in (under_of old.under) (Do t a)) (Do t a) ≡ None) (beside : Beside) (told_it : IsBesideOf old.under beside) (same : new.under ≡ old.under)
    (writer : PageWriter) (disk : D) (locks : Table) (rest : rest_of d new ≡ (writer, disk, locks, fixed_of d old, old.room.items)) {X : Type 0} (says : X → answers.Reply) where
  fixed : fixed_of d new ≡ fixed_of d old
  fixed = rest_fixed d new writer disk locks (fixed_of d old) old.room.items rest

  abbrev Below : Result (Sight (LockAnswer X)) Fault → Type 0
  Below r = ReadsBelow d t a old beside says r new.writer new.disk new.locks

  wants : (reply : Reply) (b : Base) (before : List Effect) (s : Shown) (v : View) (r : IsRunning d b before s v old) → WantsHere d b before s v r (Do t a) reply new
  wants reply b before s v r = reads_want (settled b r.now.log) v.walk (Evicted d b r.base r.now old.disk new.writer new.disk) old.stepped (under_of old.under) (under_of new.under) (λ u. HasBegun d b r.base r.now u new.writer new.disk) (λ u. (v.txns u).net) (locks_of old.locks) old.dense old.max_pages t a is reply

  plainly : (o : Sight (LockAnswer X)) → Below (Ok o) → new.failed ≡ false → (reply : Reply) → IsPlain d t a old new reply → besides_rows new.txns ≡ besides_rows old.txns → length new.txns.rows ≡ length old.txns.rows
      → ((before : List Effect) (s : Shown) (v : View) → IsLife d before s v old → StepKept d before s v (Do t a) (told_by reply) old new)
      → (told_by reply ≡ answers.BlockedTree → (b : Base) (before : List Effect) (s : Shown) (v : View) (r : IsRunning d b before s v old) → IsBlockedBy d b before s v (Do t a) old r) → IsMade d (Do t a) reply old new
  plainly o has on reply plain others rows kept tree =
      exit_made d t a old new has.quiet works fixed reply plain others rows on has.outcome.ends.alive has.outcome.frames kept (read_answered d old new.writer.log new.disk works t a is checked reply (never_refused reply plain.answered))
      (paced_read d t a old checked new is same reply tree) (wants reply)

  read_at : (x : LockAnswer X) → Below (Ok (Seen x)) → (before : List Effect) (s : Shown) (v : View) → IsLife d before s v old → IsRead says t a v.walk old.locks new.locks x
  read_at x has before s v life = seen_here d t a old new beside before s v (life.running works).1 told_it says (Seen x) has.kept x refl

  -- granted, with its answer
  made_granted : (y : X) → Below (Ok (Seen (Granted y))) → new.failed ≡ false → (reply : Reply) → IsPlain d t a old new reply → says y ≡ told_by reply → is_tree (told_by reply) ≡ false → new.txns ≡ old.txns → IsMade d (Do t a) reply old new
  made_granted y has on reply plain told not table =
      plainly (Seen (Granted y)) has on reply plain (ap besides_rows table) (ap (λ (z : Numbered). length z.rows) table)
      (λ before s v life. granted d before s v t a old new life works checked (reads_change a is v.walk) says (Granted y) (read_at (Granted y) has before s v life) y refl (told_by reply) told has.outcome table on same) (λ clash. absurd (unblocked (told_by reply) not clash))

  -- it has to wait
  made_waits : (holder : ℕ) → Below (Ok (Seen (Wait holder))) → new.failed ≡ false → new.txns ≡ old.txns → IsMade d (Do t a) (replies.Blocked (blockers.Lock holder)) old new
  made_waits holder has on table =
      plainly (Seen (Wait holder)) has on (replies.Blocked (blockers.Lock holder)) (waits_plain d t a old new holder) (ap besides_rows table) (ap (λ (z : Numbered). length z.rows) table)
      (λ before s v life. waits d before s v t a old new life works checked says (Wait holder) (read_at (Wait holder) has before s v life) holder refl has.outcome table on same) (λ clash. absurd (let never : answers.Blocked holder ≡ answers.BlockedTree = clash in cc never))

  -- its transaction must die
  made_dies : Below (Ok (Seen Die)) → new.failed ≡ false → new.txns ≡ record old.txns { rows = map (changed t (with_mark MustRollBack)) old.txns.rows } → IsMade d (Do t a) replies.Die old new
  made_dies has on table =
      plainly (Seen Die) has on replies.Die (dies_plain d t a old new) (ap besides_rows table) (ap (λ (z : Numbered). length z.rows) table ∙ length-map old.txns.rows (changed t (with_mark MustRollBack)))
      (λ before s v life. dies d before s v t a old new life works checked says Die (read_at Die has before s v life) refl has.outcome table on same) (λ clash. absurd (let never : answers.Die ≡ answers.BlockedTree = clash in cc never))

  -- the structure change of another stands in its way
  made_hidden : Below (Ok Hidden) → new.failed ≡ false → new.txns ≡ old.txns → IsMade d (Do t a) (replies.Blocked blockers.Tree) old new
  made_hidden has on table =
      plainly Hidden has on (replies.Blocked blockers.Tree) (record { stays = λ k. refl; late = refl; answered = refl; number = tt; suits = refl; at_once = λ _. refl; grouped = tt }) (ap besides_rows table) (ap (λ (z : Numbered). length z.rows) table)
      (λ before s v life.
      let r = (life.running works).1 in
      let by = hidden_here d t a old new beside before s v r told_it says Hidden has.kept refl in
      tree_made d t a old checked before s v r new same (read_on d before s v old r new.writer new.disk has.outcome.ends) (read_stops d before s v old r new.writer new.disk has.outcome) on by.0 by.1 by.4 table)
      (λ so b before s v r. let by = hidden_here d t a old new beside before s v r told_it says Hidden has.kept refl in blocked_by d t a old checked before s v r by.0 by.1 beside by.2 (inl by.3))

  -- the call below refused it
  made_refused : ((u : ℕ) (c : Files) → u ≤ d.moment new.disk → d.may_leave new.disk c → d.left_since new.disk u c) → (f : Fault) → Below (Err f) → new.failed ≡ ends_engine f → new.txns ≡ old.txns → IsMade d (Do t a) (replies.Refused (told_as f)) old new
  made_refused counts_now f has fails table =
      refused_made d t a old new has.quiet works fixed f fails table (λ _. has.table) (λ lost. read_lost d old.writer old.disk new.writer new.disk lost f has.outcome.ends (old.working works)) has.outcome.frames
      (λ before s v life.
      let r = (life.running works).1 in
      refused d before s v t a old new life works checked counts_now f (reads_want_memory t a is) has.outcome (has.kept _ v.walk (tree_here d before s v old r beside told_it).tree (walk_here d before s v old r beside told_it)) fails table (has.table, has.lasting) (told_as f) refl same)
      (read_refused d old new.writer.log new.disk works t a is checked f (told_as f) refl (read_cause d old.writer old.disk new.writer new.disk f has.outcome.ends (old.working works)))
      (paced_read d t a old checked new is same (replies.Refused (told_as f)) (λ clash. absurd (let never : answers.Refused (number_of (told_as f)) ≡ answers.BlockedTree = clash in cc never))) (wants (replies.Refused (told_as f)))

  module _ (came : Result (Sight (LockAnswer X)) Fault) (has : ReadsBelow d t a old beside says came writer disk locks) (fails : new.failed ≡ failed_in came) (table : new.txns ≡ record old.txns { rows = rows_in t came old.txns.rows }) where
    below : Below came
    below = rest_here d new writer disk locks (fixed_of d old) old.room.items rest (ReadsBelow d t a old beside says came) has

    -- the value that was granted is its answer
    pub made_answered : (y : X) → Ok y ≡ answer_in came → (reply : Reply) → IsPlain d t a old new reply → says y ≡ told_by reply → is_tree (told_by reply) ≡ false → IsMade d (Do t a) reply old new
    made_answered y so reply plain told not =
        let at = granted_at d t a old new Below came below fails y so in
        made_granted y at.0 at.1 reply plain told not (same_rows old.txns new.txns (rows_in t came old.txns.rows) at.2 table)

    -- none was
    pub made_otherwise : ((u : ℕ) (c : Files) → u ≤ d.moment new.disk → d.may_leave new.disk c → d.left_since new.disk u c) → (reply : Reply) → Err reply ≡ answer_in came → IsMade d (Do t a) reply old new
    made_otherwise counts_now reply so = other_at d t a old new Below came below fails made_waits made_dies made_hidden (made_refused counts_now) table reply so

-- both searches are
pub seeks_search : (t : ℕ) (inclusive : Bool) (key : Key) → is_search (Do t (seek_at inclusive key)) ≡ true
seeks_search t true key = refl
seeks_search t false key = refl

-- and ask nothing of the disk where the same pages are held
pub seeks_idle : {D : Type 0} (d : Ghosts D) (t : ℕ) (inclusive : Bool) (key : Key) (e : Engine D d) → IsIdle d (Do t (seek_at inclusive key)) e → (set : ℕ → Bool) × HoldsOn key e.writer.pool set
seeks_idle d t true key e idle = idle
seeks_idle d t false key e idle = idle

-- a scan answers no more than its limit
most_as : (limit : ℕ) (came : Result (Sight (LockAnswer (Vec (List ℕ × ℕ) Global))) Fault) → IfOk came (IfSeen (λ x. IfGranted x (λ l. length l.items ≤ limit_of limit)) (Unit {0})) → IfOk (answer_in came) (λ l. length l.items ≤ limit_of limit)
most_as limit (Ok (Seen (Granted l))) most = most
most_as limit (Ok (Seen (Wait holder))) most = tt
most_as limit (Ok (Seen Die)) most = tt
most_as limit (Ok Hidden) most = tt
most_as limit (Err f) most = tt

pub scan_most : (limit : ℕ) (came : Result (Sight (LockAnswer (Vec (List ℕ × ℕ) Global))) Fault) (list : Vec (List ℕ × ℕ) Global) → Ok list ≡ answer_in came → IfOk came (IfSeen (λ x. IfGranted x (λ l. length l.items ≤ limit_of limit)) (Unit {0})) → length list.items ≤ limit_of limit
scan_most limit came list so most = subst (λ (r : Result (Vec (List ℕ × ℕ) Global) Reply). IfOk r (λ l. length l.items ≤ limit_of limit)) (sym so) (most_as limit came most)
