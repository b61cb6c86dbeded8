-- An insert of a key, from how the call below ended.
use Rattle.std.proofs.Common.{◌≡◌, ◌≢◌, ◌⊎◌, inl, inr, ⊎_elim, ℕ, ◌≤◌, List, [], ◌∷◌, true, false, cond, is_some, Option, Some, None, Result, Ok, Err, map, refl, sym, ap, subst, ◌∙◌, Bool}
use Rattle.std.specs.Prelude.{find}
use Rattle.std.specs.FinMap.{get}
use Rattle.im_base_types.specs.Answers as answers
use Rattle.im_base_types.specs.Answers.{Insert, Do, Refused, Reply, answer}
use Rattle.im_base_types.specs.Changes.{Effect, Put}
use Rattle.im_theory_log.specs.Histories.{Base, History}
use Rattle.im_base_types.specs.Keys.{Key}
use Rattle.im_theory_log.specs.Lawful.{IsLawful}
use Rattle.im_theory_log.specs.Lawful as lawful
use Rattle.im_base_types.specs.Lives.{Shown}
use Rattle.im_base_types.specs.Maps.{IndexMap}
use Rattle.im_base_types.specs.Records.{InsertKey, Logged}
use Rattle.im_base_types.specs.Refusals.{pages_full}
use Rattle.im_theory_log.specs.Structure.{open_smo, settled}
use Rattle.im_theory_log.specs.Transactions.{contents}
use Rattle.im_theory_log.specs.Writer.{Writer}
use Rattle.im_base_types.specs.declared.fault.Fault.{Fault}
use Rattle.im_base_types.specs.declared.fault.Fault.TheVariants.{Capacity, Device, Failed, LogFull, Memory, NotAStore, PagesFull}
use Rattle.im_base_disk.specs.declared.disk.Disk.{Ghosts}
use Rattle.im_base_disk.specs.Disk.{Files}
use Rattle.im_base_disk.specs.Runs.{LeavesOnly}
use Rattle.im_log.specs.declared.log_file.LogFile.{LogFile}
use Rattle.im_page_table.specs.DirtyTable.{FitsRecord}
use Rattle.im_page_writer.specs.declared.page_writer.PageWriter.{PageWriter}
use Rattle.im_page_writer.specs.Outcome.{LogEnds, pages_of}
use Rattle.im_page_writer.specs.PageWriter.{Evicted}
use Rattle.im_theory_tree.specs.Levels.{Pages}
use Rattle.im_theory_tree.specs.Theory.{page_tree}
use Rattle.im_theory_tree.proofs.TheoryLaws.{page_tree_laws}
use Rattle.im_tree_search.specs.Levels.{bodies_of}
use Rattle.im_smo_split.specs.Kept.{mild_to_split}
use Rattle.im_smo_split.specs.Plan.{IsOver, IsWithin}
use Rattle.im_smo_split.specs.Tops.{LacksRoomFor}
use Rattle.im_smo_actions.specs.Structure.{IsUsedUp}
use Rattle.im_base_txn.specs.declared.transaction.Mark.TheVariants.{Going, MustRollBack}
use Rattle.im_base_txn.specs.declared.transaction.Transaction.{Transaction}
use Rattle.im_base_txn.specs.Rows.{is_of, changed, with_mark}
use Rattle.im_base_txn.proofs.LookUps.{look_ups_follow}
use Rattle.im_theory_machine.specs.Locks.{Lock, IsFree}
use Rattle.im_theory_machine.specs.Rows.{asked}
use Rattle.im_theory_machine.specs.Table.{Table, Decides, locks_of, lasting_of}
use Rattle.im_theory_machine.specs.declared.verdict.Verdict.TheVariants.{Granted as GrantedAll}
use Rattle.im_theory_machine.specs.View.{View, did, owns_in}
use Rattle.im_theory_machine.specs.Machine.{Breaks, barred, keys_fit}
use Rattle.im_base_types.specs.declared.fault.Fault.TheVariants as faults
use Rattle.im_base_steps.specs.declared.reply.Reply as said
use Rattle.im_base_steps.specs.declared.reply.Reply.TheVariants as replies
use Rattle.im_base_types.specs.Faults.{number_of}
use Rattle.im_theory_steps.specs.Checks.{checked_by}
use Rattle.im_theory_steps.specs.Growth.{GrowsWithin}
use Rattle.im_theory_steps.specs.Serving.{IsServed}
use Rattle.im_theory_steps.specs.Steps.{IsOnTheWay, key_record, with_made}
use Rattle.im_theory_steps.proofs.Cited.{inserts_served, lacks_served, ways_lead_on}
use Rattle.im_engine_access.specs.declared.noted.Noted.{Noted}
use Rattle.im_engine_access.specs.declared.lock_answer.LockAnswer.{LockAnswer}
use Rattle.im_engine_access.specs.declared.lock_answer.LockAnswer.TheVariants.{Granted, Wait, Die}
use Rattle.im_engine_access.specs.Edits.{MayEdit, Inserted, InsertKept, IsLimited}
use Rattle.im_engine_access.specs.KeyLogs.{LeavesEdit}
use Rattle.im_engine_access.proofs.KeyLogs.{grows_within}
use Rattle.im_engine.specs.declared.engine.Engine.{Engine}
use Rattle.im_engine.specs.Faults.{told_as, ends_engine}
use Rattle.im_engine.specs.Running.{IsRunning, IsLife}
use Rattle.im_engine.specs.Stands.{Allowed}
use Rattle.im_engine.specs.Kept.{StepKept}
use Rattle.im_engine.specs.Growing.{GrowsAs, PutsKey}
use Rattle.im_engine.specs.Told.{AsksChange, InsertCause, InsertWants, wants_pages, wants_numbers, wants_memory}
use Rattle.im_engine.proofs.Causes.{Answers, behind, not_refused_for, refused_for, refused_inj}
use Rattle.im_engine.proofs.Checked.{access_fits}
use Rattle.im_engine.proofs.Deleting.{access_mark}
use Rattle.im_engine.proofs.Edited.{blocked, by_structure, died, edit_stops, edited, may_edit, unchanged}
use Rattle.im_engine.proofs.Made.{grown_made}
use Rattle.im_engine.proofs.Refused.{KeepsLocks, breaks_with, lacks_with, serving_with}
use Rattle.im_engine.specs.Aims.{under_of}
use Rattle.im_engine.proofs.Running.{outside, not_in, nobody_owner, checks_tell, bodies_are, read_on}

-- ---- a key that came

module _ {D : Type 0} (d : Ghosts D) {b : Base} (before : List Effect) (s : Shown) (v : View) (old : Engine D d) (r : IsRunning d b before s v old) (t : ℕ) (row : Transaction) (found : find (is_of t) old.txns.rows ≡ Some row) (mark : row.mark ≡ Going) (plain : old.under ≡ None) where
  module _ (key : Key) (rid : ℕ) (dense : Bool) (max : ℕ) (new : Engine D d) (fits : keys_fit (Insert key rid) ≡ true) (noted : Noted) (is : Inserted d b r.base r.now r.redo_end t key rid dense max noted new.writer new.disk)
      (decides : Decides old.locks t (asked (Insert key rid) (contents b r.now.log)) GrantedAll new.locks) (stays : new.under ≡ old.under) where
    abbrev newest : Logged
    newest = key_record t is.newest noted.last is.page (InsertKey key rid)

    law : IsLawful b page_tree (newest ∷ is.between)
    law = subst (λ (l : History). IsLawful b page_tree l) is.is is.stands.lawful

    may : lawful.MayInsert b page_tree newest is.between key rid
    may = law.1.may

    closed : open_smo is.between ≡ []
    closed = subst (λ (l : History). open_smo l ≡ []) is.is is.stands.closed

    walk_of : v.walk ≡ contents b r.now.log
    walk_of = r.serving.seen_by.walk

    decided : Decides old.locks t (asked (Insert key rid) v.walk) GrantedAll new.locks
    decided = subst (λ (m : IndexMap). Decides old.locks t (asked (Insert key rid) m) GrantedAll new.locks) (sym walk_of) decides

    way : IsOnTheWay b t is.newest r.now.log is.between
    way =
        let first = ways_lead_on.begins b r.earlier before s v r.now.log old.txns.rows old.txns.next old.locks t row r.serving found mark in
        subst (λ (n : ℕ). IsOnTheWay b t n r.now.log is.between) (sym (law.1.chained refl).prev) (ways_lead_on.leads b t row.last r.now.log r.now.log is.between first (by_structure t r.now.log is.between is.change))

    abbrev rows : List Transaction
    rows = map (changed t (with_made noted.last)) old.txns.rows

    after_record : IsServed b r.earlier before s v (Do t (Insert key rid)) answers.Inserted (did v t (Insert key rid) (lasting_of new.locks t)) is.now.log rows old.txns.next new.locks
    after_record =
        subst (λ (l : History). IsServed b r.earlier before s v (Do t (Insert key rid)) answers.Inserted (did v t (Insert key rid) (lasting_of new.locks t)) l rows old.txns.next new.locks) (sym is.is)
        (inserts_served page_tree page_tree_laws b r.earlier before s v r.now.log is.between old.txns.rows old.txns.next old.locks new.locks t is.newest noted.last is.page row key rid r.serving found mark (nobody_owner d before s v old r plain t) fits
        way law.0 (outside t (open_smo is.between) closed) (not_in is.page (open_smo is.between) closed) is.absent decided may.can_put law.1.rises).served

    says : answer (Insert key rid) v.walk ≡ answers.Inserted
    says = ap (λ (m : IndexMap). answer (Insert key rid) m) walk_of ∙ ap (λ (o : Option ℕ). cond (is_some o) answers.Duplicate answers.Inserted) is.absent

    grown : GrowsWithin t r.now.log is.now.log
    grown =
        let way_there = grows_within t r.now.log is.between is.change in
        record { more = newest ∷ way_there.more; is = ap (λ (l : History). newest ∷ l) way_there.is ∙ sym is.is; within = (inr (refl, refl), way_there.within) }

    pages_as : bodies_of (pages_of r.now) ≡ settled b r.now.log
    pages_as = bodies_are d before s v old r plain

    puts : PutsKey b t key rid r.now.log is.now.log
    puts = record {
      between = is.between;
      change = is.change;
      some = λ lacks. is.some (subst (λ (pages : Pages). LacksRoomFor pages key) (sym pages_as) lacks);
      only = λ has. subst (λ (pages : Pages). LacksRoomFor pages key) pages_as (is.only has);
      last = is.newest;
      lsn = noted.last;
      page = is.page;
      is = is.is;
    }

    pub inserted : new.txns ≡ record old.txns { rows = map (changed t (with_made noted.last)) old.txns.rows } → LeavesEdit d b r.base r.now t old.disk new.disk → new.failed ≡ false → StepKept d before s v (Do t (Insert key rid)) answers.Inserted old new
    inserted table stops works =
        let w = did v t (Insert key rid) (lasting_of new.locks t) in
        subst (λ (reply : Reply). StepKept d before s v (Do t (Insert key rid)) reply old new) says
        (edited d before s v old r t row found mark (nobody_owner d before s v old r plain t) (Insert key rid) new is.now r.redo_end noted.last noted.undo_next is.stands is.durable grown rows table w
        (subst (λ (reply : Reply). IsServed b r.earlier before s v (Do t (Insert key rid)) reply w is.now.log rows old.txns.next new.locks) (sym says) after_record) refl plain stays stops works (subst (λ (reply : Reply). GrowsAs b (FitsRecord old.writer.table) (under_of old.under) (under_of new.under) reply (Do t (Insert key rid)) r.now.log is.now.log) (sym says) puts))

-- ---- refusals

no_commit : (t : ℕ) (a : answers.Access) (u : ℕ) → Do t a ≡ answers.Commit u → ⊥
no_commit t a u is = cc is

module _ {D : Type 0} (d : Ghosts D) (before : List Effect) (s : Shown) (v : View) (t : ℕ) (key : Key) (rid : ℕ) (old new : Engine D d) (life : IsLife d before s v old) (works : old.failed ≡ false) (checked : checked_by old.txns.rows (owns_in (under_of old.under) (Do t (Insert key rid))) (Do t (Insert key rid)) ≡ None)
    (counts_now : (u : ℕ) (c : Files) → u ≤ d.moment new.disk → d.may_leave new.disk c → d.left_since new.disk u c) (stays : new.under ≡ old.under) where
  abbrev run : (b : Base) × IsRunning d b before s v old
  run = life.running works

  bars : barred v (Do t (Insert key rid)) ≡ None
  bars = checks_tell d before s v old run.1 (Do t (Insert key rid)) ∙ checked

  -- pages are wanting
  lacks_pages : Evicted d run.0 run.1.base run.1.now old.disk new.writer new.disk → LeavesOnly d old.disk new.disk (Allowed before s) → new.txns ≡ old.txns → KeepsLocks old.locks new.locks → new.failed ≡ false → StepKept d before s v (Do t (Insert key rid)) (Refused pages_full) old new
  lacks_pages is leaves table same works_on =
      grown_made d before s v v (Do t (Insert key rid)) (Refused pages_full) old new run.1 old.txns refl is
      (λ longer stays all. lacks_served run.0 run.1.earlier before s v run.1.now.log longer old.txns.rows old.txns.next new.locks (Do t (Insert key rid)) pages_full
      (serving_with run.0 run.1.earlier before s v run.1.now.log old.txns.rows old.txns.next old.locks new.locks same run.1.serving) bars (inl refl) stays all)
      refl refl table refl leaves works_on tt (λ longer images. images) stays

  pub insert_stopped : (f : Fault) → LogEnds d true (mild_to_split (Some old.max_pages)) old.writer old.disk new.writer new.disk (Some f) → LeavesOnly d old.disk new.disk (Allowed before s) → f ≢ NotAStore → new.failed ≡ ends_engine f → new.txns ≡ old.txns
      → ((f ≡ Memory) ⊎ (f ≡ PagesFull) → KeepsLocks old.locks new.locks) → (told : Fault) → told ≡ told_as f → StepKept d before s v (Do t (Insert key rid)) (Refused (number_of told)) old new
  insert_stopped f ends leaves sound fails table same told is = subst (λ (y : Fault). StepKept d before s v (Do t (Insert key rid)) (Refused (number_of y)) old new) (sym is) (by f ends sound fails same)
    where
      breaks_so : (fault : ℕ) → Breaks fault → new.failed ≡ true → StepKept d before s v (Do t (Insert key rid)) (Refused fault) old new
      breaks_so fault why on = breaks_with d before s v (Do t (Insert key rid)) (no_commit t (Insert key rid)) bars old new life works counts_now fault why on leaves

      by : (g : Fault) → LogEnds d true (mild_to_split (Some old.max_pages)) old.writer old.disk new.writer new.disk (Some g) → g ≢ NotAStore → new.failed ≡ ends_engine g → ((g ≡ Memory) ⊎ (g ≡ PagesFull) → KeepsLocks old.locks new.locks)
          → StepKept d before s v (Do t (Insert key rid)) (Refused (number_of (told_as g))) old new
      by Memory x other on same_locks = lacks_with d before s v (Do t (Insert key rid)) (no_commit t (Insert key rid)) bars old new life works counts_now (inr refl) (read_on d before s v old run.1 new.writer new.disk x.1) leaves table (same_locks (inl refl)) on stays
      by PagesFull x other on same_locks = lacks_pages (read_on d before s v old run.1 new.writer new.disk x.1) leaves table (same_locks (inr refl)) on
      by Capacity x other on same_locks = breaks_so 6 (inl refl) on
      by LogFull x other on same_locks = breaks_so 7 (inr (inl refl)) on
      by Device x other on same_locks = breaks_so 8 (inr (inr (inl refl))) on
      by Failed x other on same_locks = breaks_so 10 (inr (inr (inr refl))) on
      by NotAStore x other on same_locks = absurd (other refl)
      by g x other on same_locks = absurd (let never = x.0 in cc never)

-- it is told so only where it is so
module _ {D : Type 0} (d : Ghosts D) (max : ℕ) (v : PageWriter) (old : D) (w : PageWriter) (new : D) where
  pub failed_is : (f : Fault) → LogEnds d true (mild_to_split (Some max)) v old w new (Some f) → told_as f ≡ faults.Failed → f ≡ Failed
  failed_is Failed x is = refl
  failed_is Memory x is = absurd (cc is)
  failed_is PagesFull x is = absurd (cc is)
  failed_is Capacity x is = absurd (cc is)
  failed_is LogFull x is = absurd (cc is)
  failed_is Device x is = absurd (cc is)
  failed_is NotAStore x is = absurd (cc is)
  failed_is g x is = absurd (let never = x.0 in cc never)

pub full_is : (f : Fault) → told_as f ≡ faults.PagesFull → f ≡ PagesFull
full_is PagesFull is = refl
full_is Capacity is = absurd (cc is)
full_is LogFull is = absurd (cc is)
full_is Device is = absurd (cc is)
full_is Memory is = absurd (cc is)
full_is NotAStore is = absurd (cc is)
full_is g is = absurd (cc is)

pub used_up_is : (f : Fault) → told_as f ≡ faults.Capacity → f ≡ Capacity
used_up_is Capacity is = refl
used_up_is PagesFull is = absurd (cc is)
used_up_is LogFull is = absurd (cc is)
used_up_is Device is = absurd (cc is)
used_up_is Memory is = absurd (cc is)
used_up_is NotAStore is = absurd (cc is)
used_up_is g is = absurd (cc is)

-- ---- what an insert wants

-- one that was not refused
wants_answered : (stepped : Bool) → stepped ≡ false → (pages : Pages) (m : IndexMap) (Idle : Type 0) (locks : ℕ → List Lock) (dense : Bool) (max t : ℕ) (key : Key) (rid : ℕ) (reply : said.Reply) → (reply ≡ replies.More → ⊥) → ((x : Fault) → reply ≢ replies.Refused x) → (get m key ≡ None → IsLimited dense pages key max) → (reply ≡ replies.Inserted → LacksRoomFor pages key → IsWithin dense pages key max)
    → InsertWants pages m Idle stepped locks dense max t key rid reply
wants_answered stepped plain pages m Idle locks dense max t key rid reply no_more not limited within = record {
  made = within;
  at_once = λ _ _. plain;
  begun = λ is. absurd (no_more is);
  limited = λ _ _. limited;
  full = λ is. absurd (not faults.PagesFull is);
  used_up = λ is. absurd (not faults.Capacity is);
  granted = λ is. ⊎_elim (λ numbers. absurd (not faults.Capacity numbers)) (λ memory. absurd (not faults.Failed memory)) is;
  absent = asks;
  broken = λ is. absurd (not faults.Failed is);
}
  where
    asks : AsksChange reply → get m key ≡ None
    asks (wants_pages is) = absurd (not faults.PagesFull is)
    asks (wants_numbers is) = absurd (not faults.Capacity is)
    asks (wants_memory is) = absurd (not faults.Failed is)

-- ---- by the call below

module _ {D : Type 0} (d : Ghosts D) (old : Engine D d) (locks : Table) (writer : PageWriter) (disk : D) (t : ℕ) (key : Key) (rid : ℕ) (row : Transaction) (found : find (is_of t) old.txns.rows ≡ Some row) (checked : checked_by old.txns.rows (owns_in (under_of old.under) (Do t (Insert key rid))) (Do t (Insert key rid)) ≡ None)
    (plain : old.under ≡ None) (at_once : old.stepped ≡ false) where
  -- what the call below kept, whatever it stood on
  abbrev pub Below : Result (LockAnswer (Option Noted)) Fault → Type 0
  Below result = (b : Base) (base : ℕ) (s : Writer) (e : ℕ) → MayEdit d b base s e row.number row.last row.undo_next (Insert key rid) old.locks old.writer old.disk
      → InsertKept d b base s e row.number key rid old.dense old.max_pages old.locks locks old.disk writer disk result

  module _ {b : Base} (before : List Effect) (s : Shown) (v : View) (r : IsRunning d b before s v old) where
    abbrev pub Here : Result (LockAnswer (Option Noted)) Fault → Type 0
    Here result = InsertKept d b r.base r.now r.redo_end t key rid old.dense old.max_pages old.locks locks old.disk writer disk result

    mark : row.mark ≡ Going
    mark = access_mark old.txns.rows _ t (Insert key rid) row found checked

    number : row.number ≡ t
    number = look_ups_follow.found t old.txns.rows row found

    pub kept_here : (result : Result (LockAnswer (Option Noted)) Fault) → Below result → Here result
    kept_here result below =
        subst (λ (n : ℕ). InsertKept d b r.base r.now r.redo_end n key rid old.dense old.max_pages old.locks locks old.disk writer disk result) number
        (below b r.base r.now r.redo_end (subst (λ (n : ℕ). MayEdit d b r.base r.now r.redo_end n row.last row.undo_next (Insert key rid) old.locks old.writer old.disk) (sym number) (may_edit d before s v old r t row found mark (nobody_owner d before s v old r plain t) plain (Insert key rid))))

    pages_are : bodies_of (pages_of r.now) ≡ settled b r.now.log
    pages_are = bodies_are d before s v old r plain

    -- nothing but Images joined the log
    abbrev pub Idle : Type 0
    Idle = Evicted d b r.base r.now old.disk writer disk

    limits : (o : LockAnswer (Option Noted)) → Below (Ok o) → get v.walk key ≡ None → IsLimited old.dense (settled b r.now.log) key old.max_pages
    limits o below none = subst (λ (pages : Pages). IsLimited old.dense pages key old.max_pages) pages_are ((kept_here (Ok o) below).limited (sym (ap (λ (m : IndexMap). get m key) r.serving.seen_by.walk) ∙ none))

    -- what is said of its pages
    pub made_wants : (o : LockAnswer (Option Noted)) → Below (Ok o) → (x : Option Noted) → o ≡ Granted x → (noted : Noted) → x ≡ Some noted → InsertWants (settled b r.now.log) v.walk Idle old.stepped (locks_of old.locks) old.dense old.max_pages t key rid replies.Inserted
    made_wants o below x granted noted some =
        let kept = subst (λ (y : LockAnswer (Option Noted)). Here (Ok y)) (granted ∙ ap Granted some) (kept_here (Ok o) below) in
        wants_answered old.stepped at_once (settled b r.now.log) v.walk Idle (locks_of old.locks) old.dense old.max_pages t key rid replies.Inserted (λ e. cc e) (λ x e. cc e) (limits o below)
        (λ is. subst (λ (pages : Pages). LacksRoomFor pages key → IsWithin old.dense pages key old.max_pages) pages_are kept.sound.1.within)

    -- answered otherwise
    pub other_wants : (o : LockAnswer (Option Noted)) → Below (Ok o) → (reply : said.Reply) → reply ≢ replies.Inserted → reply ≢ replies.More → ((x : Fault) → reply ≢ replies.Refused x) → InsertWants (settled b r.now.log) v.walk Idle old.stepped (locks_of old.locks) old.dense old.max_pages t key rid reply
    other_wants o below reply no_insert no_more not = wants_answered old.stepped at_once (settled b r.now.log) v.walk Idle (locks_of old.locks) old.dense old.max_pages t key rid reply no_more not (limits o below) (λ is. absurd (no_insert is))

    -- refused, and why
    pub refused_wants : (f : Fault) → Below (Err f) → LogEnds d true (mild_to_split (Some old.max_pages)) old.writer old.disk writer disk (Some f) → (told : Fault) → told ≡ told_as f → InsertWants (settled b r.now.log) v.walk Idle old.stepped (locks_of old.locks) old.dense old.max_pages t key rid (replies.Refused told)
    refused_wants f below ends told is = record {
      made = λ clash lacks. absurd (cc clash);
      at_once = λ clash lacks. absurd (cc clash);
      begun = λ clash. absurd (cc clash);
      limited = λ not. absurd (not told refl);
      full = λ full.
          let why = kept.full (full_is f (sym is ∙ refused_inj told faults.PagesFull full)) in
          subst (λ (pages : Pages). LacksRoomFor pages key × IsOver old.dense pages key old.max_pages) same (why.1, why.2);
      used_up = λ full.
          let why = kept.used_up (used_up_is f (sym is ∙ refused_inj told faults.Capacity full)) in
          subst (λ (pages : Pages). LacksRoomFor pages key × IsUsedUp old.dense pages key) same (why.1, why.2);
      granted = λ is_late. subst (λ (m : IndexMap). IsFree (locks_of old.locks) t (asked (Insert key rid) m)) (sym r.serving.seen_by.walk) (free is_late);
      absent = asks;
      broken = broke;
    }
      where
        kept : Here (Err f)
        kept = kept_here (Err f) below

        same : bodies_of (pages_of r.now) ≡ settled b r.now.log
        same = bodies_are d before s v old r plain

        lacks : get (contents b r.now.log) key ≡ None → get v.walk key ≡ None
        lacks none = ap (λ (m : IndexMap). get m key) r.serving.seen_by.walk ∙ none

        broke : replies.Refused told ≡ replies.Refused faults.Failed → LacksRoomFor (settled b r.now.log) key ⊎ Idle
        broke why = ⊎_elim (λ has_none. inl (subst (λ (pages : Pages). LacksRoomFor pages key) same has_none)) (λ idle. inr idle) (kept.begun (failed_is d old.max_pages old.writer old.disk writer disk f ends (sym is ∙ refused_inj told faults.Failed why))).2

        free : (replies.Refused told ≡ replies.Refused faults.Capacity) ⊎ (replies.Refused told ≡ replies.Refused faults.Failed) → IsFree (locks_of old.locks) t (asked (Insert key rid) (contents b r.now.log))
        free (inl why) = (kept.used_up (used_up_is f (sym is ∙ refused_inj told faults.Capacity why))).3.0
        free (inr why) = (kept.begun (failed_is d old.max_pages old.writer old.disk writer disk f ends (sym is ∙ refused_inj told faults.Failed why))).1.0

        asks : AsksChange (replies.Refused told) → get v.walk key ≡ None
        asks (wants_pages why) = lacks (kept.full (full_is f (sym is ∙ refused_inj told faults.PagesFull why))).0
        asks (wants_numbers why) = lacks (kept.used_up (used_up_is f (sym is ∙ refused_inj told faults.Capacity why))).0
        asks (wants_memory why) = lacks (kept.begun (failed_is d old.max_pages old.writer old.disk writer disk f ends (sym is ∙ refused_inj told faults.Failed why))).0

module _ {D : Type 0} (d : Ghosts D) (old new : Engine D d) (t : ℕ) (key : Key) (rid : ℕ) (row : Transaction) (found : find (is_of t) old.txns.rows ≡ Some row) (checked : checked_by old.txns.rows (owns_in (under_of old.under) (Do t (Insert key rid))) (Do t (Insert key rid)) ≡ None)
    (plain : old.under ≡ None) (at_once : old.stepped ≡ false) (stays : new.under ≡ old.under) where
  abbrev pub Under : Result (LockAnswer (Option Noted)) Fault → Type 0
  Under result = Below d old new.locks new.writer new.disk t key rid row found checked plain at_once result

  module _ {b : Base} (before : List Effect) (s : Shown) (v : View) (r : IsRunning d b before s v old) where
    abbrev pub Now : Result (LockAnswer (Option Noted)) Fault → Type 0
    Now result = Here d old new.locks new.writer new.disk t key rid row found checked plain at_once before s v r result

    its_mark : row.mark ≡ Going
    its_mark = access_mark old.txns.rows _ t (Insert key rid) row found checked

    fits : keys_fit (Insert key rid) ≡ true
    fits = access_fits old.txns.rows _ t (Insert key rid) checked

    kept_now : (result : Result (LockAnswer (Option Noted)) Fault) → Under result → Now result
    kept_now result below = kept_here d old new.locks new.writer new.disk t key rid row found checked plain at_once before s v r result below

    -- it was made
    pub insert_made : (o : LockAnswer (Option Noted)) → Under (Ok o) → (x : Option Noted) → o ≡ Granted x → (noted : Noted) → x ≡ Some noted → new.txns ≡ record old.txns { rows = map (changed t (with_made noted.last)) old.txns.rows } → new.failed ≡ false
        → StepKept d before s v (Do t (Insert key rid)) answers.Inserted old new
    insert_made o below x granted noted some table works_on =
        let kept = subst (λ (y : LockAnswer (Option Noted)). Now (Ok y)) (granted ∙ ap Granted some) (kept_now (Ok o) below) in
        inserted d before s v old r t row found its_mark plain key rid old.dense old.max_pages new fits noted kept.sound.1 kept.sound.0 stays table kept.stops works_on

    -- the key is there
    pub insert_there : (o : LockAnswer (Option Noted)) → Under (Ok o) → (x : Option Noted) → o ≡ Granted x → x ≡ None → new.txns ≡ old.txns → new.failed ≡ false → StepKept d before s v (Do t (Insert key rid)) answers.Duplicate old new
    insert_there o below x granted none table works_on =
        let kept = subst (λ (y : LockAnswer (Option Noted)). Now (Ok y)) (granted ∙ ap Granted none) (kept_now (Ok o) below) in
        let there = kept.sound.1.1 in
        unchanged d before s v old r t row found its_mark (nobody_owner d before s v old r plain t) (Insert key rid) new kept.stops fits stays (ap (λ (y : Option ℕ). cond (is_some y) [] (Put key rid ∷ [])) there) kept.sound.0 kept.sound.1.2
        answers.Duplicate (ap (λ (y : Option ℕ). cond (is_some y) answers.Duplicate answers.Inserted) there) table works_on

    -- it has to wait, or its transaction must die
    pub insert_waits : (o : LockAnswer (Option Noted)) → Under (Ok o) → (holder : ℕ) → o ≡ Wait holder → new.txns ≡ old.txns → new.failed ≡ false → StepKept d before s v (Do t (Insert key rid)) (answers.Blocked holder) old new
    insert_waits o below holder is table works_on =
        let kept = subst (λ (y : LockAnswer (Option Noted)). Now (Ok y)) is (kept_now (Ok o) below) in
        blocked d before s v old r t row found its_mark (nobody_owner d before s v old r plain t) (Insert key rid) new kept.stops fits stays holder kept.sound.0 kept.sound.1 table works_on

    pub insert_dies : (o : LockAnswer (Option Noted)) → Under (Ok o) → o ≡ Die → new.txns ≡ record old.txns { rows = map (changed t (with_mark MustRollBack)) old.txns.rows } → new.failed ≡ false → StepKept d before s v (Do t (Insert key rid)) answers.Die old new
    insert_dies o below is table works_on =
        let kept = subst (λ (y : LockAnswer (Option Noted)). Now (Ok y)) is (kept_now (Ok o) below) in
        died d before s v old r t row found its_mark (nobody_owner d before s v old r plain t) (Insert key rid) new kept.stops fits stays kept.sound.0 kept.sound.1 table works_on

  -- a call below refused it
  pub insert_refused : (before : List Effect) (s : Shown) (v : View) (life : IsLife d before s v old) (works : old.failed ≡ false) → ((u : ℕ) (c : Files) → u ≤ d.moment new.disk → d.may_leave new.disk c → d.left_since new.disk u c) → (f : Fault) → Under (Err f)
      → LogEnds d true (mild_to_split (Some old.max_pages)) old.writer old.disk new.writer new.disk (Some f) → new.failed ≡ ends_engine f → new.txns ≡ old.txns → ((f ≡ Memory) ⊎ (f ≡ PagesFull) → KeepsLocks old.locks new.locks) → (told : Fault) → told ≡ told_as f
      → StepKept d before s v (Do t (Insert key rid)) (Refused (number_of told)) old new
  insert_refused before s v life works counts_now f below ends fails table same told is =
      let r = (life.running works).1 in
      let kept = kept_now before s v r (Err f) below in
      insert_stopped d before s v t key rid old new life works checked counts_now stays f ends (edit_stops d before s v old r t row found (access_mark old.txns.rows _ t (Insert key rid) row found checked) (nobody_owner d before s v old r plain t) new.disk kept.stops) kept.sound fails table same told is

-- ---- as `IsAnswered` has it

module _ {D : Type 0} (d : Ghosts D) (old : Engine D d) (log : LogFile) (disk : D) (works : old.failed ≡ false) (t : ℕ) (key : Key) (rid : ℕ) (checked : checked_by old.txns.rows (owns_in (under_of old.under) (Do t (Insert key rid))) (Do t (Insert key rid)) ≡ None) where
  pub insert_answered : (reply : said.Reply) → ((x : Fault) → reply ≢ replies.Refused x) → Answers d old log disk (Do t (Insert key rid)) reply
  insert_answered reply not = behind d old log disk works (Do t (Insert key rid)) reply checked (λ fault. not_refused_for d old log disk works (InsertCause d log disk) reply not fault)

  pub insert_not_answered : (f : Fault) (told : Fault) → told ≡ told_as f → InsertCause d log disk (told_as f) → Answers d old log disk (Do t (Insert key rid)) (replies.Refused told)
  insert_not_answered f told is cause = behind d old log disk works (Do t (Insert key rid)) (replies.Refused told) checked (λ fault. refused_for d old log disk works (InsertCause d log disk) f told is cause fault)
