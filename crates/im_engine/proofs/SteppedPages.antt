-- The next page of a structure change, by its owner's Continue.
use Rattle.std.proofs.Common.{◌≡◌, ◌≢◌, inl, inr, ℕ, ◌<◌, ◌≤◌, List, ◌∷◌, true, false, length, Option, None, Some, Result, Ok, Err, map, refl, sym, ap, subst, ◌∙◌, arith}
use Rattle.std.proofs.lemmas.List.{length-map}
use Rattle.im_base_types.specs.Answers as answers
use Rattle.im_base_types.specs.Answers.{Continue, Refused}
use Rattle.im_base_types.specs.Changes.{Effect}
use Rattle.im_base_types.specs.Faults.{number_of}
use Rattle.im_base_types.specs.Lives.{Shown}
use Rattle.im_base_types.specs.Refusals.{memory}
use Rattle.im_base_types.specs.declared.fault.Fault.{Fault}
use Rattle.im_base_types.specs.declared.fault.Fault.TheVariants.{Capacity, Device, Failed, LogFull, Memory, NotAStore, PagesFull}
use Rattle.im_base_types.specs.declared.fault.Fault.TheVariants as faults
use Rattle.im_base_disk.specs.declared.disk.Disk.{Ghosts}
use Rattle.im_base_disk.specs.Disk.{Files}
use Rattle.im_base_disk.specs.Runs.{LeavesOnly}
use Rattle.im_base_steps.specs.declared.reply.Reply.TheVariants as replies
use Rattle.im_base_txn.specs.Rows.{changed, with_record}
use Rattle.im_base_txn.specs.declared.transaction.Transaction.{Transaction}
use Rattle.im_theory_log.specs.Histories.{Base, History}
use Rattle.im_theory_log.specs.Transactions.{last_of, undo_next_of}
use Rattle.im_theory_log.specs.Writer.{Writer}
use Rattle.im_page_table.specs.DirtyTable.{FitsRecord}
use Rattle.im_page_writer.specs.declared.page_writer.PageWriter.{PageWriter}
use Rattle.im_page_writer.specs.Outcome.{LogEnds, Logs, mild}
use Rattle.im_page_writer.specs.PageWriter.{Evicted, StandsAs}
use Rattle.im_theory_machine.specs.Machine.{barred}
use Rattle.im_theory_machine.specs.Table.{Table, locks_of}
use Rattle.im_theory_machine.specs.View.{View, owner_of, owns_in}
use Rattle.im_theory_steps.specs.Checks.{checked_by}
use Rattle.im_theory_steps.specs.Serving.{IsServed}
use Rattle.im_theory_steps.specs.Steps.{noted}
use Rattle.im_theory_steps.proofs.Cited.{pages_served, copies_are_images, images_change_nothing, lacks_served}
use Rattle.im_theory_tree.specs.Theory.{page_tree}
use Rattle.im_smo_log.specs.declared.change.Change.{Change}
use Rattle.im_smo_log.specs.Changes.{GrowsByChange}
use Rattle.im_smo_log.specs.Logged.{smo_at}
use Rattle.im_smo_log.specs.Stepping.{Goes, StepKept, Stepped}
use Rattle.im_smo_actions.proofs.Growth.{images_as_change}
use Rattle.im_engine_access.proofs.KeyLogs.{grows_within}
use Rattle.im_engine.specs.declared.engine.Engine.{Engine}
use Rattle.im_engine.specs.declared.stepped.Aim.{Aim}
use Rattle.im_engine.specs.declared.stepped.Under.{Under}
use Rattle.im_engine.specs.Aims.{Aims, IsChanging, IsGoing, IsSameUnder, aim_of, owned, under_of}
use Rattle.im_engine.specs.Faults.{told_as, ends_engine}
use Rattle.im_engine.specs.Growing.{GrowsAs, pages as grows_pages}
use Rattle.im_engine.specs.Kept as kept
use Rattle.im_engine.specs.Numbered.{Numbered, besides_rows}
use Rattle.im_engine.specs.Running.{IsLife, IsRunning}
use Rattle.im_engine.specs.Stands.{Allowed}
use Rattle.im_engine.specs.Told.{IsMade, TurnCause, fixed_of}
use Rattle.im_engine.proofs.Causes.{behind, refused_for, refused_inj}
use Rattle.im_engine.proofs.Edited.{by_structure}
use Rattle.im_engine.proofs.GoingOn.{images_go}
use Rattle.im_engine.proofs.Refused.{breaks_with}
use Rattle.im_engine.proofs.Running.{checks_tell, grown_stops, read_on}
use Rattle.im_engine.proofs.SteppedLogs.{log_now, made, now, page, page_front, page_goes, page_going, page_grows, page_last, page_lawful, page_newest, page_undo, was as was_body}
use Rattle.im_engine.proofs.SteppedMade.{logged_made}
use Rattle.im_engine.proofs.SteppedOwners.{goes_here, owner_below, owner_row, owns_it, paced_own}
use Rattle.im_engine.proofs.Telling.{log_lost, told_answered, told_refused}
use Rattle.im_engine.proofs.Turning.{continue_made}
use Rattle.im_engine.proofs.Looked.{not_true}

-- why one page is refused
pub page_cause : {D : Type 0} (d : Ghosts D) (v : PageWriter) (old : D) (w : PageWriter) (new : D) (f : Fault) → LogEnds d false mild v old w new (Some f) → TurnCause d w.log new (told_as f)
page_cause d v old w new Device x = x.1
page_cause d v old w new LogFull x = x.2
page_cause d v old w new PagesFull x = absurd (let never = x.0 in cc never)
page_cause d v old w new e x = tt

-- never for page numbers, and for want of memory not after a record
never_used_up : {D : Type 0} (d : Ghosts D) (v : PageWriter) (old : D) (w : PageWriter) (new : D) (f : Fault) → LogEnds d false mild v old w new (Some f) → told_as f ≡ faults.Capacity → ⊥
never_used_up d v old w new Capacity x is = let never = x.0 in cc never
never_used_up d v old w new PagesFull x is = cc is
never_used_up d v old w new LogFull x is = cc is
never_used_up d v old w new Device x is = cc is
never_used_up d v old w new Memory x is = cc is
never_used_up d v old w new NotAStore x is = cc is
never_used_up d v old w new g x is = cc is

never_late : {D : Type 0} (d : Ghosts D) (v : PageWriter) (old : D) (w : PageWriter) (new : D) → v.failed ≡ false → (f : Fault) → LogEnds d false mild v old w new (Some f) → told_as f ≡ faults.Failed → ⊥
never_late d v old w new works Failed x is = not_true v.failed works x.0
never_late d v old w new works Capacity x is = cc is
never_late d v old w new works PagesFull x is = cc is
never_late d v old w new works LogFull x is = cc is
never_late d v old w new works Device x is = cc is
never_late d v old w new works Memory x is = cc is
never_late d v old w new works NotAStore x is = cc is
never_late d v old w new works g x is = let never = x.0 in cc never

module _ {D : Type 0} (d : Ghosts D) (t : ℕ) (old new : Engine D d) (works : old.failed ≡ false) (u x : Under) (was : old.under ≡ Some u) (now_is : new.under ≡ Some x) (owner : u.begun.change.transaction ≡ t) (left : u.begun.change.done < length u.begun.change.images)
    (checked : checked_by old.txns.rows (owns_in (under_of old.under) (Continue t)) (Continue t) ≡ None) (fixed : fixed_of d new ≡ fixed_of d old)
    (same_images : x.begun.change.images ≡ u.begun.change.images) (same_owner : x.begun.change.transaction ≡ u.begun.change.transaction) (same_leads : x.begun.change.undo_next ≡ u.begun.change.undo_next) (same_count : x.begun.count ≡ u.begun.count) (same_aim : x.aim ≡ u.aim) where
  abbrev c : Change
  c = u.begun.change

  abbrev then : Change
  then = x.begun.change

  -- what the call below kept, whatever it stood on
  abbrev pub Below : Result Unit Fault → Type 0
  Below result = (b : Base) (base : ℕ) (s : Writer) (e : ℕ) → StandsAs d b base s old.writer old.disk → s.redo_end ≡ Some e → StepKept d b base s c true old.disk then new.writer new.disk result

  same_view : under_of new.under ≡ under_of old.under
  same_view =
      ap under_of now_is
      ∙ ap (λ (n : ℕ). Some (record { owner = n; aim = aim_of x.aim })) same_owner
      ∙ ap (λ (a : Aim). Some (record { owner = c.transaction; aim = aim_of a })) same_aim
      ∙ sym (ap under_of was)

  module _ {b : Base} (before : List Effect) (s : Shown) (v : View) (r : IsRunning d b before s v old) where
    goes : IsGoing b u r.now.log
    goes = goes_here d before s v old r u was t owner

    lets_pass : barred v (Continue t) ≡ None
    lets_pass = checks_tell d before s v old r (Continue t) ∙ checked

    has_view : v.under ≡ under_of new.under
    has_view = r.same ∙ sym same_view

    -- ---- it was logged

    module _ (is : Stepped d b r.base r.now c true then new.writer new.disk) where
      abbrev longer : History
      longer = log_now d b r.base r.now c then new.writer new.disk is goes.goes

      going : IsGoing b x longer
      going =
          let on = page_going d b r.base r.now c then new.writer new.disk is goes.goes u.begun.count x.begun.count u.aim x.aim same_count same_aim goes.count goes.aims in
          record { goes = page_goes d b r.base r.now c then new.writer new.disk is goes.goes; some = page_newest d b r.base r.now c then new.writer new.disk is goes.goes; count = on.0; aims = on.1 }

      grows : GrowsByChange t r.now.log longer
      grows = subst (λ (n : ℕ). GrowsByChange n r.now.log longer) owner (page_grows d b r.base r.now c then new.writer new.disk is goes.goes)

      abbrev rows : List Transaction
      rows = map (changed t (with_record then.last then.last)) old.txns.rows

      rows_noted : noted t longer old.txns.rows ≡ rows
      rows_noted =
          let last : last_of t longer ≡ then.last = ap (λ (n : ℕ). last_of n longer) (sym owner) ∙ page_last d b r.base r.now c then new.writer new.disk is goes.goes in
          let undo : undo_next_of t longer ≡ then.last = ap (λ (n : ℕ). undo_next_of n longer) (sym owner) ∙ page_undo d b r.base r.now c then new.writer new.disk is goes.goes in
          ap (λ (n : ℕ). map (changed t (with_record n (undo_next_of t longer))) old.txns.rows) last
          ∙ ap (λ (n : ℕ). map (changed t (with_record then.last n)) old.txns.rows) undo

      served : IsServed b r.earlier before s v (Continue t) answers.More v longer rows old.txns.next old.locks
      served =
          let own = owner_row d before s v old r u was t owner in
          subst (λ (l : List Transaction). IsServed b r.earlier before s v (Continue t) answers.More v longer l old.txns.next old.locks) rows_noted
          (pages_served b r.earlier before s v r.now.log longer old.txns.rows old.txns.next old.locks t own.row r.serving own.found own.free (owns_it d before s v old r u was t owner) lets_pass (by_structure t r.now.log longer grows))

      adds : GrowsAs b (FitsRecord old.writer.table) (under_of old.under) (under_of new.under) answers.More (Continue t) r.now.log longer
      adds = grows_pages (ap (λ (o : Option Under). owner_of (under_of o)) was ∙ ap (λ (n : ℕ). Some n) owner) same_view (record {
        between = is.logged.before.log;
        images = is.logged.keeps.log;
        last = c.last;
        lsn = then.last;
        page = page d b r.base r.now c then new.writer new.disk is goes.goes;
        was = was_body d b r.base r.now c then new.writer new.disk is goes.goes;
        now = made d b r.base r.now c then new.writer new.disk is goes.goes;
        marked = refl;
        is = ap (λ (n : ℕ). smo_at then.last n c.last (page d b r.base r.now c then new.writer new.disk is goes.goes) (was_body d b r.base r.now c then new.writer new.disk is goes.goes) (made d b r.base r.now c then new.writer new.disk is goes.goes) ∷ is.logged.before.log) owner;
      })

      pub page_logged : LeavesOnly d old.disk new.disk (Allowed before s) → new.locks ≡ old.locks → new.txns ≡ record old.txns { rows = rows } → new.failed ≡ false → kept.StepKept d before s v (Continue t) answers.More old new
      page_logged stops locks table works_on =
          logged_made d before s v v (Continue t) answers.More old new r t (owner_below d before s v old r u was t owner) (now d b r.base r.now c then new.writer new.disk is goes.goes) is.logged.stands (is.logged.keeps.redo_end ∙ r.over)
          (page_lawful d b r.base r.now c then new.writer new.disk is goes.goes) (subst (λ (o : Option Under). IsChanging b o longer) (sym now_is) going) (page_front d b r.base r.now c then new.writer new.disk is goes.goes) (grows_within t r.now.log longer grows)
          rows table (subst (λ (l : Table). IsServed b r.earlier before s v (Continue t) answers.More v longer rows old.txns.next l) (sym locks) served) has_view refl refl stops works_on tt adds

    -- ---- memory was wanting in front of it

    module _ (same_change : then ≡ c) where
      still : (log : History) → IsGoing b u log → IsGoing b x log
      still log is = record {
        goes = subst (λ (y : Change). Goes b y log) (sym same_change) is.goes;
        some = subst (λ (y : Change). 1 ≤ y.last) (sym same_change) is.some;
        count = same_count ∙ is.count;
        aims = subst (λ (a : Aim). Aims b a then.undo_next then.images log) (sym same_aim) (subst (λ (y : Change). Aims b u.aim y.undo_next y.images log) (sym same_change) is.aims);
      }

      pub page_lacks : Evicted d b r.base r.now old.disk new.writer new.disk → LeavesOnly d old.disk new.disk (Allowed before s) → new.locks ≡ old.locks → new.txns ≡ old.txns → new.failed ≡ false → kept.StepKept d before s v (Continue t) (Refused memory) old new
      page_lacks ev stops locks table works_on =
          let same = copies_are_images page_tree b r.now.log ev.now.log ev.on.goes.keeps.log in
          let on = images_change_nothing b r.now.log ev.now.log same.images in
          logged_made d before s v v (Continue t) (Refused memory) old new r t (owner_below d before s v old r u was t owner) ev.now (record { working = ev.on.working; writing = ev.on.goes.writing; known = ev.on.known }) (ev.on.goes.keeps.redo_end ∙ r.over) (same.lawful r.lawful)
          (subst (λ (o : Option Under). IsChanging b o ev.now.log) (sym now_is) (still ev.now.log (images_go b (Some u) r.now.log ev.now.log ev.on.goes.keeps.log (same.lawful r.lawful) same.opened goes)))
          ev.on.goes.keeps.durable (grows_within t r.now.log ev.now.log (images_as_change b t r.now.log ev.now.log ev.on.goes.keeps.log)) old.txns.rows table
          (subst (λ (l : Table). IsServed b r.earlier before s v (Continue t) (Refused memory) v ev.now.log old.txns.rows old.txns.next l) (sym locks)
          (lacks_served b r.earlier before s v r.now.log ev.now.log old.txns.rows old.txns.next old.locks (Continue t) memory r.serving lets_pass refl on.0 on.1))
          has_view refl refl stops works_on tt ev.on.goes.keeps.log

  -- ---- as `IsMade` has it

  pub made_page : Below (Ok tt) → Logs d false mild old.writer old.disk new.writer new.disk None → new.locks ≡ old.locks → new.txns ≡ record old.txns { rows = map (changed t (with_record then.last then.last)) old.txns.rows } → new.failed ≡ false → IsMade d (Continue t) replies.More old new
  made_page below one locks table works_on = record {
    kept = λ before s v life.
        let r = (life.running works).1 in
        let k = below (life.running works).0 r.base r.now r.redo_end r.stands r.over in
        page_logged before s v r k.sound (grown_stops d before s v old r new.disk k.stops) locks table works_on;
    told = told_answered d old new works (ap besides_rows table) fixed replies.More (λ k. refl) refl refl tt works_on (ap (λ (z : Numbered). length z.rows) table ∙ length-map old.txns.rows (changed t (with_record then.last then.last))) one.ends.alive;
    answered = continue_made d old works t checked new.writer.log new.disk replies.More (λ y e. cc e);
    suits = refl;
    at_once = λ _. refl;
    paced = paced_own d old new u was t owner replies.More (λ clash. (let never : answers.More ≡ answers.BlockedTree = clash in cc never)) (inr (inl refl)) (λ b before s v r. record {
      page = λ more. inl (refl, x, now_is, record { images = same_images; owner = same_owner; leads = same_leads; count = same_count; aim = same_aim; done = (below b r.base r.now r.redo_end r.stands r.over).sound.done });
      end = λ all. absurd (omega (arith, all, left));
    });
    grouped = tt;
    frames = one.frames;
    wants = λ b before s v r. record {
      short = λ clash. absurd (cc clash);
      used_up = λ clash. absurd (cc clash);
      broken = λ clash. absurd (cc clash);
      begun = λ stepped none. absurd (let clash : Some (owned u) ≡ None = sym (ap under_of was) ∙ none in cc clash);
    };
    quiet = λ none. absurd (none tt);
    costs = tt;
  }

  pub not_made_page : (f : Fault) → Below (Err f) → Logs d false mild old.writer old.disk new.writer new.disk (Some f) → then ≡ c → new.locks ≡ old.locks → new.txns ≡ old.txns → new.failed ≡ ends_engine f → (said : Fault) → said ≡ told_as f
      → ((n : ℕ) (files : Files) → n ≤ d.moment new.disk → d.may_leave new.disk files → d.left_since new.disk n files) → IsMade d (Continue t) (replies.Refused said) old new
  not_made_page f below one same_change locks table fails said so counts_now = record {
    kept = λ before s v life.
        let r = (life.running works).1 in
        let k = below (life.running works).0 r.base r.now r.redo_end r.stands r.over in
        subst (λ (y : Fault). kept.StepKept d before s v (Continue t) (Refused (number_of y)) old new) (sym so) (by before s v life (grown_stops d before s v old r new.disk k.stops) f one.ends k.sound fails);
    told = told_refused d old new works (ap besides_rows table) fixed f said so fails table (λ _ n. ap (λ (l : Table). locks_of l n) locks) (λ lost. log_lost d old.writer old.disk new.writer new.disk lost mild f one.ends (old.working works));
    answered = behind d old new.writer.log new.disk works (Continue t) (replies.Refused said) checked (λ fault. refused_for d old new.writer.log new.disk works (TurnCause d new.writer.log new.disk) f said so (page_cause d old.writer old.disk new.writer new.disk f one.ends) fault);
    suits = tt;
    at_once = λ _. tt;
    paced = paced_own d old new u was t owner (replies.Refused said) (λ clash. (let never : answers.Refused (number_of said) ≡ answers.BlockedTree = clash in cc never)) (inl (said, refl)) (λ b before s v r. record {
      page = λ more. inr ((said, refl), subst (λ (o : Option Under). IsSameUnder (Some u) o) (sym now_is) (record { images = same_images; owner = same_owner; leads = same_leads; count = same_count; aim = same_aim; done = ap (λ (y : Change). y.done) same_change }));
      end = λ all. absurd (omega (arith, all, left));
    });
    grouped = tt;
    frames = one.frames;
    wants = λ b before s v r. record {
      short = λ is other. absurd (other (ap (λ (o : Option Under). owner_of (under_of o)) was ∙ ap (λ (n : ℕ). Some n) owner));
      used_up = λ is. absurd (never_used_up d old.writer old.disk new.writer new.disk f one.ends (sym so ∙ refused_inj said faults.Capacity is));
      broken = λ is. absurd (never_late d old.writer old.disk new.writer new.disk (old.working works) f one.ends (sym so ∙ refused_inj said faults.Failed is));
      begun = λ stepped none. absurd (let clash : Some (owned u) ≡ None = sym (ap under_of was) ∙ none in cc clash);
    };
    quiet = λ none. absurd (none tt);
    costs = tt;
  }
    where
      by : (before : List Effect) (s : Shown) (v : View) (life : IsLife d before s v old) → LeavesOnly d old.disk new.disk (Allowed before s) → (g : Fault) → LogEnds d false mild old.writer old.disk new.writer new.disk (Some g) → g ≢ NotAStore → new.failed ≡ ends_engine g
          → kept.StepKept d before s v (Continue t) (Refused (number_of (told_as g))) old new
      by before s v life leaves Memory y other on = let r = (life.running works).1 in page_lacks before s v r same_change (read_on d before s v old r new.writer new.disk y.1) leaves locks table on
      by before s v life leaves LogFull y other on = breaks_with d before s v (Continue t) (λ n e. cc e) (lets_pass before s v (life.running works).1) old new life works counts_now 7 (inr (inl refl)) on leaves
      by before s v life leaves Device y other on = breaks_with d before s v (Continue t) (λ n e. cc e) (lets_pass before s v (life.running works).1) old new life works counts_now 8 (inr (inr (inl refl))) on leaves
      by before s v life leaves Failed y other on = absurd (not_true old.writer.failed (old.working works) y.0)
      by before s v life leaves NotAStore y other on = absurd (other refl)
      by before s v life leaves g y other on = absurd (let never = y.0 in cc never)
