-- The end of a structure change that went on for an Insert or a Delete, by its owner's Continue.
use Rattle.std.proofs.Common.{◌≡◌, ◌≢◌, ◌⊎◌, inl, inr, ℕ, ◌≤◌, List, Bool, true, false, length, Option, None, Some, refl, sym, ap, subst, ◌∙◌, arith}
use Rattle.std.specs.Prelude.{is_some}
use Rattle.im_base_types.specs.Answers as answers
use Rattle.im_base_types.specs.Answers.{Continue, Refused}
use Rattle.im_base_types.specs.Changes.{Effect}
use Rattle.im_base_types.specs.Faults.{number_of}
use Rattle.im_base_types.specs.Lives.{Shown}
use Rattle.im_base_types.specs.declared.fault.Fault.{Fault}
use Rattle.im_base_types.specs.declared.fault.Fault.TheVariants.{Capacity, Device, Failed, LogFull, Memory, NotAStore, PagesFull}
use Rattle.im_base_types.specs.declared.fault.Fault.TheVariants as faults
use Rattle.im_base_disk.specs.declared.disk.Disk.{Ghosts}
use Rattle.im_base_disk.specs.Disk.{Files}
use Rattle.im_base_disk.specs.Runs.{LeavesOnly}
use Rattle.im_base_steps.specs.declared.reply.Reply.{Reply}
use Rattle.im_base_steps.specs.declared.reply.Reply.TheVariants as replies
use Rattle.im_base_steps.specs.Calls.{told_by}
use Rattle.im_base_steps.specs.Replies.{Suits}
use Rattle.im_base_txn.specs.declared.transaction.Mark as declared
use Rattle.im_base_txn.specs.declared.transaction.Mark.TheVariants as marks
use Rattle.im_base_txn.specs.declared.transaction.Transaction.{Transaction}
use Rattle.im_page_writer.specs.declared.page_writer.PageWriter.{PageWriter}
use Rattle.im_page_writer.specs.Outcome.{LogEnds, Logs, none_mild}
use Rattle.im_theory_machine.specs.View.{View, owner_of, owns_in}
use Rattle.im_theory_steps.specs.Checks.{checked_by}
use Rattle.im_theory_steps.specs.Serving.{mark_of}
use Rattle.im_engine.specs.declared.engine.Engine.{Engine}
use Rattle.im_engine.specs.declared.stepped.Under.{Under}
use Rattle.im_engine.specs.Aims.{owned, under_of}
use Rattle.im_engine.specs.Faults.{told_as, ends_engine}
use Rattle.im_engine.specs.Kept as kept
use Rattle.im_engine.specs.Numbered.{Numbered, besides_rows}
use Rattle.im_engine.specs.Paces.{EndsAs}
use Rattle.im_engine.specs.Running.{IsLife}
use Rattle.im_engine.specs.Stands.{Allowed}
use Rattle.im_engine.specs.Told.{HasNext, IsMade, Known, SuitsGroup, TurnCause, after, fixed_of, is_early}
use Rattle.im_engine.proofs.Causes.{behind, refused_for, refused_inj}
use Rattle.im_engine.proofs.Refused.{breaks_with}
use Rattle.im_engine.proofs.Running.{checks_tell}
use Rattle.im_engine.proofs.SteppedOwners.{paced_own}
use Rattle.im_engine.proofs.Telling.{is_refused, told_answered, told_refused}
use Rattle.im_engine.proofs.Turning.{continue_made}

-- ---- refusals of calls that log records of their own, and want no memory

module _ {D : Type 0} (d : Ghosts D) (late : Bool) (v : PageWriter) (old : D) (w : PageWriter) (new : D) where
  pub ends_cause : (f : Fault) → LogEnds d late none_mild v old w new (Some f) → TurnCause d w.log new (told_as f)
  ends_cause Device x = x.1
  ends_cause LogFull x = x.2
  ends_cause PagesFull x = absurd (let never = x.0 in cc never)
  ends_cause e x = tt

  pub ends_not_short : (f : Fault) → LogEnds d late none_mild v old w new (Some f) → (f ≡ Memory) ⊎ (f ≡ PagesFull) → ⊥
  ends_not_short Memory x is = let never = x.0 in cc never
  ends_not_short PagesFull x is = let never = x.0 in cc never
  ends_not_short Capacity x is = let never = x.0 in cc never
  ends_not_short f x (inl is) = let moved : LogEnds d late none_mild v old w new (Some Memory) = subst (λ (g : Fault). LogEnds d late none_mild v old w new (Some g)) is x in let never = moved.0 in cc never
  ends_not_short f x (inr is) = let moved : LogEnds d late none_mild v old w new (Some PagesFull) = subst (λ (g : Fault). LogEnds d late none_mild v old w new (Some g)) is x in let never = moved.0 in cc never

  ends_not_used : (f : Fault) → LogEnds d late none_mild v old w new (Some f) → told_as f ≡ faults.Capacity → ⊥
  ends_not_used Capacity x is = let never = x.0 in cc never
  ends_not_used PagesFull x is = cc is
  ends_not_used LogFull x is = cc is
  ends_not_used Device x is = cc is
  ends_not_used Memory x is = cc is
  ends_not_used NotAStore x is = cc is
  ends_not_used g x is = cc is

  ends_not_late : (f : Fault) → LogEnds d late none_mild v old w new (Some f) → f ≢ Failed → told_as f ≡ faults.Failed → ⊥
  ends_not_late Failed x other is = other refl
  ends_not_late Capacity x other is = cc is
  ends_not_late PagesFull x other is = cc is
  ends_not_late LogFull x other is = cc is
  ends_not_late Device x other is = cc is
  ends_not_late Memory x other is = cc is
  ends_not_late NotAStore x other is = cc is
  ends_not_late g x other is = let never = x.0 in cc never

-- a mark that goes on
pub going_mark : (m : declared.Mark) → mark_of m ≡ answers.Going → m ≡ marks.Going
going_mark marks.Going is = refl
going_mark marks.MustRollBack is = absurd (cc is)
going_mark marks.RollingBack is = absurd (cc is)
going_mark (marks.Returning n) is = absurd (cc is)
going_mark marks.Committing is = absurd (cc is)

-- ---- at the last step

module _ {D : Type 0} (d : Ghosts D) (t : ℕ) (old new : Engine D d) (works : old.failed ≡ false) (u : Under) (was : old.under ≡ Some u) (owner : u.begun.change.transaction ≡ t) (end : u.begun.change.done ≡ length u.begun.change.images)
    (checked : checked_by old.txns.rows (owns_in (under_of old.under) (Continue t)) (Continue t) ≡ None) (fixed : fixed_of d new ≡ fixed_of d old) where
  -- it was refused, which breaks the engine
  pub end_refused : (late : Bool) (f : Fault) → Logs d late none_mild old.writer old.disk new.writer new.disk (Some f) → f ≢ Failed → (d.failed new.disk ≡ true → told_as f ≡ faults.Device) → new.txns ≡ old.txns → new.failed ≡ ends_engine f → (said : Fault) → said ≡ told_as f
      → ((n : ℕ) (files : Files) → n ≤ d.moment new.disk → d.may_leave new.disk files → d.left_since new.disk n files)
      → ((before : List Effect) (s : Shown) (v : View) (life : IsLife d before s v old) → (f ≢ NotAStore) × LeavesOnly d old.disk new.disk (Allowed before s)) → IsMade d (Continue t) (replies.Refused said) old new
  end_refused late f one other lost table fails said so counts_now stops = record {
    kept = λ before s v life. subst (λ (y : Fault). kept.StepKept d before s v (Continue t) (Refused (number_of y)) old new) (sym so) (by before s v life (stops before s v life).1 f one.ends (stops before s v life).0 other fails);
    told = told_refused d old new works (ap besides_rows table) fixed f said so fails table (λ short. absurd (ends_not_short d late old.writer old.disk new.writer new.disk f one.ends short)) lost;
    answered = behind d old new.writer.log new.disk works (Continue t) (replies.Refused said) checked (λ fault. refused_for d old new.writer.log new.disk works (TurnCause d new.writer.log new.disk) f said so (ends_cause d late old.writer old.disk new.writer new.disk f one.ends) fault);
    suits = tt;
    at_once = λ _. tt;
    paced = paced_own d old new u was t owner (replies.Refused said) (λ clash. (let never : answers.Refused (number_of said) ≡ answers.BlockedTree = clash in cc never)) (inl (said, refl)) (λ b before s v r. record {
      page = λ more. absurd (omega (arith, end, more));
      end = λ all. inr (said, refl);
    });
    grouped = tt;
    frames = one.frames;
    wants = λ b before s v r. record {
      short = λ is not. absurd (not (ap (λ (o : Option Under). owner_of (under_of o)) was ∙ ap (λ (n : ℕ). Some n) owner));
      used_up = λ is. absurd (ends_not_used d late old.writer old.disk new.writer new.disk f one.ends (sym so ∙ refused_inj said faults.Capacity is));
      broken = λ is. absurd (ends_not_late d late old.writer old.disk new.writer new.disk f one.ends other (sym so ∙ refused_inj said faults.Failed is));
      begun = λ stepped none. absurd (let clash : Some (owned u) ≡ None = sym (ap under_of was) ∙ none in cc clash);
    };
    quiet = λ none. absurd (none tt);
    costs = tt;
  }
    where
      by : (before : List Effect) (s : Shown) (v : View) (life : IsLife d before s v old) → LeavesOnly d old.disk new.disk (Allowed before s) → (g : Fault) → LogEnds d late none_mild old.writer old.disk new.writer new.disk (Some g) → g ≢ NotAStore → g ≢ Failed → new.failed ≡ ends_engine g
          → kept.StepKept d before s v (Continue t) (Refused (number_of (told_as g))) old new
      by before s v life leaves LogFull y sound not on = breaks_with d before s v (Continue t) (λ n e. cc e) (checks_tell d before s v old (life.running works).1 (Continue t) ∙ checked) old new life works counts_now 7 (inr (inl refl)) on leaves
      by before s v life leaves Device y sound not on = breaks_with d before s v (Continue t) (λ n e. cc e) (checks_tell d before s v old (life.running works).1 (Continue t) ∙ checked) old new life works counts_now 8 (inr (inr (inl refl))) on leaves
      by before s v life leaves Failed y sound not on = absurd (not refl)
      by before s v life leaves NotAStore y sound not on = absurd (sound refl)
      by before s v life leaves g y sound not on = absurd (let never = y.0 in cc never)

  -- a reply that ends it
  pub record IsEndReply (reply : Reply) : Type 0 where
    pub stays : (k : Known) → after (Continue t) reply k ≡ k
    pub late : is_early reply ≡ false
    pub answered : is_refused reply ≡ false
    pub number : HasNext reply old.txns.next
    pub suits : Suits (Continue t) (told_by reply)
    pub grouped : SuitsGroup (Continue t) reply old.txns

  -- it was made
  pub end_made : (reply : Reply) → ((x : Fault) → reply ≢ replies.Refused x) → EndsAs u.aim reply → (told_by reply ≢ answers.BlockedTree) → IsEndReply reply → (rows : List Transaction) → length rows ≡ length old.txns.rows → new.txns ≡ record old.txns { rows = rows } → new.failed ≡ false
      → d.failed new.disk ≡ false → new.writer.pool.frames ≡ old.writer.pool.frames → new.under ≡ None
      → ((before : List Effect) (s : Shown) (v : View) (life : IsLife d before s v old) → kept.StepKept d before s v (Continue t) (told_by reply) old new) → IsMade d (Continue t) reply old new
  end_made reply not ends unblocked plain rows same table works_on alive frames now_none kept_as = record {
    kept = kept_as;
    told = told_answered d old new works (ap besides_rows table) fixed reply plain.stays plain.late plain.answered plain.number works_on (ap (λ (z : Numbered). length z.rows) table ∙ same) alive;
    answered = continue_made d old works t checked new.writer.log new.disk reply not;
    suits = plain.suits;
    at_once = λ off. absurd (never_off off);
    paced = paced_own d old new u was t owner reply unblocked (inr (inr ends)) (λ b before s v r. record {
      page = λ more. absurd (omega (arith, end, more));
      end = λ all. inl (ends, now_none);
    });
    grouped = plain.grouped;
    frames = frames;
    wants = λ b before s v r. record {
      short = λ is. absurd (not faults.Memory is);
      used_up = λ is. absurd (not faults.Capacity is);
      broken = λ is. absurd (not faults.Failed is);
      begun = λ stepped none. absurd (let clash : Some (owned u) ≡ None = sym (ap under_of was) ∙ none in cc clash);
    };
    quiet = λ none. absurd (none tt);
    costs = tt;
  }
    where
      never_off : old.stepped ≡ false → ⊥
      never_off off = let clash : true ≡ false = ap is_some (sym was) ∙ old.whole off in cc clash
