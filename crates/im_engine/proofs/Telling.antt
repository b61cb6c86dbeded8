-- What a reply alone says of the engine, from how the calls within the step ended.
use Rattle.std.proofs.Common.{◌≡◌, ◌⊎◌, inl, inr, ℕ, ◌+◌, Bool, true, false, [], ◌∷◌, ◌++◌, length, length-append, Some, refl, sym, ap, subst, ◌∙◌, arith}
use Rattle.std.specs.Prelude.{◌||◌, ◌-◌}
use Rattle.im_base_types.specs.declared.fault.Fault.{Fault}
use Rattle.im_base_types.specs.declared.fault.Fault.TheVariants.{PagesFull, Capacity, LogFull, Device, Memory, Failed, NotAStore}
use Rattle.im_base_types.specs.Lives.{breaks}
use Rattle.im_base_disk.specs.declared.disk.Disk.{Ghosts}
use Rattle.im_page_writer.specs.declared.page_writer.PageWriter.{PageWriter}
use Rattle.im_page_writer.specs.Outcome.{AreLoaded, AsksNothing, Ends, LogEnds, mild, none_mild}
use Rattle.im_base_txn.specs.Rows.{begun}
use Rattle.im_theory_machine.specs.Table.{Table, SameTable}
use Rattle.im_base_types.specs.declared.fault.Fault.TheVariants as faults
use Rattle.im_base_steps.specs.declared.reply.Reply.{Reply}
use Rattle.im_base_steps.specs.declared.reply.Reply.TheVariants.{Started, Committed, RolledBack, More, Done, Refused}
use Rattle.im_base_types.specs.Faults.{number_of}
use Rattle.im_engine.specs.declared.engine.Engine.{Engine}
use Rattle.im_engine.specs.Faults.{told_as, ends_engine}
use Rattle.im_base_types.specs.Answers as answers
use Rattle.im_engine.specs.Numbered.{Numbered, besides_rows}
use Rattle.im_engine.specs.Told.{Known, HasNext, IsTold, after, fixed_of, is_early, known_of}
use Rattle.im_engine.proofs.Looked.{not_true}

-- a refusal of the calls below breaks the engine where its number says so
pub ends_breaks : (f : Fault) → breaks (number_of (told_as f)) ≡ ends_engine f
ends_breaks PagesFull = refl
ends_breaks Capacity = refl
ends_breaks LogFull = refl
ends_breaks Device = refl
ends_breaks Memory = refl
ends_breaks NotAStore = refl
ends_breaks e = refl

-- and none of them comes before a page is read
pub never_early : (f : Fault) → is_early (Refused (told_as f)) ≡ false
never_early PagesFull = refl
never_early Capacity = refl
never_early LogFull = refl
never_early Device = refl
never_early Memory = refl
never_early NotAStore = refl
never_early e = refl

-- a failed disk breaks the engine
pub ends_as : (f : Fault) → told_as f ≡ faults.Device → true ≡ ends_engine f
ends_as f is = sym (sym (ends_breaks f) ∙ ap (λ (e : Fault). breaks (number_of e)) is)

pub still_false : (b : Bool) → (b ≡ true → ⊥) → b ≡ false
still_false true not = absurd (not refl)
still_false false not = refl

-- ---- a disk that has failed is told

module _ {D : Type 0} (d : Ghosts D) (v : PageWriter) (old : D) (w : PageWriter) (new : D) (lost : d.failed new ≡ true) where
  -- by a search
  pub read_lost : (f : Fault) → Ends d AreLoaded mild v old w new (Some f) → v.failed ≡ false → told_as f ≡ faults.Device
  read_lost Device x works = refl
  read_lost LogFull x works = absurd (not_true (d.failed new) x.1 lost)
  read_lost Failed x works = absurd (not_true v.failed works x.0)
  read_lost e x works = absurd (not_true (d.failed new) x.1.alive lost)

  -- by a call that writes a page
  pub flush_lost : (f : Fault) → Ends d AsksNothing none_mild v old w new (Some f) → v.failed ≡ false → told_as f ≡ faults.Device
  flush_lost Device x works = refl
  flush_lost LogFull x works = absurd (not_true (d.failed new) x.1 lost)
  flush_lost Failed x works = absurd (not_true v.failed works x.0)
  flush_lost e x works = absurd (not_true (d.failed new) x.1.alive lost)

  -- by one that logs
  pub log_lost : (goes_on : Fault → Bool) (f : Fault) → LogEnds d false goes_on v old w new (Some f) → v.failed ≡ false → told_as f ≡ faults.Device
  log_lost goes_on Device x works = refl
  log_lost goes_on LogFull x works = absurd (not_true (d.failed new) x.1 lost)
  log_lost goes_on Failed x works = absurd (not_true v.failed works x.0)
  log_lost goes_on NotAStore x works = absurd (not_true (d.failed new) x.1.alive lost)
  log_lost goes_on e x works = absurd (not_true (d.failed new) x.1.alive lost)

  -- by one that logs and may be refused late
  pub late_lost : (goes_on : Fault → Bool) (f : Fault) → LogEnds d true goes_on v old w new (Some f) → told_as f ≡ faults.Device
  late_lost goes_on Device x = refl
  late_lost goes_on LogFull x = absurd (not_true (d.failed new) x.1 lost)
  late_lost goes_on Failed x = absurd (not_true (d.failed new) x.alive lost)
  late_lost goes_on NotAStore x = absurd (not_true (d.failed new) x.alive lost)
  late_lost goes_on e x = absurd (not_true (d.failed new) x.1.alive lost)

-- ---- a want of memory or of pages

memory_below : (f : Fault) → told_as f ≡ faults.Memory → f ≡ Memory
memory_below PagesFull is = absurd (cc is)
memory_below Capacity is = absurd (cc is)
memory_below LogFull is = absurd (cc is)
memory_below Device is = absurd (cc is)
memory_below Memory is = refl
memory_below NotAStore is = absurd (cc is)
memory_below e is = absurd (cc is)

pages_below : (f : Fault) → told_as f ≡ faults.PagesFull → f ≡ PagesFull
pages_below PagesFull is = refl
pages_below Capacity is = absurd (cc is)
pages_below LogFull is = absurd (cc is)
pages_below Device is = absurd (cc is)
pages_below Memory is = absurd (cc is)
pages_below NotAStore is = absurd (cc is)
pages_below e is = absurd (cc is)

abbrev pub is_refused : Reply → Bool
is_refused (Refused fault) = true
is_refused _ = false

-- a reply that is no refusal is neither
pub not_mild : {A : Type 0} (reply : Reply) → is_refused reply ≡ false → (reply ≡ Refused faults.Memory) ⊎ (reply ≡ Refused faults.PagesFull) → A
not_mild reply not (inl is) = absurd (not_true (is_refused reply) not (ap is_refused is))
not_mild reply not (inr is) = absurd (not_true (is_refused reply) not (ap is_refused is))

abbrev fault_in : Fault → Reply → Fault
fault_in other (Refused fault) = fault
fault_in other _ = other

-- the fault below that is told so
mild_below : (f : Fault) (told : Fault) → told ≡ told_as f → (Refused told ≡ Refused faults.Memory) ⊎ (Refused told ≡ Refused faults.PagesFull) → (f ≡ Memory) ⊎ (f ≡ PagesFull)
mild_below f told is (inl same) = inl (memory_below f (sym is ∙ ap (fault_in told) same))
mild_below f told is (inr same) = inr (pages_below f (sym is ∙ ap (fault_in told) same))

-- a delete, which wants no page
pub delete_table : {D : Type 0} (d : Ghosts D) (v : PageWriter) (old : D) (w : PageWriter) (new : D) (f : Fault) → LogEnds d true mild v old w new (Some f) → (held now : Table) → (f ≡ Memory → SameTable held now) → (f ≡ Memory) ⊎ (f ≡ PagesFull) → SameTable held now
delete_table d v old w new f one held now table (inl is) = table is
delete_table d v old w new f one held now table (inr is) = absurd (let moved : LogEnds d true mild v old w new (Some PagesFull) = subst (λ (x : Fault). LogEnds d true mild v old w new (Some x)) is one in let never = moved.0 in cc never)

-- ---- the exits of a step

-- no refusal of these goes on
module _ {D : Type 0} (d : Ghosts D) (v : PageWriter) (old : D) (w : PageWriter) (new : D) where
  pub flush_ends : (f : Fault) → Ends d AsksNothing none_mild v old w new (Some f) → true ≡ ends_engine f
  flush_ends PagesFull x = absurd (let never = x.0 in cc never)
  flush_ends Memory x = absurd (let never = x.0 in cc never)
  flush_ends e x = refl

  pub log_ends : (f : Fault) → LogEnds d false none_mild v old w new (Some f) → true ≡ ends_engine f
  log_ends PagesFull x = absurd (let never = x.0 in cc never)
  log_ends Memory x = absurd (let never = x.0 in cc never)
  log_ends e x = refl

-- of an engine that works the disk has not failed
pub alive_now : {D : Type 0} (d : Ghosts D) (e : Engine D d) → e.failed ≡ false → d.failed e.disk ≡ false
alive_now d e works =
    let opened = e.ready.opened (e.working works) in
    opened.ready.reading.working (opened.working (e.ready.works (e.working works)))

module _ {D : Type 0} (d : Ghosts D) (old new : Engine D d) (works : old.failed ≡ false) where
  -- neither failed nor refused before a page is read
  fresh : (reply : Reply) → is_early reply ≡ false → (old.failed || is_early reply) ≡ true → new ≡ old
  fresh reply late is = absurd (not_true (old.failed || is_early reply) (ap (λ (b : Bool). b || is_early reply) works ∙ late) is)

  -- a transaction began
  pub told_started : (number : ℕ) → number ≡ old.txns.next → new.txns ≡ record old.txns { rows = old.txns.rows ++ begun number ∷ []; next = number + 1 } → fixed_of d new ≡ fixed_of d old → new.failed ≡ false → new.disk ≡ old.disk → IsTold d answers.Begin (Started number) old new
  told_started number is table fixed works_on disk = record {
    known = λ j. record {
      failed = (works_on ∙ sym works) j;
      active = (ap (λ (x : Numbered). length x.rows) table ∙ length-append old.txns.rows (begun number ∷ [])) j;
      waiting = (table j).waiting;
      group = (table j).group;
      next = (ap (λ (x : Numbered). x.next) table ∙ ap (λ (n : ℕ). n + 1) is) j;
      fixed = fixed j;
    };
    number = is;
    failed = λ was. absurd (not_true old.failed works was);
    same = fresh (Started number) refl;
    mild = not_mild (Started number) refl;
    device = λ was broken. absurd (not_true (d.failed old.disk) (alive_now d old works) (subst (λ (x : D). d.failed x ≡ true) disk broken));
  }

  -- its transaction has ended
  fewer : length old.txns.rows ≡ length new.txns.rows + 1 → length new.txns.rows ≡ length old.txns.rows - 1
  fewer once = let is : length new.txns.rows ≡ length old.txns.rows - 1 = omega (arith, once) in is

  module _ {step : answers.Step} (kept : besides_rows new.txns ≡ besides_rows old.txns) (fixed : fixed_of d new ≡ fixed_of d old) where
    -- it was answered, and what is known of the engine stays
    pub told_answered : (reply : Reply) → ((k : Known) → after step reply k ≡ k) → is_early reply ≡ false → is_refused reply ≡ false → HasNext reply old.txns.next → new.failed ≡ false → length new.txns.rows ≡ length old.txns.rows → d.failed new.disk ≡ false → IsTold d step reply old new
    told_answered reply stays late no_refusal number works_on rows alive = record {
      known = (λ j. record { failed = (works_on ∙ sym works) j; active = rows j; waiting = (kept j).2; group = (kept j).1; next = (kept j).0; fixed = fixed j }) ∙ sym (stays (known_of d old));
      number = number;
      failed = λ was. absurd (not_true old.failed works was);
      same = fresh reply late;
      mild = not_mild reply no_refusal;
      device = λ was broken. absurd (not_true (d.failed new.disk) alive broken);
    }

    -- a call below refused it
    pub told_refused : (f : Fault) (told : Fault) → told ≡ told_as f → new.failed ≡ ends_engine f → new.txns ≡ old.txns → ((f ≡ Memory) ⊎ (f ≡ PagesFull) → SameTable old.locks new.locks) → (d.failed new.disk ≡ true → told_as f ≡ faults.Device) → IsTold d step (Refused told) old new
    told_refused f told is fails table locks lost = record {
      known = λ j. record {
        failed = (fails ∙ sym (ends_breaks f) ∙ ap (λ (e : Fault). breaks (number_of e)) (sym is) ∙ sym (ap (λ (b : Bool). b || breaks (number_of told)) works)) j;
        active = length (table j).rows;
        waiting = (kept j).2;
        group = (kept j).1;
        next = (kept j).0;
        fixed = fixed j;
      };
      number = tt;
      failed = λ was. absurd (not_true old.failed works was);
      mild = λ is_mild. (table, locks (mild_below f told is is_mild));
      same = fresh (Refused told) (ap (λ (e : Fault). is_early (Refused e)) is ∙ never_early f);
      device = λ was broken. ap (λ (e : Fault). Refused e) (is ∙ lost broken);
    }

    pub told_committed : length old.txns.rows ≡ length new.txns.rows + 1 → new.failed ≡ false → (d.failed new.disk ≡ true → Committed ≡ Refused faults.Device) → IsTold d step Committed old new
    told_committed once works_on lost = record {
      known = λ j. record { failed = (works_on ∙ sym works) j; active = fewer once j; waiting = (kept j).2; group = (kept j).1; next = (kept j).0; fixed = fixed j };
      number = tt;
      failed = λ was. absurd (not_true old.failed works was);
      same = fresh Committed refl;
      mild = not_mild Committed refl;
      device = λ was broken. lost broken;
    }

    pub told_rolled_back : length old.txns.rows ≡ length new.txns.rows + 1 → new.failed ≡ false → (d.failed new.disk ≡ true → RolledBack ≡ Refused faults.Device) → IsTold d step RolledBack old new
    told_rolled_back once works_on lost = record {
      known = λ j. record { failed = (works_on ∙ sym works) j; active = fewer once j; waiting = (kept j).2; group = (kept j).1; next = (kept j).0; fixed = fixed j };
      number = tt;
      failed = λ was. absurd (not_true old.failed works was);
      same = fresh RolledBack refl;
      mild = not_mild RolledBack refl;
      device = λ was broken. lost broken;
    }

  -- its Commit waits for a force
  pub told_queued : (t : ℕ) → besides_rows new.txns ≡ (old.txns.next, old.txns.group, old.txns.waiting + 1) → length new.txns.rows ≡ length old.txns.rows → fixed_of d new ≡ fixed_of d old → new.failed ≡ false → d.failed new.disk ≡ false → IsTold d (answers.Commit t) More old new
  told_queued t kept rows fixed works_on alive = record {
    known = λ j. record { failed = (works_on ∙ sym works) j; active = rows j; waiting = (kept j).2; group = (kept j).1; next = (kept j).0; fixed = fixed j };
    number = tt;
    failed = λ was. absurd (not_true old.failed works was);
    same = fresh More refl;
    mild = not_mild More refl;
    device = λ was broken. absurd (not_true (d.failed new.disk) alive broken);
  }

  -- a force has ended all that waited
  pub told_forced : besides_rows new.txns ≡ (old.txns.next, old.txns.group, 0) → length new.txns.rows + old.txns.waiting ≡ length old.txns.rows → fixed_of d new ≡ fixed_of d old → new.failed ≡ false → d.failed new.disk ≡ false → IsTold d answers.Force Done old new
  told_forced kept rows fixed works_on alive =
      let left : length new.txns.rows ≡ length old.txns.rows - old.txns.waiting = omega (arith, rows) in
      record {
        known = λ j. record { failed = (works_on ∙ sym works) j; active = left j; waiting = (kept j).2; group = (kept j).1; next = (kept j).0; fixed = fixed j };
        number = tt;
        failed = λ was. absurd (not_true old.failed works was);
        same = fresh Done refl;
        mild = not_mild Done refl;
        device = λ was broken. absurd (not_true (d.failed new.disk) alive broken);
      }
