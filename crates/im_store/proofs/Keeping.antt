-- What was made is upkeep.
use Rattle.std.proofs.Common.{◌∙◌, ap, inl, inr, refl, subst, sym, arith}
use Rattle.std.proofs.lemmas.Bool.{cases_lt}
use Rattle.std.specs.Prelude.{◌≡◌, ◌⊎◌, ◌<◌, ◌+◌, ◌-◌, ◌^◌, ℕ, min, max, Bool, Some, true, false, Result, OnOk, IfErr, Ok, Err, ◌≤◌}
use Rattle.im_base_types.specs.declared.tables.DirtyPage.{DirtyPage}
use Rattle.im_page_table.specs.DirtyTable.{oldest}
use Rattle.im_base_disk.specs.declared.disk.Disk.{Ghosts}
use Rattle.im_base_types.specs.declared.fault.Fault.{Fault}
use Rattle.im_base_steps.specs.declared.step.Step.{Step}
use Rattle.im_base_steps.specs.declared.step.Step.TheVariants.{FlushPage, Force, Checkpoint, Switch}
use Rattle.im_base_steps.specs.declared.reply.Reply.{Reply}
use Rattle.im_base_steps.specs.declared.reply.Reply.TheVariants.{Refused}
use Rattle.im_base_steps.specs.Calls.{asked_by}
use Rattle.im_base_steps.specs.Replies.{is_service}
use Rattle.im_engine.specs.declared.engine.Engine.{Engine}
use Rattle.im_engine.specs.Told.{IsStep}
use Rattle.im_store.specs.declared.upkeep.Upkeep.{Upkeep}
use Rattle.im_store.specs.declared.due.Due.TheVariants as due
use Rattle.im_store.specs.Noted.{IsNoted, IsNotedBy, IsStill, after_last, as_before, is_bare_after, is_done, is_left, noted, redo_from}
use Rattle.im_store.specs.Numbers.{active_of, dirty_of, durable_end_of, log_length_of}
use Rattle.im_store.specs.RedoBound.{redo_length}
use Rattle.im_store.specs.declared.bounds.Bounds.{Bounds}
use Rattle.im_store.specs.Upkeep.{IsKeptUp, none, more}
use Rattle.im_store.specs.Rule.{IsByRule, IsDue, IsEnded, IsLongAtEnd, IsWritten, IsTaken, KnowsPages, MadeLast, WasRefused, WentOn}
use Rattle.im_store.specs.Rule as rule

-- what follows where it was made
pub ok_on : {T A B : Type 0} (r : Result T Fault) → OnOk r A → (A → B) → OnOk r B
ok_on (Ok _) on f = f on
ok_on (Err _) on f = on

-- what follows where it was refused
pub err_on : {T : Type 0} {A B : Fault → Type 0} (r : Result T Fault) → IfErr r A → ((e : Fault) → A e → B e) → IfErr r B
err_on (Ok _) on f = on
err_on (Err e) on f = f e on

-- both where it was made
pub ok_both : {T : Type 0} (A B : Type 0) (r : Result T Fault) → OnOk r A → OnOk r B → OnOk r (A × B)
ok_both A B (Ok _) a b = (a, b)
ok_both A B (Err _) a b = tt

-- what follows either way
pub either_way : {T A K : Type 0} {B : Fault → Type 0} (r : Result T Fault) → OnOk r A → IfErr r B → (A → K) → ((e : Fault) → B e → K) → K
either_way (Ok _) on if_err so not_so = so on
either_way (Err e) on if_err so not_so = not_so e if_err

module _ {D : Type 0} (d : Ghosts D) where
  pub kept_none : (e : Engine D d) → IsKeptUp d e e
  kept_none e = none

  pub written_none : (e : Engine D d) → IsWritten d e e
  written_none e = rule.none

  -- writes of pages are upkeep
  pub written_kept : (old new : Engine D d) → IsWritten d old new → IsKeptUp d old new
  written_kept old _ rule.none = none
  written_kept old _ (rule.more mid new page before taken) = more mid new (FlushPage page) taken.reply (written_kept old mid before) refl taken.made

  -- a step after upkeep is
  pub taken_kept : (old mid new : Engine D d) (step : Step) → is_service (asked_by step) ≡ true → IsKeptUp d old mid → IsTaken d step mid new → IsKeptUp d old new
  taken_kept old mid new step service before taken = more mid new step taken.reply before service taken.made

  -- and the first one
  pub first_kept : (old new : Engine D d) (step : Step) → is_service (asked_by step) ≡ true → IsTaken d step old new → IsKeptUp d old new
  first_kept old new step service taken = taken_kept old old new step service none taken

  -- and a step after writes of pages
  pub last_kept : (old new : Engine D d) (step : Step) → is_service (asked_by step) ≡ true → MadeLast d step old new → IsKeptUp d old new
  last_kept old new step service made = taken_kept old made.mid new step service (written_kept old made.mid made.written) made.taken

  pub last_kept_on : {T : Type 0} (r : Result T Fault) (old new : Engine D d) → OnOk r (MadeLast d Checkpoint old new) → OnOk r (IsKeptUp d old new)
  last_kept_on r old new made = ok_on r made (last_kept old new Checkpoint refl)

  pub taken_last : (old mid new : Engine D d) (step : Step) → IsWritten d old mid → IsTaken d step mid new → MadeLast d step old new
  taken_last old mid new step written taken = record { mid = mid; written = written; taken = taken }

  -- a page more was written
  pub page_written : (old mid new : Engine D d) (page : ℕ) → IsWritten d old mid → IsTaken d (FlushPage page) mid new → IsWritten d old new
  page_written old mid new page before taken = rule.more mid new page before taken

  -- a step that was refused is upkeep too
  pub refused_kept : (old new : Engine D d) (fault : Fault) → WasRefused d old new fault → IsKeptUp d old new
  refused_kept old new fault was = more was.mid new was.step (Refused fault) was.before was.service was.made

  -- it was refused after upkeep
  pub refused_after : (old mid new : Engine D d) (step : Step) (fault : Fault) → is_service (asked_by step) ≡ true → IsKeptUp d old mid → IsStep d step (Refused fault) mid new → WasRefused d old new fault
  refused_after old mid new step fault service before made = record { mid = mid; step = step; before = before; service = service; made = made }

  pub refused_after_writes : (old mid new : Engine D d) (step : Step) (fault : Fault) → is_service (asked_by step) ≡ true → IsWritten d old mid → IsStep d step (Refused fault) mid new → WasRefused d old new fault
  refused_after_writes old mid new step fault service before made = refused_after old mid new step fault service (written_kept old mid before) made

  pub first_refused : (old new : Engine D d) (step : Step) (fault : Fault) → is_service (asked_by step) ≡ true → IsStep d step (Refused fault) old new → WasRefused d old new fault
  first_refused old new step fault service made = refused_after old old new step fault service none made

  pub page_refused : (old mid new : Engine D d) (page : ℕ) (fault : Fault) → IsWritten d old mid → IsStep d (FlushPage page) (Refused fault) mid new → WasRefused d old new fault
  page_refused old mid new page fault before made = refused_after_writes old mid new (FlushPage page) fault refl before made

  -- upkeep after upkeep
  pub kept_then : (old mid new : Engine D d) → IsKeptUp d old mid → IsKeptUp d mid new → IsKeptUp d old new
  kept_then old mid _ before none = before
  kept_then old mid _ before (more last new step reply later service made) = more last new step reply (kept_then old mid last before later) service made

  -- a refusal after upkeep
  pub refused_then : (old mid new : Engine D d) (fault : Fault) → IsKeptUp d old mid → WasRefused d mid new fault → WasRefused d old new fault
  refused_then old mid new fault before was = record { mid = was.mid; step = was.step; before = kept_then old mid was.mid before was.before; service = was.service; made = was.made }

  -- ---- by the rule

  pub failed_by_rule : (u : Upkeep) (e : Engine D d) → e.failed ≡ true → IsByRule d u e e
  failed_by_rule u e fails = record {
    failed = λ _. refl;
    switched = λ works is. absurd (let never : true ≡ false = sym fails ∙ works in cc never);
    taken = λ works is. absurd (let never : true ≡ false = sym fails ∙ works in cc never);
    nothing = λ works is. absurd (let never : true ≡ false = sym fails ∙ works in cc never);
  }

  pub switched_by_rule : (u : Upkeep) (old new : Engine D d) → old.failed ≡ false → IsDue d u old due.Switch → IsTaken d Switch old new → IsByRule d u old new
  switched_by_rule u old new works is made = record {
    failed = λ fails. absurd (let never : true ≡ false = sym fails ∙ works in cc never);
    switched = λ _ _. made;
    taken = λ _ other. absurd (other.0 is);
    nothing = λ _ other. absurd (other.0 is);
  }

  pub taken_by_rule : (u : Upkeep) (old new : Engine D d) → old.failed ≡ false → IsDue d u old due.Checkpoint → MadeLast d Checkpoint old new → IsByRule d u old new
  taken_by_rule u old new works is made = record {
    failed = λ fails. absurd (let never : true ≡ false = sym fails ∙ works in cc never);
    switched = λ _ other. absurd (is.0 other);
    taken = λ _ _. made;
    nothing = λ _ other. absurd (other.1 is.1);
  }

  pub written_by_rule : (u : Upkeep) (old new : Engine D d) → old.failed ≡ false → IsDue d u old due.Nothing → IsWritten d old new → IsByRule d u old new
  written_by_rule u old new works is made = record {
    failed = λ fails. absurd (let never : true ≡ false = sym fails ∙ works in cc never);
    switched = λ _ other. absurd (is.0 other);
    taken = λ _ other. absurd (is.1 other.1);
    nothing = λ _ _. made;
  }

  -- ---- what is noted

  -- a step that was made
  pub noted_by : (step : Step) (reply : Reply) (u v : Upkeep) (old new : Engine D d) → IsStep d step reply old new → v ≡ noted d step reply (durable_end_of d old) (log_length_of d old) new u → IsNotedBy d step u old new v
  noted_by step reply u v old new made is = record {
    reply = reply;
    made = made;
    from = ap (λ (w : Upkeep). w.from) is;
    left = ap (λ (w : Upkeep). w.is_upgraded) is;
    bare = ap (λ (w : Upkeep). w.is_bare) is;
    begun = ap (λ (w : Upkeep). w.begun) is;
    long = ap (λ (w : Upkeep). w.is_long) is;
  }

  -- the write of a page changes nothing of it
  page_from : (done : Bool) (page end : ℕ) (new : Engine D d) (from : ℕ) → redo_from d done (FlushPage page) end new from ≡ from
  page_from true page end new from = refl
  page_from false page end new from = refl

  page_left : (done : Bool) (page : ℕ) (is : Bool) → is_left done (FlushPage page) is ≡ is
  page_left true page is = refl
  page_left false page is = refl

  page_bare : (done : Bool) (page length : ℕ) (is : Bool) → is_bare_after done (FlushPage page) length is ≡ is
  page_bare true page length is = refl
  page_bare false page length is = refl

  pub noted_page : (u v : Upkeep) (old new : Engine D d) (page : ℕ) → IsNotedBy d (FlushPage page) u old new v → IsStill u v
  noted_page u v old new page is =
      (is.from ∙ page_from (is_done is.reply) page (durable_end_of d old) new u.from, is.left ∙ page_left (is_done is.reply) page u.is_upgraded, is.bare ∙ page_bare (is_done is.reply) page (log_length_of d old) u.is_bare, is.begun, is.long)

  pub page_still : (first u v : Upkeep) (old new : Engine D d) (page : ℕ) → IsStill first u → IsNotedBy d (FlushPage page) u old new v → IsStill first v
  page_still first u v old new page still is =
      (let flushed = noted_page u v old new page is in
      (flushed.0 ∙ still.0, flushed.1 ∙ still.1, flushed.2 ∙ still.2, flushed.3 ∙ still.3, flushed.4 ∙ still.4))

  pub noted_still : (u v : Upkeep) (old new : Engine D d) → IsStill u v → IsNoted d u old new v
  noted_still u v old new is = as_before is

  pub noted_first : (u v : Upkeep) (old new : Engine D d) (step : Step) → IsNotedBy d step u old new v → IsNoted d u old new v
  noted_first u v old new step is = after_last old step none is

  -- a step after writes of pages
  pub noted_last : (u w v : Upkeep) (old mid new : Engine D d) (step : Step) → IsWritten d old mid → IsStill u w → IsNotedBy d step w mid new v → IsNoted d u old new v
  noted_last u w v old mid new step written still is = after_last mid step (written_kept old mid written) (record {
    reply = is.reply;
    made = is.made;
    from = is.from ∙ ap (λ (from : ℕ). redo_from d (is_done is.reply) step (durable_end_of d mid) new from) still.0;
    left = is.left ∙ ap (λ (left : Bool). is_left (is_done is.reply) step left) still.1;
    bare = is.bare ∙ ap (λ (bare : Bool). is_bare_after (is_done is.reply) step (log_length_of d mid) bare) still.2;
    begun = is.begun ∙ still.3;
    long = is.long ∙ still.4;
  })

  -- ---- at the end

  pub failed_is_ended : (u : Upkeep) (e : Engine D d) → e.failed ≡ true → IsEnded d u e e
  failed_is_ended u e fails = record { failed = λ _. refl; forced = λ works. absurd (let never : true ≡ false = sym fails ∙ works in cc never) }

  pub forced_is_ended : (u : Upkeep) (old mid new : Engine D d) → old.failed ≡ false → IsTaken d Force old mid → IsKeptUp d mid new → (IsLongAtEnd d u mid → WentOn d mid new)
      → (1 ≤ u.bounds.log.bytes → active_of d new ≡ 0 → (log_length_of d new < 49152) ⊎ WentOn d mid new) → IsEnded d u old new
  forced_is_ended u old mid new works forced kept switched short = record {
    failed = λ fails. absurd (let never : true ≡ false = sym fails ∙ works in cc never);
    forced = λ _. record { mid = mid; forced = forced; kept = kept; switched = switched; short = short };
  }

  -- a force changes nothing by which the log is long
  force_bare : (done : Bool) (length : ℕ) (is : Bool) → is_bare_after done Force length is ≡ is
  force_bare true length is = refl
  force_bare false length is = refl

  pub long_after_force : (u v : Upkeep) (old e : Engine D d) → IsNotedBy d Force u old e v → v.bounds ≡ u.bounds → IsLongAtEnd d u e → IsLongAtEnd d v e
  long_after_force u v old e noted bounds is = record {
    idle = is.idle;
    bounded = subst (λ (b : Bounds). 1 ≤ b.log.bytes) (sym bounds) is.bounded;
    uncut = subst (λ (b : Bool). (b ≡ true) ⊎ (47 < log_length_of d e)) (sym (noted.bare ∙ force_bare (is_done noted.reply) (log_length_of d old) u.is_bare)) is.uncut;
    long = subst (λ (b : Bool). (b ≡ true) ⊎ (49152 ≤ log_length_of d e) ⊎ (49152 ≤ redo_length v.begun (durable_end_of d e) (dirty_of d e))) (sym noted.long)
        (subst (λ (n : ℕ). (u.is_long ≡ true) ⊎ (49152 ≤ log_length_of d e) ⊎ (49152 ≤ redo_length n (durable_end_of d e) (dirty_of d e))) (sym noted.begun) is.long);
  }

  -- a log that is not long is short
  pub short_unless_long : (u : Upkeep) (e : Engine D d) → (IsLongAtEnd d u e → ⊥) → 1 ≤ u.bounds.log.bytes → active_of d e ≡ 0 → log_length_of d e < 49152
  short_unless_long u e not bounded idle = elim (cases_lt (log_length_of d e) 49152) [
    | inl lt ↦ lt
    | inr ge ↦ absurd (not (record { idle = idle; bounded = bounded; uncut = inr (omega (arith, ge)); long = inr (inl ge) }))
  ]

  -- a Switch at once, or after other steps
  pub went_at_once : (old new : Engine D d) → IsTaken d Switch old new → WentOn d old new
  went_at_once old new taken = record { mid = old; before = none; taken = taken }

  pub went_after : (old mid new : Engine D d) → IsKeptUp d old mid → WentOn d mid new → WentOn d old new
  went_after old mid new before went = record { mid = went.mid; before = kept_then old mid went.mid before went.before; taken = went.taken }

  pub went_kept : (old new : Engine D d) → WentOn d old new → IsKeptUp d old new
  went_kept old new went = taken_kept old went.mid new Switch refl went.before went.taken

  -- ---- the pages that are known

  pub knows_more : (old mid : Engine D d) (known pages n : ℕ) (change : DirtyPage) → KnowsPages d old known pages → IsKeptUp d old mid → oldest mid.writer.table ≡ Some change → n ≡ max pages (min (change.page + 1) (2 ^ 32 - 1)) → KnowsPages d old known n
  knows_more old mid known pages n change knows before is grown = elim (cases_lt pages (min (change.page + 1) (2 ^ 32 - 1))) [
    | inl lt ↦ inr (at_least old known pages n knows (omega (arith, grown, lt)), change.page, record { mid = mid; before = before; change = change; first = is; is = refl }, (omega (arith, grown, lt)))
    | inr ge ↦ (let same : n ≡ pages = omega (arith, grown, ge) in subst (λ (k : ℕ). KnowsPages d old known k) (sym same) knows)
  ]
    where
      at_least : (old : Engine D d) (known pages n : ℕ) → KnowsPages d old known pages → pages ≤ n → known ≤ n
      at_least old known pages n (inl same) le = omega (arith, same, le)
      at_least old known pages n (inr found) le = (let low = found.0 in omega (arith, low, le))

  pub knows_after : (old mid : Engine D d) (known pages : ℕ) → IsKeptUp d old mid → KnowsPages d mid known pages → KnowsPages d old known pages
  knows_after old mid known pages before (inl same) = inl same
  knows_after old mid known pages before (inr (le, page, had, is)) = inr (le, page, record { mid = had.mid; before = kept_then old mid had.mid before had.before; change = had.change; first = had.first; is = had.is }, is)
