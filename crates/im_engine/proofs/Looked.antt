-- Calls that only look.
use Rattle.std.proofs.Common.{◌≡◌, ◌≢◌, inl, inr, ℕ, ◌≤◌, ◌^◌, List, Bool, true, false, Option, None, Some, Result, Ok, Err, IfErr, OnOk, refl, sym, ap, subst, ◌∙◌, is_some}
use Rattle.std.proofs.lemmas.Bool.{cases_Bool}
use Rattle.std.specs.Prelude.{◌↔◌, IfSome}
use Rattle.std.specs.FinMap.{empty, entries}
use Rattle.im_base_types.specs.Maps.{IndexMap}
use Rattle.im_base_types.specs.Pages.{Entry}
use Rattle.im_base_types.specs.Changes.{Effect, apply_all}
use Rattle.im_theory_log.specs.Histories.{Base}
use Rattle.im_base_types.specs.Lives.{Shown, breaks}
use Rattle.im_base_types.specs.Faults.{number_of}
use Rattle.im_base_types.specs.declared.fault.Fault.{Fault}
use Rattle.im_base_types.specs.declared.fault.Fault.TheVariants.{Failed, LogFull, Device, Memory, NotAStore, Unfinished}
use Rattle.im_base_disk.specs.declared.disk.Disk.{Ghosts}
use Rattle.im_base_disk.specs.Disk.{Files}
use Rattle.im_base_disk.specs.Runs.{LeavesOnly}
use Rattle.im_base_two_logs.specs.Runs.{LeavesNamed}
use Rattle.im_base_two_logs.proofs.Runs.{unnamed}
use Rattle.im_engine.proofs.Named.{allowed_nameless}
use Rattle.im_base_disk.proofs.Runs.{started}
use Rattle.im_log.proofs.Above.{left_now}
use Rattle.im_theory_log.specs.Writer.{Writer}
use Rattle.im_page_writer.specs.declared.page_writer.PageWriter.{PageWriter}
use Rattle.im_page_writer.specs.PageWriter.{Evicted}
use Rattle.im_page_writer.specs.Outcome.{fault_of, AreLoaded, Ends, Lists, mild, no_page, Outcome}
use Rattle.im_theory_tree.specs.Theory.{page_tree}
use Rattle.im_theory_machine.specs.Table.{Table}
use Rattle.im_theory_machine.specs.View.{View, own_locks}
use Rattle.im_theory_steps.specs.Growth.{AreBelow}
use Rattle.im_theory_steps.specs.Serving.{IsServing}
use Rattle.im_theory_steps.proofs.Cited.{copies_are_images, images_change_nothing, images_keep, commits_stand, quiet_lives_settle, lives_go_on}
use Rattle.im_engine.specs.declared.engine.Engine.{Engine}
use Rattle.im_engine.specs.Faults.{told_as, ends_engine}
use Rattle.im_engine.specs.Told.{ReadCause}
use Rattle.im_engine.specs.Numbered.{Numbered}
use Rattle.im_engine.specs.Stands.{Allowed}
use Rattle.im_engine.specs.Running.{IsRunning, IsLife}
use Rattle.im_engine.specs.Kept.{LookKept, EntriesKept}
use Rattle.im_engine.specs.Looking.{Looks, broken_by}
use Rattle.im_engine.proofs.Running.{tells, read_on, read_stops, runs_on}
use Rattle.im_engine.proofs.AtRest.{lives_on}

pub not_true : (b : Bool) → b ≡ false → b ≡ true → ⊥
not_true b off on = let never : false ≡ true = sym off ∙ on in cc never

-- a call that makes nothing grow wants no memory
pub never_short : {D : Type 0} (d : Ghosts D) {asks : Writer → Type 0} {v : PageWriter} {old : D} {w : PageWriter} {new : D} {f : Fault} → Outcome d asks no_page v old w new (Some f) → f ≡ Memory → ⊥
never_short d {asks} {v} {old} {w} {new} {f} one is =
    let moved : Outcome d asks no_page v old w new (Some Memory) = subst (λ (x : Fault). Outcome d asks no_page v old w new (Some x)) is one in
    let clash : false ≡ true = moved.ends.0 in cc clash

module _ {D : Type 0} (d : Ghosts D) (old new : Engine D d) where
  -- how a search of an engine that works ended, with its writer
  pub record SearchedBy (why : Option Fault) : Type 0 where
    pub writer : Lists d old.writer old.disk new.writer new.disk why
    pub failed : new.failed ≡ broken_by why
    pub txns : new.txns ≡ old.txns
    pub locks : new.locks ≡ old.locks
    pub max_pages : new.max_pages ≡ old.max_pages
    pub dense : new.dense ≡ old.dense
    pub report : new.report ≡ old.report
    pub stepped : new.stepped ≡ old.stepped
    pub under : new.under ≡ old.under

  module _ (works : old.writer.failed ≡ false) where
    never_failed : (why : Option Fault) → Ends d AreLoaded mild old.writer old.disk new.writer new.disk why → why ≡ Some Failed → ⊥
    never_failed None x is = cc is
    never_failed (Some Failed) x is = not_true old.writer.failed works x.0
    never_failed (Some e) x is = cc is

    never_unfinished : (why : Option Fault) → Ends d AreLoaded mild old.writer old.disk new.writer new.disk why → why ≡ Some Unfinished → ⊥
    never_unfinished None x is = cc is
    never_unfinished (Some Unfinished) x is = let never = x.0 in cc never
    never_unfinished (Some e) x is = cc is

    cause_of : (why : Option Fault) → Ends d AreLoaded mild old.writer old.disk new.writer new.disk why → IfSome why (ReadCause d new.writer.log new.disk)
    cause_of None x = tt
    cause_of (Some Memory) x = tt
    cause_of (Some LogFull) x = x.2
    cause_of (Some Device) x = x.1
    cause_of (Some NotAStore) x = tt
    cause_of (Some Failed) x = absurd (not_true old.writer.failed works x.0)
    cause_of (Some g) x = absurd (let never = x.0 in cc never)

    device_of : (why : Option Fault) → Ends d AreLoaded mild old.writer old.disk new.writer new.disk why → (why ≡ Some Device) ↔ (d.failed new.disk ≡ true)
    device_of None x = ((λ is. absurd (cc is)), (λ lost. absurd (not_true (d.failed new.disk) x.alive lost)))
    device_of (Some Device) x = ((λ is. x.1), (λ lost. refl))
    device_of (Some LogFull) x = ((λ is. absurd (cc is)), (λ lost. absurd (not_true (d.failed new.disk) x.1 lost)))
    device_of (Some Failed) x = absurd (not_true old.writer.failed works x.0)
    device_of (Some e) x = ((λ is. absurd (cc is)), (λ lost. absurd (not_true (d.failed new.disk) x.1.alive lost)))

  -- a search of an engine that works
  pub looks_of : old.failed ≡ false → (why : Option Fault) → SearchedBy why → Looks d why old new
  looks_of works why one = record {
    failed = (λ is. absurd (never_failed (old.working works) why one.writer.ends is), λ was. absurd (not_true old.failed works was));
    same = λ was. absurd (not_true old.failed works was);
    unfinished = λ is. absurd (never_unfinished (old.working works) why one.writer.ends is);
    searched = λ _ _. record {
      cause = cause_of (old.working works) why one.writer.ends;
      device = device_of (old.working works) why one.writer.ends;
      failed = one.failed;
      frames = one.writer.frames;
      txns = one.txns;
      locks = one.locks;
      max_pages = one.max_pages;
      dense = one.dense;
      report = one.report;
      stepped = one.stepped;
      under = one.under;
    };
  }

  -- ---- what it says of the engine

  -- it works where it was not refused
  pub look_works : {A : Type 0} (r : Result A Fault) → Looks d (fault_of r) old new → OnOk r (new.failed ≡ false)
  look_works {A} (Ok a) one = elim (cases_Bool old.failed) [
    | inl was ↦ (let never = one.failed.1 was in absurd (cc never))
    | inr was ↦ (one.searched was (λ is. cc is)).failed
  ]
  look_works {A} (Err e) one = tt

  ends_as : (f : Fault) → ReadCause d new.writer.log new.disk f → ends_engine f ≡ breaks (number_of f)
  ends_as Memory x = refl
  ends_as LogFull x = refl
  ends_as Device x = refl
  ends_as NotAStore x = refl
  ends_as g x = absurd x

  -- and has failed where the refusal breaks it
  pub look_fails : {A : Type 0} (r : Result A Fault) → Looks d (fault_of r) old new → IfErr r (λ e. new.failed ≡ breaks (number_of e))
  look_fails {A} (Ok a) one = tt
  look_fails {A} (Err e) one = elim (cases_Bool old.failed) [
    | inl was ↦ ap (λ (x : Engine D d). x.failed) (one.same was) ∙ was ∙ sym (ap (λ (why : Option Fault). told_by why) (one.failed.1 was))
    | inr was ↦ by e one was
  ]
    where
      told_by : Option Fault → Bool
      told_by None = false
      told_by (Some f) = breaks (number_of f)

      by : (f : Fault) → Looks d (Some f) old new → old.failed ≡ false → new.failed ≡ breaks (number_of f)
      by Unfinished on was = ap (λ (x : Engine D d). x.failed) (on.unfinished refl).1 ∙ was
      by f on was = (on.searched was (λ is. cc is)).failed ∙ ends_as f (on.searched was (λ is. cc is)).cause

  cause_told : (f : Fault) → ReadCause d new.writer.log new.disk f → ReadCause d new.writer.log new.disk (told_as f)
  cause_told Memory x = x
  cause_told LogFull x = x
  cause_told Device x = x
  cause_told NotAStore x = x
  cause_told g x = absurd x

  -- why it was refused
  pub look_cause : {A : Type 0} (r : Result A Fault) → Looks d (fault_of r) old new → IfErr r (λ e. old.failed ≡ false → Some e ≢ Some Unfinished → ReadCause d new.writer.log new.disk (told_as e))
  look_cause {A} (Ok a) one = tt
  look_cause {A} (Err e) one = λ works other. cause_told e (one.searched works other).cause

-- a look leaves the table of transactions as it was
pub looks_txns : {D : Type 0} (d : Ghosts D) (why : Option Fault) (old new : Engine D d) → Looks d why old new → new.txns ≡ old.txns
looks_txns {D = D} d (Some Unfinished) old new looks = ap (λ (e : Engine D d). e.txns) (looks.unfinished refl).1
looks_txns {D = D} d (Some f) old new looks = elim (cases_Bool old.failed) [ inl failed ↦ ap (λ (e : Engine D d). e.txns) (looks.same failed) | inr works ↦ (looks.searched works (λ is. cc is)).txns ]
looks_txns {D = D} d None old new looks = elim (cases_Bool old.failed) [ inl failed ↦ ap (λ (e : Engine D d). e.txns) (looks.same failed) | inr works ↦ (looks.searched works (λ is. cc is)).txns ]

-- an engine that has failed
pub looks_failed : {D : Type 0} (d : Ghosts D) (e : Engine D d) → e.failed ≡ true → Looks d (Some Failed) e e
looks_failed d e was = record {
  failed = (λ _. was, λ _. refl);
  same = λ _. refl;
  unfinished = λ is. absurd (cc is);
  searched = λ works. absurd (not_true e.failed works was);
}

-- one that works, and has a structure change under way
pub looks_unfinished : {D : Type 0} (d : Ghosts D) (e : Engine D d) → e.failed ≡ false → is_some e.under ≡ true → Looks d (Some Unfinished) e e
looks_unfinished d e works some = record {
  failed = (λ is. absurd (cc is), λ was. absurd (not_true e.failed works was));
  same = λ _. refl;
  unfinished = λ _. (some, refl);
  searched = λ _ other. absurd (other refl);
}

module _ {D : Type 0} (d : Ghosts D) (before : List Effect) (s : Shown) (v : View) where
  by_no_names : (old new : D) → LeavesOnly d old new (Allowed before s) → LeavesNamed d old new (Allowed before s)
  by_no_names old new run = unnamed d (Allowed before s) (allowed_nameless before s) old new run

  -- one that has failed stays as it was
  pub look_barred : (e : Engine D d) → IsLife d before s v e → e.failed ≡ true → ((c : Files) → d.left_since e.disk (d.moment e.disk) c → d.may_leave e.disk c) → LookKept d before s v e e
  look_barred e life was only_now =
      let gone : v.failed ≡ true = life.failed ∙ was in
      let told : s.failed ≡ true = life.lived.shows.shown.failed ∙ gone in
      let here : IsLife d before (record s { failed = true }) v e = subst (λ (b : Bool). IsLife d before (record s { failed = b }) v e) told life in
      record {
        after = inr (own_locks v, subst (λ (b : Bool). IsLife d before (record s { failed = true }) (record v { failed = b }) e) gone here);
        stops = by_no_names e.disk e.disk (started d e.disk (Allowed before s) (λ on c left. life.stops c (only_now c left)));
      }

  -- one that works stays as it was too, where nothing is done
  pub look_still : (e : Engine D d) → IsLife d before s v e → e.failed ≡ false → ((c : Files) → d.left_since e.disk (d.moment e.disk) c → d.may_leave e.disk c) → LookKept d before s v e e
  look_still e life works only_now = record {
    after = inl (works, life);
    stops = by_no_names e.disk e.disk (started d e.disk (Allowed before s) (λ on c left. life.stops c (only_now c left)));
  }

  module _ (old new : Engine D d) (life : IsLife d before s v old) (works : old.failed ≡ false) where
    abbrev run : (b : Base) × IsRunning d b before s v old
    run = life.running works

    -- after calls that added no more than Images
    pub still_runs : Evicted d run.0 run.1.base run.1.now old.disk new.writer new.disk → new.txns ≡ old.txns → new.locks ≡ old.locks → new.under ≡ old.under → IsRunning d run.0 before s v new
    still_runs is table locks stays =
        let b = run.0 in
        let r = run.1 in
        let same = copies_are_images page_tree b r.now.log is.now.log is.on.goes.keeps.log in
        let on = images_change_nothing b r.now.log is.now.log same.images in
        let serves = images_keep b r.earlier before s v r.now.log is.now.log old.txns.rows old.txns.next old.locks r.serving same.images in
        let commits = commits_stand.more r.earlier before s.asked r.now.durable is.now.log is.now.durable
        (commits_stand.stay r.earlier before s.asked r.now.durable r.now.log is.now.log r.commits on.0.commits)
        (record { from = is.on.goes.keeps.durable; upto = is.on.goes.writing.stands.kept.front }) in
        runs_on d before s v old r s v new is.now is.on
        (subst (λ (held : Table). IsServing b r.earlier before s v is.now.log new.txns.rows new.txns.next held) (sym locks) (subst (λ (x : Numbered). IsServing b r.earlier before s v is.now.log x.rows x.next old.locks) (sym table) serves))
        commits
        (subst (λ (n : ℕ). n ≤ 2 ^ 62 → AreBelow n is.now.log) (sym (ap (λ (x : Numbered). x.next) table)) (λ le. same.below old.txns.next old.numbered (r.numbered le))) refl stays

    -- a look that was answered
    pub look_kept : SearchedBy d old new None → LookKept d before s v old new
    look_kept one = record {
      after = inl (one.failed, lives_on d before s v new one.failed (still_runs (read_on d before s v old run.1 new.writer new.disk one.writer.ends) one.txns one.locks one.under));
      stops = by_no_names old.disk new.disk (read_stops d before s v old run.1 new.writer new.disk one.writer);
    }

    -- one that was refused
    pub look_refused : ((t : ℕ) (c : Files) → t ≤ d.moment new.disk → d.may_leave new.disk c → d.left_since new.disk t c) → (fault : Fault) → SearchedBy d old new (Some fault) → LookKept d before s v old new
    look_refused counts_now fault one = by fault one.writer.ends one.failed
      where
        leaves : LeavesOnly d old.disk new.disk (Allowed before s)
        leaves = read_stops d before s v old run.1 new.writer new.disk one.writer

        broke : new.failed ≡ true → LookKept d before s v old new
        broke fails = record {
          after = inr (
            own_locks v,
            record {
              stops = λ c left. left_now d old.disk new.disk (Allowed before s) counts_now leaves (tells d before s v old run.1) c left;
              failed = sym fails;
              lived = lives_go_on.looks (apply_all empty before) s v (own_locks v) life.lived (life.failed ∙ works);
              running = λ on. absurd (not_true new.failed on fails);
            },
          );
          stops = by_no_names old.disk new.disk leaves;
        }

        by : (g : Fault) → Ends d AreLoaded mild old.writer old.disk new.writer new.disk (Some g) → new.failed ≡ ends_engine g → LookKept d before s v old new
        by Memory x on = record { after = inl (on, lives_on d before s v new on (still_runs (read_on d before s v old run.1 new.writer new.disk x.1) one.txns one.locks one.under)); stops = by_no_names old.disk new.disk leaves }
        by LogFull x on = broke on
        by Device x on = broke on
        by NotAStore x on = broke on
        by Failed x on = absurd (not_true old.writer.failed (old.working works) x.0)
        by g x on = absurd (let never = x.0 in cc never)

-- the entries
pub entries_kept : {D : Type 0} (d : Ghosts D) {b : Base} (before : List Effect) (s : Shown) (v : View) (e : Engine D d) (r : IsRunning d b before s v e) (list : List Entry) → list ≡ entries v.walk → EntriesKept before s v list
entries_kept d {b = b} before s v e r list here = record {
  walk = here;
  quiet = λ none.
      let on = quiet_lives_settle b r.earlier before s v r.now.durable r.now.log e.txns.rows e.txns.next e.locks r.serving r.commits none in
      here ∙ ap (λ (m : IndexMap). entries m) (r.serving.seen_by.walk ∙ sym on.serving.seen_by.walk ∙ on.committed);
}
