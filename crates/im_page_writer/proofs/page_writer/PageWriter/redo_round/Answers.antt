use Rattle.std.proofs.Common.{◌≡◌, ◌++◌, ℕ, Bool, false, true, Result, Ok, Err, refl, sym, ◌∙◌, subst, rules}
use Rattle.std.specs.Prelude.{is_some}
use Rattle.std.specs.BTreeMap.{get}
use Rattle.std.specs.Ordering.{nat_cmp}
use Rattle.im_base_types.specs.declared.fault.Fault.{Fault}
use Rattle.im_log.specs.declared.log_file.LogFile.{LogFile}
use Rattle.im_page_rounds.specs.Rounds.{AreFrom}
use Rattle.im_page_writer.specs.Outcome.{pages_of}
use Rattle.im_page_writer.specs.Rounds.{RoundHere, redone_of}
use Rattle.im_page_writer.specs.Synced.{IsKnown}
use Rattle.im_page_writer.specs.declared.known.Known.{Known}
use Rattle.im_page_flush.specs.Writing.{IsWriting}
use Rattle.im_page_flush.proofs.Goings.{leaves_so_far}
use Rattle.im_page_writer.proofs.LoggedChanges.{err_on}
use Rattle.im_page_writer.proofs.Outcomes.{leaves_of_end, no_page_for, pages_as, redo_of, redo_own, redo_refused}
use Rattle.im_page_writer.proofs.RedoneRecords.{copy_still}
use Rattle.im_page_writer.proofs.RoundsDone.{had_still, round_done, round_there, shown_still}
use Rattle.im_page_writer.proofs.SyncedPages.{known_redone}
use Rattle.im_page_writer.proofs.page_writer.PageWriter.redo_round.Goals as goal

pub returns-in_err-held-clause-outcome : goal.returns-in_err-held-clause-outcome
returns-in_err-held-clause-outcome g c = redo_refused g.D.Disk c.from_residual.result c.from_residual.ensures.1 (redo_of g.D.Disk (no_page_for _ refl) c.in_err-held.ensures.outcome)

pub returns-in_err-held-clause-kept : goal.returns-in_err-held-clause-kept
returns-in_err-held-clause-kept g c b base s newer front rs own who is over at there from had are stand has =
    let d = g.D.Disk in
    let loaded = λ (q : ℕ). (had q).0 in
    record {
      ok = search rules;
      applied = search rules;
      stops = leaves_of_end d c.in_err-held.ensures.outcome b base s is loaded;
      cause = λ among all. err_on c.from_residual.result c.in_err-held.field-0.0 _ c.from_residual.ensures.1 (c.in_err-held.ensures.kept (pages_of s) (pages_as d b base s c.args.self.now c.args.disk.now is loaded));
    }

pub returns-then-not-held-clause-outcome : goal.returns-then-not-held-clause-outcome
returns-then-not-held-clause-outcome g c = redo_of g.D.Disk (no_page_for _ refl) c.in_ok-held.ensures.outcome

pub returns-then-not-held-clause-kept : goal.returns-then-not-held-clause-kept
returns-then-not-held-clause-kept g c b base s newer front rs own who is over at there from had are stand has =
    let got = c.in_ok-held.ensures.outcome.ends.goes b base s is (λ q. (had q).0) in
    let mid = c.hold_all.new.self in
    record { ok = tt; applied = tt; stops = leaves_so_far g.D.Disk b base s c.args.disk.now got.now mid.log mid.table mid.pool c.hold_all.new.disk got.on.goes; cause = λ among all. tt }

pub returns-then-not-held-clause-none : goal.returns-then-not-held-clause-none
returns-then-not-held-clause-none g c b base s is loaded none = c.in_ok-held.ensures.outcome.ends.goes b base s is loaded

pub returns-then-not-held-clause-one : goal.returns-then-not-held-clause-one
returns-then-not-held-clause-one g c b base s is loaded single none =
    let yes : c.in_ok-held.held ≡ true = c.in_ok-held.ensures.one (pages_of s) (pages_as g.D.Disk b base s c.args.self.now c.args.disk.now is loaded) single in
    let clash : false ≡ true = sym c.if-not-held.true ∙ yes in
    cc clash

pub returns-in_err-applied-clause-outcome : goal.returns-in_err-applied-clause-outcome
returns-in_err-applied-clause-outcome g c =
    let held = c.in_ok-held.ensures.outcome in
    let e = c.in_err-applied.ensures in
    let refusal : Result ℕ Fault = Err c.in_err-applied.field-0.0 in
    redo_refused g.D.Disk c.from_residual-in_err-applied.result c.from_residual-in_err-applied.ensures.1
    (redo_own g.D.Disk (Unit {0}) refusal (search rules) held.ends.began (e.failed ∙ held.ends.works) held.ends.alive (e.refused, tt) (e.frames ∙ held.frames))

pub returns-in_err-applied-clause-kept : goal.returns-in_err-applied-clause-kept
returns-in_err-applied-clause-kept g c b base s newer front rs own who is over at there from had are stand has =
    let d = g.D.Disk in
    let got = c.in_ok-held.ensures.outcome.ends.goes b base s is (λ q. (had q).0) in
    let mid = c.hold_all.new.self in
    let shown = shown_still c.args.numbers.now mid.pool b s got.now got.on.goes.keeps got.on.goes.writing.pooled in
    record {
      ok = search rules;
      applied = search rules;
      stops = leaves_so_far d b base s c.args.disk.now got.now mid.log mid.table mid.pool c.hold_all.new.disk got.on.goes;
      cause = λ among all. absurd (c.in_err-applied.ensures.taken own (λ q. (s.pages q).page) stand shown among all);
    }

pub returns-clause-outcome : goal.returns-clause-outcome
returns-clause-outcome g c =
    let held = c.in_ok-held.ensures.outcome in
    let e = c.in_ok-applied.ensures in
    let answer : Result ℕ Fault = Ok c.in_ok-applied.applied in
    redo_own g.D.Disk (Unit {0}) answer (search rules) held.ends.began (e.failed ∙ held.ends.works) held.ends.alive tt (e.frames ∙ held.frames)

pub returns-clause-kept : goal.returns-clause-kept
returns-clause-kept g c b base s newer front rs own who is over at there from had are stand has =
    let d = g.D.Disk in
    let got = c.in_ok-held.ensures.outcome.ends.goes b base s is (λ q. (had q).0) in
    let t = got.now in
    let mid = c.hold_all.new.self in
    let disk = c.hold_all.new.disk in
    let new = c.redo_lent.new.self in
    let numbers = c.args.numbers.now in
    let keeps = got.on.goes.keeps in
    let going = keeps.redo_end ∙ over in
    let point = keeps.point ∙ at in
    let known : ℕ → Bool = λ q. is_some (get nat_cmp c.args.copies.now q) in
    let shown = shown_still numbers mid.pool b s t keeps got.on.goes.writing.pooled in
    let e = c.in_ok-applied.ensures in
    record {
      ok = record {
        before = t;
        keeps = keeps;
        stops = got.on.goes.stops;
        known = known;
        stands = record {
          working = e.failed ∙ got.on.working;
          known = known_redone t (redone_of who known rs t) new.known going refl refl refl (subst (λ (k : Known). IsKnown t k) (sym e.known) got.on.known);
          writing = subst (λ (x : LogFile). IsWriting d b base (redone_of who known rs t) x new.table new.pool disk) (sym e.log)
              (round_done d b base t mid disk got.on.goes.writing going (keeps.durable.newer ++ newer) front rs own who (round_there b s t keeps newer front rs there) (subst (λ (n : ℕ). AreFrom n rs) (sym point) from)
              (had_still b s t keeps newer front rs had) are known
              (λ p yes. copy_still b s t keeps p (has p yes)) numbers new (subst (λ (n : ℕ). RoundHere numbers n known own mid new) (sym point) (e.here own stand)));
        };
      };
      applied = e.count own (λ q. (s.pages q).page) stand shown;
      stops = leaves_so_far d b base s c.args.disk.now t mid.log mid.table mid.pool disk got.on.goes;
      cause = λ among all. tt;
    }
