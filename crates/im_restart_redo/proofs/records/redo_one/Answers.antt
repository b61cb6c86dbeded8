use Rattle.std.proofs.Common.{◌≡◌, ◌≤◌, ◌++◌, ℕ, true, ap, arith, refl, subst, sym, ◌∙◌}
use Rattle.std.specs.Prelude.{is_some}
use Rattle.std.specs.BTreeMap.{get}
use Rattle.std.specs.Ordering.{nat_cmp}
use Rattle.im_theory_log.specs.RedoPoints.{redo_point}
use Rattle.im_log_record.specs.Entry.{view, page_of}
use Rattle.im_log.specs.Spelled.{logged_at}
use Rattle.im_base_types.specs.declared.fault.Fault.TheVariants.{Device, NotAStore}
use Rattle.im_restart_redo.proofs.Applying.{applied, begun_in_log, next_durable, next_in_begun, next_is, next_record, next_taken, noted_still}
use Rattle.im_page_writer.specs.Outcome.{no_page}
use Rattle.im_page_writer.proofs.Cited.{err_on, sound_on}
use Rattle.im_restart_redo.proofs.Recoveries.{redone, recovers_then, recovery_own, recovery_refused}
use Rattle.im_restart_redo.proofs.Within.{leaves_more, leaves_read, read_is, read_some, within_read}
use Rattle.im_restart_redo.proofs.records.redo_one.Goals as goal

pub returns-in_err-place-clause-outcome : goal.returns-in_err-place-clause-outcome
returns-in_err-place-clause-outcome g c = recovery_refused g.D.Disk c.from_residual.result c.from_residual.ensures.1 c.in_err-place.ensures.outcome

pub returns-in_err-place-clause-kept : goal.returns-in_err-place-clause-kept
returns-in_err-place-clause-kept g c b base begun file from left count so shows can at are =
    let d = g.D.Disk in
    let next = next_record d b base begun file from c.args.lsn left count c.args.writer.now c.args.disk.now so in
    let within = next.passed.within in
    let read = c.in_err-place.ensures in
    let also = begun_in_log d b base begun file from c.args.lsn left count c.args.writer.now c.args.disk.now next in
    let found = read.found b base next.passed.now begun next.first within.stands also shows (next_in_begun d b base begun file from c.args.lsn left count c.args.writer.now c.args.disk.now next) next.lsn_is in
    record {
      stops = leaves_read d b base begun from next.passed.now c.args.writer.now c.args.disk.now within c.bring.new.disk read.reads;
      sound = sound_on c.from_residual.result _ _ c.from_residual.ensures.1 (λ same. let clash : NotAStore ≡ Device = sym same ∙ found.cause in cc clash);
    }

pub returns-in_err-record-clause-outcome : goal.returns-in_err-record-clause-outcome
returns-in_err-record-clause-outcome g c =
    let r = c.from_residual-in_err-record.result in
    recovery_own g.D.Disk {m = no_page} refl refl refl r c.in_ok-place.ensures.outcome
    (err_on r c.in_err-record.field-0.0 _ c.from_residual-in_err-record.ensures.1 (ap no_page c.in_err-record.ensures.entry.0))

pub returns-in_err-record-clause-kept : goal.returns-in_err-record-clause-kept
returns-in_err-record-clause-kept g c b base begun file from left count so shows can at are =
    let d = g.D.Disk in
    let next = next_record d b base begun file from c.args.lsn left count c.args.writer.now c.args.disk.now so in
    let within = next.passed.within in
    let read = c.in_ok-place.ensures in
    let also = begun_in_log d b base begun file from c.args.lsn left count c.args.writer.now c.args.disk.now next in
    let found = read.found b base next.passed.now begun next.first within.stands also shows (next_in_begun d b base begun file from c.args.lsn left count c.args.writer.now c.args.disk.now next) next.lsn_is in
    let none = c.in_err-record.ensures.entry in
    record {
      stops = leaves_read d b base begun from next.passed.now c.args.writer.now c.args.disk.now within c.bring.new.disk read.reads;
      sound = absurd (read_some next.first _ found.ok none.1);
    }

pub returns-in_err-applied-clause-outcome : goal.returns-in_err-applied-clause-outcome
returns-in_err-applied-clause-outcome g c =
    let d = g.D.Disk in
    recovery_refused d c.from_residual-in_err-applied.result c.from_residual-in_err-applied.ensures.1
    (recovers_then d {m = no_page} c.in_ok-place.ensures.outcome (redone d c.in_err-applied.ensures.outcome))

pub returns-in_err-applied-clause-kept : goal.returns-in_err-applied-clause-kept
returns-in_err-applied-clause-kept g c b base begun file from left count so shows can at are =
    let d = g.D.Disk in
    let next = next_record d b base begun file from c.args.lsn left count c.args.writer.now c.args.disk.now so in
    let within = next.passed.within in
    let read = c.in_ok-place.ensures in
    let also = begun_in_log d b base begun file from c.args.lsn left count c.args.writer.now c.args.disk.now next in
    let found = read.found b base next.passed.now begun next.first within.stands also shows (next_in_begun d b base begun file from c.args.lsn left count c.args.writer.now c.args.disk.now next) next.lsn_is in
    let entry = view c.in_ok-record.record in
    let same = read_is next.first _ entry found.ok c.in_ok-record.ensures.entry in
    let here = next_is d b base begun file from c.args.lsn left count c.args.writer.now c.args.disk.now next entry same in
    let low : c.args.point ≤ c.args.lsn = (let above : redo_point begun ≤ c.args.lsn = next.low in omega (arith, at, above)) in
    let stands = read.kept b base next.passed.now within.stands in
    let then = within_read d b base begun from next.passed.now c.args.writer.now c.args.disk.now within c.bring.new.writer c.bring.new.disk stands read.reads in
    let one = c.in_err-applied.ensures.kept b base next.passed.now (within.durable.newer ++ next.after) next.older stands within.going (within.point ∙ sym at)
    (next_durable d b base begun file from c.args.lsn left count c.args.writer.now c.args.disk.now next entry same) low next.passed.had
    (λ known. noted_still b begun next.passed.now (page_of entry) c.args.point c.args.copies.now are at within.durable within.point (subst (λ (n : ℕ). is_some (get nat_cmp c.args.copies.now n) ≡ true) c.page.ensures (c.has_copy-copied.ensures known))) in
    record {
      stops = leaves_more d b base begun from next.passed.now c.bring.new.writer c.bring.new.disk then c.redo_change.new.disk one.stops;
      sound = sound_on c.from_residual-in_err-applied.result _ _ c.from_residual-in_err-applied.ensures.1 (one.cause (next_taken d b base begun file from c.args.lsn left count c.args.writer.now c.args.disk.now next (logged_at c.args.lsn entry) here can));
    }

pub returns-clause-outcome : goal.returns-clause-outcome
returns-clause-outcome g c = recovers_then g.D.Disk {m = no_page} c.in_ok-place.ensures.outcome (redone g.D.Disk c.in_ok-applied.ensures.outcome)

pub returns-clause-kept : goal.returns-clause-kept
returns-clause-kept g c b base begun file from left count so shows can at are =
    let d = g.D.Disk in
    let next = next_record d b base begun file from c.args.lsn left count c.args.writer.now c.args.disk.now so in
    let within = next.passed.within in
    let read = c.in_ok-place.ensures in
    let also = begun_in_log d b base begun file from c.args.lsn left count c.args.writer.now c.args.disk.now next in
    let found = read.found b base next.passed.now begun next.first within.stands also shows (next_in_begun d b base begun file from c.args.lsn left count c.args.writer.now c.args.disk.now next) next.lsn_is in
    let entry = view c.in_ok-record.record in
    let same = read_is next.first _ entry found.ok c.in_ok-record.ensures.entry in
    let here = next_is d b base begun file from c.args.lsn left count c.args.writer.now c.args.disk.now next entry same in
    let low : c.args.point ≤ c.args.lsn = (let above : redo_point begun ≤ c.args.lsn = next.low in omega (arith, at, above)) in
    let stands = read.kept b base next.passed.now within.stands in
    let then = within_read d b base begun from next.passed.now c.args.writer.now c.args.disk.now within c.bring.new.writer c.bring.new.disk stands read.reads in
    let one = c.in_ok-applied.ensures.kept b base next.passed.now (within.durable.newer ++ next.after) next.older stands within.going (within.point ∙ sym at)
    (next_durable d b base begun file from c.args.lsn left count c.args.writer.now c.args.disk.now next entry same) low next.passed.had
    (λ known. noted_still b begun next.passed.now (page_of entry) c.args.point c.args.copies.now are at within.durable within.point (subst (λ (n : ℕ). is_some (get nat_cmp c.args.copies.now n) ≡ true) c.page.ensures (c.has_copy-copied.ensures known))) in
    record {
      sound = applied d b base begun file from c.args.lsn left count c.args.writer.now c.args.disk.now next (logged_at c.args.lsn entry) here c.bring.new.writer c.bring.new.disk then c.redo_change.new.self c.redo_change.new.disk one.ok c.in_ok-applied.applied one.applied;
      stops = leaves_more d b base begun from next.passed.now c.bring.new.writer c.bring.new.disk then c.redo_change.new.disk one.stops;
    }

pub returns-clause-shows : goal.returns-clause-shows
returns-clause-shows g c b base begun file from left count so shows =
    let d = g.D.Disk in
    let next = next_record d b base begun file from c.args.lsn left count c.args.writer.now c.args.disk.now so in
    c.in_ok-place.ensures.shows b base next.passed.now begun next.passed.within.stands (begun_in_log d b base begun file from c.args.lsn left count c.args.writer.now c.args.disk.now next) shows
