use Rattle.std.proofs.Common.{◌≡◌, ap, refl, sym, ◌∙◌}
use Rattle.im_log_record.specs.Entry.{view}
use Rattle.im_base_types.specs.declared.fault.Fault.TheVariants.{Device, NotAStore}
use Rattle.im_restart_redo.proofs.Loading.{asks_load, holds_copy, in_log, loads}
use Rattle.im_page_writer.specs.Outcome.{no_page}
use Rattle.im_page_writer.proofs.Cited.{err_on, sound_on}
use Rattle.im_restart_redo.proofs.Recoveries.{moved, read_none, redone, recovers_then, recovery_own, recovery_refused}
use Rattle.im_restart_redo.proofs.Within.{leaves_read, read_is, read_some, within_read}
use Rattle.im_restart_redo.proofs.copies.load_one.Goals as goal

pub returns-in_err-size-clause-outcome : goal.returns-in_err-size-clause-outcome
returns-in_err-size-clause-outcome g c =
    let e = c.in_err-size.ensures in
    recovery_refused g.D.Disk c.from_residual.result c.from_residual.ensures.1
    (read_none g.D.Disk c.args.writer.now c.read_at.new.self c.read_at.new.disk c.requires.working e.ready e.frames refl _ c.in_err-size.field-0.0 refl e.failed e.causes e.already e.device)

pub returns-in_err-size-clause-kept : goal.returns-in_err-size-clause-kept
returns-in_err-size-clause-kept g c b base begun file from p left so at =
    let d = g.D.Disk in
    let held = holds_copy d b base begun file from p c.args.lsn left c.args.writer.now c.args.disk.now so in
    let read = c.in_err-size.ensures in
    let found = read.found b base so.now held.holder so.within.stands (in_log d b base begun file from p c.args.lsn left c.args.writer.now c.args.disk.now so) held.lsn in
    record {
      stops = leaves_read d b base begun from so.now c.args.writer.now c.args.disk.now so.within c.read_at.new.disk read.reads;
      sound = sound_on c.from_residual.result _ _ c.from_residual.ensures.1 (λ same. let clash : NotAStore ≡ Device = sym same ∙ found.cause in cc clash);
    }

pub returns-in_err-record-clause-outcome : goal.returns-in_err-record-clause-outcome
returns-in_err-record-clause-outcome g c =
    let e = c.in_ok-size.ensures in
    let r = c.from_residual-in_err-record.result in
    recovery_own g.D.Disk {m = no_page} refl refl refl r (moved g.D.Disk c.args.writer.now c.read_at.new.self c.read_at.new.disk c.requires.working e.ready e.frames e.works)
    (err_on r c.in_err-record.field-0.0 _ c.from_residual-in_err-record.ensures.1 (ap no_page c.in_err-record.ensures.entry.0))

pub returns-in_err-record-clause-kept : goal.returns-in_err-record-clause-kept
returns-in_err-record-clause-kept g c b base begun file from p left so at =
    let d = g.D.Disk in
    let held = holds_copy d b base begun file from p c.args.lsn left c.args.writer.now c.args.disk.now so in
    let read = c.in_ok-size.ensures in
    let found = read.found b base so.now held.holder so.within.stands (in_log d b base begun file from p c.args.lsn left c.args.writer.now c.args.disk.now so) held.lsn in
    let none = c.in_err-record.ensures.entry in
    record {
      stops = leaves_read d b base begun from so.now c.args.writer.now c.args.disk.now so.within c.read_at.new.disk read.reads;
      sound = absurd (read_some held.holder _ found.ok none.1);
    }

pub returns-clause-outcome : goal.returns-clause-outcome
returns-clause-outcome g c =
    let d = g.D.Disk in
    let e = c.in_ok-size.ensures in
    recovers_then d {m = no_page} (moved d c.args.writer.now c.read_at.new.self c.read_at.new.disk c.requires.working e.ready e.frames e.works)
    (redone d c.load_copy.ensures.outcome)

pub returns-clause-kept : goal.returns-clause-kept
returns-clause-kept g c b base begun file from p left so at =
    let d = g.D.Disk in
    let held = holds_copy d b base begun file from p c.args.lsn left c.args.writer.now c.args.disk.now so in
    let read = c.in_ok-size.ensures in
    let found = read.found b base so.now held.holder so.within.stands (in_log d b base begun file from p c.args.lsn left c.args.writer.now c.args.disk.now so) held.lsn in
    let entry = view c.in_ok-record.record in
    let same = read_is held.holder _ entry found.ok c.in_ok-record.ensures.entry in
    let asks = asks_load d b base begun file from p c.args.lsn left c.args.writer.now c.args.disk.now so entry same in
    let stands = read.kept b base so.now so.within.stands in
    let within = within_read d b base begun from so.now c.args.writer.now c.args.disk.now so.within c.read_at.new.self c.read_at.new.disk stands read.reads in
    loads d b base begun file from p c.args.lsn left c.args.writer.now c.args.disk.now so entry same asks.copy c.read_at.new.self c.read_at.new.disk within
    c.load_copy.new.self c.load_copy.new.disk c.load_copy.result
    (c.load_copy.ensures.kept b base so.now asks.copy stands so.within.going (so.within.point ∙ sym at) asks.holds asks.waits asks.found asks.low) asks.found
