use Rattle.std.proofs.Common.{◌≡◌, ap, refl, sym, ◌∙◌}
use Rattle.im_base_types.specs.declared.fault.Fault.TheVariants.{Capacity, Device, NotAStore}
use Rattle.im_log_record.specs.Entry.{view}
use Rattle.im_smo_pages.specs.Kept.{mild_to_take}
use Rattle.im_smo_pages.proofs.Goings.{take_mildly as take_mild}
use Rattle.im_page_writer.specs.Outcome.{mild}
use Rattle.im_page_writer.proofs.Cited.{err_on, sound_on}
use Rattle.im_restart_redo.proofs.Recoveries.{moved, read_refused, recovers_more, recovers_then, recovery_own, recovery_refused}
use Rattle.im_restart.specs.Restart.{RunsOut}
use Rattle.im_restart.proofs.Ends.{other_cause}
use Rattle.im_restart.proofs.Others.{spares_none}
use Rattle.im_restart_analysis.proofs.RecordsRead.{spelled_here, spelled_none}
use Rattle.im_restart.proofs.Undos.{read_stops, step_then, undo_read}
use Rattle.im_restart.proofs.undo.undo_at.Goals as goal

pub returns-in_err-size-clause-outcome : goal.returns-in_err-size-clause-outcome
returns-in_err-size-clause-outcome g c =
    let e = c.in_err-size.ensures in
    recovery_refused g.D.Disk c.from_residual.result c.from_residual.ensures.1
    (recovers_more g.D.Disk take_mild (read_refused g.D.Disk c.args.writer.now c.read_at.new.self c.read_at.new.disk c.requires.working e.ready e.frames _ c.in_err-size.field-0.0 refl e.failed e.causes e.already e.device))

pub returns-in_err-record-clause-outcome : goal.returns-in_err-record-clause-outcome
returns-in_err-record-clause-outcome g c =
    let e = c.in_ok-size.ensures in
    let r = c.from_residual-in_err-record.result in
    recovery_own g.D.Disk {m = mild} refl refl refl r (moved g.D.Disk c.args.writer.now c.read_at.new.self c.read_at.new.disk c.requires.working e.ready e.frames e.works)
    (err_on r c.in_err-record.field-0.0 _ c.from_residual-in_err-record.ensures.1 (ap mild_to_take c.in_err-record.ensures.entry.0))

pub returns-clause-outcome : goal.returns-clause-outcome
returns-clause-outcome g c =
    let e = c.in_ok-size.ensures in
    recovers_then g.D.Disk {m = mild} (moved g.D.Disk c.args.writer.now c.read_at.new.self c.read_at.new.disk c.requires.working e.ready e.frames e.works) c.undo_record.ensures.outcome

pub returns-in_err-size-clause-kept : goal.returns-in_err-size-clause-kept
returns-in_err-size-clause-kept g c b base all s out stands is are left some goes latest =
    let at = goes.at some in
    let cause : c.in_err-size.field-0.0 ≡ Device = (c.in_err-size.ensures.found b base s at.found stands at.logged (sym at.here)).cause in
    record {
      stops = read_stops g.D.Disk b base all s c.args.writer.now c.args.disk.now c.read_at.new.disk (g.met.D.Disk.only_now c.args.disk.now) stands is c.read_at.ensures.reads;
      sound = sound_on c.from_residual.result _ _ c.from_residual.ensures.1 (λ e. (let clash : Device ≡ NotAStore = sym cause ∙ e in cc clash));
    }

pub returns-in_err-record-clause-kept : goal.returns-in_err-record-clause-kept
returns-in_err-record-clause-kept g c b base all s out stands is are left some goes latest =
    let at = goes.at some in
    let found = c.in_ok-size.ensures.found b base s at.found stands at.logged (sym at.here) in
    absurd (spelled_none at.found _ found.ok c.in_err-record.ensures.entry.1)

pub returns-clause-kept : goal.returns-clause-kept
returns-clause-kept g c b base all s out stands is are left some goes latest =
    let t = c.args.chain.transaction in
    let at = goes.at some in
    let found = c.in_ok-size.ensures.found b base s at.found stands at.logged (sym at.here) in
    let here = spelled_here t c.args.lsn s.log at _ found.ok (view c.in_ok-record.record) c.in_ok-record.ensures.entry in
    let after = c.in_ok-size.ensures.kept b base s stands in
    let read = undo_read g.D.Disk b base all s c.args.writer.now c.read_at.new.self c.args.disk.now c.read_at.new.disk (g.met.D.Disk.only_now c.args.disk.now) stands is c.read_at.ensures.reads after in
    step_then g.D.Disk b base all s t out c.args.disk.now s c.read_at.new.self c.read_at.new.disk c.undo_record.new.writer c.undo_record.new.chains c.undo_record.new.disk c.undo_record.result read (spares_none t s.log)
    (c.undo_record.ensures.kept b base all s out after is are left goes here.0 here.1 latest)

pub returns-in_err-size-clause-used_up : goal.returns-in_err-size-clause-used_up
returns-in_err-size-clause-used_up g c b base all s stands is some goes latest =
    let at = goes.at some in
    let cause : c.in_err-size.field-0.0 ≡ Device = (c.in_err-size.ensures.found b base s at.found stands at.logged (sym at.here)).cause in
    err_on c.from_residual.result c.in_err-size.field-0.0 (λ e. e ≡ Capacity → RunsOut b all) c.from_residual.ensures.1 (λ full. other_cause c.in_err-size.field-0.0 Device cause (λ x. cc x) full)

pub returns-in_err-record-clause-used_up : goal.returns-in_err-record-clause-used_up
returns-in_err-record-clause-used_up g c b base all s stands is some goes latest =
    err_on c.from_residual-in_err-record.result c.in_err-record.field-0.0 (λ e. e ≡ Capacity → RunsOut b all) c.from_residual-in_err-record.ensures.1 (λ full. other_cause c.in_err-record.field-0.0 NotAStore c.in_err-record.ensures.entry.0 (λ x. cc x) full)

pub returns-clause-used_up : goal.returns-clause-used_up
returns-clause-used_up g c b base all s stands is some goes latest =
    let at = goes.at some in
    let found = c.in_ok-size.ensures.found b base s at.found stands at.logged (sym at.here) in
    let here = spelled_here c.args.chain.transaction c.args.lsn s.log at _ found.ok (view c.in_ok-record.record) c.in_ok-record.ensures.entry in
    c.undo_record.ensures.used_up b base all s (c.in_ok-size.ensures.kept b base s stands) is goes here.0 here.1 latest
