use Rattle.std.proofs.Common.{◌≡◌, ◌∷◌, refl, sym, ◌∙◌, ap}
use Rattle.im_base_types.specs.declared.fault.Fault.TheVariants.{Device, NotAStore}
use Rattle.im_log_record.specs.Entry.{view}
use Rattle.im_page_writer.specs.Outcome.{mild}
use Rattle.im_page_writer.proofs.Cited.{err_on, sound_on}
use Rattle.im_restart_redo.proofs.Recoveries.{moved, read_refused, recovers_then, recovery_own, recovery_refused}
use Rattle.im_theory_tree.specs.Theory.{page_tree}
use Rattle.im_restart.proofs.OpenChanges.{change_read, change_start, open_record, page_then}
use Rattle.im_restart_analysis.proofs.RecordsRead.{spelled_is, spelled_none}
use Rattle.im_base_disk.proofs.Runs.{reads_on}
use Rattle.im_restart.proofs.structure_change.undo_page_at.Goals as goal

pub returns-in_err-size-clause-outcome : goal.returns-in_err-size-clause-outcome
returns-in_err-size-clause-outcome g c =
    let e = c.in_err-size.ensures in
    recovery_refused g.D.Disk c.from_residual.result c.from_residual.ensures.1
    (read_refused g.D.Disk c.args.writer.now c.read_at.new.self c.read_at.new.disk c.requires.working e.ready e.frames _ c.in_err-size.field-0.0 refl e.failed e.causes e.already e.device)

pub returns-in_err-record-clause-outcome : goal.returns-in_err-record-clause-outcome
returns-in_err-record-clause-outcome g c =
    let e = c.in_ok-size.ensures in
    let r = c.from_residual-in_err-record.result in
    recovery_own g.D.Disk {m = mild} refl refl refl r (moved g.D.Disk c.args.writer.now c.read_at.new.self c.read_at.new.disk c.requires.working e.ready e.frames e.works)
    (err_on r c.in_err-record.field-0.0 _ c.from_residual-in_err-record.ensures.1 (ap mild c.in_err-record.ensures.entry.0))

pub returns-clause-outcome : goal.returns-clause-outcome
returns-clause-outcome g c =
    let e = c.in_ok-size.ensures in
    recovers_then g.D.Disk {m = mild} (moved g.D.Disk c.args.writer.now c.read_at.new.self c.read_at.new.disk c.requires.working e.ready e.frames e.works) c.undo_page.ensures.outcome

pub returns-in_err-size-clause-kept : goal.returns-in_err-size-clause-kept
returns-in_err-size-clause-kept g c b base all s rest stands is at are =
    let there = open_record b page_tree s.log at.newest rest is.lawful at.going in
    let cause : c.in_err-size.field-0.0 ≡ Device = (c.in_err-size.ensures.found b base s at.newest stands there (sym at.here)).cause in
    record {
      stops = reads_on g.D.Disk c.args.disk.now c.args.disk.now c.read_at.new.disk _ (change_start g.D.Disk b base all s c.args.writer.now c.args.disk.now (g.met.D.Disk.only_now c.args.disk.now) stands is).stops c.read_at.ensures.reads;
      sound = sound_on c.from_residual.result _ _ c.from_residual.ensures.1 (λ e. (let clash : Device ≡ NotAStore = sym cause ∙ e in cc clash));
    }

pub returns-in_err-record-clause-kept : goal.returns-in_err-record-clause-kept
returns-in_err-record-clause-kept g c b base all s rest stands is at are =
    let there = open_record b page_tree s.log at.newest rest is.lawful at.going in
    let found = c.in_ok-size.ensures.found b base s at.newest stands there (sym at.here) in
    absurd (spelled_none at.newest _ found.ok c.in_err-record.ensures.entry.1)

pub returns-clause-kept : goal.returns-clause-kept
returns-clause-kept g c b base all s rest stands is at are =
    let there = open_record b page_tree s.log at.newest rest is.lawful at.going in
    let found = c.in_ok-size.ensures.found b base s at.newest stands there (sym at.here) in
    let same = spelled_is at.newest c.args.lsn _ found.ok at.here (view c.in_ok-record.record) c.in_ok-record.ensures.entry in
    let after = c.in_ok-size.ensures.kept b base s stands in
    let read = change_read g.D.Disk b base all s c.args.writer.now c.read_at.new.self c.args.disk.now c.read_at.new.disk (g.met.D.Disk.only_now c.args.disk.now) stands is c.read_at.ensures.reads after in
    page_then g.D.Disk b base all s c.args.disk.now s c.read_at.new.self c.read_at.new.disk rest c.undo_page.new.writer c.undo_page.new.losers c.undo_page.new.disk c.undo_page.result read
    (c.undo_page.ensures.kept b base all s c.args.lsn rest after is (at.going ∙ ap (λ x. x ∷ rest) (sym same)) are)
