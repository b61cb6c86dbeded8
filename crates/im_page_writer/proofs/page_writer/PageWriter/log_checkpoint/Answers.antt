use Rattle.std.proofs.Common.{subst, rules, ◌∙◌}
use Rattle.im_page_table.specs.DirtyTable.{dirty_pages, synced_entries, FitsRecord}
use Rattle.im_page_table.proofs.Growing.{if_ok}
use Rattle.im_page_writer.specs.declared.page_writer.PageWriter.{PageWriter}
use Rattle.im_page_writer.specs.Checkpoints.{CheckpointKept}
use Rattle.im_page_writer.specs.Outcome.{none_mild}
use Rattle.im_page_writer.specs.PageWriter.{StandsAs}
use Rattle.im_page_writer.proofs.Checkpointing.{checkpoint_behind, flush_logs, left_behind, left_first}
use Rattle.im_page_flush.proofs.Costs.{always}
use Rattle.im_page_writer.proofs.Outcomes.{flush_asks, log_refused, logs_then, stands_on}
use Rattle.im_page_writer.proofs.Switching.{flush_left}
use Rattle.im_page_writer.proofs.page_writer.PageWriter.log_checkpoint.Goals as goal

pub returns-in_err-fit_record-clause-outcome : goal.returns-in_err-fit_record-clause-outcome
returns-in_err-fit_record-clause-outcome g c = log_refused g.D.Disk c.from_residual.result c.from_residual.ensures.1 (flush_logs g.D.Disk c.in_err-fit_record.ensures.outcome)

pub returns-in_err-fit_record-clause-always : goal.returns-in_err-fit_record-clause-always
returns-in_err-fit_record-clause-always g c b base s e is over =
    record { ok = search rules; stops = left_first g.D.Disk b base s c.args.next c.args.active.now c.args.disk.now c.fit_record.new.disk (flush_left g.D.Disk c.in_err-fit_record.field-0.0 c.in_err-fit_record.ensures.outcome is.working b base s is) }

pub returns-clause-outcome : goal.returns-clause-outcome
returns-clause-outcome g c = logs_then g.D.Disk (flush_asks g.D.Disk {m = none_mild} c.in_ok-fit_record.ensures.outcome) c.take_checkpoint.ensures.outcome

pub returns-clause-always : goal.returns-clause-always
returns-clause-always g c b base s e is over =
    let d = g.D.Disk in
    let old = c.args.disk.now in
    let w = c.fit_record.new.self in
    let mid = c.fit_record.new.disk in
    let one = c.in_ok-fit_record.ensures.kept b base s is in
    let k = c.take_checkpoint.ensures.kept one.fits b base one.now e (stands_on d b base s old one.now w mid one.on) (one.on.goes.keeps.redo_end ∙ over) in
    record {
      ok = if_ok c.take_checkpoint.result _ _ k.ok (λ lsn taken. checkpoint_behind d b base s c.args.next c.args.active.now old w mid one lsn c.take_checkpoint.new.self c.take_checkpoint.new.disk taken);
      stops = left_behind d b base s c.args.next c.args.active.now old w mid one c.take_checkpoint.new.disk k.stops;
    }

pub returns-clause-kept : goal.returns-clause-kept
returns-clause-kept g c fits b base s e is over =
    let d = g.D.Disk in
    let w = c.fit_record.new.self in
    let x = c.take_checkpoint.new.self in
    let new = c.take_checkpoint.new.disk in
    let same = c.in_ok-fit_record.ensures.unchanged fits in
    let kept = subst (λ from. FitsRecord w.table → StandsAs d b base s w from → CheckpointKept d b base s c.args.next c.args.active.now (dirty_pages (synced_entries w.table)) from x new c.take_checkpoint.result) same.1
    (λ few stands. c.take_checkpoint.ensures.kept few b base s e stands over) in
    subst (λ (v : PageWriter). FitsRecord v.table → StandsAs d b base s v c.args.disk.now → CheckpointKept d b base s c.args.next c.args.active.now (dirty_pages (synced_entries v.table)) c.args.disk.now x new c.take_checkpoint.result) same.0 kept fits is

pub returns-clause-costs : goal.returns-clause-costs
returns-clause-costs g c = always c.take_checkpoint.result _ (record {
  w = c.fit_record.new.self;
  mid = c.fit_record.new.disk;
  writes = c.in_ok-fit_record.ensures.outcome;
  none = λ fits. (c.in_ok-fit_record.ensures.unchanged fits).1;
  calls = c.take_checkpoint.ensures.few;
})
