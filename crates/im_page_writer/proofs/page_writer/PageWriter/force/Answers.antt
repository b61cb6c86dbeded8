use Rattle.std.proofs.Common.{false, refl, rules}
use Rattle.im_theory_log.specs.WriterSteps.{forced}
use Rattle.im_theory_log.proofs.WriterWrites.{forced_kept}
use Rattle.im_page_table.proofs.DurableCopies.{durable_whole}
use Rattle.im_page_writer.proofs.SyncedPages.{known_as}
use Rattle.im_page_file.proofs.Standing.{log_stops}
use Rattle.im_page_flush.proofs.Imaging.{goes_forced}
use Rattle.im_base_disk.proofs.Costs.{most_none}
use Rattle.im_page_writer.proofs.LogCalls.{force_only, log_broke}
use Rattle.im_page_writer.proofs.page_writer.PageWriter.force.Goals as goal

pub returns-in_err-force-clause-kept : goal.returns-in_err-force-clause-kept
returns-in_err-force-clause-kept g c b base s is =
    let w = c.args.self.now in
    let k = c.in_err-force.ensures.kept base s.log s.durable is.writing.stands.log_is in
    record { ok = search rules; stops = log_stops g.D.Disk b base s w.log w.table c.args.disk.now is.writing.stands c.force.new.disk k.stops }

pub returns-clause-kept : goal.returns-clause-kept
returns-clause-kept g c b base s is =
    let w = c.args.self.now in
    let k = c.in_ok-force.ensures.kept base s.log s.durable is.writing.stands.log_is in
    record {
      ok = record { working = refl; known = known_as false s (forced s) w.known refl refl refl (λ none. durable_whole b (forced s) (forced_kept b s is.writing.stands.kept) refl) is.known; goes = goes_forced g.D.Disk b base s w.log c.force.new.self w.table w.pool c.args.disk.now c.force.new.disk is.writing k.ok.log c.force.ensures.outcome.ready c.force.ensures.outcome.changes k.stops k.ok.file.generation };
      stops = log_stops g.D.Disk b base s w.log w.table c.args.disk.now is.writing.stands c.force.new.disk k.stops;
    }

pub returns-then-self-clause-few : goal.returns-then-self-clause-few
returns-then-self-clause-few g c = most_none g.D.Disk 2 2 c.args.disk.now

pub returns-in_err-force-clause-outcome : goal.returns-in_err-force-clause-outcome
returns-in_err-force-clause-outcome g c =
    log_broke g.D.Disk c.from_residual.result c.from_residual.ensures.1 (force_only _) c.if-self.false refl (c.requires.ready.works c.if-self.false) c.in_err-force.ensures.outcome (search rules) refl
