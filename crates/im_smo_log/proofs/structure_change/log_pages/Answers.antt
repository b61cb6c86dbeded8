use Rattle.std.proofs.Common.{◌≡◌, ◌<◌, ℕ, length, refl, subst, arith}
use Rattle.im_base_types.specs.declared.fault.Fault.TheVariants.{Failed}
use Rattle.im_page_writer.proofs.Cited.{err_on, idle, log_refused, logs_both, logs_late, read_logs, sound_on}
use Rattle.im_smo_log.specs.Changes.{PagesLogged, Begun}
use Rattle.im_smo_log.proofs.Refusals.{behind_pages}
use Rattle.im_smo_log.proofs.Runs.{pages_begin, pages_next, pages_stops, pages_begun}
use Rattle.im_page_writer.specs.Outcome.{mild}
use Rattle.im_smo_log.proofs.structure_change.log_pages.Goals as goal

pub loop-i-init : goal.loop-i-init
loop-i-init g c =
    let w = c.args.writer.now in
    let disk = c.args.disk.now in
    record {
      outcome = logs_late g.D.Disk {m = mild} (λ e is. is) c.requires.working (read_logs g.D.Disk refl (idle g.D.Disk g.met.D.Disk.only_now w disk c.requires.working c.requires.ready));
      count = c.len-len.ensures.len;
      first = λ zero. (refl, refl);
      kept = λ b base s e undo_next may. pages_begin g.D.Disk b base s e c.args.images.now c.args.transaction undo_next c.args.last w disk (g.met.D.Disk.only_now disk) (λ none. omega (arith, none, c.requires.owner)) c.len-len.ensures.rises may;
    }

pub returns-in_err-prev-clause-outcome : goal.returns-in_err-prev-clause-outcome
returns-in_err-prev-clause-outcome g c =
    let l = c.loop-i in
    log_refused g.D.Disk c.from_residual.result c.from_residual.ensures.1
    (behind_pages g.D.Disk c.in_err-prev.field-0.0 (λ is. l.invariant.first (c.in_err-prev.ensures.first is)) l.invariant.outcome c.in_err-prev.ensures.outcome)

pub returns-in_err-prev-clause-kept : goal.returns-in_err-prev-clause-kept
returns-in_err-prev-clause-kept g c b base s e undo_next may =
    let l = c.loop-i in
    let w = c.log_at.new.writer in
    let new = c.log_at.new.disk in
    let old = c.args.disk.now in
    let t = c.args.transaction in
    let so = l.invariant.kept b base s e undo_next may in
    let k = c.in_err-prev.ensures.kept b base so.now e so.stands so.over in
    record {
      sound = sound_on c.from_residual.result _ _ c.from_residual.ensures.1 k.sound;
      stops = pages_stops g.D.Disk b base s e c.args.images.now t undo_next l.i l.prev old l.writer l.disk new so k.stops;
      begun = err_on c.from_residual.result c.in_err-prev.field-0.0 (λ x. x ≡ Failed → Begun g.D.Disk b base s t w new) c.from_residual.ensures.1
          (λ same. pages_begun g.D.Disk b base s e c.args.images.now t undo_next l.i l.prev old l.writer l.disk w new (c.in_err-prev.ensures.later same) so (k.late same));
    }

pub loop-i-preserved : goal.loop-i-preserved
loop-i-preserved g c = record {
  outcome = logs_both g.D.Disk c.loop-i.invariant.outcome c.in_ok-prev.ensures.outcome;
  count = c.loop-i.invariant.count;
  first = λ zero. absurd (omega (arith, zero));
  kept = λ b base s e undo_next may.
      let l = c.loop-i in
      let images = c.args.images.now in
      let t = c.args.transaction in
      let so = l.invariant.kept b base s e undo_next may in
      let k = c.in_ok-prev.ensures.kept b base so.now e so.stands so.over in
      let within : l.i < length images = omega (arith, c.loop-i-test.true, l.invariant.count) in
      pages_next g.D.Disk b base s e images t undo_next l.i l.prev c.in_ok-prev.prev c.args.disk.now l.writer l.disk c.log_at.new.writer c.log_at.new.disk c.len-len.ensures.rises c.requires.counted within so k.sound k.stops;
}

pub returns-clause-outcome : goal.returns-clause-outcome
returns-clause-outcome g c = c.loop-i.invariant.outcome

pub returns-clause-kept : goal.returns-clause-kept
returns-clause-kept g c b base s e undo_next may =
    let l = c.loop-i in
    let so = l.invariant.kept b base s e undo_next may in
    let end : l.i ≡ length c.args.images.now = omega (arith, c.loop-i-test.false, l.auto.i-end, l.invariant.count) in
    record {
      sound = subst (λ (n : ℕ). PagesLogged g.D.Disk b base s e c.args.images.now c.args.transaction undo_next n l.prev c.args.disk.now l.writer l.disk) end so;
      stops = so.stops;
      begun = tt;
    }
