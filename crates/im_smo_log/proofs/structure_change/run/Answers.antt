use Rattle.std.proofs.Common.{◌≡◌, length, refl}
use Rattle.im_base_types.specs.declared.fault.Fault.TheVariants.{Failed}
use Rattle.im_page_writer.specs.Outcome.{mild}
use Rattle.im_page_flush.proofs.Goings.{leaves_of}
use Rattle.im_page_writer.proofs.Cited.{err_on, idle, sound_on}
use Rattle.im_smo_pages.proofs.Results.{if_ok}
use Rattle.im_smo_log.specs.Changes.{Begun}
use Rattle.im_smo_log.proofs.Runs.{change_done, pages_stops, stops_begin}
use Rattle.im_smo_log.proofs.Refusals.{closing, closing_failed, closing_sound}
use Rattle.im_smo_log.proofs.structure_change.run.Goals as goal

pub returns-then-not-are_counted-clause-outcome : goal.returns-then-not-are_counted-clause-outcome
returns-then-not-are_counted-clause-outcome g c =
    let still = idle g.D.Disk g.met.D.Disk.only_now {m = mild} c.args.writer.now c.args.disk.now c.requires.working c.requires.ready in
    record { ready = still.ready; frames = still.frames; ends = (refl, still.ends) }

pub returns-then-not-are_counted-clause-kept : goal.returns-then-not-are_counted-clause-kept
returns-then-not-are_counted-clause-kept g c b base s e may =
    record {
      sound = λ is. (let never : ⊥ = cc is in never);
      stops = stops_begin g.D.Disk b base s e c.args.images.now c.args.transaction c.args.undo_next c.args.last c.args.writer.now c.args.disk.now (g.met.D.Disk.only_now c.args.disk.now) may;
      begun = λ is. absurd (let never : ⊥ = cc is in never);
    }

pub returns-in_err-prev-clause-kept : goal.returns-in_err-prev-clause-kept
returns-in_err-prev-clause-kept g c b base s e may =
    let k = c.in_err-prev.ensures.kept b base s e c.args.undo_next may in
    record {
      sound = sound_on c.from_residual.result _ _ c.from_residual.ensures.1 k.sound;
      stops = k.stops;
      begun = err_on c.from_residual.result c.in_err-prev.field-0.0 (λ x. x ≡ Failed → Begun g.D.Disk b base s c.args.transaction c.log_pages.new.writer c.log_pages.new.disk) c.from_residual.ensures.1 k.begun;
    }

pub returns-clause-outcome : goal.returns-clause-outcome
returns-clause-outcome g c = closing g.D.Disk c.log_closing.result c.in_ok-prev.ensures.outcome c.log_closing.ensures.outcome

pub returns-clause-kept : goal.returns-clause-kept
returns-clause-kept g c b base s e may =
    let images = c.args.images.now in
    let t = c.args.transaction in
    let u = c.args.undo_next in
    let w = c.log_pages.new.writer in
    let mid = c.log_pages.new.disk in
    let new = c.log_closing.new.disk in
    let so = (c.in_ok-prev.ensures.kept b base s e u may).sound in
    let kept = c.log_closing.ensures.kept b base so.now e so.stands so.over in
    record {
      sound = closing_sound g.D.Disk c.log_closing.result _
          (if_ok c.log_closing.result _ _ kept.ok (λ lsn done. change_done g.D.Disk b base s e images t u c.args.last c.in_ok-prev.prev lsn c.args.writer.now c.args.disk.now w mid c.log_closing.new.writer new may so done))
          c.log_closing.ensures.outcome;
      stops = pages_stops g.D.Disk b base s e images t u (length images) c.in_ok-prev.prev c.args.disk.now w mid new so (leaves_of g.D.Disk b base so.now mid new kept.stops);
      begun = closing_failed g.D.Disk c.log_closing.result _ c.in_ok-prev.ensures.outcome.ends.works c.log_closing.ensures.outcome;
    }
