use Rattle.std.proofs.Common.{◌≡◌, refl, sym, subst}
use Rattle.std.specs.Prelude.{IfErr}
use Rattle.im_base_types.specs.declared.fault.Fault.TheVariants.{Failed}
use Rattle.im_theory_log.specs.Structure.{open_smo}
use Rattle.im_log.specs.Whats.{what_of}
use Rattle.im_log_record.specs.Entry.{Entry, view, transaction_of}
use Rattle.im_page_writer.specs.Outcome.{mild}
use Rattle.im_page_writer.proofs.Outcomes.{logs_for_more, logs_late, no_page_for}
use Rattle.im_smo_actions.specs.GoingBeside.{settled_pages}
use Rattle.im_restart_undo.specs.declared.back.Back.{Back}
use Rattle.im_restart_undo.specs.GoingBeside.{BackKept, HasChange}
use Rattle.im_restart_undo.specs.Planning.{CanBack, IsOutOf}
use Rattle.im_restart_undo.proofs.Closed.{beside_closed, if_err, kept_drop, kept_split}
use Rattle.im_restart_undo.proofs.Ends.{began_working, never_short}
use Rattle.im_restart_undo.proofs.logging.log_back.Goals as goal

pub returns-in-Plain-clause-outcome : goal.returns-in-Plain-clause-outcome
returns-in-Plain-clause-outcome g c = logs_late g.D.Disk (no_page_for mild refl) c.requires.working c.compensate.ensures.outcome

pub returns-in-Plain-clause-kept : goal.returns-in-Plain-clause-kept
returns-in-Plain-clause-kept g c b base s e going to =
    let entry : Entry = view c.args.«record».now in
    subst (λ (x : Back). CanBack (settled_pages b s) (what_of entry) x → IsOutOf (open_smo s.log) x → BackKept g.D.Disk b base s e (transaction_of entry) entry x c.args.disk.now c.compensate.new.writer c.compensate.new.disk c.compensate.result)
    (sym c.in-Plain.is) (λ can out. c.compensate.ensures.kept b base s e c.args.undo_next going to can out)

pub returns-in-Split-clause-kept : goal.returns-in-Split-clause-kept
returns-in-Split-clause-kept g c b base s e going to =
    let entry : Entry = view c.args.«record».now in
    let t = transaction_of entry in
    let call = c.log_behind_split in
    subst (λ (x : Back). CanBack (settled_pages b s) (what_of entry) x → IsOutOf (open_smo s.log) x → BackKept g.D.Disk b base s e t entry x c.args.disk.now call.new.writer call.new.disk call.result)
    (sym c.in-Split.is)
    (λ can closed. kept_split g.D.Disk b base s e t entry closed c.args.disk.now call.new.writer call.new.disk _ call.result
    (call.ensures.kept b base s e (beside_closed g.D.Disk b base s e t c.args.last c.args.undo_next c.args.writer.now c.args.disk.now closed going) to can))

pub returns-in-Drop-clause-outcome : goal.returns-in-Drop-clause-outcome
returns-in-Drop-clause-outcome g c = logs_for_more g.D.Disk (no_page_for mild refl) c.log_before_drop.ensures.outcome

pub returns-in-Drop-clause-kept : goal.returns-in-Drop-clause-kept
returns-in-Drop-clause-kept g c b base s e going to =
    let entry : Entry = view c.args.«record».now in
    let t = transaction_of entry in
    let call = c.log_before_drop in
    subst (λ (x : Back). CanBack (settled_pages b s) (what_of entry) x → IsOutOf (open_smo s.log) x → BackKept g.D.Disk b base s e t entry x c.args.disk.now call.new.writer call.new.disk call.result)
    (sym c.in-Drop.is)
    (λ can closed. kept_drop g.D.Disk b base s e t entry closed c.args.disk.now call.new.writer call.new.disk _ _ call.result (never_short g.D.Disk ⊥ call.result refl call.ensures.outcome)
    (call.ensures.kept b base s e c.args.undo_next (beside_closed g.D.Disk b base s e t c.args.last c.args.undo_next c.args.writer.now c.args.disk.now closed going) to can))

-- it is refused as failed only for a structure change
pub returns-in-Plain-clause-early : goal.returns-in-Plain-clause-early
returns-in-Plain-clause-early g c = subst (λ (x : Back). IfErr c.compensate.result (λ f. f ≡ Failed → HasChange x)) (sym c.in-Plain.is) (began_working g.D.Disk ⊥ c.compensate.result c.requires.working c.compensate.ensures.outcome)

pub returns-in-Split-clause-early : goal.returns-in-Split-clause-early
returns-in-Split-clause-early g c = subst (λ (x : Back). IfErr c.log_behind_split.result (λ f. f ≡ Failed → HasChange x)) (sym c.in-Split.is) (if_err c.log_behind_split.result (λ f is. tt))

pub returns-in-Drop-clause-early : goal.returns-in-Drop-clause-early
returns-in-Drop-clause-early g c = subst (λ (x : Back). IfErr c.log_before_drop.result (λ f. f ≡ Failed → HasChange x)) (sym c.in-Drop.is) (if_err c.log_before_drop.result (λ f is. tt))
