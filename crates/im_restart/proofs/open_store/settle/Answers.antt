use Rattle.std.proofs.Common.{◌≡◌, ◌≢◌, sym, ◌∙◌, ap, subst}
use Rattle.im_base_types.specs.declared.fault.Fault.TheVariants.{Capacity, NotAStore}
use Rattle.im_base_types.specs.declared.file_id.FileId.TheVariants.{Pages}
use Rattle.im_theory_page.specs.PageFile.{file_page}
use Rattle.im_restart_analysis.specs.CopyLsns.{AreCopies}
use Rattle.im_restart_analysis.specs.OpenChange.{oldest_first}
use Rattle.im_restart_analysis.specs.Changes.{changes_from}
use Rattle.im_restart_redo.proofs.Applicable.{lawful_is_applicable}
use Rattle.im_page_writer.proofs.Cited.{err_on, sound_on}
use Rattle.im_restart_redo.proofs.Recoveries.{logs_recover, mildly, never_none, recovers_more, recovers_then, recovery_refused}
use Rattle.im_theory_tree.specs.Theory.{page_tree}
use Rattle.im_theory_tree.proofs.TheoryLaws.{page_tree_laws}
use Rattle.im_restart.specs.Restart.{RunsOut}
use Rattle.im_restart.proofs.Ends.{never_numbers, take_none}
use Rattle.im_restart.proofs.Leaves.{on_leaves}
use Rattle.im_restart.proofs.Losers.{losers_none}
use Rattle.im_restart.proofs.Restarts.{left_redoing, losers_then, open_then, settled_so, taking_begins}
use Rattle.im_restart.proofs.Steps.{left_then}
use Rattle.im_restart.proofs.open_store.settle.Goals as goal
use Rattle.im_smo_pages.proofs.Goings.{take_mildly as take_mild}

pub returns-in_err-applied-clause-outcome : goal.returns-in_err-applied-clause-outcome
returns-in_err-applied-clause-outcome g c = recovery_refused g.D.Disk c.from_residual.result c.from_residual.ensures.1 (recovers_more g.D.Disk take_mild c.in_err-applied.ensures.outcome)

pub returns-in_err-undo_found-clause-outcome : goal.returns-in_err-undo_found-clause-outcome
returns-in_err-undo_found-clause-outcome g c = recovery_refused g.D.Disk c.from_residual-in_err-undo_found.result c.from_residual-in_err-undo_found.ensures.1 (recovers_then g.D.Disk c.in_ok-applied.ensures.outcome c.in_err-undo_found.ensures.outcome)

pub returns-in_err-force-clause-outcome : goal.returns-in_err-force-clause-outcome
returns-in_err-force-clause-outcome g c =
    recovery_refused g.D.Disk c.from_residual-in_err-force.result c.from_residual-in_err-force.ensures.1
    (recovers_then g.D.Disk c.in_ok-applied.ensures.outcome (recovers_then g.D.Disk c.in_ok-undo_found.ensures.outcome (recovers_more g.D.Disk take_none (logs_recover g.D.Disk c.in_err-force.ensures.outcome))))

pub returns-clause-outcome : goal.returns-clause-outcome
returns-clause-outcome g c =
    recovers_then g.D.Disk c.in_ok-applied.ensures.outcome (recovers_then g.D.Disk c.in_ok-undo_found.ensures.outcome (recovers_more g.D.Disk take_none (logs_recover g.D.Disk c.in_ok-force.ensures.outcome)))

pub returns-in_err-applied-clause-kept : goal.returns-in_err-applied-clause-kept
returns-in_err-applied-clause-kept g c b base all stands may least is changes =
    let k = c.in_err-applied.ensures.kept b base all (file_page (g.D.Disk.seen c.args.disk.now Pages)) stands (lawful_is_applicable b page_tree page_tree_laws on_leaves all may.lawful) is.point
    (subst (λ n. AreCopies n c.args.analysed.now.copies all) (sym is.point) is.copies) (changes ∙ ap (λ n. changes_from n all) (sym is.point)) in
    record { sound = sound_on c.from_residual.result _ _ c.from_residual.ensures.1 k.sound; stops = left_redoing g.D.Disk b base all c.args.disk.now c.redo.new.disk may k.stops }

pub returns-in_err-undo_found-clause-kept : goal.returns-in_err-undo_found-clause-kept
returns-in_err-undo_found-clause-kept g c b base all stands may least is changes =
    let file = file_page (g.D.Disk.seen c.args.disk.now Pages) in
    let k = c.in_ok-applied.ensures.kept b base all file stands (lawful_is_applicable b page_tree page_tree_laws on_leaves all may.lawful) is.point
    (subst (λ n. AreCopies n c.args.analysed.now.copies all) (sym is.point) is.copies) (changes ∙ ap (λ n. changes_from n all) (sym is.point)) in
    let done = k.sound.0 in
    let begun = taking_begins g.D.Disk b base all file c.args.disk.now c.redo.new.writer c.redo.new.disk (g.D.Disk.seen c.args.disk.now) may done in
    let u = c.in_err-undo_found.ensures.kept b base all done.now begun.stands begun.taking (open_then g.D.Disk b base all c.args.analysed.now.open_change.items done.now.log done.log is.open_change) (losers_then g.D.Disk b base all c.args.analysed.now.losers done.now.log done.log is.losers) in
    record { sound = sound_on c.from_residual-in_err-undo_found.result _ _ c.from_residual-in_err-undo_found.ensures.1 u.sound; stops = left_then g.D.Disk b base all c.args.disk.now c.redo.new.disk c.undo_found.new.disk begun.stops u.stops }

pub returns-in_err-force-clause-kept : goal.returns-in_err-force-clause-kept
returns-in_err-force-clause-kept g c b base all stands may least is changes =
    let file = file_page (g.D.Disk.seen c.args.disk.now Pages) in
    let k = c.in_ok-applied.ensures.kept b base all file stands (lawful_is_applicable b page_tree page_tree_laws on_leaves all may.lawful) is.point
    (subst (λ n. AreCopies n c.args.analysed.now.copies all) (sym is.point) is.copies) (changes ∙ ap (λ n. changes_from n all) (sym is.point)) in
    let done = k.sound.0 in
    let begun = taking_begins g.D.Disk b base all file c.args.disk.now c.redo.new.writer c.redo.new.disk (g.D.Disk.seen c.args.disk.now) may done in
    let undone = c.in_ok-undo_found.ensures.kept b base all done.now begun.stands begun.taking (open_then g.D.Disk b base all c.args.analysed.now.open_change.items done.now.log done.log is.open_change) (losers_then g.D.Disk b base all c.args.analysed.now.losers done.now.log done.log is.losers) in
    let whole = settled_so g.D.Disk b base all done.now c.redo.new.disk c.undo_found.new.writer c.undo_found.new.disk c.force.new.self c.force.new.disk _ undone.sound (c.in_err-force.ensures.kept b base undone.sound.now undone.sound.goes.stands)
    (never_none g.D.Disk c.in_err-force.field-0.0 (logs_recover g.D.Disk c.in_err-force.ensures.outcome)) in
    record { sound = sound_on c.from_residual-in_err-force.result _ _ c.from_residual-in_err-force.ensures.1 whole.sound; stops = left_then g.D.Disk b base all c.args.disk.now c.redo.new.disk c.force.new.disk begun.stops whole.stops }

pub returns-clause-kept : goal.returns-clause-kept
returns-clause-kept g c b base all stands may least is changes =
    let file = file_page (g.D.Disk.seen c.args.disk.now Pages) in
    let k = c.in_ok-applied.ensures.kept b base all file stands (lawful_is_applicable b page_tree page_tree_laws on_leaves all may.lawful) is.point
    (subst (λ n. AreCopies n c.args.analysed.now.copies all) (sym is.point) is.copies) (changes ∙ ap (λ n. changes_from n all) (sym is.point)) in
    let done = k.sound.0 in
    let begun = taking_begins g.D.Disk b base all file c.args.disk.now c.redo.new.writer c.redo.new.disk (g.D.Disk.seen c.args.disk.now) may done in
    let undone = c.in_ok-undo_found.ensures.kept b base all done.now begun.stands begun.taking (open_then g.D.Disk b base all c.args.analysed.now.open_change.items done.now.log done.log is.open_change) (losers_then g.D.Disk b base all c.args.analysed.now.losers done.now.log done.log is.losers) in
    let whole = settled_so g.D.Disk b base all done.now c.redo.new.disk c.undo_found.new.writer c.undo_found.new.disk c.force.new.self c.force.new.disk _ undone.sound (c.in_ok-force.ensures.kept b base undone.sound.now undone.sound.goes.stands) tt in
    record { sound = (whole.sound, k.sound.1); stops = left_then g.D.Disk b base all c.args.disk.now c.redo.new.disk c.force.new.disk begun.stops whole.stops }

pub returns-in_err-applied-clause-redoes : goal.returns-in_err-applied-clause-redoes
returns-in_err-applied-clause-redoes g c b base all stands can done least is changes =
    let k = c.in_err-applied.ensures.kept b base all (file_page (g.D.Disk.seen c.args.disk.now Pages)) stands can is.point
    (subst (λ n. AreCopies n c.args.analysed.now.copies all) (sym is.point) is.copies) (changes ∙ ap (λ n. changes_from n all) (sym is.point)) in
    err_on c.from_residual.result c.in_err-applied.field-0.0 (λ e. e ≢ NotAStore) c.from_residual.ensures.1 k.sound

pub returns-in_err-undo_found-clause-redoes : goal.returns-in_err-undo_found-clause-redoes
returns-in_err-undo_found-clause-redoes g c b base all stands can done least is changes =
    let e = (c.in_err-undo_found.ensures.none (is.open_change ∙ ap oldest_first done.closed) (losers_none c.args.analysed.now.losers all is.losers done.ended)).0 in
    absurd (cc e)

pub returns-in_err-force-clause-redoes : goal.returns-in_err-force-clause-redoes
returns-in_err-force-clause-redoes g c b base all stands can done least is changes =
    err_on c.from_residual-in_err-force.result c.in_err-force.field-0.0 (λ e. e ≢ NotAStore) c.from_residual-in_err-force.ensures.1 (never_none g.D.Disk c.in_err-force.field-0.0 (logs_recover g.D.Disk c.in_err-force.ensures.outcome))

pub returns-in_err-applied-clause-used_up : goal.returns-in_err-applied-clause-used_up
returns-in_err-applied-clause-used_up g c b base all stands may least is changes =
    err_on c.from_residual.result c.in_err-applied.field-0.0 (λ e. e ≡ Capacity → RunsOut b all) c.from_residual.ensures.1 (λ full. never_numbers g.D.Disk c.in_err-applied.ensures.outcome full)

pub returns-in_err-undo_found-clause-used_up : goal.returns-in_err-undo_found-clause-used_up
returns-in_err-undo_found-clause-used_up g c b base all stands may least is changes =
    let file = file_page (g.D.Disk.seen c.args.disk.now Pages) in
    let k = c.in_ok-applied.ensures.kept b base all file stands (lawful_is_applicable b page_tree page_tree_laws on_leaves all may.lawful) is.point
    (subst (λ n. AreCopies n c.args.analysed.now.copies all) (sym is.point) is.copies) (changes ∙ ap (λ n. changes_from n all) (sym is.point)) in
    let done = k.sound.0 in
    let begun = taking_begins g.D.Disk b base all file c.args.disk.now c.redo.new.writer c.redo.new.disk (g.D.Disk.seen c.args.disk.now) may done in
    err_on c.from_residual-in_err-undo_found.result c.in_err-undo_found.field-0.0 (λ e. e ≡ Capacity → RunsOut b all) c.from_residual-in_err-undo_found.ensures.1
    (c.in_err-undo_found.ensures.used_up b base all done.now begun.stands begun.taking (open_then g.D.Disk b base all c.args.analysed.now.open_change.items done.now.log done.log is.open_change) (losers_then g.D.Disk b base all c.args.analysed.now.losers done.now.log done.log is.losers))

pub returns-in_err-force-clause-used_up : goal.returns-in_err-force-clause-used_up
returns-in_err-force-clause-used_up g c b base all stands may least is changes =
    err_on c.from_residual-in_err-force.result c.in_err-force.field-0.0 (λ e. e ≡ Capacity → RunsOut b all) c.from_residual-in_err-force.ensures.1
    (λ full. never_numbers g.D.Disk (recovers_more g.D.Disk mildly (logs_recover g.D.Disk c.in_err-force.ensures.outcome)) full)
