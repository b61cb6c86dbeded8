use Rattle.std.proofs.Common.{Ok, ◌∙◌, ap, subst}
use Rattle.im_tree_search.specs.declared.sight.Sight.{Sight}
use Rattle.im_tree_search.specs.declared.sight.Sight.TheVariants.{Seen}
use Rattle.im_engine_rollback.specs.declared.undone_beside.UndoneBeside.{UndoneBeside}
use Rattle.im_engine_rollback.specs.declared.undone_beside.UndoneBeside.TheVariants as turns
use Rattle.im_engine_rollback.specs.TurnsBeside.{TurnBesideKept}
use Rattle.im_engine_rollback.proofs.Ends.{turn_behind, turn_refused_on}
use Rattle.im_engine_rollback.proofs.InSteps.{page_turn, seen_not, split_back, split_over, split_stands, step_drops, step_hidden, step_made, step_not_split, step_on, step_refused, step_splits}
use Rattle.im_engine_rollback.proofs.first_step.undo_in_steps.Goals as goal

pub returns-in_err-undone-clause-outcome : goal.returns-in_err-undone-clause-outcome
returns-in_err-undone-clause-outcome g c = turn_refused_on g.D.Disk c.from_residual.result c.from_residual.ensures.1 c.in_err-undone.ensures.outcome

pub returns-in_err-undone-clause-kept : goal.returns-in_err-undone-clause-kept
returns-in_err-undone-clause-kept g c b base s e going some told =
    let f = c.in_err-undone.field-0.0 in
    step_on g.D.Disk b base s e c.args.transaction c.args.last c.args.undo_next c.args.beside c.args.disk.now c.undo_beside.new.writer c.undo_beside.new.disk f c.args.ends c.from_residual.result c.from_residual.ensures.1
    (step_refused g.D.Disk b base s e c.args.transaction c.args.last c.args.undo_next c.args.beside c.args.writer.now c.args.disk.now going c.undo_beside.new.writer c.undo_beside.new.disk c.args.ends f (c.in_err-undone.ensures.kept b base s e going some told))

pub returns-in_default-clause-kept : goal.returns-in_default-clause-kept
returns-in_default-clause-kept g c b base s e going some told =
    let t = c.args.transaction in
    let w = c.undo_beside.new.writer in
    let new = c.undo_beside.new.disk in
    step_hidden g.D.Disk b base s e t c.args.last c.args.undo_next c.args.beside c.args.writer.now c.args.disk.now going w new c.args.ends
    (subst (λ (y : Sight UndoneBeside). TurnBesideKept g.D.Disk b base c.args.ends s e t c.args.last c.args.undo_next c.args.beside c.args.disk.now w new (Ok y)) (seen_not c.in_ok-undone.field-0 c.in_default.not-Seen) (c.in_ok-undone.ensures.kept b base s e going some told))

pub returns-in-Made-clause-kept : goal.returns-in-Made-clause-kept
returns-in-Made-clause-kept g c b base s e going some told =
    let t = c.args.transaction in
    let w = c.undo_beside.new.writer in
    let new = c.undo_beside.new.disk in
    step_made g.D.Disk b base s e t c.args.last c.args.undo_next c.args.beside c.args.writer.now c.args.disk.now going w new c.args.ends c.in-Made.undone
    (subst (λ (y : Sight UndoneBeside). TurnBesideKept g.D.Disk b base c.args.ends s e t c.args.last c.args.undo_next c.args.beside c.args.disk.now w new (Ok y)) (c.in-Seen.is ∙ ap Seen c.in-Made.is) (c.in_ok-undone.ensures.kept b base s e going some told))

-- ---- a split begins

pub returns-in_err-begun-in-Splits-clause-outcome : goal.returns-in_err-begun-in-Splits-clause-outcome
returns-in_err-begun-in-Splits-clause-outcome g c =
    turn_refused_on g.D.Disk c.from_residual-in_err-begun-in-Splits.result c.from_residual-in_err-begun-in-Splits.ensures.1
    (turn_behind g.D.Disk (λ f is. is) c.in_ok-undone.ensures.outcome (page_turn g.D.Disk c.in_ok-undone.ensures.outcome.ends.works c.in_err-begun-in-Splits.ensures.outcome))

pub returns-in_err-begun-in-Splits-clause-kept : goal.returns-in_err-begun-in-Splits-clause-kept
returns-in_err-begun-in-Splits-clause-kept g c b base s e going some told =
    let t = c.args.transaction in
    let last = c.args.last in
    let next = c.args.undo_next in
    let start = c.args.writer.now in
    let old = c.args.disk.now in
    let v = c.undo_beside.new.writer in
    let mid = c.undo_beside.new.disk in
    let plan = c.in-Splits.plan in
    let f = c.in_err-begun-in-Splits.field-0.0 in
    let k : TurnBesideKept g.D.Disk b base c.args.ends s e t last next c.args.beside old v mid (Ok (Seen (turns.Splits plan))) =
    subst (λ (y : Sight UndoneBeside). TurnBesideKept g.D.Disk b base c.args.ends s e t last next c.args.beside old v mid (Ok y)) (c.in-Seen.is ∙ ap Seen c.in-Splits.is) (c.in_ok-undone.ensures.kept b base s e going some told) in
    let splits = k.sound.splits in
    let kept = c.in_err-begun-in-Splits.ensures.kept b base splits.now e (split_stands g.D.Disk b base s e t last next c.args.beside start old going v mid c.args.ends plan k) (split_over g.D.Disk b base s e t last next c.args.beside start old going v mid c.args.ends plan k) splits.begins
    (split_back g.D.Disk b base s e t last next c.args.beside start old going v mid c.args.ends plan k) splits.count in
    step_on g.D.Disk b base s e t last next c.args.beside old c.begin_split.new.writer c.begin_split.new.disk f c.args.ends c.from_residual-in_err-begun-in-Splits.result c.from_residual-in_err-begun-in-Splits.ensures.1
    (step_not_split g.D.Disk b base s e t last next c.args.beside start old going v mid c.args.ends plan k c.begin_split.new.writer c.begin_split.new.disk f c.in_err-begun-in-Splits.ensures.outcome kept)

pub returns-in_ok-begun-in-Splits-clause-outcome : goal.returns-in_ok-begun-in-Splits-clause-outcome
returns-in_ok-begun-in-Splits-clause-outcome g c = turn_behind g.D.Disk (λ f is. is) c.in_ok-undone.ensures.outcome (page_turn g.D.Disk c.in_ok-undone.ensures.outcome.ends.works c.in_ok-begun-in-Splits.ensures.outcome)

pub returns-in_ok-begun-in-Splits-clause-kept : goal.returns-in_ok-begun-in-Splits-clause-kept
returns-in_ok-begun-in-Splits-clause-kept g c b base s e going some told =
    let t = c.args.transaction in
    let last = c.args.last in
    let next = c.args.undo_next in
    let start = c.args.writer.now in
    let old = c.args.disk.now in
    let v = c.undo_beside.new.writer in
    let mid = c.undo_beside.new.disk in
    let plan = c.in-Splits.plan in
    let k : TurnBesideKept g.D.Disk b base c.args.ends s e t last next c.args.beside old v mid (Ok (Seen (turns.Splits plan))) =
    subst (λ (y : Sight UndoneBeside). TurnBesideKept g.D.Disk b base c.args.ends s e t last next c.args.beside old v mid (Ok y)) (c.in-Seen.is ∙ ap Seen c.in-Splits.is) (c.in_ok-undone.ensures.kept b base s e going some told) in
    let splits = k.sound.splits in
    let kept = c.in_ok-begun-in-Splits.ensures.kept b base splits.now e (split_stands g.D.Disk b base s e t last next c.args.beside start old going v mid c.args.ends plan k) (split_over g.D.Disk b base s e t last next c.args.beside start old going v mid c.args.ends plan k) splits.begins
    (split_back g.D.Disk b base s e t last next c.args.beside start old going v mid c.args.ends plan k) splits.count in
    step_splits g.D.Disk b base s e t last next c.args.beside start old going v mid c.args.ends plan k c.begin_split.new.writer c.begin_split.new.disk c.in_ok-begun-in-Splits.begun kept

-- ---- a deletion begins

pub returns-in-Drops-clause-kept : goal.returns-in-Drops-clause-kept
returns-in-Drops-clause-kept g c b base s e going some told =
    let t = c.args.transaction in
    let w = c.undo_beside.new.writer in
    let new = c.undo_beside.new.disk in
    let images = c.begin-begun.ensures.images in
    let owner = c.begin-begun.ensures.owner in
    step_drops g.D.Disk b base s e t c.args.last c.args.undo_next c.args.beside c.args.writer.now c.args.disk.now going w new c.args.ends c.in-Drops.change c.in-Drops.last c.in-Drops.undo_next c.begin-begun.result images.0 images.1 owner.0 owner.1 owner.2 c.begin-begun.ensures.count
    (subst (λ (y : Sight UndoneBeside). TurnBesideKept g.D.Disk b base c.args.ends s e t c.args.last c.args.undo_next c.args.beside c.args.disk.now w new (Ok y)) (c.in-Seen.is ∙ ap Seen c.in-Drops.is) (c.in_ok-undone.ensures.kept b base s e going some told))
