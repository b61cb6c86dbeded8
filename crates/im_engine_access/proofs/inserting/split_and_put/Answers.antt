use Rattle.std.proofs.Common.{refl}
use Rattle.im_page_writer.specs.Outcome.{mild}
use Rattle.im_page_writer.proofs.Outcomes.{late_behind, log_refused, logs_both, logs_for_more, no_page_for}
use Rattle.im_engine_access.proofs.Inserts.{by_owner, comes_split, may_run, put_late, run_refused, split_room, split_way}
use Rattle.im_engine_access.proofs.inserting.split_and_put.Goals as goal

pub returns-in_err-last-clause-outcome : goal.returns-in_err-last-clause-outcome
returns-in_err-last-clause-outcome g c = log_refused g.D.Disk c.from_residual.result c.from_residual.ensures.1 c.in_err-last.ensures.outcome

pub returns-in_err-last-clause-kept : goal.returns-in_err-last-clause-kept
returns-in_err-last-clause-kept g c b base s e dense max may =
    let a = c.args in
    let t = a.transaction.now in
    let kept = by_owner g.D.Disk b base s e t.number t.last t.undo_next a.key.now dense max a.begun.now.change a.page a.writer.now a.disk.now may c.requires.owner c.run.new.writer c.run.new.disk _ (c.in_err-last.ensures.kept b base _ e (may_run g.D.Disk b base s e t.number t.last t.undo_next a.key.now dense max a.begun.now.change a.page a.writer.now a.disk.now may c.requires.owner)) in
    run_refused g.D.Disk b base s e t.number t.last t.undo_next a.key.now dense max a.begun.now.change a.page a.writer.now a.disk.now may c.requires.owner c.in_err-last.field-0.0 a.rid c.run.new.writer c.run.new.disk c.from_residual.result c.from_residual.ensures.1 kept

pub returns-in-Ok-clause-outcome : goal.returns-in-Ok-clause-outcome
returns-in-Ok-clause-outcome g c = logs_both g.D.Disk c.in_ok-last.ensures.outcome c.in-Ok.ensures.outcome

pub returns-in-Ok-clause-kept : goal.returns-in-Ok-clause-kept
returns-in-Ok-clause-kept g c b base s e dense max may =
    let a = c.args in
    let t = a.transaction.now in
    let kept = by_owner g.D.Disk b base s e t.number t.last t.undo_next a.key.now dense max a.begun.now.change a.page a.writer.now a.disk.now may c.requires.owner c.run.new.writer c.run.new.disk _ (c.in_ok-last.ensures.kept b base _ e (may_run g.D.Disk b base s e t.number t.last t.undo_next a.key.now dense max a.begun.now.change a.page a.writer.now a.disk.now may c.requires.owner)) in
    c.in-Ok.ensures.kept b base s e t.undo_next dense max (comes_split g.D.Disk b base s e t.number t.last t.undo_next a.key.now dense max a.begun.now.change a.page a.writer.now a.disk.now may c.requires.owner c.in_ok-last.last c.run.new.writer c.run.new.disk kept)
    (split_way g.D.Disk b base s e t.number t.last t.undo_next a.key.now dense max a.begun.now.change a.page a.writer.now a.disk.now may c.requires.owner c.in_ok-last.last c.run.new.writer c.run.new.disk kept)
    (split_room g.D.Disk b base s e t.number t.last t.undo_next a.key.now dense max a.begun.now.change a.page a.writer.now a.disk.now may c.requires.owner c.in_ok-last.last c.run.new.writer c.run.new.disk kept)

pub returns-in-Err-clause-outcome : goal.returns-in-Err-clause-outcome
returns-in-Err-clause-outcome g c = late_behind g.D.Disk c.in_ok-last.ensures.outcome (logs_for_more g.D.Disk (no_page_for mild refl) c.in-Err.ensures.outcome) c.late.ensures.memory c.late.ensures.others

pub returns-in-Err-clause-kept : goal.returns-in-Err-clause-kept
returns-in-Err-clause-kept g c b base s e dense max may =
    let a = c.args in
    let t = a.transaction.now in
    let kept = by_owner g.D.Disk b base s e t.number t.last t.undo_next a.key.now dense max a.begun.now.change a.page a.writer.now a.disk.now may c.requires.owner c.run.new.writer c.run.new.disk _ (c.in_ok-last.ensures.kept b base _ e (may_run g.D.Disk b base s e t.number t.last t.undo_next a.key.now dense max a.begun.now.change a.page a.writer.now a.disk.now may c.requires.owner)) in
    put_late g.D.Disk b base s e t.number a.key.now a.rid dense max may.since c.put.new.writer c.put.new.disk c.in-Err.fault c.late.result c.late.ensures.memory c.late.ensures.others
    (c.in-Err.ensures.kept b base s e t.undo_next dense max (comes_split g.D.Disk b base s e t.number t.last t.undo_next a.key.now dense max a.begun.now.change a.page a.writer.now a.disk.now may c.requires.owner c.in_ok-last.last c.run.new.writer c.run.new.disk kept)
    (split_way g.D.Disk b base s e t.number t.last t.undo_next a.key.now dense max a.begun.now.change a.page a.writer.now a.disk.now may c.requires.owner c.in_ok-last.last c.run.new.writer c.run.new.disk kept)
    (split_room g.D.Disk b base s e t.number t.last t.undo_next a.key.now dense max a.begun.now.change a.page a.writer.now a.disk.now may c.requires.owner c.in_ok-last.last c.run.new.writer c.run.new.disk kept))
