use Rattle.std.proofs.Common.{ℕ, Err, Ok, refl}
use Rattle.im_log.specs.Whats.{what_of}
use Rattle.im_log_record.specs.Entry.{Entry, view, transaction_of}
use Rattle.im_page_writer.specs.Outcome.{mild, no_page}
use Rattle.im_page_writer.proofs.Outcomes.{log_refused, logs_both, logs_late}
use Rattle.im_tree_search.specs.Levels.{bodies}
use Rattle.im_smo_actions.proofs.Changes.{memory_done, other_so}
use Rattle.im_smo_actions.specs.GoingBeside.{settled_pages}
use Rattle.im_restart_undo.specs.declared.back.Back.TheVariants.{Plain}
use Rattle.im_restart_undo.specs.Undoing.{UsesUp, WantsRoom}
use Rattle.im_restart_undo.proofs.Behind.{back_before_drop, back_without_drop, drop_takes}
use Rattle.im_restart_undo.proofs.Closed.{closed_beside, kept_closed, out_of_none}
use Rattle.im_restart_undo.proofs.Composing.{refused_on}
use Rattle.im_restart_undo.proofs.Ends.{no_capacity, never_short, none_late, wants_nothing}
use Rattle.im_restart_undo.proofs.logging.log_before_drop.Goals as goal

pub returns-in_err-lsn-clause-outcome : goal.returns-in_err-lsn-clause-outcome
returns-in_err-lsn-clause-outcome g c = log_refused g.D.Disk c.from_residual.result c.from_residual.ensures.1 (logs_late g.D.Disk {m = no_page} (λ f is. is) c.requires.working c.in_err-lsn.ensures.outcome)

pub returns-in_err-lsn-clause-kept : goal.returns-in_err-lsn-clause-kept
returns-in_err-lsn-clause-kept g c b base s e undo_next going to drops =
    let entry : Entry = view c.args.«record».now in
    let t = transaction_of entry in
    let f = c.in_err-lsn.field-0.0 in
    let takes = drop_takes (settled_pages b s) (what_of entry) c.args.page c.args.images.now drops in
    let kept = c.in_err-lsn.ensures.kept b base s e undo_next (closed_beside g.D.Disk b base s e t c.args.last undo_next c.args.writer.now c.args.disk.now going) to takes (out_of_none _ (Plain c.args.page) going.can.closed) in
    refused_on g.D.Disk b base s e t entry c.args.disk.now c.compensate.new.writer c.compensate.new.disk f c.from_residual.result c.from_residual.ensures.1
    (kept_closed g.D.Disk b base s e t entry going.can.closed c.args.disk.now c.compensate.new.writer c.compensate.new.disk (Plain c.args.page) (Err f)
    (never_short g.D.Disk {A = ℕ} (WantsRoom (bodies s) (what_of entry)) (Err f) refl c.in_err-lsn.ensures.outcome) (no_capacity g.D.Disk {A = ℕ} (UsesUp (bodies s) (what_of entry)) (Err f) refl c.in_err-lsn.ensures.outcome) kept)

pub returns-in-Ok-clause-outcome : goal.returns-in-Ok-clause-outcome
returns-in-Ok-clause-outcome g c = logs_both g.D.Disk c.in_ok-lsn.ensures.outcome c.in-Ok.ensures.outcome

pub returns-in-Ok-clause-kept : goal.returns-in-Ok-clause-kept
returns-in-Ok-clause-kept g c b base s e undo_next going to drops =
    let entry : Entry = view c.args.«record».now in
    let t = transaction_of entry in
    let takes = drop_takes (settled_pages b s) (what_of entry) c.args.page c.args.images.now drops in
    let kept = c.in_ok-lsn.ensures.kept b base s e undo_next (closed_beside g.D.Disk b base s e t c.args.last undo_next c.args.writer.now c.args.disk.now going) to takes (out_of_none _ (Plain c.args.page) going.can.closed) in
    back_before_drop g.D.Disk b base s e t entry c.args.disk.now c.args.last undo_next c.args.writer.now going to c.args.page c.args.images.now drops c.in_ok-lsn.lsn c.compensate.new.writer c.compensate.new.disk kept.sound
    c.transaction.result c.prev.result c.transaction.ensures c.prev.ensures c.run.new.writer c.run.new.disk (Ok c.in-Ok.last) tt (λ now. c.in-Ok.ensures.kept b base now e)

pub returns-then-wants_memory-clause-outcome : goal.returns-then-wants_memory-clause-outcome
returns-then-wants_memory-clause-outcome g c = logs_both g.D.Disk c.in_ok-lsn.ensures.outcome (memory_done g.D.Disk {n = mild} c.in-Err.fault (c.wants_memory.ensures.wants c.if-wants_memory.true) c.in-Err.ensures.outcome)

pub returns-then-wants_memory-clause-kept : goal.returns-then-wants_memory-clause-kept
returns-then-wants_memory-clause-kept g c b base s e undo_next going to drops =
    let entry : Entry = view c.args.«record».now in
    let t = transaction_of entry in
    let takes = drop_takes (settled_pages b s) (what_of entry) c.args.page c.args.images.now drops in
    let kept = c.in_ok-lsn.ensures.kept b base s e undo_next (closed_beside g.D.Disk b base s e t c.args.last undo_next c.args.writer.now c.args.disk.now going) to takes (out_of_none _ (Plain c.args.page) going.can.closed) in
    back_without_drop g.D.Disk b base s e t entry c.args.disk.now c.args.last undo_next c.args.writer.now going to c.args.page c.args.images.now drops c.in_ok-lsn.lsn c.compensate.new.writer c.compensate.new.disk kept.sound
    c.transaction.result c.prev.result c.transaction.ensures c.prev.ensures c.run.new.writer c.run.new.disk c.in-Err.fault (c.wants_memory.ensures.wants c.if-wants_memory.true) c.in-Err.ensures.outcome (λ now. c.in-Err.ensures.kept b base now e)

pub returns-else-wants_memory-clause-outcome : goal.returns-else-wants_memory-clause-outcome
returns-else-wants_memory-clause-outcome g c = none_late g.D.Disk c.in_ok-lsn.ensures.outcome (other_so g.D.Disk c.in-Err.fault (c.wants_memory.ensures.other c.if-wants_memory.false) c.in-Err.ensures.outcome)

pub returns-else-wants_memory-clause-kept : goal.returns-else-wants_memory-clause-kept
returns-else-wants_memory-clause-kept g c b base s e undo_next going to drops =
    let entry : Entry = view c.args.«record».now in
    let t = transaction_of entry in
    let f = c.in-Err.fault in
    let takes = drop_takes (settled_pages b s) (what_of entry) c.args.page c.args.images.now drops in
    let kept = c.in_ok-lsn.ensures.kept b base s e undo_next (closed_beside g.D.Disk b base s e t c.args.last undo_next c.args.writer.now c.args.disk.now going) to takes (out_of_none _ (Plain c.args.page) going.can.closed) in
    back_before_drop g.D.Disk b base s e t entry c.args.disk.now c.args.last undo_next c.args.writer.now going to c.args.page c.args.images.now drops c.in_ok-lsn.lsn c.compensate.new.writer c.compensate.new.disk kept.sound
    c.transaction.result c.prev.result c.transaction.ensures c.prev.ensures c.run.new.writer c.run.new.disk (Err f)
    (wants_nothing g.D.Disk {A = ℕ} (Err f) refl refl (other_so g.D.Disk f (c.wants_memory.ensures.other c.if-wants_memory.false) c.in-Err.ensures.outcome)) (λ now. c.in-Err.ensures.kept b base now e)
