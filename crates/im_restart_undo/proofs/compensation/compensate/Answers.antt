use Rattle.std.proofs.Common.{◌≡◌, sym, ap, subst}
use Rattle.im_theory_log.specs.Lawful.{IsNotIn}
use Rattle.im_theory_log.specs.Structure.{open_smo, settled}
use Rattle.im_log.specs.Whats.{what_of}
use Rattle.im_log_record.specs.Entry.{Entry, InsertKey, DeleteKey, view, transaction_of}
use Rattle.im_log_record.specs.Spelling.{IsEntry}
use Rattle.im_log_record.specs.declared.record.Record.{Record}
use Rattle.im_restart_undo.specs.declared.back.Back.TheVariants.{Plain}
use Rattle.im_restart_undo.specs.GoingBeside.{BackKept, IsGoingBeside}
use Rattle.im_restart_undo.specs.Undoing.{IsToUndo, TakesIt}
use Rattle.im_restart_undo.proofs.Compensations.{insert_undone, delete_undone}
use Rattle.im_restart_undo.proofs.KeyRecords.{no_key}
use Rattle.im_restart_undo.proofs.compensation.compensate.Goals as goal

pub returns-in-InsertKey-clause-kept : goal.returns-in-InsertKey-clause-kept
returns-in-InsertKey-clause-kept g c b base s e undo_next =
    let a = c.in-InsertKey in
    let said : Entry = InsertKey a.transaction a.prev a.page a.key.now a.rid in
    let same : view c.args.«record».now ≡ said = ap (λ (x : Record). view x) a.is in
    let call = c.log_change in
    subst
    (λ (x : Entry). IsGoingBeside g.D.Disk b base s e (transaction_of x) c.args.last undo_next c.args.writer.now c.args.disk.now → IsToUndo g.D.Disk b base s (transaction_of x) x → TakesIt (settled b s.log) c.args.page (what_of x)
    → IsNotIn c.args.page (open_smo s.log) → BackKept g.D.Disk b base s e (transaction_of x) x (Plain c.args.page) c.args.disk.now call.new.self call.new.disk call.result)
    (sym same)
    (λ going to takes out. insert_undone g.D.Disk b base s e a.transaction c.args.last undo_next c.args.writer.now c.args.disk.now going a.prev a.page c.args.page a.key.now a.rid call.new.self call.new.disk call.result
    call.ensures.outcome takes out to (call.ensures.kept b base s e going.stands going.over))

pub returns-in-DeleteKey-clause-kept : goal.returns-in-DeleteKey-clause-kept
returns-in-DeleteKey-clause-kept g c b base s e undo_next =
    let a = c.in-DeleteKey in
    let said : Entry = DeleteKey a.transaction a.prev a.page a.key.now a.rid in
    let same : view c.args.«record».now ≡ said = ap (λ (x : Record). view x) a.is in
    let call = c.log_change-in-DeleteKey in
    let fits : IsEntry said = subst IsEntry same c.requires.entry in
    subst
    (λ (x : Entry). IsGoingBeside g.D.Disk b base s e (transaction_of x) c.args.last undo_next c.args.writer.now c.args.disk.now → IsToUndo g.D.Disk b base s (transaction_of x) x → TakesIt (settled b s.log) c.args.page (what_of x)
    → IsNotIn c.args.page (open_smo s.log) → BackKept g.D.Disk b base s e (transaction_of x) x (Plain c.args.page) c.args.disk.now call.new.self call.new.disk call.result)
    (sym same)
    (λ going to takes out. delete_undone g.D.Disk b base s e a.transaction c.args.last undo_next c.args.writer.now c.args.disk.now going a.prev a.page c.args.page a.key.now a.rid call.new.self call.new.disk call.result
    call.ensures.outcome takes.0 out fits to takes.1 (call.ensures.kept b base s e going.stands going.over))

pub returns-in_default : goal.returns-in_default
returns-in_default g c = absurd (no_key c.args.«record».now c.in_default.not-InsertKey c.in_default.not-DeleteKey c.requires.key)
