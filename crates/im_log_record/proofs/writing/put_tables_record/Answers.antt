use Rattle.std.proofs.Common.{◌++◌, ℕ, take, ap, ◌∙◌, arith}
use Rattle.im_log_record.specs.Entry.{active_rows, dirty_rows}
use Rattle.im_log_record.specs.Spelling.{word16}
use Rattle.im_log_record.proofs.Tables.{length-tables}
use Rattle.im_log_record.proofs.Buffers.{record_puts, five_puts}
use Rattle.im_log_record.proofs.writing.put_tables_record.Goals as goal

pub returns-clause-front : goal.returns-clause-front
returns-clause-front c =
    record_puts _ _ _ _ _ _ _ _ _ _
    (omega (arith, length-tables c.args.next (active_rows c.args.active.now) (dirty_rows c.args.dirty.now)))
    c.put_front-at.ensures.front
    (five_puts _ _ _ _ _ _ _ _ _ _ _ c.put64-at.ensures.front
    (c.put16-at.ensures.front ∙ ap (λ (n : ℕ). take c.put64-at.result c.put64-at.new.out ++ word16 n) c.len-3.ensures)
    c.put_actives-at.ensures.front
    (c.put16-at-2.ensures.front ∙ ap (λ (n : ℕ). take c.put_actives-at.result c.put_actives-at.new.out ++ word16 n) c.len-4.ensures)
    c.put_dirties.ensures.front)
