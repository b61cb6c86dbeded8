use Rattle.std.proofs.Common.{List, subst}
use Rattle.im_base_types.specs.declared.tables.ActiveTransaction.{ActiveTransaction}
use Rattle.im_page_writer.specs.Checkpoints.{CheckpointFromKept, CheckpointKept}
use Rattle.im_page_table.specs.DirtyTable.{dirty_pages, synced_entries}
use Rattle.im_engine_checkpoint.proofs.checkpoint.take.Goals as goal

pub returns-clause-kept : goal.returns-clause-kept
returns-clause-kept g c few b base s e is over =
    subst (λ (rows : List ActiveTransaction). CheckpointKept g.D.Disk b base s c.args.next rows (dirty_pages (synced_entries c.args.writer.now.table)) c.args.disk.now c.log_checkpoint.new.self c.log_checkpoint.new.disk c.log_checkpoint.result)
    c.rows_of-count.ensures.rows
    (c.log_checkpoint.ensures.kept few b base s e is over)

pub returns-clause-always : goal.returns-clause-always
returns-clause-always g c b base s e is over =
    subst (λ (rows : List ActiveTransaction). CheckpointFromKept g.D.Disk b base s c.args.next rows c.args.disk.now c.log_checkpoint.new.self c.log_checkpoint.new.disk c.log_checkpoint.result)
    c.rows_of-count.ensures.rows
    (c.log_checkpoint.ensures.always b base s e is over)
