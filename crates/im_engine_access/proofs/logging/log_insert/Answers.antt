use Rattle.im_engine_access.proofs.KeyLogs.{insert_logged}
use Rattle.im_engine_access.proofs.logging.log_insert.Goals as goal

pub returns-clause-kept : goal.returns-clause-kept
returns-clause-kept g c b base s e undo_next may =
    let a = c.args in
    insert_logged g.D.Disk b base s e a.transaction a.last undo_next a.writer.now a.disk.now may.unfinished c.requires.owner a.page a.key.now a.rid c.log_change.new.self c.log_change.new.disk c.log_change.result
    c.requires.keyed c.requires.short may (c.log_change.ensures.kept b base s e may.unfinished.stands may.unfinished.over)
