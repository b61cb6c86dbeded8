use Rattle.im_engine_access.proofs.Inserts.{may_put, put_done, put_refused}
use Rattle.im_engine_access.proofs.inserting.put.Goals as goal

pub returns-in_err-lsn-clause-kept : goal.returns-in_err-lsn-clause-kept
returns-in_err-lsn-clause-kept g c b base s e undo_next dense max to way room =
    let a = c.args in
    let k = c.in_err-lsn.ensures.kept b base to.made.now e undo_next (may_put g.D.Disk b base s e a.transaction a.last undo_next a.key.now dense max a.writer.now a.disk.now to c.requires.owner a.page way room) in
    put_refused g.D.Disk b base s e a.transaction a.last undo_next a.key.now dense max a.writer.now a.disk.now to c.requires.owner c.in_err-lsn.field-0.0 a.rid c.log_insert.new.writer c.log_insert.new.disk
    c.from_residual.result c.from_residual.ensures.1 k.sound k.stops

pub returns-clause-kept : goal.returns-clause-kept
returns-clause-kept g c b base s e undo_next dense max to way room =
    let a = c.args in
    put_done g.D.Disk b base s e a.transaction a.last undo_next a.key.now dense max a.writer.now a.disk.now to c.requires.owner a.page a.rid c.in_ok-lsn.lsn c.log_insert.new.writer c.log_insert.new.disk
    (c.in_ok-lsn.ensures.kept b base to.made.now e undo_next (may_put g.D.Disk b base s e a.transaction a.last undo_next a.key.now dense max a.writer.now a.disk.now to c.requires.owner a.page way room))
