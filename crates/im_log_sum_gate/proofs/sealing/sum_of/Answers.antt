use Rattle.im_log_sum_gate.proofs.Rooms.{summed}
use Rattle.im_log_sum_gate.proofs.sealing.sum_of.Goals as goal

pub returns : goal.returns
returns c records most is = summed c.args.salt.now c.args.lsn records c.args.batch.now c.digest.result most is c.digest.ensures
