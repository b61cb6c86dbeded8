use Rattle.im_engine_locks.specs.Requests.{row}
use Rattle.im_engine_locks.specs.InStep.{owned}
use Rattle.im_engine_locks.proofs.Conflicts.{no_rivals}
use Rattle.im_engine_locks.proofs.lock_table.rival_of.Goals as goal

pub returns-then-is_alone : goal.returns-then-is_alone
returns-then-is_alone c = no_rivals c.args.names.now (owned c.args.owners.now) c.args.t (row c.args.requests.now) (c.is_alone.ensures c.if-is_alone.true)
