use Rattle.im_store.specs.Upkeep.{none}
use Rattle.im_store.proofs.Keeping.{last_kept_on}
use Rattle.im_store.proofs.upkeep.Upkeep.write_all.Goals as goal

pub returns-then-not-is_set-clause-kept : goal.returns-then-not-is_set-clause-kept
returns-then-not-is_set-clause-kept g c = none

pub returns-clause-kept : goal.returns-clause-kept
returns-clause-kept g c = last_kept_on g.D.Disk c.take_checkpoint.result c.args.engine.now c.take_checkpoint.new.engine c.take_checkpoint.ensures.taken
