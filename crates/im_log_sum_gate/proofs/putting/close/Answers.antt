use Rattle.im_log_sum_gate.proofs.Puts.{closed}
use Rattle.im_log_sum_gate.proofs.putting.close.Goals as goal

pub returns-in_err-write_synced-clause-any_moment : goal.returns-in_err-write_synced-clause-any_moment
returns-in_err-write_synced-clause-any_moment g c h before bs ends =
    closed g.D.Disk c.args.file c.args.disk.now c.args.place h before bs c.requires.durable c.write_synced.new.disk ends c.requires.opened c.write_synced.ensures.writes.any_moment

pub returns-clause-any_moment : goal.returns-clause-any_moment
returns-clause-any_moment g c h before bs ends =
    closed g.D.Disk c.args.file c.args.disk.now c.args.place h before bs c.requires.durable c.write_synced.new.disk ends c.requires.opened c.write_synced.ensures.writes.any_moment
