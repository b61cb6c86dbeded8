use Rattle.im_log_sum_gate.proofs.Puts.{once}
use Rattle.im_log_sum_gate.proofs.putting.put_once.Goals as goal

pub returns-in_err-write_synced-clause-any_moment : goal.returns-in_err-write_synced-clause-any_moment
returns-in_err-write_synced-clause-any_moment g c h before bs clear may =
    once g.D.Disk c.args.file c.args.disk.now c.args.place h before bs c.requires.durable c.write_synced.new.disk c.args.bytes.now c.requires.log clear may (c.write_synced.ensures.unforged c.requires.sums).any_moment

pub returns-clause-any_moment : goal.returns-clause-any_moment
returns-clause-any_moment g c h before bs clear may =
    once g.D.Disk c.args.file c.args.disk.now c.args.place h before bs c.requires.durable c.write_synced.new.disk c.args.bytes.now c.requires.log clear may (c.write_synced.ensures.unforged c.requires.sums).any_moment
