use Rattle.im_log_one_sync.proofs.Puts.{once, once_there}
use Rattle.im_log_one_sync.proofs.putting.put_once.Goals as goal

pub returns-in_err-write_synced-clause-any_moment : goal.returns-in_err-write_synced-clause-any_moment
returns-in_err-write_synced-clause-any_moment g c before bs body is clear may =
    once g.D.Disk c.args.file c.args.disk.now c.args.place before bs body may c.requires.durable c.write_synced.new.disk c.args.bytes.now is c.requires.log clear (c.write_synced.ensures.unforged c.requires.sums).any_moment

pub returns-clause-any_moment : goal.returns-clause-any_moment
returns-clause-any_moment g c before bs body is clear may =
    once g.D.Disk c.args.file c.args.disk.now c.args.place before bs body may c.requires.durable c.write_synced.new.disk c.args.bytes.now is c.requires.log clear (c.write_synced.ensures.unforged c.requires.sums).any_moment

pub returns-clause-there : goal.returns-clause-there
returns-clause-there g c before bs body is told may =
    once_there g.D.Disk c.args.file c.args.disk.now c.args.place before bs body (λ _. may) c.requires.durable c.write_synced.new.disk c.args.bytes.now is told (c.in_ok-write_synced.ensures.written told)
