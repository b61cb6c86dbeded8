use Rattle.im_log_one_sync.proofs.Puts.{first_of_two, second_of_two, twice_there}
use Rattle.im_log_one_sync.proofs.putting.put_twice.Goals as goal

pub returns-in_err-write_synced-clause-any_moment : goal.returns-in_err-write_synced-clause-any_moment
returns-in_err-write_synced-clause-any_moment g c before bs may =
    first_of_two g.D.Disk c.args.file c.args.disk.now c.args.place before bs c.args.body.now may c.requires.durable c.write_synced.new.disk c.requires.closed c.write_synced.ensures.writes.any_moment

pub returns-in_err-write_synced-2-clause-any_moment : goal.returns-in_err-write_synced-2-clause-any_moment
returns-in_err-write_synced-2-clause-any_moment g c before bs may =
    second_of_two g.D.Disk c.args.file c.args.disk.now c.args.place before bs c.args.body.now may c.requires.durable c.write_synced.new.disk c.requires.closed c.write_synced-2.new.disk c.in_ok-write_synced.ensures.written
    (first_of_two g.D.Disk c.args.file c.args.disk.now c.args.place before bs c.args.body.now may c.requires.durable c.write_synced.new.disk c.requires.closed c.write_synced.ensures.writes.any_moment)
    c.in_ok-write_synced.ensures.writes.changes c.in_ok-write_synced.ensures.durable c.write_synced-2.ensures.writes.any_moment

pub returns-clause-any_moment : goal.returns-clause-any_moment
returns-clause-any_moment g c before bs may =
    second_of_two g.D.Disk c.args.file c.args.disk.now c.args.place before bs c.args.body.now may c.requires.durable c.write_synced.new.disk c.requires.closed c.write_synced-2.new.disk c.in_ok-write_synced.ensures.written
    (first_of_two g.D.Disk c.args.file c.args.disk.now c.args.place before bs c.args.body.now may c.requires.durable c.write_synced.new.disk c.requires.closed c.write_synced.ensures.writes.any_moment)
    c.in_ok-write_synced.ensures.writes.changes c.in_ok-write_synced.ensures.durable c.write_synced-2.ensures.writes.any_moment

pub returns-clause-there : goal.returns-clause-there
returns-clause-there g c before bs told may =
    twice_there g.D.Disk c.args.file c.args.disk.now c.args.place before bs c.args.body.now (λ _. may) c.requires.durable c.write_synced.new.disk c.requires.closed c.write_synced-2.new.disk c.in_ok-write_synced.ensures.written told (c.in_ok-write_synced-2.ensures.written told)
