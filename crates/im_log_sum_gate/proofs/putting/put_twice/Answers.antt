use Rattle.std.proofs.Common.{◌-◌, length, take, drop}
use Rattle.im_log_sum_gate.proofs.Puts.{first_of_two, rest_of, second_of_two, twice_there}
use Rattle.im_log_sum_gate.proofs.putting.put_twice.Goals as goal

pub returns-in_err-write_synced-clause-any_moment : goal.returns-in_err-write_synced-clause-any_moment
returns-in_err-write_synced-clause-any_moment g c h before bs may =
    first_of_two g.D.Disk c.args.file c.args.disk.now c.args.place h before bs c.requires.durable c.write_synced.new.disk c.args.bytes.now may c.requires.closed _ c.write_synced.ensures.writes.any_moment

pub returns-in_err-write_synced-2-clause-any_moment : goal.returns-in_err-write_synced-2-clause-any_moment
returns-in_err-write_synced-2-clause-any_moment g c h before bs may =
    second_of_two g.D.Disk c.args.file c.args.disk.now c.args.place h before bs c.requires.durable c.write_synced.new.disk c.args.bytes.now may c.requires.closed c.write_synced-2.new.disk
    (take (length c.args.bytes.now - 1) (drop 1 c.args.bytes.now)) (rest_of c.args.bytes.now) c.in_ok-write_synced.ensures.written
    (first_of_two g.D.Disk c.args.file c.args.disk.now c.args.place h before bs c.requires.durable c.write_synced.new.disk c.args.bytes.now may c.requires.closed _ c.write_synced.ensures.writes.any_moment)
    c.in_ok-write_synced.ensures.writes.changes c.in_ok-write_synced.ensures.durable c.write_synced-2.ensures.writes.any_moment

pub returns-clause-any_moment : goal.returns-clause-any_moment
returns-clause-any_moment g c h before bs may =
    second_of_two g.D.Disk c.args.file c.args.disk.now c.args.place h before bs c.requires.durable c.write_synced.new.disk c.args.bytes.now may c.requires.closed c.write_synced-2.new.disk
    (take (length c.args.bytes.now - 1) (drop 1 c.args.bytes.now)) (rest_of c.args.bytes.now) c.in_ok-write_synced.ensures.written
    (first_of_two g.D.Disk c.args.file c.args.disk.now c.args.place h before bs c.requires.durable c.write_synced.new.disk c.args.bytes.now may c.requires.closed _ c.write_synced.ensures.writes.any_moment)
    c.in_ok-write_synced.ensures.writes.changes c.in_ok-write_synced.ensures.durable c.write_synced-2.ensures.writes.any_moment

pub returns-clause-written : goal.returns-clause-written
returns-clause-written g c told =
    twice_there c.args.place c.args.bytes.now (take (length c.args.bytes.now - 1) (drop 1 c.args.bytes.now)) (g.D.Disk.seen c.args.disk.now c.args.file) (g.D.Disk.seen c.write_synced.new.disk c.args.file) (g.D.Disk.seen c.write_synced-2.new.disk c.args.file)
    (c.requires.within told) c.requires.opens.1 (rest_of c.args.bytes.now) (c.in_ok-write_synced.ensures.written told) (c.in_ok-write_synced-2.ensures.written told)
