use Rattle.std.proofs.Common.{rules, arith, length}
use Rattle.im_log_gate.proofs.Puts.{first_put, second_put, has_put}
use Rattle.im_log_gate.proofs.Fronts.{first_front, second_front}
use Rattle.im_base_disk.proofs.Costs.{costs_then, most_as, most_then}
use Rattle.im_base_disk.proofs.Runs.{changes_then}
use Rattle.im_log_gate.proofs.put.put_laid.Goals as goal

pub returns-in_err-write_synced-clause-any_moment : goal.returns-in_err-write_synced-clause-any_moment
returns-in_err-write_synced-clause-any_moment g c first bs lays reaches =
    first_put g.D.Disk c.args.file first c.args.disk.now c.write_synced.new.disk c.args.place bs c.args.bytes.now lays reaches c.requires.closed c.requires.durable c.write_synced.ensures.writes.any_moment

pub returns-in_err-write_synced-2-clause-any_moment : goal.returns-in_err-write_synced-2-clause-any_moment
returns-in_err-write_synced-2-clause-any_moment g c first bs lays reaches =
    second_put g.D.Disk c.args.file first c.args.disk.now c.write_synced.new.disk c.args.place bs c.args.bytes.now lays reaches c.requires.closed c.requires.durable c.write_synced-2.new.disk c.in_ok-write_synced.ensures.written c.in_ok-write_synced.ensures.writes.changes c.in_ok-write_synced.ensures.durable (first_put g.D.Disk c.args.file first c.args.disk.now c.write_synced.new.disk c.args.place bs c.args.bytes.now lays reaches c.requires.closed c.requires.durable c.write_synced.ensures.writes.any_moment) c.write_synced-2.ensures.writes.any_moment

pub returns-clause-any_moment : goal.returns-clause-any_moment
returns-clause-any_moment g c first bs lays reaches =
    second_put g.D.Disk c.args.file first c.args.disk.now c.write_synced.new.disk c.args.place bs c.args.bytes.now lays reaches c.requires.closed c.requires.durable c.write_synced-2.new.disk c.in_ok-write_synced.ensures.written c.in_ok-write_synced.ensures.writes.changes c.in_ok-write_synced.ensures.durable (first_put g.D.Disk c.args.file first c.args.disk.now c.write_synced.new.disk c.args.place bs c.args.bytes.now lays reaches c.requires.closed c.requires.durable c.write_synced.ensures.writes.any_moment) c.write_synced-2.ensures.writes.any_moment

pub returns-clause-put : goal.returns-clause-put
returns-clause-put g c first bs lays reaches =
    has_put g.D.Disk c.args.file first c.args.disk.now c.write_synced.new.disk c.args.place bs c.args.bytes.now lays reaches c.requires.closed c.requires.durable c.write_synced-2.new.disk c.in_ok-write_synced.ensures.written c.in_ok-write_synced-2.ensures.written

pub returns-in_err-write_synced-clause-changes : goal.returns-in_err-write_synced-clause-changes
returns-in_err-write_synced-clause-changes g c = record {
  only = c.write_synced.ensures.writes.changes;
  front = λ n le. first_front g.D.Disk c.args.file c.args.disk.now c.write_synced.new.disk c.args.place (length c.args.bytes.now) n le c.requires.durable c.write_synced.ensures.writes.any_moment;
}

pub returns-in_err-write_synced-2-clause-changes : goal.returns-in_err-write_synced-2-clause-changes
returns-in_err-write_synced-2-clause-changes g c = record {
  only = changes_then g.D.Disk c.args.file c.args.disk.now c.write_synced.new.disk c.write_synced-2.new.disk c.in_ok-write_synced.ensures.writes.changes c.write_synced-2.ensures.writes.changes;
  front = λ n le.
      second_front g.D.Disk c.args.file c.args.disk.now c.write_synced.new.disk c.args.place (length c.args.bytes.now) n le c.requires.durable c.write_synced-2.new.disk c.args.bytes.now (λ told. let w = c.requires.within told in omega arith) c.in_ok-write_synced.ensures.written c.in_ok-write_synced.ensures.writes.changes c.in_ok-write_synced.ensures.durable (first_front g.D.Disk c.args.file c.args.disk.now c.write_synced.new.disk c.args.place (length c.args.bytes.now) n le c.requires.durable c.write_synced.ensures.writes.any_moment) c.write_synced-2.ensures.writes.any_moment;
}

pub returns-clause-changes : goal.returns-clause-changes
returns-clause-changes g c = record {
  only = changes_then g.D.Disk c.args.file c.args.disk.now c.write_synced.new.disk c.write_synced-2.new.disk c.in_ok-write_synced.ensures.writes.changes c.write_synced-2.ensures.writes.changes;
  front = λ n le.
      second_front g.D.Disk c.args.file c.args.disk.now c.write_synced.new.disk c.args.place (length c.args.bytes.now) n le c.requires.durable c.write_synced-2.new.disk c.args.bytes.now (λ told. let w = c.requires.within told in omega arith) c.in_ok-write_synced.ensures.written c.in_ok-write_synced.ensures.writes.changes c.in_ok-write_synced.ensures.durable (first_front g.D.Disk c.args.file c.args.disk.now c.write_synced.new.disk c.args.place (length c.args.bytes.now) n le c.requires.durable c.write_synced.ensures.writes.any_moment) c.write_synced-2.ensures.writes.any_moment;
}

pub returns-clause-costs : goal.returns-clause-costs
returns-clause-costs g c = record {
  ok = costs_then g.D.Disk 1 1 1 1 c.args.disk.now c.write_synced.new.disk c.write_synced-2.new.disk c.in_ok-write_synced.ensures.costs.ok c.in_ok-write_synced-2.ensures.costs.ok;
  most = most_then g.D.Disk 1 1 1 1 c.args.disk.now c.write_synced.new.disk c.write_synced-2.new.disk c.write_synced.ensures.costs.most c.write_synced-2.ensures.costs.most;
}

pub returns-in_err-write_synced-2-clause-costs : goal.returns-in_err-write_synced-2-clause-costs
returns-in_err-write_synced-2-clause-costs g c = record {
  ok = search rules;
  most = most_then g.D.Disk 1 1 1 1 c.args.disk.now c.write_synced.new.disk c.write_synced-2.new.disk c.write_synced.ensures.costs.most c.write_synced-2.ensures.costs.most;
}

pub returns-in_err-write_synced-clause-costs : goal.returns-in_err-write_synced-clause-costs
returns-in_err-write_synced-clause-costs g c = record {
  ok = search rules;
  most = most_as g.D.Disk 1 1 2 2 c.args.disk.now c.write_synced.new.disk (omega arith) (omega arith) c.write_synced.ensures.costs.most;
}
