use Rattle.std.proofs.Common.{length, rules, arith}
use Rattle.im_base_disk.specs.Disk.{Torn, Unforged}
use Rattle.im_base_disk.specs.Sums.{shows_in}
use Rattle.im_base_disk.proofs.Runs.{wrote, wrote_synced, torn_not, unforged_not}
use Rattle.im_base_disk.proofs.Costs.{costs_then, most_of}
use Rattle.im_base_disk.proofs.steps.write_synced.Goals as goal

pub returns-in_err-write_at-clause-writes : goal.returns-in_err-write_at-clause-writes
returns-in_err-write_at-clause-writes g c =
    wrote g.D.Disk c.args.file (Torn c.args.at (length c.args.bytes.now)) c.args.disk.now c.write_at.new.self (torn_not c.args.at (length c.args.bytes.now)) (g.met.D.Disk.only_now c.args.disk.now) c.write_at.ensures.crash c.write_at.ensures.time
    (search rules)

pub returns-in_err-sync-clause-writes : goal.returns-in_err-sync-clause-writes
returns-in_err-sync-clause-writes g c =
    wrote_synced g.D.Disk c.args.file (Torn c.args.at (length c.args.bytes.now)) c.args.disk.now c.write_at.new.self c.sync.new.self
    (wrote g.D.Disk c.args.file (Torn c.args.at (length c.args.bytes.now)) c.args.disk.now c.write_at.new.self (torn_not c.args.at (length c.args.bytes.now)) (g.met.D.Disk.only_now c.args.disk.now) c.write_at.ensures.crash c.write_at.ensures.time
    (search rules)) c.sync.ensures.crash c.sync.ensures.time (search rules)

pub returns-clause-writes : goal.returns-clause-writes
returns-clause-writes g c =
    wrote_synced g.D.Disk c.args.file (Torn c.args.at (length c.args.bytes.now)) c.args.disk.now c.write_at.new.self c.sync.new.self
    (wrote g.D.Disk c.args.file (Torn c.args.at (length c.args.bytes.now)) c.args.disk.now c.write_at.new.self (torn_not c.args.at (length c.args.bytes.now)) (g.met.D.Disk.only_now c.args.disk.now) c.write_at.ensures.crash c.write_at.ensures.time
    (search rules)) c.sync.ensures.crash c.sync.ensures.time (search rules)

pub returns-in_err-write_at-clause-unforged : goal.returns-in_err-write_at-clause-unforged
returns-in_err-write_at-clause-unforged g c sums =
    wrote g.D.Disk c.args.file (Unforged (shows_in c.args.file) c.args.at c.args.bytes.now) c.args.disk.now c.write_at.new.self (unforged_not (shows_in c.args.file) c.args.at c.args.bytes.now) (g.met.D.Disk.only_now c.args.disk.now) (c.write_at.ensures.unforged sums) c.write_at.ensures.time
    (search rules)

pub returns-in_err-sync-clause-unforged : goal.returns-in_err-sync-clause-unforged
returns-in_err-sync-clause-unforged g c sums =
    wrote_synced g.D.Disk c.args.file (Unforged (shows_in c.args.file) c.args.at c.args.bytes.now) c.args.disk.now c.write_at.new.self c.sync.new.self
    (wrote g.D.Disk c.args.file (Unforged (shows_in c.args.file) c.args.at c.args.bytes.now) c.args.disk.now c.write_at.new.self (unforged_not (shows_in c.args.file) c.args.at c.args.bytes.now) (g.met.D.Disk.only_now c.args.disk.now) (c.write_at.ensures.unforged sums) c.write_at.ensures.time
    (search rules)) c.sync.ensures.crash c.sync.ensures.time (search rules)

pub returns-clause-unforged : goal.returns-clause-unforged
returns-clause-unforged g c sums =
    wrote_synced g.D.Disk c.args.file (Unforged (shows_in c.args.file) c.args.at c.args.bytes.now) c.args.disk.now c.write_at.new.self c.sync.new.self
    (wrote g.D.Disk c.args.file (Unforged (shows_in c.args.file) c.args.at c.args.bytes.now) c.args.disk.now c.write_at.new.self (unforged_not (shows_in c.args.file) c.args.at c.args.bytes.now) (g.met.D.Disk.only_now c.args.disk.now) (c.write_at.ensures.unforged sums) c.write_at.ensures.time
    (search rules)) c.sync.ensures.crash c.sync.ensures.time (search rules)

pub returns-clause-costs : goal.returns-clause-costs
returns-clause-costs g c =
    let both = costs_then g.D.Disk 1 0 0 1 c.args.disk.now c.write_at.new.self c.sync.new.self c.write_at.ensures.costs c.sync.ensures.costs in
    record { ok = both; most = most_of g.D.Disk 1 1 1 1 c.args.disk.now c.sync.new.self (omega arith) (omega arith) both }

pub returns-in_err-sync-clause-costs : goal.returns-in_err-sync-clause-costs
returns-in_err-sync-clause-costs g c = record {
  ok = search rules;
  most = most_of g.D.Disk 1 1 1 1 c.args.disk.now c.sync.new.self (omega arith) (omega arith) (costs_then g.D.Disk 1 0 0 1 c.args.disk.now c.write_at.new.self c.sync.new.self c.write_at.ensures.costs c.sync.ensures.costs);
}

pub returns-in_err-write_at-clause-costs : goal.returns-in_err-write_at-clause-costs
returns-in_err-write_at-clause-costs g c = record {
  ok = search rules;
  most = most_of g.D.Disk 1 0 1 1 c.args.disk.now c.write_at.new.self (omega arith) (omega arith) c.write_at.ensures.costs;
}
