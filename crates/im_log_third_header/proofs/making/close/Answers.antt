use Rattle.std.proofs.Common.{Ok, ap}
use Rattle.im_base_disk.proofs.Runs.{only_reads}
use Rattle.im_log_header.proofs.Runs.{close_run, read_run}
use Rattle.im_log_third_header.proofs.making.close.Goals as goal

pub returns-in_err-closed-clause-any_moment : goal.returns-in_err-closed-clause-any_moment
returns-in_err-closed-clause-any_moment g c synced =
    read_run g.D.Disk c.args.file c.args.disk.now c.is_closed.new.disk c.is_closed.new.disk (g.met.D.Disk.only_now c.args.disk.now) synced c.is_closed.ensures.reads

pub returns-then-closed-clause-any_moment : goal.returns-then-closed-clause-any_moment
returns-then-closed-clause-any_moment g c synced =
    read_run g.D.Disk c.args.file c.args.disk.now c.is_closed.new.disk c.is_closed.new.disk (g.met.D.Disk.only_now c.args.disk.now) synced c.in_ok-closed.ensures.reads

pub returns-in_err-write_synced-clause-any_moment : goal.returns-in_err-write_synced-clause-any_moment
returns-in_err-write_synced-clause-any_moment g c synced =
    close_run g.D.Disk c.args.file c.args.disk.now c.is_closed.new.disk c.write_synced.new.disk (g.met.D.Disk.only_now c.args.disk.now) synced c.in_ok-closed.ensures.reads
    (c.in_ok-closed.ensures.other (ap Ok c.if-closed.false)) c.write_synced.ensures.writes.any_moment

pub returns-clause-any_moment : goal.returns-clause-any_moment
returns-clause-any_moment g c synced =
    close_run g.D.Disk c.args.file c.args.disk.now c.is_closed.new.disk c.write_synced.new.disk (g.met.D.Disk.only_now c.args.disk.now) synced c.in_ok-closed.ensures.reads
    (c.in_ok-closed.ensures.other (ap Ok c.if-closed.false)) c.write_synced.ensures.writes.any_moment

pub returns-then-closed-clause-durable : goal.returns-then-closed-clause-durable
returns-then-closed-clause-durable g c synced = only_reads g.D.Disk c.args.file c.args.disk.now c.is_closed.new.disk c.in_ok-closed.ensures.reads synced

pub returns-clause-durable : goal.returns-clause-durable
returns-clause-durable g c synced = c.in_ok-write_synced.ensures.durable
