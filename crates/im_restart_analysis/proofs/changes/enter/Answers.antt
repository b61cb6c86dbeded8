use Rattle.std.proofs.Common.{arith}
use Rattle.im_restart_analysis.proofs.ChangedRecords.{changes_entered}
use Rattle.im_restart_analysis.proofs.changes.enter.Goals as goal

pub returns-in-Ok-clause-kept : goal.returns-in-Ok-clause-kept
returns-in-Ok-clause-kept c log is all =
    changes_entered log c.args.point c.args.count c.said_behind.result c.args.lsns.now c.insert.new.self c.args.change.now is (omega (arith, c.if-change-point.false)) c.in-Ok.ensures.updates c.said_behind.ensures.own c.said_behind.ensures.other all
