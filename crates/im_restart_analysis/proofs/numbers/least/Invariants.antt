use Rattle.std.proofs.Common.{◌≡◌, drop}
use Rattle.im_theory_log.specs.RedoPoints.{least}
use Rattle.im_log_record.specs.Entry.{dirty_rows}
use Rattle.im_restart_analysis.proofs.numbers.least.Given as goal

abbrev pub invariant-loop-i : goal.invariant-loop-i
invariant-loop-i l = least l.lowest (drop l.i (dirty_rows l.dirty)) ≡ least l.fn.lsn (dirty_rows l.dirty)
