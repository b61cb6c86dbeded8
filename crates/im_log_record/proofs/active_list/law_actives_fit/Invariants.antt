use Rattle.std.proofs.Common.{take}
use Rattle.std.specs.List.{AllByRecursion}
use Rattle.im_log_record.specs.Spelling.{IsActive}
use Rattle.im_log_record.proofs.active_list.law_actives_fit.Given as goal

abbrev pub invariant-loop-row : goal.invariant-loop-row
invariant-loop-row l = AllByRecursion IsActive (take l.row-index l.rows)
