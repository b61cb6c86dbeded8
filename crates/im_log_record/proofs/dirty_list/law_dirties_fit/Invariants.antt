use Rattle.std.proofs.Common.{take}
use Rattle.std.specs.List.{AllByRecursion}
use Rattle.im_log_record.specs.Spelling.{IsDirty}
use Rattle.im_log_record.proofs.dirty_list.law_dirties_fit.Given as goal

abbrev pub invariant-loop-row : goal.invariant-loop-row
invariant-loop-row l = AllByRecursion IsDirty (take l.row-index l.rows)
