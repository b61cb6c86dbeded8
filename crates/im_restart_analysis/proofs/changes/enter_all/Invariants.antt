use Rattle.std.proofs.Common.{All}
use Rattle.im_theory_log.specs.Histories.{History}
use Rattle.im_restart_analysis.specs.Changes.{AreChangedAt, IsChange}
use Rattle.im_restart_analysis.proofs.changes.enter_all.Given as goal

abbrev pub invariant-loop-change : goal.invariant-loop-change
invariant-loop-change l = record {
  kept : (log : History) → All (IsChange log) l.changes → AreChangedAt log l.fn.point l.fn.count l.fn.lsns → AreChangedAt log l.fn.point l.said l.lsns;
}
