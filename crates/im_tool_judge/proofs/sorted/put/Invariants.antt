use Rattle.std.proofs.Common.{◌≡◌}
use Rattle.im_tool_judge.proofs.Entries.{IsPassed}
use Rattle.im_tool_judge.proofs.sorted.put.Given as goal

-- the entries so far are below the key
abbrev pub invariant-loop-i : goal.invariant-loop-i
invariant-loop-i l = record { same : l.entries.items ≡ l.fn.entries.items; passed : IsPassed l.key l.rid l.entries.items l.i }
