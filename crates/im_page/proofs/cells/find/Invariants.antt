use Rattle.std.proofs.Common.{◌-◌, ◌≤◌}
use Rattle.im_theory_page.specs.Form.{count_of}
use Rattle.im_theory_page.specs.Found.{Parts}
use Rattle.im_page.proofs.cells.find.Given as goal

-- the keys before `low` are below the key, and those from `high` on above it
abbrev pub invariant-loop-low : goal.invariant-loop-low
invariant-loop-low l = record {
  ordered : l.low ≤ l.high;
  within : l.high ≤ count_of l.bytes;
  parts : Parts l.bytes l.key l.low l.high;
}

abbrev pub decreases-loop-low : goal.decreases-loop-low
decreases-loop-low l = l.high - l.low
