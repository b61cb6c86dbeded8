use Rattle.std.proofs.Common.{◌≡◌, ◌≤◌, take}
use Rattle.im_engine_checkpoint.specs.Rows.{listed}
use Rattle.im_engine_checkpoint.proofs.rows.rows_of.Given as goal

abbrev pub invariant-loop-row : goal.invariant-loop-row
invariant-loop-row l = (take l.count l.rows ≡ listed (take l.row-index l.row-items)) × (l.count ≤ l.row-index)
