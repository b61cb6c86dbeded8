use Rattle.std.proofs.Common.{take}
use Rattle.im_base_txn.specs.Rows.{waiting_numbers}
use Rattle.im_theory_machine.specs.Table.{AreReleased}
use Rattle.im_theory_machine.specs.View.{is_among}
use Rattle.im_engine.proofs.ends.release_waiting.Given as goal

abbrev pub invariant-loop-row : goal.invariant-loop-row
invariant-loop-row l = AreReleased l.initial.locks (λ t. is_among t (waiting_numbers (take l.row-index l.rows))) l.locks
