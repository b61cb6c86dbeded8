use Rattle.std.proofs.Common.{◌≡◌, map, take}
use Rattle.im_theory_machine.specs.Locks.{At}
use Rattle.im_theory_machine.specs.Rows.{shared}
use Rattle.im_engine_locks.specs.Requests.{row}
use Rattle.im_engine_locks.proofs.scan_requests.read_entries.Given as goal

-- the entries so far are asked
abbrev pub invariant-loop-key : goal.invariant-loop-key
invariant-loop-key l = row l.requests.items ≡ map (λ e. shared (At e.0)) (take l.key-index l.entries)
