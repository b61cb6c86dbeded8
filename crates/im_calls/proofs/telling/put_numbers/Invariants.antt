use Rattle.std.proofs.Common.{◌≤◌, length, take}
use Rattle.im_calls.specs.Calls.{BeginsWith, numbers_bytes}
use Rattle.im_calls.proofs.telling.put_numbers.Given as goal

abbrev pub invariant-loop-number : goal.invariant-loop-number
invariant-loop-number l = (l.at ≤ length l.out) × BeginsWith l.out l.at (numbers_bytes (take l.number-index l.numbers))
