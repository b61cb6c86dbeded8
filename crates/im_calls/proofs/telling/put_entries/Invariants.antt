use Rattle.std.proofs.Common.{◌≤◌, length, take}
use Rattle.im_calls.specs.Calls.{BeginsWith, entries_bytes}
use Rattle.im_calls.proofs.telling.put_entries.Given as goal

abbrev pub invariant-loop-entry : goal.invariant-loop-entry
invariant-loop-entry l = (l.at ≤ length l.out) × BeginsWith l.out l.at (entries_bytes (take l.entry-index l.list))
