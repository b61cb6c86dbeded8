use Rattle.std.proofs.Common.{◌≡◌, [], take}
use Rattle.im_tool_judge.specs.Judged.{newest_before}
use Rattle.im_tool_every.specs.Swept.{put_before}
use Rattle.im_tool_every.proofs.start.effect_of.Given as goal

-- the changes put so many entries
abbrev pub invariant-loop-entry : goal.invariant-loop-entry
invariant-loop-entry l = newest_before l.changes.items [] ≡ put_before (take l.entry-index l.entries) []
