use Rattle.std.proofs.Common.{◌≡◌, List, length, take}
use Rattle.im_base_types.specs.Changes.{Effect}
use Rattle.im_base_types.specs.Lives.{nothing_shown}
use Rattle.im_tool_lines.specs.Answered.{RepliedBy}
use Rattle.im_tool_lines.specs.StoreShown.{shown_by_lines, IsStoreReply}
use Rattle.im_tool_drill.specs.StoreLives.{GoesOn}
use Rattle.im_tool_drill.specs.StoreRuns.{AreLinesRun}
use Rattle.im_tool_drill.proofs.NamedDisk.{named_ghosts}
use Rattle.im_tool_drill.proofs.store_lives.run_store_lines.Given as goal

-- each line so far was answered, and the life goes on
abbrev pub invariant-loop-line : goal.invariant-loop-line
invariant-loop-line l = record {
  replied : RepliedBy IsStoreReply (take l.line-index l.lines) l.replies.items;
  count : length l.replies.items ≡ l.line-index;
  run : AreLinesRun named_ghosts l.stop l.lines l.replies.items l.fn.engine l.engine;
  life : (before : List Effect) → GoesOn named_ghosts before nothing_shown l.fn.engine → GoesOn named_ghosts before (shown_by_lines nothing_shown (take l.line-index l.lines) l.replies.items) l.engine;
}
