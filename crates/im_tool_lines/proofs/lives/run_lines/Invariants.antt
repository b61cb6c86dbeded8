use Rattle.std.proofs.Common.{◌≡◌, List, ℕ, [], length, take}
use Rattle.im_base_model_disk.specs.contracts.model_disk.ModelDiskDisk.TheImpl.{ghosts}
use Rattle.im_log_gate.specs.Gate.{IsReady}
use Rattle.im_tool_lines.specs.Lives.{asked_of, acked_of}
use Rattle.im_tool_lines.specs.Living.{IsLiving}
use Rattle.im_tool_lines.specs.Answered.{Replied}
use Rattle.im_tool_lines.specs.RawRuns.{AreRawLinesRun}
use Rattle.im_tool_lines.proofs.lives.run_lines.Given as goal

-- each line so far was answered
abbrev pub invariant-loop-line : goal.invariant-loop-line
invariant-loop-line l = record {
  run : AreRawLinesRun ghosts l.stop l.lines l.replies.items l.fn.gate l.gate l.fn.disk l.disk;
  ready : IsReady ghosts l.gate l.disk;
  replied : Replied (take l.line-index l.lines) l.replies.items;
  count : length l.replies.items ≡ l.line-index;
  living : (before : List (List ℕ)) → IsLiving ghosts before [] [] l.fn.gate l.fn.disk → IsLiving ghosts before (asked_of (take l.line-index l.lines)) (acked_of (take l.line-index l.lines) l.replies.items) l.gate l.disk;
}
