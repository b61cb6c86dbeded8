-- What is known within a life over the gate alone.
use Rattle.std.specs.Prelude.{◌≡◌, ℕ, false, List, ◌++◌, Some}
use Rattle.im_base_types.specs.declared.file_id.FileId.TheVariants.{Log}
use Rattle.im_base_disk.specs.declared.disk.Disk.{Ghosts}
use Rattle.im_base_disk.specs.Disk.{Files}
use Rattle.im_log_gate.specs.declared.gate.Gate.{Gate}
use Rattle.im_log_gate.specs.Gate.{IsReady, logged, file_of, first_of, has_failed}
use Rattle.im_log_gate.specs.Header.{first_gate, IsMade}
use Rattle.im_tool_lines.specs.Lives.{StandsFor, BatchesSurvive}

-- A stop now leaves what stands for batches that survive the life so far. As long as the gate works, all that was asked was acknowledged.
pub record IsLiving {D : Type 0} (d : Ghosts D) (before asked acked : List (List ℕ)) (gate : Gate) (disk : D) : Type 0 where
  pub ready : IsReady d gate disk
  pub file : file_of gate ≡ Log
  pub starts : has_failed gate ≡ false → d.tells → first_of gate ≡ first_gate (d.seen disk Log)
  pub leaves : d.tells → (c : Files) → d.may_leave disk c → (after : List (List ℕ)) × StandsFor c after × BatchesSurvive before asked acked after
  pub made : has_failed gate ≡ false → d.tells → IsMade (d.seen disk Log)
  pub holds : has_failed gate ≡ false → d.tells → logged d gate disk ≡ Some (before ++ asked)
  pub all : has_failed gate ≡ false → acked ≡ asked
