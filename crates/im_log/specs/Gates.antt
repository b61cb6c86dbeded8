-- The gate of a log.
use Rattle.std.specs.Prelude.{◌≡◌}
use Rattle.im_base_types.specs.declared.file_id.FileId.TheVariants.{Log}
use Rattle.im_log_gate.specs.declared.gate.Gate.{Gate}
use Rattle.im_log_gate.specs.Gate.{file_of}

-- A gate of the file of the log.
pub record IsOfLog (gate : Gate) : Type 0 where
  pub file : file_of gate ≡ Log
