-- Where records of a log would end, from call to call; and why a call was refused.
use Rattle.std.specs.Prelude.{◌≡◌, ◌≤◌, ℕ}
use Rattle.im_log_gate.specs.Gate.{generation_at}
use Rattle.im_log.specs.declared.log_file.LogFile.{LogFile}
use Rattle.im_log.specs.LogFile.{end_with}
pub use Rattle.im_base_types.specs.Outcomes.{fault_of}

-- A record of whatever length ends no sooner in the one log than it would have in the other, and both are of one generation.
pub record EndsNoSooner (old new : LogFile) : Type 0 where
  pub each : (size : ℕ) → end_with old size ≤ end_with new size
  pub generation : generation_at new.gate ≡ generation_at old.gate
