-- Whether an Image finds room in the log's buffer.
use Rattle.std.specs.Prelude.{◌+◌, ◌≤◌, ◌⊎◌}
use Rattle.im_log.specs.declared.log_file.LogFile.{LogFile}
use Rattle.im_log.specs.LogFile.{HasNextRoom}

-- in the batch that is being filled, or in one after it
abbrev pub TakesImage : LogFile → Type 0
TakesImage log = (log.used + 4129 ≤ 16384) ⊎ HasNextRoom log
