-- Which transactions a log may have.
use Rattle.std.specs.Prelude.{ℕ, Option, Some, None}
use Rattle.im_log_header.specs.declared.header.LogStart.{LogStart}

-- The least number of a transaction that a log may have which starts so: 1 where none is made.
abbrev pub least_said : Option LogStart → ℕ
least_said None = 1
least_said (Some start) = start.header.next
