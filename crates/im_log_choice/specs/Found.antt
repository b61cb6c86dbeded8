-- What is read of two logs in front of their first gates, and logs of the first format.
use Rattle.std.specs.Prelude.{◌≡◌, ◌⊎◌, ℕ, List, Option, Some, None}
use Rattle.im_base_types.specs.declared.file_id.FileId.TheVariants.{Log, Log2}
use Rattle.im_base_disk.specs.Disk.{Files}
use Rattle.im_log_header.specs.declared.header.LogStart.{LogStart}
use Rattle.im_log_header.specs.Header.{first_gate, IsMade, IsUnmade}
use Rattle.im_log_header.specs.Start.{IsHeader, SaysStart}
use Rattle.im_log_choice.specs.declared.logs.Logs.{Logs}

-- A made log starts there, or the file is not made.
abbrev pub IsFound : Option LogStart → List ℕ → Type 0
IsFound None file = IsUnmade file
IsFound (Some start) file = IsMade file × SaysStart start file × IsHeader start.header

-- of both
pub record AreFound (logs : Logs) (files : Files) : Type 0 where
  pub log : IsFound logs.log (files Log)
  pub other : IsFound logs.other (files Log2)

-- ---- the first format

-- its first gate stands where the first format has it
abbrev pub StartsFirst : Option LogStart → Type 0
StartsFirst None = ⊥
StartsFirst (Some start) = start.first_gate ≡ 31

abbrev pub SaysFirst : Logs → Type 0
SaysFirst logs = StartsFirst logs.log ⊎ StartsFirst logs.other

-- a made log whose first gate stands there
abbrev pub IsOfFirst : List ℕ → Type 0
IsOfFirst file = IsMade file × (first_gate file ≡ 31)

-- one of the two logs of a store is such a one
abbrev pub HasFirst : Files → Type 0
HasFirst files = IsOfFirst (files Log) ⊎ IsOfFirst (files Log2)
