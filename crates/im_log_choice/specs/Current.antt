-- Which of the two logs is the current one.
use Rattle.std.specs.Prelude.{◌≡◌, ◌⊎◌, ◌<◌, Bool, false}
use Rattle.im_base_types.specs.declared.file_id.FileId.TheVariants.{Log, Log2}
use Rattle.im_base_disk.specs.Disk.{Files}
use Rattle.im_base_two_logs.specs.Renamed.{named}
use Rattle.im_log_header.specs.Header.{generation_of, IsUnmade, IsMade}

-- By these names the log is the file of the greater generation. Where none is made, it is the one that lies as log.
abbrev pub IsCurrent : Bool → Files → Type 0
IsCurrent swapped files = (generation_of (named swapped files Log2) < generation_of (named swapped files Log))
    ⊎ ((generation_of (files Log) ≡ 0) × (generation_of (files Log2) ≡ 0) × (swapped ≡ false))

-- Each of the two is a log of either format or none, and they are not of one generation.
pub record HasCurrent (files : Files) : Type 0 where
  pub log : IsUnmade (files Log) ⊎ IsMade (files Log)
  pub other : IsUnmade (files Log2) ⊎ IsMade (files Log2)
  pub apart : generation_of (files Log) ≡ generation_of (files Log2) → IsUnmade (files Log) × IsUnmade (files Log2)
