-- How long the files of the logs are.
use Rattle.std.specs.Prelude.{◌<◌, ◌⊎◌, length}
use Rattle.im_base_disk.specs.Disk.{Files}
use Rattle.im_base_types.specs.declared.file_id.FileId.TheVariants.{Log, Log2}

-- one of the two logs of a store has more bytes than a close leaves of it
abbrev pub HasLong : Files → Type 0
HasLong files = (65536 < length (files Log)) ⊎ (65536 < length (files Log2))
