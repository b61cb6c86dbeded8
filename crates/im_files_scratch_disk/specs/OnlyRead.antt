-- What is done to a disk below.
use Rattle.std.specs.Prelude.{◌≡◌, Option, None, Some}
use Rattle.im_base_disk.specs.declared.disk.Disk.{Ghosts}
use Rattle.im_base_disk.specs.Runs.{Reads}

-- It is still there, and was only read.
abbrev pub IsOnlyRead : {D : Type 0} → Ghosts D → Option D → Option D → Type 0
IsOnlyRead d None new = new ≡ None
IsOnlyRead d (Some old) new = (now : _) × (new ≡ Some now) × Reads d old now
