-- Where the calls of a store's files go.
use Rattle.std.specs.Prelude.{◌≡◌, ℕ, Bool, true, false, Some}
use Rattle.im_files_scratch_disk.specs.declared.scratch_disk.ScratchDisk.{ScratchDisk}
use Rattle.im_files_scratch_disk.specs.OnlyRead.{IsOnlyRead}
use Rattle.im_files_caller_disk.specs.Questions.{asked_of}
use Rattle.im_files_caller_disk.specs.declared.caller_disk.CallerDisk.{CallerDisk}
use Rattle.im_files_caller_disk.specs.contracts.caller_disk.CallerDiskDisk.TheImpl as caller
use Rattle.im_files_caller_disk.specs.declared.caller_files.Way.{Way}
use Rattle.im_files_caller_disk.specs.declared.caller_files.Way.TheVariants.{Through, Kept}

-- what is written over a caller's disk, which is only read
abbrev pub Scratch : Type 0
Scratch = ScratchDisk CallerDisk caller.ghosts

-- The way of files over a caller's disk: all goes through to it, or, where they are only read, what is written stays over it.
abbrev pub IsWay : (is_read : Bool) → CallerDisk → Way → Type 0
IsWay false disk way = way ≡ Through disk
IsWay true disk way = (kept : Scratch) × (way ≡ Kept kept) × (kept.files.base.disk ≡ Some disk)

-- whether the last call failed
abbrev pub has_failed : Way → Bool
has_failed (Through disk) = disk.has_failed
has_failed (Kept disk) = disk.has_failed

-- how often they were called to write, and to sync
abbrev pub writes_of : Way → ℕ
writes_of (Through disk) = asked_of 3 disk.line.asked
writes_of (Kept disk) = disk.writes.count

abbrev pub syncs_of : Way → ℕ
syncs_of (Through disk) = asked_of 4 disk.line.asked
syncs_of (Kept disk) = disk.syncs.count

-- What a call does to what is kept: the caller's disk is only read; where the call only reads, what was written stays; and a sync leaves all.
abbrev pub IsOver : (old new : Scratch) → Type 0
IsOver old new = IsOnlyRead caller.ghosts old.files.base.disk new.files.base.disk

abbrev pub IsReadOver : (old new : Scratch) → Type 0
IsReadOver old new = IsOver old new × (new.files.over ≡ old.files.over)

abbrev pub IsSameOver : (old new : Scratch) → Type 0
IsSameOver old new = new.files ≡ old.files

-- A call goes the way that there is: it asks the caller, or does to what is kept over the caller's disk what a call there may do.
abbrev pub Goes : (CallerDisk → CallerDisk → Type 0) → (Scratch → Scratch → Type 0) → (old new : Way) → Type 0
Goes Asks Keeps (Through old) new = (disk : CallerDisk) × (new ≡ Through disk) × Asks old disk
Goes Asks Keeps (Kept old) new = (kept : Scratch) × (new ≡ Kept kept) × Keeps old kept
