-- A copy that is a front of each file.
use Rattle.std.specs.Prelude.{◌≡◌, ◌≢◌, ◌<◌, ◌≤◌, ◌+◌, ℕ, List, true, length, min, take}
use Rattle.im_base_types.specs.declared.file_id.FileId.{FileId}
use Rattle.im_base_disk.specs.declared.disk.Disk.{Ghosts}
use Rattle.im_base_disk.specs.Disk.{Files, Holds}
use Rattle.im_base_mirror_disk.specs.declared.marks.Marks.{Marks}
use Rattle.im_base_mirror_disk.specs.Marks.{mark_of}

-- the copy of a file has so many bytes
abbrev pub HasLengths : Marks → Files → Type 0
HasLengths marks to = (file : FileId) → length (to file) ≡ mark_of marks file

-- the copy of each file is its front of so many bytes
abbrev pub IsFront : Marks → Files → Files → Type 0
IsFront marks from to = ((file : FileId) → mark_of marks file ≤ length (from file)) × ((file : FileId) → to file ≡ take (mark_of marks file) (from file))

-- bytes were written to one file, from a place on that was copied
pub record IsFollowed (file : FileId) (at : ℕ) (bytes : List ℕ) (old new : Files) : Type 0 where
  pub written : Holds at bytes (old file) (new file)
  pub others : (other : FileId) → other ≢ file → new other ≡ old other

-- all of each file is copied
abbrev pub IsWhole : Marks → Files → Type 0
IsWhole marks from = (file : FileId) → mark_of marks file ≡ length (from file)

-- bytes are left to be copied
abbrev pub IsLeft : Marks → Files → Type 0
IsLeft marks from = IsWhole marks from → ⊥

-- The next bytes of one file are copied, which had some left: as many of them as n. The others are copied as far as they were.
pub record IsFurther (n : ℕ) (from : Files) (old new : Marks) : Type 0 where
  pub file : FileId
  pub left : mark_of old file < length (from file)
  pub here : mark_of new file ≡ min (mark_of old file + n) (length (from file))
  pub others : (other : FileId) → other ≢ file → mark_of new other ≡ mark_of old other

-- A call of a copy's disk failed. (Who knows of a disk no more than that it is one has such a disk of no other way.)
abbrev pub HasFailed : {T : Type 0} → Ghosts T → Type 0
HasFailed {T} t = (to : T) × (t.failed to ≡ true)
