-- What a write and a sync do to one file of the model disk.
use Rattle.std.specs.Prelude.{◌≡◌, ◌⊎◌, ℕ, ◌+◌, ◌<◌, ◌≤◌, Bool, true, List, [], ◌∷◌, ◌++◌, length, vec_capacity}
use Rattle.im_base_model_disk.specs.declared.model_file.ModelFile.{ModelFile}
use Rattle.im_base_disk.specs.Disk.{Holds}

-- The bytes stand at their place, and their range counts as not synced.
pub record IsWritten (at : ℕ) (bytes : List ℕ) (old new : ModelFile) : Type 0 where
  pub holds : Holds at bytes old.bytes.items new.bytes.items
  pub noted : new.written.items ≡ old.written.items ++ (at, length bytes) ∷ []
  pub synced : new.synced ≡ old.synced

-- A write of n bytes for which there was no room, and memory for more was refused: the file is as it was.
pub record IsRefused (at n : ℕ) (old new : ModelFile) : Type 0 where
  pub no_room : (vec_capacity old.bytes < at + n) ⊎ (vec_capacity old.written ≤ length old.written.items)
  pub bytes : new.bytes.items ≡ old.bytes.items
  pub noted : new.written.items ≡ old.written.items
  pub synced : new.synced ≡ old.synced

-- A write that fails as it was told is made all the same. One that is refused memory fails too.
abbrev pub WriteEnds : Bool → Bool → ℕ → List ℕ → ModelFile → ModelFile → Type 0
WriteEnds told failed at bytes old new = (IsWritten at bytes old new × (failed ≡ told)) ⊎ (IsRefused at (length bytes) old new × (failed ≡ true))

-- The whole file is on the disk, and reads as before.
pub record IsSyncedFrom (old new : ModelFile) : Type 0 where
  pub bytes : new.bytes.items ≡ old.bytes.items
  pub synced : new.synced ≡ length old.bytes.items
  pub written : new.written.items ≡ []
