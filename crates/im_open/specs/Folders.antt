-- Files that a folder handed out.
use Rattle.std.specs.Prelude.{◌≡◌, ℕ, List, Result, Ok, None, false}
use Rattle.im_base_disk.specs.declared.disk.Disk.{Ghosts}
use Rattle.im_base_mirror_disk.specs.declared.mirrored.Mirrored.{Mirrored}
use Rattle.im_base_two_logs.specs.declared.renamed.Renamed.{Renamed}
use Rattle.im_files_disk.specs.declared.open_error.OpenError.{OpenError}

-- What is said of a call by a folder that tells nothing: the files of the system.
pub record Untold : Type 0 where

-- a call of a folder that answers files, by the folder's name
abbrev pub Asked : Type 0 → Type 1
Asked F = List ℕ → Result F OpenError → Type 0

-- These are the files that a call of this folder handed out, by their own names.
pub record IsNamed {F : Type 0} (asked : Asked F) (folder : List ℕ) (disk : Renamed F) : Type 0 where
  pub handed : asked folder (Ok disk.disk)
  pub own : disk.swapped ≡ false

-- The same of a store's disk, which makes no copy.
pub record IsOf {F : Type 0} {r : Ghosts (Renamed F)} (asked : Asked F) (folder : List ℕ) (disk : Mirrored (Renamed F) (Renamed F) r r) : Type 0 where
  pub named : IsNamed asked folder disk.disk
  pub alone : disk.copy ≡ None

-- Files of a copy got the names of a store in this folder.
abbrev pub HasNames : {F : Type 0} → (List ℕ → F → Result F OpenError → Type 0) → List ℕ → Renamed F → Type 0
HasNames {F} names folder to = (left : F) × names folder to.disk (Ok left)
