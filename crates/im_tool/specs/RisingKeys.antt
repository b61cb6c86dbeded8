-- What a load of rising keys leaves.
use Rattle.std.specs.Prelude.{◌≡◌, ◌⊎◌, ℕ, ◌+◌, List, length}
use Rattle.im_base_types.specs.Pages.{Entry}
use Rattle.im_base_disk.specs.declared.disk.Disk.{Ghosts}
use Rattle.im_base_disk.specs.Disk.{Files}
use Rattle.im_load.specs.declared.loader.Loader.{Loader}
use Rattle.im_load.specs.Files.{AreHalf, AreOfLoad}
use Rattle.im_load.specs.HasTaken.{IsLoading}
use Rattle.im_tool.specs.declared.rising.Taking.{Taking}
use Rattle.im_tool.specs.declared.rising.Taking.TheVariants.{More, Over}

-- the files that a load of so many entries makes
pub record AreLoadOf (n : ℕ) (files : Files) : Type 0 where
  pub entries : List Entry
  pub many : length entries ≡ n
  pub loaded : AreOfLoad entries files

-- no store, or that of a load of some entries
abbrev pub AreLoadOrNone : Files → Type 0
AreLoadOrNone files = AreHalf files ⊎ ((n : ℕ) × AreLoadOf n files)

-- A load that began on disk `from` has taken so many entries, and goes on.
pub record HasRisen {D : Type 0} (d : Ghosts D) (from : D) (l : Loader) (disk : D) (n : ℕ) : Type 0 where
  pub entries : List Entry
  pub many : length entries ≡ n
  pub loading : IsLoading d from l disk entries

-- how many entries were taken, where so many were before
abbrev pub after : Taking → ℕ → ℕ
after More n = n + 1
after (Over next) n = n
