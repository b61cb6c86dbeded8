-- What a loader has taken, and how its calls are refused.
use Rattle.std.specs.Prelude.{◌≡◌, ◌⊎◌, ℕ, ◌≤◌, List, length}
use Rattle.im_base_types.specs.Keys.{Key}
use Rattle.im_base_types.specs.Pages.{Entry}
use Rattle.im_base_types.specs.declared.fault.Fault.{Fault}
use Rattle.im_base_types.specs.declared.fault.Fault.TheVariants.{Memory, Capacity, NotAStore}
use Rattle.im_base_types.specs.declared.file_id.FileId.TheVariants.{Pages}
use Rattle.im_base_disk.specs.declared.disk.Disk.{Ghosts}
use Rattle.im_base_disk.specs.Runs.{IsSynced}
use Rattle.im_load.specs.declared.loader.Loader.{Loader}
use Rattle.im_load.specs.Files.{HaveNoLog}
use Rattle.im_load.specs.Goings.{WritesPages}
use Rattle.im_load.specs.Loading.{HasTakenAll, Pending}

-- The load has taken these entries.
abbrev pub HasTaken : {D : Type 0} → Ghosts D → Loader → D → List Entry → Type 0
HasTaken d l disk es = HasTakenAll l.leaf l.above.items l.count d.tells (d.seen disk Pages) es

-- It has, but that the held page at place i lacks its last separator.
abbrev pub HasPending : {D : Type 0} → Ghosts D → Loader → D → List Entry → ℕ → Key → ℕ → Type 0
HasPending d l disk es i key child = Pending l.leaf l.above.items l.count d.tells (d.seen disk Pages) es i key child

-- A load that began on disk `from`, whose files had no log and were all on the disk, has taken these entries, and goes on.
pub record IsLoading {D : Type 0} (d : Ghosts D) (from : D) (l : Loader) (disk : D) (es : List Entry) : Type 0 where
  pub taken : HasTaken d l disk es
  pub synced : IsSynced d from
  pub bare : d.tells → HaveNoLog (d.seen from)
  pub run : WritesPages d from disk

-- No number is left for another page, or there are as many levels as pages may have.
abbrev pub IsOutOfPages : Loader → Type 0
IsOutOfPages l = (l.count ≡ 4294967295) ⊎ (255 ≤ length l.above.items)

-- How a call of a loader may be refused, `Device` aside. `NotAStore` is of loads that have not taken what they say: `none` is what a caller knows who is answered it.
abbrev pub LoaderRefuses : Loader → Type 0 → Fault → Type 0
LoaderRefuses l none e = (e ≡ Memory) ⊎ ((e ≡ Capacity) × IsOutOfPages l) ⊎ ((e ≡ NotAStore) × none)
