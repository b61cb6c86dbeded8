-- What page writes cost in device calls.
use Rattle.std.specs.Prelude.{◌≡◌, ◌≤◌, ◌<◌, ◌+◌, ◌*◌, ℕ, Bool, true}
use Rattle.im_base_disk.specs.declared.disk.Disk.{Ghosts}
use Rattle.im_base_disk.specs.Runs.{Costs}

module _ {D : Type 0} (d : Ghosts D) where
  -- So many pages are written, one write each, and the file is synced at most once after them; not where there is room.
  pub record WriteCosts (pages : ℕ) (HasRoom : Type 0) (old new : D) : Type 0 where
    pub syncs : ℕ
    pub once : syncs ≤ 1
    pub none : HasRoom → syncs ≡ 0
    pub costs : Costs d pages syncs old new

  -- The log is forced at most once, and at most once more for each of so many pages; then they are written, one write each, and the file is synced at most once after them; not where there is room.
  pub record FlushCosts (pages : ℕ) (HasRoom : Type 0) (old new : D) : Type 0 where
    pub forces : ℕ
    pub few : forces ≤ pages + 1
    pub syncs : ℕ
    pub once : syncs ≤ 1
    pub none : HasRoom → syncs ≡ 0
    pub costs : Costs d (2 * forces + pages) (2 * forces + syncs) old new

  -- A page is flushed that was changed: it alone where a file of so many pages has it, and past its end each page up to it. Where the dirty table has room for its entry, and no page stands before it, the file is not synced.
  pub record PageCosts (number count : ℕ) (has_room : Bool) (old new : D) : Type 0 where
    pub pages : ℕ
    pub within : d.tells → number < count → pages ≡ 1
    pub past : d.tells → count ≤ number → pages + count ≡ number + 1
    pub costs : FlushCosts pages (d.tells × (number ≤ count) × (has_room ≡ true)) old new
