-- Where a page that has no room is split.
use Rattle.std.specs.Prelude.{ℕ, ◌+◌, ◌-◌, ◌<◌, ◌≤◌, Bool, List, length, take}
use Rattle.im_base_types.specs.Pages.{Entry}
use Rattle.im_theory_page.specs.Entry.{taken, size, width}

-- half of the bytes that a page has for cells and slots
abbrev pub half_page : ℕ
half_page = 2032

-- With such a bound each part has room for an entry of any size: one of those, with its slot, takes at most 266 bytes. Two of them are within the bound, and one fits beside it.
pub record IsSplitBound (bound : ℕ) : Type 0 where
  pub low : 532 ≤ bound
  pub high : bound ≤ 3798

-- the first n entries are the longest front that takes at most so many bytes, cells and slots, and leaves two entries where there are two
pub record IsSplitPoint (bound : ℕ) (leaf : Bool) (es : List Entry) (n : ℕ) : Type 0 where
  pub within : n ≤ length es - 2
  pub fits : taken leaf (take n es) ≤ bound
  pub longest : n + 2 < length es → bound < taken leaf (take (n + 1) es)

-- an entry fits beside these
abbrev pub HasRoom : Bool → List Entry → Entry → Type 0
HasRoom leaf es e = taken leaf es + (size leaf e + 2) ≤ 4064

-- an entry of any size fits beside these
abbrev pub HasRoomForAny : Bool → List Entry → Type 0
HasRoomForAny leaf es = (e : Entry) → length e.0 ≤ 255 → HasRoom leaf es e

-- an entry with the longest key does not fit beside these
abbrev pub LacksRoom : Bool → List Entry → Type 0
LacksRoom leaf es = 4064 < taken leaf es + (1 + 255 + width leaf + 2)
