-- Entries that were told, as who asked reads them.
use Rattle.std.specs.Prelude.{ℕ, zero, suc, ◌≤◌, ◌<◌, ◌^◌, ⊤, List, [], ◌∷◌, length, take, drop}
use Rattle.std.specs.Int.{w64, from_le_bytes}
use Rattle.im_base_types.specs.Pages.{Entry}

-- the entries with which bytes begin, so many: for each the length of its key, the key, and its row id in eight bytes, the lowest first
abbrev pub read_entries : ℕ → List ℕ → List Entry
read_entries zero bytes = []
read_entries (suc n) [] = []
read_entries (suc n) (len ∷ rest) = (take len rest, from_le_bytes w64 (take 8 (drop len rest))) ∷ read_entries n (drop 8 (drop len rest))

-- what a store has for an entry: a key of 1 to 255 bytes, and a row id of 64 bits
pub record IsStoredEntry (e : Entry) : Type 0 where
  pub some : 1 ≤ length e.0
  pub short : length e.0 ≤ 255
  pub number : e.1 < 2 ^ 64

-- each of a list is one
abbrev pub AreEntries : List Entry → Type 0
AreEntries [] = ⊤
AreEntries (e ∷ es) = IsStoredEntry e × AreEntries es
