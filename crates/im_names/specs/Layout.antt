-- Where names and long values lie among the keys of a store, byte for byte.
use Rattle.std.specs.Prelude.{ℕ, suc, zero, ◌+◌, ◌-◌, ◌/◌, ◌%◌, ◌≤◌, List, [], ◌∷◌, ◌++◌, length, replicate}
use Rattle.std.specs.List.{flat_map}

-- what all keys of a name begin with; of no name, what those of the catalogue do
abbrev pub prefix_of : (name : List ℕ) → List ℕ
prefix_of name = length name ∷ name

-- a name in the catalogue
abbrev pub catalogue_key : (name : List ℕ) → List ℕ
catalogue_key name = prefix_of [] ++ name

-- an entry of an index
abbrev pub entry_of : (name key : List ℕ) → List ℕ
entry_of name key = prefix_of name ++ key

-- filled with FF to so many bytes: the greatest key of so many that begins so
unfoldable pub filled : ℕ → List ℕ → List ℕ
filled n bytes = bytes ++ replicate (n - length bytes) 255

-- what lies above all keys of a name; of no name, above the catalogue
abbrev pub guard_of : (name : List ℕ) → List ℕ
guard_of name = filled 255 (prefix_of name)

-- a byte FF after each 0
abbrev pub escape : ℕ → List ℕ
escape zero = 0 ∷ (255 ∷ [])
escape (suc b) = suc b ∷ []

abbrev pub escaped : List ℕ → List ℕ
escaped key = flat_map escape key

-- what all parts of a long value begin with
abbrev pub front_of : (name key : List ℕ) → List ℕ
front_of name key = prefix_of name ++ (escaped key ++ (0 ∷ []))

-- a part's number, in three bytes
unfoldable pub number_of : ℕ → List ℕ
number_of n = n / 65536 ∷ (n / 256 % 256 ∷ (n % 256 ∷ []))

-- a part of a long value, by what all of them begin with
abbrev pub part_of : (front : List ℕ) (number : ℕ) (bytes : List ℕ) → List ℕ
part_of front number bytes = front ++ (number_of number ++ bytes)

-- what can be a name
abbrev pub IsName : List ℕ → Type 0
IsName name = (1 ≤ length name) × (length name ≤ 31)

-- what can be the key of an entry, and of a long value, under a name
abbrev pub IsEntryKey : (name key : List ℕ) → Type 0
IsEntryKey name key = (1 ≤ length key) × (length name + length key ≤ 253)

abbrev pub IsLongKey : (name key : List ℕ) → Type 0
IsLongKey name key = (1 ≤ length key) × (length name + length (escaped key) ≤ 217)
