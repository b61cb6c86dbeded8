-- A long value as parts, each an entry: its key, and how many bytes the value has from its first one on.
use Rattle.std.specs.Prelude.{ℕ, suc, zero, ◌+◌, ◌-◌, ◌*◌, ◌/◌, Bool, ◌&&◌, nat_le, nat_lt, cond, List, [], ◌∷◌, length, take, drop, Option, Some, None}
use Rattle.im_names.specs.Layout.{part_of}

abbrev pub Entry : Type 0
Entry = List ℕ × ℕ

-- how many bytes of a value a part has room for, after a front of so many and the number
unfoldable pub room_of : (front : ℕ) → ℕ
room_of front = 251 - front

-- how many parts a value of so many bytes has; one where it has none
unfoldable pub count_of : (front size : ℕ) → ℕ
count_of front size = (size - 1) / room_of front + 1

-- whether they can be numbered
unfoldable pub can_be_parted : (front size : ℕ) → Bool
can_be_parted front size = nat_lt (size / room_of front) 16711680

-- how many there are, where they can be numbered
abbrev pub count_asked : (front size : ℕ) → Option ℕ
count_asked front size = cond (can_be_parted front size) (Some (count_of front size)) None

-- one of them
unfoldable pub long_part : (front : List ℕ) (value : List ℕ) (number : ℕ) → Entry
long_part front value number = (part_of front number (take (room_of (length front)) (drop (number * room_of (length front)) value)), length value - number * room_of (length front))

-- so many, from a number on
abbrev pub parts_from : (front value : List ℕ) (count number : ℕ) → List Entry
parts_from front value zero number = []
parts_from front value (suc count) number = long_part front value number ∷ parts_from front value count (number + 1)

-- all of them
unfoldable pub parts_of : (front value : List ℕ) → List Entry
parts_of front value = parts_from front value (count_of (length front) (length value)) 0

-- whether there is one of this number
abbrev pub has_part : (front size number : ℕ) → Bool
has_part front size number = can_be_parted front size && nat_lt number (count_of front size)

-- it, where it is there
abbrev pub part_asked : (front value : List ℕ) (number : ℕ) → Option Entry
part_asked front value number = cond (has_part (length front) (length value) number) (Some (long_part front value number)) None
