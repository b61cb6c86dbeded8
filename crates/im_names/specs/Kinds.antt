-- Which kind a key is, and whose key a part is of.
use Rattle.std.specs.Prelude.{ℕ, suc, zero, ◌+◌, ◌==◌, Bool, ◌&&◌, nat_le, nat_lt, cond, List, [], ◌∷◌, ◌++◌, length, drop, slice_index, Option, Some, None}
use Rattle.im_names.specs.declared.key_kind.KeyKind.{KeyKind}
use Rattle.im_names.specs.declared.key_kind.KeyKind.TheVariants.{Own, Row, Guard, Named, Other}

-- by its first byte and its length
abbrev pub kind_by : (first size : ℕ) → KeyKind
kind_by first size =
    cond (nat_lt 31 first) Own (cond (size == 255) Guard (cond (first == 0) (cond (nat_le 2 size && nat_le size 32) Row Other) (cond (nat_lt (first + 1) size && nat_lt size 255) Named Other)))

-- no byte is no key
abbrev pub kind_by_bytes : List ℕ → KeyKind
kind_by_bytes [] = Other
kind_by_bytes (first ∷ rest) = kind_by first (length rest + 1)

-- a byte more in front of a key that was read
abbrev pub with_byte : ℕ → Option (List ℕ × List ℕ) → Option (List ℕ × List ℕ)
with_byte b None = None
with_byte b (Some x) = Some (b ∷ x.0, x.1)

-- The key of a long value, and what follows it: a 0 with FF after it is a byte of the key, any other 0 its end.
abbrev pub long_key : List ℕ → Option (List ℕ × List ℕ)
long_key [] = None
long_key (zero ∷ []) = Some ([], [])
long_key (zero ∷ (b ∷ rest)) = cond (b == 255) (with_byte 0 (long_key rest)) (Some ([], b ∷ rest))
long_key (suc c ∷ rest) = with_byte (suc c) (long_key rest)

-- that of a part: after its name
abbrev pub key_of_part : List ℕ → Option (List ℕ × List ℕ)
key_of_part part = long_key (drop (slice_index part 0 + 1) part)
