-- Words of a line, and numbers as words write them.
use Rattle.std.specs.Prelude.{◌≡◌, ◌≢◌, ℕ, ◌<◌, ◌^◌, List, [], ◌∷◌, length, slice_index}
use Rattle.std.specs.Str.Parse.{IsNumeral, digits_value}

-- None of these bytes is that byte.
abbrev pub LacksByte : ℕ → List ℕ → Type 0
LacksByte b [] = Unit {0}
LacksByte b (c ∷ rest) = (c ≢ b) × LacksByte b rest

-- decimal digits, without a zero in front of others, of a number of 64 bits
abbrev pub IsNumber : List ℕ → ℕ → Type 0
IsNumber word n = IsNumeral 10 word × (digits_value 10 word ≡ n) × (slice_index word 0 ≡ 48 → length word ≡ 1) × (n < 2 ^ 64)

-- a number of 32 bits
abbrev pub IsPageNumber : List ℕ → ℕ → Type 0
IsPageNumber word n = IsNumber word n × (n < 2 ^ 32)
