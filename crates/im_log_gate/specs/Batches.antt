-- What the bytes of a log file stand for. A gate is a byte; after it stand four bytes of length, the records of its batch
-- and the next gate.
use Rattle.std.specs.Prelude.{All, ◌≤◌, ◌≡◌, ◌≢◌, ◌⊎◌, ℕ, zero, suc, ◌+◌, ◌<◌, ◌==◌, nat_le, nat_lt, Bool, ◌&&◌, if◌then◌else◌, List, [], ◌∷◌, ◌++◌, length, take, drop, slice_index, Option, Some, None}
use Rattle.std.specs.Int.{w32, from_be_bytes, to_be_bytes}

-- The length that the four bytes after a gate give. Here and below, `behind` is all that stands after the gate.
unfoldable pub batch_length : List ℕ → ℕ
batch_length behind = from_be_bytes w32 (take 4 behind)

-- The records of the batch after a gate.
abbrev pub batch : List ℕ → List ℕ
batch behind = take (batch_length behind) (drop 4 behind)

-- The length is in range, and the records and the next gate lie within the file.
abbrev pub is_whole : List ℕ → Bool
is_whole behind = nat_le 1 (batch_length behind) && nat_le (batch_length behind) 16384 && nat_lt (4 + batch_length behind) (length behind)

-- These bytes begin with an open gate, all of its batch and the next gate.
pub record BeginsWhole (bytes : List ℕ) : Type 0 where
  pub gate : slice_index bytes 0 ≡ 1
  pub some : 1 ≤ batch_length (drop 1 bytes)
  pub most : batch_length (drop 1 bytes) ≤ 16384
  pub room : batch_length (drop 1 bytes) + 5 < length bytes

-- These before the others; none where the others are refused.
abbrev pub in_front : List (List ℕ) → Option (List (List ℕ)) → Option (List (List ℕ))
in_front first None = None
in_front first (Some rest) = Some (first ++ rest)

-- The batches from the gate at this place on: those in front of the first closed gate. A byte of 1 is an open gate, and any other a
-- closed one. An open gate whose batch is not whole is refused, and so is a gate past the end of the file.
abbrev pub batches_from : ℕ → List ℕ → Option (List (List ℕ))
batches_from place [] = None
batches_from (suc place) (byte ∷ file) = batches_from place file
batches_from zero (gate ∷ behind) =
    if gate == 1 then (if is_whole behind then in_front (batch behind ∷ []) (batches_from (4 + batch_length behind) behind) else None) else Some []

-- The batches of a log file whose first gate stands at this place; none where it is refused.
abbrev pub batches : ℕ → List ℕ → Option (List (List ℕ))
batches first file = batches_from first file

-- The same batches with one more at the end.
abbrev pub with_batch : List ℕ → Option (List (List ℕ)) → Option (List (List ℕ))
with_batch last None = None
with_batch last (Some before) = Some (before ++ last ∷ [])

-- A file has the batches from before, with this one more or without it.
abbrev pub IsBeforeOrWith : ℕ → List ℕ → Option (List (List ℕ)) → List ℕ → Type 0
IsBeforeOrWith first last before file = (batches first file ≡ before) ⊎ (batches first file ≡ with_batch last before)

-- What is written after a gate: the length, the records and the next gate, closed.
abbrev pub spelled : List ℕ → List ℕ
spelled records = to_be_bytes w32 (length records) ++ records ++ 0 ∷ []

-- The bytes that these batches take, with their gates and lengths.
abbrev pub size_of : List (List ℕ) → ℕ
size_of [] = 0
size_of (records ∷ rest) = 5 + length records + size_of rest

-- The batches of a file that is not refused.
abbrev pub listed : Option (List (List ℕ)) → List (List ℕ)
listed None = []
listed (Some bs) = bs

-- The batches in front of this place, as a closed gate there shows them.
abbrev pub in_front_of : ℕ → ℕ → List ℕ → List (List ℕ)
in_front_of first place file = listed (batches first (take place file ++ 0 ∷ []))

-- The gate at this place comes after whole batches, whatever stands from there on. A fact with no data of its own, so that
-- a type may keep it.
pub record Reaches (first : ℕ) (file : List ℕ) (place : ℕ) : Type 0 where
  pub within : place < length file
  pub placed : place ≡ first + size_of (in_front_of first place file)
  pub front : (rest : List ℕ) → batches first (take place file ++ rest) ≡ in_front (in_front_of first place file) (batches_from 0 rest)

-- ---- several batches after one gate

-- As many records as one batch may have.
pub record Fits (records : List ℕ) : Type 0 where
  pub some : 1 ≤ length records
  pub most : length records ≤ 16384

-- Batches as they stand in a file, each after an open gate.
abbrev pub gated : List (List ℕ) → List ℕ
gated [] = []
gated (records ∷ rest) = 1 ∷ to_be_bytes w32 (length records) ++ records ++ gated rest

-- What is written after a closed gate so that these stand after it once it is open: all but the first gate, and the closed gate
-- after the last. Of one batch it is what `spelled` says.
abbrev pub laid : List (List ℕ) → List ℕ
laid bs = drop 1 (gated bs) ++ 0 ∷ []

-- These bytes are the batches laid out, with an open gate after the last; no bytes are no batches.
pub record IsFilled (bs : List (List ℕ)) (bytes : List ℕ) : Type 0 where
  pub fit : All Fits bs
  pub is : 1 ∷ bytes ≡ gated bs ++ 1 ∷ []

-- These bytes are the batches, laid out.
pub record IsLaid (bs : List (List ℕ)) (bytes : List ℕ) : Type 0 where
  pub some : 1 ≤ length bs
  pub fit : All Fits bs
  pub is : bytes ≡ laid bs

-- They begin with them.
pub record Lays (bs : List (List ℕ)) (bytes : List ℕ) : Type 0 where
  pub some : 1 ≤ length bs
  pub fit : All Fits bs
  pub rest : List ℕ
  pub is : bytes ≡ laid bs ++ rest

-- The same batches with these at the end.
abbrev pub with_batches : List (List ℕ) → Option (List (List ℕ)) → Option (List (List ℕ))
with_batches more None = None
with_batches more (Some before) = Some (before ++ more)

-- A file has the batches from before, with all of these or without any.
abbrev pub IsBeforeOrWithAll : ℕ → List (List ℕ) → Option (List (List ℕ)) → List ℕ → Type 0
IsBeforeOrWithAll first more before file = (batches first file ≡ before) ⊎ (batches first file ≡ with_batches more before)

-- These batches came to stand after the gate at this place, and a closed gate after them.
pub record HasPut (first : ℕ) (bs : List (List ℕ)) (place : ℕ) (was file : List ℕ) : Type 0 where
  pub added : batches first file ≡ with_batches bs (batches first was)
  pub reaches : Reaches first file (place + size_of bs)
  pub closed : slice_index file (place + size_of bs) ≢ 1
