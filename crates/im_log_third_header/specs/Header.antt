-- The header of a log whose batches have sums, and what a file is that has it.
use Rattle.std.specs.Prelude.{◌≡◌, ◌⊎◌, ℕ, ◌+◌, ◌^◌, ◌%◌, ◌<◌, ◌≤◌, ◌==◌, Bool, true, false, List, [], ◌∷◌, ◌++◌, length, take, drop, slice_index, codes}
use Rattle.std.specs.Int.{w32, w64, from_be_bytes, to_be_bytes}
use Rattle.std.specs.Hash.DefaultHasher as sip
use Rattle.im_log_header.specs.declared.header.Header.{Header}
use Rattle.im_log_header.specs.Header.{IsUnmade}
use Rattle.im_log_third_header.specs.declared.header.ThirdHeader.{ThirdHeader}

abbrev pub bit : Bool → ℕ
bit true = 1
bit false = 0

-- Bytes 1 to 39: the name, the page size, whether a force makes two syncs, zeros, and three numbers.
abbrev pub numbers : ThirdHeader → List ℕ
numbers h =
    codes "ARIESIM3" ++ (0 ∷ 0 ∷ 16 ∷ 0 ∷ []) ++ (bit h.two_syncs ∷ 0 ∷ 0 ∷ []) ++ to_be_bytes w64 h.start.generation ++ to_be_bytes w64 h.start.base ++ to_be_bytes w64 h.start.next

-- Bytes 1 to 42: these, and the salt.
abbrev pub front : ThirdHeader → List ℕ
front h = numbers h ++ h.salt

-- Their sum: the low 32 bits of SipHash-1-3 with keys 0 and 0.
unfoldable pub header_sum : List ℕ → ℕ
header_sum bytes = sip.finish (sip.write sip.initial bytes) % 2 ^ 32

-- Bytes 1 to 46: these 42, and their sum.
abbrev pub third_header : ThirdHeader → List ℕ
third_header h = front h ++ to_be_bytes w32 (header_sum (front h))

-- Numbers that a log may have: its first gate has an LSN of 2^62 at most.
pub record IsRanged (start : Header) : Type 0 where
  pub some : 1 ≤ start.generation
  pub last : start.generation < 2 ^ 62
  pub low : start.base + 47 ≤ 2 ^ 62
  pub numbered : 1 ≤ start.next

-- A header that a log may have.
pub record MayStart (h : ThirdHeader) : Type 0 where
  pub ranged : IsRanged h.start
  pub number : h.start.next < 2 ^ 64
  pub salted : length h.salt ≡ 3

-- What stands in bytes 1 to 46 where a header has its numbers, its salt and its byte of two syncs.
abbrev pub said : List ℕ → ThirdHeader
said bytes = record {
  start = record { generation = from_be_bytes w64 (take 8 (drop 15 bytes)); base = from_be_bytes w64 (take 8 (drop 23 bytes)); next = from_be_bytes w64 (take 8 (drop 31 bytes)) };
  salt = slice_index bytes 39 ∷ slice_index bytes 40 ∷ slice_index bytes 41 ∷ [];
  two_syncs = slice_index bytes 12 == 1;
}

-- ---- a file

-- A log of the third format with this header: the made byte, the header, and a first gate.
pub record HasHeader (h : ThirdHeader) (file : List ℕ) : Type 0 where
  pub may : MayStart h
  pub within : 47 < length file
  pub made : slice_index file 0 ≡ 1
  pub header : take 46 (drop 1 file) ≡ third_header h

-- A file with this byte 0, this header, and a closed first gate.
abbrev pub made_with : (first : ℕ) → ThirdHeader → List ℕ → List ℕ
made_with first h junk = first ∷ third_header h ++ 0 ∷ junk

-- A log with this header and no batch.
abbrev pub IsEmptyThird : ThirdHeader → List ℕ → Type 0
IsEmptyThird h file = (junk : List ℕ) × (file ≡ made_with 1 h junk)

-- A file while such a log is made of it: as it was, not made, or that log.
abbrev pub IsBeingMade : ThirdHeader → List ℕ → List ℕ → Type 0
IsBeingMade h old file = (file ≡ old) ⊎ IsUnmade file ⊎ IsEmptyThird h file
