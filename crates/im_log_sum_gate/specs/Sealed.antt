-- Batches as they are written, so that their sums fit.
use Rattle.std.specs.Prelude.{◌≡◌, ℕ, ◌+◌, ◌-◌, ◌^◌, ◌<◌, ◌≤◌, ◌==◌, nat_le, nat_lt, Bool, true, ◌&&◌, List, [], ◌∷◌, ◌++◌, length, take, drop}
use Rattle.std.specs.Int.{w32, w64, from_be_bytes, to_be_bytes}
use Rattle.std.specs.Hash.DefaultHasher as sip
use Rattle.im_base_disk.specs.Disk.{whole}
use Rattle.im_base_disk.specs.Sums.{batch_length, is_whole, sum_of}
use Rattle.im_log_third_header.specs.declared.header.ThirdHeader.{ThirdHeader}
use Rattle.im_log_sum_gate.specs.Batches.{Lays}

-- The length and the records of a batch: the length counts the sum, too.
abbrev pub worded : List ℕ → List ℕ
worded records = to_be_bytes w32 (length records + 8) ++ records

-- SipHash-1-3, with keys 0 and 0, of salt, LSN, the gate, and what comes after the gate.
abbrev pub digest_of : (salt : List ℕ) (lsn : ℕ) → List ℕ → ℕ
digest_of salt lsn batch = sip.finish (sip.write (sip.write (sip.write sip.initial salt) (to_be_bytes w64 lsn)) batch)

-- The number in the last eight bytes of a batch is the digest of what stands in front of them.
abbrev pub sum_is : (salt : List ℕ) (lsn : ℕ) → List ℕ → Bool
sum_is salt lsn batch = from_be_bytes w64 (take 8 (drop (length batch - 8) batch)) == digest_of salt lsn (take (length batch - 8) batch)

-- A length that a batch may have, where so much stands from the gate on that the batch and the next gate lie within.
abbrev pub is_within : (size rest : ℕ) → Bool
is_within size rest = (nat_le 9 size && nat_le size 16384) && nat_lt (size + 5) rest

-- Behind a gate stands this length, and a batch of it.
pub record HasLength (size : ℕ) (behind : List ℕ) : Type 0 where
  pub length : size ≡ batch_length behind
  pub whole : is_whole behind ≡ true

module _ (salt : List ℕ) where
  -- A batch whose gate has this LSN: the gate, the length, the records and the sum.
  abbrev pub sealed : (lsn : ℕ) → List ℕ → List ℕ
  sealed lsn records = 1 ∷ worded records ++ to_be_bytes w64 (sum_of salt lsn 1 (worded records))

  -- Batches one after another, and a closed gate after the last.
  abbrev pub sealed_all : (lsn : ℕ) → List (List ℕ) → List ℕ
  sealed_all lsn [] = 0 ∷ []
  sealed_all lsn (r ∷ rest) = sealed lsn r ++ sealed_all (lsn + (13 + length r)) rest

  -- As many records as a batch may have, and a sum of eight bytes.
  pub record MaySeal (lsn : ℕ) (records : List ℕ) : Type 0 where
    pub some : 1 ≤ length records
    pub most : length records ≤ 16376
    pub small : sum_of salt lsn 1 (worded records) < 2 ^ 64

  -- So each of them has.
  abbrev pub MayAll : (lsn : ℕ) → List (List ℕ) → Type 0
  MayAll lsn [] = Unit {0}
  MayAll lsn (r ∷ rest) = MaySeal lsn r × MayAll (lsn + (13 + length r)) rest

-- Batches that are sealed by the salt of a log, and by the place of each, are laid by a write of their bytes, and of any behind, over whatever stands there.
abbrev pub SealedAreLaid : Type 0
SealedAreLaid = (h : ThirdHeader) (place : ℕ) (bs : List (List ℕ)) (more old : List ℕ) → place ≤ length old → MayAll h.salt (h.start.base + place) bs
    → Lays h (place + length (sealed_all h.salt (h.start.base + place) bs ++ more)) place bs (whole place (sealed_all h.salt (h.start.base + place) bs ++ more) old)
