-- What puts of batches with sums leave.
use Rattle.std.specs.Prelude.{◌≡◌, ◌≢◌, ℕ, ◌+◌, List, [], ◌∷◌, ◌++◌, length, drop, slice_index, Some}
use Rattle.im_base_disk.specs.Disk.{Torn, Unforged, whole}
use Rattle.im_base_disk.specs.Sums.{shows_by_header}
use Rattle.im_log_third_header.specs.declared.header.ThirdHeader.{ThirdHeader}
use Rattle.im_log_third_header.specs.Header.{HasHeader}
use Rattle.im_log_sum_gate.specs.Batches.{batches, shows_at, size_of, Ends, HasFront, IsClearTo, MayPut, Reaches}

-- ---- a walk over the batches

pub record Walks : Type 0 where
  -- it begins at the first gate,
  pub first : (h : ThirdHeader) (file : List ℕ) → HasHeader h file → Reaches h 47 [] file
  -- goes from a batch that counts to the next gate,
  pub next : (h : ThirdHeader) (place : ℕ) (before : List (List ℕ)) (file batch : List ℕ) → Reaches h place before file → shows_at h place file ≡ Some batch → Reaches h (place + (13 + length batch)) (before ++ batch ∷ []) file
  -- and has all of them where the log ends.
  pub end : (h : ThirdHeader) (place : ℕ) (before : List (List ℕ)) (file : List ℕ) → Ends h place before file → batches h file ≡ before

-- ---- a put

-- By one write and one sync, over what is clear: where no stop forges a sum, a stop leaves a front of the batches, each whole.
abbrev pub OneSync : Type 0
OneSync = (h : ThirdHeader) (place : ℕ) (before bs : List (List ℕ)) (bytes old new : List ℕ) → MayPut h place before bs bytes old → IsClearTo h (place + length bytes) place old
    → Unforged shows_by_header place bytes old new → HasFront h before bs new

pub record TwoSyncs : Type 0 where
  -- Behind a gate that is not 1, whatever is written: the log has what it had.
  pub behind : (h : ThirdHeader) (place n : ℕ) (before : List (List ℕ)) (old new : List ℕ) → Reaches h place before old → slice_index old place ≢ 1 → Torn (place + 1) n old new
      → HasHeader h new × (batches h new ≡ before)
  -- Then the gate: a stop leaves none of the batches, or all.
  pub over : (h : ThirdHeader) (place : ℕ) (before bs : List (List ℕ)) (bytes old mid new : List ℕ) → MayPut h place before bs bytes old → mid ≡ whole (place + 1) (drop 1 bytes) old → Torn place 1 mid new → HasFront h before bs new

-- A gate of 1 behind which none counts, as a put leaves that was torn: its byte is written over, and whatever a stop leaves there, the log has what it had. No premise on stops.
abbrev pub Closing : Type 0
Closing = (h : ThirdHeader) (place : ℕ) (before : List (List ℕ)) (old new : List ℕ) → Ends h place before old → slice_index old place ≡ 1 → Torn place 1 old new
    → HasHeader h new × (batches h new ≡ before)

-- Once the write is whole all are there, and the log ends after them, at a gate of 0; where it was clear it stays so.
pub record HasPut (h : ThirdHeader) (place : ℕ) (before bs : List (List ℕ)) (bytes old new : List ℕ) : Type 0 where
  pub there : batches h new ≡ before ++ bs
  pub ends : Ends h (place + size_of bs) (before ++ bs) new
  pub closed : slice_index new (place + size_of bs) ≡ 0

abbrev pub AreThere : Type 0
AreThere = (h : ThirdHeader) (place : ℕ) (before bs : List (List ℕ)) (bytes old new : List ℕ) → MayPut h place before bs bytes old → new ≡ whole place bytes old → HasPut h place before bs bytes old new
