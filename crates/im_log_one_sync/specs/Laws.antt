-- What one write and one sync may do.
use Rattle.std.specs.Prelude.{◌≡◌, ◌≢◌, ◌⊎◌, ℕ, ◌+◌, ◌<◌, ◌≤◌, Bool, false, List, [], ◌∷◌, ◌++◌, length, take, slice_index, Some}
use Rattle.im_base_disk.specs.Disk.{Shows, Torn, Unforged, whole}
use Rattle.im_base_disk.specs.Sums.{is_open, shows, sum_fits}
use Rattle.im_log_one_sync.specs.Batches.{batches_from, IsLast, IsClear, LaysFrom}

-- Where no stop forges a sum: at whatever moment within the write and its sync a stop falls, the log has its batches, or these and the new one, whole.
abbrev pub OneOrNone : Type 0
OneOrNone = (fits : ℕ → ℕ → List ℕ → Bool) (first base place : ℕ) (batch bytes old new : List ℕ) (before : List (List ℕ))
    → IsLast fits first base place old before → IsClear fits base place (place + length bytes) old → LaysFrom fits base (place + length bytes) place (batch ∷ []) (whole place bytes old)
    → Unforged (shows fits base) place bytes old new
    → (batches_from fits first base new ≡ before) ⊎ (batches_from fits first base new ≡ before ++ batch ∷ [])

-- The same of several in one write: a front of them, each whole.
abbrev pub FrontOfAll : Type 0
FrontOfAll = (fits : ℕ → ℕ → List ℕ → Bool) (first base place : ℕ) (bs : List (List ℕ)) (bytes old new : List ℕ) (before : List (List ℕ))
    → IsLast fits first base place old before → IsClear fits base place (place + length bytes) old → LaysFrom fits base (place + length bytes) place bs (whole place bytes old)
    → Unforged (shows fits base) place bytes old new
    → (k : ℕ) × (batches_from fits first base new ≡ before ++ take k bs)

-- After it, all are there. No premise on stops is asked.
abbrev pub AreThere : Type 0
AreThere = (fits : ℕ → ℕ → List ℕ → Bool) (first base place : ℕ) (bs : List (List ℕ)) (bytes old : List ℕ) (before : List (List ℕ))
    → IsLast fits first base place old before → LaysFrom fits base (place + length bytes) place bs (whole place bytes old)
    → batches_from fits first base (whole place bytes old) ≡ before ++ bs

-- Where a file has zeros it shows nothing.
abbrev pub ZerosAreClear : Type 0
ZerosAreClear = (fits : ℕ → ℕ → List ℕ → Bool) (base place end : ℕ) (file : List ℕ) → ((i : ℕ) → place ≤ i → i < end → slice_index file i ≡ 0) → IsClear fits base place end file

-- Two writes and two syncs, over whatever stands there, want no premise: after the closed gate nothing counts, and over it all of the batches do, or none.
pub record TwoSyncs : Type 0 where
  pub behind : (fits : ℕ → ℕ → List ℕ → Bool) (first base place n : ℕ) (old new : List ℕ) (before : List (List ℕ))
      → IsLast fits first base place old before → is_open (slice_index old place) ≡ false → Torn (place + 1) n old new → batches_from fits first base new ≡ before
  pub over : (fits : ℕ → ℕ → List ℕ → Bool) (first base place end : ℕ) (bs : List (List ℕ)) (old staged new : List ℕ) (before : List (List ℕ))
      → 1 ≤ length bs → IsLast fits first base place old before → take place staged ≡ take place old → place < length staged → LaysFrom fits base end place bs (whole place (1 ∷ []) staged)
      → Torn place 1 staged new → (batches_from fits first base new ≡ before) ⊎ (batches_from fits first base new ≡ before ++ bs)

-- The premise can be kept: what was there and what was written are among the stops of each write.
abbrev pub CanBeKept : Type 0
CanBeKept = (reader : Shows) (at : ℕ) (bytes old : List ℕ) → at ≤ length old → Unforged reader at bytes old old × Unforged reader at bytes old (whole at bytes old)

-- Without it no reader can do it: a stop within a write of the one may leave all of the other, of the same length.
abbrev pub NoReader : Type 0
NoReader = (at : ℕ) (one other old : List ℕ) → at ≤ length old → length other ≡ length one → Torn at (length one) old (whole at other old)

-- A disk that leaves no garbage: each byte is as before, or as it was written.
pub record Mixed (at : ℕ) (bytes old new : List ℕ) : Type 0 where
  pub torn : Torn at (length bytes) old new
  pub each : (i : ℕ) → (slice_index new i ≡ slice_index old i) ⊎ (slice_index new i ≡ slice_index (whole at bytes old) i)

-- There no sum is wanted, but zeros are: bytes that are not 0, over zeros, are all there once none of them reads 0.
abbrev pub NoneIsZero : Type 0
NoneIsZero = (at : ℕ) (bytes old new : List ℕ) → Mixed at bytes old new
    → ((i : ℕ) → at ≤ i → i < at + length bytes → slice_index old i ≡ 0) → ((i : ℕ) → at ≤ i → i < at + length bytes → slice_index new i ≢ 0)
    → (i : ℕ) → at ≤ i → i < at + length bytes → slice_index new i ≡ slice_index (whole at bytes old) i

-- No batch stands in front of a log's first gate. After a batch that is shown comes the next gate, and a file that keeps what stands in front of a gate has the same batches there.
pub record GatesGoOn : Type 0 where
  pub first : (fits : ℕ → ℕ → List ℕ → Bool) (first base : ℕ) (file : List ℕ) → first < length file → IsLast fits first base first file []
  pub next : (salt : List ℕ) (first base place : ℕ) (file batch : List ℕ) (before : List (List ℕ)) → IsLast (sum_fits salt) first base place file before → shows (sum_fits salt) base place file ≡ Some batch
      → IsLast (sum_fits salt) first base (place + (13 + length batch)) file (before ++ batch ∷ [])
  pub kept : (fits : ℕ → ℕ → List ℕ → Bool) (first base place : ℕ) (file new : List ℕ) (before : List (List ℕ)) → IsLast fits first base place file before → take place new ≡ take place file → place < length new
      → IsLast fits first base place new before
