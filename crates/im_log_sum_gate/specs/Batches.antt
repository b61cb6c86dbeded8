-- The batches of a log of the third format.
use Rattle.std.specs.Prelude.{◌≡◌, ℕ, ◌+◌, ◌<◌, ◌≤◌, ◌==◌, Bool, ◌&&◌, List, [], ◌∷◌, ◌++◌, length, take, slice_index, Option, Some, None}
use Rattle.im_base_disk.specs.Disk.{whole}
use Rattle.im_base_disk.specs.Sums.{shows, sum_fits}
use Rattle.im_log_one_sync.specs.Batches.{batches_from, IsClear, IsLast}
use Rattle.im_log_third_header.specs.declared.header.ThirdHeader.{ThirdHeader}
use Rattle.im_log_third_header.specs.Header.{HasHeader}

-- A batch counts by its sum, and by the gate 1 alone: a stop within the write of a gate may leave any byte there, and of all of them only that one shows what stands behind.
abbrev pub fits : List ℕ → ℕ → ℕ → List ℕ → Bool
fits salt lsn gate behind = (gate == 1) && sum_fits salt lsn gate behind

-- The bytes that these batches take, with their gates, lengths and sums.
abbrev pub size_of : List (List ℕ) → ℕ
size_of [] = 0
size_of (records ∷ rest) = 13 + length records + size_of rest

module _ (h : ThirdHeader) where
  -- The batches of a log with this header: the records of each. They are those in front of the first gate behind which none counts. Nothing is refused.
  abbrev pub batches : List ℕ → List (List ℕ)
  batches file = batches_from (fits h.salt) 47 h.start.base file

  -- the records of the batch that counts at a place
  abbrev pub shows_at : ℕ → List ℕ → Option (List ℕ)
  shows_at place file = shows (fits h.salt) h.start.base place file

  -- The gate at this place comes after these batches, whatever stands from it on.
  pub record Reaches (place : ℕ) (before : List (List ℕ)) (file : List ℕ) : Type 0 where
    pub header : HasHeader h file
    pub past : 47 ≤ place
    pub last : IsLast (fits h.salt) 47 h.start.base place file before

  -- And none counts behind it: the log ends there.
  pub record Ends (place : ℕ) (before : List (List ℕ)) (file : List ℕ) : Type 0 where
    pub reaches : Reaches place before file
    pub none : shows_at place file ≡ None

  -- From the place up to this one the file shows nothing, by whatever gate.
  abbrev pub IsClearTo : (end place : ℕ) → List ℕ → Type 0
  IsClearTo end place file = IsClear (sum_fits h.salt) h.start.base place end file

  -- From a place on a file shows these batches, one after another, and has a gate of 0 after the last, all of it in front of the end.
  abbrev pub Lays : (end place : ℕ) → List (List ℕ) → List ℕ → Type 0
  Lays end place [] file = (place < end) × (slice_index file place ≡ 0)
  Lays end place (b ∷ bs) file = (place < end) × (shows_at place file ≡ Some b) × Lays end (place + (13 + length b)) bs file

  -- These bytes, written from the gate on, are these batches after those.
  pub record MayPut (place : ℕ) (before bs : List (List ℕ)) (bytes file : List ℕ) : Type 0 where
    pub reaches : Reaches place before file
    pub some : 1 ≤ length bs
    pub opens : slice_index bytes 0 ≡ 1
    pub lays : Lays (place + length bytes) place bs (whole place bytes file)

  -- It has the header, the batches from before, and a front of these, each whole.
  pub record HasFront (before bs : List (List ℕ)) (file : List ℕ) : Type 0 where
    pub header : HasHeader h file
    pub count : ℕ
    pub is : batches file ≡ before ++ take count bs
