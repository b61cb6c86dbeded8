-- The batches of a log of the third format, by whatever function says that a sum fits.
use Rattle.std.specs.Prelude.{◌≡◌, ℕ, zero, suc, ◌+◌, ◌<◌, ◌≤◌, Bool, if◌then◌else◌, List, [], ◌∷◌, ◌++◌, length, take, None, Some}
use Rattle.im_base_disk.specs.Sums.{batch_length, records, counts, shows}

module _ (fits : ℕ → ℕ → List ℕ → Bool) where
  -- The records of the batches from a gate on, whose LSN this is, after so many bytes that are passed over: those in front of the first that does not count. Nothing is refused.
  abbrev pub batches_from : ℕ → ℕ → List ℕ → List (List ℕ)
  batches_from skip lsn [] = []
  batches_from (suc skip) lsn (byte ∷ file) = batches_from skip (suc lsn) file
  batches_from zero lsn (gate ∷ behind) = if counts fits lsn gate behind then records behind ∷ batches_from (4 + batch_length behind) (suc lsn) behind else []

  -- A gate after whole batches, whatever stands from it on: a batch counts only where a gate comes after it. The log's first gate stands at `first`.
  pub record IsLast (first base place : ℕ) (file : List ℕ) (before : List (List ℕ)) : Type 0 where
    pub within : place < length file
    pub front : (rest : List ℕ) → 1 ≤ length rest → batches_from first base (take place file ++ rest) ≡ before ++ batches_from 0 (base + place) rest

  -- From the gate on up to this place the file shows nothing.
  abbrev pub IsClear : (base place end : ℕ) → List ℕ → Type 0
  IsClear base place end file = (p : ℕ) → place ≤ p → p < end → shows fits base p file ≡ None

  -- From a place on a file shows these batches, one after another, and none after the last, all of them in front of the end.
  abbrev pub LaysFrom : (base end place : ℕ) → List (List ℕ) → List ℕ → Type 0
  LaysFrom base end place [] file = (place < end) × (shows fits base place file ≡ None)
  LaysFrom base end place (b ∷ bs) file = (place < end) × (shows fits base place file ≡ Some b) × LaysFrom base end (place + (13 + length b)) bs file
