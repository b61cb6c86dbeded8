-- How a call of a gate may end.
use Rattle.std.specs.Prelude.{◌≡◌, ℕ, ◌+◌, ◌^◌, ◌<◌, ◌≤◌, ◌↔◌, false, List, length, take, not, is_ok, Option, Result, Err, OnOk, MatchOption}
use Rattle.im_base_types.specs.declared.fault.Fault.{Fault}
use Rattle.im_base_types.specs.declared.fault.Fault.TheVariants.{Failed, LogFull}
use Rattle.im_base_types.specs.declared.file_id.FileId.{FileId}
use Rattle.im_base_disk.specs.declared.disk.Disk.{Ghosts}
use Rattle.im_base_disk.specs.Runs.{LeavesIn, ChangesOnly, Reads}
use Rattle.im_log_gate.specs.declared.gate.Gate.{Gate}
use Rattle.im_base_disk.specs.Ends.{Refusals}
use Rattle.im_log_gate.specs.Gate.{file_of, first_of, place_of, has_failed, InOneFile, IsReading, IsReady}

-- The gate moves by so many bytes, and is refused `LogFull` exactly where it would then stand above place 2^62.
pub record MovesBy (size : ℕ) (v w : Gate) (result : Result Unit Fault) : Type 0 where
  pub place : OnOk result (place_of w ≡ place_of v + size)
  pub full : result ≡ Err LogFull ↔ ((has_failed v ≡ false) × (2 ^ 62 < place_of v + size))

-- It moves past the batch that was read, and stays where there is none.
abbrev pub PassesBatch : Gate → Option ℕ → Gate → Type 0
PassesBatch v next w = MatchOption next (place_of w ≡ place_of v) (λ size. (1 ≤ size) × (size ≤ 16384) × (place_of w ≡ place_of v + (size + 5)))

-- The same in bytes that were read from the gate on, which go on after that batch; where they do not have all of it, nothing changes.
abbrev pub PassesIn : List ℕ → Gate → Option ℕ → Gate → Type 0
PassesIn ahead v next w = MatchOption next (w ≡ v) (λ size. (1 ≤ size) × (size ≤ 16384) × (size + 5 < length ahead) × (place_of w ≡ place_of v + (size + 5)))

module _ {D : Type 0} (d : Ghosts D) where
  -- A run changes this file alone, and nothing of it before this place.
  pub record ChangesFrom (file : FileId) (place : ℕ) (old new : D) : Type 0 where
    pub only : ChangesOnly d file old new
    pub front : (n : ℕ) → (d.tells → n ≤ place) → LeavesIn d file old new (λ c. take n c ≡ take n (d.seen old file))

  -- The outcome of a put: the gate is ready for the next one, and what stands before the first gate of its file stays. Where it had failed, nothing is done.
  pub record PutOutcome (v : Gate) (old : D) (w : Gate) (new : D) (result : Result Unit Fault) : Type 0 where
    pub ready : IsReady d w new
    pub same : InOneFile v w
    pub changes : ChangesOnly d (file_of v) old new
    pub front : has_failed v ≡ false → LeavesIn d (file_of v) old new (λ c. take (first_of v) c ≡ take (first_of v) (d.seen old (file_of v)))
    pub untouched : result ≡ Err Failed → new ≡ old
    pub failed : has_failed w ≡ not (is_ok result)
    pub refusals : Refusals (λ e. e ≡ LogFull) (has_failed v) (d.failed new) result

  -- The outcome of a call that reads on after the gate.
  pub record BatchRead {A : Type 0} (own : Fault → Type 0) (v : Gate) (old : D) (w : Gate) (new : D) (result : Result A Fault) : Type 0 where
    pub reading : IsReading d w new
    pub same : InOneFile v w
    pub reads : Reads d old new
    pub usable : OnOk result (has_failed w ≡ false)
    pub refusals : Refusals own (has_failed v) (d.failed new) result
