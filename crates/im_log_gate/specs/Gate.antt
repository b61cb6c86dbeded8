-- What a gate knows of the log file that it stands in.
use Rattle.std.specs.Prelude.{◌≡◌, ◌≢◌, ℕ, Bool, false, List, [], length, take, drop, slice_index, Option, Some}
use Rattle.im_base_types.specs.declared.file_id.FileId.{FileId}
use Rattle.im_base_disk.specs.declared.disk.Disk.{Ghosts}
use Rattle.im_base_disk.specs.Disk.{Only}
use Rattle.im_log_gate.specs.declared.gate.Gate.{Gate}
use Rattle.im_log_gate.specs.Batches.{batches, batches_from, Reaches}
use Rattle.im_log_gate.specs.Header.{first_gate, base_of, least_number, generation_of, IsMade, IsBlank}

-- The file that the gate stands in.
abbrev pub file_of : Gate → FileId
file_of gate = gate.file

-- The place of that file's first gate.
abbrev pub first_of : Gate → ℕ
first_of gate = gate.first

-- The LSN of that file's first byte.
abbrev pub base_at : Gate → ℕ
base_at gate = gate.base

-- The least number that a transaction of that log may have.
abbrev pub least_at : Gate → ℕ
least_at gate = gate.least

-- Which log of its store it is.
abbrev pub generation_at : Gate → ℕ
generation_at gate = gate.generation

-- The place of the gate.
abbrev pub place_of : Gate → ℕ
place_of gate = gate.place

-- A call failed: every later one is refused.
abbrev pub has_failed : Gate → Bool
has_failed gate = gate.failed

-- Two gates of one file.
pub record InOneFile (some other : Gate) : Type 0 where
  pub file : file_of other ≡ file_of some
  pub first : first_of other ≡ first_of some
  pub base : base_at other ≡ base_at some
  pub least : least_at other ≡ least_at some
  pub generation : generation_at other ≡ generation_at some

-- The gate says where the log of these bytes starts.
pub record StartsAs (gate : Gate) (bytes : List ℕ) : Type 0 where
  pub first : first_of gate ≡ first_gate bytes
  pub base : base_at gate ≡ base_of bytes
  pub least : least_at gate ≡ least_number bytes
  pub generation : generation_at gate ≡ generation_of bytes

module _ {D : Type 0} (d : Ghosts D) where
  -- The batches of the gate's file as it reads; none where it is refused.
  abbrev pub logged : Gate → D → Option (List (List ℕ))
  logged gate disk = batches (first_of gate) (d.seen disk (file_of gate))

  -- Those from the gate on.
  abbrev pub unread : Gate → D → Option (List (List ℕ))
  unread gate disk = batches_from (place_of gate) (d.seen disk (file_of gate))

  -- These bytes are those of the file from the gate on.
  abbrev pub IsFromGate : Gate → D → List ℕ → Type 0
  IsFromGate gate disk bytes = has_failed gate ≡ false → d.tells → bytes ≡ take (length bytes) (drop (place_of gate) (d.seen disk (file_of gate)))

  -- The gate stands after whole batches, and all of its file is on the disk.
  pub record IsReading (gate : Gate) (disk : D) : Type 0 where
    pub working : has_failed gate ≡ false → d.failed disk ≡ false
    pub reaches : has_failed gate ≡ false → d.tells → Reaches (first_of gate) (d.seen disk (file_of gate)) (place_of gate)
    pub durable : has_failed gate ≡ false → Only (file_of gate) (d.seen disk) (d.may_leave disk)

  -- The same, and the gate is closed: it is the last.
  pub record IsReady (gate : Gate) (disk : D) : Type 0 where
    pub reading : IsReading gate disk
    pub closed : has_failed gate ≡ false → d.tells → slice_index (d.seen disk (file_of gate)) (place_of gate) ≢ 1

  -- It works, and stands at the first gate of this file, which is a made log; it says where that log starts.
  pub record IsFirstGate (log : FileId) (gate : Gate) (disk : D) : Type 0 where
    pub usable : has_failed gate ≡ false
    pub of_file : file_of gate ≡ log
    pub place : place_of gate ≡ first_of gate
    pub starts : d.tells → StartsAs gate (d.seen disk log)
    pub made : d.tells → IsMade (d.seen disk log)

  -- The same of a log that was just made: the gate is closed, and no batch stands before it.
  pub record IsNewGate (log : FileId) (gate : Gate) (disk : D) : Type 0 where
    pub first : IsFirstGate log gate disk
    pub ready : IsReady gate disk
    pub blank : d.tells → IsBlank (d.seen disk log)
    pub empty : d.tells → logged gate disk ≡ Some []
