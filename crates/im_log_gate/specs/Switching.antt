-- A log that goes on in the other file.
use Rattle.std.specs.Prelude.{◌≡◌, ℕ, ◌+◌, ◌^◌, ◌≤◌, false, true, [], Some}
use Rattle.im_base_types.specs.declared.file_id.FileId.TheVariants.{Log, Log2, Pages}
use Rattle.im_base_disk.specs.declared.disk.Disk.{Ghosts}
use Rattle.im_base_disk.specs.Runs.{IsSynced, ChangesOnly}
use Rattle.im_log_header.specs.declared.header.Header.{Header}
use Rattle.im_log_header.specs.Start.{IsHeader}
use Rattle.im_log_gate.specs.declared.gate.Gate.{Gate}
use Rattle.im_log_gate.specs.Header.{IsMade}
use Rattle.im_log_gate.specs.Gate.{first_of, base_at, least_at, generation_at, place_of, has_failed, InOneFile, StartsAs, logged}

-- The header of the log that goes on where the gate stands, with transactions from this number on.
pub record IsNextOf (gate : Gate) (next : ℕ) (header : Header) : Type 0 where
  pub ranged : IsHeader header
  pub generation : header.generation ≡ generation_at gate + 1
  pub base : header.base ≡ base_at gate + place_of gate
  pub number : header.next ≡ next
  pub low : header.base + 47 ≤ 2 ^ 62

-- The first gate of a log of the second format with this header.
pub record IsFirstGateOf (header : Header) (gate : Gate) : Type 0 where
  pub generation : generation_at gate ≡ header.generation
  pub base : base_at gate ≡ header.base
  pub least : least_at gate ≡ header.next
  pub first : first_of gate ≡ 47
  pub place : place_of gate ≡ 47
  pub usable : has_failed gate ≡ false

module _ {D : Type 0} (d : Ghosts D) where
  -- It goes on in the other file, which is a log with this header and no batch. The log from before is the other one, as it was.
  pub record HasSwitched (header : Header) (gate : Gate) (old new : D) : Type 0 where
    pub first : IsFirstGateOf header gate
    pub starts : d.tells → StartsAs gate (d.seen new Log)
    pub made : d.tells → IsMade (d.seen new Log)
    pub empty : d.tells → logged d gate new ≡ Some []
    pub before : d.seen new Log2 ≡ d.seen old Log
    pub pages : d.seen new Pages ≡ d.seen old Pages
    pub durable : IsSynced d old → IsSynced d new

  -- It stays in its file, where it stood, and works no more.
  pub record HasNotSwitched (gate after : Gate) (old new : D) : Type 0 where
    pub same : InOneFile gate after
    pub place : place_of after ≡ place_of gate
    pub broken : has_failed after ≡ true
    pub changes : ChangesOnly d Log2 old new
