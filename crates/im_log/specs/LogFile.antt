-- What a log file knows of its disk.
use Rattle.std.specs.Prelude.{drop, ◌≡◌, ◌⊎◌, ℕ, ◌+◌, ◌^◌, ◌<◌, ◌≤◌, nat_le, if◌then◌else◌, false, List, length, take, Some}
use Rattle.im_base_types.specs.declared.file_id.FileId.TheVariants.{Log}
use Rattle.im_base_types.specs.Records.{Logged}
use Rattle.im_theory_log.specs.Histories.{IsFront}
use Rattle.im_base_disk.specs.declared.disk.Disk.{Ghosts}
use Rattle.im_log_gate.specs.Batches.{IsFilled}
use Rattle.im_log_gate.specs.Gate.{IsReady, StartsAs, base_at, place_of, has_failed}
use Rattle.im_log_gate.specs.Header.{base_of, IsMade}
use Rattle.im_log.specs.declared.log_file.LogFile.{LogFile}
use Rattle.im_log.specs.Spelled.{records_from, batches_records, log_of, last_lsn}

-- The records of the batch that is being filled.
abbrev pub buffered : LogFile → List ℕ
buffered log = drop (log.start + 4) (take (log.start + 4 + log.used) log.buffer.items)

-- The batches that wait in front of it, each laid out after an open gate.
pub record Sealed (log : LogFile) : Type 0 where
  pub batches : List (List ℕ)
  pub filled : IsFilled batches (take log.start log.buffer.items)

-- The LSN of the first record that waits.
abbrev pub first_waiting_lsn : LogFile → ℕ
first_waiting_lsn log = log.base + (place_of log.gate + 5)

-- That of the first record of the batch that is being filled.
abbrev pub batch_lsn : LogFile → ℕ
batch_lsn log = log.base + (place_of log.gate + log.start + 5)

-- The LSN of the next record, where it needs no force.
abbrev pub next_lsn : LogFile → ℕ
next_lsn log = batch_lsn log + log.used

-- Where no record can be: below the log, at its gate, and at its end or above.
abbrev pub LiesOutside : LogFile → ℕ → Type 0
LiesOutside log lsn = (lsn < log.base) ⊎ ((log.base + place_of log.gate ≤ lsn) × (lsn < first_waiting_lsn log)) ⊎ (next_lsn log ≤ lsn)

-- Where a record of this length would end, as an LSN.
abbrev pub end_with : LogFile → ℕ → ℕ
end_with log size = if nat_le (log.used + size) 16384 then next_lsn log + size else next_lsn log + 5 + size

-- A buffer full of batches, and a record more, would end at LSN 2^62 or below.
abbrev pub HasLsnsLeft : LogFile → Type 0
HasLsnsLeft log = log.base + (place_of log.gate + 1) + (length log.buffer.items + 16388) ≤ 2 ^ 62

-- After the batch that is being filled a whole one more finds room in the buffer, and its records below LSN 2^62.
abbrev pub HasNextRoom : LogFile → Type 0
HasNextRoom log = (log.start + log.used + 16394 ≤ length log.buffer.items) × HasLsnsLeft log

-- The log stands after the same gate.
pub record SameGate (old new : LogFile) : Type 0 where
  pub base : new.base ≡ old.base
  pub gate : new.gate ≡ old.gate
  pub failed : new.failed ≡ old.failed

-- A record of this length joined what waits: in the batch that is being filled where it fits there.
pub record HasTakenIn (size : ℕ) (old new : LogFile) : Type 0 where
  pub end : next_lsn new ≡ end_with old size
  pub used : old.used + size ≤ 16384 → new.used ≡ old.used + size

-- A record of some length would end above LSN 2^62; the gate works still, and at most one batch waits.
pub record HasNoRoom (log : LogFile) : Type 0 where
  pub of_gate : log.base ≡ base_at log.gate
  pub gate : has_failed log.gate ≡ false
  pub size : ℕ
  pub most : size ≤ 16384
  pub above : 2 ^ 62 < end_with log size
  pub one : log.start ≡ 0

module _ {D : Type 0} (d : Ghosts D) where
  -- On any bytes: the gate is the last and says where the log starts, and what is buffered ends at LSN 2^62 or below. After a failure it
  -- says no more than where the log starts.
  pub record IsOpen (log : LogFile) (disk : D) : Type 0 where
    pub ready : IsReady d log.gate disk
    pub starts : d.tells → StartsAs log.gate (d.seen disk Log)
    pub working : log.failed ≡ false → has_failed log.gate ≡ false
    pub placed : log.failed ≡ false → log.base + place_of log.gate ≤ 2 ^ 62
    pub room : log.failed ≡ false → 1 ≤ log.used → next_lsn log ≤ 2 ^ 62
    pub sealed : log.failed ≡ false → Sealed log
    pub filling : log.failed ≡ false → 1 ≤ log.start → 1 ≤ log.used

  -- The disk tells its bytes, the made file spells the durable records, and the buffer those that come on top.
  pub record IsLog (base : ℕ) (all durable : List Logged) (log : LogFile) (disk : D) : Type 0 where
    pub tells : d.tells
    pub working : log.failed ≡ false
    pub based : log.base ≡ base
    pub made : IsMade (d.seen disk Log)
    pub starts : base_of (d.seen disk Log) ≡ base
    pub on_disk : log_of base (d.seen disk Log) ≡ Some durable
    pub sealed : Sealed log
    pub mid : List Logged
    pub in_sealed : batches_records (log.base + place_of log.gate) sealed.batches durable ≡ Some mid
    pub in_buffer : records_from 0 (batch_lsn log) (buffered log) mid ≡ Some all
    pub front : IsFront durable all
    pub below : last_lsn base all < next_lsn log
