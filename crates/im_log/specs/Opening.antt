-- A log that is being opened.
use Rattle.std.specs.Prelude.{◌≡◌, ℕ, ◌+◌, ◌-◌, ◌^◌, ◌≤◌, ◌<◌, false, not, is_ok, List, [], ◌∷◌, length, take, drop, Option, Some, Result, IfOk, IfErr, MatchOption}
use Rattle.im_base_types.specs.declared.fault.Fault.{Fault}
use Rattle.im_base_types.specs.declared.fault.Fault.TheVariants.{Device}
use Rattle.im_base_types.specs.declared.file_id.FileId.TheVariants.{Log}
use Rattle.im_base_types.specs.Records.{Logged}
use Rattle.im_theory_log.specs.Histories.{IsFront}
use Rattle.im_base_disk.specs.declared.disk.Disk.{Ghosts}
use Rattle.im_base_disk.specs.Ends.{Refusals}
use Rattle.im_base_disk.specs.Runs.{Reads}
use Rattle.im_log_gate.specs.Batches.{size_of}
use Rattle.im_log_gate.specs.Gate.{IsReading, IsReady, StartsAs, has_failed, place_of, unread}
use Rattle.im_log_gate.specs.Header.{base_of, IsMade}
use Rattle.im_log_record.specs.Entry.{Entry}
use Rattle.im_log_record.specs.Reading.{entry_of}
use Rattle.im_log.specs.declared.log_opening.Opening.{Opening}
use Rattle.im_log.specs.Spelled.{logged_at, record_size, records_from, batches_records, log_of}

-- The bytes of the record that was read last.
abbrev pub current_of : Opening → List ℕ
current_of opening = take (opening.at - opening.from) (drop opening.from opening.bytes.items)

-- Those of its batch that come after it.
abbrev pub rest_of : Opening → List ℕ
rest_of opening = take (opening.end - opening.at) (drop opening.at opening.bytes.items)

-- The place in the file of what comes after it.
abbrev pub position_of : Opening → ℕ
position_of opening = opening.behind - (opening.end - opening.at)

-- It stands at the first record of the next batch, which has some bytes.
pub record HasNext (old new : Opening) : Type 0 where
  pub some : new.at < new.end
  pub behind : new.behind ≡ old.behind + (new.end - new.at + 5)

-- Those that were read of the file and come after its batch.
abbrev pub ahead_of : Opening → List ℕ
ahead_of opening = take (opening.held - opening.end) (drop opening.end opening.bytes.items)

-- It read a record, and stands after it.
pub record Stepped (old : Opening) (lsn : ℕ) (new : Opening) : Type 0 where
  pub lsn_is : lsn ≡ old.base + position_of old
  pub least : 4 ≤ record_size (rest_of old)
  pub most : record_size (rest_of old) ≤ length (rest_of old)
  pub current : current_of new ≡ take (record_size (rest_of old)) (rest_of old)
  pub rest : rest_of new ≡ drop (record_size (rest_of old)) (rest_of old)
  pub position : position_of new ≡ position_of old + record_size (rest_of old)

-- It reads the same log, and goes on where this call was not refused.
pub record KeepsLog {A : Type 0} (old new : Opening) (result : Result A Fault) : Type 0 where
  pub base : new.base ≡ old.base
  pub failed : new.failed ≡ not (is_ok result)

-- The batches from a place on are refused, or the first ends above LSN 2^62.
pub record RefusedBatch (base place : ℕ) (unread : Option (List (List ℕ))) : Type 0 where
  pub refused : (ahead : List (List ℕ)) → unread ≡ Some ahead → 2 ^ 62 < base + (place + size_of ahead)

module _ {D : Type 0} (d : Ghosts D) where
  -- On any bytes.
  pub record IsBegun (opening : Opening) (disk : D) : Type 0 where
    pub reading : IsReading d opening.gate disk
    pub starts : d.tells → StartsAs opening.gate (d.seen disk Log)
    pub working : opening.failed ≡ false → has_failed opening.gate ≡ false
    pub behind : opening.failed ≡ false → opening.behind ≡ place_of opening.gate
    pub ahead : opening.failed ≡ false → d.tells → ahead_of opening ≡ take (length (ahead_of opening)) (drop (place_of opening.gate) (d.seen disk Log))

  -- The outcome of a call that reads on. `own` are the refusals of its own.
  pub record OpeningRead {A : Type 0} (own : Fault → Type 0) (old : Opening) (old_disk : D) (new : Opening) (disk : D) (result : Result A Fault) : Type 0 where
    pub begun : IsBegun new disk
    pub reads : Reads d old_disk disk
    pub base : new.base ≡ old.base
    pub failed : new.failed ≡ not (is_ok result)
    pub refusals : Refusals own old.failed (d.failed disk) result

  -- There is no batch more: its gate is closed.
  pub record AtEnd (old : Opening) (old_disk : D) (new : Opening) (disk : D) : Type 0 where
    pub closed : IsReady d new.gate disk
    pub none : d.tells → unread d old.gate old_disk ≡ Some []

  -- The disk tells its bytes, the made file spells all these records, and what was read of them are the older ones.
  pub record IsOpening (base : ℕ) (all older : List Logged) (opening : Opening) (disk : D) : Type 0 where
    pub tells : d.tells
    pub working : opening.failed ≡ false
    pub based : opening.base ≡ base
    pub made : IsMade (d.seen disk Log)
    pub starts : base_of (d.seen disk Log) ≡ base
    pub spells : log_of base (d.seen disk Log) ≡ Some all
    -- those of the batch, and of the batches that were not read
    pub mid : List Logged
    pub in_batch : records_from 0 (base + position_of opening) (rest_of opening) older ≡ Some mid
    pub ahead : List (List ℕ)
    pub unread : unread d opening.gate disk ≡ Some ahead
    pub onward : batches_records (base + opening.behind) ahead mid ≡ Some all
    pub room : base + (opening.behind + size_of ahead) ≤ 2 ^ 62

  -- The disk tells its bytes, and these records were read from the made file: whatever list the rest spells on top of them, the file spells.
  pub record HasRead (base : ℕ) (older : List Logged) (opening : Opening) (disk : D) : Type 0 where
    pub tells : d.tells
    pub working : opening.failed ≡ false
    pub based : opening.base ≡ base
    pub made : IsMade (d.seen disk Log)
    pub starts : base_of (d.seen disk Log) ≡ base
    pub spells : (mid all : List Logged) (ahead : List (List ℕ)) → records_from 0 (base + position_of opening) (rest_of opening) older ≡ Some mid → unread d opening.gate disk ≡ Some ahead
        → batches_records (base + opening.behind) ahead mid ≡ Some all → base + (opening.behind + size_of ahead) ≤ 2 ^ 62 → log_of base (d.seen disk Log) ≡ Some all

  module _ (base : ℕ) (all older : List Logged) where
    -- The record that was read is the next one of the list.
    pub record Next (lsn : ℕ) (new : Opening) (disk : D) : Type 0 where
      pub entry : Entry
      pub is : entry_of (current_of new) ≡ Some entry
      pub front : IsFront (logged_at lsn entry ∷ older) all
      pub opening : IsOpening base all (logged_at lsn entry ∷ older) new disk

    -- All records were read.
    pub record Ended (new : Opening) (disk : D) : Type 0 where
      pub all_read : older ≡ all
      pub tells : d.tells
      pub based : new.base ≡ base
      pub made : IsMade (d.seen disk Log)
      pub starts : base_of (d.seen disk Log) ≡ base
      pub spells : log_of base (d.seen disk Log) ≡ Some all

    pub record NextKept (new : Opening) (disk : D) (result : Result (Option ℕ) Fault) : Type 0 where
      pub ok : IfOk result (λ next. MatchOption next (Ended new disk) (λ lsn. Next lsn new disk))
      pub cause : IfErr result (λ e. e ≡ Device)

  -- One record more was read where its bytes are a record's; after the last, the file spells those that were read.
  pub record ReadOn (base : ℕ) (older : List Logged) (new : Opening) (disk : D) (result : Result (Option ℕ) Fault) : Type 0 where
    pub ok : IfOk result (λ next. MatchOption next (Ended base older older new disk)
        (λ lsn. (entry : Entry) → entry_of (current_of new) ≡ Some entry → HasRead base (logged_at lsn entry ∷ older) new disk))
