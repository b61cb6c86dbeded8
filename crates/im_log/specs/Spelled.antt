-- The records that the bytes of a log file spell.
use Rattle.std.specs.Prelude.{ℕ, zero, suc, ◌+◌, ◌-◌, ◌^◌, nat_le, ◌&&◌, if◌then◌else◌, List, [], ◌∷◌, length, take, Option, Some, None}
use Rattle.std.specs.Int.{w32, from_be_bytes}
use Rattle.im_base_types.specs.Records.{Logged}
use Rattle.im_log_gate.specs.Batches.{batches, size_of}
use Rattle.im_log_gate.specs.Header.{first_gate}
use Rattle.im_log_record.specs.Entry.{Entry, transaction_of, prev_of, undo_next_of, page_of}
use Rattle.im_log_record.specs.Reading.{entry_of}
use Rattle.im_log.specs.Whats.{what_of}

-- The record at an LSN.
abbrev pub logged_at : ℕ → Entry → Logged
logged_at lsn entry =
    record { lsn = lsn; txn = transaction_of entry; prev = prev_of entry; undo_next = undo_next_of entry; page = page_of entry; what = what_of entry }

-- The length that a record's first four bytes give.
unfoldable pub record_size : List ℕ → ℕ
record_size bytes = from_be_bytes w32 (take 4 bytes)

-- The record at the front of these bytes, if all of it is there.
unfoldable pub first_record : List ℕ → Option Entry
first_record bytes = if nat_le 4 (record_size bytes) && nat_le (record_size bytes) (length bytes) then entry_of (take (record_size bytes) bytes) else None

-- The log after the records that the bytes spell, the first of them at this LSN, joined it in turn. So many bytes are
-- passed over first. None where the bytes are no list of records.
abbrev pub records_from : ℕ → ℕ → List ℕ → List Logged → Option (List Logged)
records_from zero lsn [] older = Some older
records_from (suc skip) lsn [] older = None
records_from (suc skip) lsn (byte ∷ bytes) older = records_from skip (suc lsn) bytes older
records_from zero lsn (byte ∷ bytes) older =
    elim (first_record (byte ∷ bytes)) as (λ o. Option (List Logged)) [
      | None ↦ None
      | Some entry ↦ records_from (record_size (byte ∷ bytes) - 1) (suc lsn) bytes (logged_at lsn entry ∷ older)
    ]

-- The same of batches, the first gate being at this LSN.
abbrev pub batches_records : ℕ → List (List ℕ) → List Logged → Option (List Logged)
batches_records lsn [] older = Some older
batches_records lsn (batch ∷ rest) older =
    elim (records_from 0 (lsn + 5) batch older) as (λ o. Option (List Logged)) [
      | None ↦ None
      | Some log ↦ batches_records (lsn + (5 + length batch)) rest log
    ]

-- The same of a file's batches, whose first gate stands at this place; none where the last gate would have an LSN above 2^62.
abbrev pub spelled_by : ℕ → ℕ → Option (List (List ℕ)) → Option (List Logged)
spelled_by base place None = None
spelled_by base place (Some bs) = if nat_le (base + (place + size_of bs)) (2 ^ 62) then batches_records (base + place) bs [] else None

-- The log that a file's bytes spell, the newest first; an LSN is the base and the place in the file.
abbrev pub log_of : ℕ → List ℕ → Option (List Logged)
log_of base file = spelled_by base (first_gate file) (batches (first_gate file) file)

-- The greatest LSN, or that of the file's first byte.
abbrev pub last_lsn : ℕ → List Logged → ℕ
last_lsn base [] = base
last_lsn base (r ∷ older) = r.lsn
