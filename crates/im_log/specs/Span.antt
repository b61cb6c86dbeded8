-- What a part of a log's bytes, read at once, says of its records.
use Rattle.std.specs.Prelude.{ℕ, ◌-◌, ◌≤◌, List, length, take, drop}
use Rattle.im_base_types.specs.Records.{Logged}
use Rattle.im_theory_log.specs.Histories.{IsRecordOf}
use Rattle.im_log.specs.Reading.{SpellsRecord}
use Rattle.im_log.specs.Spelled.{record_size}

-- The length at the front of these bytes is a record's, and all of it is there.
pub record IsWhole (bytes : List ℕ) : Type 0 where
  pub least : 4 ≤ record_size bytes
  pub most : record_size bytes ≤ length bytes

-- From this LSN on a log has these bytes: each of its records that begins in them stands there, if all of it does.
abbrev pub IsSpanOf : List Logged → ℕ → List ℕ → Type 0
IsSpanOf all from bytes = (r : Logged) → IsRecordOf r all → from ≤ r.lsn → IsWhole (drop (r.lsn - from) bytes)
    → SpellsRecord r (take (record_size (drop (r.lsn - from) bytes)) (drop (r.lsn - from) bytes))
