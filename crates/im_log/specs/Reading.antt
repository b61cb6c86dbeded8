-- What reading one record of a log gives.
use Rattle.std.specs.Prelude.{◌≡◌, ℕ, ◌≤◌, List, length, take, Some, Result, IfOk, IfErr}
use Rattle.im_base_types.specs.declared.fault.Fault.{Fault}
use Rattle.im_base_types.specs.declared.fault.Fault.TheVariants.{Device}
use Rattle.im_base_types.specs.Records.{Logged}
use Rattle.im_log_record.specs.Entry.{Entry}
use Rattle.im_log_record.specs.Reading.{entry_of}
use Rattle.im_log.specs.Spelled.{logged_at, record_size}

-- The length at the front of these bytes is that of a record of at most 16,384 bytes, and all of it is there.
pub record FitsFront (bytes : List ℕ) : Type 0 where
  pub least : 4 ≤ record_size bytes
  pub most : record_size bytes ≤ length bytes
  pub room : record_size bytes ≤ 16384

-- So many bytes of the room are those at the front of the others, by the length that stands there.
pub record IsFrontOf (size : ℕ) (bytes room : List ℕ) : Type 0 where
  pub sized : size ≡ record_size bytes
  pub same : take size room ≡ take size bytes

-- These bytes spell that record of the log.
pub record SpellsRecord (r : Logged) (bytes : List ℕ) : Type 0 where
  pub entry : Entry
  pub is : entry_of bytes ≡ Some entry
  pub same : logged_at r.lsn entry ≡ r

-- What is answered where a log has this record: its size, with its bytes at the front of the room; nothing but the device refuses it.
pub record FoundKept (r : Logged) (room : List ℕ) (result : Result ℕ Fault) : Type 0 where
  pub ok : IfOk result (λ size. SpellsRecord r (take size room))
  pub cause : IfErr result (λ e. e ≡ Device)
