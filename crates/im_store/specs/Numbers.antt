-- The numbers that upkeep reads of an engine.
use Rattle.std.specs.Prelude.{ℕ, ◌+◌, ◌-◌, ◌^◌, length, min}
use Rattle.im_base_disk.specs.declared.disk.Disk.{Ghosts}
use Rattle.im_log_gate.specs.Gate.{place_of}
use Rattle.im_engine.specs.declared.engine.Engine.{Engine}

module _ {D : Type 0} (d : Ghosts D) where
  -- how many transactions are active
  abbrev pub active_of : Engine D d → ℕ
  active_of e = length e.txns.rows

  -- how many bytes of the current log's file are durable
  abbrev pub log_length_of : Engine D d → ℕ
  log_length_of e = place_of e.writer.log.gate

  -- the LSN below which each record is durable
  abbrev pub durable_end_of : Engine D d → ℕ
  durable_end_of e = min (e.writer.log.base + place_of e.writer.log.gate) (2 ^ 64 - 1)

  -- how many pages may lack changes in their file
  abbrev pub dirty_of : Engine D d → ℕ
  dirty_of e = length e.writer.table.entries
