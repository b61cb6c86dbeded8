-- What of the log is in the room of redo.
use Rattle.std.specs.Prelude.{◌≡◌, ℕ, ◌-◌, ◌≤◌, List, length, take, drop, Result, IfOk, IfErr}
use Rattle.im_base_types.specs.declared.fault.Fault.{Fault}
use Rattle.im_base_types.specs.declared.fault.Fault.TheVariants.{Device}
use Rattle.im_base_types.specs.Records.{Logged}
use Rattle.im_theory_log.specs.Histories.{History, IsRecordOf}
use Rattle.im_log.specs.Reading.{SpellsRecord}
use Rattle.im_log.specs.Span.{IsSpanOf}
use Rattle.im_restart_redo.specs.declared.window.Place.{Place}
use Rattle.im_restart_redo.specs.declared.window.Window.{Window}

-- each record of the one log is one of the other
abbrev pub AreAlsoOf : History → History → Type 0
AreAlsoOf some all = (r : Logged) → IsRecordOf r some → IsRecordOf r all

-- The front of the room has the bytes of a log from an LSN on.
abbrev pub Shows : History → Window → List ℕ → Type 0
Shows log window room = IsSpanOf log window.from (take window.used room)

-- a place of the room
pub record IsWithin (place : Place) (room : List ℕ) : Type 0 where
  pub ordered : place.at ≤ place.end
  pub within : place.end ≤ length room

-- the bytes that stand there
abbrev pub bytes_at : Place → List ℕ → List ℕ
bytes_at place room = take (place.end - place.at) (drop place.at room)

-- What is answered where a log has this record: where its bytes stand in the room; nothing but the device refuses it.
pub record BroughtKept (r : Logged) (room : List ℕ) (result : Result Place Fault) : Type 0 where
  pub ok : IfOk result (λ place. SpellsRecord r (bytes_at place room))
  pub cause : IfErr result (λ e. e ≡ Device)
