-- How a call of the log may end.
use Rattle.std.specs.Prelude.{◌≡◌, ◌⊎◌, ◌<◌, ◌^◌, ℕ, false, true, List, length, Option, Result, IfErr, OnOk}
use Rattle.im_base_types.specs.declared.fault.Fault.{Fault}
use Rattle.im_base_types.specs.declared.fault.Fault.TheVariants.{Capacity, Device, LogFull}
use Rattle.im_base_types.specs.declared.file_id.FileId.TheVariants.{Log}
use Rattle.im_base_types.specs.Outcomes.{CallEnds}
use Rattle.im_base_types.specs.Records.{Logged}
use Rattle.im_base_disk.specs.declared.disk.Disk.{Ghosts}
use Rattle.im_base_disk.specs.Ends.{Refusals}
use Rattle.im_base_disk.specs.Runs.{ChangesOnly, CostsAtMost, Reads}
use Rattle.im_log_gate.specs.Gate.{generation_at}
use Rattle.im_log.specs.declared.log_file.LogFile.{LogFile}
use Rattle.im_log.specs.LogFile.{end_with, HasNoRoom, IsLog, IsOpen}

-- A record of this length would end above LSN 2^62, and the log has no room.
pub record LacksRoom (size : ℕ) (log : LogFile) (e : Fault) : Type 0 where
  pub full : e ≡ LogFull
  pub no_room : HasNoRoom log
  pub left : 2 ^ 62 < end_with log size

module _ {D : Type 0} (d : Ghosts D) where
  -- The outcome of a call that may force the log, once, and changes no other file. `own` are the refusals of its own.
  pub record LogOutcome (own : Fault → Type 0) (v : LogFile) (old : D) (w : LogFile) (new : D) (why : Option Fault) : Type 0 where
    pub ready : IsOpen d w new
    pub changes : ChangesOnly d Log old new
    pub few : CostsAtMost d 2 2 old new
    pub base : w.base ≡ v.base
    pub generation : generation_at w.gate ≡ generation_at v.gate
    pub ends : CallEnds own v.failed w.failed (d.failed new) why

  -- The outcome of a call that only reads the log: it is open still where the device works, and has the records that it had.
  pub record LogRead {A : Type 0} (own : Fault → Type 0) (log : LogFile) (old new : D) (result : Result A Fault) : Type 0 where
    pub ready : d.failed new ≡ false → IsOpen d log new
    pub kept : (base : ℕ) (all durable : List Logged) → IsLog d base all durable log old → IsLog d base all durable log new
    pub reads : Reads d old new
    pub refusals : Refusals own log.failed (d.failed new) result

  -- The outcome of a call that goes on in the other file, and then nothing waits: or it is refused with nothing done, or loses the device.
  pub record SwitchOutcome (v : LogFile) (old : D) (w : LogFile) (new : D) (result : Result Unit Fault) : Type 0 where
    pub ready : IsOpen d w new
    pub empty : w.used ≡ 0
    pub room : length w.buffer.items ≡ length v.buffer.items
    pub few : CostsAtMost d 3 3 old new
    pub works : OnOk result (w.failed ≡ false)
    pub failed : IfErr result (λ e. e ≡ Device → w.failed ≡ true)
    pub refusals : Refusals (λ e. (e ≡ LogFull) ⊎ (e ≡ Capacity)) v.failed (d.failed new) result
