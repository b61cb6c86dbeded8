-- The stop of a life, as it is armed.
use Rattle.std.specs.Prelude.{◌≡◌, ◌≢◌, ◌⊎◌, ℕ, true, Option, Some, None}
use Rattle.im_base_types.specs.declared.fault.Fault.{Fault}
use Rattle.im_base_types.specs.declared.file_id.FileId.{FileId}
use Rattle.im_base_disk.specs.declared.disk.Disk.{Ghosts}
use Rattle.im_base_model_disk.specs.declared.stop.Stop.{Stop}
use Rattle.im_base_model_disk.specs.declared.stop.Fill.{Fill}
use Rattle.im_base_model_disk.specs.declared.stop.Fill.TheVariants as fills
use Rattle.im_base_model_disk.specs.declared.model_disk.ModelDisk.{ModelDisk}
use Rattle.im_base_model_disk.specs.Left.{IsLeftBy}
use Rattle.im_base_model_disk.specs.Model.{IsArmed, IsFresh, armed_of, file_of, model_stop, model_stopped}
use Rattle.im_tool_lines.specs.declared.life_answers.Opening.{Opening}
use Rattle.im_tool_lines.specs.declared.life_answers.Opening.TheVariants as openings

-- The same fill, which may lie elsewhere in memory.
abbrev pub IsSameFill : Fill → Fill → Type 0
IsSameFill fills.Written fills.Written = Unit {0}
IsSameFill fills.Written (fills.Bytes bytes) = ⊥
IsSameFill (fills.Bytes bytes) fills.Written = ⊥
IsSameFill (fills.Bytes bytes) (fills.Bytes others) = others.items ≡ bytes.items

pub record IsSameStop (stop other : Stop) : Type 0 where
  pub call : other.call ≡ stop.call
  pub length : other.length ≡ stop.length
  pub fill : IsSameFill stop.fill other.fill

-- The life's stop is armed and nothing else changes; without a stop nothing changes.
abbrev pub IsArmedWith : Option Stop → ModelDisk → ModelDisk → Type 0
IsArmedWith None old new = new ≡ old
IsArmedWith (Some stop) old new = (armed : Stop) × IsSameStop stop armed × IsArmed (record (armed_of old) { stop = Some armed }) old new

-- The device call of this number is told to fail and nothing else changes; without a number nothing changes.
abbrev pub IsCallArmed : Option ℕ → ModelDisk → ModelDisk → Type 0
IsCallArmed None old new = new ≡ old
IsCallArmed (Some n) old new = IsArmed (record (armed_of old) { failing_call = Some n }) old new

-- So is the read or length call of this number.
abbrev pub IsReadArmed : Option ℕ → ModelDisk → ModelDisk → Type 0
IsReadArmed None old new = new ≡ old
IsReadArmed (Some n) old new = IsArmed (record (armed_of old) { failing_read = Some n }) old new

-- The stop, the device call and the read are armed in turn.
pub record IsArmedAll (stop : Option Stop) (call read : Option ℕ) (old new : ModelDisk) : Type 0 where
  pub stopped : ModelDisk
  pub failing : ModelDisk
  pub stops : IsArmedWith stop old stopped
  pub calls : IsCallArmed call stopped failing
  pub reads : IsReadArmed read failing new

-- The life's stop fell into a device call. One of call 0 falls into none, and a life without a stop has none.
abbrev pub HasCome : Option Stop → ModelDisk → Type 0
HasCome None disk = ⊥
HasCome (Some stop) disk = (stop.call ≢ 0) × (model_stopped disk ≡ true)

-- What is told of an opening that did not succeed: that the stop fell into it, where it did, or the fault.
abbrev pub IsOpenedOr : Option Stop → ModelDisk → Opening → Fault → Type 0
IsOpenedOr stop disk opening fault = (HasCome stop disk × (opening ≡ openings.Stopped)) ⊎ ((HasCome stop disk → ⊥) × (opening ≡ openings.Refused fault))

-- The disk that the stop leaves, byte for byte, begins the next life.
pub record IsNextDisk (d : Ghosts ModelDisk) (old new : ModelDisk) : Type 0 where
  pub bytes : (file : FileId) → IsLeftBy (model_stop old) (file_of old file) (d.seen new file)
  pub fresh : IsFresh new
