-- What callers see of the model disk beside the facts of every disk.
use Rattle.std.specs.Prelude.{◌≡◌, ℕ, ◌+◌, Bool, false, List, [], ◌∷◌, ◌++◌, length, Option}
use Rattle.im_base_types.specs.declared.file_id.FileId.{FileId}
use Rattle.im_base_model_disk.specs.declared.model_file.ModelFile.{ModelFile}
use Rattle.im_base_model_disk.specs.declared.model_disk.ModelDisk.{ModelDisk}
use Rattle.im_base_model_disk.specs.declared.plan.Armed.{Armed}
use Rattle.im_base_model_disk.specs.declared.stop.Stop.{Stop}
use Rattle.im_base_model_disk.specs.Past.{either, Moment}
use Rattle.im_base_model_disk.specs.Plan.{armed_with_nothing, stops_at}

-- one file: its bytes, its synced length, and the ranges written since
abbrev pub file_of : ModelDisk → FileId → ModelFile
file_of disk file = either disk.log disk.pages disk.log2 file

-- the files now, and before each device call of the disk, the first call first
abbrev pub moment_of : ModelDisk → Moment
moment_of disk = (disk.log, disk.pages, disk.log2)

abbrev pub moments_of : ModelDisk → List Moment
moments_of disk = disk.past.moments

-- the greatest written end, which is the length as it reads
abbrev pub model_end : ModelDisk → FileId → ℕ
model_end disk file = length (file_of disk file).bytes.items

-- the device calls of this life so far
abbrev pub model_calls : ModelDisk → ℕ
model_calls disk = disk.plan.calls

-- the reads and length calls of this life so far
abbrev pub model_reads : ModelDisk → ℕ
model_reads disk = disk.plan.reads

-- the stop has come
abbrev pub model_stopped : ModelDisk → Bool
model_stopped disk = disk.plan.has_stopped

-- the stop that was armed, and the numbers of the calls that were told to fail
abbrev pub armed_of : ModelDisk → Armed
armed_of disk = disk.plan.armed

abbrev pub model_stop : ModelDisk → Option Stop
model_stop disk = disk.plan.armed.stop

-- The life begins: no call was made, and nothing is armed.
pub record IsFresh (disk : ModelDisk) : Type 0 where
  pub calls : model_calls disk ≡ 0
  pub reads : model_reads disk ≡ 0
  pub stopped : model_stopped disk ≡ false
  pub armed : armed_of disk ≡ armed_with_nothing

-- Something was armed, and nothing else changed.
pub record IsArmed (now : Armed) (old new : ModelDisk) : Type 0 where
  pub armed : armed_of new ≡ now
  pub files : (file : FileId) → file_of new file ≡ file_of old file
  pub past : moments_of new ≡ moments_of old
  pub calls : model_calls new ≡ model_calls old
  pub reads : model_reads new ≡ model_reads old
  pub stopped : model_stopped new ≡ model_stopped old

-- A device call is counted, and the stop comes exactly in the call in which it was armed.
pub record CountsCall (old new : ModelDisk) : Type 0 where
  pub calls : model_calls new ≡ model_calls old + 1
  pub stopped : model_stopped new ≡ stops_at (armed_of old) (model_calls old + 1)
  pub reads : model_reads new ≡ model_reads old
  pub armed : armed_of new ≡ armed_of old
  pub past : moments_of new ≡ moments_of old ++ moment_of old ∷ []

-- A read or a length call is no device call, and changes no file.
pub record CountsRead (old new : ModelDisk) : Type 0 where
  pub calls : model_calls new ≡ model_calls old
  pub stopped : model_stopped new ≡ model_stopped old
  pub reads : model_reads new ≡ model_reads old + 1
  pub armed : armed_of new ≡ armed_of old
  pub files : (file : FileId) → file_of new file ≡ file_of old file
  pub past : moments_of new ≡ moments_of old
