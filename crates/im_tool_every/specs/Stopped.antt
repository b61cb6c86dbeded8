-- Ways in which a place is stopped, and what a stop leaves in them.
use Rattle.std.specs.Prelude.{◌≡◌, ℕ, Bool, true, false, List, [], ◌∷◌, ◌++◌, Some}
use Rattle.im_base_types.specs.declared.file_id.FileId.{FileId}
use Rattle.im_base_disk.specs.declared.disk.Disk.{Ghosts}
use Rattle.im_base_model_disk.specs.declared.model_disk.ModelDisk.{ModelDisk}
use Rattle.im_base_model_disk.specs.declared.stop.Fill.{Fill}
use Rattle.im_base_model_disk.specs.declared.stop.Fill.TheVariants as fills
use Rattle.im_base_model_disk.specs.declared.stop.Length.{Length}
use Rattle.im_base_model_disk.specs.declared.stop.Length.TheVariants.{Long, Short}
use Rattle.im_base_model_disk.specs.declared.stop.Stop.{Stop}
use Rattle.im_base_model_disk.specs.Model.{IsArmed, armed_of}
use Rattle.im_base_two_logs.specs.declared.renamed.Renamed.{Renamed}
use Rattle.im_tool_lines.specs.declared.store_life.LifeOptions.{LifeOptions}
use Rattle.im_tool_lines.specs.Stops.{IsNextDisk}
use Rattle.im_tool_every.specs.declared.ways.Stops.{Stops}
use Rattle.im_tool_every.specs.declared.ways.Stops.TheVariants.{EachCall, Everywhere}
use Rattle.im_tool_every.specs.declared.ways.Way.{Way}
use Rattle.im_tool_every.specs.Opened.{IsStopped}
use Rattle.im_tool_every.specs.Torn.{IsTornOf}

-- this length, with this byte at all that is not as synced
abbrev pub filled : Length → ℕ → Way
filled long byte = record { length = long; fill = byte; keeps_single = false }

-- this length, with 00 there, and single bytes as written
abbrev pub torn_way : Length → Way
torn_way long = record { length = long; fill = 0; keeps_single = true }

-- the ways in which each place is stopped
abbrev pub ways_of : Stops → List Way
ways_of EachCall = filled Long 0 ∷ filled Long 1 ∷ filled Long 255 ∷ filled Short 0 ∷ filled Short 1 ∷ filled Short 255 ∷ []
ways_of Everywhere = filled Long 0 ∷ filled Long 1 ∷ filled Long 255 ∷ filled Short 0 ∷ filled Short 1 ∷ filled Short 255 ∷ torn_way Long ∷ torn_way Short ∷ []

-- A fill with this byte everywhere.
abbrev pub IsFilledWith : ℕ → Fill → Type 0
IsFilledWith byte fills.Written = ⊥
IsFilledWith byte (fills.Bytes pattern) = pattern.items ≡ byte ∷ []

-- A stop within this call, with the length and the byte of this way.
pub record IsStopAt (call : ℕ) (way : Way) (stop : Stop) : Type 0 where
  pub at : stop.call ≡ call
  pub long : stop.length ≡ way.length
  pub byte : IsFilledWith way.fill stop.fill

-- the same, but with all as written
abbrev pub written_at : ℕ → Way → Stop
written_at call way = record { call = call; length = way.length; fill = fills.Written }

module _ (model : Ghosts ModelDisk) where
  -- At each place of each file stands the byte of one of two disks.
  abbrev pub AreTornOf : (first second new : ModelDisk) → Type 0
  AreTornOf first second new = (file : FileId) → IsTornOf (model.seen first file) (model.seen second file) (model.seen new file)

  -- The disk that the stop of a life leaves; where single bytes are as written, it is made of two that the stop may leave.
  abbrev pub IsLeftIn : Bool → Way → ModelDisk → ModelDisk → Type 0
  IsLeftIn false way old new = IsNextDisk model old new
  IsLeftIn true way old new =
      (first : ModelDisk) × (armed : ModelDisk) × (second : ModelDisk) × IsNextDisk model old first × IsArmed (record (armed_of old) { stop = Some (written_at 0 way) }) old armed
      × IsNextDisk model armed second × AreTornOf first second new

module _ (model : Ghosts ModelDisk) (d : Ghosts (Renamed ModelDisk)) where
  -- An opening on a copy of a disk was stopped, and left this one.
  abbrev pub IsStoppedOn : LifeOptions → Stop → ModelDisk → ModelDisk → Type 0
  IsStoppedOn options stop disk next = (copy : ModelDisk) × IsNextDisk model disk copy × IsStopped model d options stop copy next

  -- An opening on what is left of a disk was stopped within this call in this way.
  abbrev pub IsStoppedIn : Bool → LifeOptions → ℕ → Way → ModelDisk → ModelDisk → Type 0
  IsStoppedIn false options call way disk next = (stop : Stop) × IsStopAt call way stop × IsStoppedOn options stop disk next
  IsStoppedIn true options call way disk next =
      (stop : Stop) × (first : ModelDisk) × (second : ModelDisk) × IsStopAt call way stop × IsStoppedOn options stop disk first × IsStoppedOn options (written_at call way) disk second
      × AreTornOf model first second next
