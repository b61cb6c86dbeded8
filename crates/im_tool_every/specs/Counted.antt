-- Verdicts that are counted, one after the other.
use Rattle.std.specs.Prelude.{◌≡◌, ◌+◌, ◌-◌, ◌^◌, if◌then◌else◌, min, ℕ, zero, suc, Bool, List, [], ◌∷◌}
use Rattle.im_base_types.specs.declared.file_id.FileId.{FileId}
use Rattle.im_base_disk.specs.declared.disk.Disk.{Ghosts}
use Rattle.im_base_model_disk.specs.declared.model_disk.ModelDisk.{ModelDisk}
use Rattle.im_base_model_disk.specs.Left.{IsLeftBy}
use Rattle.im_base_model_disk.specs.Model.{file_of, model_stop}
use Rattle.im_base_two_logs.specs.declared.renamed.Renamed.{Renamed}
use Rattle.im_tool_lines.specs.declared.store_life.LifeOptions.{LifeOptions}
use Rattle.im_tool_judge.specs.declared.change.AskedEffect.{AskedEffect}
use Rattle.im_tool_every.specs.declared.every.Counts.{Counts}
use Rattle.im_tool_every.specs.declared.judged_opening.Judged.{Judged}
use Rattle.im_tool_every.specs.declared.ways.Stops.{Stops}
use Rattle.im_tool_every.specs.declared.ways.Stops.TheVariants.{EachCall, Everywhere}
use Rattle.im_tool_every.specs.declared.ways.Way.{Way}
use Rattle.im_tool_every.specs.Guarded.{IsGuarded}
use Rattle.im_tool_every.specs.Opened.{IsJudged}

-- one more, up to the greatest number of 64 bits
abbrev pub one_more : ℕ → ℕ
one_more n = min (n + 1) 18446744073709551615

-- the counts after one verdict more: what is bad is counted
abbrev pub counted : Bool → Counts → Counts
counted good c = record { stops = c.stops; restarts = c.restarts; bad = if good then c.bad else one_more c.bad }

-- after one life more
abbrev pub one_stop : Counts → Counts
one_stop c = record { stops = one_more c.stops; restarts = c.restarts; bad = c.bad }

-- after one stopped opening more
abbrev pub one_restart : Counts → Counts
one_restart c = record { stops = c.stops; restarts = one_more c.restarts; bad = c.bad }

abbrev pub none_counted : Counts
none_counted = record { stops = 0; restarts = 0; bad = 0 }

-- The guards of a folder were asked of what is left of a disk, and an engine was opened on it, with so many device calls. Both verdicts were counted.
pub record IsJudgedIn (model : Ghosts ModelDisk) (d : Ghosts (Renamed ModelDisk)) (options : LifeOptions) (asked : List AskedEffect) (disk : ModelDisk) (calls : ℕ) (old new : Counts) : Type 0 where
  pub taken : Bool
  pub guarded : IsGuarded disk taken
  pub opened : ModelDisk
  pub left : (file : FileId) → IsLeftBy (model_stop disk) (file_of disk file) (model.seen opened file)
  pub end : ModelDisk
  pub judged : Judged
  pub verdict : IsJudged d options asked opened end judged
  pub calls_are : calls ≡ judged.calls
  pub counts : new ≡ counted judged.good (counted taken old)

-- ---- one after the other

-- Something is done in each of these ways, one after the other, each with the counts that the one before it left.
abbrev pub AreInTurn : (Way → Counts → Counts → Type 0) → List Way → Counts → Counts → Type 0
AreInTurn each [] old new = new ≡ old
AreInTurn each (way ∷ ways) old new = (mid : Counts) × each way old mid × AreInTurn each ways mid new

-- Something is done at each of the calls from the first to this one.
abbrev pub AreCalls : (ℕ → Counts → Counts → Type 0) → ℕ → Counts → Counts → Type 0
AreCalls each zero old new = new ≡ old
AreCalls each (suc n) old new = (mid : Counts) × AreCalls each n old mid × each (suc n) mid new

-- Something is done at the end, where the end is such a place.
abbrev pub IsAtEnd : (Counts → Counts → Type 0) → Stops → Counts → Counts → Type 0
IsAtEnd each EachCall old new = new ≡ old
IsAtEnd each Everywhere old new = each old new
