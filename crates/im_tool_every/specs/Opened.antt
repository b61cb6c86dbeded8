-- Openings that are stopped, and openings that are judged.
use Rattle.std.specs.Prelude.{◌≡◌, ◌↔◌, Bool, true, List, Some, Result, Ok, Err}
use Rattle.std.specs.Global.{Vec}
use Rattle.im_base_types.specs.declared.fault.Fault.{Fault}
use Rattle.im_base_types.specs.declared.file_id.FileId.{FileId}
use Rattle.im_base_types.specs.Pages.{Entry}
use Rattle.im_base_disk.specs.declared.disk.Disk.{Ghosts}
use Rattle.im_base_model_disk.specs.declared.model_disk.ModelDisk.{ModelDisk}
use Rattle.im_base_model_disk.specs.declared.stop.Stop.{Stop}
use Rattle.im_base_model_disk.specs.Left.{IsLeftBy}
use Rattle.im_base_two_logs.specs.declared.renamed.Renamed.{Renamed}
use Rattle.im_base_model_disk.specs.Model.{IsArmed, IsFresh, armed_of, file_of, model_calls, model_stop}
use Rattle.im_engine.specs.declared.engine.Engine.{Engine}
use Rattle.im_engine.specs.Kept.{disk_of}
use Rattle.im_tool_lines.specs.declared.life_answers.Opening.{Opening}
use Rattle.im_tool_lines.specs.declared.life_answers.Opening.TheVariants as openings
use Rattle.im_tool_lines.specs.declared.store_life.LifeOptions.{LifeOptions}
use Rattle.im_engine.specs.Listing.{IsListing}
use Rattle.im_tool_drill.specs.StoreRuns.{IsByOwnNames, IsOpening}
use Rattle.im_tool_judge.specs.declared.change.AskedEffect.{AskedEffect}
use Rattle.im_tool_every.specs.declared.judged_opening.Judged.{Judged}
use Rattle.im_tool_judge.specs.Judged.{IsGood, IsPassedOver}

-- A life without a call that fails may begin so: it is open, its stop has come, or the refusal says nothing against the store.
abbrev pub IsBegun : Opening → Type 0
IsBegun (openings.Open calls) = Unit {0}
IsBegun openings.Stopped = Unit {0}
IsBegun (openings.Refused fault) = IsPassedOver fault

module _ (d : Ghosts (Renamed ModelDisk)) where
  -- The engine was asked for its entries, and the verdict is that on its answer.
  pub record IsJudgedBy (asked : List AskedEffect) (old new : Engine (Renamed ModelDisk) d) (good : Bool) : Type 0 where
    pub found : Result (Vec Entry) Fault
    pub listing : IsListing d found old new
    pub verdict : good ≡ true ↔ IsGood asked found

  -- What an opening came to, whether it was judged so, and the disk after that.
  abbrev pub IsVerdictOn : List AskedEffect → Judged → ModelDisk → Result (Engine (Renamed ModelDisk) d) (Fault × Renamed ModelDisk) → Type 0
  IsVerdictOn asked judged new (Ok e) = (listed : Engine (Renamed ModelDisk) d) × IsJudgedBy asked e listed judged.good × (judged.calls ≡ model_calls e.disk.disk) × (new ≡ listed.disk.disk)
  IsVerdictOn asked judged new (Err x) = (judged.good ≡ true ↔ IsPassedOver x.0) × (judged.calls ≡ model_calls x.1.disk) × (new ≡ x.1.disk)

  -- An engine was opened on this disk, judged by the entries that it hands out, and left this disk.
  pub record IsJudged (options : LifeOptions) (asked : List AskedEffect) (old new : ModelDisk) (judged : Judged) : Type 0 where
    pub named : Renamed ModelDisk
    pub own : IsByOwnNames old named
    pub result : Result (Engine (Renamed ModelDisk) d) (Fault × Renamed ModelDisk)
    pub opened : IsOpening d options named result
    pub verdict : IsVerdictOn asked judged new result

module _ (model : Ghosts ModelDisk) (d : Ghosts (Renamed ModelDisk)) where
  -- The stop was armed on this disk, an engine was opened on it, and the new disk has byte for byte what the stop left.
  pub record IsStopped (options : LifeOptions) (stop : Stop) (old new : ModelDisk) : Type 0 where
    pub armed : ModelDisk
    pub arms : IsArmed (record (armed_of old) { stop = Some stop }) old armed
    pub named : Renamed ModelDisk
    pub own : IsByOwnNames armed named
    pub result : Result (Engine (Renamed ModelDisk) d) (Fault × Renamed ModelDisk)
    pub opened : IsOpening d options named result
    pub leaves : (file : FileId) → IsLeftBy (model_stop (disk_of d result).disk) (file_of (disk_of d result).disk file) (model.seen new file)
    pub fresh : IsFresh new
