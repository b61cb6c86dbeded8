-- An opening that was stopped.
use Rattle.std.proofs.Common.{◌≡◌, Result, Some, sym, subst}
use Rattle.im_base_types.specs.declared.fault.Fault.{Fault}
use Rattle.im_base_types.specs.declared.file_id.FileId.{FileId}
use Rattle.im_base_disk.specs.declared.disk.Disk.{Ghosts}
use Rattle.im_base_model_disk.specs.declared.model_disk.ModelDisk.{ModelDisk}
use Rattle.im_base_model_disk.specs.declared.stop.Stop.{Stop}
use Rattle.im_base_model_disk.specs.Left.{IsLeftBy}
use Rattle.im_base_two_logs.specs.declared.renamed.Renamed.{Renamed}
use Rattle.im_base_model_disk.specs.Model.{IsArmed, IsFresh, armed_of, file_of, model_stop}
use Rattle.im_engine.specs.declared.engine.Engine.{Engine}
use Rattle.im_engine.specs.Kept.{disk_of}
use Rattle.im_tool_lines.specs.declared.store_life.LifeOptions.{LifeOptions}
use Rattle.im_tool_drill.specs.StoreRuns.{IsByOwnNames, IsOpening}
use Rattle.im_tool_every.specs.Opened.{IsStopped}

pub stopped_so : (model : Ghosts ModelDisk) (d : Ghosts (Renamed ModelDisk)) (options : LifeOptions) (stop : Stop) (old armed : ModelDisk) (named : Renamed ModelDisk) (result : Result (Engine (Renamed ModelDisk) d) (Fault × Renamed ModelDisk))
    (end next : ModelDisk) → IsArmed (record (armed_of old) { stop = Some stop }) old armed → IsByOwnNames armed named → IsOpening d options named result → (disk_of d result).disk ≡ end
    → ((file : FileId) → IsLeftBy (model_stop end) (file_of end file) (model.seen next file)) → IsFresh next → IsStopped model d options stop old next
stopped_so model d options stop old armed named result end next arms own opened is leaves fresh = record {
  armed = armed;
  arms = arms;
  named = named;
  own = own;
  result = result;
  opened = opened;
  leaves = subst (λ (x : ModelDisk). (file : FileId) → IsLeftBy (model_stop x) (file_of x file) (model.seen next file)) (sym is) leaves;
  fresh = fresh;
}
