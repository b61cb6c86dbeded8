use Rattle.std.proofs.Common.{subst}
use Rattle.im_base_model_disk.specs.contracts.model_disk.ModelDiskDisk.TheImpl.{ghosts}
use Rattle.im_base_model_disk.specs.declared.model_disk.ModelDisk.{ModelDisk}
use Rattle.im_tool_lines.specs.Stops.{IsNextDisk}
use Rattle.im_tool_every.proofs.failing.undisturbed.Goals as goal

pub returns-clause-made : goal.returns-clause-made
returns-clause-made g c = record {
  disk = c.in_ok-disk.disk;
  begins = subst (λ (x : ModelDisk). IsNextDisk ghosts x c.in_ok-disk.disk) c.disk.ensures (record { bytes = c.in_ok-disk.ensures.bytes; fresh = c.in_ok-disk.ensures.fresh });
  run = c.in_ok-plain.ensures.run;
}
