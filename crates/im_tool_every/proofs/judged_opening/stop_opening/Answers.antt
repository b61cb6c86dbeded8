use Rattle.std.proofs.Common.{◌∙◌, ap, sym}
use Rattle.im_base_model_disk.specs.contracts.model_disk.ModelDiskDisk.TheImpl.{ghosts}
use Rattle.im_base_model_disk.specs.declared.model_disk.ModelDisk.{ModelDisk}
use Rattle.im_base_two_logs.specs.declared.renamed.Renamed.{Renamed}
use Rattle.im_tool_drill.proofs.NamedDisk.{named_ghosts, own_synced, own_working}
use Rattle.im_tool_every.proofs.Opens.{stopped_so}
use Rattle.im_tool_every.proofs.judged_opening.stop_opening.Goals as goal

pub open_store-requires-clause-working : goal.open_store-requires-clause-working
open_store-requires-clause-working g c lifetimes within = own_working c.arm.new.self c.new.result (c.new.ensures.disk, c.new.ensures.swapped) (c.arm.ensures.failed ∙ c.requires.working)

pub open_store-requires-clause-synced : goal.open_store-requires-clause-synced
open_store-requires-clause-synced g c lifetimes within = own_synced c.arm.new.self c.new.result (c.new.ensures.disk, c.new.ensures.swapped) (c.arm.ensures.synced c.requires.synced)

pub returns-in_ok-next-in-Ok-clause-stopped : goal.returns-in_ok-next-in-Ok-clause-stopped
returns-in_ok-next-in-Ok-clause-stopped g c =
    stopped_so ghosts named_ghosts c.args.options c.args.stop c.args.disk _ c.new.result _ _ _ c.arm.ensures.armed (c.new.ensures.disk, c.new.ensures.swapped) c.in-Ok.ensures.opening
    (sym (c.into_disk-disk.ensures ∙ ap (λ (n : Renamed ModelDisk). n.disk) c.into_disk.ensures)) c.in_ok-next-in-Ok.ensures.bytes c.in_ok-next-in-Ok.ensures.fresh

pub returns-in_ok-left-in-Err-clause-stopped : goal.returns-in_ok-left-in-Err-clause-stopped
returns-in_ok-left-in-Err-clause-stopped g c =
    stopped_so ghosts named_ghosts c.args.options c.args.stop c.args.disk _ c.new.result _ _ _ c.arm.ensures.armed (c.new.ensures.disk, c.new.ensures.swapped) c.in-Err.ensures.opening (sym c.into_disk-disk-in-Err.ensures)
    c.in_ok-left-in-Err.ensures.bytes c.in_ok-left-in-Err.ensures.fresh
