use Rattle.std.proofs.Common.{Bool, Some, sym, subst}
use Rattle.im_base_model_disk.specs.contracts.model_disk.ModelDiskDisk.TheImpl.{ghosts}
use Rattle.im_base_model_disk.specs.declared.stop.Stop.{Stop}
use Rattle.im_base_model_disk.specs.Model.{IsArmed, armed_of}
use Rattle.im_tool_every.specs.Stopped.{IsLeftIn}
use Rattle.im_tool_every.proofs.TornFiles.{keeps}
use Rattle.im_tool_every.proofs.every.left_in.Goals as goal

pub returns : goal.returns
returns c =
    let single = keeps c.args.way.keeps_single c.if-not-way.false in
    let arms = subst (λ (s : Stop). IsArmed (record (armed_of c.args.disk) { stop = Some s }) c.args.disk c.arm.new.self) c.written_at.ensures c.arm.ensures.armed in
    subst (λ (b : Bool). IsLeftIn ghosts b c.args.way c.args.disk c.in_ok-next.next) (sym single) (
      c.in_ok-filled.filled,
      c.arm.new.self,
      c.in_ok-written.written,
      record { bytes = c.in_ok-filled.ensures.bytes; fresh = c.in_ok-filled.ensures.fresh },
      arms,
      record { bytes = c.in_ok-written.ensures.bytes; fresh = c.in_ok-written.ensures.fresh },
      c.in_ok-next.ensures.torn,
    )
