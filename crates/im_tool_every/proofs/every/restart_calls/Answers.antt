use Rattle.std.proofs.Common.{◌≡◌, ℕ, arith, refl, subst}
use Rattle.std.proofs.lemmas.Grind.{common_steps}
use Rattle.im_base_model_disk.specs.contracts.model_disk.ModelDiskDisk.TheImpl.{ghosts}
use Rattle.im_tool_drill.proofs.NamedDisk.{named_ghosts}
use Rattle.im_tool_every.specs.Counted.{AreCalls}
use Rattle.im_tool_every.specs.Swept.{AreRestartsAt}
use Rattle.im_tool_every.proofs.Turns.{calls_more}
use Rattle.im_tool_every.proofs.every.restart_calls.Goals as goal

pub loop-i-preserved : goal.loop-i-preserved
loop-i-preserved g c =
    calls_more (AreRestartsAt ghosts named_ghosts c.args.options c.args.asked.now c.args.stops c.args.left.now) c.loop-i.i c.args.counts.now c.loop-i.counts c.stop_restart.new.counts c.loop-i.invariant c.in_ok-stop_restart.ensures

pub returns : goal.returns
returns g c =
    let all : c.loop-i.i ≡ c.args.calls = grind (arith, common_steps) in
    subst (λ (n : ℕ). AreCalls (AreRestartsAt ghosts named_ghosts c.args.options c.args.asked.now c.args.stops c.args.left.now) n c.args.counts.now c.loop-i.counts) all c.loop-i.invariant
