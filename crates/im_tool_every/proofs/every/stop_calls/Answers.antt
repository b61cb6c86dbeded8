use Rattle.std.proofs.Common.{◌≡◌, ◌+◌, ℕ, arith, refl, subst}
use Rattle.std.proofs.lemmas.Grind.{common_steps}
use Rattle.std.specs.Global.{Vec}
use Rattle.im_base_model_disk.specs.contracts.model_disk.ModelDiskDisk.TheImpl.{ghosts}
use Rattle.im_tool_drill.proofs.NamedDisk.{named_ghosts}
use Rattle.im_tool_lines.specs.declared.store_life.LifeOptions.{LifeOptions}
use Rattle.im_tool_lines.specs.declared.store_life.StoreLine.{StoreLine}
use Rattle.im_tool_every.specs.Counted.{AreCalls}
use Rattle.im_tool_every.specs.Swept.{AreStopsAt}
use Rattle.im_tool_every.proofs.Lives.{by_same, same_then}
use Rattle.im_tool_every.proofs.Turns.{calls_more}
use Rattle.im_tool_every.proofs.every.stop_calls.Goals as goal

pub loop-i-init : goal.loop-i-init
loop-i-init g c = record { stops = refl; life = record { options = refl; lines = refl } }

pub loop-i-preserved : goal.loop-i-preserved
loop-i-preserved g c =
    let same = c.loop-i.invariant.life in
    let life = c.args.life.now in
    let stops = by_same (λ (o : LifeOptions) (ls : Vec StoreLine). AreStopsAt ghosts named_ghosts c.args.start.now o ls c.args.stops (c.loop-i.i + 1) c.loop-i.counts c.stop_call.new.counts) life c.loop-i.life same c.in_ok-stop_call.ensures.stops in
    record {
      stops = calls_more (AreStopsAt ghosts named_ghosts c.args.start.now life.options life.lines c.args.stops) c.loop-i.i c.args.counts.now c.loop-i.counts c.stop_call.new.counts c.loop-i.invariant.stops stops;
      life = same_then life c.loop-i.life c.stop_call.new.life same c.in_ok-stop_call.ensures.life;
    }

pub returns-clause-stops : goal.returns-clause-stops
returns-clause-stops g c =
    let all : c.loop-i.i ≡ c.args.calls = grind (arith, common_steps) in
    subst (λ (n : ℕ). AreCalls (AreStopsAt ghosts named_ghosts c.args.start.now c.args.life.now.options c.args.life.now.lines c.args.stops) n c.args.counts.now c.loop-i.counts) all c.loop-i.invariant.stops
