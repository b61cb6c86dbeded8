use Rattle.std.proofs.Common.{◌≡◌, ◌∙◌, List, take, arith, subst}
use Rattle.std.proofs.lemmas.Grind.{common_steps}
use Rattle.im_base_model_disk.specs.contracts.model_disk.ModelDiskDisk.TheImpl.{ghosts}
use Rattle.im_tool_drill.proofs.NamedDisk.{named_ghosts}
use Rattle.im_tool_every.specs.declared.ways.Way.{Way}
use Rattle.im_tool_every.specs.Counted.{AreInTurn}
use Rattle.im_tool_every.specs.Swept.{IsRestart}
use Rattle.im_tool_every.proofs.Turns.{in_turn_more}
use Rattle.im_tool_every.proofs.every.stop_restart.Goals as goal

pub loop-way-preserved : goal.loop-way-preserved
loop-way-preserved g c =
    in_turn_more (λ way. IsRestart ghosts named_ghosts c.args.options c.args.asked.now c.args.left.now c.args.call way) c.ways-ways.result.now c.loop-way.way-index _ c.args.counts.now c.loop-way.counts
    c.one_restart.new.counts c.loop-way-test.true c.loop-way.invariant c.in_ok-one_restart.ensures

pub returns : goal.returns
returns g c =
    let all : take c.loop-way.way-index c.ways-ways.result.now ≡ c.ways-ways.result.now = grind (arith, common_steps) in
    subst (λ (l : List Way). AreInTurn (λ way. IsRestart ghosts named_ghosts c.args.options c.args.asked.now c.args.left.now c.args.call way) l c.args.counts.now c.loop-way.counts) (all ∙ c.ways-ways.ensures) c.loop-way.invariant
