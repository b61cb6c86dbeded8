use Rattle.std.proofs.Common.{◌≡◌, ◌∙◌, List, take, arith, refl, subst}
use Rattle.std.proofs.lemmas.Grind.{common_steps}
use Rattle.std.specs.Global.{Vec}
use Rattle.im_base_model_disk.specs.contracts.model_disk.ModelDiskDisk.TheImpl.{ghosts}
use Rattle.im_tool_drill.proofs.NamedDisk.{named_ghosts}
use Rattle.im_tool_lines.specs.declared.store_life.LifeOptions.{LifeOptions}
use Rattle.im_tool_lines.specs.declared.store_life.StoreLine.{StoreLine}
use Rattle.im_tool_every.specs.declared.every.Counts.{Counts}
use Rattle.im_tool_every.specs.declared.ways.Way.{Way}
use Rattle.im_tool_every.specs.Counted.{AreInTurn}
use Rattle.im_tool_every.specs.Failing.{IsLater}
use Rattle.im_tool_every.proofs.Lives.{same_then}
use Rattle.im_tool_every.proofs.Turns.{in_turn_same}
use Rattle.im_tool_every.proofs.failing.fail_later.Goals as goal

pub loop-way-init : goal.loop-way-init
loop-way-init g c = record { later = refl; life = record { options = refl; lines = refl } }

pub loop-way-preserved : goal.loop-way-preserved
loop-way-preserved g c =
    let same = c.loop-way.invariant.life in
    let life = c.args.life.now in
    record {
      later =
          in_turn_same (λ (o : LifeOptions) (ls : Vec StoreLine) (way : Way) (old new : Counts). IsLater ghosts named_ghosts c.args.start.now o ls way old new) life c.loop-way.life same c.ways-ways.result.now c.loop-way.way-index _
          c.args.counts.now c.loop-way.counts c.fail_after.new.counts c.loop-way-test.true c.loop-way.invariant.later c.in_ok-fail_after.ensures.later;
      life = same_then life c.loop-way.life c.fail_after.new.life same c.in_ok-fail_after.ensures.life;
    }

pub returns : goal.returns
returns g c =
    let all : take c.loop-way.way-index c.ways-ways.result.now ≡ c.ways-ways.result.now = grind (arith, common_steps) in
    subst (λ (l : List Way). AreInTurn (λ way. IsLater ghosts named_ghosts c.args.start.now c.args.life.now.options c.args.life.now.lines way) l c.args.counts.now c.loop-way.counts) (all ∙ c.ways-ways.ensures) c.loop-way.invariant.later
