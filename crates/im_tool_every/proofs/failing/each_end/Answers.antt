use Rattle.std.proofs.Common.{◌≡◌, ◌∙◌, List, take, arith, refl, subst}
use Rattle.std.proofs.lemmas.Grind.{common_steps}
use Rattle.std.specs.Global.{Vec}
use Rattle.im_base_model_disk.specs.contracts.model_disk.ModelDiskDisk.TheImpl.{ghosts}
use Rattle.im_tool_drill.proofs.NamedDisk.{named_ghosts}
use Rattle.im_tool_lines.specs.declared.store_life.LifeOptions.{LifeOptions}
use Rattle.im_tool_lines.specs.declared.store_life.StoreLine.{StoreLine}
use Rattle.im_tool_every.specs.declared.every.Counts.{Counts}
use Rattle.im_tool_every.specs.declared.ways.Way.{Way}
use Rattle.im_tool_every.specs.Counted.{AreInTurn}
use Rattle.im_tool_every.specs.Failing.{failing, IsFailure}
use Rattle.im_tool_every.proofs.LikeLives.{set_same}
use Rattle.im_tool_every.proofs.Turns.{in_turn_set}
use Rattle.im_tool_every.proofs.failing.each_end.Goals as goal

pub loop-way-init : goal.loop-way-init
loop-way-init g c = record { failures = refl; life = record { options = refl; lines = refl } }

pub loop-way-preserved : goal.loop-way-preserved
loop-way-preserved g c =
    let set = c.loop-way.invariant.life in
    let life = c.args.life.now in
    record {
      failures =
          in_turn_set (λ (o : LifeOptions) (ls : Vec StoreLine) (way : Way) (old new : Counts). IsFailure ghosts named_ghosts c.args.start.now o ls c.args.plain.now way old new) c.args.call c.args.read life c.loop-way.life set
          c.ways-ways.result.now c.loop-way.way-index _ c.args.counts.now c.loop-way.counts c.one_failure.new.counts c.loop-way-test.true c.loop-way.invariant.failures c.in_ok-one_failure.ensures.failure;
      life = set_same c.args.call c.args.read life c.loop-way.life c.one_failure.new.life set c.in_ok-one_failure.ensures.life;
    }

pub returns-clause-failures : goal.returns-clause-failures
returns-clause-failures g c =
    let all : take c.loop-way.way-index c.ways-ways.result.now ≡ c.ways-ways.result.now = grind (arith, common_steps) in
    subst (λ (l : List Way). AreInTurn (λ way. IsFailure ghosts named_ghosts c.args.start.now (failing c.args.life.now.options c.args.call c.args.read) c.args.life.now.lines c.args.plain.now way) l c.args.counts.now c.loop-way.counts)
    (all ∙ c.ways-ways.ensures) c.loop-way.invariant.failures
