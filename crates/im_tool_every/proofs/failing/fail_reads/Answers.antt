use Rattle.std.proofs.Common.{◌≡◌, ◌+◌, ℕ, None, Some, arith, refl, subst}
use Rattle.std.proofs.lemmas.Grind.{common_steps}
use Rattle.std.specs.Global.{Vec}
use Rattle.im_base_model_disk.specs.contracts.model_disk.ModelDiskDisk.TheImpl.{ghosts}
use Rattle.im_tool_drill.proofs.NamedDisk.{named_ghosts}
use Rattle.im_tool_lines.specs.declared.store_life.LifeOptions.{LifeOptions}
use Rattle.im_tool_lines.specs.declared.store_life.StoreLine.{StoreLine}
use Rattle.im_tool_every.specs.Counted.{AreCalls}
use Rattle.im_tool_every.specs.Failing.{failing, AreReadFailures, AreFailures}
use Rattle.im_tool_every.proofs.LikeLives.{by_like, like_then}
use Rattle.im_tool_every.proofs.Turns.{calls_more}
use Rattle.im_tool_every.proofs.failing.fail_reads.Goals as goal

pub loop-i-init : goal.loop-i-init
loop-i-init g c = record { reads = refl; life = record { options = refl; lines = refl } }

pub loop-i-preserved : goal.loop-i-preserved
loop-i-preserved g c =
    let like = c.loop-i.invariant.life in
    let life = c.args.life.now in
    let one =
    by_like (λ (o : LifeOptions) (ls : Vec StoreLine). AreFailures ghosts named_ghosts c.args.start.now (failing o None (Some (c.loop-i.i + 1))) ls c.args.plain.now c.loop-i.counts c.each_end.new.counts) life c.loop-i.life like
    c.in_ok-each_end.ensures.failures in
    record {
      reads = calls_more (AreReadFailures ghosts named_ghosts c.args.start.now life.options life.lines c.args.plain.now) c.loop-i.i c.args.counts.now c.loop-i.counts c.each_end.new.counts c.loop-i.invariant.reads one;
      life = like_then None (Some (c.loop-i.i + 1)) life c.loop-i.life c.each_end.new.life like c.in_ok-each_end.ensures.life;
    }

pub returns-clause-reads : goal.returns-clause-reads
returns-clause-reads g c =
    let all : c.loop-i.i ≡ c.args.reads = grind (arith, common_steps) in
    subst (λ (n : ℕ). AreCalls (AreReadFailures ghosts named_ghosts c.args.start.now c.args.life.now.options c.args.life.now.lines c.args.plain.now) n c.args.counts.now c.loop-i.counts) all c.loop-i.invariant.reads
