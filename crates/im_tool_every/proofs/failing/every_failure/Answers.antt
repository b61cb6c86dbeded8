use Rattle.std.proofs.Common.{None}
use Rattle.std.specs.Global.{Vec}
use Rattle.im_base_model_disk.specs.contracts.model_disk.ModelDiskDisk.TheImpl.{ghosts}
use Rattle.im_tool_drill.proofs.NamedDisk.{named_ghosts}
use Rattle.im_tool_lines.specs.declared.store_life.LifeOptions.{LifeOptions}
use Rattle.im_tool_lines.specs.declared.store_life.StoreLine.{StoreLine}
use Rattle.im_tool_every.specs.Counted.{none_counted}
use Rattle.im_tool_every.specs.Failing.{AreLater}
use Rattle.im_tool_every.proofs.LikeLives.{by_set}
use Rattle.im_tool_every.proofs.failing.every_failure.Goals as goal

pub returns : goal.returns
returns g c =
    let life = c.args.life.now in
    let lives = c.fail_each.new.counts in
    let later = c.fail_later.new.counts in
    record {
      lives = lives;
      failed = c.in_ok-fail_each.ensures.failures;
      later = later;
      after = by_set (λ (o : LifeOptions) (ls : Vec StoreLine). AreLater ghosts named_ghosts c.args.start.now o ls none_counted later) None None life c.fail_each.new.life c.in_ok-fail_each.ensures.life c.in_ok-fail_later.ensures;
      both = c.with_later.ensures;
    }
