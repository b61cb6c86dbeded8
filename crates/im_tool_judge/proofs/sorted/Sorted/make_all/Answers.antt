use Rattle.std.proofs.Common.{sym, ◌∙◌, ap, take}
use Rattle.std.specs.FinMap.{entries}
use Rattle.im_base_types.specs.Maps.{IndexMap}
use Rattle.im_tool_judge.specs.Judged.{made_in_turn}
use Rattle.im_tool_judge.proofs.Entries.{made_more}
use Rattle.im_tool_judge.proofs.sorted.Sorted.make_all.Goals as goal

pub loop-change-preserved : goal.loop-change-preserved
loop-change-preserved c m same =
    c.in_ok-make.ensures (made_in_turn m (take c.loop-change.change-index c.args.changes.now)) (c.loop-change.invariant m same)
    ∙ ap (λ (x : IndexMap). entries x) (sym (made_more m c.args.changes.now c.loop-change.change-index c.change-item.result c.loop-change-test.true c.change-item.is))
