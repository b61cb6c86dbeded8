use Rattle.std.proofs.Common.{arith}
use Rattle.im_base_model_disk.proofs.Synced.{outside_each, outside_item}
use Rattle.im_base_model_disk.proofs.left.fill_written.Goals as goal

pub returns-clause-outside : goal.returns-clause-outside
returns-clause-outside c place lt out =
    c.loop-at.invariant.outside place (omega (arith, lt, c.loop-at.auto.bytes)) (λ k less. outside_item c.args.writes.now k place (omega (arith, less, c.loop-at.auto.at-index-end)) out)

pub returns-clause-inside : goal.returns-clause-inside
returns-clause-inside c place lt in_some =
    c.loop-at.invariant.inside place (omega (arith, lt, c.loop-at.auto.bytes)) (λ below. in_some (outside_each c.args.writes.now place (λ k less. below k (omega (arith, less, c.loop-at-test.false)))))
