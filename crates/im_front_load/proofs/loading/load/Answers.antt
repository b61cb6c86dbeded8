use Rattle.std.proofs.Common.{◌≤◌, subst}
use Rattle.std.specs.List.{sum_by}
use Rattle.im_front_load.proofs.Counting.{sum_is_more}
use Rattle.im_front_load.proofs.loading.load.Goals as goal

pub returns-clause-steps : goal.returns-clause-steps
returns-clause-steps g c =
    let made = sum_by (λ s. s.made.amount) c.in_ok-shares.shares.items in
    let less = c.in_ok-shares.ensures.steps c.args.args.txns c.args.args.flush c.in_ok-ended.ensures.done in
    sum_is_more c.close.result.sum _ made _ (subst (λ n. n ≤ made) c.in_ok-ended.ensures.least less) c.close.ensures.sum
