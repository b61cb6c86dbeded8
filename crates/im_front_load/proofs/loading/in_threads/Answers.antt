use Rattle.std.proofs.Common.{◌≡◌, length, rules, arith, ap, ◌∙◌}
use Rattle.im_front_load.specs.Counting.{least_of}
use Rattle.im_front_load.proofs.Counting.{same_sums}
use Rattle.im_front_load.proofs.loading.in_threads.Goals as goal

pub returns-in-Ok-clause-done : goal.returns-in-Ok-clause-done
returns-in-Ok-clause-done g c =
    λ k d lt. let given = (c.in-Ok.ensures.each k d (omega (arith, lt, c.in-Ok.ensures.len))).1 in search rules

pub returns-in-Ok-clause-least : goal.returns-in-Ok-clause-least
returns-in-Ok-clause-least g c =
    let txns = c.args.args.now.txns in
    let flush = c.args.args.now.flush in
    let len : length c.in_ok-jobs.jobs.items ≡ length c.in-Ok.ended.items = omega (arith, c.in-Ok.ensures.len, c.in-Ok.ended.ok.0, c.in_ok-jobs.jobs.ok.0) in
    same_sums (λ j. least_of txns flush j.task) (λ e. least_of txns flush e.task) c.in_ok-jobs.jobs.items c.in-Ok.ended.items len (λ i d e lt.
    let given = (c.in-Ok.ensures.each i e lt).1 in
    ap (λ j. least_of txns flush j.task) (given.job_is d) ∙ ap (least_of txns flush) (search rules)) ∙ c.in_ok-jobs.ensures.least

pub returns-in-Ok-clause-stops : goal.returns-in-Ok-clause-stops
returns-in-Ok-clause-stops g c =
    λ k d lt. let given = (c.in-Ok.ensures.each k d (omega (arith, lt, c.in-Ok.ensures.len))).1 in search rules
