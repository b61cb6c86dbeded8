use Rattle.std.proofs.Common.{◌≡◌, ◌*◌, rules, ap, arith}
use Rattle.im_front_load.proofs.Counting.{one_more}
use Rattle.im_front_load.proofs.loading.jobs_of.Goals as goal

pub loop-worker-preserved : goal.loop-worker-preserved
loop-worker-preserved g c =
    omega (arith, c.loop-worker.invariant, c.in_ok-add.ensures.more c.args.args.now.txns c.args.args.now.flush, one_more c.loop-worker.worker (3 * c.args.args.now.txns))

pub returns-clause-least : goal.returns-clause-least
returns-clause-least g c =
    let all : c.loop-worker.worker ≡ c.args.args.now.threads = search rules in
    let steps = ap (λ n. n * (3 * c.args.args.now.txns)) all in
    omega (arith, c.loop-worker.invariant, c.in_ok-add_flusher.ensures.more c.args.args.now.txns, steps)
