use Rattle.std.proofs.Common.{◌≡◌, ◌*◌}
use Rattle.std.specs.List.{sum_by}
use Rattle.im_front_load.specs.Counting.{least_of}
use Rattle.im_front_load.proofs.loading.jobs_of.Given as goal

-- the steps of the workers so far
abbrev pub invariant-loop-worker : goal.invariant-loop-worker
invariant-loop-worker g l = sum_by (λ j. least_of l.args.txns l.args.flush j.task) l.jobs.items ≡ l.worker * (3 * l.args.txns)
