use Rattle.std.proofs.Common.{◌≡◌, ◌<◌, ◌≤◌, ℕ, get_or, min}
use Rattle.std.specs.Prelude.{IsOk}
use Rattle.im_page_rounds.specs.declared.worker.Worker.{Worker}
use Rattle.im_page_rounds.specs.Workers.{count_below}
use Rattle.im_page_rounds.proofs.workers.count_of.Given as goal

abbrev pub invariant-loop-worker : goal.invariant-loop-worker
invariant-loop-worker l = record {
  all : (k : ℕ) (w : Worker) → k < l.worker-index → IsOk (get_or l.workers k w).applied;
  count : (w : Worker) → l.count ≡ min (count_below l.workers w l.worker-index) l.most;
  few : l.count ≤ l.most;
}
