-- How many steps the tasks of a load make.
use Rattle.std.specs.Prelude.{ℕ, ◌*◌, ◌≤◌, IfNone}
use Rattle.im_front_load.specs.declared.job.Task.{Task}
use Rattle.im_front_load.specs.declared.job.Task.TheVariants.{Work, Flush}
use Rattle.im_front_load.specs.declared.job.Ended.{Ended}

-- the steps of a task at least, where each worker makes so many transactions and the flusher so many rounds
abbrev pub least_of : ℕ → ℕ → Task → ℕ
least_of txns rounds (Work worker) = 3 * txns
least_of txns rounds Flush = 9 * rounds

-- a task that came to its end made its steps
abbrev pub IsDone : {L : Type 0} → ℕ → ℕ → Ended L → Type 0
IsDone txns rounds e = IfNone e.fault (least_of txns rounds e.task ≤ e.share.made.amount)
