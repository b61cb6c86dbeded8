-- What the table tells of the checks of a step.
use Rattle.std.specs.Prelude.{◌≡◌, ℕ, Bool, false, List, Option, None, Some, length, find}
use Rattle.im_base_types.specs.Changes.{Effect}
use Rattle.im_theory_log.specs.Histories.{History, Base}
use Rattle.im_base_types.specs.Answers.{Mark, Idle, Step}
use Rattle.im_base_types.specs.Lives.{Shown}
use Rattle.im_base_txn.specs.declared.transaction.Transaction.{Transaction}
use Rattle.im_base_txn.specs.Rows.{is_of}
use Rattle.im_theory_machine.specs.Table.{Table}
use Rattle.im_theory_machine.specs.View.{View, owns_in}
use Rattle.im_theory_machine.specs.Machine.{barred, first_check, mark_for}
use Rattle.im_theory_steps.specs.Serving.{IsServing, mark_of}

-- the mark of a transaction that is found, or not
abbrev pub mark_at : Option Transaction → Mark
mark_at None = Idle
mark_at (Some row) = mark_of row.mark

-- the marks that the table has
abbrev pub marks_in : List Transaction → ℕ → Mark
marks_in rows t = mark_at (find (is_of t) rows)

-- The first check that a step fails, by the table and by whether an Insert or a Delete of its transaction goes on, where the engine works.
abbrev pub checked_by : List Transaction → Bool → Step → Option ℕ
checked_by rows owns step = first_check false (length rows) (mark_for (marks_in rows) step) owns step

-- It is the machine's.
abbrev pub RowsTellChecks : Type 0
RowsTellChecks = (b : Base) (earlier before : List Effect) (s : Shown) (v : View) (log : History) (rows : List Transaction) (next : ℕ) (held : Table) (step : Step) → IsServing b earlier before s v log rows next held
    → barred v step ≡ checked_by rows (owns_in v.under step) step
