-- What holds between two steps: what is shown, the machine, the log and the two tables, together.
use Rattle.std.specs.Prelude.{◌≡◌, ◌≤◌, ◌<◌, ℕ, true, false, List, [], ◌++◌, Option, None, Some, length, find}
use Rattle.std.specs.FinMap.{empty}
use Rattle.im_base_types.specs.Changes.{Effect, apply_all, seen}
use Rattle.im_theory_log.specs.Histories.{History, Base}
use Rattle.im_theory_log.specs.Transactions.{committed, last_of, undo_next_of, to_undo, is_finished, net}
use Rattle.im_base_types.specs.Answers as answers
use Rattle.im_base_types.specs.Answers.{Step, Reply}
use Rattle.im_base_types.specs.Lives.{Shown, effects, shows}
use Rattle.im_base_txn.specs.declared.transaction.Mark as marks
use Rattle.im_base_txn.specs.declared.transaction.Mark.TheVariants.{Going, MustRollBack, RollingBack, Returning, Committing}
use Rattle.im_base_txn.specs.declared.transaction.Transaction.{Transaction}
use Rattle.im_base_txn.specs.Rows.{is_of}
use Rattle.im_theory_machine.specs.Table.{Table}
use Rattle.im_theory_machine.specs.Changing.{MatchesWithKept}
use Rattle.im_theory_machine.specs.View.{View, Txn, idle}
use Rattle.im_theory_machine.specs.Machine.{Moves, IsReached}
use Rattle.im_theory_steps.specs.Growth.{IsOver}
use Rattle.im_theory_steps.specs.Seen.{IsSeen}
use Rattle.im_theory_steps.specs.Acknowledged.{Shows}

-- the mark of a row, as the machine has it
abbrev pub mark_of : marks.Mark → answers.Mark
mark_of Going = answers.Going
mark_of MustRollBack = answers.MustRollBack
mark_of RollingBack = answers.RollingBack
mark_of (Returning n) = answers.Returning n
mark_of Committing = answers.Committing

-- A row says where its transaction's records end, where its undo goes on, and how many of its changes are not taken back.
pub record IsRow (row : Transaction) (next : ℕ) (log : History) : Type 0 where
  pub number : 1 ≤ row.number
  pub below : row.number < next
  pub last : row.last ≡ last_of row.number log
  pub undo : row.undo_next ≡ undo_next_of row.number log
  pub unfinished : is_finished row.number log ≡ false
  pub changes : row.changes ≡ length (net row.number log)

-- A row whose Commit is logged and waits for a force: the log has ended its transaction, and leaves nothing of it to undo.
pub record IsWaitingRow (row : Transaction) (next : ℕ) (log : History) : Type 0 where
  pub number : 1 ≤ row.number
  pub below : row.number < next
  pub over : is_finished row.number log ≡ true
  pub stack : to_undo row.number log ≡ []

-- a row, by its mark
abbrev pub IsRowOf : marks.Mark → Transaction → ℕ → History → Type 0
IsRowOf Committing row next log = IsWaitingRow row next log
IsRowOf Going row next log = IsRow row next log
IsRowOf MustRollBack row next log = IsRow row next log
IsRowOf RollingBack row next log = IsRow row next log
IsRowOf (Returning n) row next log = IsRow row next log

-- The transaction as the table has it: active with this row, or not active.
abbrev pub IsAt : ℕ → Option Transaction → ℕ → History → Txn → Type 0
IsAt t None next log x = IsOver t log × (to_undo t log ≡ []) × (x ≡ idle)
IsAt t (Some row) next log x = (row.number ≡ t) × IsRowOf row.mark row next log × (x.mark ≡ mark_of row.mark)

-- The table has each active transaction.
pub record AreRows (rows : List Transaction) (next : ℕ) (log : History) (v : View) : Type 0 where
  pub each : (t : ℕ) → IsAt t (find (is_of t) rows) next log (v.txns t)
  pub active : v.active ≡ length rows
  pub numbers : v.next ≡ next

-- Between two steps of an engine that works: the log is what the machine sees, steps and replies have shown the machine and what it committed, it came here by a
-- run from the map of the effects before this life, the effects that made the log's first map and those that it committed are the ones before this life and the ones
-- asked since, and the two tables are the machine's, that of locks with the one that an Insert keeps which goes on.
pub record IsServing (b : Base) (earlier before : List Effect) (s : Shown) (v : View) (log : History) (rows : List Transaction) (next : ℕ) (held : Table) : Type 0 where
  pub made : apply_all empty earlier ≡ b.map
  pub works : v.failed ≡ false
  pub seen_by : IsSeen b log v
  pub shows : Shows (apply_all empty before) s v
  pub reached : IsReached (apply_all empty before) v
  pub says : earlier ++ seen (committed log) ≡ before ++ effects s.asked
  pub table : AreRows rows next log v
  pub locks : MatchesWithKept v held

-- A step with this reply is a step of the machine, and all goes on.
abbrev pub IsServed : Base → List Effect → List Effect → Shown → View → Step → Reply → View → History → List Transaction → ℕ → Table → Type 0
IsServed b earlier before s v step reply w longer rows next held = Moves v step reply w × IsServing b earlier before (shows s step (Some reply)) w longer rows next held
