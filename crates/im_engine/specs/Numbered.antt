-- Active transactions, the number that is given next, and who waits for a force.
use Rattle.std.specs.Prelude.{ℕ, nat_lt, Bool, true, false, not, List, map, if◌then◌else◌}
use Rattle.im_base_txn.specs.Rows.{changed, with_mark, with_record}
use Rattle.im_base_txn.specs.declared.transaction.Mark.{Mark}
use Rattle.im_base_txn.specs.declared.transaction.Mark.TheVariants.{Going, MustRollBack, RollingBack, Returning, Committing}
use Rattle.im_base_txn.specs.declared.transaction.Transaction.{Transaction}
use Rattle.im_theory_steps.specs.Steps.{with_undone}

pub record Numbered : Type 0 where
  pub rows : List Transaction
  pub next : ℕ
  -- whether a Commit waits for a force
  pub group : Bool
  -- how many wait
  pub waiting : ℕ

-- what a step leaves that changes rows, but begins no transaction and lets none wait
abbrev pub besides_rows : Numbered → ℕ × Bool × ℕ
besides_rows x = (x.next, x.group, x.waiting)

-- it rolls back whole
abbrev pub is_rolling_back : Mark → Bool
is_rolling_back RollingBack = true
is_rolling_back Going = false
is_rolling_back MustRollBack = false
is_rolling_back (Returning n) = false
is_rolling_back Committing = false

-- it returns to so many changes, and no more are there
abbrev pub is_within : Mark → ℕ → Bool
is_within (Returning n) changes = not (nat_lt n changes)
is_within Going changes = false
is_within MustRollBack changes = false
is_within RollingBack changes = false
is_within Committing changes = false

-- its row after the end of a structure change of a rollback: with a split a change was taken back
abbrev pub with_back : (splits : Bool) → (last undo_next : ℕ) → Transaction → Transaction
with_back true last undo_next = with_undone last undo_next
with_back false last undo_next = with_record last undo_next

-- whether a row is of a transaction that rolls back whole, and ends with its last change
abbrev pub ends_back : Transaction → Bool
ends_back row = is_rolling_back row.mark

-- whether it is of one that returns to a part of its changes, and has no more left
abbrev pub has_returned : Transaction → Bool
has_returned row = is_within row.mark row.changes

-- the rows after a change of this transaction was taken back: where it has returned it goes on
abbrev pub on_again : ℕ → List Transaction → List Transaction
on_again t rows = map (changed t (λ row. if has_returned row then with_mark Going row else row)) rows
