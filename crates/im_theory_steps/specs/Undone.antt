-- Changes of a transaction that are taken back while others go on.
use Rattle.std.specs.Prelude.{◌≡◌, ◌≢◌, ◌+◌, ◌<◌, ℕ, false, List, [], ◌∷◌, Some, length, find, map}
use Rattle.im_base_types.specs.Changes.{Change, Effect, undone}
use Rattle.im_base_types.specs.Records.{End, Logged}
use Rattle.im_theory_log.specs.Histories.{History, Base}
use Rattle.im_theory_log.specs.Transactions.{change_of, contents, net, last_of, undo_next_of, to_undo, is_finished}
use Rattle.im_base_types.specs.Answers as answers
use Rattle.im_base_types.specs.Answers.{Continue, More, Done, RolledBack}
use Rattle.im_base_types.specs.Lives.{Shown}
use Rattle.im_base_txn.specs.declared.transaction.Mark.TheVariants.{Going, RollingBack, Returning}
use Rattle.im_base_txn.specs.declared.transaction.Transaction.{Transaction}
use Rattle.im_base_txn.specs.Rows.{is_of, changed, with_mark}
use Rattle.im_base_txn.specs.LookUps.{without}
use Rattle.im_theory_machine.specs.Table.{Table, IsReleased}
use Rattle.im_theory_machine.specs.View.{View, TookBack, owner_in, marked, undid_more, undid_last, change_made}
use Rattle.im_theory_steps.specs.Growth.{TakesBack, IsOfOthers, IsOver, GrowsWithin, GrowsByStructure}
use Rattle.im_theory_steps.specs.Serving.{IsServing, IsServed}
use Rattle.im_theory_steps.specs.Steps.{noted, with_undone}

-- The log has grown within t, by whatever took back one change: of what t had left to undo the newest record is left no more, it made this change, and the tree's map lacks that one alone.
pub record UndoesNewest (b : Base) (t : ℕ) (c : Change) (older longer : History) : Type 0 where
  pub grows : GrowsWithin t older longer
  pub newest : Logged
  pub made : change_of newest.what ≡ c ∷ []
  pub stack : to_undo t older ≡ newest ∷ to_undo t longer
  pub walk : contents b longer ≡ undone (contents b older) c

-- So the committed effects and the other transactions are as they were, and t's net lacks that change.
abbrev pub UndoTakesBack : Type 0
UndoTakesBack = (b : Base) (t : ℕ) (c : Change) (older longer : History) → UndoesNewest b t c older longer → TakesBack b t c older longer × IsOfOthers t older longer

-- The transaction ended there: its last change is taken back, and nothing is left to undo.
pub record IsEndedBack (b : Base) (t : ℕ) (c : Change) (older longer : History) : Type 0 where
  pub back : TakesBack b t c older longer
  pub others : IsOfOthers t older longer
  pub none : net t longer ≡ []
  pub over : IsOver t longer
  pub stack : to_undo t longer ≡ []

-- The End after the last change leaves that.
abbrev pub EndsLeaveNothing : Type 0
EndsLeaveNothing = (b : Base) (t : ℕ) (c : Change) (older between : History) (last : Logged) → UndoesNewest b t c older between → net t between ≡ [] → last.txn ≡ t → last.what ≡ End → IsEndedBack b t c older (last ∷ between)

-- A transaction that rolls back has something left to undo, but where its last change was taken back and the leaf that this left empty still goes.
abbrev pub RollingBackHasMore : Type 0
RollingBackHasMore = (b : Base) (earlier before : List Effect) (s : Shown) (v : View) (log : History) (rows : List Transaction) (next : ℕ) (held : Table) (t : ℕ) (row : Transaction)
    → IsServing b earlier before s v log rows next held → find (is_of t) rows ≡ Some row → row.mark ≡ RollingBack → owner_in v ≢ Some t → to_undo t log ≢ []

-- the rows after a change of t was taken back
abbrev pub uncounted : ℕ → History → List Transaction → List Transaction
uncounted t log rows = map (changed t (with_undone (last_of t log) (undo_next_of t log))) rows

-- A change was taken back, with others left: the row notes where the transaction's records now end, and where its undo goes on.
abbrev pub UndoneChangesAreServed : Type 0
UndoneChangesAreServed = (b : Base) (earlier before : List Effect) (s : Shown) (v : View) (older longer : History) (rows : List Transaction) (next : ℕ) (held : Table) (t : ℕ) (row : Transaction) (c : Change)
    → IsServing b earlier before s v older rows next held → find (is_of t) rows ≡ Some row → row.mark ≡ RollingBack → UndoesNewest b t c older longer → net t longer ≢ [] → is_finished t longer ≡ false
    → IsServed b earlier before s v (Continue t) More (undid_more v t c (net t longer)) longer (uncounted t longer rows) next held

-- The last change was taken back, and the End came after it: row and locks go.
abbrev pub LastUndoneChangesAreServed : Type 0
LastUndoneChangesAreServed = (b : Base) (earlier before : List Effect) (s : Shown) (v : View) (older between : History) (rows : List Transaction) (next : ℕ) (old new : Table) (t : ℕ) (row : Transaction) (c : Change) (last : Logged)
    → IsServing b earlier before s v older rows next old → find (is_of t) rows ≡ Some row → row.mark ≡ RollingBack → UndoesNewest b t c older between → net t between ≡ [] → last.txn ≡ t → last.what ≡ End
    → IsReleased old t new → length rows ≡ length (without t rows) + 1
    → IsServed b earlier before s v (Continue t) RolledBack (undid_last v t c) (last ∷ between) (without t rows) next new

-- ---- of one that returns to its first n changes

-- It has more than these left to undo, but where the leaf still goes that its newest change left empty.
abbrev pub ReturningHasMore : Type 0
ReturningHasMore = (b : Base) (earlier before : List Effect) (s : Shown) (v : View) (log : History) (rows : List Transaction) (next : ℕ) (held : Table) (t n : ℕ) (row : Transaction)
    → IsServing b earlier before s v log rows next held → find (is_of t) rows ≡ Some row → row.mark ≡ Returning n → owner_in v ≢ Some t → n < row.changes

-- A change was taken back, with more than n left, or with n left: then it goes on.
abbrev pub ReturnsGoOn : Type 0
ReturnsGoOn = (b : Base) (earlier before : List Effect) (s : Shown) (v : View) (older longer : History) (rows : List Transaction) (next : ℕ) (held : Table) (t n : ℕ) (row : Transaction) (c : Change)
    → IsServing b earlier before s v older rows next held → find (is_of t) rows ≡ Some row → row.mark ≡ Returning n → UndoesNewest b t c older longer → n < length (net t longer) → is_finished t longer ≡ false
    → IsServed b earlier before s v (Continue t) More (undid_more v t c (net t longer)) longer (uncounted t longer rows) next held

abbrev pub ReturnsEnd : Type 0
ReturnsEnd = (b : Base) (earlier before : List Effect) (s : Shown) (v : View) (older longer : History) (rows : List Transaction) (next : ℕ) (held : Table) (t n : ℕ) (row : Transaction) (c : Change)
    → IsServing b earlier before s v older rows next held → find (is_of t) rows ≡ Some row → row.mark ≡ Returning n → UndoesNewest b t c older longer → n ≡ length (net t longer) → is_finished t longer ≡ false
    → IsServed b earlier before s v (Continue t) Done (marked (undid_more v t c (net t longer)) t answers.Going) longer (map (changed t (with_mark Going)) (uncounted t longer rows)) next held

-- The leaf is gone that the last of them left empty.
abbrev pub ReturnsDrop : Type 0
ReturnsDrop = (b : Base) (earlier before : List Effect) (s : Shown) (v : View) (older longer : History) (rows : List Transaction) (next : ℕ) (held : Table) (t n : ℕ) (row : Transaction)
    → IsServing b earlier before s v older rows next held → find (is_of t) rows ≡ Some row → row.mark ≡ Returning n → v.under ≡ Some (record { owner = t; aim = TookBack }) → n ≡ row.changes → GrowsByStructure t older longer
    → IsServed b earlier before s v (Continue t) Done (change_made (marked v t answers.Going)) longer (map (changed t (with_mark Going)) (noted t longer rows)) next held
