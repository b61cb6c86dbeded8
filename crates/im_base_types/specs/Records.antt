-- The records of the log as data.
use Rattle.std.specs.Prelude.{ℕ, List}
use Rattle.im_base_types.specs.Keys.{Key}
use Rattle.im_base_types.specs.Pages.{Body, Page}
use Rattle.im_base_types.specs.declared.tables.ActiveTransaction.{ActiveTransaction}
use Rattle.im_base_types.specs.declared.tables.DirtyPage.{DirtyPage}

-- what a record does, by its kind
pub data What : Type 0 where
  -- a key put into its leaf, or taken out
  InsertKey : (key : Key) (rid : ℕ) → What
  DeleteKey : (key : Key) (rid : ℕ) → What
  -- the compensation of an InsertKey, and of a DeleteKey
  UndoInsert : (key : Key) (rid : ℕ) → What
  UndoDelete : (key : Key) (rid : ℕ) → What
  -- one page of a structure change, and its undo
  Smo : (before after : Body) → What
  UndoSmo : (after : Body) → What
  -- the end of a structure change
  DummyClr : What
  -- a transaction's end: its effect counts, or nothing of it is left
  Commit : What
  End : What
  -- a full copy of a page
  Image : (copy : Page) → What
  -- the two tables at a moment, with the next transaction number
  Checkpoint : (next : ℕ) (active : List ActiveTransaction) (dirty : List DirtyPage) → What
  -- a record whose page image is no page: no lawful log has it
  Unreadable : What

-- a record in its place in the log
pub record Logged : Type 0 where
  pub lsn : ℕ
  -- the transaction, 0 for a record of none
  pub txn : ℕ
  -- the transaction's preceding record, 0 for none
  pub prev : ℕ
  -- for compensations the next record to undo, 0 for none
  pub undo_next : ℕ
  -- the page that it changes
  pub page : ℕ
  pub what : What
