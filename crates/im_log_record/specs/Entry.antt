-- What a record says, without where it lies in memory.
use Rattle.std.specs.Prelude.{ℕ, List, take, drop, map}
use Rattle.std.specs.Int.{w32, w64, from_be_bytes}
use Rattle.im_base_types.specs.declared.tables.ActiveTransaction.{ActiveTransaction}
use Rattle.im_base_types.specs.declared.tables.DirtyPage.{DirtyPage}
use Rattle.im_log_record.specs.declared.active_list.ActiveList.{ActiveList}
use Rattle.im_log_record.specs.declared.active_list.ActiveList.TheVariants as actives
use Rattle.im_log_record.specs.declared.dirty_list.DirtyList.{DirtyList}
use Rattle.im_log_record.specs.declared.dirty_list.DirtyList.TheVariants as dirties
use Rattle.im_log_record.specs.declared.record.Record.{Record}
use Rattle.im_log_record.specs.declared.record.Record.TheVariants as records

-- a record's kind and fields, as numbers and lists
pub data Entry : Type 0 where
  InsertKey : (transaction prev page : ℕ) (key : List ℕ) (rid : ℕ) → Entry
  DeleteKey : (transaction prev page : ℕ) (key : List ℕ) (rid : ℕ) → Entry
  UndoInsert : (transaction prev undo_next page : ℕ) (key : List ℕ) (rid : ℕ) → Entry
  UndoDelete : (transaction prev undo_next page : ℕ) (key : List ℕ) (rid : ℕ) → Entry
  Smo : (transaction prev page : ℕ) (before after : List ℕ) → Entry
  UndoSmo : (transaction prev undo_next page : ℕ) (after : List ℕ) → Entry
  DummyClr : (transaction prev undo_next : ℕ) → Entry
  Commit : (transaction prev : ℕ) → Entry
  End : (transaction prev : ℕ) → Entry
  Image : (page : ℕ) (bytes : List ℕ) → Entry
  Checkpoint : (next : ℕ) (active : List ActiveTransaction) (dirty : List DirtyPage) → Entry

-- the active transaction that 24 bytes spell
unfoldable pub active_in : List ℕ → ActiveTransaction
active_in bytes = record {
  transaction = from_be_bytes w64 (take 8 bytes);
  last = from_be_bytes w64 (take 8 (drop 8 bytes));
  undo_next = from_be_bytes w64 (drop 16 bytes);
}

-- the dirty page that 12 bytes spell
unfoldable pub dirty_in : List ℕ → DirtyPage
dirty_in bytes = record { page = from_be_bytes w32 (take 4 bytes); rec_lsn = from_be_bytes w64 (drop 4 bytes) }

-- the rows of a list, given or spelled
abbrev pub active_rows : ActiveList → List ActiveTransaction
active_rows (actives.Rows rows) = rows.now
active_rows (actives.Spelled spelled) = map active_in spelled.now

-- the rows of a list, given or spelled
abbrev pub dirty_rows : DirtyList → List DirtyPage
dirty_rows (dirties.Rows rows) = rows.now
dirty_rows (dirties.Spelled spelled) = map dirty_in spelled.now

-- what a record says
abbrev pub view : Record → Entry
view (records.InsertKey transaction prev page key rid) = InsertKey transaction prev page key.now rid
view (records.DeleteKey transaction prev page key rid) = DeleteKey transaction prev page key.now rid
view (records.UndoInsert transaction prev undo_next page key rid) = UndoInsert transaction prev undo_next page key.now rid
view (records.UndoDelete transaction prev undo_next page key rid) = UndoDelete transaction prev undo_next page key.now rid
view (records.Smo transaction prev page before after) = Smo transaction prev page before.now after.now
view (records.UndoSmo transaction prev undo_next page after) = UndoSmo transaction prev undo_next page after.now
view (records.DummyClr transaction prev undo_next) = DummyClr transaction prev undo_next
view (records.Commit transaction prev) = Commit transaction prev
view (records.End transaction prev) = End transaction prev
view (records.Image page bytes) = Image page bytes.now
view (records.Checkpoint next active dirty) = Checkpoint next (active_rows active) (dirty_rows dirty)

-- the transaction that wrote it, 0 for a record of none
abbrev pub transaction_of : Entry → ℕ
transaction_of (InsertKey transaction prev page key rid) = transaction
transaction_of (DeleteKey transaction prev page key rid) = transaction
transaction_of (UndoInsert transaction prev undo_next page key rid) = transaction
transaction_of (UndoDelete transaction prev undo_next page key rid) = transaction
transaction_of (Smo transaction prev page before after) = transaction
transaction_of (UndoSmo transaction prev undo_next page after) = transaction
transaction_of (DummyClr transaction prev undo_next) = transaction
transaction_of (Commit transaction prev) = transaction
transaction_of (End transaction prev) = transaction
transaction_of (Image page bytes) = 0
transaction_of (Checkpoint next active dirty) = 0

-- that transaction's preceding LSN, 0 for none
abbrev pub prev_of : Entry → ℕ
prev_of (InsertKey transaction prev page key rid) = prev
prev_of (DeleteKey transaction prev page key rid) = prev
prev_of (UndoInsert transaction prev undo_next page key rid) = prev
prev_of (UndoDelete transaction prev undo_next page key rid) = prev
prev_of (Smo transaction prev page before after) = prev
prev_of (UndoSmo transaction prev undo_next page after) = prev
prev_of (DummyClr transaction prev undo_next) = prev
prev_of (Commit transaction prev) = prev
prev_of (End transaction prev) = prev
prev_of (Image page bytes) = 0
prev_of (Checkpoint next active dirty) = 0

-- a compensation's next LSN to undo, 0 for none and for other records
abbrev pub undo_next_of : Entry → ℕ
undo_next_of (InsertKey transaction prev page key rid) = 0
undo_next_of (DeleteKey transaction prev page key rid) = 0
undo_next_of (UndoInsert transaction prev undo_next page key rid) = undo_next
undo_next_of (UndoDelete transaction prev undo_next page key rid) = undo_next
undo_next_of (Smo transaction prev page before after) = 0
undo_next_of (UndoSmo transaction prev undo_next page after) = undo_next
undo_next_of (DummyClr transaction prev undo_next) = undo_next
undo_next_of (Commit transaction prev) = 0
undo_next_of (End transaction prev) = 0
undo_next_of (Image page bytes) = 0
undo_next_of (Checkpoint next active dirty) = 0

-- the page that it changes or copies, 0 for a record of none
abbrev pub page_of : Entry → ℕ
page_of (InsertKey transaction prev page key rid) = page
page_of (DeleteKey transaction prev page key rid) = page
page_of (UndoInsert transaction prev undo_next page key rid) = page
page_of (UndoDelete transaction prev undo_next page key rid) = page
page_of (Smo transaction prev page before after) = page
page_of (UndoSmo transaction prev undo_next page after) = page
page_of (DummyClr transaction prev undo_next) = 0
page_of (Commit transaction prev) = 0
page_of (End transaction prev) = 0
page_of (Image page bytes) = page
page_of (Checkpoint next active dirty) = 0
