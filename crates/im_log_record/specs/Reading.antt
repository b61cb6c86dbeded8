-- Which record bytes spell, as a function: the fields are read from left to right.
use Rattle.std.specs.Prelude.{◌≡◌, ℕ, ◌*◌, ◌<◌, Bool, true, List, [], ◌∷◌, length, get_or, take, drop, map, Option, Some, None, Result, Ok, Err, nat_lt, nat_le, ◌==◌, ◌&&◌, if◌then◌else◌}
use Rattle.std.specs.Int.{w16, w32, w64, from_be_bytes}
use Rattle.std.specs.Simd.{first_chunks}
use Rattle.im_base_types.specs.declared.fault.Fault.{Fault}
use Rattle.im_base_types.specs.declared.fault.Fault.TheVariants.{NotAStore}
use Rattle.im_base_types.specs.declared.tables.ActiveTransaction.{ActiveTransaction}
use Rattle.im_base_types.specs.declared.tables.DirtyPage.{DirtyPage}
use Rattle.im_log_record.specs.declared.fields.Head.{Head}
use Rattle.im_log_record.specs.declared.kind.Kind.{Kind}
use Rattle.im_log_record.specs.declared.kind.Kind.TheVariants as kinds
use Rattle.im_log_record.specs.Entry.{active_in, dirty_in, Entry, InsertKey, DeleteKey, UndoInsert, UndoDelete, Smo, UndoSmo, DummyClr, Commit, End, Image, Checkpoint}
use Rattle.im_log_record.specs.Kind.{kind_at}

-- one reading after another: nothing where the first gives nothing
infixl 10 ◌>>=◌
abbrev pub ◌>>=◌ : {A B : Type 0} → Option A → (A → Option B) → Option B
(Some x) >>= f = f x
None >>= f = None

-- What a function returned, seen by view, is what reading gives.
abbrev pub Reads : {X Y : Type 0} → (X → Y) → Option X → Option Y → Type 0
Reads view (Some x) read = read ≡ Some (view x)
Reads view None read = read ≡ None

-- the bytes of a part, and those after it
unfoldable pub part_at : ℕ → List ℕ → Option (List ℕ × List ℕ)
part_at n bytes = if nat_le n (length bytes) then Some (take n bytes, drop n bytes) else None

-- a byte, and the bytes after it
unfoldable pub byte_at : List ℕ → Option (ℕ × List ℕ)
byte_at [] = None
byte_at (byte ∷ rest) = Some (byte, rest)

-- a number of two bytes, and the bytes after it
unfoldable pub word16_at : List ℕ → Option (ℕ × List ℕ)
word16_at bytes = do
  word ← part_at 2 bytes
  Some (from_be_bytes w16 word.0, word.1)

-- a number of four bytes, and the bytes after it
unfoldable pub word32_at : List ℕ → Option (ℕ × List ℕ)
word32_at bytes = do
  word ← part_at 4 bytes
  Some (from_be_bytes w32 word.0, word.1)

-- a number of eight bytes, and the bytes after it
unfoldable pub word64_at : List ℕ → Option (ℕ × List ℕ)
word64_at bytes = do
  word ← part_at 8 bytes
  Some (from_be_bytes w64 word.0, word.1)

-- the fields that every record has, and the payload
unfoldable pub head_at : List ℕ → Option (Head × List ℕ)
head_at bytes = do
  size ← word32_at bytes
  kind ← byte_at size.1
  transaction ← word64_at kind.1
  prev ← word64_at transaction.1
  undo_next ← word64_at prev.1
  page ← word32_at undo_next.1
  Some (record { size = size.0; kind = kind.0; transaction = transaction.0; prev = prev.0; undo_next = undo_next.0; page = page.0 }, page.1)

-- the whole of a payload: a key and a row id
unfoldable pub keyed_at : List ℕ → Option (List ℕ × ℕ)
keyed_at bytes = do
  len ← byte_at bytes
  key ← part_at len.0 len.1
  rid ← word64_at key.1
  if nat_le 1 len.0 && length rid.1 == 0 then Some (key.0, rid.0) else None

-- a page without its LSN
unfoldable pub body_at : List ℕ → Option (List ℕ × List ℕ)
body_at bytes = do
  lsn ← word64_at bytes
  body ← part_at 4088 lsn.1
  if lsn.0 == 0 then Some body else None

-- the whole of a payload: two pages without their LSNs
unfoldable pub bodies_at : List ℕ → Option (List ℕ × List ℕ)
bodies_at bytes = do
  before ← body_at bytes
  after ← body_at before.1
  if length after.1 == 0 then Some (before.0, after.0) else None

-- the whole of a payload: one of them
unfoldable pub last_body_at : List ℕ → Option (List ℕ)
last_body_at bytes = do
  after ← body_at bytes
  if length after.1 == 0 then Some after.0 else None

-- ---- a checkpoint's two lists

-- above the number before, where there is one
abbrev pub is_above : Option ℕ → ℕ → Bool
is_above None n = true
is_above (Some last) n = nat_lt last n

-- each number is above the one before, the first above this one
abbrev pub rises : {X : Type 0} → (X → ℕ) → Option ℕ → List X → Bool
rises number last [] = true
rises number last (x ∷ xs) = is_above last (number x) && rises number (Some (number x)) xs

-- so many rows in rising number, of so many bytes each
unfoldable pub rows_at : {X : Type 0} → ℕ → (List ℕ → X) → (X → ℕ) → ℕ → List ℕ → Option (List X × List ℕ)
rows_at width row number n bytes = do
  spelled ← part_at (width * n) bytes
  if rises number None (map row (first_chunks width n spelled.0)) then Some (map row (first_chunks width n spelled.0), spelled.1) else None

-- so many active transactions
unfoldable pub actives_at : ℕ → List ℕ → Option (List ActiveTransaction × List ℕ)
actives_at n bytes = rows_at 24 active_in (λ a. a.transaction) n bytes

-- so many dirty pages
unfoldable pub dirties_at : ℕ → List ℕ → Option (List DirtyPage × List ℕ)
dirties_at n bytes = rows_at 12 dirty_in (λ d. d.page) n bytes

-- a count with its limit
unfoldable pub count_at : ℕ → List ℕ → Option (ℕ × List ℕ)
count_at most bytes = do
  count ← word16_at bytes
  if nat_le count.0 most then Some count else None

-- the whole of a payload: the next transaction number and the lists
unfoldable pub tables_at : List ℕ → Option (ℕ × List ActiveTransaction × List DirtyPage)
tables_at bytes = do
  next ← word64_at bytes
  actives ← count_at 64 next.1
  active ← actives_at actives.0 actives.1
  dirties ← count_at 1024 active.1
  dirty ← dirties_at dirties.0 dirties.1
  if length dirty.1 == 0 then Some (next.0, active.0, dirty.0) else None

-- a transaction wrote the record
abbrev pub has_owner : Head → Bool
has_owner head = nat_le 1 head.transaction

-- a transaction wrote the record, and it compensates nothing
abbrev pub has_plain_owner : Head → Bool
has_plain_owner head = nat_le 1 head.transaction && head.undo_next == 0

-- no transaction wrote the record
abbrev pub has_none : Head → Bool
has_none head = head.transaction == 0 && head.prev == 0 && head.undo_next == 0

-- the record of a kind that a head and a payload spell
unfoldable pub entry_at : Head → Kind → List ℕ → Option Entry
entry_at head kinds.InsertKey payload = do
  key ← keyed_at payload
  if has_plain_owner head then Some (InsertKey head.transaction head.prev head.page key.0 key.1) else None
entry_at head kinds.DeleteKey payload = do
  key ← keyed_at payload
  if has_plain_owner head then Some (DeleteKey head.transaction head.prev head.page key.0 key.1) else None
entry_at head kinds.UndoInsert payload = do
  key ← keyed_at payload
  if has_owner head then Some (UndoInsert head.transaction head.prev head.undo_next head.page key.0 key.1) else None
entry_at head kinds.UndoDelete payload = do
  key ← keyed_at payload
  if has_owner head then Some (UndoDelete head.transaction head.prev head.undo_next head.page key.0 key.1) else None
entry_at head kinds.Smo payload = do
  pages ← bodies_at payload
  if has_plain_owner head then Some (Smo head.transaction head.prev head.page pages.0 pages.1) else None
entry_at head kinds.UndoSmo payload = do
  after ← last_body_at payload
  if has_owner head then Some (UndoSmo head.transaction head.prev head.undo_next head.page after) else None
entry_at head kinds.DummyClr payload =
    if has_owner head && head.page == 0 && length payload == 0 then Some (DummyClr head.transaction head.prev head.undo_next) else None
entry_at head kinds.Commit payload =
    if has_plain_owner head && head.page == 0 && length payload == 0 then Some (Commit head.transaction head.prev) else None
entry_at head kinds.End payload =
    if has_plain_owner head && head.page == 0 && length payload == 0 then Some (End head.transaction head.prev) else None
entry_at head kinds.Image payload =
    if has_none head && length payload == 4096 then Some (Image head.page payload) else None
entry_at head kinds.Checkpoint payload = do
  tables ← tables_at payload
  if has_none head && head.page == 0 then Some (Checkpoint tables.0 tables.1 tables.2) else None

-- the record that the bytes spell, all of them
unfoldable pub entry_of : List ℕ → Option Entry
entry_of bytes = do
  head ← head_at bytes
  kind ← kind_at head.0.kind
  if head.0.size == length bytes then entry_at head.0 kind head.1 else None

-- the record at the front of the bytes, and the bytes after it
unfoldable pub first_entry : List ℕ → Option (Entry × List ℕ)
first_entry bytes = do
  size ← word32_at bytes
  parts ← part_at size.0 bytes
  said ← entry_of parts.0
  Some (said, parts.1)

-- What decoding returned, seen by view, is what reading gives; where that is nothing, it is refused.
abbrev pub Gives : {X Y : Type 0} → (X → Y) → Result X Fault → Option Y → Type 0
Gives view (Ok x) read = read ≡ Some (view x)
Gives view (Err e) read = (e ≡ NotAStore) × (read ≡ None)

-- each number of the list is a byte
abbrev pub IsBytes : List ℕ → Type 0
IsBytes bytes = (i : ℕ) → get_or bytes i 0 < 256
