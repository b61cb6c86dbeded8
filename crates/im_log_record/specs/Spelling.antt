-- The one spelling of each record, its fields in the order of the bytes.
use Rattle.std.specs.Prelude.{◌≡◌, ℕ, ◌+◌, ◌*◌, ◌<◌, ◌≤◌, ◌^◌, List, [], ◌∷◌, ◌++◌, length, Option, Some, None}
use Rattle.std.specs.List.{flat_map, AllByRecursion}
use Rattle.std.specs.Int.{w16, w32, w64, to_be_bytes}
use Rattle.im_base_types.specs.declared.tables.ActiveTransaction.{ActiveTransaction}
use Rattle.im_base_types.specs.declared.tables.DirtyPage.{DirtyPage}
use Rattle.im_log_record.specs.Entry.{Entry, InsertKey, DeleteKey, UndoInsert, UndoDelete, Smo, UndoSmo, DummyClr, Commit, End, Image, Checkpoint}

-- a number in eight bytes, the highest first
unfoldable pub word64 : ℕ → List ℕ
word64 n = to_be_bytes w64 n

-- a number in four bytes
unfoldable pub word32 : ℕ → List ℕ
word32 n = to_be_bytes w32 n

-- a number in two bytes
unfoldable pub word16 : ℕ → List ℕ
word16 n = to_be_bytes w16 n

-- a key with its length in front, and the row id
abbrev pub keyed : List ℕ → ℕ → List ℕ
keyed key rid = (length key ∷ []) ++ key ++ word64 rid

-- a page that gets the record's LSN: zero in place of its own, and the other bytes
abbrev pub blank : List ℕ → List ℕ
blank body = word64 0 ++ body

-- an active transaction of a checkpoint
abbrev pub active_bytes : ActiveTransaction → List ℕ
active_bytes a = word64 a.transaction ++ word64 a.last ++ word64 a.undo_next

-- a dirty page of a checkpoint
abbrev pub dirty_bytes : DirtyPage → List ℕ
dirty_bytes d = word32 d.page ++ word64 d.rec_lsn

-- a checkpoint's payload: the next transaction number, and two counted lists
abbrev pub tables : ℕ → List ActiveTransaction → List DirtyPage → List ℕ
tables next active dirty = word64 next ++ word16 (length active) ++ flat_map active_bytes active ++ word16 (length dirty) ++ flat_map dirty_bytes dirty

-- The 33 bytes in front of what a kind adds, which has so many bytes: the length of the whole record, its kind, and
-- the fields that every record has.
unfoldable pub front : ℕ → ℕ → ℕ → ℕ → ℕ → ℕ → List ℕ
front kind transaction prev undo_next page added =
    word32 (33 + added) ++ (kind ∷ []) ++ word64 transaction ++ word64 prev ++ word64 undo_next ++ word32 page

-- a record: these, and what its kind adds
abbrev pub whole : ℕ → ℕ → ℕ → ℕ → ℕ → List ℕ → List ℕ
whole kind transaction prev undo_next page payload = front kind transaction prev undo_next page (length payload) ++ payload

-- The bytes of a record, by its kind.
abbrev pub spelling : Entry → List ℕ
--                                                                  kind transaction prev undo_next page payload
spelling (InsertKey transaction prev page key rid) = whole 1 transaction prev 0 page (keyed key rid)
spelling (DeleteKey transaction prev page key rid) = whole 2 transaction prev 0 page (keyed key rid)
spelling (UndoInsert transaction prev undo_next page key rid) = whole 3 transaction prev undo_next page (keyed key rid)
spelling (UndoDelete transaction prev undo_next page key rid) = whole 4 transaction prev undo_next page (keyed key rid)
spelling (Smo transaction prev page before after) = whole 5 transaction prev 0 page (blank before ++ blank after)
spelling (UndoSmo transaction prev undo_next page after) = whole 6 transaction prev undo_next page (blank after)
spelling (DummyClr transaction prev undo_next) = whole 7 transaction prev undo_next 0 []
spelling (Commit transaction prev) = whole 8 transaction prev 0 0 []
spelling (End transaction prev) = whole 9 transaction prev 0 0 []
spelling (Image page bytes) = whole 10 0 0 0 page bytes
spelling (Checkpoint next active dirty) = whole 11 0 0 0 0 (tables next active dirty)

-- how many bytes that is
abbrev pub size_of : Entry → ℕ
size_of (InsertKey transaction prev page key rid) = 42 + length key
size_of (DeleteKey transaction prev page key rid) = 42 + length key
size_of (UndoInsert transaction prev undo_next page key rid) = 42 + length key
size_of (UndoDelete transaction prev undo_next page key rid) = 42 + length key
size_of (Smo transaction prev page before after) = 49 + length before + length after
size_of (UndoSmo transaction prev undo_next page after) = 41 + length after
size_of (DummyClr transaction prev undo_next) = 33
size_of (Commit transaction prev) = 33
size_of (End transaction prev) = 33
size_of (Image page bytes) = 33 + length bytes
size_of (Checkpoint next active dirty) = 45 + 24 * length active + 12 * length dirty

-- a number of two bytes
abbrev pub Is16 : ℕ → Type 0
Is16 n = n < 2 ^ 16

-- a number of four bytes
abbrev pub Is32 : ℕ → Type 0
Is32 n = n < 2 ^ 32

-- a number of eight bytes
abbrev pub Is64 : ℕ → Type 0
Is64 n = n < 2 ^ 64

-- a transaction that wrote a record
abbrev pub IsOwner : ℕ → Type 0
IsOwner transaction = (1 ≤ transaction) × Is64 transaction

-- a page without its LSN
abbrev pub IsBody : List ℕ → Type 0
IsBody body = length body ≡ 4088

-- a whole page
abbrev pub IsPage : List ℕ → Type 0
IsPage bytes = length bytes ≡ 4096

-- a key has 1 to 255 bytes
abbrev pub IsKey : List ℕ → Type 0
IsKey key = (1 ≤ length key) × (length key ≤ 255)

-- what a transaction wrote, after its record before and with a next record to undo, about a page
pub record IsOwnedHead (t p u g : ℕ) : Type 0 where
  pub transaction : IsOwner t
  pub prev : Is64 p
  pub undo_next : Is64 u
  pub page : Is32 g

-- above the number before, where there is one
abbrev pub IsAbove : Option ℕ → ℕ → Type 0
IsAbove None n = Unit {0}
IsAbove (Some last) n = last < n

-- the numbers strictly rise, after this one
abbrev pub Rise : {A : Type 0} → (A → ℕ) → Option ℕ → List A → Type 0
Rise number last [] = Unit {0}
Rise number last (x ∷ xs) = IsAbove last (number x) × Rise number (Some (number x)) xs

-- the numbers of a row fit their bytes
pub record IsActive (a : ActiveTransaction) : Type 0 where
  pub transaction : Is64 a.transaction
  pub last : Is64 a.last
  pub undo_next : Is64 a.undo_next

-- the numbers of a row fit their bytes
pub record IsDirty (d : DirtyPage) : Type 0 where
  pub page : Is32 d.page
  pub rec_lsn : Is64 d.rec_lsn

-- at most 64 active transactions and 1,024 dirty pages, each list in rising number
pub record IsTables (n : ℕ) (active : List ActiveTransaction) (dirty : List DirtyPage) : Type 0 where
  pub next : Is64 n
  pub active_most : length active ≤ 64
  pub active_fit : AllByRecursion IsActive active
  pub active_rise : Rise (λ a. a.transaction) None active
  pub dirty_most : length dirty ≤ 1024
  pub dirty_fit : AllByRecursion IsDirty dirty
  pub dirty_rise : Rise (λ d. d.page) None dirty

-- what has a spelling
abbrev pub IsEntry : Entry → Type 0
IsEntry (InsertKey transaction prev page key rid) = IsOwnedHead transaction prev 0 page × (IsKey key × Is64 rid)
IsEntry (DeleteKey transaction prev page key rid) = IsOwnedHead transaction prev 0 page × (IsKey key × Is64 rid)
IsEntry (UndoInsert transaction prev undo_next page key rid) = IsOwnedHead transaction prev undo_next page × (IsKey key × Is64 rid)
IsEntry (UndoDelete transaction prev undo_next page key rid) = IsOwnedHead transaction prev undo_next page × (IsKey key × Is64 rid)
IsEntry (Smo transaction prev page before after) = IsOwnedHead transaction prev 0 page × (IsBody before × IsBody after)
IsEntry (UndoSmo transaction prev undo_next page after) = IsOwnedHead transaction prev undo_next page × IsBody after
IsEntry (DummyClr transaction prev undo_next) = IsOwnedHead transaction prev undo_next 0
IsEntry (Commit transaction prev) = IsOwnedHead transaction prev 0 0
IsEntry (End transaction prev) = IsOwnedHead transaction prev 0 0
IsEntry (Image page bytes) = Is32 page × IsPage bytes
IsEntry (Checkpoint next active dirty) = IsTables next active dirty

-- The bytes spell the record.
pub record Spells (said : Entry) (bytes : List ℕ) : Type 0 where
  pub fits : IsEntry said
  pub spelled : bytes ≡ spelling said
