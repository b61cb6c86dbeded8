-- What a log says of its transactions: where undo goes on, what is left to undo, nets, and the committed effects.
use Rattle.std.specs.Prelude.{◌≡◌, ◌⊎◌, ◌≤◌, ℕ, ◌+◌, List, [], ◌∷◌, ◌++◌, Bool, true, false, ◌||◌, if◌then◌else◌, ◌==◌, Option, None, Some}
use Rattle.std.specs.FinMap.{insert, remove}
use Rattle.im_base_types.specs.Maps.{IndexMap}
use Rattle.im_base_types.specs.Changes.{Change, Put, Drop, Effect}
use Rattle.im_base_types.specs.Records.{What, InsertKey, DeleteKey, UndoInsert, UndoDelete, Smo, UndoSmo, DummyClr, Commit, End, Image, Checkpoint, Unreadable, Logged}
use Rattle.im_theory_log.specs.Histories.{History, IsRecordOf, Base, below}

-- ---- the chain of a transaction's records

-- the last LSN of a transaction, 0 for none
abbrev pub last_of : ℕ → History → ℕ
last_of t [] = 0
last_of t (r ∷ older) = if r.txn == t then r.lsn else last_of t older

-- where undo goes on once this record is its transaction's last
abbrev pub undo_from : Logged → What → ℕ
undo_from r (InsertKey k i) = r.lsn
undo_from r (DeleteKey k i) = r.lsn
undo_from r (Smo old new) = r.lsn
undo_from r (UndoInsert k i) = r.undo_next
undo_from r (UndoDelete k i) = r.undo_next
undo_from r (UndoSmo new) = r.undo_next
undo_from r DummyClr = r.undo_next
undo_from r Commit = 0
undo_from r End = 0
undo_from r (Image c) = 0
undo_from r (Checkpoint n a d) = 0
undo_from r Unreadable = 0

-- a transaction's next LSN to undo, 0 for none
abbrev pub undo_next_of : ℕ → History → ℕ
undo_next_of t [] = 0
undo_next_of t (r ∷ older) = if r.txn == t then undo_from r r.what else undo_next_of t older

-- ---- what is left to undo

abbrev pub is_smo : What → Bool
is_smo (Smo old new) = true
is_smo _ = false

-- a stack without the Smo records on its top
abbrev pub without_smo : History → History
without_smo [] = []
without_smo (s ∷ rest) = if is_smo s.what then without_smo rest else s ∷ rest

-- a stack without its top
abbrev pub rest_of : History → History
rest_of [] = []
rest_of (s ∷ rest) = rest

-- what a record makes of its transaction's stack: a key record or an Smo comes on top, a compensation takes off one, a DummyClr
-- the structure change, a Commit or End all
abbrev pub stack_after : Logged → What → History → History
stack_after r (InsertKey k i) rest = r ∷ rest
stack_after r (DeleteKey k i) rest = r ∷ rest
stack_after r (Smo old new) rest = r ∷ rest
stack_after r (UndoInsert k i) rest = rest_of rest
stack_after r (UndoDelete k i) rest = rest_of rest
stack_after r (UndoSmo new) rest = rest_of rest
stack_after r DummyClr rest = without_smo rest
stack_after r Commit rest = []
stack_after r End rest = []
stack_after r (Image c) rest = rest
stack_after r (Checkpoint n a d) rest = rest
stack_after r Unreadable rest = rest

-- a transaction's records that are left to undo, the newest first
abbrev pub to_undo : ℕ → History → History
to_undo t [] = []
to_undo t (r ∷ older) = if r.txn == t then stack_after r r.what (to_undo t older) else to_undo t older

-- the record on top of a stack
abbrev pub top_of : History → Option Logged
top_of [] = None
top_of (s ∷ rest) = Some s

-- what undo does at a record that it reads: a key record or an Smo is what it came for, a compensation or a DummyClr leads on
abbrev pub reads_on : Logged → What → Option Logged → Option Logged
reads_on r (InsertKey k i) next = Some r
reads_on r (DeleteKey k i) next = Some r
reads_on r (Smo old new) next = Some r
reads_on r (UndoInsert k i) next = next
reads_on r (UndoDelete k i) next = next
reads_on r (UndoSmo new) next = next
reads_on r DummyClr next = next
reads_on r Commit next = None
reads_on r End next = None
reads_on r (Image c) next = None
reads_on r (Checkpoint n a d) next = None
reads_on r Unreadable next = None

-- what undo comes to when it reads the record at an LSN and then from undo_next to undo_next, None where that ends
abbrev pub undo_reads : ℕ → History → Option Logged
undo_reads l [] = None
undo_reads l (r ∷ older) = if r.lsn == l then reads_on r r.what (undo_reads r.undo_next older) else undo_reads l older

-- ---- effects and nets

abbrev pub change_of : What → List Change
change_of (InsertKey k i) = Put k i ∷ []
change_of (DeleteKey k i) = Drop k i ∷ []
change_of _ = []

-- the changes of these records, in their order
abbrev pub changes_of : History → Effect
changes_of [] = []
changes_of (s ∷ rest) = change_of s.what ++ changes_of rest

-- a transaction's net: the changes that it made and that are not compensated
abbrev pub net : ℕ → History → Effect
net t log = changes_of (to_undo t log)

abbrev pub is_key : What → Bool
is_key (InsertKey k i) = true
is_key (DeleteKey k i) = true
is_key _ = false

abbrev pub is_end : What → Bool
is_end Commit = true
is_end End = true
is_end _ = false

-- whether the transaction has a Commit or an End
abbrev pub is_finished : ℕ → History → Bool
is_finished t [] = false
is_finished t (r ∷ older) = if r.txn == t then (is_end r.what || is_finished t older) else is_finished t older

abbrev pub is_compensation : What → Bool
is_compensation (UndoInsert k i) = true
is_compensation (UndoDelete k i) = true
is_compensation _ = false

-- how many later records of its transaction compensate the key record that has this prev
abbrev pub compensated : History → ℕ → ℕ → ℕ
compensated [] t prev = 0
compensated (r ∷ older) t prev =
    if r.txn == t
    then (if is_compensation r.what then (if r.undo_next == prev then compensated older t prev + 1 else compensated older t prev) else compensated older t prev)
    else compensated older t prev

-- left to undo and not compensated, or compensated once and no longer left
abbrev pub Fate : Logged → History → ℕ → Type 0
Fate s stack count = (IsRecordOf s stack × (count ≡ 0)) ⊎ ((IsRecordOf s stack → ⊥) × (count ≡ 1))

-- How often a key record of a log may be compensated: at most once; where its transaction has a Commit, not at all if it was left to undo then, so that it
-- is part of the committed effect, and once if it was not; once where it has an End.
pub record IsCounted (log : History) (s : Logged) : Type 0 where
  pub at_most_once : compensated log s.txn s.prev ≤ 1
  pub committed : (e : Logged) → IsRecordOf e log → e.txn ≡ s.txn → e.what ≡ Commit → Fate s (to_undo s.txn (below e.lsn log)) (compensated log s.txn s.prev)
  pub ended : (e : Logged) → IsRecordOf e log → e.txn ≡ s.txn → e.what ≡ End → compensated log s.txn s.prev ≡ 1

-- a Commit puts its transaction's effect after the others
abbrev pub committed_after : What → Effect → List Effect → List Effect
committed_after Commit e es = es ++ e ∷ []
committed_after _ e es = es

-- the effects of the transactions with a Commit, in the order of those records
abbrev pub committed : History → List Effect
committed [] = []
committed (r ∷ older) = committed_after r.what (net r.txn older) (committed older)

-- ---- the tree's map

-- what a record makes of the tree's map
abbrev pub contents_after : What → IndexMap → IndexMap
contents_after (InsertKey k i) m = insert m k i
contents_after (DeleteKey k i) m = remove m k
contents_after (UndoInsert k i) m = remove m k
contents_after (UndoDelete k i) m = insert m k i
contents_after _ m = m

-- what is in the tree: the changes of all key records in turn, those of unfinished transactions and all compensations included
abbrev pub contents : Base → History → IndexMap
contents b [] = b.map
contents b (r ∷ older) = contents_after r.what (contents b older)
