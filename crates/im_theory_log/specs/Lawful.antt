-- When a log is lawful: each of its records may come after what stands before it, and each front stands for a good tree.
use Rattle.std.specs.Prelude.{◌≡◌, ◌≢◌, ◌≤◌, ◌<◌, ℕ, [], ◌∷◌, Bool, true, false, None, Some, max}
use Rattle.std.specs.FinMap.{get, entries}
use Rattle.im_base_types.specs.Keys.{Key}
use Rattle.im_base_types.specs.Changes.{Touches}
use Rattle.im_base_types.specs.Pages.{Body, Page}
use Rattle.im_base_types.specs.Records.{What, InsertKey, DeleteKey, UndoInsert, UndoDelete, Smo, UndoSmo, DummyClr, Commit, End, Image, Checkpoint, Unreadable, Logged}
use Rattle.im_theory_log.specs.Tree.{Tree}
use Rattle.im_theory_log.specs.Histories.{History, Base, end_of, below, page_at, page_up_to}
use Rattle.im_theory_log.specs.PageCounts.{count_of, greatest_count, named_to}
use Rattle.im_theory_log.specs.Structure.{open_smo, settled}
use Rattle.im_theory_log.specs.Transactions.{last_of, undo_next_of, to_undo, net, is_finished, contents}

-- ---- the words of the conditions

-- no other transaction's net changes this key
abbrev pub IsFree : ℕ → Key → History → Type 0
IsFree t k log = (u : ℕ) → u ≢ t → Touches (net u log) k → ⊥

-- the open structure change, if there is one, is not this transaction's
abbrev pub IsOutside : ℕ → History → Type 0
IsOutside t [] = Unit {0}
IsOutside t (s ∷ rest) = s.txn ≢ t

-- the open structure change, if there is one, is this transaction's, and has not changed this page yet
abbrev pub IsNewIn : ℕ → ℕ → History → Type 0
IsNewIn t p [] = Unit {0}
IsNewIn t p (s ∷ rest) = (s.txn ≡ t) × (s.page ≢ p) × IsNewIn t p rest

-- the page is none that the open structure change has changed
abbrev pub IsNotIn : ℕ → History → Type 0
IsNotIn p [] = Unit {0}
IsNotIn p (s ∷ rest) = (s.page ≢ p) × IsNotIn p rest

-- where undo goes on once the open structure change is closed: where it stood when that began
abbrev pub resumes : History → ℕ → History → ℕ
resumes older t [] = undo_next_of t older
resumes older t (s ∷ []) = undo_next_of t (below s.lsn older)
resumes older t (s ∷ u ∷ rest) = resumes older t (u ∷ rest)

-- the record undoes the newest of what its transaction has left to undo, and leads past it
pub record Undoes (r : Logged) (older : History) (is : What → Type 0) : Type 0 where
  pub undone : Logged
  pub rest : History
  pub stack : to_undo r.txn older ≡ undone ∷ rest
  pub inverse : is undone.what
  pub leads : r.undo_next ≡ undone.prev

-- ---- what a record of each kind asks of the log before it

-- a key put: nobody else's net has it, it is not there, and the page, which no structure change has in hand, is its leaf with room
pub record MayInsert (b : Base) (tree : Tree) (r : Logged) (older : History) (k : Key) (i : ℕ) : Type 0 where
  pub no_undo_next : r.undo_next ≡ 0
  pub outside : IsOutside r.txn (open_smo older)
  pub free : IsFree r.txn k older
  pub absent : get (contents b older) k ≡ None
  pub can_put : tree.CanPut (settled b older) r.page k i
  pub not_in : IsNotIn r.page (open_smo older)

-- a key dropped: the same of a key that is there, with the row id that goes
pub record MayDelete (b : Base) (tree : Tree) (r : Logged) (older : History) (k : Key) (i : ℕ) : Type 0 where
  pub no_undo_next : r.undo_next ≡ 0
  pub outside : IsOutside r.txn (open_smo older)
  pub free : IsFree r.txn k older
  pub there : get (contents b older) k ≡ Some i
  pub can_drop : tree.CanDrop (settled b older) r.page k i
  pub not_in : IsNotIn r.page (open_smo older)

-- the compensation of a put: what is left to undo begins with that put; the page is the key's leaf as it is now
pub record MayUndoInsert (b : Base) (tree : Tree) (r : Logged) (older : History) (k : Key) (i : ℕ) : Type 0 where
  pub undoes : Undoes r older (λ w. w ≡ InsertKey k i)
  pub outside : IsOutside r.txn (open_smo older)
  pub can_drop : tree.CanDrop (settled b older) r.page k i
  pub not_in : IsNotIn r.page (open_smo older)

-- the compensation of a drop
pub record MayUndoDelete (b : Base) (tree : Tree) (r : Logged) (older : History) (k : Key) (i : ℕ) : Type 0 where
  pub undoes : Undoes r older (λ w. w ≡ DeleteKey k i)
  pub outside : IsOutside r.txn (open_smo older)
  pub can_put : tree.CanPut (settled b older) r.page k i
  pub not_in : IsNotIn r.page (open_smo older)

-- one page of a structure change, the only one under way, with the page as it was; its number is below a page count that the log has said
pub record MaySmo (b : Base) (r : Logged) (older : History) (old : Body) : Type 0 where
  pub no_undo_next : r.undo_next ≡ 0
  pub new_in : IsNewIn r.txn r.page (open_smo older)
  pub before : old ≡ (page_at b older r.page).body
  pub within : r.page < greatest_count (count_of b) older

-- the undo of the open structure change's newest page, back to what it was
pub record MayUndoSmo (r : Logged) (older : History) (new : Body) : Type 0 where
  pub undoes : Undoes r older (λ w. (was : Body) × (w ≡ Smo new was))
  pub page : undoes.undone.page ≡ r.page
  pub rest : History
  pub going : open_smo older ≡ undoes.undone ∷ rest

-- the end of the open structure change, which is this transaction's
pub record MayDummyClr (r : Logged) (older : History) : Type 0 where
  pub newest : Logged
  pub rest : History
  pub going : open_smo older ≡ newest ∷ rest
  pub owner : newest.txn ≡ r.txn
  pub leads : r.undo_next ≡ resumes older r.txn (newest ∷ rest)

-- a Commit: what its transaction has left to undo is its effect
pub record MayCommit (r : Logged) (older : History) : Type 0 where
  pub no_undo_next : r.undo_next ≡ 0
  pub outside : IsOutside r.txn (open_smo older)

-- an End: nothing of the transaction is left to undo
pub record MayEnd (r : Logged) (older : History) : Type 0 where
  pub no_undo_next : r.undo_next ≡ 0
  pub nothing_left : to_undo r.txn older ≡ []

-- a full copy: the page as its own LSN says that it was, which may be older than its last record; it, or a page after it, was named before
pub record MayImage (b : Base) (r : Logged) (older : History) (copy : Page) : Type 0 where
  pub no_owner : r.txn ≡ 0
  pub exact : copy ≡ page_up_to b older r.page copy.lsn
  pub named : r.page < named_to older

-- by its kind
abbrev pub MayCome : Base → Tree → Logged → History → What → Type 0
MayCome b tree r older (InsertKey k i) = MayInsert b tree r older k i
MayCome b tree r older (DeleteKey k i) = MayDelete b tree r older k i
MayCome b tree r older (UndoInsert k i) = MayUndoInsert b tree r older k i
MayCome b tree r older (UndoDelete k i) = MayUndoDelete b tree r older k i
MayCome b tree r older (Smo old new) = MaySmo b r older old
MayCome b tree r older (UndoSmo new) = MayUndoSmo r older new
MayCome b tree r older DummyClr = MayDummyClr r older
MayCome b tree r older Commit = MayCommit r older
MayCome b tree r older End = MayEnd r older
MayCome b tree r older (Image c) = MayImage b r older c
MayCome b tree r older (Checkpoint n a d) = r.txn ≡ 0
MayCome b tree r older Unreadable = ⊥

-- Images and Checkpoints are no transaction's
abbrev pub has_owner : What → Bool
has_owner (Image c) = false
has_owner (Checkpoint n a d) = false
has_owner _ = true

-- a record of a transaction names that transaction's last, and nothing follows its Commit or End
pub record IsChained (r : Logged) (older : History) : Type 0 where
  pub number : 1 ≤ r.txn
  pub prev : r.prev ≡ last_of r.txn older
  pub unfinished : is_finished r.txn older ≡ false

-- ---- lawful logs

-- the record may come next
pub record Follows (b : Base) (tree : Tree) (r : Logged) (older : History) : Type 0 where
  pub rises : end_of b older < r.lsn
  pub chained : has_owner r.what ≡ true → IsChained r older
  pub may : MayCome b tree r older r.what

-- the settled pages are a good tree, and its walk is what the key records make of the base's map
pub record HasTree (b : Base) (tree : Tree) (log : History) : Type 0 where
  pub good : tree.Good (settled b log)
  pub walk : tree.walk (settled b log) ≡ entries (contents b log)
  -- the page count that page 0 says is one that the base said, or no page below it is above all that the log has named
  pub named : (settled b log 0).leftmost ≤ max (count_of b) (named_to log)

-- where a log starts: no page has an LSN after the start, and they are a good tree with the base's map
pub record IsStart (b : Base) (tree : Tree) : Type 0 where
  pub lsns : (p : ℕ) → (b.pages p).lsn ≤ b.start
  pub stands : HasTree b tree []

abbrev pub IsLawful : Base → Tree → History → Type 0
IsLawful b tree [] = IsStart b tree
IsLawful b tree (r ∷ older) = IsLawful b tree older × Follows b tree r older × HasTree b tree (r ∷ older)
