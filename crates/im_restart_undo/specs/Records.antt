-- The records with which one key record of a transaction is taken back.
use Rattle.std.specs.Prelude.{◌≡◌, ◌++◌, ℕ, [], ◌∷◌}
use Rattle.im_base_types.specs.Records.{What, InsertKey, DeleteKey, UndoInsert, UndoDelete, Smo, UndoSmo, DummyClr, Commit, End, Image, Checkpoint, Unreadable, Logged}
use Rattle.im_theory_log.specs.Histories.{History}
use Rattle.im_theory_tree.specs.Good.{AllOf}

-- the record is an Image, or one of transaction t that compensates a key record, changes the structure of the tree, or closes such a change
abbrev pub IsOfUndo : ℕ → Logged → What → Type 0
IsOfUndo t r (UndoInsert k i) = r.txn ≡ t
IsOfUndo t r (UndoDelete k i) = r.txn ≡ t
IsOfUndo t r (Smo was now) = r.txn ≡ t
IsOfUndo t r DummyClr = r.txn ≡ t
IsOfUndo t r (Image c) = r.txn ≡ 0
IsOfUndo t r (InsertKey k i) = ⊥
IsOfUndo t r (DeleteKey k i) = ⊥
IsOfUndo t r (UndoSmo now) = ⊥
IsOfUndo t r Commit = ⊥
IsOfUndo t r End = ⊥
IsOfUndo t r (Checkpoint n a dirty) = ⊥
IsOfUndo t r Unreadable = ⊥

-- The longer log is the older one with such records.
pub record GrowsByUndo (t : ℕ) (older longer : History) : Type 0 where
  pub more : History
  pub is : longer ≡ more ++ older
  pub all : AllOf (λ (r : Logged). IsOfUndo t r r.what) more

-- the compensations among these records
abbrev pub with_compensation : Logged → What → History → History
with_compensation r (UndoInsert k i) rs = r ∷ rs
with_compensation r (UndoDelete k i) rs = r ∷ rs
with_compensation r _ rs = rs

abbrev pub compensations : History → History
compensations [] = []
compensations (r ∷ older) = with_compensation r r.what (compensations older)

-- the kind that takes a key record back
abbrev pub inverse_of : What → What
inverse_of (InsertKey k i) = UndoInsert k i
inverse_of (DeleteKey k i) = UndoDelete k i
inverse_of w = w
