-- Records that a restart adds to a log: Images, the records that undo and end what was unfinished, and the structure changes of losers on the way.
use Rattle.std.specs.Prelude.{◌≡◌, [], ◌∷◌, ◌++◌, true}
use Rattle.im_base_types.specs.Pages.{Body}
use Rattle.im_base_types.specs.Records.{What, InsertKey, DeleteKey, UndoInsert, UndoDelete, Smo, UndoSmo, DummyClr, Commit, End, Image, Checkpoint, Unreadable, Logged}
use Rattle.im_theory_log.specs.Histories.{History}
use Rattle.im_theory_log.specs.Structure.{open_smo}
use Rattle.im_theory_log.specs.Transactions.{to_undo}
use Rattle.im_restart_analysis.specs.Losers.{is_loser}

-- the record takes back the newest page of the open structure change
pub record TakesBackPage (r : Logged) (older : History) (new : Body) : Type 0 where
  pub undone : Logged
  pub rest : History
  pub going : open_smo older ≡ undone ∷ rest
  pub owner : r.txn ≡ undone.txn
  pub page : r.page ≡ undone.page

-- the record ends a transaction of which nothing is left to undo
pub record EndsLoser (r : Logged) (older : History) : Type 0 where
  pub loser : is_loser r.txn older ≡ true
  pub none : to_undo r.txn older ≡ []
  pub page : r.page ≡ 0

-- by its kind
abbrev pub IsUndo : Logged → History → What → Type 0
IsUndo r older (Image c) = r.txn ≡ 0
IsUndo r older (UndoInsert k i) = is_loser r.txn older ≡ true
IsUndo r older (UndoDelete k i) = is_loser r.txn older ≡ true
IsUndo r older (Smo was now) = is_loser r.txn older ≡ true
IsUndo r older DummyClr = is_loser r.txn older ≡ true
IsUndo r older (UndoSmo new) = TakesBackPage r older new
IsUndo r older End = EndsLoser r older
IsUndo r older (InsertKey k i) = ⊥
IsUndo r older (DeleteKey k i) = ⊥
IsUndo r older Commit = ⊥
IsUndo r older (Checkpoint n a dirty) = ⊥
IsUndo r older Unreadable = ⊥

abbrev pub AreUndo : History → History → Type 0
AreUndo [] older = Unit {0}
AreUndo (r ∷ more) older = IsUndo r (more ++ older) r.what × AreUndo more older

-- The longer log is the older one with such records.
pub record GrowsByRestart (older longer : History) : Type 0 where
  pub more : History
  pub is : longer ≡ more ++ older
  pub all : AreUndo more older
