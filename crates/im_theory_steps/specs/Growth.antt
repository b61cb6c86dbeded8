-- How a log grows by a step.
use Rattle.std.specs.Prelude.{◌≡◌, ◌≢◌, ◌≤◌, ◌<◌, ◌⊎◌, ℕ, Bool, true, false, List, [], ◌∷◌, ◌++◌, length}
use Rattle.im_base_types.specs.Pages.{Page}
use Rattle.im_base_types.specs.Changes.{Change, applied, undone}
use Rattle.im_base_types.specs.Records.{What, Smo, DummyClr, Image, Checkpoint, Logged}
use Rattle.im_base_types.specs.declared.tables.ActiveTransaction.{ActiveTransaction}
use Rattle.im_base_types.specs.declared.tables.DirtyPage.{DirtyPage}
use Rattle.im_theory_log.specs.Tree.{Tree}
use Rattle.im_theory_log.specs.Histories.{History, Base, Rises, end_of, page_at}
use Rattle.im_theory_log.specs.Structure.{open_smo}
use Rattle.im_theory_log.specs.Copies as copies
use Rattle.im_theory_log.specs.Lawful.{IsLawful}
use Rattle.im_theory_log.specs.Transactions.{committed, contents, net, last_of, undo_next_of, to_undo, is_finished, is_end}

-- ---- what both halves of a step say of it: the committed effects, the tree's map and the nets

-- by Images, structure changes, or an End
pub record Stays (b : Base) (older longer : History) : Type 0 where
  pub commits : committed longer ≡ committed older
  pub walk : contents b longer ≡ contents b older
  pub nets : (t : ℕ) → net t longer ≡ net t older

-- by a change of transaction t
pub record Adds (b : Base) (t : ℕ) (c : Change) (older longer : History) : Type 0 where
  pub commits : committed longer ≡ committed older
  pub walk : contents b longer ≡ applied (contents b older) c
  pub own : net t longer ≡ c ∷ net t older
  pub others : (u : ℕ) → u ≢ t → net u longer ≡ net u older

-- its newest change is taken back
pub record TakesBack (b : Base) (t : ℕ) (c : Change) (older longer : History) : Type 0 where
  pub commits : committed longer ≡ committed older
  pub walk : contents b longer ≡ undone (contents b older) c
  pub own : net t older ≡ c ∷ net t longer
  pub others : (u : ℕ) → u ≢ t → net u longer ≡ net u older

-- it commits
pub record Commits (b : Base) (t : ℕ) (older longer : History) : Type 0 where
  pub commits : committed longer ≡ committed older ++ net t older ∷ []
  pub walk : contents b longer ≡ contents b older
  pub own : net t longer ≡ []
  pub others : (u : ℕ) → u ≢ t → net u longer ≡ net u older

-- ---- what the log says of one transaction

-- of this one it says what it said
pub record SaysSameOf (u : ℕ) (older longer : History) : Type 0 where
  pub last : 1 ≤ u → last_of u longer ≡ last_of u older
  pub undo : 1 ≤ u → undo_next_of u longer ≡ undo_next_of u older
  pub finished : is_finished u longer ≡ is_finished u older
  pub stack : to_undo u longer ≡ to_undo u older

-- of each but t
abbrev pub IsOfOthers : ℕ → History → History → Type 0
IsOfOthers t older longer = (u : ℕ) → u ≢ t → SaysSameOf u older longer

-- of each
abbrev pub IsOfAll : History → History → Type 0
IsOfAll older longer = (u : ℕ) → SaysSameOf u older longer

-- it has no record, or a Commit or an End
abbrev pub IsOver : ℕ → History → Type 0
IsOver t log = 1 ≤ t → 1 ≤ last_of t log → is_finished t log ≡ true

-- no record is this transaction's
abbrev pub HasNone : ℕ → History → Type 0
HasNone t [] = Unit {0}
HasNone t (r ∷ older) = (r.txn ≢ t) × HasNone t older

-- ---- by which records

-- an Image
pub record IsImageRecord (r : Logged) : Type 0 where
  pub copy : Page
  pub what : r.what ≡ Image copy
  pub no_owner : r.txn ≡ 0

-- an Image, or a record of t that neither commits nor ends it
abbrev pub IsWithin : ℕ → Logged → Type 0
IsWithin t r = IsImageRecord r ⊎ ((r.txn ≡ t) × (is_end r.what ≡ false))

-- these records come on top
abbrev pub AreWithin : ℕ → History → Type 0
AreWithin t [] = Unit {0}
AreWithin t (r ∷ rs) = IsWithin t r × AreWithin t rs

abbrev pub AreImageRecords : History → Type 0
AreImageRecords [] = Unit {0}
AreImageRecords (r ∷ rs) = IsImageRecord r × AreImageRecords rs

-- a Checkpoint, whatever its tables
pub record IsCheckpoint (r : Logged) : Type 0 where
  pub next : ℕ
  pub active : List ActiveTransaction
  pub dirty : List DirtyPage
  pub what : r.what ≡ Checkpoint next active dirty
  pub no_owner : r.txn ≡ 0

-- an Image or a Checkpoint, which are no transaction's
abbrev pub IsUnowned : Logged → Type 0
IsUnowned r = IsImageRecord r ⊎ IsCheckpoint r

abbrev pub AreUnowned : History → Type 0
AreUnowned [] = Unit {0}
AreUnowned (r ∷ rs) = IsUnowned r × AreUnowned rs

-- The log has grown by Images and Checkpoints.
pub record GrowsUnowned (older longer : History) : Type 0 where
  pub more : History
  pub is : more ++ older ≡ longer
  pub unowned : AreUnowned more

-- The log has grown within t.
pub record GrowsWithin (t : ℕ) (older longer : History) : Type 0 where
  pub more : History
  pub is : more ++ older ≡ longer
  pub within : AreWithin t more

-- The log has grown by Images.
pub record GrowsByImages (older longer : History) : Type 0 where
  pub more : History
  pub is : more ++ older ≡ longer
  pub images : AreImageRecords more

-- a page of a structure change, or the end of one
abbrev pub is_structural : What → Bool
is_structural (Smo old new) = true
is_structural DummyClr = true
is_structural _ = false

-- an Image, or a record of a structure change of t
abbrev pub IsStructural : ℕ → Logged → Type 0
IsStructural t r = IsImageRecord r ⊎ ((r.txn ≡ t) × (is_structural r.what ≡ true))

abbrev pub AreStructural : ℕ → History → Type 0
AreStructural t [] = Unit {0}
AreStructural t (r ∷ rs) = IsStructural t r × AreStructural t rs

-- The log has grown by Images and by records of structure changes of t.
pub record GrowsByStructure (t : ℕ) (older longer : History) : Type 0 where
  pub more : History
  pub is : more ++ older ≡ longer
  pub structural : AreStructural t more

-- ---- laws

-- what growth within t leaves of the others, and of what is committed
abbrev pub GrowthWithinLeavesOthers : Type 0
GrowthWithinLeavesOthers = (t : ℕ) (older longer : History) → GrowsWithin t older longer → IsOfOthers t older longer × (committed longer ≡ committed older)

-- Images change nothing of any transaction
abbrev pub ImagesChangeNothing : Type 0
ImagesChangeNothing = (b : Base) (older longer : History) → GrowsByImages older longer → Stays b older longer × IsOfAll older longer

-- Images and Checkpoints say of keys and transactions what was said.
abbrev pub UnownedChangeNothing : Type 0
UnownedChangeNothing = (b : Base) (older longer : History) → GrowsUnowned older longer → Stays b older longer × IsOfAll older longer

-- what a structure change of t leaves: the tree's map, the committed effects and all nets, the other transactions, and that t goes on
pub record IsRestructured (b : Base) (t : ℕ) (older longer : History) : Type 0 where
  pub stays : Stays b older longer
  pub others : IsOfOthers t older longer
  pub finished : is_finished t longer ≡ is_finished t older

-- structure changes leave that
abbrev pub StructureChangesNoKey : Type 0
StructureChangesNoKey = (b : Base) (t : ℕ) (older longer : History) → GrowsByStructure t older longer → IsRestructured b t older longer

-- each record's transaction has a number below this
abbrev pub AreBelow : ℕ → History → Type 0
AreBelow next [] = Unit {0}
AreBelow next (r ∷ older) = (r.txn < next) × AreBelow next older

-- Numbers that no record has: they are above those of the log, and stay so while records of transactions below them join it.
pub record NumbersStayNew : Type 0 where
  pub none : (next : ℕ) (log : History) → AreBelow next log → HasNone next log
  pub more : (next further : ℕ) (log : History) → next ≤ further → AreBelow next log → AreBelow further log
  pub within : (next t : ℕ) (older longer : History) → t < next → AreBelow next older → GrowsWithin t older longer → AreBelow next longer

-- A transaction has no more changes that are not taken back than the log has LSNs, so that their count is as small as those.
abbrev pub CountsFit : Type 0
CountsFit = (b : Base) (log : History) (t : ℕ) → Rises b log → length (net t log) ≤ end_of b log

-- What the full copies that a writer of pages adds leave of a log.
pub record IsAfterCopies (b : Base) (tree : Tree) (older longer : History) : Type 0 where
  pub images : GrowsByImages older longer
  pub lawful : IsLawful b tree older → IsLawful b tree longer
  pub opened : open_smo longer ≡ open_smo older
  pub below : (next : ℕ) → 1 ≤ next → AreBelow next older → AreBelow next longer

-- They are Images.
abbrev pub CopiesAreImages : Tree → Type 0
CopiesAreImages tree = (b : Base) (older longer : History) → copies.GrowsByImages b older longer → IsAfterCopies b tree older longer

-- What a Checkpoint on top leaves of a log: its keys and transactions, its pages, and that it is lawful.
pub record IsCheckpointed (b : Base) (tree : Tree) (r : Logged) (older : History) : Type 0 where
  pub stays : Stays b older (r ∷ older)
  pub all : IsOfAll older (r ∷ older)
  pub lawful : IsLawful b tree older → IsLawful b tree (r ∷ older)
  pub opened : open_smo (r ∷ older) ≡ open_smo older
  pub pages : (p : ℕ) → page_at b (r ∷ older) p ≡ page_at b older p
  pub below : (next : ℕ) → 1 ≤ next → AreBelow next older → AreBelow next (r ∷ older)

-- Whatever its tables, where its LSN is past the log's end.
abbrev pub CheckpointsChangeNothing : Tree → Type 0
CheckpointsChangeNothing tree = (b : Base) (r : Logged) (older : History) → IsCheckpoint r → end_of b older < r.lsn → IsCheckpointed b tree r older
