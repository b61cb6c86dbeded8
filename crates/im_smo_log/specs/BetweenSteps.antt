-- What an engine asks of a structure change that goes on over several steps, its own or another's.
use Rattle.std.specs.Prelude.{◌≡◌, ◌≢◌, ℕ, true, false, List, [], ◌∷◌, ◌++◌, length, Some}
use Rattle.im_base_types.specs.Keys.{Key}
use Rattle.im_base_types.specs.Pages.{Page, Body}
use Rattle.im_base_types.specs.Records.{Smo, DummyClr, Logged}
use Rattle.im_theory_log.specs.Histories.{Base, History, changes_page}
use Rattle.im_theory_log.specs.Lawful.{IsLawful}
use Rattle.im_theory_log.specs.Structure.{open_smo, settled}
use Rattle.im_theory_page.specs.Split.{HasRoom}
use Rattle.im_theory_tree.specs.Search.{IsOnWay}
use Rattle.im_theory_tree.specs.Theory.{page_tree}
use Rattle.im_smo_pages.specs.Images.{Numbered, image_of, held}
use Rattle.im_smo_pages.specs.OnWay.{IsApart}
use Rattle.im_smo_log.specs.Under.{is_structural, IsUnderWay}

-- ---- what others log in a step

-- a record of another than t, none of a structure change, on no page of the plan
pub record IsRecordBeside (t : ℕ) (images : List Numbered) (r : Logged) : Type 0 where
  pub other : r.txn ≢ t
  pub plain : is_structural r.what ≡ false
  pub apart : changes_page r.what ≡ true → IsApart images r.page

abbrev pub AreBeside : ℕ → List Numbered → History → Type 0
AreBeside t images [] = Unit {0}
AreBeside t images (r ∷ rs) = IsRecordBeside t images r × AreBeside t images rs

-- A change goes on after such records: it is under way, a key's leaf after it is that still, the open records are the same, and each page of the plan is settled as it was, so page 0, whose count others are told.
pub record GoesOnBeside (b : Base) (t undo_next : ℕ) (images : List Numbered) (done prev : ℕ) (older longer : History) : Type 0 where
  pub under : IsUnderWay b t undo_next images done prev longer
  pub ways : (key : Key) (p : ℕ) → IsOnWay (held (settled b older) images) 0 key p → IsOnWay (held (settled b longer) images) 0 key p
  pub opened : open_smo longer ≡ open_smo older
  pub settled_same : (p : ℕ) (g : Page) → image_of images p ≡ Some g → settled b longer p ≡ settled b older p

abbrev pub OthersGoOn : Type 0
OthersGoOn = (b : Base) (t undo_next : ℕ) (images : List Numbered) (done prev : ℕ) (more older : History) → IsUnderWay b t undo_next images done prev older → IsLawful b page_tree (more ++ older) → AreBeside t images more
    → GoesOnBeside b t undo_next images done prev older (more ++ older)

-- ---- what its owner logs

-- A page of it leaves the settled pages as they were, so the leaf that a key will have, and the count that others are told.
abbrev pub PagesKeepSettled : Type 0
PagesKeepSettled = (b : Base) (r : Logged) (older : History) (old new : Body) → IsLawful b page_tree (r ∷ older) → r.what ≡ Smo old new → (p : ℕ) → settled b (r ∷ older) p ≡ settled b older p

-- After the record that closes the change, a key's leaf is the one that the plan named, and has the room that its image has.
abbrev pub InsertsMayEnd : Type 0
InsertsMayEnd = (b : Base) (t undo_next : ℕ) (images : List Numbered) (prev : ℕ) (r : Logged) (log : History) (key : Key) (leaf : ℕ) (g : Page)
    → IsUnderWay b t undo_next images (length images) prev log → r.what ≡ DummyClr → IsOnWay (held (settled b log) images) 0 key leaf → image_of images leaf ≡ Some g → HasRoom true g.body.entries (key, 0)
    → IsOnWay (settled b (r ∷ log)) 0 key leaf × HasRoom true (settled b (r ∷ log) leaf).entries (key, 0)
