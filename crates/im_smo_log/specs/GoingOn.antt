-- What keeps a structure change under way, and what it ends in.
use Rattle.std.specs.Prelude.{◌≡◌, ◌≢◌, ◌<◌, ◌≤◌, ◌+◌, ◌-◌, max, ℕ, suc, true, false, List, [], ◌∷◌, length}
use Rattle.im_base_types.specs.Keys.{Key}
use Rattle.im_base_types.specs.Pages.{Body}
use Rattle.im_base_types.specs.Records.{Smo, Logged}
use Rattle.im_theory_log.specs.Histories.{Base, History, end_of, page_at, changes_page}
use Rattle.im_theory_log.specs.Lawful.{IsLawful}
use Rattle.im_theory_log.specs.LogLaws.{IsRebuilt, bodies}
use Rattle.im_theory_log.specs.Structure.{open_smo, settled}
use Rattle.im_theory_log.specs.Transactions.{last_of, undo_next_of, is_finished}
use Rattle.im_theory_tree.specs.Same.{SameButMark}
use Rattle.im_theory_tree.specs.Search.{IsOnWay}
use Rattle.im_theory_tree.specs.Theory.{page_tree}
use Rattle.im_smo_pages.specs.Images.{Numbered, IsRising, image_at, held}
use Rattle.im_smo_pages.specs.OnWay.{IsApart}
use Rattle.im_theory_tree.specs.Ways.{StandsFor}
use Rattle.im_smo_log.specs.Logged.{smo_at, dummy_at}
use Rattle.im_smo_log.specs.Under.{IsUnderWay, is_structural, is_done}

-- Records of others, outside the pages of the plan, keep a structure change under way.
abbrev pub OthersKeepChange : Type 0
OthersKeepChange = (b : Base) (t undo_next : ℕ) (images : List Numbered) (done prev : ℕ) (r : Logged) (older : History) → IsUnderWay b t undo_next images done prev older
    → IsLawful b page_tree (r ∷ older) → r.txn ≢ t → is_structural r.what ≡ false → (changes_page r.what ≡ true → IsApart images r.page)
    → IsUnderWay b t undo_next images done prev (r ∷ older)

-- And a key's leaf as it will be after the change is its leaf still.
abbrev pub OthersKeepWays : Type 0
OthersKeepWays = (b : Base) (t undo_next : ℕ) (images : List Numbered) (done prev : ℕ) (r : Logged) (older : History) → IsUnderWay b t undo_next images done prev older
    → IsLawful b page_tree (r ∷ older) → r.txn ≢ t → is_structural r.what ≡ false → (changes_page r.what ≡ true → IsApart images r.page)
    → (key : Key) (p : ℕ) → IsOnWay (held (settled b older) images) 0 key p → IsOnWay (held (settled b (r ∷ older)) images) 0 key p

-- Its next page, with the mark or without, keeps it under way.
abbrev pub PagesGoOn : Type 0
PagesGoOn = (b : Base) (t undo_next : ℕ) (images : List Numbered) (done prev : ℕ) (r : Logged) (older : History) (old new : Body) → IsUnderWay b t undo_next images done prev older
    → IsLawful b page_tree (r ∷ older) → done < length images → r.txn ≡ t → r.page ≡ (image_at images done).0 → r.what ≡ Smo old new → SameButMark (image_at images done).1.body new
    → (image_at images 0).0 ≡ 0 → (r.page ≡ 0 → new.leftmost ≤ max old.leftmost ((image_at images (length images - 1)).0 + 1)) → IsUnderWay b t undo_next images (suc done) r.lsn (r ∷ older)

-- A page that is none of those that are logged is the settled one, so that a search that meets none of them goes on the settled tree.
abbrev pub OtherPagesAreSettled : Type 0
OtherPagesAreSettled = (b : Base) (t undo_next : ℕ) (images : List Numbered) (done prev : ℕ) (log : History) (p : ℕ) → IsUnderWay b t undo_next images done prev log
    → ((k : ℕ) → k < done → (image_at images k).0 ≢ p) → bodies b log p ≡ settled b log p

-- The same by a test: the pages as they stand are the settled ones but for those of the change that are made.
abbrev pub PagesAgree : Type 0
PagesAgree = (b : Base) (t undo_next : ℕ) (images : List Numbered) (done prev : ℕ) (log : History) (p : ℕ) → IsUnderWay b t undo_next images done prev log → is_done images done p ≡ false → bodies b log p ≡ settled b log p

-- After its last page the pages are a good tree with the settled walk: the record that closes it may come.
abbrev pub ClosesWell : Type 0
ClosesWell = (b : Base) (t undo_next : ℕ) (images : List Numbered) (prev : ℕ) (log : History) → IsUnderWay b t undo_next images (length images) prev log → IsRebuilt b page_tree log

-- A plan over the pages of a log with no change open is under way, with no page logged.
abbrev pub ChangesBegin : Type 0
ChangesBegin = (b : Base) (t undo_next : ℕ) (images : List Numbered) (prev : ℕ) (log : History) → IsLawful b page_tree log → t ≢ 0 → last_of t log ≡ prev → is_finished t log ≡ false → IsRising images
    → open_smo log ≡ [] → undo_next_of t log ≡ undo_next → StandsFor (settled b log) (held (settled b log) images) (IsApart images) → IsUnderWay b t undo_next images 0 prev log

-- Its next page may come next, marked or not, whatever others logged since the last one.
abbrev pub PagesMayCome : Type 0
PagesMayCome = (b : Base) (t undo_next : ℕ) (images : List Numbered) (done prev lsn : ℕ) (log : History) (new : Body) → IsUnderWay b t undo_next images done prev log → done < length images
    → (image_at images 0).0 ≡ 0 → (image_at images (length images - 1)).0 < (image_at images 0).1.body.leftmost → end_of b log < lsn → SameButMark (image_at images done).1.body new
    → IsLawful b page_tree (smo_at lsn t prev (image_at images done).0 (page_at b log (image_at images done).0).body new ∷ log)

-- After the last page the record that closes it may come next, and undo goes on where it stood.
pub record HasClosed (b : Base) (t undo_next lsn : ℕ) (log : History) : Type 0 where
  pub lawful : IsLawful b page_tree log
  pub closed : open_smo log ≡ []
  pub last : last_of t log ≡ lsn
  pub undo : undo_next_of t log ≡ undo_next

abbrev pub ClosesMayCome : Type 0
ClosesMayCome = (b : Base) (t undo_next : ℕ) (images : List Numbered) (prev lsn : ℕ) (log : History) → IsUnderWay b t undo_next images (length images) prev log → 1 ≤ length images → end_of b log < lsn
    → HasClosed b t undo_next lsn (dummy_at lsn t prev undo_next ∷ log)
