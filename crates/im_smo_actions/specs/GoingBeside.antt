-- What is told of a structure change beside which others go on, and the pages over which they search and plan.
use Rattle.std.specs.Prelude.{◌≡◌, ◌==◌, ℕ, Bool, true, false, List, [], Option, Some}
use Rattle.std.specs.List.{list_any}
use Rattle.im_base_types.specs.Keys.{Key}
use Rattle.im_theory_log.specs.Histories.{Base, History}
use Rattle.im_theory_log.specs.Lawful.{IsLawful, IsNotIn}
use Rattle.im_theory_log.specs.LogLaws.{bodies}
use Rattle.im_theory_log.specs.Structure.{open_smo, settled}
use Rattle.im_theory_log.specs.Writer.{Writer}
use Rattle.im_base_disk.specs.declared.disk.Disk.{Ghosts}
use Rattle.im_page_writer.specs.declared.page_writer.PageWriter.{PageWriter}
use Rattle.im_page_writer.specs.PageWriter.{StandsAs}
use Rattle.im_page_writer.specs.Outcome.{AllPages}
use Rattle.im_theory_tree.specs.Good.{IsGoodTree}
use Rattle.im_theory_tree.specs.Theory.{page_tree}
use Rattle.im_theory_tree.specs.Ways.{StandsFor}
use Rattle.im_tree_search.specs.declared.change_beside.Beside.{Beside}
use Rattle.im_tree_search.specs.Levels.{bodies_of}
use Rattle.im_tree_search.specs.Sights.{is_done, HasTreeBut}
use Rattle.im_smo_pages.specs.Images.{Numbered, held}
use Rattle.im_smo_pages.specs.OnWay.{IsApart}
use Rattle.im_smo_drop_leaf.specs.Plan.{IsPlan}
use Rattle.im_smo_split.specs.Plan.{Planned}
use Rattle.im_smo_log.specs.ChangePages.{numbers_of}
use Rattle.im_smo_log.specs.Under.{IsUnderWay}

-- whether a page is one of the change beside, made or not
abbrev pub is_planned : Beside → ℕ → Bool
is_planned beside p = list_any (λ (q : ℕ). q == p) beside.pages.now

-- the pages as they are settled: with the open structure change taken back
abbrev pub settled_pages : Base → Writer → AllPages
settled_pages b s p = record (s.pages p).page { body = settled b s.log p }

-- What is told of a structure change beside is the one that is under way in the log: a page that it has not made is the settled one, with page 0 made its page count of before is told, its pages are those that it is told of, and without one none is open.
pub record IsToldOf (b : Base) (beside : Beside) (log : History) : Type 0 where
  pub agrees : (p : ℕ) → is_done beside p ≡ false → bodies b log p ≡ settled b log p
  pub count : is_done beside 0 ≡ true → beside.count ≡ (settled b log 0).leftmost
  pub apart : (p : ℕ) → is_planned beside p ≡ false → IsNotIn p (open_smo log)
  pub none : beside.pages.now ≡ [] → open_smo log ≡ []

-- The writer has pages, all with their copies. But for those that a structure change beside has made they are these, which are a good tree: each page below the page count is of the tree or free.
pub record HasWholeTreeBut {D : Type 0} (d : Ghosts D) (pages : AllPages) (beside : Beside) (w : PageWriter) (disk : D) : Type 0 where
  pub tree : HasTreeBut d pages beside w disk
  pub good : IsGoodTree (bodies_of pages) []

-- ---- what an engine goes by between two steps

-- Without a change beside, none is open.
abbrev pub NoneIsTold : Type 0
NoneIsTold = (b : Base) (beside : Beside) (log : History) → beside.pages.now ≡ [] → open_smo log ≡ [] → IsToldOf b beside log

-- A change under way is told of by the numbers of its pages, how many are made, and the settled page count.
abbrev pub ChangesAreTold : Type 0
ChangesAreTold = (b : Base) (t undo_next : ℕ) (images : List Numbered) (done prev : ℕ) (beside : Beside) (log : History) → IsUnderWay b t undo_next images done prev log
    → beside.pages.now ≡ numbers_of images → beside.done ≡ done → beside.count ≡ (settled b log 0).leftmost → IsToldOf b beside log

-- Then the settled pages are a tree for a search and for a plan, but for those that are made.
abbrev pub PlansHaveTrees : {D : Type 0} → Ghosts D → Type 0
PlansHaveTrees {D} d = (b : Base) (base : ℕ) (s : Writer) (e : ℕ) (beside : Beside) (w : PageWriter) (disk : D) → StandsAs d b base s w disk → s.redo_end ≡ Some e → IsLawful b page_tree s.log → IsToldOf b beside s.log
    → HasWholeTreeBut d (settled_pages b s) beside w disk

-- ---- where a change begins

-- The images of the split of a key's leaf, where there are some, stand for the pages over which they were planned.
abbrev pub SplitsStand : Type 0
SplitsStand = (dense : Bool) (pages : AllPages) (key : Key) (max : Option ℕ) (images : List Numbered) (leaf : ℕ) → Planned dense pages key max images leaf → StandsFor (bodies_of pages) (held (bodies_of pages) images) (IsApart images)

-- And so do those with which an empty leaf leaves a good tree.
abbrev pub DeletionsStand : Type 0
DeletionsStand = (pages : AllPages) (p : ℕ) (images : List Numbered) → IsGoodTree (bodies_of pages) [] → IsPlan pages p images → StandsFor (bodies_of pages) (held (bodies_of pages) images) (IsApart images)
