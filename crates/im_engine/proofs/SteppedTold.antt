-- What an engine tells its calls of the structure change under way, and the pages over which they search.
use Rattle.std.proofs.Common.{◌≡◌, ◌≤◌, List, [], ◌∷◌, length, Option, None, Some, refl, sym, ◌∙◌, arith}
use Rattle.std.specs.FinMap.{entries}
use Rattle.im_base_types.specs.Changes.{Effect}
use Rattle.im_base_types.specs.Lives.{Shown}
use Rattle.im_theory_log.specs.Histories.{Base, History}
use Rattle.im_base_disk.specs.declared.disk.Disk.{Ghosts}
use Rattle.im_theory_machine.specs.View.{View}
use Rattle.im_theory_tree.specs.Levels.{walk}
use Rattle.im_tree_search.specs.declared.change_beside.Beside.{Beside}
use Rattle.im_tree_search.specs.Levels.{bodies_of}
use Rattle.im_smo_pages.specs.Images.{Numbered}
use Rattle.im_smo_log.specs.ChangePages.{numbers_of}
use Rattle.im_smo_actions.specs.GoingBeside.{settled_pages, HasWholeTreeBut, IsToldOf}
use Rattle.im_smo_actions.proofs.Told.{changes_are_told, none_is_told, plans_have_trees}
use Rattle.im_engine.specs.declared.engine.Engine.{Engine}
use Rattle.im_engine.specs.declared.stepped.Under.{Under}
use Rattle.im_engine.specs.Aims.{IsBesideOf, IsChanging}
use Rattle.im_engine.specs.Running.{IsRunning}
use Rattle.im_engine.proofs.Running.{settled_walk}

-- it is the log's
pub told_of : (b : Base) (under : Option Under) (beside : Beside) (log : History) → IsBesideOf under beside → IsChanging b under log → IsToldOf b beside log
told_of b None beside log is closed = none_is_told b beside log is closed
told_of b (Some u) beside log is going =
    let c = u.begun.change in
    changes_are_told b c.transaction c.undo_next c.images c.done c.last beside log going.goes is.pages is.done (is.count ∙ going.count)

-- a plan has pages
some_pages : (images : List Numbered) → numbers_of images ≡ [] → 1 ≤ length images → ⊥
some_pages [] none some = omega (arith, some)
some_pages (x ∷ images) none some = cc none

-- where nothing is told, none is under way
pub none_under : (under : Option Under) (beside : Beside) → IsBesideOf under beside → beside.pages.now ≡ [] → under ≡ None
none_under None beside is none = refl
none_under (Some u) beside is none = absurd (some_pages u.begun.change.images (sym is.pages ∙ none) u.begun.change.counted.0)

module _ {D : Type 0} (d : Ghosts D) {b : Base} (before : List Effect) (s : Shown) (v : View) (e : Engine D d) (r : IsRunning d b before s v e) (beside : Beside) (is : IsBesideOf e.under beside) where
  pub told_here : IsToldOf b beside r.now.log
  told_here = told_of b e.under beside r.now.log is r.changing

  -- the pages without it are a tree, but for those that are made
  pub tree_here : HasWholeTreeBut d (settled_pages b r.now) beside e.writer e.disk
  tree_here = plans_have_trees d b r.base r.now r.redo_end beside e.writer e.disk r.stands r.over r.lawful told_here

  -- whose walk is the machine's
  pub walk_here : walk (bodies_of (settled_pages b r.now)) ≡ entries v.walk
  walk_here = settled_walk d before s v e r
