-- A structure change that is made page by page: how it stands between two steps, and what others are told of it.
use Rattle.std.specs.Prelude.{◌≡◌, ◌≤◌, ℕ, List, [], Option, None, Some, true}
use Rattle.im_base_types.specs.Keys.{Key}
use Rattle.im_base_types.specs.Pages.{Page}
use Rattle.im_theory_log.specs.Histories.{Base, History}
use Rattle.im_theory_log.specs.Structure.{open_smo, settled}
use Rattle.im_theory_page.specs.Split.{HasRoom}
use Rattle.im_theory_tree.specs.Search.{IsOnWay}
use Rattle.im_theory_machine.specs.View as views
use Rattle.im_tree_search.specs.declared.change_beside.Beside.{Beside}
use Rattle.im_smo_pages.specs.Images.{Numbered, image_of, held}
use Rattle.im_smo_log.specs.ChangePages.{numbers_of}
use Rattle.im_smo_log.specs.Stepping.{Goes}
use Rattle.im_engine_rollback.specs.SplitsBack.{IsSplitBack}
use Rattle.im_engine.specs.declared.stepped.Aim.{Aim}
use Rattle.im_engine.specs.declared.stepped.Aim.TheVariants.{Puts, Drops, TakesBack, TookBack}
use Rattle.im_engine.specs.declared.stepped.Under.{Under}

-- ---- as the machine has it

abbrev pub aim_of : Aim → views.Aim
aim_of (Puts key rid leaf) = views.Puts key rid
aim_of (Drops key) = views.Drops key
aim_of TakesBack = views.TakesBack
aim_of TookBack = views.TookBack

abbrev pub owned : Under → views.Under
owned u = record { owner = u.begun.change.transaction; aim = aim_of u.aim }

abbrev pub under_of : Option Under → Option views.Under
under_of None = None
under_of (Some u) = Some (owned u)

-- ---- in the log, between two steps

-- The key's leaf after the change is this page of it, which has room for the key.
pub record PutsInto (b : Base) (images : List Numbered) (key : Key) (leaf : ℕ) (log : History) : Type 0 where
  pub way : IsOnWay (held (settled b log) images) 0 key leaf
  pub image : Page
  pub is : image_of images leaf ≡ Some image
  pub room : HasRoom true image.body.entries (key, 0)

-- what it is for, as long as it goes on
abbrev pub Aims : Base → Aim → (undo_next : ℕ) → List Numbered → History → Type 0
Aims b (Puts key rid leaf) undo_next images log = PutsInto b images key leaf log
Aims b (Drops key) undo_next images log = Unit {0}
Aims b TakesBack undo_next images log = IsSplitBack b undo_next images log
Aims b TookBack undo_next images log = Unit {0}

-- It is under way in the log, whatever others logged meanwhile, after a record of its owner; its page count is the settled one, and it can do what it is for.
pub record IsGoing (b : Base) (u : Under) (log : History) : Type 0 where
  pub goes : Goes b u.begun.change log
  pub some : 1 ≤ u.begun.change.last
  pub count : u.begun.count ≡ (settled b log 0).leftmost
  pub aims : Aims b u.aim u.begun.change.undo_next u.begun.change.images log

-- With none under way, none is open.
abbrev pub IsChanging : Base → Option Under → History → Type 0
IsChanging b None log = open_smo log ≡ []
IsChanging b (Some u) log = IsGoing b u log

-- ---- what is told of it

-- this is told of it: nothing, or the numbers of its pages, how many of them are made, and the page count of before
pub record IsToldTo (u : Under) (beside : Beside) : Type 0 where
  pub pages : beside.pages.now ≡ numbers_of u.begun.change.images
  pub done : beside.done ≡ u.begun.change.done
  pub count : beside.count ≡ u.begun.count

abbrev pub IsBesideOf : Option Under → Beside → Type 0
IsBesideOf None beside = beside.pages.now ≡ []
IsBesideOf (Some u) beside = IsToldTo u beside

-- ---- from step to step

-- it is as it was, with this many pages more made
pub record IsSameChange (more : ℕ → ℕ) (old new : Under) : Type 0 where
  pub images : new.begun.change.images ≡ old.begun.change.images
  pub owner : new.begun.change.transaction ≡ old.begun.change.transaction
  pub leads : new.begun.change.undo_next ≡ old.begun.change.undo_next
  pub count : new.begun.count ≡ old.begun.count
  pub aim : new.aim ≡ old.aim
  pub done : new.begun.change.done ≡ more old.begun.change.done

-- none, or the same with no page more
abbrev pub IsSameUnder : Option Under → Option Under → Type 0
IsSameUnder None None = Unit {0}
IsSameUnder (Some old) (Some new) = IsSameChange (λ n. n) old new
IsSameUnder _ _ = ⊥
