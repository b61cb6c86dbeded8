-- What it asks of the tree to take a key record back, beside a structure change too.
use Rattle.std.specs.Prelude.{◌≡◌, ◌≢◌, ◌≤◌, ℕ, true, false, List, [], length, None, Result, IfErr}
use Rattle.im_base_types.specs.declared.fault.Fault.{Fault}
use Rattle.im_base_types.specs.declared.fault.Fault.TheVariants.{Capacity, Memory}
use Rattle.im_base_types.specs.Keys.{Key}
use Rattle.im_base_types.specs.Records.{What, InsertKey, DeleteKey}
use Rattle.im_theory_log.specs.Histories.{History}
use Rattle.im_theory_log.specs.Lawful.{IsNotIn}
use Rattle.im_page_writer.specs.Outcome.{AllPages, IsSound}
use Rattle.im_theory_tree.specs.Levels.{Pages}
use Rattle.im_theory_tree.specs.Search.{IsOnWay}
use Rattle.im_tree_search.specs.declared.change_beside.Beside.{Beside}
use Rattle.im_tree_search.specs.declared.sight.Sight.{Sight}
use Rattle.im_tree_search.specs.Levels.{bodies_of}
use Rattle.im_tree_search.specs.Sights.{is_done, IfSeen, IsWayMade}
use Rattle.im_smo_pages.specs.Images.{Numbered}
use Rattle.im_smo_drop_leaf.specs.Emptied.{emptied}
use Rattle.im_smo_drop_leaf.specs.Plan.{IsPlan}
use Rattle.im_smo_split.specs.declared.split_plan.SplitPlan.{SplitPlan}
use Rattle.im_smo_split.specs.Plan.{Planned}
use Rattle.im_smo_split.specs.Tops.{LacksRoomFor}
use Rattle.im_smo_actions.specs.GoingBeside.{is_planned}
use Rattle.im_restart_undo.specs.declared.back.Back.{Back}
use Rattle.im_restart_undo.specs.declared.back.Back.TheVariants.{Plain, Split, Drop}
use Rattle.im_restart_undo.specs.Place.{HasGap, HasKey, IsKnownLeaf}
use Rattle.im_restart_undo.specs.Undoing.{TakesIt, UsesUp, WantsRoom}

-- ---- what the record's key asks

-- The leaf of the key is not page 1, and has one entry.
pub record HoldsOneKey (pages : Pages) (key : Key) : Type 0 where
  pub page : ℕ
  pub way : IsOnWay pages 0 key page
  pub other : page ≢ 1
  pub one : length (pages page).entries ≡ 1

-- it takes a structure change: a key that goes leaves its leaf empty, or one that comes back finds its leaf without room
abbrev pub NeedsChange : Pages → What → Type 0
NeedsChange pages (InsertKey k i) = HoldsOneKey pages k
NeedsChange pages (DeleteKey k i) = LacksRoomFor pages k
NeedsChange pages _ = ⊥

-- the page is the leaf of the record's key
abbrev pub IsLeafOf : Pages → What → ℕ → Type 0
IsLeafOf pages (InsertKey k i) p = IsOnWay pages 0 k p
IsLeafOf pages (DeleteKey k i) p = IsOnWay pages 0 k p
IsLeafOf pages _ p = ⊥

-- the page says so itself: it has the key that goes, or a smaller and a greater than the one that comes back, and room for it
abbrev pub IsKnownFor : Pages → What → ℕ → Type 0
IsKnownFor pages (InsertKey k i) p = IsKnownLeaf pages p × HasKey (pages p).entries k
IsKnownFor pages (DeleteKey k i) p = IsKnownLeaf pages p × HasGap (pages p) k
IsKnownFor pages _ p = ⊥

-- a page on the way to the record's key is made by the structure change beside
abbrev pub IsWayOfMade : Pages → Beside → What → Type 0
IsWayOfMade pages beside (InsertKey k i) = IsWayMade pages beside k
IsWayOfMade pages beside (DeleteKey k i) = IsWayMade pages beside k
IsWayOfMade pages beside _ = ⊥

-- ---- what it can be taken back by

-- these pages are the split of the leaf of a key that comes back
abbrev pub SplitsFor : AllPages → What → SplitPlan → Type 0
SplitsFor pages (DeleteKey k i) plan = Planned false pages k None plan.images plan.leaf × (1 ≤ length plan.images)
SplitsFor pages _ plan = ⊥

-- The page is the leaf of the key, which has nothing else, and these pages take it out of the tree once the key is gone.
pub record EmptiesLeaf (pages : AllPages) (key : Key) (p : ℕ) (images : List Numbered) : Type 0 where
  pub leaf : IsOnWay (bodies_of pages) 0 key p
  pub other : p ≢ 1
  pub one : length (bodies_of pages p).entries ≡ 1
  pub plan : IsPlan (emptied pages p) p images

abbrev pub DropsFor : AllPages → What → ℕ → List Numbered → Type 0
DropsFor pages (InsertKey k i) p images = EmptiesLeaf pages k p images
DropsFor pages _ p images = ⊥

-- by its kind
abbrev pub CanBack : AllPages → What → Back → Type 0
CanBack pages w (Plain p) = TakesIt (bodies_of pages) p w
CanBack pages w (Split plan) = SplitsFor pages w plan
CanBack pages w (Drop p images) = DropsFor pages w p images

-- the open structure change, if there is one, has not changed the page; and a second one is never begun
abbrev pub IsOutOf : History → Back → Type 0
IsOutOf going (Plain p) = IsNotIn p going
IsOutOf going (Split plan) = going ≡ []
IsOutOf going (Drop p images) = going ≡ []

-- ---- the plan

-- the change beside leaves the page alone; and there is none where the plan has one of its own
abbrev pub IsClearOf : Beside → Back → Type 0
IsClearOf beside (Plain p) = is_planned beside p ≡ false
IsClearOf beside (Split plan) = beside.pages.now ≡ []
IsClearOf beside (Drop p images) = beside.pages.now ≡ []

-- a structure change that is needed is made
abbrev pub LeavesNone : Pages → What → Back → Type 0
LeavesNone pages w (Plain p) = NeedsChange pages w → ⊥
LeavesNone pages w (Split plan) = Unit {0}
LeavesNone pages w (Drop p images) = Unit {0}

-- The record can be taken back so, over these pages and beside the change.
pub record IsBack (pages : AllPages) (beside : Beside) (w : What) (back : Back) : Type 0 where
  pub can : CanBack pages w back
  pub clear : IsClearOf beside back
  pub whole : LeavesNone (bodies_of pages) w back

-- Why that is hidden: the page that the record names is made; or that page does not say that it is the key's leaf, and a page on the key's way is made; or the key's leaf is one of the change; or a change is needed beside it.
pub data HiddenBack (pages : Pages) (beside : Beside) (page : ℕ) (w : What) : Type 0 where
  page_made : is_done beside page ≡ true → HiddenBack pages beside page w
  way_made : (IsKnownFor pages w page → ⊥) → IsWayOfMade pages beside w → HiddenBack pages beside page w
  leaf_planned : (leaf : ℕ) → IsLeafOf pages w leaf → is_planned beside leaf ≡ true → HiddenBack pages beside page w
  change_needed : beside.pages.now ≢ [] → NeedsChange pages w → HiddenBack pages beside page w

-- What the plan answers. Memory and page numbers are wanted only for a structure change that is needed.
pub record BackPlanned (pages : AllPages) (beside : Beside) (page : ℕ) (w : What) (result : Result (Sight Back) Fault) : Type 0 where
  pub sound : IsSound result (IfSeen (IsBack pages beside w) (HiddenBack (bodies_of pages) beside page w))
  pub short : IfErr result (λ e. e ≡ Memory → NeedsChange (bodies_of pages) w)
  pub used_up : IfErr result (λ e. e ≡ Capacity → UsesUp (bodies_of pages) w)

-- What it answers beside no change: for want of memory a leaf that is left empty stays.
pub record PlannedAlone (pages : AllPages) (w : What) (result : Result Back Fault) : Type 0 where
  pub sound : IsSound result (CanBack pages w)
  pub short : IfErr result (λ e. e ≡ Memory → WantsRoom (bodies_of pages) w)
  pub used_up : IfErr result (λ e. e ≡ Capacity → UsesUp (bodies_of pages) w)
