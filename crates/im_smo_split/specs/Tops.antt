-- Where a split begins: the highest page that splits.
use Rattle.std.specs.Prelude.{◌≡◌, ◌+◌, ℕ, true, false, Bool, List, [], ◌∷◌, Option, None, IfSome}
use Rattle.im_base_types.specs.Keys.{Key}
use Rattle.im_theory_page.specs.Split.{HasRoom}
use Rattle.im_theory_tree.specs.Levels.{Pages}
use Rattle.im_theory_tree.specs.Search.{IsOnWay}
use Rattle.im_page_pool.specs.Pool.{PoolView, page_at, IsAt}
use Rattle.im_tree_search.specs.Levels.{HasLevel}
use Rattle.im_smo_split.specs.declared.top.Place.{Place}
use Rattle.im_smo_split.specs.declared.top.Top.{Top}
use Rattle.im_smo_split.specs.PendingSplits.{SplitsDown, IsPending, IsRootPending}
use Rattle.im_smo_split.specs.Paths.{OnPath, IsPath, pages_taken, new_pages}

-- the page that was found is to be split
pub record IsTop (dense : Bool) (pages : Pages) (key : Key) (top : Top) : Type 0 where
  pub root : top.root ≡ true → IsRootPending dense pages [] key top.level
  pub under : top.root ≡ false → IsPending dense pages [] key top.level top.parent top.page

-- the split of the page of this level takes a page for each level from there up to the highest page that splits, and one more for the root
pub record IsCounted (level : ℕ) (top : Top) : Type 0 where
  pub root : top.root ≡ true → top.pages + level ≡ top.level + 2
  pub under : top.root ≡ false → top.pages + level ≡ top.level + 1

-- A page of this level is held at a place, and so many pages are counted there.
pub record StandsAt (pool : PoolView) (place : Place) : Type 0 where
  pub at : IsAt pool place.frame
  pub page : HasLevel place.level (page_at pool place.frame.number).body
  pub counted : IsCounted place.level place.top

-- A page on the key's way, with the highest page that splits where this one does.
pub record IsPlaced (dense : Bool) (pages : Pages) (key : Key) (level number : ℕ) (top : Top) : Type 0 where
  pub way : IsOnWay pages level key number
  pub here : OnPath
  pub above : List OnPath
  pub page : here.page ≡ number
  pub path : IsPath dense pages key level (here ∷ above)
  pub count : top.pages ≡ pages_taken pages (here ∷ above)
  pub splits : SplitsDown dense pages key level number → IsTop dense pages key top

-- the key's leaf has room for its entry
pub record HasRoomFor (pages : Pages) (key : Key) : Type 0 where
  pub page : ℕ
  pub way : IsOnWay pages 0 key page
  pub room : HasRoom true (pages page).entries (key, 0)

-- the key's leaf lacks it
pub record LacksRoomFor (pages : Pages) (key : Key) : Type 0 where
  pub page : ℕ
  pub way : IsOnWay pages 0 key page
  pub lacks : HasRoom true (pages page).entries (key, 0) → ⊥

-- Where the key's leaf lacks room for its entry, the highest page that splits, and how many pages the split takes; none where it has room.
pub record IsFound (dense : Bool) (pages : Pages) (key : Key) (found : Option Top) : Type 0 where
  pub path : List OnPath
  pub is_path : IsPath dense pages key 0 path
  pub room : found ≡ None → HasRoomFor pages key × (new_pages pages key path ≡ 0)
  pub splits : IfSome found (λ t. IsTop dense pages key t × (t.pages ≡ new_pages pages key path) × LacksRoomFor pages key)
