-- The search for the last entry below a key, backward along the leaf chain.
use Rattle.std.specs.Prelude.{◌≡◌, ◌<◌, ◌≤◌, ◌+◌, ◌-◌, ◌++◌, ℕ, Bool, true, false, List, length, Some, None}
use Rattle.im_base_types.specs.Keys.{Key}
use Rattle.im_base_types.specs.Pages.{Entry}
use Rattle.im_base_types.specs.Maps.{From, first_in, last_in}
use Rattle.im_theory_page.specs.Entry.{entry_at}
use Rattle.im_page_pool.specs.Pool.{PoolView, IsAt}
use Rattle.im_theory_tree.specs.Good.{AllOf, IsGoodTree}
use Rattle.im_theory_tree.specs.Levels.{Pages, Node, leaves_under, entries_in, the_root, height, walk}
use Rattle.im_theory_tree.specs.Lookups.{last_page}
use Rattle.im_theory_tree.specs.Search.{IsOnWay}
use Rattle.im_tree_search.specs.declared.entry_place.EntryPlace.{EntryPlace}
use Rattle.im_tree_search.specs.Beside.{AgreeBut}
use Rattle.im_tree_search.specs.Found.{entries_of, entry_of}

-- The page is held in that frame, and of its entries the one at the place is the last below the key.
pub record IsLastOf (key : Key) (pool : PoolView) (place : EntryPlace) : Type 0 where
  pub held : IsAt pool place.frame
  pub within : place.at < length (entries_of pool place.frame.number)
  pub last : last_in key (entries_of pool place.frame.number) ≡ Some (entry_of pool place)

-- The entry at the place is the first of the list at or above the key, and the one before it the last below the key.
pub record IsAround (key : Key) (es : List Entry) (place : ℕ) : Type 0 where
  pub some : 1 ≤ place
  pub within : place < length es
  pub last : last_in key es ≡ Some (entry_at es (place - 1))
  pub first : first_in (From key) es ≡ Some (entry_at es place)

-- The walk back for a key comes to page p, 0 before the first leaf: of the leaves after it, up to that of the key, none has an entry below the key, nor has one after that.
pub record ComesBack (pages : Pages) (key : Key) (p : ℕ) : Type 0 where
  pub before : List Node
  pub passed : List Node
  pub rest : List Node
  pub leaves : leaves_under pages (height pages) the_root ≡ before ++ (passed ++ rest)
  pub way : IsOnWay pages 0 key (last_page 0 (before ++ passed))
  pub none : AllOf (λ (m : Node). last_in key (pages m.page).entries ≡ None) passed
  pub high : last_in key (entries_in pages rest) ≡ None
  pub page : last_page 0 before ≡ p

-- The leaves passed and those that may still come are together no fewer than there are pages.
pub record GoesBack (pages : Pages) (key : Key) (left p : ℕ) : Type 0 where
  pub comes : ComesBack pages key p
  pub count : (pages 0).leftmost ≤ left + length comes.passed

-- Why a search backward answers that it is hidden: a page that is made stands on the way to its key, or where its walk back along the leaves comes to.
pub data MeetsDoneBack (pages : Pages) (done : ℕ → Bool) (key : Key) : Type 0 where
  on_way : (h p : ℕ) → IsOnWay pages h key p → done p ≡ true → MeetsDoneBack pages done key
  along : (p : ℕ) → ComesBack pages key p → 1 ≤ p → done p ≡ true → MeetsDoneBack pages done key

-- Each step of a search backward, read from the pages as they stand.
pub record SearchesGoBack : Type 0 where
  pub leaf : (pages : Pages) (spare : List ℕ) (key : Key) (p : ℕ) → IsGoodTree pages spare → IsOnWay pages 0 key p → ComesBack pages key p
  pub answers : (now pages : Pages) (done : ℕ → Bool) (spare : List ℕ) (key : Key) (p : ℕ) (e : Entry) → AgreeBut now pages done → IsGoodTree pages spare → ComesBack pages key p → 1 ≤ p → done p ≡ false
      → last_in key (now p).entries ≡ Some e → last_in key (walk pages) ≡ Some e
  pub back : (now pages : Pages) (done : ℕ → Bool) (spare : List ℕ) (key : Key) (p : ℕ) → AgreeBut now pages done → IsGoodTree pages spare → ComesBack pages key p → 1 ≤ p → done p ≡ false
      → last_in key (now p).entries ≡ None → ComesBack pages key (now p).prev
  pub ends : (pages : Pages) (spare : List ℕ) (key : Key) → IsGoodTree pages spare → ComesBack pages key 0 → last_in key (walk pages) ≡ None
