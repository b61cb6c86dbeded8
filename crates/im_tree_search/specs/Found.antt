-- What searches ask and answer.
use Rattle.std.specs.Prelude.{◌≡◌, ◌<◌, ◌≤◌, ◌+◌, ◌++◌, ℕ, List, length, Some}
use Rattle.im_base_types.specs.Keys.{Key}
use Rattle.im_base_types.specs.Pages.{Entry}
use Rattle.im_base_types.specs.Maps.{Start, first_in}
use Rattle.im_base_disk.specs.declared.disk.Disk.{Ghosts}
use Rattle.im_theory_page.specs.Entry.{entry_at}
use Rattle.im_page_pool.specs.declared.frame.Frame.{Frame}
use Rattle.im_page_pool.specs.Pool.{PoolView, page_at, IsAt}
use Rattle.im_page_writer.specs.declared.page_writer.PageWriter.{PageWriter}
use Rattle.im_page_writer.specs.Outcome.{AllPages, AreLoaded, HasPages}
use Rattle.im_theory_tree.specs.Levels.{Pages, Node, leaves_under, entries_in, the_root, height}
use Rattle.im_theory_tree.specs.Good.{first_page, IsGoodTree}
use Rattle.im_theory_tree.specs.Search.{IsOnWay}
use Rattle.im_theory_tree.specs.Lookups.{IsAhead}
use Rattle.im_tree_search.specs.declared.entry_place.EntryPlace.{EntryPlace}
use Rattle.im_tree_search.specs.Levels.{HasLevel, bodies_of}

-- ---- entries where they stand

-- the entries of a held page
abbrev pub entries_of : PoolView → ℕ → List Entry
entries_of pool p = (page_at pool p).body.entries

-- the entry at a place
abbrev pub entry_of : PoolView → EntryPlace → Entry
entry_of pool place = entry_at (entries_of pool place.frame.number) place.at

-- The page is held in that frame, and is one of the tree, of this level.
pub record IsTreePage (h : ℕ) (p : ℕ) (pool : PoolView) (frame : Frame) : Type 0 where
  pub at : IsAt pool frame
  pub level : HasLevel h (page_at pool p).body

-- The page is held in that frame, and of its entries the one at the place is the first past the start.
pub record IsFirstOf (start : Start) (pool : PoolView) (place : EntryPlace) : Type 0 where
  pub held : IsAt pool place.frame
  pub within : place.at < length (entries_of pool place.frame.number)
  pub first : first_in start (entries_of pool place.frame.number) ≡ Some (entry_of pool place)

-- The list has the entries of the leaves before page p, which is 0 after the last leaf. At least `passed` leaves stand before.
pub record IsListed (pages : Pages) (list : List Entry) (passed p : ℕ) : Type 0 where
  pub before : List Node
  pub rest : List Node
  pub leaves : leaves_under pages (height pages) the_root ≡ before ++ rest
  pub page : first_page rest ≡ p
  pub count : passed ≤ length before
  pub entries : list ≡ entries_in pages before

-- ---- what a search asks

-- The writer has these pages, all with their copies, and they are a good tree.
pub record HasTree {D : Type 0} (d : Ghosts D) (pages : AllPages) (w : PageWriter) (disk : D) : Type 0 where
  pub has : HasPages d AreLoaded pages w disk
  pub spare : List ℕ
  pub good : IsGoodTree (bodies_of pages) spare

-- ---- what it answers

-- The page of level h on the way to a key is held, and is the writer's.
pub record IsReached (pages : AllPages) (key : Key) (h p : ℕ) (pool : PoolView) : Type 0 where
  pub shown : page_at pool p ≡ pages p
  pub way : IsOnWay (bodies_of pages) h key p

-- That page, and so far one get for its level and for each above it.
pub record Descends (pages : AllPages) (key : Key) (h p old_gets : ℕ) (pool : PoolView) : Type 0 where
  pub reached : IsReached pages key h p pool
  pub count : pool.gets + h ≡ old_gets + (height (bodies_of pages) + 1)

-- The key's leaf, by one get for each level.
pub record IsLeafFor (pages : AllPages) (key : Key) (p old_gets : ℕ) (pool : PoolView) : Type 0 where
  pub reached : IsReached pages key 0 p pool
  pub gets : pool.gets ≡ old_gets + (height (bodies_of pages) + 1)

-- The first entry past the start stands in the leaves from page p on, or nowhere; the leaves passed and those that may still come are together as many as there are pages.
pub record GoesAlong (pages : Pages) (start : Start) (left p : ℕ) : Type 0 where
  pub passed : ℕ
  pub ahead : IsAhead pages start passed p
  pub count : left + passed ≡ (pages 0).leftmost

-- The list has the entries of the leaves before page p; the leaves passed and those that may still come are together as many as there are pages.
pub record ListsOn (pages : Pages) (list : List Entry) (left p : ℕ) : Type 0 where
  pub passed : ℕ
  pub listed : IsListed pages list passed p
  pub count : left + passed ≡ (pages 0).leftmost
