-- A load that goes on: what is held, and what the file has.
use Rattle.std.specs.Prelude.{◌≡◌, ◌≢◌, ℕ, suc, ◌<◌, ◌≤◌, false, List, [], length, Some}
use Rattle.im_base_types.specs.Keys.{Key}
use Rattle.im_base_types.specs.Pages.{Entry, Body}
use Rattle.im_base_types.specs.declared.page_kind.PageKind.TheVariants.{Meta}
use Rattle.im_load.specs.Edge.{Stands, AreDense}
use Rattle.im_load.specs.Loaded.{unlogged}
use Rattle.im_load.specs.Steps.{with_entry_last}
use Rattle.im_theory_page.specs.Entry.{Rises}
use Rattle.im_theory_page.specs.Header.{empty_body}
use Rattle.im_theory_page.specs.PageFile.{file_page}
use Rattle.im_theory_tree.specs.Allocations.{initial_bodies}
use Rattle.im_theory_tree.specs.Levels.{Pages, height}
use Rattle.im_load.specs.Files.{HasPages}
use Rattle.im_load.specs.Held.{Numbered, held_page}

-- The file has each page that is not held, and that no page past it is: it is final.
pub record HasFinal (pages : Pages) (at : ℕ → ℕ) (levels count : ℕ) (file : List ℕ) : Type 0 where
  pub many : ℕ
  pub whole : HasPages file many
  pub few : many ≤ count
  pub there : (x : ℕ) → 1 ≤ x → x < count → ((k : ℕ) → k ≤ levels → x ≢ at k) → (x < many) × (file_page file x ≡ Some (unlogged pages x))

-- The same of each page that none of the levels from `from` on holds: the lower ones were written.
pub record HasWritten (pages : Pages) (at : ℕ → ℕ) (from levels count : ℕ) (file : List ℕ) : Type 0 where
  pub many : ℕ
  pub whole : HasPages file many
  pub few : many ≤ count
  pub there : (x : ℕ) → 1 ≤ x → x < count → ((k : ℕ) → from ≤ k → k ≤ levels → x ≢ at k) → (x < many) × (file_page file x ≡ Some (unlogged pages x))

-- fields that an inner page of a load does not use
pub record IsPlainInner (b : Body) : Type 0 where
  pub marked : b.marked ≡ false
  pub prev : b.prev ≡ 0
  pub next : b.next ≡ 0

-- Of all pages, those that are held and those that the file has: a good tree of these entries, and where each page is.
pub record Holds (pages : Pages) (at : ℕ → ℕ) (leaf : Numbered) (above : List Numbered) (count : ℕ) (tells : Type 0) (file : List ℕ) (es : List Entry) : Type 0 where
  pub stands : Stands pages at [] es
  pub rises : Rises es
  pub dense : AreDense pages
  pub tall : height pages ≡ length above
  pub last : leaf ≡ (at 0, unlogged pages (at 0))
  pub plain : (k : ℕ) → k < length above → IsPlainInner (pages (at (suc k)))
  pub meta : pages 0 ≡ empty_body Meta 0 0 0 count
  pub past : (x : ℕ) → count ≤ x → pages x ≡ initial_bodies x
  pub final : tells → HasFinal pages at (length above) count file

-- The held page at a place is that of its level.
abbrev pub IsHeldAt : Pages → (ℕ → ℕ) → List Numbered → ℕ → Type 0
IsHeldAt pages at above k = held_page above k ≡ (at (suc k), unlogged pages (at (suc k)))

-- These entries were taken.
pub record HasTakenAll (leaf : Numbered) (above : List Numbered) (count : ℕ) (tells : Type 0) (file : List ℕ) (es : List Entry) : Type 0 where
  pub pages : Pages
  pub at : ℕ → ℕ
  pub holds : Holds pages at leaf above count tells file es
  pub above_are : (k : ℕ) → k < length above → IsHeldAt pages at above k

-- These entries were taken, but that the held page at place i lacks its last separator, with its child.
pub record Pending (leaf : Numbered) (above : List Numbered) (count : ℕ) (tells : Type 0) (file : List ℕ) (es : List Entry) (i : ℕ) (key : Key) (child : ℕ) : Type 0 where
  pub pages : Pages
  pub at : ℕ → ℕ
  pub holds : Holds pages at leaf above count tells file es
  pub within : i < length above
  pub above_are : (k : ℕ) → k < length above → k ≢ i → IsHeldAt pages at above k
  pub number : (held_page above i).0 ≡ at (suc i)
  pub lsn : (held_page above i).1.lsn ≡ 0
  pub waits : pages (at (suc i)) ≡ with_entry_last (held_page above i).1.body (key, child)
