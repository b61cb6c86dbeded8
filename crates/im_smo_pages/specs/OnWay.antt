-- A split of the leaf on a key's way, and allocations.
use Rattle.std.specs.Prelude.{◌≡◌, ◌≢◌, ◌⊎◌, ℕ, zero, ◌≤◌, true, List, None, Some}
use Rattle.im_base_types.specs.Keys.{Key, IsBelow}
use Rattle.im_theory_page.specs.Split.{HasRoomForAny}
use Rattle.im_theory_tree.specs.Levels.{Pages, walk}
use Rattle.im_theory_tree.specs.Good.{AtOrAbove, IsGoodTree}
use Rattle.im_theory_tree.specs.Search.{IsOnWay}
use Rattle.im_theory_tree.specs.Ways.{KeepsWays, KeepsAllWays}
use Rattle.im_smo_pages.specs.Images.{Numbered, image_of, Has, KeepsAll}

-- the half in whose range a key lies: the left one, p, where the key is below the separator, else the right one, q
abbrev pub IsHalf : Key → Key → (p q m : ℕ) → Type 0
IsHalf s key p q m = ((m ≡ p) × IsBelow key s) ⊎ ((m ≡ q) × AtOrAbove (Some s) key)

-- after a split of leaf p the tree is good, with the same walk, and the key's leaf, m, has room for an entry of any size
pub record HasRoomIn (old new : Pages) (spare : List ℕ) (key : Key) (p m : ℕ) : Type 0 where
  pub good : IsGoodTree new spare
  pub walks : walk new ≡ walk old
  pub ways : KeepsWays old new (λ x. x ≢ p)
  pub way : IsOnWay new zero key m
  pub room : HasRoomForAny true (new m).entries

-- After an allocation the tree is good, with the same walk; each way is as it was, and each page but the meta page.
pub record KeepsTree (old new : Pages) (spare : List ℕ) : Type 0 where
  pub good : IsGoodTree new spare
  pub walks : walk new ≡ walk old
  pub ways : (k : ℕ) (key : Key) (p : ℕ) → IsOnWay old k key p → IsOnWay new k key p
  pub others : (x : ℕ) → 1 ≤ x → new x ≡ old x

-- a page that is none of the images
abbrev pub IsApart : List Numbered → ℕ → Type 0
IsApart images p = image_of images p ≡ None

-- With regard to the pages that a plan changes: a step that changes one of them alone, or none, keeps the ways of all others, and so do steps in a row.
pub record PlansKeepWays : Type 0 where
  pub one : (pages new : Pages) (images : List Numbered) (p : ℕ) → Has images p → KeepsWays pages new (λ x. x ≢ p) → KeepsWays pages new (IsApart images)
  pub none : (pages new : Pages) (images : List Numbered) → KeepsAllWays pages new → KeepsWays pages new (IsApart images)
  pub more : (pages new : Pages) (images longer : List Numbered) → KeepsAll images longer → KeepsWays pages new (IsApart images) → KeepsWays pages new (IsApart longer)
  pub next : (pages mid new : Pages) (images : List Numbered) → KeepsWays pages mid (IsApart images) → KeepsWays mid new (IsApart images) → KeepsWays pages new (IsApart images)
