-- What the split of a key's leaf, the last one, keeps.
use Rattle.std.specs.Prelude.{◌≡◌, ◌≤◌, ℕ, zero, suc, List, [], ◌∷◌, length}
use Rattle.im_base_types.specs.Keys.{Key}
use Rattle.im_base_types.specs.Pages.{Body}
use Rattle.im_theory_page.specs.Child.{IsChild}
use Rattle.im_page_writer.specs.Outcome.{AllPages}
use Rattle.im_theory_tree.specs.Levels.{Pages, height, walk}
use Rattle.im_theory_tree.specs.Good.{IsGoodTree}
use Rattle.im_theory_tree.specs.Search.{IsOnWay}
use Rattle.im_theory_tree.specs.KeySplits.{HasRoomOnWay}
use Rattle.im_smo_pages.specs.Images.{Numbered, Has, held}
use Rattle.im_smo_pages.specs.OnWay.{HasRoomIn, IsApart}
use Rattle.im_smo_pages.specs.Seen.{seen}
use Rattle.im_theory_tree.specs.Ways.{KeepsWays}
use Rattle.im_smo_split.specs.Steps.{Brought}

-- Leaf p, which held this body, is split, and the leaf after it is told; `half` is the part that the key belongs to.
pub record HalvesLeaf (old new : List Numbered) (page : Body) (key : Key) (parent p q half : ℕ) : Type 0 where
  pub there : Has new p
  pub part : Has new half
  pub goes : (pages : Pages) (spare : List ℕ) → IsGoodTree (held pages old) (q ∷ spare) → IsOnWay (held pages old) (suc zero) key parent → IsChild (held pages old parent) key p → held pages old p ≡ page
      → HasRoomIn (held pages old) (held pages new) spare key p half

-- the same of the root, a leaf, which is split into pages l and r
pub record HalvesRootLeaf (old new : List Numbered) (page : Body) (key : Key) (l r half : ℕ) : Type 0 where
  pub there : Has new 1
  pub part : Has new half
  pub goes : (pages : Pages) (spare : List ℕ) → IsGoodTree (held pages old) (l ∷ r ∷ spare) → height (held pages old) ≡ zero → held pages old 1 ≡ page
      → HasRoomIn (held pages old) (held pages new) spare key 1 half

-- The leaf of this number is among the images, and the one after it, if there is one; and what is seen of each page is as it was.
pub record BroughtBoth (store : AllPages) (images : List Numbered) (number : ℕ) (new : List Numbered) : Type 0 where
  pub one : Brought store images number new
  pub next : 1 ≤ (seen store images number).next → Has new (seen store images number).next

-- The images leave a good tree with no page spare and the walk of before, in which this page, one of them, is the key's leaf, and it has room for an entry of any size; each leaf of before that is none of them keeps its keys.
pub record Ended (store : AllPages) (key : Key) (images new : List Numbered) (leaf : ℕ) : Type 0 where
  pub good : IsGoodTree (seen store new) []
  pub same : walk (seen store new) ≡ walk (seen store images)
  pub room : HasRoomOnWay (seen store new) zero key
  pub way : IsOnWay (seen store new) zero key leaf
  pub ways : KeepsWays (seen store images) (seen store new) (IsApart new)
  pub some : 1 ≤ length new
  pub has : Has new leaf
