-- The pages that split on the way of a key, from the top down.
use Rattle.std.specs.Prelude.{◌≡◌, ℕ, zero, suc, Bool, true, false, List}
use Rattle.im_base_types.specs.Keys.{Key}
use Rattle.im_theory_page.specs.Entry.{entry_at, Rises}
use Rattle.im_theory_page.specs.Child.{IsChild}
use Rattle.im_theory_page.specs.Split.{HasRoom}
use Rattle.im_theory_tree.specs.Levels.{Pages, height}
use Rattle.im_theory_tree.specs.Good.{IsGoodTree}
use Rattle.im_theory_tree.specs.Search.{IsOnWay}
use Rattle.im_theory_tree.specs.Halves.{LacksRoom}
use Rattle.im_theory_tree.specs.KeySplits.{is_leaf_level}
use Rattle.im_smo_pages.specs.Parts.{IsPoint}

-- page p lacks room for the separator of its child c
pub record PassesUp (dense : Bool) (pages : Pages) (leaf : Bool) (c p : ℕ) : Type 0 where
  pub point : ℕ
  pub at : IsPoint dense leaf (pages c) point
  pub lacks : LacksRoom false (pages p).entries ((entry_at (pages c).entries point).0, 0)

-- Page p of level k lacks room, and so does each page under it on a key's way: the leaf for the key's entry, each other page for the separator of the one under it.
abbrev pub SplitsDown : Bool → Pages → Key → ℕ → ℕ → Type 0
SplitsDown dense pages key zero p = LacksRoom true (pages p).entries (key, 0)
SplitsDown dense pages key (suc k) p = (c : ℕ) → IsChild (pages p) key c → PassesUp dense pages (is_leaf_level k) c p × SplitsDown dense pages key k c

-- Page p of level k is the next to be split: its parent has room for its separator, and each page under p on the key's way is to be split after it.
pub record IsPending (dense : Bool) (pages : Pages) (spare : List ℕ) (key : Key) (k parent p : ℕ) : Type 0 where
  pub good : IsGoodTree pages spare
  pub way : IsOnWay pages (suc k) key parent
  pub child : IsChild (pages parent) key p
  pub rises : Rises (pages parent).entries
  pub point : ℕ
  pub at : IsPoint dense (is_leaf_level k) (pages p) point
  pub room : HasRoom false (pages parent).entries ((entry_at (pages p).entries point).0, 0)
  pub splits : SplitsDown dense pages key k p

-- the root, of level k, is the next to be split
pub record IsRootPending (dense : Bool) (pages : Pages) (spare : List ℕ) (key : Key) (k : ℕ) : Type 0 where
  pub good : IsGoodTree pages spare
  pub tall : height pages ≡ k
  pub splits : SplitsDown dense pages key k 1
