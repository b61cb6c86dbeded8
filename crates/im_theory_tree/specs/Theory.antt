-- The tree of pages, as the theory of logs asks for it.
use Rattle.std.specs.Prelude.{◌≡◌, ◌≤◌, ℕ, true, [], length, Some, None}
use Rattle.std.specs.FinMap.Entries.{find}
use Rattle.im_base_types.specs.Keys.{Key, key_order}
use Rattle.im_theory_log.specs.Tree.{Tree}
use Rattle.im_theory_page.specs.Split.{HasRoom}
use Rattle.im_theory_tree.specs.Levels.{Pages, walk}
use Rattle.im_theory_tree.specs.Good.{IsGoodTree}
use Rattle.im_theory_tree.specs.Search.{IsOnWay}

-- the page is the key's leaf; it lacks the key, which has 1 to 255 bytes, and has room for the entry
pub record CanPutInto (pages : Pages) (p : ℕ) (k : Key) (i : ℕ) : Type 0 where
  pub leaf : IsOnWay pages 0 k p
  pub keyed : 1 ≤ length k
  pub short : length k ≤ 255
  pub absent : find key_order k (pages p).entries ≡ None
  pub room : HasRoom true (pages p).entries (k, i)

-- the page is the key's leaf, and has the entry
pub record CanDropFrom (pages : Pages) (p : ℕ) (k : Key) (i : ℕ) : Type 0 where
  pub leaf : IsOnWay pages 0 k p
  pub there : find key_order k (pages p).entries ≡ Some i

-- the walk of the leaves, and a good tree with no page spare
abbrev pub page_tree : Tree
page_tree = record {
  walk = walk;
  Good = λ pages. IsGoodTree pages [];
  CanPut = CanPutInto;
  CanDrop = CanDropFrom;
}
