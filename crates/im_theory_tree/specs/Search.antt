-- The way from the root to the leaf of a key.
use Rattle.std.specs.Prelude.{◌≡◌, ℕ, List, ◌∷◌, ◌++◌}
use Rattle.im_base_types.specs.Keys.{Key}
use Rattle.im_theory_tree.specs.Levels.{Pages, Node, leaves_under, descend, lifted, the_root, height}
use Rattle.im_theory_tree.specs.Good.{HaveLevels, AtOrAbove, IsUnder, next_bound}

-- page p is the one of level k in whose range the key lies, `above` levels under the root
pub record IsOnWay (pages : Pages) (k : ℕ) (key : Key) (p : ℕ) : Type 0 where
  pub above : ℕ
  pub left : List Node
  pub node : Node
  pub right : List Node
  pub page : node.page ≡ p
  pub tall : height pages ≡ lifted above k
  pub down : descend pages above the_root ≡ left ++ node ∷ right
  pub leaves : leaves_under pages k (left ++ node ∷ right) ≡ leaves_under pages (height pages) the_root
  pub levels : HaveLevels pages k (left ++ node ∷ right)
  pub at : AtOrAbove node.bound key
  pub under : IsUnder key (next_bound right)
