-- Changes of the entries of one leaf.
use Rattle.std.specs.Prelude.{◌≡◌, ℕ, List, [], ◌∷◌, ◌++◌}
use Rattle.im_theory_tree.specs.Good.{AllOf, InRange, next_bound, times, IsGoodTree}
use Rattle.im_theory_tree.specs.Levels.{Pages, Node, leaves_under, the_root, height}
use Rattle.im_theory_tree.specs.Same.{SameTree, SameLinks}
use Rattle.im_base_types.specs.Keys.{IsBelow}
use Rattle.im_base_types.specs.Pages.{Entry}

-- the new list has one entry more, at its place in the order
pub record PutsIn (old new : List Entry) (e : Entry) : Type 0 where
  pub before : List Entry
  pub after : List Entry
  pub was : old ≡ before ++ after
  pub now : new ≡ before ++ e ∷ after
  pub below : AllOf (λ (x : Entry). IsBelow x.0 e.0) before
  pub above : AllOf (λ (x : Entry). IsBelow e.0 x.0) after

-- the entries of one leaf change, within its range
pub record ChangesLeaf (pages new : Pages) (spare : List ℕ) (left : List Node) (n : Node) (right : List Node) : Type 0 where
  pub good : IsGoodTree pages spare
  pub leaves : leaves_under pages (height pages) the_root ≡ left ++ n ∷ right
  pub kind : (new n.page).kind ≡ (pages n.page).kind
  pub level : (new n.page).level ≡ (pages n.page).level
  pub same_links : SameLinks (pages n.page) (new n.page)
  pub range : InRange n.bound (next_bound right) (new n.page).entries
  pub others : (x : ℕ) → times x (n.page ∷ []) ≡ 0 → SameTree (pages x) (new x) × SameLinks (pages x) (new x)
