-- From a page on the way to the next.
use Rattle.std.specs.Prelude.{◌≡◌, ◌≢◌, ◌⊎◌, ℕ, suc, List, [], ◌∷◌, ◌++◌}
use Rattle.im_base_types.specs.Keys.{Key}
use Rattle.im_theory_tree.specs.Levels.{Pages}
use Rattle.im_theory_tree.specs.Search.{IsOnWay}
use Rattle.im_theory_tree.specs.KeyDeletions.{HasNone, chain_down, leaf_down}
use Rattle.im_tree_search.specs.declared.child_place.ChildPlace.{ChildPlace}
use Rattle.im_tree_search.specs.declared.child_place.ChildPlace.TheVariants.{Only}
use Rattle.im_tree_search.specs.declared.child_place.Child.{Child}
use Rattle.im_smo_drop_leaf.specs.declared.way.Place.{Place}
use Rattle.im_tree_search.specs.Children.{StandsAt}
use Rattle.im_smo_drop_leaf.specs.Chains.{OnlyUnderRoot}

-- Page n of level k on a key's way stands at the end of a chain that hangs from a page on it: down from the parent's child the pages `above` have one child each. Where page n has no entry, and has such a chain under it down to a leaf, all of these go.
pub record Hangs (pages : Pages) (key : Key) (parent : ℕ) (place : ChildPlace) (k n : ℕ) (above : List ℕ) : Type 0 where
  pub h : ℕ
  pub p : ℕ
  pub up : IsOnWay pages (suc h) key parent
  pub at : StandsAt (pages parent) place p
  pub root : OnlyUnderRoot place parent
  pub none : HasNone pages k n → HasNone pages h p
  pub chain : chain_down pages h p ≡ above ++ chain_down pages k n
  pub leaf : leaf_down pages h p ≡ leaf_down pages k n

-- page n of level k is on a key's way; it is the root, or stands at the end of a chain
pub record IsPlaced (pages : Pages) (key : Key) (parent : ℕ) (place : ChildPlace) (k n : ℕ) (above : List ℕ) : Type 0 where
  pub way : IsOnWay pages k key n
  pub from : (n ≡ 1) ⊎ Hangs pages key parent place k n above

-- A page whose one child is the next page joins the chain; any other page, and the root, begins a chain.
pub record IsNext (place : Place) (child : Child) (next : Place) (above more : List ℕ) : Type 0 where
  pub number : next.number ≡ child.number
  pub joins : child.place ≡ Only → place.number ≢ 1 → (next.parent ≡ place.parent) × (next.place ≡ place.place) × (more ≡ above ++ place.number ∷ [])
  pub begins : (child.place ≢ Only) ⊎ (place.number ≡ 1) → (next.parent ≡ place.number) × (next.place ≡ child.place) × (more ≡ [])
