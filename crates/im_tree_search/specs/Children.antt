-- The child of an inner page on a key's way.
use Rattle.std.specs.Prelude.{◌≡◌, ℕ, ◌<◌, [], length}
use Rattle.im_base_types.specs.Keys.{Key}
use Rattle.im_base_types.specs.Pages.{Body}
use Rattle.im_theory_page.specs.Entry.{entry_at}
use Rattle.im_theory_page.specs.Child.{IsChild, StartAbove}
use Rattle.im_tree_search.specs.declared.child_place.ChildPlace.{ChildPlace}
use Rattle.im_tree_search.specs.declared.child_place.ChildPlace.TheVariants.{Entry, Leftmost, Only}
use Rattle.im_tree_search.specs.declared.child_place.Child.{Child}

-- page c stands there in an inner page
abbrev pub StandsAt : Body → ChildPlace → ℕ → Type 0
StandsAt b (Entry i) c = (i < length b.entries) × ((entry_at b.entries i).1 ≡ c)
StandsAt b Leftmost c = (0 < length b.entries) × (b.leftmost ≡ c)
StandsAt b Only c = (b.entries ≡ []) × (b.leftmost ≡ c)

-- the child of an inner page on a key's way
pub record IsChildOf (b : Body) (key : Key) (child : Child) : Type 0 where
  pub way : IsChild b key child.number
  pub at : StandsAt b child.place child.number
  pub first : child.place ≡ Leftmost → StartAbove key b.entries
