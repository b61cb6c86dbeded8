-- Pages that are the same to a tree.
use Rattle.std.specs.Prelude.{◌≡◌, ℕ, List}
use Rattle.im_theory_tree.specs.Good.{AllOf}
use Rattle.im_theory_tree.specs.Levels.{Pages}
use Rattle.im_base_types.specs.Pages.{Body}

-- what a tree reads of a page
pub record SameTree (c d : Body) : Type 0 where
  pub kind : d.kind ≡ c.kind
  pub level : d.level ≡ c.level
  pub entries : d.entries ≡ c.entries
  pub leftmost : d.leftmost ≡ c.leftmost

-- the same of each of these pages
abbrev pub SameOn : Pages → Pages → List ℕ → Type 0
SameOn pages new qs = AllOf (λ q. SameTree (pages q) (new q)) qs

-- the same place in the leaf chain, or in the free list
pub record SameLinks (c d : Body) : Type 0 where
  pub prev : d.prev ≡ c.prev
  pub next : d.next ≡ c.next

-- the same but for the mark of a structure change
abbrev pub SameButMark : Body → Body → Type 0
SameButMark c d = SameTree c d × SameLinks c d
