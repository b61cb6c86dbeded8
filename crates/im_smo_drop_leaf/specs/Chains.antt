-- The chain of pages that goes with an empty leaf.
use Rattle.std.specs.Prelude.{◌≡◌, ℕ, ◌≤◌, []}
use Rattle.im_base_types.specs.Pages.{Body}
use Rattle.im_theory_log.specs.Tree.{with_body}
use Rattle.im_base_types.specs.declared.page_kind.PageKind.TheVariants.{Leaf}
use Rattle.im_theory_tree.specs.Levels.{Pages}
use Rattle.im_smo_pages.specs.Bodies.{with_prev, with_next, without_entry, without_leftmost}
use Rattle.im_theory_page.specs.Header.{leaf_body}
use Rattle.im_smo_pages.specs.Changed.{linked_prev, linked_next, unlinked_pages}
use Rattle.im_tree_search.specs.declared.child_place.ChildPlace.{ChildPlace}
use Rattle.im_tree_search.specs.declared.child_place.ChildPlace.TheVariants.{Entry, Leftmost, Only}
use Rattle.im_smo_drop_leaf.specs.declared.beside.Beside.{Beside}
use Rattle.im_smo_drop_leaf.specs.declared.beside.Side.{Side}
use Rattle.im_smo_drop_leaf.specs.declared.beside.Side.TheVariants.{Prev, Next}

-- the leaves beside a leaf without entries
pub record IsBeside (b : Body) (beside : Beside) : Type 0 where
  pub none : b.entries ≡ []
  pub prev : beside.prev ≡ b.prev
  pub next : beside.next ≡ b.next

-- the root alone is left without a child
abbrev pub OnlyUnderRoot : ChildPlace → ℕ → Type 0
OnlyUnderRoot (Entry i) parent = Unit {0}
OnlyUnderRoot Leftmost parent = Unit {0}
OnlyUnderRoot Only parent = parent ≡ 1

-- ---- what a deletion makes of pages

-- the parent without the child at a place; the root left without a child is a leaf without entries
abbrev pub without_child : Body → ChildPlace → Body
without_child b (Entry i) = without_entry b i
without_child b Leftmost = without_leftmost b
without_child b Only = leaf_body 0 0 []

-- a leaf with another one on a side of it
abbrev pub with_link : Body → Side → ℕ → Body
with_link b Prev leaf = with_prev b leaf
with_link b Next leaf = with_next b leaf

-- the pages where the leaf of a number has that one there; 0 stands for no leaf
abbrev pub linked : Pages → Side → (number leaf : ℕ) → Pages
linked pages Prev number leaf = linked_prev pages number leaf
linked pages Next number leaf = linked_next pages number leaf

-- the pages where a chain is out of the tree, and the leaf at its end, which had these leaves beside it, out of the chain of leaves
abbrev pub out_of_tree : Pages → (parent : ℕ) → ChildPlace → (prev next : ℕ) → Pages
out_of_tree pages parent (Entry i) prev next = unlinked_pages (with_body pages parent (without_entry (pages parent) i)) prev next
out_of_tree pages parent Leftmost prev next = unlinked_pages (with_body pages parent (without_leftmost (pages parent))) prev next
out_of_tree pages parent Only prev next = with_body pages parent (leaf_body 0 0 [])

-- the pages of these numbers, where they are not 0, are leaves
pub record AreLeavesBeside (pages : Pages) (prev next : ℕ) : Type 0 where
  pub prev_kind : 1 ≤ prev → (pages prev).kind ≡ Leaf
  pub next_kind : 1 ≤ next → (pages next).kind ≡ Leaf
