-- A leaf without entries leaves its level.
use Rattle.std.proofs.Common.{◌≡◌, ℕ, List, [], ◌∷◌, ◌++◌, Option, Some, None, sym, ap, ap₂, ◌∙◌}
use Rattle.std.proofs.lemmas.List.Concat.{flat_map-append}
use Rattle.im_theory_tree.specs.Good.{AtOrAbove, IsUnder, next_bound, IsAfter, BoundsFollow, AreOrdered}
use Rattle.im_theory_tree.specs.Levels.{Pages, Node, entries_in, page_numbers}
use Rattle.im_theory_tree.specs.Same.{SameTree, SameOn}
use Rattle.im_base_types.specs.Pages.{Entry}
use Rattle.im_theory_page.proofs.Order.{below_trans}
use Rattle.im_theory_tree.proofs.Frame.{entries_same}
use Rattle.im_theory_tree.proofs.Order.{AllOf-from, after_reached}
use Rattle.im_theory_tree.proofs.Keeps.{ordered_same}

-- THE WALK STAYS
pub walk_drop : (pages new : Pages) (a b : List Node) (n : Node) → (pages n.page).entries ≡ [] → SameOn pages new (page_numbers a) → SameOn pages new (page_numbers b)
    → entries_in new (a ++ b) ≡ entries_in pages (a ++ n ∷ b)
walk_drop pages new a b n empty sa sb =
    let f : Pages → Node → List Entry = λ ps x. (ps x.page).entries in
    flat_map-append (f new) a b ∙ ap₂ ◌++◌ (entries_same pages new a sa) (entries_same pages new b sb)
    ∙ ap (λ es. entries_in pages a ++ (es ++ entries_in pages b)) (sym empty) ∙ sym (flat_map-append (f pages) a (n ∷ b))

-- bounds over a node that goes
pub after_over : (x y z : Option (List ℕ)) → IsAfter x y → IsAfter y z → IsAfter x z
after_over x y None h k = absurd k
after_over x None (Some c) h k = absurd h
after_over None (Some b) (Some c) h k = tt
after_over (Some a) (Some b) (Some c) h k = below_trans a b c h k

pub follow_over : (x y : Option (List ℕ)) (b : List Node) → IsAfter x y → BoundsFollow y b → BoundsFollow x b
follow_over x y [] h k = tt
follow_over x y (n ∷ b) h k = after_over x y n.bound h k

pub under_over : (key : List ℕ) (y z : Option (List ℕ)) (x : Option (List ℕ)) → IsUnder key y → IsAfter x y → IsAfter y z → IsUnder key z
under_over key y None x u h k = absurd k
under_over key None (Some c) x u h k = absurd h
under_over key (Some b) (Some c) x u h k = below_trans key b c u k

pub under_follow : (key : List ℕ) (x y : Option (List ℕ)) (b : List Node) → IsUnder key y → IsAfter x y → BoundsFollow y b → IsUnder key (next_bound b)
under_follow key x y [] u h k = tt
under_follow key x y (n ∷ b) u h k = under_over key y n.bound x u h k

-- ORDER STAYS where a node after another goes: the range of the one before it grows
pub ordered_drop : (pages new : Pages) (a b : List Node) (m n : Node) → SameOn pages new (page_numbers (a ++ m ∷ [])) → SameOn pages new (page_numbers b)
    → AreOrdered pages (a ++ m ∷ n ∷ b) → AreOrdered new (a ++ m ∷ b)
ordered_drop pages new [] b m n sa sb h = (
  rw sa.0.entries (AllOf-from (λ e. AtOrAbove m.bound e.0 × IsUnder e.0 n.bound) (λ e. AtOrAbove m.bound e.0 × IsUnder e.0 (next_bound b))
      (λ e p. (p.0, under_follow e.0 m.bound n.bound b p.1 h.1 h.2.1)) (pages m.page).entries h.0),
  follow_over m.bound n.bound b h.1 h.2.1,
  ordered_same pages new b sb h.2.2,
)
ordered_drop pages new (x ∷ []) b m n sa sb h = (rw sa.0.entries h.0, h.1, ordered_drop pages new [] b m n sa.1 sb h.2)
ordered_drop pages new (x ∷ y ∷ a) b m n sa sb h = (rw sa.0.entries h.0, h.1, ordered_drop pages new (y ∷ a) b m n sa.1 sb h.2)

-- ORDER STAYS where the first child goes and the next takes its place and its bound
pub ordered_rebind : (pages new : Pages) (b : List Node) (n m : Node) → SameTree (pages m.page) (new m.page) → SameOn pages new (page_numbers b)
    → AreOrdered pages (n ∷ m ∷ b) → AreOrdered new (record { bound = n.bound; page = m.page } ∷ b)
ordered_rebind pages new b n m sm sb h = (
  rw sm.entries (AllOf-from (λ e. AtOrAbove m.bound e.0 × IsUnder e.0 (next_bound b)) (λ e. AtOrAbove n.bound e.0 × IsUnder e.0 (next_bound b))
      (λ e p. (after_reached n.bound m.bound e.0 h.1 p.0, p.1)) (pages m.page).entries h.2.0),
  follow_over n.bound m.bound b h.1 h.2.1,
  ordered_same pages new b sb h.2.2,
)
