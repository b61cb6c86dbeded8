-- The walk around one leaf, and what a change of its entries makes of it.
use Rattle.std.proofs.Common.{◌≡◌, ℕ, ◌+◌, ◌≤◌, List, [], ◌∷◌, ◌++◌, ap, ap₂, ◌∙◌, arith}
use Rattle.std.proofs.lemmas.List.{map-append}
use Rattle.std.proofs.lemmas.List.Concat.{flat_map-append}
use Rattle.im_theory_tree.specs.Levels.{Pages, Node, leaves_under, entries_in, the_root, height, walk, page_numbers}
use Rattle.im_theory_tree.specs.Same.{SameTree}
use Rattle.im_theory_tree.specs.Good.{times, IsGoodTree}
use Rattle.im_theory_tree.specs.Changes.{ChangesLeaf}
use Rattle.im_theory_tree.proofs.Frame.{entries_same}
use Rattle.im_theory_tree.proofs.Keeps.{times-append}
use Rattle.im_theory_tree.proofs.Descent.{all_elsewhere}
use Rattle.im_theory_tree.proofs.InnerSplit.{good_once}
use Rattle.im_theory_tree.proofs.DropChild.{leaves_among}
use Rattle.im_theory_tree.proofs.LeafChange.{leaf_change}

pub entries_around : (pages : Pages) (left : List Node) (n : Node) (right : List Node)
    → entries_in pages (left ++ n ∷ right) ≡ entries_in pages left ++ ((pages n.page).entries ++ entries_in pages right)
entries_around pages left n right = flat_map-append (λ (m : Node). (pages m.page).entries) left (n ∷ right)

-- no page stands twice among the leaves
pub leaves_once : (pages : Pages) (spare : List ℕ) (left : List Node) (n : Node) (right : List Node) → IsGoodTree pages spare → leaves_under pages (height pages) the_root ≡ left ++ n ∷ right
    → (x : ℕ) → times x (page_numbers left) + times x (n.page ∷ []) + times x (page_numbers right) ≤ 1
leaves_once pages spare left n right good are x =
    let f : Node → ℕ = λ m. m.page in
    let split = ap (λ ns. times x (page_numbers ns)) are ∙ ap (times x) (map-append f left (n ∷ right)) ∙ times-append x (page_numbers left) (page_numbers (n ∷ right)) in
    omega (arith, split, good_once pages spare good x, leaves_among pages (height pages) the_root x)

-- the walk has the leaf's new entries in the place of its old ones
pub leaf_walk : (pages new : Pages) (spare : List ℕ) (left : List Node) (n : Node) (right : List Node) → ChangesLeaf pages new spare left n right
    → walk new ≡ entries_in pages left ++ ((new n.page).entries ++ entries_in pages right)
leaf_walk pages new spare left n right h =
    let P : ℕ → Type 0 = λ x. SameTree (pages x) (new x) in
    let one = leaves_once pages spare left n right h.good h.leaves in
    let s_left = all_elsewhere P (n.page ∷ []) (page_numbers left) (λ x t. (h.others x t).0) (λ x. omega (arith, one x)) in
    let s_right = all_elsewhere P (n.page ∷ []) (page_numbers right) (λ x t. (h.others x t).0) (λ x. omega (arith, one x)) in
    ap (entries_in new) (leaf_change pages new spare left n right h).1
    ∙ entries_around new left n right
    ∙ ap₂ (λ u v. u ++ ((new n.page).entries ++ v)) (entries_same pages new left s_left) (entries_same pages new right s_right)
