-- The ways of keys stay where nothing in the tree changes.
use Rattle.std.proofs.Common.{◌≡◌, ℕ, ◌+◌, List, ◌∷◌, ap, subst, ◌∙◌, arith}
use Rattle.im_base_types.specs.Keys.{Key}
use Rattle.im_theory_tree.specs.Levels.{Pages, pages_under, the_root, height, descend}
use Rattle.im_theory_tree.specs.Same.{SameTree}
use Rattle.im_theory_tree.specs.Good.{times, IsGoodTree}
use Rattle.im_theory_tree.specs.Search.{IsOnWay}
use Rattle.im_theory_tree.proofs.Keeps.{times-append}
use Rattle.im_theory_tree.proofs.Descent.{pages_above, pages_descend, descend_same, all_elsewhere}
use Rattle.im_theory_tree.proofs.FreeList.{first_of_tree}
use Rattle.im_theory_tree.proofs.InnerSplit.{good_once}
use Rattle.im_theory_tree.proofs.RootSplitWay.{node_on_way}

pub way_stays : (pages new : Pages) (spare left : List ℕ) (k : ℕ) (key : Key) (p : ℕ) → IsGoodTree pages spare → IsGoodTree new left
    → ((x : ℕ) → times x (0 ∷ spare) ≡ 0 → SameTree (pages x) (new x)) → IsOnWay pages k key p → IsOnWay new k key p
way_stays pages new spare left k key p good after others way =
    let P : ℕ → Type 0 = λ x. SameTree (pages x) (new x) in
    let d = way.above in
    let tree = pages_under pages (height pages) the_root in
    let all_once = good_once pages spare good in
    let s_tree = all_elsewhere P (0 ∷ spare) tree others (λ x. omega (arith, all_once x)) in
    let part : (x : ℕ) → times x tree ≡ times x (pages_above pages d the_root) + times x (pages_under pages k (descend pages d the_root)) =
    λ x. ap (λ h. times x (pages_under pages h the_root)) way.tall ∙ ap (times x) (pages_descend pages d k the_root)
    ∙ times-append x (pages_above pages d the_root) (pages_under pages k (descend pages d the_root)) in
    let s_above = all_elsewhere P (0 ∷ spare) (pages_above pages d the_root) others (λ x. omega (arith, part x, all_once x)) in
    let down = descend_same pages new d the_root s_above in
    let tall : height new ≡ height pages = (first_of_tree pages new (height pages) s_tree).level in
    subst (IsOnWay new k key) way.page
    (node_on_way new left d k key way.left way.node way.right after (tall ∙ way.tall) (down.0 ∙ way.down) way.at way.under)
