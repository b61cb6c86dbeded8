-- The entries of one leaf change, within its range: the tree stays good.
use Rattle.std.proofs.Common.{◌≡◌, ℕ, zero, suc, ◌+◌, List, [], ◌∷◌, ◌++◌, None, refl, sym, ap, ap₂, subst, ◌∙◌, arith, nat_lt, if◌then◌else◌}
use Rattle.std.proofs.lemmas.List.{map-append}
use Rattle.im_theory_tree.specs.Changes.{ChangesLeaf}
use Rattle.im_theory_tree.specs.Good.{AllOf, IsLeafPage, HaveLevels, AreOrdered, AreChained, free_from, times, IsGoodTree}
use Rattle.im_theory_tree.specs.Levels.{Pages, Node, leaves_under, pages_under, the_root, height, page_numbers, descend, lifted}
use Rattle.im_theory_tree.specs.Same.{SameTree, SameOn, SameLinks}
use Rattle.im_theory_tree.proofs.Frame.{AllOf-left, AllOf-right, AllOf-append}
use Rattle.im_theory_tree.proofs.Order.{ordered_right}
use Rattle.im_theory_tree.proofs.Keeps.{ordered_same, ordered_front, leaf_pages_same, chained_same, times-append}
use Rattle.im_theory_tree.proofs.Descent.{pages_above, leaves_descend, pages_descend, descend_same, levels_descend, all_elsewhere}
use Rattle.im_theory_tree.proofs.LeafSplit.{free_kept, only_one}
use Rattle.im_theory_tree.proofs.InnerSplit.{good_once}
use Rattle.im_theory_tree.proofs.PastCount.{past_kept}

pub lifted_self : (d : ℕ) → lifted d zero ≡ d
lifted_self zero = refl
lifted_self (suc d) = ap suc (lifted_self d)

pub height_of : (pages new : Pages) (d : ℕ) (left right : List Node) (n : Node) → descend pages d the_root ≡ left ++ n ∷ right → (new n.page).level ≡ (pages n.page).level
    → SameOn pages new (pages_above pages d the_root) → height new ≡ height pages
height_of pages new zero left right n at level s =
    let root : Node = record { bound = None; page = 1 } in
    let page : 1 ≡ n.page = ap (λ (m : Node). m.page) (only_one root n left right at) in
    subst (λ x. (new x).level ≡ (pages x).level) (sym page) level
height_of pages new (suc d) left right n at level s = s.0.level

pub leaf_change : (pages new : Pages) (spare : List ℕ) (left : List Node) (n : Node) (right : List Node) → ChangesLeaf pages new spare left n right
    → IsGoodTree new spare × (leaves_under new (height new) the_root ≡ left ++ n ∷ right)
leaf_change pages new spare left n right h =
    let f : Node → ℕ = λ y. y.page in
    let P : ℕ → Type 0 = λ x. SameTree (pages x) (new x) in
    let L : ℕ → Type 0 = λ x. SameLinks (pages x) (new x) in
    let d : ℕ = height pages in
    let self : lifted d zero ≡ d = lifted_self d in
    let all = left ++ n ∷ right in
    let free = free_from pages (pages 0).prev (pages 0).next in
    let tree = pages_under pages (height pages) the_root in
    let at : descend pages d the_root ≡ all = sym (leaves_descend pages d zero the_root) ∙ ap (λ k. leaves_under pages k the_root) self ∙ h.leaves in
    let all_once = good_once pages spare h.good in
    let tree_is : tree ≡ pages_above pages d the_root ++ page_numbers all =
    ap (λ k. pages_under pages k the_root) (sym self) ∙ pages_descend pages d zero the_root ∙ ap (λ ns. pages_above pages d the_root ++ page_numbers ns) at in
    let part : (x : ℕ) → times x tree ≡ times x (pages_above pages d the_root) + (times x (page_numbers left) + times x (n.page ∷ page_numbers right)) =
    λ x. ap (times x) tree_is ∙ times-append x (pages_above pages d the_root) (page_numbers all)
    ∙ ap (λ t. times x (pages_above pages d the_root) + t) (ap (times x) (map-append f left (n ∷ right)) ∙ times-append x (page_numbers left) (page_numbers (n ∷ right))) in
    let s_above = all_elsewhere P (n.page ∷ []) (pages_above pages d the_root) (λ x t. (h.others x t).0) (λ x. omega (arith, part x, all_once x)) in
    let s_left = all_elsewhere P (n.page ∷ []) (page_numbers left) (λ x t. (h.others x t).0) (λ x. omega (arith, part x, all_once x)) in
    let s_right = all_elsewhere P (n.page ∷ []) (page_numbers right) (λ x t. (h.others x t).0) (λ x. omega (arith, part x, all_once x)) in
    let s_free = all_elsewhere P (n.page ∷ []) free (λ x t. (h.others x t).0) (λ x. omega (arith, part x, all_once x)) in
    let s_zero : SameTree (pages 0) (new 0) = (all_elsewhere P (n.page ∷ []) (0 ∷ []) (λ x t. (h.others x t).0) (λ x. omega (arith, part x, all_once x))).0 in
    let l_left = all_elsewhere L (n.page ∷ []) (page_numbers left) (λ x t. (h.others x t).1) (λ x. omega (arith, part x, all_once x)) in
    let l_right = all_elsewhere L (n.page ∷ []) (page_numbers right) (λ x t. (h.others x t).1) (λ x. omega (arith, part x, all_once x)) in
    let l_free = all_elsewhere L (n.page ∷ []) free (λ x t. (h.others x t).1) (λ x. omega (arith, part x, all_once x)) in
    let l_zero : SameLinks (pages 0) (new 0) = (all_elsewhere L (n.page ∷ []) (0 ∷ []) (λ x t. (h.others x t).1) (λ x. omega (arith, part x, all_once x))).0 in
    let l_all : AllOf L (page_numbers all) = subst (AllOf L) (sym (map-append f left (n ∷ right))) (AllOf-append L (page_numbers left) (n.page ∷ page_numbers right) l_left (h.same_links, l_right)) in
    let down = descend_same pages new d the_root s_above in
    let tall : height new ≡ d = height_of pages new d left right n at h.level s_above in
    let now : leaves_under new (height new) the_root ≡ all =
    ap (λ k. leaves_under new k the_root) (tall ∙ sym self) ∙ leaves_descend new d zero the_root ∙ down.0 ∙ at in
    let tree_now : pages_under new (height new) the_root ≡ tree =
    ap (λ k. pages_under new k the_root) (tall ∙ sym self) ∙ pages_descend new d zero the_root
    ∙ ap₂ (λ t ns. t ++ page_numbers ns) down.1 (down.0 ∙ at) ∙ sym tree_is in
    let chain : AreChained pages 0 all = subst (AreChained pages 0) h.leaves h.good.chained in
    let ordered : AreOrdered pages all = subst (AreOrdered pages) h.leaves h.good.ordered in
    let here = ordered_right pages left (n ∷ right) ordered in
    let freed = free_kept pages new l_zero s_free l_free h.good.free in (
      record {
        meta = s_zero.kind ∙ h.good.meta;
        levels = subst (λ k. HaveLevels new k the_root) (self ∙ sym tall)
            (levels_descend pages new d zero the_root s_above (subst (λ k. HaveLevels pages k the_root) (sym self) h.good.levels)
            (λ have.
            let was : AllOf (IsLeafPage pages) all = subst (AllOf (IsLeafPage pages)) at have in
            let tail : AllOf (IsLeafPage pages) (n ∷ right) = AllOf-right (IsLeafPage pages) left (n ∷ right) was in
            subst (AllOf (IsLeafPage new)) (sym at)
            (AllOf-append (IsLeafPage new) left (n ∷ right) (leaf_pages_same pages new left s_left (AllOf-left (IsLeafPage pages) left (n ∷ right) was))
            ((h.kind ∙ tail.0.0, h.level ∙ tail.0.1), leaf_pages_same pages new right s_right tail.1))));
        ordered = subst (AreOrdered new) (sym now) (ordered_front pages new left right right n s_left ordered (h.range, here.1, ordered_same pages new right s_right here.2));
        chained = subst (AreChained new 0) (sym now) (chained_same pages new 0 all l_all chain);
        free = freed.1;
        cover = λ x.
            let same : times x (0 ∷ pages_under new (height new) the_root ++ free_from new (new 0).prev (new 0).next ++ spare) ≡ times x (0 ∷ tree ++ free ++ spare) =
            ap₂ (λ t u. times x (0 ∷ t ++ u ++ spare)) tree_now freed.0 in
            same ∙ h.good.cover x ∙ ap (λ c. if nat_lt x c then 1 else 0) (sym s_zero.leftmost);
        past = past_kept pages new spare (n.page ∷ []) h.good (omega (arith, s_zero.leftmost)) (λ x t. (h.others x t).0) (λ x none. omega (arith, part x, none));
      },
      now,
    )
