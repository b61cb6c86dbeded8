-- Taking and giving back pages.
use Rattle.std.proofs.Common.{◌≡◌, ℕ, zero, suc, ◌+◌, List, [], ◌∷◌, ◌++◌, sym, ap, ap₂, subst, ◌∙◌, arith, ◌==◌, nat_lt, if◌then◌else◌}
use Rattle.std.proofs.lemmas.Bool.Decides.{nat_tests}
use Rattle.im_theory_tree.specs.Allocations.{TakesFree, TakesCount, GivesFree}
use Rattle.im_theory_tree.specs.Good.{AllOf, HaveLevels, AreOrdered, AreChained, free_from, AreFree, times, IsGoodTree}
use Rattle.im_theory_tree.specs.Levels.{Pages, leaves_under, pages_under, entries_in, the_root, height, walk}
use Rattle.im_theory_tree.specs.Same.{SameTree, SameOn, SameLinks}
use Rattle.im_theory_tree.proofs.Frame.{entries_same, leaves_same, pages_same, leaf_pages}
use Rattle.im_theory_tree.proofs.Keeps.{ordered_same, levels_same, chained_same, times-append, free_same}
use Rattle.im_theory_tree.proofs.Descent.{all_elsewhere}
use Rattle.im_theory_tree.proofs.LeafSplit.{free_links}
use Rattle.im_theory_tree.proofs.InnerSplit.{good_once}
use Rattle.im_theory_tree.proofs.PastCount.{past_kept}

-- what holds of the tree where none of its pages changes
pub record TreeKept (pages new : Pages) : Type 0 where
  pub levels : HaveLevels new (height new) the_root
  pub ordered : AreOrdered new (leaves_under new (height new) the_root)
  pub chained : AreChained new 0 (leaves_under new (height new) the_root)
  pub tree : pages_under new (height new) the_root ≡ pages_under pages (height pages) the_root
  pub walks : walk new ≡ walk pages

pub first_of_tree : (pages new : Pages) (h : ℕ) → SameOn pages new (pages_under pages h the_root) → SameTree (pages 1) (new 1)
first_of_tree pages new zero s = s.0
first_of_tree pages new (suc h) s = s.0

pub tree_kept : (pages new : Pages) (spare : List ℕ) → IsGoodTree pages spare → SameOn pages new (pages_under pages (height pages) the_root)
    → AllOf (λ x. SameLinks (pages x) (new x)) (pages_under pages (height pages) the_root) → TreeKept pages new
tree_kept pages new spare good s l =
    let tall : height new ≡ height pages = (first_of_tree pages new (height pages) s).level in
    let leaves = leaves_under pages (height pages) the_root in
    let now : leaves_under new (height new) the_root ≡ leaves = ap (λ k. leaves_under new k the_root) tall ∙ leaves_same pages new (height pages) the_root s in
    let s_leaves = leaf_pages pages (λ x. SameTree (pages x) (new x)) (height pages) the_root s in
    let l_leaves = leaf_pages pages (λ x. SameLinks (pages x) (new x)) (height pages) the_root l in
    record {
      levels = subst (λ k. HaveLevels new k the_root) (sym tall) (levels_same pages new (height pages) the_root s good.levels);
      ordered = subst (AreOrdered new) (sym now) (ordered_same pages new leaves s_leaves good.ordered);
      chained = subst (AreChained new 0) (sym now) (chained_same pages new 0 leaves l_leaves good.chained);
      tree = ap (λ k. pages_under new k the_root) tall ∙ pages_same pages new (height pages) the_root s;
      walks = ap (entries_in new) now ∙ entries_same pages new leaves s_leaves;
    }

pub take_free : (pages new : Pages) (spare : List ℕ) (n q : ℕ) → TakesFree pages new spare n q → IsGoodTree new (q ∷ spare) × (walk new ≡ walk pages)
take_free pages new spare n q h =
    let P : ℕ → Type 0 = λ x. SameTree (pages x) (new x) in
    let L : ℕ → Type 0 = λ x. SameLinks (pages x) (new x) in
    let tree = pages_under pages (height pages) the_root in
    let rest = free_from pages n (pages q).next in
    let all_once = good_once pages spare h.good in
    let is_free : free_from pages (pages 0).prev (pages 0).next ≡ q ∷ rest = ap₂ (free_from pages) h.free h.first in
    let free : AreFree pages (suc n) q = subst (λ m. AreFree pages m q) h.free (subst (AreFree pages (pages 0).prev) h.first h.good.free) in
    let split : (x : ℕ) → times x (free_from pages (pages 0).prev (pages 0).next) ≡ times x (q ∷ rest) = λ x. ap (times x) is_free in
    let s = all_elsewhere P (0 ∷ []) tree (λ x t. (h.others x t).0) (λ x. omega (arith, all_once x)) in
    let l = all_elsewhere L (0 ∷ []) tree (λ x t. (h.others x t).1) (λ x. omega (arith, all_once x)) in
    let s_rest = all_elsewhere P (0 ∷ []) rest (λ x t. (h.others x t).0) (λ x. omega (arith, all_once x, split x)) in
    let l_rest = all_elsewhere L (0 ∷ []) rest (λ x t. (h.others x t).1) (λ x. omega (arith, all_once x, split x)) in
    let kept = tree_kept pages new spare h.good s l in
    let same = free_same pages new n (pages q).next (free_links pages new rest s_rest l_rest) in
    let free_new : free_from new (new 0).prev (new 0).next ≡ rest = ap₂ (free_from new) h.fewer h.next ∙ same.0 in (
      record {
        meta = h.zero.kind ∙ h.good.meta;
        levels = kept.levels;
        ordered = kept.ordered;
        chained = kept.chained;
        free = subst (λ m. AreFree new m (new 0).next) (sym h.fewer) (subst (AreFree new n) (sym h.next) (same.1 free.1));
        cover = λ x.
            let tree_new = pages_under new (height new) the_root in
            let free_old = free_from pages (pages 0).prev (pages 0).next in
            let free_now = free_from new (new 0).prev (new 0).next in
            let was : times x (0 ∷ tree ++ free_old ++ spare) ≡ (if nat_lt x (new 0).leftmost then 1 else 0) = h.good.cover x ∙ ap (λ c. if nat_lt x c then 1 else 0) (sym h.zero.leftmost) in
            let count : times x (0 ∷ tree_new ++ free_now ++ (q ∷ spare)) ≡ times x (0 ∷ tree ++ free_old ++ spare) =
            omega (
              arith,
              split x,
              ap (times x) kept.tree,
              ap (times x) free_new,
              times-append x (tree ++ free_old) spare,
              times-append x tree free_old,
              times-append x (tree_new ++ free_now) (q ∷ spare),
              times-append x tree_new free_now,
            ) in
            count ∙ was;
        past = past_kept pages new spare (0 ∷ []) h.good (omega (arith, h.zero.leftmost)) (λ x t. (h.others x t).0) (λ x none. omega (arith, none));
      },
      kept.walks,
    )

pub give_free : (pages new : Pages) (spare : List ℕ) (q : ℕ) → GivesFree pages new spare q → IsGoodTree new spare × (walk new ≡ walk pages)
give_free pages new spare q h =
    let P : ℕ → Type 0 = λ x. SameTree (pages x) (new x) in
    let L : ℕ → Type 0 = λ x. SameLinks (pages x) (new x) in
    let tree = pages_under pages (height pages) the_root in
    let free_old = free_from pages (pages 0).prev (pages 0).next in
    let all_once = good_once pages (q ∷ spare) h.good in
    let s = all_elsewhere P (0 ∷ q ∷ []) tree (λ x t. (h.others x t).0) (λ x. omega (arith, all_once x)) in
    let l = all_elsewhere L (0 ∷ q ∷ []) tree (λ x t. (h.others x t).1) (λ x. omega (arith, all_once x)) in
    let s_free = all_elsewhere P (0 ∷ q ∷ []) free_old (λ x t. (h.others x t).0) (λ x. omega (arith, all_once x)) in
    let l_free = all_elsewhere L (0 ∷ q ∷ []) free_old (λ x t. (h.others x t).1) (λ x. omega (arith, all_once x)) in
    let kept = tree_kept pages new (q ∷ spare) h.good s l in
    let same = free_same pages new (pages 0).prev (pages 0).next (free_links pages new free_old s_free l_free) in
    let free_new : free_from new (new 0).prev (new 0).next ≡ q ∷ free_old =
    ap₂ (free_from new) h.more h.first ∙ ap (λ p. q ∷ free_from new (pages 0).prev p) h.next ∙ ap (λ t. q ∷ t) same.0 in (
      record {
        meta = h.zero.kind ∙ h.good.meta;
        levels = kept.levels;
        ordered = kept.ordered;
        chained = kept.chained;
        free = subst (λ m. AreFree new m (new 0).next) (sym h.more) (subst (AreFree new (suc (pages 0).prev)) (sym h.first)
            (h.freed, subst (AreFree new (pages 0).prev) (sym h.next) (same.1 h.good.free)));
        cover = λ x.
            let tree_new = pages_under new (height new) the_root in
            let free_now = free_from new (new 0).prev (new 0).next in
            let was : times x (0 ∷ tree ++ free_old ++ (q ∷ spare)) ≡ (if nat_lt x (new 0).leftmost then 1 else 0) = h.good.cover x ∙ ap (λ c. if nat_lt x c then 1 else 0) (sym h.zero.leftmost) in
            let count : times x (0 ∷ tree_new ++ free_now ++ spare) ≡ times x (0 ∷ tree ++ free_old ++ (q ∷ spare)) =
            omega (
              arith,
              ap (times x) kept.tree,
              ap (times x) free_new,
              times-append x (tree ++ free_old) (q ∷ spare),
              times-append x tree free_old,
              times-append x (tree_new ++ free_now) spare,
              times-append x tree_new free_now,
            ) in
            count ∙ was;
        past = past_kept pages new (q ∷ spare) (0 ∷ q ∷ []) h.good (omega (arith, h.zero.leftmost)) (λ x t. (h.others x t).0) (λ x none. omega (arith, none));
      },
      kept.walks,
    )

pub grows : (x c : ℕ) → (if x == c then 1 else 0) + (if nat_lt x c then 1 else 0) ≡ (if nat_lt x (suc c) then 1 else 0)
grows x c = grind (arith, nat_tests)

pub take_count : (pages new : Pages) (spare : List ℕ) → TakesCount pages new spare → IsGoodTree new ((pages 0).leftmost ∷ spare) × (walk new ≡ walk pages)
take_count pages new spare h =
    let P : ℕ → Type 0 = λ x. SameTree (pages x) (new x) in
    let L : ℕ → Type 0 = λ x. SameLinks (pages x) (new x) in
    let c : ℕ = (pages 0).leftmost in
    let tree = pages_under pages (height pages) the_root in
    let all_once = good_once pages spare h.good in
    let s = all_elsewhere P (0 ∷ []) tree (λ x t. (h.others x t).0) (λ x. omega (arith, all_once x)) in
    let l = all_elsewhere L (0 ∷ []) tree (λ x t. (h.others x t).1) (λ x. omega (arith, all_once x)) in
    let kept = tree_kept pages new spare h.good s l in
    let none_old : free_from pages (pages 0).prev (pages 0).next ≡ [] = ap (λ m. free_from pages m (pages 0).next) h.none in
    let none_new : free_from new (new 0).prev (new 0).next ≡ [] = ap (λ m. free_from new m (new 0).next) (h.links.prev ∙ h.none) in
    let ended : (pages 0).next ≡ 0 = subst (λ m. AreFree pages m (pages 0).next) h.none h.good.free in (
      record {
        meta = h.kind ∙ h.good.meta;
        levels = kept.levels;
        ordered = kept.ordered;
        chained = kept.chained;
        free = subst (λ m. AreFree new m (new 0).next) (sym (h.links.prev ∙ h.none)) (h.links.next ∙ ended);
        cover = λ x.
            let tree_new = pages_under new (height new) the_root in
            let free_old = free_from pages (pages 0).prev (pages 0).next in
            let free_now = free_from new (new 0).prev (new 0).next in
            let count : times x (0 ∷ tree_new ++ free_now ++ (c ∷ spare)) ≡ times x (c ∷ []) + times x (0 ∷ tree ++ free_old ++ spare) =
            omega (
              arith,
              ap (times x) kept.tree,
              ap (times x) none_old,
              ap (times x) none_new,
              times-append x (tree ++ free_old) spare,
              times-append x tree free_old,
              times-append x (tree_new ++ free_now) (c ∷ spare),
              times-append x tree_new free_now,
            ) in
            let one : times x (c ∷ []) + times x (0 ∷ tree ++ free_old ++ spare) ≡ (if nat_lt x (suc c) then 1 else 0) =
            omega (arith, h.good.cover x, grows x c) in
            count ∙ one ∙ ap (λ d. if nat_lt x d then 1 else 0) (sym h.count);
        past = past_kept pages new spare (0 ∷ []) h.good (omega (arith, h.count)) (λ x t. (h.others x t).0) (λ x none. omega (arith, none));
      },
      kept.walks,
    )
