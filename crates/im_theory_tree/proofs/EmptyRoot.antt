-- The root left without a child becomes an empty leaf.
use Rattle.std.proofs.Common.{◌≡◌, ℕ, zero, suc, ◌+◌, List, [], ◌∷◌, ◌++◌, None, sym, ap, subst, ◌∙◌, arith, nat_lt, if◌then◌else◌}
use Rattle.im_theory_tree.specs.Deletions.{bare_leaf, EmptiesRoot}
use Rattle.im_theory_tree.specs.Good.{AllOf, HaveLevels, AtOrAbove, IsUnder, AreOrdered, AreChained, free_from, times, IsGoodTree}
use Rattle.im_theory_tree.specs.Levels.{Pages, Node, below, leaves_under, pages_under, entries_in, the_root, height, walk}
use Rattle.im_theory_tree.specs.Same.{SameTree, SameLinks}
use Rattle.im_base_types.specs.Pages.{Entry}
use Rattle.im_theory_tree.proofs.Keeps.{times-append}
use Rattle.im_theory_tree.proofs.Descent.{all_elsewhere}
use Rattle.im_theory_tree.proofs.LeafSplit.{free_kept}
use Rattle.im_theory_tree.proofs.InnerSplit.{good_once}
use Rattle.im_theory_tree.proofs.PastCount.{past_kept}
use Rattle.im_theory_tree.proofs.DropChild.{bare_leaves}

pub empty_root : (pages new : Pages) (spare : List ℕ) (h : ℕ) → EmptiesRoot pages new spare h → IsGoodTree new (pages_under pages h (below pages the_root) ++ spare) × (walk new ≡ walk pages)
empty_root pages new spare h s =
    let P : ℕ → Type 0 = λ x. SameTree (pages x) (new x) in
    let L : ℕ → Type 0 = λ x. SameLinks (pages x) (new x) in
    let root : Node = record { bound = None; page = 1 } in
    let gone = pages_under pages h (below pages the_root) in
    let changed : List ℕ = pages_under pages (suc h) the_root in
    let free = free_from pages (pages 0).prev (pages 0).next in
    let tree = pages_under pages (height pages) the_root in
    let tree_new = pages_under new (height new) the_root in
    let free_new = free_from new (new 0).prev (new 0).next in
    let all_once = good_once pages spare s.good in
    let part : (x : ℕ) → times x tree ≡ times x changed = λ x. ap (λ k. times x (pages_under pages k the_root)) s.tall in
    let s_free = all_elsewhere P changed free (λ x t. (s.others x t).0) (λ x. omega (arith, part x, all_once x)) in
    let l_free = all_elsewhere L changed free (λ x t. (s.others x t).1) (λ x. omega (arith, part x, all_once x)) in
    let s_zero : SameTree (pages 0) (new 0) = (all_elsewhere P changed (0 ∷ []) (λ x t. (s.others x t).0) (λ x. omega (arith, part x, all_once x))).0 in
    let l_zero : SameLinks (pages 0) (new 0) = (all_elsewhere L changed (0 ∷ []) (λ x t. (s.others x t).1) (λ x. omega (arith, part x, all_once x))).0 in
    let freed = free_kept pages new l_zero s_free l_free s.good.free in
    let tall : height new ≡ zero = s.level in
    let now : leaves_under new (height new) the_root ≡ the_root = ap (λ k. leaves_under new k the_root) tall in
    let bare = bare_leaves pages (suc h) root s.bare in
    let was : leaves_under pages (height pages) the_root ≡ bare_leaf pages (suc h) root ∷ [] = ap (λ k. leaves_under pages k the_root) s.tall ∙ bare.0 in
    let none_old : walk pages ≡ [] = ap (entries_in pages) was ∙ ap (λ es. es ++ []) bare.1 in
    let none_new : walk new ≡ [] = ap (entries_in new) now ∙ ap (λ es. es ++ []) s.entries in
    let Q : Entry → Type 0 = λ e. AtOrAbove None e.0 × IsUnder e.0 None in (
      record {
        meta = s_zero.kind ∙ s.good.meta;
        levels = subst (λ k. HaveLevels new k the_root) (sym tall) ((s.kind, s.level), tt);
        ordered = subst (AreOrdered new) (sym now) (subst (AllOf Q) (sym s.entries) tt, tt, tt);
        chained = subst (AreChained new 0) (sym now) (s.prev, s.next, tt);
        free = freed.1;
        cover = λ x.
            let one : times x tree_new ≡ times x (1 ∷ []) = ap (λ k. times x (pages_under new k the_root)) tall in
            let two : times x changed ≡ times x (1 ∷ []) + times x gone = times-append x (1 ∷ []) gone in
            let same : times x (0 ∷ tree_new ++ free_new ++ (gone ++ spare)) ≡ times x (0 ∷ tree ++ free ++ spare) =
            omega (
              arith,
              one,
              two,
              part x,
              ap (times x) freed.0,
              times-append x (tree ++ free) spare,
              times-append x tree free,
              times-append x (tree_new ++ free_new) (gone ++ spare),
              times-append x tree_new free_new,
              times-append x gone spare,
            ) in
            same ∙ s.good.cover x ∙ ap (λ c. if nat_lt x c then 1 else 0) (sym s_zero.leftmost);
        past = past_kept pages new spare changed s.good (omega (arith, s_zero.leftmost)) (λ x t. (s.others x t).0) (λ x none. omega (arith, part x, none));
      },
      none_new ∙ sym none_old,
    )
