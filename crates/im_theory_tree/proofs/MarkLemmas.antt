-- The mark of a structure change means nothing to the tree.
use Rattle.std.proofs.Common.{◌≡◌, ℕ, List, [], ◌∷◌, ◌++◌, refl, sym, ap, ap₂, ◌∙◌, arith, nat_lt, if◌then◌else◌}
use Rattle.im_theory_tree.specs.Levels.{Pages, pages_under, the_root, height, walk}
use Rattle.im_theory_tree.specs.Same.{SameTree, SameLinks, SameButMark}
use Rattle.im_theory_tree.specs.Good.{AllOf, free_from, times, IsGoodTree}
use Rattle.im_theory_tree.proofs.LeafSplit.{free_kept}
use Rattle.im_theory_tree.proofs.FreeList.{tree_kept}
use Rattle.im_theory_tree.proofs.PastCount.{past_kept}

pub all_everywhere : (P : ℕ → Type 0) (qs : List ℕ) → ((x : ℕ) → P x) → AllOf P qs
all_everywhere P [] h = tt
all_everywhere P (q ∷ qs) h = (h q, all_everywhere P qs h)

pub marks_keep : (pages new : Pages) (spare : List ℕ) → ((x : ℕ) → SameButMark (pages x) (new x)) → IsGoodTree pages spare → IsGoodTree new spare × (walk new ≡ walk pages)
marks_keep pages new spare same good =
    let P : ℕ → Type 0 = λ x. SameTree (pages x) (new x) in
    let L : ℕ → Type 0 = λ x. SameLinks (pages x) (new x) in
    let tree = pages_under pages (height pages) the_root in
    let free = free_from pages (pages 0).prev (pages 0).next in
    let kept = tree_kept pages new spare good (all_everywhere P tree (λ x. (same x).0)) (all_everywhere L tree (λ x. (same x).1)) in
    let freed = free_kept pages new (same 0).1 (all_everywhere P free (λ x. (same x).0)) (all_everywhere L free (λ x. (same x).1)) good.free in (
      record {
        meta = (same 0).0.kind ∙ good.meta;
        levels = kept.levels;
        ordered = kept.ordered;
        chained = kept.chained;
        free = freed.1;
        cover = λ x. ap₂ (λ t u. times x (0 ∷ t ++ u ++ spare)) kept.tree freed.0 ∙ good.cover x ∙ ap (λ c. if nat_lt x c then 1 else 0) (sym (same 0).0.leftmost);
        past = past_kept pages new spare [] good (omega (arith, (same 0).0.leftmost)) (λ x t. (same x).0) (λ x none. refl);
      },
      kept.walks,
    )
