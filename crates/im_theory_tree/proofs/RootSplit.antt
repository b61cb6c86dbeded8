-- A split of a root that is a leaf, and the pages of a new store.
use Rattle.std.proofs.Common.{◌≡◌, ◌≤◌, ℕ, zero, suc, List, [], ◌∷◌, ◌++◌, map, Some, None, refl, sym, ap, subst, ◌∙◌, append-nil, inl, inr, arith, nat_lt, if◌then◌else◌, ne_eqb}
use Rattle.std.proofs.lemmas.Bool.Decides.{nat_tests}
use Rattle.im_base_types.specs.declared.page_kind.PageKind.TheVariants.{Free}
use Rattle.im_theory_page.specs.Header.{initial}
use Rattle.im_theory_tree.specs.Allocations.{initial_bodies}
use Rattle.im_theory_tree.specs.Good.{AllOf, IsLeafPage, HaveLevels, AtOrAbove, IsUnder, AreOrdered, AreChained, free_from, times, IsGoodTree}
use Rattle.im_theory_tree.specs.Levels.{Pages, Node, below, leaves_under, pages_under, entries_in, the_root, height, walk}
use Rattle.im_theory_tree.specs.Same.{SameTree, SameLinks}
use Rattle.im_theory_tree.specs.Splits.{SplitsLeafRootOf}
use Rattle.im_base_types.specs.Keys.{IsBelow}
use Rattle.im_base_types.specs.Pages.{Entry}
use Rattle.im_theory_tree.proofs.Keeps.{times-append}
use Rattle.im_theory_tree.proofs.Order.{AllOf-from}
use Rattle.im_theory_tree.proofs.Split.{below_root}
use Rattle.im_theory_tree.proofs.Descent.{all_elsewhere}
use Rattle.im_theory_tree.proofs.LeafSplit.{free_kept}
use Rattle.im_theory_tree.proofs.InnerSplit.{good_once}
use Rattle.im_theory_tree.proofs.PastCount.{past_kept}

pub leaf_root_split : (pages new : Pages) (spare : List ℕ) (left right : ℕ) (s : List ℕ) → SplitsLeafRootOf pages new spare left right s → IsGoodTree new spare × (walk new ≡ walk pages)
leaf_root_split pages new spare left right s h =
    let P : ℕ → Type 0 = λ x. SameTree (pages x) (new x) in
    let L : ℕ → Type 0 = λ x. SameLinks (pages x) (new x) in
    let changed : List ℕ = 1 ∷ left ∷ right ∷ [] in
    let free_old = free_from pages (pages 0).prev (pages 0).next in
    let tree_old = pages_under pages (height pages) the_root in
    let tree_new = pages_under new (height new) the_root in
    let free_new = free_from new (new 0).prev (new 0).next in
    let all_once = good_once pages (left ∷ right ∷ spare) h.good in
    let part : tree_old ≡ 1 ∷ [] = ap (λ k. pages_under pages k the_root) h.tall in
    let count_old : (x : ℕ) → times x tree_old ≡ times x (1 ∷ []) = λ x. ap (times x) part in
    let s_free = all_elsewhere P changed free_old (λ x t. (h.others x t).0) (λ x. omega (arith, count_old x, all_once x)) in
    let l_free = all_elsewhere L changed free_old (λ x t. (h.others x t).1) (λ x. omega (arith, count_old x, all_once x)) in
    let s_zero : SameTree (pages 0) (new 0) = (all_elsewhere P changed (0 ∷ []) (λ x t. (h.others x t).0) (λ x. omega (arith, count_old x, all_once x))).0 in
    let l_zero : SameLinks (pages 0) (new 0) = (all_elsewhere L changed (0 ∷ []) (λ x t. (h.others x t).1) (λ x. omega (arith, count_old x, all_once x))).0 in
    let freed = free_kept pages new l_zero s_free l_free h.good.free in
    let l : Node = record { bound = None; page = left } in
    let r : Node = record { bound = Some s; page = right } in
    let two : below new the_root ≡ l ∷ r ∷ [] = below_root pages new left right s (record { leftmost = h.leftmost; entries = h.entries }) in
    let tall : height new ≡ suc zero = h.root.1 in
    let now : leaves_under new (height new) the_root ≡ l ∷ r ∷ [] = ap (λ k. leaves_under new k the_root) tall ∙ two in
    let was : leaves_under pages (height pages) the_root ≡ the_root = ap (λ k. leaves_under pages k the_root) h.tall in
    let Q : Entry → Type 0 = λ e. AtOrAbove (Some s) e.0 × IsUnder e.0 None in (
      record {
        meta = s_zero.kind ∙ h.good.meta;
        levels = subst (λ k. HaveLevels new k the_root) (sym tall) ((h.root, tt), subst (λ ns. AllOf (IsLeafPage new) ns) (sym two) (h.is_left, (h.is_right, tt)));
        ordered = subst (AreOrdered new) (sym now) (
          AllOf-from (λ (e : Entry). IsBelow e.0 s) (λ e. AtOrAbove None e.0 × IsUnder e.0 (Some s)) (λ e x. (tt, x)) (new left).entries h.halves.below,
          tt,
          (
            subst (AllOf Q) (sym h.halves.starts)
                ((inl (sym h.halves.at), tt), AllOf-from (λ (e : Entry). IsBelow s e.0) Q (λ e x. (inr x, tt)) h.halves.others h.halves.above),
            tt,
            tt,
          ),
        );
        chained = subst (AreChained new 0) (sym now) (h.left_prev, h.left_next, (h.right_prev, h.right_next, tt));
        free = freed.1;
        cover = λ x.
            let cover_was : times x (0 ∷ tree_old ++ free_old ++ (left ∷ right ∷ spare)) ≡ (if nat_lt x (new 0).leftmost then 1 else 0) = h.good.cover x ∙ ap (λ c. if nat_lt x c then 1 else 0) (sym s_zero.leftmost) in
            let tree : times x tree_new ≡ times x (1 ∷ left ∷ right ∷ []) = ap (λ k. times x (pages_under new k the_root)) tall ∙ ap (λ ns. times x (1 ∷ map (λ (n : Node). n.page) ns)) two in
            let same : times x (0 ∷ tree_new ++ free_new ++ spare) ≡ times x (0 ∷ tree_old ++ free_old ++ (left ∷ right ∷ spare)) =
            omega (
              arith,
              tree,
              count_old x,
              ap (times x) freed.0,
              times-append x (tree_old ++ free_old) (left ∷ right ∷ spare),
              times-append x tree_old free_old,
              times-append x (tree_new ++ free_new) spare,
              times-append x tree_new free_new,
            ) in
            same ∙ cover_was;
        past = past_kept pages new (left ∷ right ∷ spare) changed h.good (omega (arith, s_zero.leftmost)) (λ x t. (h.others x t).0) (λ x none. omega (arith, count_old x, none));
      },
      ap (entries_in new) now ∙ ap (λ es. (new left).entries ++ es) (append-nil (new right).entries) ∙ h.halves.joined ∙ sym (append-nil (pages 1).entries) ∙ ap (entries_in pages) (sym was),
    )

pub two_pages : (p : ℕ) → times p (0 ∷ 1 ∷ []) ≡ (if nat_lt p 2 then 1 else 0)
two_pages p = grind (arith, nat_tests)

-- past the first two, a page is free
pub two_past : (p : ℕ) → 2 ≤ p → (initial p).body.kind ≡ Free
two_past p past = rw (ne_eqb p 0 (λ e. omega (arith, e, past)), ne_eqb p 1 (λ e. omega (arith, e, past))) refl

pub initial_good : IsGoodTree initial_bodies [] × (walk initial_bodies ≡ [])
initial_good = (
  record {
    meta = refl;
    levels = ((refl, refl), tt);
    ordered = (tt, tt, tt);
    chained = (refl, refl, tt);
    free = refl;
    cover = λ p. two_pages p;
    past = two_past;
  },
  refl,
)
