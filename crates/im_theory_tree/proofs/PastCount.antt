-- Pages past the count are free, and no step writes one.
use Rattle.std.proofs.Common.{◌≡◌, ℕ, ◌+◌, ◌≤◌, List, [], ◌∷◌, ◌++◌, ◌∙◌, arith, nat_lt, if◌then◌else◌}
use Rattle.std.proofs.lemmas.Bool.Decides.{nat_tests}
use Rattle.im_base_types.specs.declared.page_kind.PageKind.TheVariants.{Free}
use Rattle.im_theory_tree.specs.Good.{free_from, times, IsGoodTree}
use Rattle.im_theory_tree.specs.Levels.{Pages, pages_under, the_root, height}
use Rattle.im_theory_tree.specs.Same.{SameTree}
use Rattle.im_theory_tree.proofs.Keeps.{times-append}

not_counted : (x n : ℕ) → n ≤ x → (if nat_lt x n then 1 else 0) ≤ 0
not_counted x n past = grind (arith, nat_tests, past)

-- how often a page is the meta page, in the tree, free or spare
abbrev pub standing : Pages → List ℕ → ℕ → ℕ
standing pages spare x = times x (pages_under pages (height pages) the_root) + times x (0 ∷ []) + times x (free_from pages (pages 0).prev (pages 0).next) + times x spare

-- a page past the count is nowhere
pub past_nowhere : (pages : Pages) (spare : List ℕ) → IsGoodTree pages spare → (x : ℕ) → (pages 0).leftmost ≤ x → standing pages spare x ≡ 0
past_nowhere pages spare good x past =
    let free = free_from pages (pages 0).prev (pages 0).next in
    let tree = pages_under pages (height pages) the_root in
    omega (arith, good.cover x, not_counted x (pages 0).leftmost past, times-append x (tree ++ free) spare, times-append x tree free)

-- so it stays free where all that changes stands somewhere, and the count does not fall
pub past_kept : (pages new : Pages) (spare changed : List ℕ) → IsGoodTree pages spare → (pages 0).leftmost ≤ (new 0).leftmost
    → ((x : ℕ) → times x changed ≡ 0 → SameTree (pages x) (new x)) → ((x : ℕ) → standing pages spare x ≡ 0 → times x changed ≡ 0)
    → (x : ℕ) → (new 0).leftmost ≤ x → (new x).kind ≡ Free
past_kept pages new spare changed good count others within x past =
    let was : (pages 0).leftmost ≤ x = omega (arith, count, past) in
    (others x (within x (past_nowhere pages spare good x was))).kind ∙ good.past x was
