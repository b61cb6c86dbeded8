-- The pages of an allocation that the code makes are those of an allocation in the tree.
use Rattle.std.proofs.Common.{◌≡◌, ℕ, zero, suc, ◌+◌, ◌-◌, ◌≤◌, List, [], ◌∷◌, refl, sym, ap, subst, ◌∙◌, arith}
use Rattle.im_base_types.specs.Pages.{Body}
use Rattle.im_theory_log.specs.Tree.{with_body}
use Rattle.im_base_types.specs.declared.page_kind.PageKind.TheVariants.{Free}
use Rattle.im_theory_page.specs.Header.{empty_body}
use Rattle.im_theory_tree.specs.Levels.{Pages}
use Rattle.im_theory_tree.specs.Good.{times, AreFree, IsGoodTree}
use Rattle.im_theory_tree.specs.Allocations.{TakesFree, TakesCount, GivesFree}
use Rattle.im_theory_tree.proofs.Cited.{times-here, good_once}
use Rattle.im_smo_pages.specs.Bodies.{meta_without_first, meta_with_count, meta_with_first}
use Rattle.im_smo_pages.specs.Changed.{SamePages, free_taken_pages, count_taken_pages, free_given_pages}
use Rattle.im_smo_pages.proofs.Updates.{at_here, at_other, tree_of, links_of, not_first, not_later}

-- the first free page of a good tree is free
pub first_is_free : (pages : Pages) (spare : List ℕ) → IsGoodTree pages spare → 1 ≤ (pages 0).prev → (pages (pages 0).next).kind ≡ Free
first_is_free pages spare good some = first (pages 0).prev (pages 0).next some good.free
  where
    first : (n q : ℕ) → 1 ≤ n → AreFree pages n q → (pages q).kind ≡ Free
    first zero q some h = absurd (omega arith)
    first (suc n) q some h = h.0

pub take_free_step : (pages new : Pages) (spare : List ℕ) → IsGoodTree pages spare → 1 ≤ (pages 0).prev → SamePages new (free_taken_pages pages)
    → TakesFree pages new spare ((pages 0).prev - 1) (pages 0).next
take_free_step pages new spare good some is =
    let b = meta_without_first (pages 0) (pages (pages 0).next) in
    let at : new 0 ≡ b = is 0 ∙ at_here pages 0 b in
    let away : (x : ℕ) → times x (0 ∷ []) ≡ 0 → new x ≡ pages x = λ x t. is x ∙ at_other pages 0 b x (not_first x 0 [] t) in
    record {
      good = good;
      free = one_less (pages 0).prev some;
      first = refl;
      zero = record {
        kind = ap (λ (c : Body). c.kind) at;
        level = ap (λ (c : Body). c.level) at;
        entries = ap (λ (c : Body). c.entries) at;
        leftmost = ap (λ (c : Body). c.leftmost) at;
      };
      fewer = ap (λ (c : Body). c.prev) at;
      next = ap (λ (c : Body). c.next) at;
      others = λ x t. (tree_of (pages x) (new x) (away x t), links_of (pages x) (new x) (away x t));
    }
  where
    one_less : (n : ℕ) → 1 ≤ n → n ≡ suc (n - 1)
    one_less n some = omega (arith, some)

pub take_count_step : (pages new : Pages) (spare : List ℕ) → IsGoodTree pages spare → (pages 0).prev ≡ 0 → SamePages new (count_taken_pages pages) → TakesCount pages new spare
take_count_step pages new spare good none is =
    let b = meta_with_count (pages 0) in
    let at : new 0 ≡ b = is 0 ∙ at_here pages 0 b in
    let away : (x : ℕ) → times x (0 ∷ []) ≡ 0 → new x ≡ pages x = λ x t. is x ∙ at_other pages 0 b x (not_first x 0 [] t) in
    record {
      good = good;
      none = none;
      kind = ap (λ (c : Body). c.kind) at;
      links = record { prev = ap (λ (c : Body). c.prev) at; next = ap (λ (c : Body). c.next) at };
      count = ap (λ (c : Body). c.leftmost) at ∙ one_more (pages 0).leftmost;
      others = λ x t. (tree_of (pages x) (new x) (away x t), links_of (pages x) (new x) (away x t));
    }
  where
    one_more : (n : ℕ) → n + 1 ≡ suc n
    one_more n = omega arith

pub give_free_step : (pages new : Pages) (spare : List ℕ) (q : ℕ) → IsGoodTree pages (q ∷ spare) → SamePages new (free_given_pages pages q) → GivesFree pages new spare q
give_free_step pages new spare q good is =
    let b = meta_with_first (pages 0) q in
    let f : Body = empty_body Free 0 0 (pages 0).next 0 in
    let other : q ≡ 0 → ⊥ =
    λ e. let twice : times 0 (0 ∷ []) + times 0 (q ∷ spare) ≤ 1 = omega (arith, good_once pages (q ∷ spare) good 0) in
    omega (arith, twice, times-here 0 [], subst (λ (x : ℕ). 1 ≤ times 0 (x ∷ spare)) (sym e) (omega (arith, times-here 0 spare))) in
    let at : new 0 ≡ b = is 0 ∙ at_other (with_body pages 0 b) q f 0 other ∙ at_here pages 0 b in
    let freed : new q ≡ f = is q ∙ at_here (with_body pages 0 b) q f in
    let away : (x : ℕ) → times x (0 ∷ q ∷ []) ≡ 0 → new x ≡ pages x =
    λ x t. is x ∙ at_other (with_body pages 0 b) q f x (not_first x q [] (not_later x 0 (q ∷ []) t)) ∙ at_other pages 0 b x (not_first x 0 (q ∷ []) t) in
    record {
      good = good;
      zero = record {
        kind = ap (λ (c : Body). c.kind) at;
        level = ap (λ (c : Body). c.level) at;
        entries = ap (λ (c : Body). c.entries) at;
        leftmost = ap (λ (c : Body). c.leftmost) at;
      };
      more = ap (λ (c : Body). c.prev) at ∙ one_more (pages 0).prev;
      first = ap (λ (c : Body). c.next) at;
      freed = ap (λ (c : Body). c.kind) freed;
      next = ap (λ (c : Body). c.next) freed;
      others = λ x t. (tree_of (pages x) (new x) (away x t), links_of (pages x) (new x) (away x t));
    }
  where
    one_more : (n : ℕ) → n + 1 ≡ suc n
    one_more n = omega arith
