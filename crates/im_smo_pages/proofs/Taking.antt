-- A page taken, and a page given back.
use Rattle.std.proofs.Common.{◌≡◌, ◌≢◌, ℕ, zero, suc, ◌+◌, ◌-◌, ◌<◌, ◌≤◌, nat_lt, List, [], ◌∷◌, ◌++◌, inl, inr, sym, ap, subst, ◌∙◌, arith, ◌==◌, if◌then◌else◌}
use Rattle.std.proofs.lemmas.Bool.{cases_eq, cond-true, cond-false, eq-eqb, ne_eqb}
use Rattle.std.proofs.lemmas.Bool.Decides.{nat_tests}
use Rattle.im_base_types.specs.Pages.{Body, Page}
use Rattle.im_theory_log.specs.Tree.{with_body}
use Rattle.im_page_writer.specs.Outcome.{AllPages}
use Rattle.im_base_types.specs.declared.page_kind.PageKind.TheVariants.{Free, Meta}
use Rattle.im_theory_page.specs.Header.{empty_body}
use Rattle.im_theory_tree.specs.Levels.{Pages, height, pages_under, the_root, walk}
use Rattle.im_theory_tree.specs.Good.{IsGoodTree, free_from, times}
use Rattle.im_theory_tree.proofs.Cited.{pages_counted, times-here, take_free, take_count, give_free, good_once, times-append}
use Rattle.im_smo_pages.specs.Bodies.{says, meta_without_first, meta_with_count, meta_with_first}
use Rattle.im_smo_pages.specs.Images.{Numbered, IsRising, without_image}
use Rattle.im_smo_pages.specs.Changed.{SamePages, free_taken_pages, count_taken_pages, free_given_pages}
use Rattle.im_smo_pages.specs.Seen.{seen, page_in, next_page, meta_behind, TakesPage, GivesPage}
use Rattle.im_smo_pages.proofs.AllocationSteps.{first_is_free, take_free_step, take_count_step, give_free_step}
use Rattle.im_smo_pages.proofs.Updates.{at_here, at_other}
use Rattle.im_smo_pages.proofs.Seeing.{page_says, page_without, both, both_seen, both_there, both_others}

-- ---- the next page

next_counted : (meta : Body) → meta.prev ≡ 0 → next_page meta ≡ meta.leftmost
next_counted meta none = cond-true (meta.prev == 0) meta.leftmost meta.next (eq-eqb meta.prev 0 none)

next_free : (meta : Body) → (meta.prev ≡ 0 → ⊥) → next_page meta ≡ meta.next
next_free meta some = cond-false (meta.prev == 0) meta.leftmost meta.next (ne_eqb meta.prev 0 some)

behind_counted : (meta page : Body) → meta.prev ≡ 0 → meta_behind meta page ≡ meta_with_count meta
behind_counted meta page none = cond-true (meta.prev == 0) (meta_with_count meta) (meta_without_first meta page) (eq-eqb meta.prev 0 none)

behind_free : (meta page : Body) → (meta.prev ≡ 0 → ⊥) → meta_behind meta page ≡ meta_without_first meta page
behind_free meta page some = cond-false (meta.prev == 0) (meta_with_count meta) (meta_without_first meta page) (ne_eqb meta.prev 0 some)

-- the next page of a good tree is not page 0
pub next_other : (pages : Pages) (spare : List ℕ) → IsGoodTree pages spare → next_page (pages 0) ≢ 0
next_other pages spare good e = elim (cases_eq (pages 0).prev 0) [
  | inl none ↦ omega (arith, pages_counted pages spare good, next_counted (pages 0) none, e)
  | inr some ↦
      let free : (pages (pages 0).next).kind ≡ Free = first_is_free pages spare good (omega arith) in
      let clash : Free ≡ Meta = sym free ∙ ap (λ (x : ℕ). (pages x).kind) (sym (next_free (pages 0) some) ∙ e) ∙ good.meta in
      cc clash
]

-- the next page of a good tree is free: the first free one, or the one past the count
pub next_is_free : (pages : Pages) (spare : List ℕ) → IsGoodTree pages spare → (pages (next_page (pages 0))).kind ≡ Free
next_is_free pages spare good = elim (cases_eq (pages 0).prev 0) [
  | inl none ↦ ap (λ (x : ℕ). (pages x).kind) (next_counted (pages 0) none) ∙ good.past (pages 0).leftmost (omega arith)
  | inr some ↦ ap (λ (x : ℕ). (pages x).kind) (next_free (pages 0) some) ∙ first_is_free pages spare good (omega (arith, some))
]

-- and below the page count
pub first_known : (pages : Pages) (spare : List ℕ) → IsGoodTree pages spare → 1 ≤ (pages 0).prev → (pages 0).next < (pages 0).leftmost
first_known pages spare good some =
    let tree = pages_under pages (height pages) the_root in
    let free = free_from pages (pages 0).prev (pages 0).next in
    let all = good.cover (pages 0).next in
    let one = times-append (pages 0).next (tree ++ free) spare in
    let two = times-append (pages 0).next tree free in
    let there = listed (pages 0).prev (pages 0).next some in
    is_below (pages 0).next (pages 0).leftmost (omega (arith, all, one, two, there))
  where
    listed : (n p : ℕ) → 1 ≤ n → 1 ≤ times p (free_from pages n p)
    listed zero p some = absurd (omega (arith, some))
    listed (suc n) p some = omega (arith, times-here p (free_from pages n (pages p).next))

    is_below : (y n : ℕ) → 1 ≤ (if nat_lt y n then 1 else 0) → y < n
    is_below y n h = grind (arith, nat_tests, h)

-- a page that says what it said
same_with : (pages : Pages) (q : ℕ) (b : Body) → b ≡ pages q → SamePages (with_body pages q b) pages
same_with pages q b is x = elim (cases_eq q x) [
  | inl here ↦ subst (λ (y : ℕ). with_body pages q b y ≡ pages y) here (at_here pages q b ∙ is)
  | inr other ↦ at_other pages q b x other
]

module _ (s : AllPages) (xs : List Numbered) (spare : List ℕ) (up : IsRising xs) where
  -- ---- a page taken

  module _ (good : IsGoodTree (seen s xs) spare) (q : ℕ) (old g : Page) (was : old ≡ page_in s xs 0) (number : q ≡ next_page old.body) (page : g ≡ page_in s (without_image 0 xs) q) where
    pub meta_says : old.body ≡ seen s xs 0
    meta_says = ap (λ (p : Page). p.body) was ∙ page_says s xs 0

    number_is : q ≡ next_page (seen s xs 0)
    number_is = number ∙ ap next_page meta_says

    pub not_meta : q ≢ 0
    not_meta e = next_other (seen s xs) spare good (sym number_is ∙ e)

    pub taken_says : g.body ≡ seen s xs q
    taken_says = ap (λ (p : Page). p.body) (page ∙ page_without s 0 q xs up (λ e. not_meta (sym e))) ∙ page_says s xs q

    -- so a call on these pages is not refused
    pub meta_kind : old.body.kind ≡ Meta
    meta_kind = ap (λ (b : Body). b.kind) meta_says ∙ good.meta

    pub taken_kind : g.body.kind ≡ Free
    taken_kind =
        ap (λ (b : Body). b.kind) taken_says ∙ ap (λ (x : ℕ). (seen s xs x).kind) number_is ∙ next_is_free (seen s xs) spare good

    pub takes : (new : List Numbered) → new ≡ both xs up q (says old (meta_behind old.body g.body)) g → TakesPage s xs spare q new
    takes new is =
        let meta : Body = meta_behind old.body g.body in
        let only : SamePages (seen s new) (with_body (seen s xs) 0 meta) =
        λ x. ap (λ (l : List Numbered). seen s l x) is ∙ both_seen xs up q (says old meta) g s x
        ∙ ap (λ (b : Body). if 0 == x then meta else b) (same_with (seen s xs) q g.body taken_says x) in
        let behind : meta ≡ meta_behind (seen s xs 0) (seen s xs q) = ap (λ (b : Body). meta_behind b g.body) meta_says ∙ ap (λ (b : Body). meta_behind (seen s xs 0) b) taken_says in
        let free : 1 ≤ (seen s xs 0).prev → (q ≡ (seen s xs 0).next) × SamePages (seen s new) (free_taken_pages (seen s xs)) =
        λ some. let there : (seen s xs 0).prev ≡ 0 → ⊥ = λ none. omega (arith, none, some) in
        let first : q ≡ (seen s xs 0).next = number_is ∙ next_free (seen s xs 0) there in (
          first,
          λ x. only x ∙ ap (λ (b : Body). with_body (seen s xs) 0 b x) (behind ∙ behind_free (seen s xs 0) (seen s xs q) there ∙ ap (λ (y : ℕ). meta_without_first (seen s xs 0) (seen s xs y)) first),
        ) in
        let count : (seen s xs 0).prev ≡ 0 → (q ≡ (seen s xs 0).leftmost) × SamePages (seen s new) (count_taken_pages (seen s xs)) =
        λ none. (number_is ∙ next_counted (seen s xs 0) none, λ x. only x ∙ ap (λ (b : Body). with_body (seen s xs) 0 b x) (behind ∙ behind_counted (seen s xs 0) (seen s xs q) none)) in
        let after : IsGoodTree (seen s new) (q ∷ spare) × (walk (seen s new) ≡ walk (seen s xs)) = tree (seen s new) free count in
        record {
          free = free;
          count = count;
          rest = λ x other. only x ∙ at_other (seen s xs) 0 meta x (λ e. other (sym e));
          other = not_meta;
          there = rw is (both_there xs up q (says old meta) g not_meta);
          others = λ x zero other. rw is (both_others xs up q (says old meta) g x zero other);
          good = after.0;
          same = after.1;
        }
      where
        tree : (new : Pages) → (1 ≤ (seen s xs 0).prev → (q ≡ (seen s xs 0).next) × SamePages new (free_taken_pages (seen s xs)))
            → ((seen s xs 0).prev ≡ 0 → (q ≡ (seen s xs 0).leftmost) × SamePages new (count_taken_pages (seen s xs))) → IsGoodTree new (q ∷ spare) × (walk new ≡ walk (seen s xs))
        tree new free count = elim (cases_eq (seen s xs 0).prev 0) [
          | inl none ↦
              let step = take_count (seen s xs) new spare (take_count_step (seen s xs) new spare good none (count none).1) in
              (subst (λ (x : ℕ). IsGoodTree new (x ∷ spare)) (sym (count none).0) step.0, step.1)
          | inr some ↦
              let there : 1 ≤ (seen s xs 0).prev = omega (arith, some) in
              let step = take_free (seen s xs) new spare ((seen s xs 0).prev - 1) (seen s xs 0).next (take_free_step (seen s xs) new spare good there (free there).1) in
              (subst (λ (x : ℕ). IsGoodTree new (x ∷ spare)) (sym (free there).0) step.0, step.1)
        ]

  -- ---- a page given back

  module _ (q : ℕ) (good : IsGoodTree (seen s xs) (q ∷ spare)) (old g : Page) (was : old ≡ page_in s xs 0) where
    given_meta_says : old.body ≡ seen s xs 0
    given_meta_says = ap (λ (p : Page). p.body) was ∙ page_says s xs 0

    pub given_other : q ≢ 0
    given_other e =
        let twice : times 0 (0 ∷ []) + times 0 (q ∷ spare) ≤ 1 = omega (arith, good_once (seen s xs) (q ∷ spare) good 0) in
        omega (arith, twice, times-here 0 [], subst (λ (x : ℕ). 1 ≤ times 0 (x ∷ spare)) (sym e) (omega (arith, times-here 0 spare)))

    pub given_kind : old.body.kind ≡ Meta
    given_kind = ap (λ (b : Body). b.kind) given_meta_says ∙ good.meta

    -- fewer pages are free than there are
    pub given_fewer : old.body.prev < old.body.leftmost
    given_fewer = subst (λ (b : Body). b.prev < b.leftmost) (sym given_meta_says) (omega (arith, pages_counted (seen s xs) (q ∷ spare) good))

    pub gives : (new : List Numbered) → new ≡ both xs up q (says old (meta_with_first old.body q)) (says g (empty_body Free 0 0 old.body.next 0)) → GivesPage s xs spare q new
    gives new is =
        let meta : Body = meta_with_first old.body q in
        let freed : Body = empty_body Free 0 0 old.body.next 0 in
        let two : SamePages (seen s new) (with_body (with_body (seen s xs) q freed) 0 meta) =
        λ x. ap (λ (l : List Numbered). seen s l x) is ∙ both_seen xs up q (says old meta) (says g freed) s x in
        let pages : SamePages (seen s new) (free_given_pages (seen s xs) q) =
        λ x. two x ∙ turned (seen s xs) q freed meta given_other x ∙ ap (λ (b : Body). with_body (with_body (seen s xs) 0 (meta_with_first b q)) q (empty_body Free 0 0 b.next 0) x) given_meta_says in
        let step = give_free (seen s xs) (seen s new) spare q (give_free_step (seen s xs) (seen s new) spare q good pages) in
        record {
          pages = pages;
          rest = λ x zero other. two x ∙ at_other (with_body (seen s xs) q freed) 0 meta x (λ e. zero (sym e)) ∙ at_other (seen s xs) q freed x (λ e. other (sym e));
          other = given_other;
          there = rw is (both_there xs up q (says old meta) (says g freed) given_other);
          others = λ x zero other. rw is (both_others xs up q (says old meta) (says g freed) x zero other);
          good = step.0;
          same = step.1;
        }
      where
        -- two pages change in any order
        turned : (pages : Pages) (q : ℕ) (f m : Body) → q ≢ 0 → SamePages (with_body (with_body pages q f) 0 m) (with_body (with_body pages 0 m) q f)
        turned pages q f m other x = elim (cases_eq 0 x) [
          | inl here ↦ subst (λ (y : ℕ). with_body (with_body pages q f) 0 m y ≡ with_body (with_body pages 0 m) q f y) here
              (at_here (with_body pages q f) 0 m ∙ sym (at_other (with_body pages 0 m) q f 0 other ∙ at_here pages 0 m))
          | inr away ↦ at_other (with_body pages q f) 0 m x away ∙ sym (ap (λ (b : Body). if q == x then f else b) (at_other pages 0 m x away))
        ]
