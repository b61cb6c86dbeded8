-- Steps that change one page or two, among the images.
use Rattle.std.proofs.Common.{◌≡◌, ℕ, zero, suc, ◌≤◌, Bool, List, Some, sym, ap, subst, ◌∙◌, arith}
use Rattle.im_base_types.specs.Pages.{Body, Page}
use Rattle.im_theory_log.specs.Tree.{with_body}
use Rattle.im_base_types.specs.declared.page_kind.PageKind.TheVariants.{Free}
use Rattle.im_theory_page.specs.Header.{empty_body}
use Rattle.im_theory_tree.specs.Levels.{Pages}
use Rattle.im_smo_pages.specs.Bodies.{with_prev, with_next, meta_without_first, meta_with_count, meta_with_first}
use Rattle.im_smo_pages.specs.Images.{Numbered, IsRising, image_of, put_image, held, KeepsAll}
use Rattle.im_smo_pages.specs.Changed.{SamePages, linked_prev, linked_next, unlinked_pages, leaf_parted_pages, leaf_split_pages, free_taken_pages, free_given_pages}
use Rattle.im_smo_pages.specs.OnImages.{PartsLeaf, Becomes, TakesFirst, TakesNext}
use Rattle.im_smo_pages.proofs.Updates.{same_trans, with_same}
use Rattle.im_smo_pages.proofs.Holding.{held_there, held_put, put_keeps, put_two, two_keep, held_two, keeps_then}

-- one page becomes what a function of its body says
pub becomes_one : (xs new : List Numbered) (n : ℕ) (old p : Page) (f : Body → Body) → IsRising xs → image_of xs n ≡ Some old → new ≡ put_image n p xs → p.body ≡ f old.body
    → Becomes xs new (λ h. with_body h n (f (h n)))
becomes_one xs new n old p f up there is body = record {
  kept = subst (KeepsAll xs) (sym is) (put_keeps n p xs up);
  pages = λ pages.
      let h : Pages = held pages xs in
      subst (λ (ys : List Numbered). SamePages (held pages ys) (with_body h n (f (h n)))) (sym is)
      (λ q. held_put pages xs n p up q ∙ ap (λ (b : Body). with_body h n b q) (body ∙ ap f (sym (held_there pages xs n old there))));
}

-- one page becomes what it did not depend on
pub becomes_this : (xs new : List Numbered) (n : ℕ) (p : Page) (b : Body) → IsRising xs → new ≡ put_image n p xs → p.body ≡ b → Becomes xs new (λ h. with_body h n b)
becomes_this xs new n p b up is body = record {
  kept = subst (KeepsAll xs) (sym is) (put_keeps n p xs up);
  pages = λ pages.
      let h : Pages = held pages xs in
      subst (λ (ys : List Numbered). SamePages (held pages ys) (with_body h n b)) (sym is) (λ q. held_put pages xs n p up q ∙ ap (λ (c : Body). with_body h n c q) body);
}

-- ---- links

pub becomes_prev : (xs new : List Numbered) (n v : ℕ) (old p : Page) → 1 ≤ n → IsRising xs → image_of xs n ≡ Some old → new ≡ put_image n p xs → p.body ≡ with_prev old.body v
    → Becomes xs new (λ h. linked_prev h n v)
becomes_prev xs new zero v old p some up there is body = absurd (omega arith)
becomes_prev xs new (suc n) v old p some up there is body = becomes_one xs new (suc n) old p (λ (b : Body). with_prev b v) up there is body

pub becomes_next : (xs new : List Numbered) (n v : ℕ) (old p : Page) → 1 ≤ n → IsRising xs → image_of xs n ≡ Some old → new ≡ put_image n p xs → p.body ≡ with_next old.body v
    → Becomes xs new (λ h. linked_next h n v)
becomes_next xs new zero v old p some up there is body = absurd (omega arith)
becomes_next xs new (suc n) v old p some up there is body = becomes_one xs new (suc n) old p (λ (b : Body). with_next b v) up there is body

-- the same link in the same pages
pub prev_same : (new pages : Pages) (n v : ℕ) → SamePages new pages → SamePages (linked_prev new n v) (linked_prev pages n v)
prev_same new pages zero v h x = h x
prev_same new pages (suc n) v h x =
    ap (λ (b : Body). with_body new (suc n) (with_prev b v) x) (h (suc n)) ∙ with_same new pages (suc n) (with_prev (pages (suc n)) v) h x

pub becomes_unlinked : (a b c : List Numbered) (prev next : ℕ) → Becomes a b (λ h. linked_next h prev next) → Becomes b c (λ h. linked_prev h next prev) → Becomes a c (λ h. unlinked_pages h prev next)
becomes_unlinked a b c prev next first second = record {
  kept = keeps_then a b c first.kept second.kept;
  pages = λ pages.
      same_trans (held pages c) (linked_prev (held pages b) next prev) (unlinked_pages (held pages a) prev next) (second.pages pages)
      (prev_same (held pages b) (linked_next (held pages a) prev next) next prev (first.pages pages));
}

-- ---- allocation

pub takes_first : (xs new : List Numbered) (old meta page : Page) (q : ℕ) → IsRising xs → image_of xs 0 ≡ Some old → new ≡ put_image 0 meta xs → q ≡ old.body.next → 1 ≤ old.body.prev
    → meta.body ≡ meta_without_first old.body page.body → TakesFirst xs new page.body q
takes_first xs new old meta page q up there is number some body = record {
  kept = subst (KeepsAll xs) (sym is) (put_keeps 0 meta xs up);
  number = λ pages. number ∙ ap (λ (b : Body). b.next) (sym (held_there pages xs 0 old there));
  some = λ pages. subst (λ (b : Body). 1 ≤ b.prev) (sym (held_there pages xs 0 old there)) some;
  pages = λ pages page_is.
      let h : Pages = held pages xs in
      let zero_is : h 0 ≡ old.body = held_there pages xs 0 old there in
      let first_is : page.body ≡ h (h 0).next = sym page_is ∙ ap h (number ∙ ap (λ (b : Body). b.next) (sym zero_is)) in
      subst (λ (ys : List Numbered). SamePages (held pages ys) (free_taken_pages h)) (sym is)
      (λ x. held_put pages xs 0 meta up x
      ∙ ap (λ (b : Body). with_body h 0 b x) (body ∙ ap (λ (b : Body). meta_without_first b page.body) (sym zero_is) ∙ ap (λ (b : Body). meta_without_first (h 0) b) first_is));
}

pub takes_next : (xs new : List Numbered) (old meta : Page) (q : ℕ) → IsRising xs → image_of xs 0 ≡ Some old → new ≡ put_image 0 meta xs → q ≡ old.body.leftmost → old.body.prev ≡ 0
    → meta.body ≡ meta_with_count old.body → TakesNext xs new q
takes_next xs new old meta q up there is number none body = record {
  becomes = becomes_one xs new 0 old meta meta_with_count up there is body;
  number = λ pages. number ∙ ap (λ (b : Body). b.leftmost) (sym (held_there pages xs 0 old there));
  none = λ pages. ap (λ (b : Body). b.prev) (held_there pages xs 0 old there) ∙ none;
}

pub gives_free : (xs new : List Numbered) (old meta page : Page) (q : ℕ) → IsRising xs → image_of xs 0 ≡ Some old → new ≡ put_two 0 meta q page xs → meta.body ≡ meta_with_first old.body q
    → page.body ≡ empty_body Free 0 0 old.body.next 0 → Becomes xs new (λ h. free_given_pages h q)
gives_free xs new old meta page q up there is body freed = record {
  kept = subst (KeepsAll xs) (sym is) (two_keep 0 meta q page xs up);
  pages = λ pages.
      let h : Pages = held pages xs in
      let zero_is : h 0 ≡ old.body = held_there pages xs 0 old there in
      subst (λ (ys : List Numbered). SamePages (held pages ys) (free_given_pages h q)) (sym is)
      (λ x. held_two pages 0 meta q page xs up x
      ∙ ap (λ (b : Body). with_body (with_body h 0 b) q page.body x) (body ∙ ap (λ (b : Body). meta_with_first b q) (sym zero_is))
      ∙ ap (λ (b : Body). with_body (with_body h 0 (meta_with_first (h 0) q)) q b x) (freed ∙ ap (λ (b : Body). empty_body Free 0 0 b.next 0) (sym zero_is)));
}

-- ---- one step after another

pub next_same : (new pages : Pages) (n v : ℕ) → SamePages new pages → SamePages (linked_next new n v) (linked_next pages n v)
next_same new pages zero v h x = h x
next_same new pages (suc n) v h x =
    ap (λ (b : Body). with_body new (suc n) (with_next b v) x) (h (suc n)) ∙ with_same new pages (suc n) (with_next (pages (suc n)) v) h x

pub unlinked_same : (new pages : Pages) (prev next : ℕ) → SamePages new pages → SamePages (unlinked_pages new prev next) (unlinked_pages pages prev next)
unlinked_same new pages prev next h = prev_same (linked_next new prev next) (linked_next pages prev next) next prev (next_same new pages prev next h)

-- a leaf that is parted, and the link after it
pub leaf_then_link : {dense : Bool} (a b c : List Numbered) (page : Body) (parent p q n : ℕ) (pages : Pages) → PartsLeaf dense a b page parent p q n → Becomes b c (λ h. linked_prev h page.next q)
    → held pages a p ≡ page → SamePages (held pages c) (leaf_split_pages (held pages a) parent p q n)
leaf_then_link a b c page parent p q n pages parts linked page_is =
    subst (λ (x : Body). SamePages (held pages c) (linked_prev (leaf_parted_pages (held pages a) parent p q n) x.next q)) (sym page_is)
    (same_trans (held pages c) (linked_prev (held pages b) page.next q) (linked_prev (leaf_parted_pages (held pages a) parent p q n) page.next q) (linked.pages pages)
    (prev_same (held pages b) (leaf_parted_pages (held pages a) parent p q n) page.next q (parts.pages pages page_is)))

-- a parent that changes, and the links beside a leaf
pub drop_then_unlink : (a b c : List Numbered) (page : Body) (leaf : ℕ) (step : Pages → Pages) (pages : Pages) → Becomes a b step → Becomes b c (λ h. unlinked_pages h page.prev page.next)
    → held pages a leaf ≡ page → SamePages (held pages c) (unlinked_pages (step (held pages a)) (held pages a leaf).prev (held pages a leaf).next)
drop_then_unlink a b c page leaf step pages drops unlinks page_is =
    subst (λ (x : Body). SamePages (held pages c) (unlinked_pages (step (held pages a)) x.prev x.next)) (sym page_is)
    (same_trans (held pages c) (unlinked_pages (held pages b) page.prev page.next) (unlinked_pages (step (held pages a)) page.prev page.next) (unlinks.pages pages)
    (unlinked_same (held pages b) (step (held pages a)) page.prev page.next (drops.pages pages)))
