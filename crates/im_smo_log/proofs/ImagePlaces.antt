-- The images of a plan by their places, and pages that differ from others in one leaf.
use Rattle.std.proofs.Common.{◌≡◌, ℕ, zero, suc, ◌<◌, List, [], ◌∷◌, length, Some, inl, inr, refl, sym, ap, subst, ◌∙◌, arith, ◌==◌}
use Rattle.std.proofs.Math.Path.{fun_ext}
use Rattle.std.proofs.lemmas.Bool.{cases_eq, cond-true, cond-false, eq-eqb, ne_eqb}
use Rattle.im_base_types.specs.Pages.{Page, Body, Entry}
use Rattle.im_theory_log.specs.Tree.{with_entries}
use Rattle.im_theory_tree.specs.Levels.{Pages}
use Rattle.im_theory_tree.specs.Ways.{with_leaf}
use Rattle.im_smo_pages.specs.Images.{Numbered, IsRising, image_of, image_at, held}
use Rattle.im_smo_pages.specs.OnWay.{IsApart}
use Rattle.im_smo_pages.proofs.ImageLemmas.{body_or, applied_image, above_all as above_lt, rising_tail as tail_rises}
use Rattle.im_smo_pages.proofs.PlanWays.{apart_page}

-- the image at a place is that of its number
pub image_there : (xs : List Numbered) (k : ℕ) → IsRising xs → k < length xs → image_of xs (image_at xs k).0 ≡ Some (image_at xs k).1
image_there [] k up within = absurd (omega arith)
image_there (x ∷ xs) zero up within = cond-true (x.0 == x.0) (Some x.1) (image_of xs x.0) (eq-eqb x.0 x.0 refl)
image_there (x ∷ xs) (suc k) up within =
    let more : x.0 < (image_at xs k).0 = above_lt x.0 xs k up (omega arith) in
    cond-false (x.0 == (image_at xs k).0) (Some x.1) (image_of xs (image_at xs k).0) (ne_eqb x.0 (image_at xs k).0 (λ e. absurd (omega (arith, e, more))))
    ∙ image_there xs k (tail_rises x xs up) (omega arith)

-- a page that has an image stands at a place
pub record At (xs : List Numbered) (p : ℕ) (g : Page) : Type 0 where
  pub place : ℕ
  pub within : place < length xs
  pub number : (image_at xs place).0 ≡ p
  pub image : (image_at xs place).1 ≡ g

pub image_place : (xs : List Numbered) (p : ℕ) (g : Page) → image_of xs p ≡ Some g → At xs p g
image_place [] p g is = absurd (cc is)
image_place (x ∷ xs) p g is = elim (cases_eq x.0 p) [
  | inl here ↦
      let same : Some x.1 ≡ Some g = sym (cond-true (x.0 == p) (Some x.1) (image_of xs p) (eq-eqb x.0 p here)) ∙ is in
      record { place = zero; within = omega arith; number = here; image = cc same }
  | inr other ↦
      let rest = image_place xs p g (sym (cond-false (x.0 == p) (Some x.1) (image_of xs p) (ne_eqb x.0 p other)) ∙ is) in
      record { place = suc rest.place; within = (let low = rest.within in omega (arith, low)); number = rest.number; image = rest.image }
]

-- a leaf apart from the images changes on both sides alike
pub held_leaf : (pages : Pages) (xs : List Numbered) (q : ℕ) (f : List Entry → List Entry) → IsApart xs q
    → with_leaf (held pages xs) q (f (held pages xs q).entries) ≡ held (with_leaf pages q (f (pages q).entries)) xs
held_leaf pages xs q f apart = fun_ext (λ (x : ℕ). elim (cases_eq q x) [
  | inl here ↦
      let there : IsApart xs x = subst (IsApart xs) here apart in
      cond-true (q == x) (with_entries (held pages xs q) (f (held pages xs q).entries)) (held pages xs x) (eq-eqb q x here)
      ∙ ap (λ (c : Body). with_entries c (f c.entries)) (apart_page pages xs q apart)
      ∙ sym (apart_page (with_leaf pages q (f (pages q).entries)) xs x there
      ∙ cond-true (q == x) (with_entries (pages q) (f (pages q).entries)) (pages x) (eq-eqb q x here))
  | inr other ↦
      cond-false (q == x) (with_entries (held pages xs q) (f (held pages xs q).entries)) (held pages xs x) (ne_eqb q x other)
      ∙ applied_image pages xs x
      ∙ ap (λ (c : Body). body_or (image_of xs x) c) (sym (cond-false (q == x) (with_entries (pages q) (f (pages q).entries)) (pages x) (ne_eqb q x other)))
      ∙ sym (applied_image (with_leaf pages q (f (pages q).entries)) xs x)
])
