-- A page taken out of the images, and what is seen once it is put back.
use Rattle.std.proofs.Common.{◌≡◌, ℕ, List, Option, Some, None, inl, inr, refl, sym, ap, subst, ◌∙◌}
use Rattle.std.proofs.Math.Path.{fun_ext}
use Rattle.std.proofs.lemmas.Bool.{cases_eq}
use Rattle.std.specs.Prelude.{IsSome}
use Rattle.im_base_types.specs.Pages.{Body, Page}
use Rattle.im_theory_log.specs.Tree.{with_body}
use Rattle.im_page_writer.specs.Outcome.{AllPages}
use Rattle.im_theory_tree.specs.Levels.{Pages}
use Rattle.im_smo_pages.specs.Images.{Numbered, Has, KeepsAll, IsRising, held, image_of, put_image, without_image}
use Rattle.im_smo_pages.specs.Seen.{bodies, seen, page_in}
use Rattle.im_smo_pages.proofs.Holding.{has_put, put_keeps}
use Rattle.im_smo_pages.proofs.ImageLemmas.{body_or, applied_image, applied_put, image_without, put_without}
use Rattle.im_smo_pages.proofs.Updates.{at_here, at_other}
use Rattle.im_smo_pages.proofs.Seeing.{page_says, without_other}

pub out_has : (n m : ℕ) (xs : List Numbered) → IsRising xs → (n ≡ m → ⊥) → Has xs m → Has (without_image n xs) m
out_has n m xs up other has = subst IsSome (sym (without_other n m xs up other)) has

or_there : (o : Option Page) (a b : Body) → IsSome o → body_or o a ≡ body_or o b
or_there None a b is = let never : ⊥ = cc is in absurd never
or_there (Some p) a b is = refl

-- the page of number n was taken out
module _ (s : AllPages) (xs : List Numbered) (n : ℕ) (page : Page) (up : IsRising xs) (is : page ≡ page_in s xs n) where
  -- the writer's pages with it in its place
  abbrev pub beneath : Pages
  beneath = with_body (bodies s) n page.body

  pub body_is : page.body ≡ seen s xs n
  body_is = ap (λ (g : Page). g.body) is ∙ page_says s xs n

  -- over these the images that are left have what was seen
  pub out_same : held beneath (without_image n xs) ≡ seen s xs
  out_same = fun_ext (λ (x : ℕ). same_at x)
    where
      same_at : (x : ℕ) → held beneath (without_image n xs) x ≡ seen s xs x
      same_at x = elim (cases_eq n x) [
        | inl here ↦
            subst (λ (y : ℕ). held beneath (without_image n xs) y ≡ seen s xs y) here
            (applied_image beneath (without_image n xs) n ∙ ap (λ (o : Option Page). body_or o (beneath n)) (image_without n xs up) ∙ at_here (bodies s) n page.body ∙ body_is)
        | inr other ↦
            applied_image beneath (without_image n xs) x ∙ ap (λ (o : Option Page). body_or o (beneath x)) (without_other n x xs up other)
            ∙ ap (body_or (image_of xs x)) (at_other (bodies s) n page.body x other) ∙ sym (applied_image (bodies s) xs x)
      ]

  pub out_at : held beneath (without_image n xs) n ≡ page.body
  out_at = ap (λ (pages : Pages). pages n) out_same ∙ sym body_is

  -- and images that have a page of the number have what is seen
  pub in_same : (ys : List Numbered) → Has ys n → held beneath ys ≡ seen s ys
  in_same ys has = fun_ext (λ (x : ℕ). same_at x)
    where
      same_at : (x : ℕ) → held beneath ys x ≡ seen s ys x
      same_at x = elim (cases_eq n x) [
        | inl here ↦
            subst (λ (y : ℕ). held beneath ys y ≡ seen s ys y) here
            (applied_image beneath ys n ∙ or_there (image_of ys n) (beneath n) (bodies s n) has ∙ sym (applied_image (bodies s) ys n))
        | inr other ↦ applied_image beneath ys x ∙ ap (body_or (image_of ys x)) (at_other (bodies s) n page.body x other) ∙ sym (applied_image (bodies s) ys x)
      ]

  -- put back as it was, it changes nothing that is seen
  pub back_same : (ys : List Numbered) → ys ≡ put_image n page (without_image n xs) → seen s ys ≡ seen s xs
  back_same ys back = ap (seen s) (back ∙ put_without n page xs up) ∙ fun_ext (λ (x : ℕ). same_at x)
    where
      same_at : (x : ℕ) → seen s (put_image n page xs) x ≡ seen s xs x
      same_at x = elim (cases_eq n x) [
        | inl here ↦
            subst (λ (y : ℕ). seen s (put_image n page xs) y ≡ seen s xs y) here
            (applied_put (bodies s) xs n page n up ∙ at_here (seen s xs) n page.body ∙ body_is)
        | inr other ↦ applied_put (bodies s) xs n page x up ∙ at_other (seen s xs) n page.body x other
      ]

  pub back_has : (ys : List Numbered) → ys ≡ put_image n page (without_image n xs) → Has ys n
  back_has ys back = subst (λ (zs : List Numbered). Has zs n) (sym (back ∙ put_without n page xs up)) (has_put n page xs up)

  pub back_keeps : (ys : List Numbered) → ys ≡ put_image n page (without_image n xs) → KeepsAll xs ys
  back_keeps ys back = subst (KeepsAll xs) (sym (back ∙ put_without n page xs up)) (put_keeps n page xs up)
