-- Pages with images in their place.
use Rattle.std.proofs.Common.{◌≡◌, ◌≢◌, ℕ, List, Option, Some, None, inl, inr, refl, sym, ap, subst, ◌∙◌, ◌==◌, if◌then◌else◌}
use Rattle.std.specs.Prelude.{is_some}
use Rattle.std.proofs.lemmas.Bool.{cases_eq}
use Rattle.im_base_types.specs.Pages.{Body, Page}
use Rattle.im_theory_log.specs.Tree.{with_body}
use Rattle.im_page_writer.specs.Outcome.{AllPages}
use Rattle.im_theory_page.specs.Header.{initial}
use Rattle.im_smo_pages.specs.Images.{Numbered, IsRising, image_of, put_image, without_image}
use Rattle.im_smo_pages.specs.Changed.{SamePages}
use Rattle.im_smo_pages.specs.Seen.{bodies, seen, image_or, page_in}
use Rattle.im_smo_pages.proofs.ImageLemmas.{body_or, applied_image, applied_put, image_put, image_put_other, put_rising, put_without, without_rising}
use Rattle.im_smo_pages.proofs.Updates.{at_here, at_other, with_same}

-- an image that is there is the page
pub image_is : (s : AllPages) (images : List Numbered) (n : ℕ) (p : Page) → image_of images n ≡ Some p → p ≡ page_in s images n
image_is s images n p is = ap (λ (o : Option Page). image_or o (s n)) (sym is)

-- where there is none, the writer's is
pub none_is : (s : AllPages) (images : List Numbered) (n : ℕ) → image_of images n ≡ None → (s n) ≡ page_in s images n
none_is s images n is = ap (λ (o : Option Page). image_or o (s n)) (sym is)

or_body : (o : Option Page) (g : Page) → (image_or o g).body ≡ body_or o g.body
or_body None g = refl
or_body (Some p) g = refl

-- what the page of a number says
pub page_says : (s : AllPages) (images : List Numbered) (n : ℕ) → (page_in s images n).body ≡ seen s images n
page_says s images n = or_body (image_of images n) (s n) ∙ sym (applied_image (bodies s) images n)

-- the other images stay where one is taken out
pub without_other : (n m : ℕ) (xs : List Numbered) → IsRising xs → (n ≡ m → ⊥) → image_of (without_image n xs) m ≡ image_of xs m
without_other n m xs up other =
    sym (image_put_other n m (initial 0) (without_image n xs) other) ∙ ap (λ (l : List Numbered). image_of l m) (put_without n (initial 0) xs up)
    ∙ image_put_other n m (initial 0) xs other

pub page_without : (s : AllPages) (n m : ℕ) (xs : List Numbered) → IsRising xs → (n ≡ m → ⊥) → page_in s (without_image n xs) m ≡ page_in s xs m
page_without s n m xs up other = ap (λ (o : Option Page). image_or o (s m)) (without_other n m xs up other)

seen_without : (s : AllPages) (n m : ℕ) (xs : List Numbered) → IsRising xs → (n ≡ m → ⊥) → seen s (without_image n xs) m ≡ seen s xs m
seen_without s n m xs up other = sym (page_says s (without_image n xs) m) ∙ ap (λ (g : Page). g.body) (page_without s n m xs up other) ∙ page_says s xs m

-- ---- page 0 and another page taken out and put back

module _ (xs : List Numbered) (up : IsRising xs) (q : ℕ) (m g : Page) where
  -- what is put back
  abbrev pub both : List Numbered
  both = put_image 0 m (put_image q g (without_image q (without_image 0 xs)))

  both_says : (s : AllPages) → SamePages (seen s both) (with_body (with_body (seen s (without_image 0 xs)) q g.body) 0 m.body)
  both_says s x =
      let less = without_rising 0 xs up in
      let same : put_image q g (without_image q (without_image 0 xs)) ≡ put_image q g (without_image 0 xs) = put_without q g (without_image 0 xs) less in
      ap (λ (l : List Numbered). seen s (put_image 0 m l) x) same
      ∙ applied_put (bodies s) (put_image q g (without_image 0 xs)) 0 m x (put_rising q g (without_image 0 xs) less)
      ∙ with_same (seen s (put_image q g (without_image 0 xs))) (with_body (seen s (without_image 0 xs)) q g.body) 0 m.body (λ y. applied_put (bodies s) (without_image 0 xs) q g y less) x

  -- these two pages alone say something else
  pub both_seen : (s : AllPages) → SamePages (seen s both) (with_body (with_body (seen s xs) q g.body) 0 m.body)
  both_seen s x = both_says s x ∙ (elim (cases_eq 0 x) [
    | inl here ↦ subst (λ (y : ℕ). with_body (with_body (seen s (without_image 0 xs)) q g.body) 0 m.body y ≡ with_body (with_body (seen s xs) q g.body) 0 m.body y) here
        (at_here (with_body (seen s (without_image 0 xs)) q g.body) 0 m.body ∙ sym (at_here (with_body (seen s xs) q g.body) 0 m.body))
    | inr other ↦
        at_other (with_body (seen s (without_image 0 xs)) q g.body) 0 m.body x other
        ∙ ap (λ (b : Body). if q == x then g.body else b) (seen_without s 0 x xs up other)
        ∙ sym (at_other (with_body (seen s xs) q g.body) 0 m.body x other)
  ])

  pub both_there : q ≢ 0 → is_some (image_of both q) ≡ is_some (Some g)
  both_there other =
      ap (λ (o : Option Page). is_some o)
      (image_put_other 0 q m (put_image q g (without_image q (without_image 0 xs))) (λ e. other (sym e))
      ∙ image_put q g (without_image q (without_image 0 xs)) (without_rising q (without_image 0 xs) (without_rising 0 xs up)))

  pub both_others : (x : ℕ) → x ≢ 0 → x ≢ q → image_of both x ≡ image_of xs x
  both_others x zero other =
      image_put_other 0 x m (put_image q g (without_image q (without_image 0 xs))) (λ e. zero (sym e))
      ∙ image_put_other q x g (without_image q (without_image 0 xs)) (λ e. other (sym e))
      ∙ without_other q x (without_image 0 xs) (without_rising 0 xs up) (λ e. other (sym e))
      ∙ without_other 0 x xs up (λ e. zero (sym e))

-- a page taken out and put back alone says something else
pub put_back : (s : AllPages) (xs : List Numbered) (n : ℕ) (p : Page) → IsRising xs → SamePages (seen s (put_image n p (without_image n xs))) (with_body (seen s xs) n p.body)
put_back s xs n p up x = ap (λ (l : List Numbered). seen s l x) (put_without n p xs up) ∙ applied_put (bodies s) xs n p x up
