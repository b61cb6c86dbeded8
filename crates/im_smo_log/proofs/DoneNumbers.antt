-- The numbers of the pages of a structure change.
use Rattle.std.proofs.Common.{◌≡◌, ◌≤◌, ◌<◌, ◌+◌, ℕ, zero, suc, Bool, false, List, [], ◌∷◌, ◌++◌, length, take, refl, sym, ap, ◌∙◌, arith, ◌==◌}
use Rattle.std.specs.Prelude.{◌||◌}
use Rattle.std.specs.List.{list_any}
use Rattle.std.proofs.lemmas.List.{take_all, take_more, get_or-map, length-map}
use Rattle.im_theory_page.specs.Header.{initial}
use Rattle.im_smo_pages.specs.Images.{Numbered, image_at}
use Rattle.im_smo_log.specs.ChangePages.{numbers_of, FirstAreDone}

pub none_taken : (images : List Numbered) → take 0 (numbers_of images) ≡ []
none_taken [] = refl
none_taken (x ∷ xs) = refl

pub one_more : (images : List Numbered) (old new : List ℕ) (i n : ℕ) → i < length images → n ≡ (image_at images i).0 → old ≡ take i (numbers_of images) → new ≡ old ++ n ∷ [] → new ≡ take (i + 1) (numbers_of images)
one_more images old new i n within is was joins =
    let long : length (numbers_of images) ≡ length images = length-map images (λ (x : Numbered). x.0) in
    let more = take_more (numbers_of images) i 0 (omega (arith, long, within)) in
    let here = get_or-map (λ (x : Numbered). x.0) images i (0, initial 0) 0 within in
    joins ∙ ap (λ (xs : List ℕ). xs ++ n ∷ []) was ∙ ap (λ (m : ℕ). take i (numbers_of images) ++ m ∷ []) (is ∙ sym here) ∙ sym more

pub all_taken : (images : List Numbered) (i : ℕ) → length images ≤ i → take i (numbers_of images) ≡ numbers_of images
all_taken images i all =
    let long : length (numbers_of images) ≡ length images = length-map images (λ (x : Numbered). x.0) in
    take_all i (numbers_of images) (omega (arith, long, all))

-- the first n of them are those of the first n images
pub first_are_done : FirstAreDone
first_are_done [] n p = none n
  where
    none : (m : ℕ) → list_any (λ (q : ℕ). q == p) (take m []) ≡ false
    none zero = refl
    none (suc m) = refl
first_are_done (x ∷ xs) zero p = refl
first_are_done (x ∷ xs) (suc n) p = ap (λ (b : Bool). (x.0 == p) || b) (first_are_done xs n p)
