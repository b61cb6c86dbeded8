-- Ways, with regard to the images of a plan.
use Rattle.std.proofs.Common.{◌≡◌, ℕ, List, Option, None, Some, refl, sym, ap, subst, ◌∙◌}
use Rattle.std.specs.Prelude.{IsSome}
use Rattle.im_base_types.specs.Pages.{Page}
use Rattle.im_theory_tree.specs.Levels.{Pages}
use Rattle.im_smo_pages.specs.Images.{Numbered, image_of, held, KeepsAll}
use Rattle.im_smo_pages.specs.OnWay.{IsApart, PlansKeepWays}
use Rattle.im_smo_pages.proofs.ImageLemmas.{body_or, applied_image}

-- a page that is none of the images is as it was
pub apart_page : (pages : Pages) (xs : List Numbered) (q : ℕ) → IsApart xs q → held pages xs q ≡ pages q
apart_page pages xs q apart = applied_image pages xs q ∙ ap (λ (o : Option Page). body_or o (pages q)) apart

-- an image, or none
pub has_none : (o : Option Page) → IsSome o → o ≡ None → ⊥
has_none (Some g) some none = absurd (cc none)
has_none None some none = absurd (cc some)

none_or : (images longer : List Numbered) (q : ℕ) (o : Option Page) → image_of images q ≡ o → KeepsAll images longer → image_of longer q ≡ None → image_of images q ≡ None
none_or images longer q None is all none = is
none_or images longer q (Some g) is all none = absurd (has_none (image_of longer q) (all q (subst (λ (o : Option Page). IsSome o) (sym is) refl)) none)

pub plans_keep_ways : PlansKeepWays
plans_keep_ways = record {
  one = λ pages new images p has keeps key q way apart. keeps key q way (λ e. has_none (image_of images p) has (subst (λ x. image_of images x ≡ None) e apart));
  none = λ pages new images keeps key q way apart. keeps key q way tt;
  more = λ pages new images longer all keeps key q way apart. keeps key q way (none_or images longer q (image_of images q) refl all apart);
  next = λ pages mid new images first second key q way apart. second key q (first key q way apart) apart;
}
