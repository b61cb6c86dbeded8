-- What each page holds where images are applied, once some more are put in.
use Rattle.std.proofs.Common.{◌≡◌, ℕ, List, Option, Some, inl, inr, refl, sym, ap, subst, ◌∙◌}
use Rattle.std.proofs.lemmas.Bool.{cases_eq}
use Rattle.std.specs.Prelude.{IsSome}
use Rattle.im_base_types.specs.Pages.{Body, Page}
use Rattle.im_theory_log.specs.Tree.{with_body}
use Rattle.im_theory_tree.specs.Levels.{Pages}
use Rattle.im_smo_pages.specs.Images.{Numbered, IsRising, image_of, put_image, without_image, held, Has, KeepsAll}
use Rattle.im_smo_pages.specs.Changed.{SamePages}
use Rattle.im_smo_pages.proofs.Updates.{with_same}
use Rattle.im_smo_pages.proofs.ImageLemmas.{body_or, applied_image, applied_put, image_put, image_put_other, put_rising, put_without}

-- ---- one page

pub held_there : (pages : Pages) (xs : List Numbered) (n : ℕ) (p : Page) → image_of xs n ≡ Some p → held pages xs n ≡ p.body
held_there pages xs n p is = applied_image pages xs n ∙ ap (λ (o : Option Page). body_or o (pages n)) is

pub held_put : (pages : Pages) (xs : List Numbered) (n : ℕ) (p : Page) → IsRising xs → SamePages (held pages (put_image n p xs)) (with_body (held pages xs) n p.body)
held_put pages xs n p up x = applied_put pages xs n p x up

pub has_put : (n : ℕ) (p : Page) (xs : List Numbered) → IsRising xs → Has (put_image n p xs) n
has_put n p xs up = subst IsSome (sym (image_put n p xs up)) refl

pub put_keeps : (n : ℕ) (p : Page) (xs : List Numbered) → IsRising xs → KeepsAll xs (put_image n p xs)
put_keeps n p xs up m has = elim (cases_eq n m) [
  | inl here ↦ subst (Has (put_image n p xs)) here (has_put n p xs up)
  | inr other ↦ subst IsSome (sym (image_put_other n m p xs other)) has
]

pub keeps_then : (a b c : List Numbered) → KeepsAll a b → KeepsAll b c → KeepsAll a c
keeps_then a b c h k m has = k m (h m has)

-- ---- several pages

abbrev pub put_two : ℕ → Page → ℕ → Page → List Numbered → List Numbered
put_two a x b y xs = put_image b y (put_image a x xs)

abbrev pub put_three : ℕ → Page → ℕ → Page → ℕ → Page → List Numbered → List Numbered
put_three a x b y c z xs = put_image c z (put_two a x b y xs)

pub two_rise : (a : ℕ) (x : Page) (b : ℕ) (y : Page) (xs : List Numbered) → IsRising xs → IsRising (put_two a x b y xs)
two_rise a x b y xs up = put_rising b y (put_image a x xs) (put_rising a x xs up)

pub two_keep : (a : ℕ) (x : Page) (b : ℕ) (y : Page) (xs : List Numbered) → IsRising xs → KeepsAll xs (put_two a x b y xs)
two_keep a x b y xs up = keeps_then xs (put_image a x xs) (put_two a x b y xs) (put_keeps a x xs up) (put_keeps b y (put_image a x xs) (put_rising a x xs up))

pub three_keep : (a : ℕ) (x : Page) (b : ℕ) (y : Page) (c : ℕ) (z : Page) (xs : List Numbered) → IsRising xs → KeepsAll xs (put_three a x b y c z xs)
three_keep a x b y c z xs up = keeps_then xs (put_two a x b y xs) (put_three a x b y c z xs) (two_keep a x b y xs up) (put_keeps c z (put_two a x b y xs) (two_rise a x b y xs up))

-- each of the three is among them
pub three_has : (a : ℕ) (x : Page) (b : ℕ) (y : Page) (c : ℕ) (z : Page) (xs : List Numbered) → IsRising xs
    → Has (put_three a x b y c z xs) a × Has (put_three a x b y c z xs) b × Has (put_three a x b y c z xs) c
three_has a x b y c z xs up =
    let last = put_keeps c z (put_two a x b y xs) (two_rise a x b y xs up) in (
      last a (put_keeps b y (put_image a x xs) (put_rising a x xs up) a (has_put a x xs up)),
      last b (has_put b y (put_image a x xs) (put_rising a x xs up)),
      has_put c z (put_two a x b y xs) (two_rise a x b y xs up),
    )

pub held_two : (pages : Pages) (a : ℕ) (x : Page) (b : ℕ) (y : Page) (xs : List Numbered) → IsRising xs
    → SamePages (held pages (put_two a x b y xs)) (with_body (with_body (held pages xs) a x.body) b y.body)
held_two pages a x b y xs up q =
    held_put pages (put_image a x xs) b y (put_rising a x xs up) q
    ∙ with_same (held pages (put_image a x xs)) (with_body (held pages xs) a x.body) b y.body (held_put pages xs a x up) q

pub held_three : (pages : Pages) (a : ℕ) (x : Page) (b : ℕ) (y : Page) (c : ℕ) (z : Page) (xs : List Numbered) → IsRising xs
    → SamePages (held pages (put_three a x b y c z xs)) (with_body (with_body (with_body (held pages xs) a x.body) b y.body) c z.body)
held_three pages a x b y c z xs up q =
    held_put pages (put_two a x b y xs) c z (two_rise a x b y xs up) q
    ∙ with_same (held pages (put_two a x b y xs)) (with_body (with_body (held pages xs) a x.body) b y.body) c z.body (held_two pages a x b y xs up) q

-- the same bodies in the same places
pub same_three : (h : Pages) (a : ℕ) (x u : Body) (b : ℕ) (y v : Body) (c : ℕ) (z w : Body) → x ≡ u → y ≡ v → z ≡ w
    → SamePages (with_body (with_body (with_body h a x) b y) c z) (with_body (with_body (with_body h a u) b v) c w)
same_three h a x u b y v c z w ex ey ez q =
    ap (λ (t : Body). with_body (with_body (with_body h a t) b y) c z q) ex
    ∙ ap (λ (t : Body). with_body (with_body (with_body h a u) b t) c z q) ey
    ∙ ap (λ (t : Body). with_body (with_body (with_body h a u) b v) c t q) ez

-- ---- a page taken out, and put back alone or with others

pub three_puts : (xs out one two three : List Numbered) (a : ℕ) (x : Page) (b : ℕ) (y : Page) (c : ℕ) (z : Page) → IsRising xs → out ≡ without_image a xs → one ≡ put_image a x out
    → two ≡ put_image b y one → three ≡ put_image c z two → three ≡ put_three a x b y c z xs
three_puts xs out one two three a x b y c z up is_out is_one is_two is_three =
    is_three
    ∙ ap (put_image c z) (is_two ∙ ap (put_image b y) (is_one ∙ ap (put_image a x) is_out ∙ put_without a x xs up))

pub one_put : (xs out new : List Numbered) (n : ℕ) (p : Page) → IsRising xs → out ≡ without_image n xs → new ≡ put_image n p out → new ≡ put_image n p xs
one_put xs out new n p up is_out is = is ∙ ap (put_image n p) is_out ∙ put_without n p xs up

pub two_puts : (xs out one two : List Numbered) (a : ℕ) (x : Page) (b : ℕ) (y : Page) → IsRising xs → out ≡ without_image a xs → one ≡ put_image a x out → two ≡ put_image b y one
    → two ≡ put_two a x b y xs
two_puts xs out one two a x b y up is_out is_one is_two = is_two ∙ ap (put_image b y) (one_put xs out one a x up is_out is_one)
