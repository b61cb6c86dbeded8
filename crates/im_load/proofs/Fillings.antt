-- A file of pages that grows by pages of zeros, and by a page at its place.
use Rattle.std.proofs.Common.{◌≡◌, ℕ, ◌+◌, ◌*◌, ◌/◌, ◌<◌, ◌≤◌, max, List, ◌++◌, length, take, drop, length-take, length-drop, length-append, refl, sym, ◌∙◌, ap, arith, ⊎_elim, Some}
use Rattle.std.proofs.lemmas.Bool.{cases_lt}
use Rattle.im_base_types.specs.Pages.{Page}
use Rattle.im_base_disk.specs.Disk.{Holds}
use Rattle.im_theory_page.specs.Page.{page_of}
use Rattle.im_theory_page.proofs.PageFileLemmas.{same_before, same_behind, written_here, written_before, written_behind}
use Rattle.im_load.specs.Files.{Fills, WritesPageAt}

-- how long a file is after a write at a place within it
pub long_after : (old new bytes : List ℕ) (at : ℕ) → at ≤ length old → Holds at bytes old new → length new ≡ max (length old) (at + length bytes)
long_after old new bytes at place is =
    omega (arith, ap length is, length-append (take at old ++ bytes) (drop (at + length bytes) old), length-append (take at old) bytes, length-take at old, length-drop (at + length bytes) old, place)

-- a page past the pages of a file
pub page_put : (old new bytes : List ℕ) (p : ℕ) (page : Page) → p * 4096 ≤ length old → length bytes ≡ 4096 → page_of bytes ≡ Some page → Holds (p * 4096) bytes old new → WritesPageAt old new p page
page_put old new bytes p page place whole is_page is = record {
  here = written_here old bytes new p place whole is ∙ is_page;
  others = λ n q has less off. ⊎_elim
      (λ (low : q < p). same_before old new p q (written_before old bytes new p place whole is) low)
      (λ (high : p ≤ q). same_behind old new p q (written_behind old bytes new p place whole is) (let more : p < q = omega (arith, high, off) in more))
      (cases_lt q p);
  size = λ n has. let long = long_after old new bytes (p * 4096) place is in omega (arith, long, has, whole);
}

-- nothing is missing
pub fills_none : (old : List ℕ) (p : ℕ) → p * 4096 ≤ length old → Fills old old p
fills_none old p long = record { long = long; others = λ n q has less. refl; size = λ n has. (let more : max n p ≡ n = omega (arith, has, long) in has ∙ ap (λ m. m * 4096) (sym more)) }

-- the file that it was, for the pages that it had
pub fills_begun : (old : List ℕ) (p : ℕ) → p ≡ length old / 4096 → Fills old old p
fills_begun old p is = fills_none old p (omega (arith, is))

-- one page more
pub fills_more : (old mid new bytes : List ℕ) (p : ℕ) → length old / 4096 ≤ p → Fills old mid p → length bytes ≡ 4096 → Holds (p * 4096) bytes mid new → Fills old new (p + 1)
fills_more old mid new bytes p from so_far whole is =
    let long = long_after mid new bytes (p * 4096) so_far.long is in
    record {
      long = omega (arith, long, whole, so_far.long);
      others = λ n q has less.
          let low : q < p = omega (arith, from, has, less) in
          same_before mid new p q (written_before mid bytes new p so_far.long whole is) low ∙ so_far.others n q has less;
      size = λ n has. let was = so_far.size n has in omega (arith, long, was, whole, from, has);
    }

-- the file that was filled, and then the page
pub filled_put : (old mid new : List ℕ) (p : ℕ) (page : Page) → Fills old mid p → WritesPageAt mid new p page → WritesPageAt old new p page
filled_put old mid new p page filled put = record {
  here = put.here;
  others = λ n q has less off. put.others (max n p) q (filled.size n has) (omega (arith, less)) off ∙ filled.others n q has less;
  size = λ n has. (let both : max (max n p) (p + 1) ≡ max n (p + 1) = omega arith in put.size (max n p) (filled.size n has) ∙ ap (λ m. m * 4096) both);
}
