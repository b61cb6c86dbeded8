-- Pages taken in a row.
use Rattle.std.proofs.Common.{◌≡◌, ℕ, ◌+◌, ◌-◌, ◌^◌, ◌<◌, ◌≤◌, List, [], ◌∷◌, ◌++◌, length, refl, sym, ap, subst, ◌∙◌, ⊎_elim, arith, length-append}
use Rattle.std.proofs.lemmas.Bool.{cases_lt}
use Rattle.im_base_types.specs.Pages.{Body}
use Rattle.im_base_disk.specs.declared.disk.Disk.{Ghosts}
use Rattle.im_page_writer.specs.declared.page_writer.PageWriter.{PageWriter}
use Rattle.im_page_writer.specs.Outcome.{AllPages, AreLoaded, HasPages}
use Rattle.im_theory_tree.specs.Good.{IsGoodTree}
use Rattle.im_smo_pages.specs.Images.{Numbered}
use Rattle.im_smo_pages.specs.Bodies.{meta_without_first, meta_with_count}
use Rattle.im_smo_pages.specs.Seen.{seen, TakesPage}
use Rattle.im_smo_pages.specs.Kept.{HasImages}
use Rattle.im_smo_split.specs.Pages.{newest_first, Taken}

pub newest_is : (ns : List ℕ) (q : ℕ) → newest_first (ns ++ q ∷ []) ≡ q ∷ newest_first ns
newest_is [] q = refl
newest_is (n ∷ ns) q = ap (λ (m : List ℕ). m ++ n ∷ []) (newest_is ns q)

-- a page that is taken is one more that is not free
one_more : (t : AllPages) (images new : List Numbered) (spare : List ℕ) (q : ℕ) → TakesPage t images spare q new → (seen t new 0).leftmost + (seen t images 0).prev ≡ (seen t images 0).leftmost + 1 + (seen t new 0).prev
one_more t images new spare q takes = ⊎_elim of_free of_count (cases_lt 0 (seen t images 0).prev)
  where
    was : Body
    was = seen t images 0

    of_free : 0 < (seen t images 0).prev → (seen t new 0).leftmost + (seen t images 0).prev ≡ (seen t images 0).leftmost + 1 + (seen t new 0).prev
    of_free some =
        let same : seen t new 0 ≡ meta_without_first (seen t images 0) (seen t images (seen t images 0).next) = (takes.free (omega (arith, some))).1 0 in
        let left : (seen t new 0).leftmost ≡ (seen t images 0).leftmost = ap (λ (x : Body). x.leftmost) same in
        let prev : (seen t new 0).prev ≡ (seen t images 0).prev - 1 = ap (λ (x : Body). x.prev) same in
        omega (arith, left, prev, some)

    of_count : (seen t images 0).prev ≤ 0 → (seen t new 0).leftmost + (seen t images 0).prev ≡ (seen t images 0).leftmost + 1 + (seen t new 0).prev
    of_count none =
        let same : seen t new 0 ≡ meta_with_count (seen t images 0) = (takes.count (omega (arith, none))).1 0 in
        let left : (seen t new 0).leftmost ≡ (seen t images 0).leftmost + 1 = ap (λ (x : Body). x.leftmost) same in
        let prev : (seen t new 0).prev ≡ (seen t images 0).prev = ap (λ (x : Body). x.prev) same in
        omega (arith, left, prev)

-- counts of pages that are not free, put together
counts_then : (first_left first_prev mid_left mid_prev last_left last_prev n m : ℕ) → mid_left + first_prev ≡ first_left + n + mid_prev → last_left + mid_prev ≡ mid_left + 1 + last_prev → m ≡ n + 1 → last_left + first_prev ≡ first_left + m + last_prev
counts_then first_left first_prev mid_left mid_prev last_left last_prev n m one two is = omega (arith, one, two, is)

-- no page number is left
over_last : (first_left first_prev left prev n count : ℕ) → left + first_prev ≡ first_left + n + prev → prev ≡ 0 → left + 1 ≡ 2 ^ 32 → n < count → 2 ^ 32 - 1 + first_prev < first_left + count
over_last first_left first_prev left prev n count counts none last fewer = omega (arith, counts, none, last, fewer)

module _ (s : AllPages) (images : List Numbered) where
  pub none_taken : (numbers : List ℕ) → numbers ≡ [] → IsGoodTree (seen s images) [] → Taken s images numbers images
  none_taken numbers none good = record {
    good = subst (λ (ns : List ℕ). IsGoodTree (seen s images) (newest_first ns)) (sym none) good;
    rest = λ x other. refl;
    same = refl;
    counts = let len : length numbers ≡ 0 = ap length none in omega (arith, len);
  }

  module _ (numbers : List ℕ) (mid : List Numbered) (one : Taken s images numbers mid) where
    pub taken_more : (q : ℕ) (more : List ℕ) (new : List Numbered) → more ≡ numbers ++ q ∷ [] → TakesPage s mid (newest_first numbers) q new → Taken s images more new
    taken_more q more new is two = record {
      good = subst (IsGoodTree (seen s new)) (sym (ap newest_first is ∙ newest_is numbers q)) two.good;
      rest = λ x other. two.rest x other ∙ one.rest x other;
      same = two.same ∙ one.same;
      counts = counts_then (seen s images 0).leftmost (seen s images 0).prev (seen s mid 0).leftmost (seen s mid 0).prev (seen s new 0).leftmost (seen s new 0).prev (length numbers) (length more)
          one.counts (one_more s mid new (newest_first numbers) q two) (ap length is ∙ length-append numbers (q ∷ []));
    }

    pub has_taken : {D : Type 0} (d : Ghosts D) {w : PageWriter} {disk : D} → HasPages d AreLoaded s w disk → HasImages d s mid (newest_first numbers) w disk
    has_taken {D} d {w} {disk} has = record { has = has; good = one.good }

    -- no page number is left for one more
    pub none_left : (count : ℕ) → length numbers < count → ((seen s mid 0).prev ≡ 0) × ((seen s mid 0).leftmost + 1 ≡ 2 ^ 32) → 2 ^ 32 - 1 + (seen s images 0).prev < (seen s images 0).leftmost + count
    none_left count fewer up = over_last (seen s images 0).leftmost (seen s images 0).prev (seen s mid 0).leftmost (seen s mid 0).prev (length numbers) count one.counts up.0 up.1 fewer
