-- Beside a log without a record page 0 counts one page more at most than the file has, and than the first two.
use Rattle.std.proofs.Common.{◌≡◌, ℕ, ◌+◌, ◌≤◌, ◌==◌, if◌then◌else◌, max, List, [], length, Some, refl, sym, ◌∙◌, ap, arith, inl, inr}
use Rattle.std.proofs.lemmas.Bool.{cases_lt, cond-false, ne_eqb}
use Rattle.im_base_types.specs.Pages.{Body, Page}
use Rattle.im_base_types.specs.declared.page_kind.PageKind.TheVariants.{Free, Leaf, Meta}
use Rattle.im_theory_log.specs.Histories.{Base}
use Rattle.im_theory_log.specs.Lawful.{IsLawful}
use Rattle.im_theory_log.specs.RedoPoints.{Covers}
use Rattle.im_theory_log.specs.Structure.{settled}
use Rattle.im_theory_page.specs.Header.{empty_body, initial}
use Rattle.im_theory_page.specs.PageFile.{file_page, page_count}
use Rattle.im_theory_page.proofs.PageFileLemmas.{page_past}
use Rattle.im_theory_tree.specs.Theory.{page_tree}
use Rattle.im_files_belonging.specs.declared.folder.PagesFront.{PagesFront}
use Rattle.im_files_belonging.specs.Belonging.{LacksCounted}
use Rattle.im_engine_belonging.specs.Guards.{IsPagesFront}
use Rattle.im_engine_belonging.proofs.FreePages.{few_lacking}
use Rattle.im_engine_belonging.proofs.PageFronts.{front_count, no_count}

-- from page 2 on, a page is free before anything is put
free_at_first : (p : ℕ) → 2 ≤ p → (initial p).body ≡ empty_body Free 0 0 0 0
free_at_first p high =
    cond-false (p == 0) (empty_body Meta 0 0 0 2) (if p == 1 then empty_body Leaf 0 0 0 0 else empty_body Free 0 0 0 0) (ne_eqb p 0 (λ is. omega (arith, high, is)))
    ∙ cond-false (p == 1) (empty_body Leaf 0 0 0 0) (empty_body Free 0 0 0 0) (ne_eqb p 1 (λ is. omega (arith, high, is)))

module _ (b : Base) (file : List ℕ) (covers : Covers b [] (file_page file)) (lawful : IsLawful b page_tree []) where
  as_based : (p : ℕ) → file_page file p ≡ Some (b.pages p)
  as_based p = let read = covers.read p refl in read.here ∙ ap (λ (g : Page). Some g) read.reaches.is

  at_first : (p : ℕ) → max 2 (page_count file) ≤ p → (b.pages p).body ≡ empty_body Free 0 0 0 0
  at_first p past =
      let same : Some (b.pages p) ≡ Some (initial p) = sym (as_based p) ∙ page_past file p (omega (arith, past)) in
      let is : b.pages p ≡ initial p = cc in
      ap (λ (g : Page). g.body) is ∙ free_at_first p (omega (arith, past))

  few : (b.pages 0).body.leftmost ≤ max 2 (page_count file) + 1
  few = few_lacking (settled b []) (max 2 (page_count file)) lawful.stands.good (λ p past. (ap (λ (x : Body). x.kind) (at_first p past), ap (λ (x : Body). x.next) (at_first p past)))

  pub never_counted : (base : ℕ) (front : PagesFront) → IsPagesFront file front → LacksCounted base front → ⊥
  never_counted base front is lacks = elim (cases_lt (length file) 4096) [
    | inl short ↦ (let none = no_count file front is short in let more = lacks.1 in omega (arith, none, more))
    | inr there ↦ (
        let said = front_count file front (b.pages 0) is there (as_based 0) in
        let more = lacks.1 in
        let over = lacks.2 in
        let long = is.long in
        let most = few in
        omega (arith, said, more, over, long, most))
  ]
