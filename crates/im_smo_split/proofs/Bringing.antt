-- A page that joins the images.
use Rattle.std.proofs.Common.{◌≡◌, ℕ, List, ap, subst, ◌∙◌, arith}
use Rattle.std.specs.Prelude.{Result, IfErr, OnOk}
use Rattle.im_base_types.specs.declared.fault.Fault.{Fault}
use Rattle.im_base_types.specs.declared.fault.Fault.TheVariants.{Memory}
use Rattle.im_base_types.specs.Pages.{Page}
use Rattle.im_page_writer.specs.Outcome.{AllPages, IsSound}
use Rattle.im_page_writer.proofs.Outcomes.{sound_done}
use Rattle.im_theory_tree.specs.Levels.{Pages}
use Rattle.im_smo_pages.specs.Images.{Numbered, Has, IsRising, put_image, without_image}
use Rattle.im_smo_pages.specs.Seen.{seen, page_in}
use Rattle.im_smo_pages.proofs.Results.{if_err, memory_not}
use Rattle.im_smo_split.specs.Steps.{Brought}
use Rattle.im_smo_split.specs.Ends.{BroughtBoth}
use Rattle.im_smo_split.proofs.TakenOut.{back_same, back_has, back_keeps}

module _ (s : AllPages) (images : List Numbered) (number : ℕ) where
  -- it was got, and is put among them
  pub brought : (new : List Numbered) → IsRising images → (page : Page) → page ≡ page_in s images number → (out : List Numbered) → out ≡ without_image number images → (r : Result Unit Fault)
      → OnOk r (new ≡ put_image number page out) → IfErr r (λ e. e ≡ Memory) → IsSound r (λ _. Brought s images number new)
  brought new up page is out less r put refused =
      sound_done r (new ≡ put_image number page out) (Brought s images number new) put (if_err r _ _ refused memory_not)
      (λ to.
      let back : new ≡ put_image number page (without_image number images) = to ∙ ap (put_image number page) less in
      record { there = back_has s images number page up is new back; kept = back_keeps s images number page up is new back; same = back_same s images number page up is new back })

  module _ (mid : List Numbered) (one : Brought s images number mid) where
    next_was : (next : ℕ) → next ≡ (seen s mid number).next → next ≡ (seen s images number).next
    next_was next is = is ∙ ap (λ (pages : Pages). (pages number).next) one.same

    -- no leaf is after it
    pub both_here : (next : ℕ) → next ≡ (seen s mid number).next → next ≡ 0 → BroughtBoth s images number mid
    both_here next is none = record { one = one; next = λ some. absurd (omega (arith, some, next_was next is, none)) }

    -- the leaf after it joins too
    pub both_then : (next : ℕ) → next ≡ (seen s mid number).next → (new : List Numbered) → Brought s mid next new → BroughtBoth s images number new
    both_then next is new more = record {
      one = record { there = more.kept number one.there; kept = λ n has. more.kept n (one.kept n has); same = more.same ∙ one.same };
      next = λ some. subst (λ (n : ℕ). Has new n) (next_was next is) more.there;
    }
