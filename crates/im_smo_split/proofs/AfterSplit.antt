-- What a step of the split answers and keeps.
use Rattle.std.proofs.Common.{◌≡◌, ℕ, zero, suc, ◌+◌, ◌≤◌, Bool, List, ◌∷◌, false, sym, ap, subst, ◌∙◌, arith}
use Rattle.std.specs.Prelude.{Result, Ok, Err, IfOk}
use Rattle.im_base_types.specs.declared.fault.Fault.{Fault}
use Rattle.im_base_types.specs.declared.fault.Fault.TheVariants.{NotAStore}
use Rattle.im_base_types.specs.Keys.{Key}
use Rattle.im_base_types.specs.Pages.{Page}
use Rattle.im_base_types.specs.declared.page_kind.PageKind.TheVariants.{Inner}
use Rattle.im_theory_page.specs.Entry.{taken}
use Rattle.im_theory_page.specs.Child.{IsChild}
use Rattle.im_theory_page.specs.Content.{IsContent}
use Rattle.im_theory_page.specs.Page.{is_leaf_kind}
use Rattle.im_page_writer.specs.Outcome.{AllPages, IsSound}
use Rattle.im_page_writer.proofs.Cited.{sound_own, refused_not}
use Rattle.im_theory_tree.specs.Levels.{Pages}
use Rattle.im_theory_tree.specs.Halves.{FitsPage}
use Rattle.im_tree_search.specs.Levels.{HasLevel}
use Rattle.im_smo_pages.specs.Images.{Numbered, Has, IsRising, held, without_image}
use Rattle.im_smo_pages.specs.Parts.{CanHalve, CanSplit}
use Rattle.im_smo_pages.specs.Seen.{seen, page_in}
use Rattle.im_smo_split.specs.Pages.{newest_first}
use Rattle.im_smo_split.specs.Steps.{LeavesPending, HalvesInner, HalvesRoot}
use Rattle.im_smo_split.specs.PendingSplits.{IsPending, IsRootPending}
use Rattle.im_smo_split.specs.declared.pending_split.PendingSplit.{PendingSplit}
use Rattle.im_smo_split.proofs.Placing.{leaf_at}
use Rattle.im_smo_split.proofs.TakenOut.{beneath}
use Rattle.im_smo_split.proofs.Stepping.{GoesOnTo, pending_level, parent_stays, can_split, pending_on, root_relisted, root_level, can_halve, root_pending_on}

-- what two clauses say of an answer
pub both_ok : {A E : Type 0} (r : Result A E) (P Q R : A → Type 0) → IfOk r P → IfOk r Q → ((a : A) → P a → Q a → R a) → IfOk r R
both_ok (Ok a) P Q R one two to = to a one two
both_ok (Err e) P Q R one two to = tt

-- the entries of an inner page are those of a page
pub fits_inner : (level : ℕ) (page : Page) → 1 ≤ level → HasLevel level page.body → IsContent page → FitsPage false page.body.entries
fits_inner zero page some is content = absurd (omega (arith, some))
fits_inner (suc k) page some is content = record {
  short = content.short;
  fits = subst (λ (leaf : Bool). taken leaf page.body.entries ≤ 4064) (ap is_leaf_kind is.kind ∙ leaf_at (suc k)) content.fits;
}

module _ (s : AllPages) (key : Key) (images new : List Numbered) (numbers : List ℕ) where
  -- a step on the images
  pub pending_kept : (dense : Bool) (r : Result PendingSplit Fault) → IfOk r (λ pending. GoesOnTo dense (seen s images) (seen s new) new (newest_first numbers) key pending.level pending.parent pending.page) → (r ≡ Err NotAStore → ⊥)
      → IsSound r (λ pending. LeavesPending dense s key images pending new numbers)
  pending_kept dense r is never = sound_own r _ _ is (refused_not r never) (λ pending goes. record { pending_is = goes.0; parent = goes.2; same = goes.1; ways = goes.3 })

  module _ (up : IsRising images) (out : List Numbered) (page : Page) (r : Result PendingSplit Fault) where
    inner_at : {dense : Bool} (k parent p q : ℕ) → IsPending dense (seen s images) (q ∷ newest_first numbers) key (suc k) parent p → Has images parent → page ≡ page_in s images p → out ≡ without_image p images
        → IfOk r (λ next. HalvesInner out new page.body key parent p q next.parent next.page) → IfOk r (λ next. next.level + 1 ≡ suc k)
        → ((pages : Pages) → Has out parent → HasLevel (suc k) page.body
        → ((c : ℕ) → FitsPage false page.body.entries → IsChild page.body key c → CanSplit false Inner page.body (held pages out parent) q) → r ≡ Err NotAStore → ⊥)
        → IsSound r (λ pending. LeavesPending dense s key images pending new numbers)
    inner_at {dense} k parent p q pending has is less halves below sound =
        let spare = newest_first numbers in
        pending_kept dense r
        (both_ok r _ _ _ halves below (λ next half level.
        let same : next.level ≡ k = omega (arith, level) in
        subst (λ (h : ℕ). GoesOnTo dense (seen s images) (seen s new) new spare key h next.parent next.page) (sym same)
        (pending_on s images up spare key k parent p q pending page is new next.parent next.page (subst (λ (o : List Numbered). HalvesInner o new page.body key parent p q next.parent next.page) less half))))
        (sound (beneath s images p page up is) (subst (λ (o : List Numbered). Has o parent) (sym less) (parent_stays s images up spare key k parent p q pending page is has))
        (pending_level s images up spare key k parent p q pending page is)
        (subst (λ (o : List Numbered). (c : ℕ) → FitsPage false page.body.entries → IsChild page.body key c → CanSplit false Inner page.body (held (beneath s images p page up is) o parent) q) (sym less)
        (can_split s images up spare key k parent p q pending page is)))

    -- an inner page was split
    pub inner_kept : {dense : Bool} (level parent p q : ℕ) → 1 ≤ level → IsPending dense (seen s images) (q ∷ newest_first numbers) key level parent p → Has images parent → page ≡ page_in s images p → out ≡ without_image p images
        → IfOk r (λ next. HalvesInner out new page.body key parent p q next.parent next.page) → IfOk r (λ next. next.level + 1 ≡ level)
        → ((pages : Pages) → Has out parent → HasLevel level page.body
        → ((c : ℕ) → FitsPage false page.body.entries → IsChild page.body key c → CanSplit false Inner page.body (held pages out parent) q) → r ≡ Err NotAStore → ⊥)
        → IsSound r (λ pending. LeavesPending dense s key images pending new numbers)
    inner_kept zero parent p q some = absurd (omega (arith, some))
    inner_kept (suc k) parent p q some = inner_at k parent p q

    root_at : {dense : Bool} (k left right : ℕ) → IsRootPending dense (seen s images) (right ∷ left ∷ newest_first numbers) key (suc k) → page ≡ page_in s images 1 → out ≡ without_image 1 images
        → IfOk r (λ next. HalvesRoot out new page.body key left right next.parent next.page) → IfOk r (λ next. next.level + 1 ≡ suc k)
        → (HasLevel (suc k) page.body → ((c : ℕ) → FitsPage false page.body.entries → IsChild page.body key c → CanHalve false Inner page.body) → r ≡ Err NotAStore → ⊥)
        → IsSound r (λ pending. LeavesPending dense s key images pending new numbers)
    root_at {dense} k left right was is less halves below sound =
        let spare = newest_first numbers in
        let pending = root_relisted (seen s images) spare key (suc k) left right was in
        pending_kept dense r
        (both_ok r _ _ _ halves below (λ next half level.
        let same : next.level ≡ k = omega (arith, level) in
        subst (λ (h : ℕ). GoesOnTo dense (seen s images) (seen s new) new spare key h next.parent next.page) (sym same)
        (root_pending_on s images up spare key k left right pending page is new next.parent next.page (subst (λ (o : List Numbered). HalvesRoot o new page.body key left right next.parent next.page) less half))))
        (sound (root_level s images up spare key k left right pending page is) (can_halve s images up spare key k left right pending page is))

    -- the root was split
    pub root_kept : {dense : Bool} (level left right : ℕ) → 1 ≤ level → IsRootPending dense (seen s images) (right ∷ left ∷ newest_first numbers) key level → page ≡ page_in s images 1 → out ≡ without_image 1 images
        → IfOk r (λ next. HalvesRoot out new page.body key left right next.parent next.page) → IfOk r (λ next. next.level + 1 ≡ level)
        → (HasLevel level page.body → ((c : ℕ) → FitsPage false page.body.entries → IsChild page.body key c → CanHalve false Inner page.body) → r ≡ Err NotAStore → ⊥)
        → IsSound r (λ pending. LeavesPending dense s key images pending new numbers)
    root_kept zero left right some = absurd (omega (arith, some))
    root_kept (suc k) left right some = root_at k left right
