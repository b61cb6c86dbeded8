-- What is told of a structure change beside which others go on.
use Rattle.std.proofs.Common.{◌≡◌, ◌≢◌, ◌≤◌, ◌<◌, ℕ, zero, suc, Bool, true, false, List, [], ◌∷◌, length, take, inl, inr, refl, sym, ◌∙◌, ap, subst, arith, ◌==◌}
use Rattle.std.specs.Prelude.{◌||◌}
use Rattle.std.specs.List.{list_any}
use Rattle.std.proofs.Math.Path.{fun_ext}
use Rattle.std.proofs.lemmas.Bool.{cases_Bool, eq-eqb}
use Rattle.im_base_types.specs.Pages.{Body}
use Rattle.im_theory_log.specs.Histories.{Base, History, page_at}
use Rattle.im_theory_log.specs.Lawful.{IsNotIn}
use Rattle.im_theory_log.specs.LogLaws.{bodies}
use Rattle.im_theory_log.specs.Structure.{open_smo, settled, taken_back}
use Rattle.im_theory_log.proofs.Fronts.{has_tree}
use Rattle.im_base_disk.specs.declared.disk.Disk.{Ghosts}
use Rattle.im_page_writer.specs.Outcome.{pages_of}
use Rattle.im_page_writer.proofs.Outcomes.{pages_here}
use Rattle.im_theory_tree.specs.Theory.{page_tree}
use Rattle.im_tree_search.specs.declared.change_beside.Beside.{Beside}
use Rattle.im_tree_search.specs.Sights.{is_done}
use Rattle.im_smo_pages.specs.Images.{Numbered, image_at}
use Rattle.im_smo_drop_leaf.proofs.PlanWays.{deletion_plans_keep_ways}
use Rattle.im_smo_log.specs.ChangePages.{numbers_of}
use Rattle.im_smo_log.specs.Under as under
use Rattle.im_smo_log.specs.Under.{AreLogged}
use Rattle.im_smo_log.proofs.DoneNumbers.{first_are_done}
use Rattle.im_smo_log.proofs.Going.{outside, pages_agree}
use Rattle.im_smo_actions.specs.GoingBeside.{ChangesAreTold, DeletionsStand, NoneIsTold, PlansHaveTrees, SplitsStand}
use Rattle.im_smo_actions.proofs.Standing.{stands_bodies, stands_ready}

-- ---- no change

take_nothing : (n : ℕ) → take {A = ℕ} n [] ≡ []
take_nothing zero = refl
take_nothing (suc n) = refl

take_none : (n : ℕ) (ps : List ℕ) → ps ≡ [] → take n ps ≡ []
take_none n ps none = ap (take n) none ∙ take_nothing n

-- beside no change no page is made
pub none_made : (beside : Beside) (p : ℕ) → beside.pages.now ≡ [] → is_done beside p ≡ false
none_made beside p none = ap (λ (ps : List ℕ). list_any (λ (q : ℕ). q == p) ps) (take_none beside.done beside.pages.now none)

-- where none is open, the settled pages are the pages as they are
pub settled_is : (b : Base) (log : History) → open_smo log ≡ [] → settled b log ≡ bodies b log
settled_is b log closed = fun_ext (λ (p : ℕ). ap (λ (l : History). taken_back l p (page_at b log p).body) closed)

pub none_is_told : NoneIsTold
none_is_told b beside log none closed = record {
  agrees = λ p not. ap (λ (pages : ℕ → Body). pages p) (sym (settled_is b log closed));
  count = λ is. absurd (let clash : true ≡ false = sym is ∙ none_made beside 0 none in let never : ⊥ = cc clash in never);
  apart = λ p not. subst (λ (l : History). IsNotIn p l) (sym closed) tt;
  none = λ same. closed;
}

-- ---- a change under way

-- a page that is not among the numbers is none of the images
planned_other : (images : List Numbered) (p k : ℕ) → k < length images → list_any (λ (q : ℕ). q == p) (numbers_of images) ≡ false → (image_at images k).0 ≢ p
planned_other [] p k within not = absurd (omega (arith, within))
planned_other (x ∷ xs) p zero within not = λ same. (let clash : true ≡ false = sym (ap (λ (t : Bool). t || list_any (λ (q : ℕ). q == p) (numbers_of xs)) (eq-eqb x.0 p same)) ∙ not in cc clash)
planned_other (x ∷ xs) p (suc k) within not = planned_other xs p k (omega (arith, within)) (elim (cases_Bool (x.0 == p)) [
  | inl is ↦ (let clash : true ≡ false = sym (ap (λ (t : Bool). t || list_any (λ (q : ℕ). q == p) (numbers_of xs)) is) ∙ not in absurd (cc clash))
  | inr other ↦ sym (ap (λ (t : Bool). t || list_any (λ (q : ℕ). q == p) (numbers_of xs)) other) ∙ not
])

no_numbers : (images : List Numbered) → numbers_of images ≡ [] → length images ≡ 0
no_numbers [] none = refl
no_numbers (x ∷ xs) none = absurd (cc none)

none_logged : (t : ℕ) (images : List Numbered) (l i : ℕ) (going : History) → i ≡ 0 → AreLogged t images l i going → going ≡ []
none_logged t images l zero [] none is = refl
none_logged t images l zero (s ∷ rest) none is = absurd is
none_logged t images l (suc i) going none is = absurd (omega (arith, none))

pub changes_are_told : ChangesAreTold
changes_are_told b t undo_next images done prev beside log way numbers made count =
    let same : (p : ℕ) → is_done beside p ≡ under.is_done images done p =
    λ p. ap (λ (ps : List ℕ). list_any (λ (q : ℕ). q == p) (take beside.done ps)) numbers
    ∙ ap (λ (n : ℕ). list_any (λ (q : ℕ). q == p) (take n (numbers_of images))) made ∙ first_are_done images done p in
    record {
      agrees = λ p not. pages_agree b t undo_next images done prev log p way (sym (same p) ∙ not);
      count = λ is. count;
      apart = λ p not. outside t images _ done (open_smo log) p
          (λ k less. planned_other images p k (let within = way.within in omega (arith, less, within)) (ap (λ (ps : List ℕ). list_any (λ (q : ℕ). q == p) ps) (sym numbers) ∙ not)) way.logged;
      none = λ none.
          let within : done ≤ length images = way.within in
          let long : length images ≡ 0 = no_numbers images (sym numbers ∙ none) in
          none_logged t images _ done (open_smo log) (omega (arith, within, long)) way.logged;
    }

-- ---- plans

pub plans_have_trees : {D : Type 0} (d : Ghosts D) → PlansHaveTrees d
plans_have_trees {D} d b base s e beside w disk stands over law told = record {
  tree = record {
    now = pages_of s;
    has = pages_here d b base s w disk stands (stands_ready d b base s e w disk stands over);
    agrees = λ p not. ap (λ (x : Body). record (s.pages p).page { body = x }) (ap (λ (pages : ℕ → Body). pages p) (stands_bodies d b base s e w disk stands over) ∙ told.agrees p not);
    count = told.count;
    spare = [];
    good = (has_tree b page_tree s.log law).good;
  };
  good = (has_tree b page_tree s.log law).good;
}

-- ---- where a change begins

pub splits_stand : SplitsStand
splits_stand dense pages key max images leaf plan = record { good = plan.good; same = plan.same; ways = plan.ways }

pub deletions_stand : DeletionsStand
deletions_stand pages p images good plan = record { good = plan.good; same = plan.same; ways = deletion_plans_keep_ways pages p images good plan }
