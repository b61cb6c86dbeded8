-- Plans of structure changes: the pages that one changes, with what each holds before and after.
use Rattle.std.specs.Prelude.{◌≡◌, ℕ, ◌<◌, List, [], ◌∷◌, map, if◌then◌else◌, ◌==◌}
use Rattle.im_base_types.specs.Pages.{Body}
use Rattle.im_theory_tree.specs.Levels.{Pages}
use Rattle.im_theory_tree.specs.Good.{AllOf}

pub record Image : Type 0 where
  pub page : ℕ
  pub before : Body
  pub after : Body

abbrev pub Plan : Type 0
Plan = List Image

-- the pages that a plan changes
abbrev pub planned : Plan → List ℕ
planned plan = map (λ i. i.page) plan

-- pages with each page of the plan as it is after
abbrev pub applied : Pages → Plan → Pages
applied pages [] q = pages q
applied pages (i ∷ plan) q = if i.page == q then i.after else applied pages plan q

-- pages with each page of the plan taken back to what it was before
abbrev pub restored : Pages → Plan → Pages
restored pages [] q = pages q
restored pages (i ∷ plan) q = if i.page == q then i.before else restored pages plan q

-- the plan knows what its pages hold
abbrev pub KnowsPages : Pages → Plan → Type 0
KnowsPages pages plan = AllOf (λ (i : Image). pages i.page ≡ i.before) plan

-- page numbers strictly rise
abbrev pub PagesAscend : Plan → Type 0
PagesAscend [] = Unit {0}
PagesAscend (i ∷ plan) = AllOf (λ (j : Image). i.page < j.page) plan × PagesAscend plan
