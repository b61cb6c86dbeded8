-- Logs that grow by structure changes and by Images.
use Rattle.std.proofs.Common.{◌≡◌, ◌≢◌, ℕ, [], ◌∷◌, ◌++◌, inl, inr, refl, sym, ap, subst, ◌∙◌, append_assoc}
use Rattle.im_base_types.specs.Records.{What, Logged}
use Rattle.im_theory_log.specs.Histories.{Base, History}
use Rattle.im_theory_log.specs.Copies.{AreImages, GrowsByImages}
use Rattle.im_theory_tree.specs.Good.{AllOf}
use Rattle.im_smo_log.specs.Changes.{IsOfChange, GrowsByChange, HasRecordOf, marks, with_mark}

-- Images are records of a structure change too, and none of its pages
pub of_images : (b : Base) (t : ℕ) (older : History) (images : History) → AreImages b images older → AllOf (λ (r : Logged). IsOfChange t r r.what) images × (marks images ≡ [])
of_images b t older [] all = (tt, refl)
of_images b t older (r ∷ images) all =
    let rest = of_images b t older images all.1 in
    ((subst (λ (w : What). IsOfChange t r w) (sym all.0.what) all.0.no_owner, rest.0), ap (λ (w : What). with_mark r w (marks images)) all.0.what ∙ rest.1)

abbrev pub images_as_change : (b : Base) (t : ℕ) (older longer : History) → GrowsByImages b older longer → GrowsByChange t older longer
images_as_change b t older longer g = record { more = g.images; is = g.is; all = (of_images b t older g.images g.all).0 }

-- one such growth after another
pub all_behind : (t : ℕ) (more before : History) → AllOf (λ (r : Logged). IsOfChange t r r.what) more → AllOf (λ (r : Logged). IsOfChange t r r.what) before → AllOf (λ (r : Logged). IsOfChange t r r.what) (more ++ before)
all_behind t [] before all rest = rest
all_behind t (r ∷ more) before all rest = (all.0, all_behind t more before all.1 rest)

abbrev pub change_then : (t : ℕ) (older mid newer : History) → GrowsByChange t older mid → GrowsByChange t mid newer → GrowsByChange t older newer
change_then t older mid newer first second = record {
  more = second.more ++ first.more;
  is = second.is ∙ ap (λ (h : History). second.more ++ h) first.is ∙ sym (append_assoc second.more first.more older);
  all = all_behind t second.more first.more second.all first.all;
}

abbrev pub change_none : (t : ℕ) (log : History) → GrowsByChange t log log
change_none t log = record { more = []; is = refl; all = tt }

-- ---- records of a transaction in two lists

pub record_front : (t : ℕ) (one two : History) → HasRecordOf t one → HasRecordOf t (one ++ two)
record_front t [] two is = absurd is
record_front t (r ∷ one) two (inl is) = inl is
record_front t (r ∷ one) two (inr is) = inr (record_front t one two is)

pub record_back : (t : ℕ) (one two : History) → HasRecordOf t two → HasRecordOf t (one ++ two)
record_back t [] two is = is
record_back t (r ∷ one) two is = inr (record_back t one two is)

-- an Image is of no transaction
pub no_images_of : (b : Base) (t : ℕ) (images older : History) → t ≢ 0 → AreImages b images older → HasRecordOf t images → ⊥
no_images_of b t [] older some all is = is
no_images_of b t (r ∷ images) older some all (inl is) = some (sym is ∙ all.0.no_owner)
no_images_of b t (r ∷ images) older some all (inr is) = no_images_of b t images older some all.1 is
