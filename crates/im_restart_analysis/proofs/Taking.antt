-- What taking a record answers, by whether it opens a structure change beside another's.
use Rattle.std.proofs.Common.{◌≡◌, ℕ, Bool, true, false, Result, Ok, Err, refl, sym, ◌∙◌}
use Rattle.std.specs.Prelude.{◌∷◌, ◌↔◌, IsTrue, IsErr, IfErr}
use Rattle.im_base_types.specs.declared.fault.Fault.{Fault}
use Rattle.im_base_types.specs.declared.fault.Fault.TheVariants.{Memory, NotAStore}
use Rattle.im_base_types.specs.Records.{Logged}
use Rattle.im_theory_log.specs.Histories.{History}
use Rattle.im_restart_analysis.specs.declared.analysis.Analysis.{Analysis}
use Rattle.im_restart_analysis.specs.OpenChange.{OpensAnother}
use Rattle.im_restart_analysis.specs.Orderly.{FitKept, Knows, LeadsDown, NamesCounted}
use Rattle.im_restart_analysis.specs.Analysis.{IsAnalysed, TakeKept}

module _ (low n : ℕ) (older : History) (r : Logged) (opens : Bool) (tells : IsTrue opens ↔ OpensAnother r older) (new : Analysis) where
  not_open : opens ≡ false → OpensAnother r older → ⊥
  not_open shut another = let clash : true ≡ false = sym (tells.1 another) ∙ shut in cc clash

  pub refused : opens ≡ true → TakeKept low n older r new (Err NotAStore)
  refused wide = record { ok = tt; refused = (λ _. tells.0 wide, λ _. refl) }

  pub failed : (result : Result Unit Fault) → opens ≡ false → IsErr result → IfErr result (λ e. e ≡ Memory) → TakeKept low n older r new result
  failed (Ok u) shut err memory = absurd (cc err)
  failed (Err e) shut err memory = record {
    ok = tt;
    refused = ((λ is. (let same : e ≡ NotAStore = cc is in let clash : Memory ≡ NotAStore = sym memory ∙ same in absurd (cc clash))), λ another. absurd (not_open shut another));
  }

  pub taken : opens ≡ false → IsAnalysed low n (r ∷ older) new → TakeKept low n older r new (Ok tt)
  taken shut is = record { ok = is; refused = ((λ e. absurd (cc e)), λ another. absurd (not_open shut another)) }

-- on any records

module _ (n : ℕ) (older : History) (r : Logged) (new : Analysis) where
  pub unfit_up : (down : Bool) → IsTrue down ↔ LeadsDown r → down ≡ false → FitKept n older r new (Err NotAStore)
  unfit_up down tells up = record { ok = tt; refused = λ e fits. (let clash : true ≡ false = sym (tells.1 fits.leads) ∙ up in cc clash) }

  pub unfit_past : (counted : Bool) → IsTrue counted ↔ NamesCounted n r older → counted ≡ false → FitKept n older r new (Err NotAStore)
  unfit_past counted tells past = record { ok = tt; refused = λ e fits. (let clash : true ≡ false = sym (tells.1 fits.counted) ∙ past in cc clash) }

  pub unfit_beside : (opens : Bool) → IsTrue opens ↔ OpensAnother r older → opens ≡ true → FitKept n older r new (Err NotAStore)
  unfit_beside opens tells wide = record { ok = tt; refused = λ e fits. fits.alone (tells.0 wide) }

  pub fit_failed : (result : Result Unit Fault) → IsErr result → IfErr result (λ e. e ≡ Memory) → FitKept n older r new result
  fit_failed (Ok u) err memory = absurd (cc err)
  fit_failed (Err e) err memory = record { ok = tt; refused = λ is fits. (let same : e ≡ NotAStore = cc is in let clash : Memory ≡ NotAStore = sym memory ∙ same in cc clash) }

  pub fit_taken : (down counted opens : Bool) → IsTrue down ↔ LeadsDown r → IsTrue counted ↔ NamesCounted n r older → IsTrue opens ↔ OpensAnother r older → down ≡ true → counted ≡ true → opens ≡ false → Knows n (r ∷ older) new
      → FitKept n older r new (Ok tt)
  fit_taken down counted opens leads names tells falls within shut is = record {
    ok = (record { leads = leads.0 falls; counted = names.0 within; alone = λ another. (let clash : true ≡ false = sym (tells.1 another) ∙ shut in cc clash) }, is);
    refused = λ e. absurd (cc e);
  }
