-- What is known of a call's refusals, by how it ended.
use Rattle.std.proofs.Common.{◌≡◌, inl, inr, Bool, false, true, sym, ◌∙◌, ap, subst}
use Rattle.std.specs.Prelude.{Result, Ok, Err, IsErrAnd}
use Rattle.im_base_types.specs.declared.fault.Fault.{Fault}
use Rattle.im_base_types.specs.declared.fault.Fault.TheVariants.{Device, Failed}
use Rattle.im_base_disk.specs.Ends.{AnswersOr, Refusals}

not_both : (b : Bool) → b ≡ false → b ≡ true → ⊥
not_both b is_false is_true = let clash : false ≡ true = sym is_false ∙ is_true in cc clash

module _ (own : Fault → Type 0) (before lost : Bool) where
  -- it was not refused
  pub answered : {A : Type 0} (a : A) → lost ≡ false → AnswersOr own lost (Ok a)
  answered {A} a here = record { causes = tt; device = ((λ same. absurd (let never : ⊥ = cc same in never)), (λ gone. absurd (not_both lost here gone))) }

  pub unrefused : {A : Type 0} (a : A) → before ≡ false → lost ≡ false → Refusals own before lost (Ok a)
  unrefused {A} a works here = record {
    causes = tt;
    already = ((λ same. absurd (let never : ⊥ = cc same in never)), (λ had. absurd (not_both before works had)));
    device = λ _. ((λ same. absurd (let never : ⊥ = cc same in never)), (λ gone. absurd (not_both lost here gone)));
  }

  -- a refusal of the call's own
  pub own_answered : {A : Type 0} (f : Fault) (r : Result A Fault) → IsErrAnd r (λ e. e ≡ f) → own f → (f ≡ Device → ⊥) → lost ≡ false → AnswersOr own lost r
  own_answered {A} f (Ok a) is so other here = absurd is
  own_answered {A} f (Err e) is so other here = record {
    causes = inl (subst own (sym is) so);
    device = ((λ same. let it : e ≡ Device = cc same in absurd (other (sym is ∙ it))), (λ gone. absurd (not_both lost here gone)));
  }

  -- the disk failed, and the refusal is handed on
  pub device_answered : {A : Type 0} (f : Fault) (r : Result A Fault) → IsErrAnd r (λ e. e ≡ f) → f ≡ Device → lost ≡ true → AnswersOr own lost r
  device_answered {A} f (Ok a) is is_device gone = absurd is
  device_answered {A} f (Err e) is is_device gone = record { causes = inr (is ∙ is_device); device = ((λ _. gone), (λ _. ap Err (is ∙ is_device))) }

  pub device_refused : {A : Type 0} (f : Fault) (r : Result A Fault) → IsErrAnd r (λ e. e ≡ f) → f ≡ Device → before ≡ false → lost ≡ true → Refusals own before lost r
  device_refused {A} f (Ok a) is is_device works gone = absurd is
  device_refused {A} f (Err e) is is_device works gone = record {
    causes = inr (inr (is ∙ is_device));
    already = (
      (λ same. let it : e ≡ Failed = cc same in absurd (let clash : Device ≡ Failed = sym is_device ∙ sym is ∙ it in cc clash)),
      (λ had. absurd (not_both before works had)),
    );
    device = λ _. ((λ _. gone), (λ _. ap Err (is ∙ is_device)));
  }

-- it is not that of an earlier failure
pub not_failed : {A : Type 0} (f : Fault) (r : Result A Fault) → IsErrAnd r (λ e. e ≡ f) → f ≡ Device → r ≡ Err Failed → ⊥
not_failed {A} f (Ok a) is is_device same = absurd is
not_failed {A} f (Err e) is is_device same = let it : e ≡ Failed = cc same in let clash : Device ≡ Failed = sym is_device ∙ sym is ∙ it in cc clash
