-- What the end of a call says.
use Rattle.std.proofs.Common.{◌≡◌, ◌⊎◌, inl, inr, Bool, false, true, Some, refl, sym, ap, subst}
use Rattle.std.specs.Prelude.{◌↔◌, Result, Ok, Err, not, is_ok, IfErr, IsErrAnd}
use Rattle.im_base_types.specs.declared.fault.Fault.{Fault}
use Rattle.im_base_types.specs.declared.fault.Fault.TheVariants.{Device, Failed}
use Rattle.im_base_types.specs.Outcomes.{fault_of, CallEnds}

still_here : (b : Bool) → (b ≡ true → ⊥) → b ≡ false
still_here false never = refl
still_here true never = absurd (never refl)

not_had : (e : Fault) (before : Bool) → (e ≡ Failed) ↔ (before ≡ true) → (e ≡ Failed → ⊥) → before ≡ false
not_had e before already other = still_here before (λ had. other (already.1 had))

module _ (own : Fault → Type 0) (before now lost : Bool) where
  told_by : (e : Fault) → now ≡ true → (e ≡ Failed) ⊎ (e ≡ Device) ⊎ own e → (e ≡ Failed) ↔ (before ≡ true) → (before ≡ false → (e ≡ Device) ↔ (lost ≡ true)) → CallEnds own before now lost (Some e)
  told_by Failed fails cause already device = (already.0 refl, fails)
  told_by Device fails cause already device = let works = not_had Device before already (λ is. let never : ⊥ = cc is in never) in (works, fails, (device works).0 refl)
  told_by e fails (inl is) already device = absurd (cc is)
  told_by e fails (inr (inl is)) already device = absurd (cc is)
  told_by e fails (inr (inr is)) already device =
      let works = not_had e before already (λ same. let never : ⊥ = cc same in never) in (works, fails, still_here lost (λ gone. let same = (device works).1 gone in let never : ⊥ = cc same in never), is)

  -- the end of a call of which these are known
  pub end_told : {A : Type 0} (r : Result A Fault) → now ≡ not (is_ok r) → IfErr r (λ e. (e ≡ Failed) ⊎ (e ≡ Device) ⊎ own e) → (r ≡ Err Failed) ↔ (before ≡ true) → (before ≡ false → (r ≡ Err Device) ↔ (lost ≡ true)) → CallEnds own before now lost (fault_of r)
  end_told {A} (Ok a) fails cause already device =
      let works = still_here before (λ had. let same = already.1 had in let never : ⊥ = cc same in never) in
      (works, fails, still_here lost (λ gone. let same = (device works).1 gone in let never : ⊥ = cc same in never))
  end_told {A} (Err e) fails cause already device =
      told_by e fails cause ((λ is. already.0 (ap Err is)), (λ had. let same = already.1 had in cc same)) (λ works. ((λ is. (device works).0 (ap Err is)), (λ gone. let same = (device works).1 gone in cc same)))

  -- a refusal that is handed on, of a call within another
  end_as : (more : Fault → Type 0) (now_too : Bool) (e : Fault) → ((f : Fault) → own f → more f) → now_too ≡ true → CallEnds own before now lost (Some e) → CallEnds more before now_too lost (Some e)
  end_as more now_too Failed to fails is = (is.0, fails)
  end_as more now_too Device to fails is = (is.0, fails, is.2)
  end_as more now_too e to fails is = (is.0, fails, is.2, to e is.3)

  pub end_on : (more : Fault → Type 0) (now_too : Bool) {A : Type 0} (f : Fault) (r : Result A Fault) → IsErrAnd r (λ e. e ≡ f) → ((e : Fault) → own e → more e) → now_too ≡ true → CallEnds own before now lost (Some f) → CallEnds more before now_too lost (fault_of r)
  end_on more now_too {A} f (Ok a) is to fails one = absurd is
  end_on more now_too {A} f (Err e) is to fails one = subst (λ (x : Fault). CallEnds more before now_too lost (Some x)) (sym is) (end_as more now_too f to fails one)
