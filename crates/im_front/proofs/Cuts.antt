-- What answers a cut first.
use Rattle.std.proofs.Common.{◌≡◌, Bool, true, false, ℕ, List, Result, Err, refl, sym, ◌∙◌, arith}
use Rattle.std.specs.Prelude.{OnOk}
use Rattle.im_base_types.specs.Changes.{Effect}
use Rattle.im_base_types.specs.Lives.{Shown}
use Rattle.im_base_types.specs.declared.fault.Fault.{Fault}
use Rattle.im_base_types.specs.declared.fault.Fault.TheVariants.{Failed, Busy}
use Rattle.im_theory_machine.specs.View.{View}
use Rattle.im_theory_store_trait.specs.declared.store.Store.{Ghosts}
use Rattle.im_front.specs.Cuts.{ComesFirst}

module _ {E : Type 0} (d : Ghosts E) (engine : E) (failed : Bool) (says : (before : List Effect) (s : Shown) (v : View) → d.life before s v engine → failed ≡ v.failed) where
  pub told_failed : failed ≡ true → ComesFirst d engine (Err Failed)
  told_failed is = record {
    failed = λ before s v h broken. refl;
    busy = λ before s v h works some. absurd (let clash : true ≡ false = sym is ∙ says before s v h ∙ works in cc clash);
    idle = tt;
  }

  module _ (is : failed ≡ false) where
    never : {A : Type 0} (v : View) → failed ≡ v.failed → v.failed ≡ true → A
    never {A} v same broken = absurd (let clash : false ≡ true = sym is ∙ same ∙ broken in cc clash)

    pub told_busy : ComesFirst d engine (Err Busy)
    told_busy = record { failed = λ before s v h broken. never v (says before s v h) broken; busy = λ before s v h works some. refl; idle = tt }

    pub told_else : (active : ℕ) → ((before : List Effect) (s : Shown) (v : View) → d.life before s v engine → active ≡ v.active) → active ≡ 0 → (r : Result Unit Fault) → OnOk r (d.actives engine ≡ 0) → ComesFirst d engine r
    told_else active counts none r idle = record {
      failed = λ before s v h broken. never v (says before s v h) broken;
      busy = λ before s v h works some. absurd (omega (arith, counts before s v h, none, some));
      idle = idle;
    }
