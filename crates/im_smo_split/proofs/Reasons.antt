-- How a call ends whose parts are refused for different causes.
use Rattle.std.proofs.Common.{◌≡◌, ℕ, Bool, true, false, Option, Some, refl, ap}
use Rattle.std.specs.Prelude.{Result, Ok, Err, IfErr}
use Rattle.im_base_types.specs.declared.fault.Fault.{Fault}
use Rattle.im_base_types.specs.declared.fault.Fault.TheVariants.{Capacity, Memory, NotAStore, PagesFull}
use Rattle.im_base_disk.specs.declared.disk.Disk.{Ghosts}
use Rattle.im_page_writer.specs.declared.page_writer.PageWriter.{PageWriter}
use Rattle.im_page_writer.specs.Outcome.{fault_of, mild, AreLoaded, Outcome, no_page}
use Rattle.im_page_writer.proofs.Outcomes.{never_refused}
use Rattle.im_smo_pages.specs.Kept.{mild_to_take}
use Rattle.im_smo_split.specs.Kept.{mild_to_grow, mild_to_split}

pub only_bytes : {A : Type 0} (r : Result A Fault) → IfErr r (λ e. e ≡ NotAStore) → IfErr r (λ e. no_page e ≡ true)
only_bytes (Ok a) is = tt
only_bytes (Err e) is = ap no_page is

-- a call that is refused in no case that it is called in
pub never_err : {A E : Type 0} (r : Result A E) (P : E → Type 0) → IfErr r (λ e. ⊥) → IfErr r P
never_err (Ok a) P never = tt
never_err (Err e) P never = absurd never

-- ---- causes

pub mild_splits : (max : Option ℕ) (e : Fault) → mild e ≡ true → mild_to_split max e ≡ true
mild_splits max Memory is = refl
mild_splits max NotAStore is = refl
mild_splits max e is = absurd (cc is)

pub grow_splits : (max : Option ℕ) (e : Fault) → mild_to_grow max e ≡ true → mild_to_split max e ≡ true
grow_splits max NotAStore is = refl
grow_splits max PagesFull is = is
grow_splits max e is = absurd (cc is)

pub take_splits : (max : Option ℕ) (e : Fault) → mild_to_take e ≡ true → mild_to_split max e ≡ true
take_splits max Memory is = refl
take_splits max NotAStore is = refl
take_splits max Capacity is = refl
take_splits max e is = absurd (cc is)

-- ---- refusals that a call does not have

module _ {D : Type 0} (d : Ghosts D) {m : Fault → Bool} {v : PageWriter} {old : D} {w : PageWriter} {new : D} where
  pub never_capacity : {e : Fault} → m Capacity ≡ false → Outcome d AreLoaded m v old w new (Some e) → e ≡ Capacity → ⊥
  never_capacity {e} not one =
      never_refused d Capacity not (λ is. let never : ⊥ = cc is in never) (λ is. let never : ⊥ = cc is in never) (λ is. let never : ⊥ = cc is in never) {A = Unit} (Err e) ⊥ refl one

  pub never_pages_full : {e : Fault} → m PagesFull ≡ false → Outcome d AreLoaded m v old w new (Some e) → e ≡ PagesFull → ⊥
  never_pages_full {e} not one =
      never_refused d PagesFull not (λ is. let never : ⊥ = cc is in never) (λ is. let never : ⊥ = cc is in never) (λ is. let never : ⊥ = cc is in never) {A = Unit} (Err e) ⊥ refl one

  pub never_any_full : {A : Type 0} → m PagesFull ≡ false → (r : Result A Fault) → Outcome d AreLoaded m v old w new (fault_of r) → IfErr r (λ e. e ≡ PagesFull → ⊥)
  never_any_full {A} not (Ok a) one = tt
  never_any_full {A} not (Err e) one = never_pages_full not one
