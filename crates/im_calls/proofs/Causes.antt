-- Why something is refused: a store that is opened with one worker, an entry of a load.
use Rattle.std.proofs.Common.{inl, inr, ap, arith}
use Rattle.std.specs.Prelude.{◌≡◌, ◌⊎◌, ◌↔◌, ◌<◌, Result, Ok, Err}
use Rattle.im_base_types.specs.declared.fault.Fault.{Fault}
use Rattle.im_base_types.specs.declared.fault.Fault.TheVariants.{Capacity, Device, LogFull, Memory, NotAStore, PoolSize, Workers}

one_is_right : (1 < 1) ⊎ (16 < 1) → ⊥
one_is_right (inl few) = omega (arith, few)
one_is_right (inr many) = omega (arith, many)

-- the workers are right
pub but_workers : {A : Type 0} (fault : Fault) → (fault ≡ Workers → A × ((1 < 1) ⊎ (16 < 1)))
    → (fault ≡ PoolSize) ⊎ (fault ≡ Workers) ⊎ (fault ≡ Memory) ⊎ (fault ≡ Device) ⊎ (fault ≡ NotAStore) ⊎ (fault ≡ LogFull) ⊎ (fault ≡ Capacity)
    → (fault ≡ PoolSize) ⊎ (fault ≡ Memory) ⊎ (fault ≡ Device) ⊎ (fault ≡ NotAStore) ⊎ (fault ≡ LogFull) ⊎ (fault ≡ Capacity)
but_workers fault not (inl is) = inl is
but_workers fault not (inr (inl is)) = absurd (one_is_right (not is).1)
but_workers fault not (inr (inr is)) = inr is

-- a refusal
abbrev pub refusal : (A : Type 0) → Fault → Result A Fault
refusal A fault = Err fault

abbrev cause_of : {A : Type 0} → Result A Fault → Fault
cause_of (Ok _) = Device
cause_of (Err fault) = fault

-- what is said of a refusal is said of its cause
pub refused_as : (A : Type 0) {P : Type 0} (f g : Fault) → (refusal A f ≡ refusal A g) ↔ P → (f ≡ g) ↔ P
refused_as A f g is = (λ e. is.0 (ap (refusal A) e), λ p. ap cause_of (is.1 p))
