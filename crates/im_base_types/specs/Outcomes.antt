-- How a call may end of what fails once and for all: a gate, a log, a writer of pages. After a call that failed it refuses every later one.
use Rattle.std.specs.Prelude.{◌≡◌, Bool, false, true, Option, None, Some, Result, Ok, Err}
use Rattle.im_base_types.specs.declared.fault.Fault.{Fault}
use Rattle.im_base_types.specs.declared.fault.Fault.TheVariants.{Device, Failed}

-- why a call was refused, if it was
abbrev pub fault_of : {A : Type 0} → Result A Fault → Option Fault
fault_of (Ok a) = None
fault_of (Err e) = Some e

-- By its refusal: whether it had failed before the call, whether it has now, and whether the device has. A refusal of the call's own, which is neither
-- `Failed` nor `Device`, breaks it too; `own` says which these are, and what holds then.
abbrev pub CallEnds : (Fault → Type 0) → Bool → Bool → Bool → Option Fault → Type 0
CallEnds own before now lost None = (before ≡ false) × (now ≡ false) × (lost ≡ false)
CallEnds own before now lost (Some Failed) = (before ≡ true) × (now ≡ true)
CallEnds own before now lost (Some Device) = (before ≡ false) × (now ≡ true) × (lost ≡ true)
CallEnds own before now lost (Some e) = (before ≡ false) × (now ≡ true) × (lost ≡ false) × own e

-- of a call that has none
abbrev pub none_own : Fault → Type 0
none_own e = ⊥
