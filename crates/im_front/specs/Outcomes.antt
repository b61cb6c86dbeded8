-- What is known behind the lock of a call whose end may be a force.
use Rattle.std.specs.Prelude.{ℕ}
use Rattle.im_base_types.specs.declared.fault.Fault.{Fault}
use Rattle.im_front.specs.declared.outcome.Outcome.{Outcome}
use Rattle.im_front.specs.declared.outcome.Outcome.TheVariants.{Done, Waits, Refused}

-- P holds where the call has ended, W where it waits for more forces than so many; and Q says why it is refused.
abbrev pub ComesTo : (P : Type 0) (W : ℕ → Type 0) (Q : Fault → Type 0) → Outcome → Type 0
ComesTo P W Q Done = P
ComesTo P W Q (Waits n) = W n
ComesTo P W Q (Refused fault) = Q fault

-- P holds where it is not refused
abbrev pub UnlessRefused : Outcome → (P : Type 0) → Type 0
UnlessRefused Done P = P
UnlessRefused (Waits n) P = P
UnlessRefused (Refused fault) P = Unit
