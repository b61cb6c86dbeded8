-- What clauses on a result say of another.
use Rattle.std.proofs.Common.{◌≡◌, true, ap}
use Rattle.std.specs.Prelude.{Result, Ok, Err, IfErr}
use Rattle.im_base_types.specs.declared.fault.Fault.{Fault}
use Rattle.im_base_types.specs.declared.fault.Fault.TheVariants.{NotAStore}
use Rattle.im_page_writer.specs.Outcome.{no_page}

-- a call that is refused in no case that it is called in
pub never_err : {A E : Type 0} (r : Result A E) (P : E → Type 0) → IfErr r (λ e. ⊥) → IfErr r P
never_err (Ok a) P never = tt
never_err (Err e) P never = absurd never

-- after a refusal for bytes that are no store's the writer goes on
pub only_bytes : {A : Type 0} (r : Result A Fault) → IfErr r (λ e. e ≡ NotAStore) → IfErr r (λ e. no_page e ≡ true)
only_bytes (Ok a) is = tt
only_bytes (Err e) is = ap no_page is
