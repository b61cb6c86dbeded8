-- What clauses on a result say of another.
use Rattle.std.proofs.Common.{◌≡◌, ◌≢◌, sym, ◌∙◌}
use Rattle.std.specs.Prelude.{Result, Ok, Err, IfErr, IfOk, OnErr, OnOk}
use Rattle.im_base_types.specs.declared.fault.Fault.{Fault}
use Rattle.im_base_types.specs.declared.fault.Fault.TheVariants.{Memory, NotAStore}

pub if_ok : {A E : Type 0} (r : Result A E) (P Q : A → Type 0) → IfOk r P → ((a : A) → P a → Q a) → IfOk r Q
if_ok (Ok a) P Q is to = to a is
if_ok (Err e) P Q is to = tt

pub if_err : {A E : Type 0} (r : Result A E) (P Q : E → Type 0) → IfErr r P → ((e : E) → P e → Q e) → IfErr r Q
if_err (Ok a) P Q is to = tt
if_err (Err e) P Q is to = to e is

-- want of memory is another cause
pub memory_not : (e : Fault) → e ≡ Memory → e ≢ NotAStore
memory_not e is same = let clash : Memory ≡ NotAStore = sym is ∙ same in cc clash

pub on_err : {A E : Type 0} (r : Result A E) (P : Type 0) → P → OnErr r P
on_err (Ok a) P is = tt
on_err (Err e) P is = is

-- what two clauses say of a call that succeeded
pub ok_both : {A E : Type 0} (r : Result A E) (P : A → Type 0) (Q : Type 0) (R : A → Type 0) → IfOk r P → OnOk r Q → ((a : A) → P a → Q → R a) → IfOk r R
ok_both (Ok a) P Q R one two to = to a one two
ok_both (Err e) P Q R one two to = tt

pub ok_one : {A E : Type 0} (r : Result A E) (P Q : Type 0) → OnOk r P → (P → Q) → OnOk r Q
ok_one (Ok a) P Q is to = to is
ok_one (Err e) P Q is to = tt

pub ok_and : {A E : Type 0} (r : Result A E) (P : A → Type 0) (Q : Type 0) → IfOk r P → OnOk r Q → IfOk r (λ a. P a × Q)
ok_and (Ok a) P Q one two = (one, two)
ok_and (Err e) P Q one two = tt
