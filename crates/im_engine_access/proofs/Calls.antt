-- What the lock table decided of a row, as what is decided of an access.
use Rattle.std.proofs.Common.{◌≡◌, ℕ, List, sym, ◌∙◌, ap, subst}
use Rattle.im_base_types.specs.Answers.{Reply}
use Rattle.im_theory_machine.specs.Locks.{Request}
use Rattle.im_theory_machine.specs.Table.{Table, Decides}
use Rattle.im_theory_machine.specs.declared.verdict.Verdict.{Verdict}
use Rattle.im_engine_access.specs.declared.lock_answer.LockAnswer.{LockAnswer}
use Rattle.im_engine_access.specs.declared.lock_answer.LockAnswer.TheVariants.{Granted, Wait, Die}
use Rattle.im_engine_access.specs.LockAnswers.{verdict_of, IfGranted}

-- the verdict is the outcome's
pub decided_as : {X : Type 0} (old new : Table) (t : ℕ) (row asks : List Request) (verdict : Verdict) (outcome : LockAnswer X) → Decides old t row verdict new → row ≡ asks → verdict_of outcome ≡ verdict → Decides old t asks (verdict_of outcome) new
decided_as old new t row asks verdict outcome decides is same = subst (λ (v : Verdict). Decides old t asks v new) (sym same) (subst (λ (r : List Request). Decides old t r verdict new) is decides)

pub says_as : {X : Type 0} (reply : X → Reply) (outcome : LockAnswer X) (value : X) (r : Reply) → IfGranted outcome (λ x. x ≡ value) → reply value ≡ r → IfGranted outcome (λ x. reply x ≡ r)
says_as reply (Granted x) value r is says = ap reply is ∙ says
says_as reply (Wait holder) value r is says = tt
says_as reply Die value r is says = tt

pub granted_as : {X : Type 0} (P : X → Type 0) (outcome : LockAnswer X) (value : X) → IfGranted outcome (λ x. x ≡ value) → P value → IfGranted outcome P
granted_as P (Granted x) value is holds = subst P (sym is) holds
granted_as P (Wait holder) value is holds = tt
granted_as P Die value is holds = tt
