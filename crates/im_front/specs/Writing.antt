-- What it means that the work of a transaction was done.
use Rattle.std.specs.Prelude.{◌≡◌, ◌⊎◌, ℕ, Result, Ok, Err}
use Rattle.im_base_types.specs.Answers as answers
use Rattle.im_base_steps.specs.declared.step.Step.{Step}
use Rattle.im_base_steps.specs.declared.reply.Reply.{Reply}
use Rattle.im_base_steps.specs.declared.step.Step.TheVariants as steps
use Rattle.im_base_steps.specs.declared.reply.Reply.TheVariants as replies
use Rattle.im_base_steps.specs.Calls.{told_by}
use Rattle.im_theory_store_trait.specs.declared.store.Store.{Ghosts}
use Rattle.im_base_types.specs.declared.fault.Fault.{Fault}
use Rattle.im_front.specs.declared.stop.Stop.{Stop}
use Rattle.im_front.specs.declared.stop.Stop.TheVariants as stops
use Rattle.im_front.specs.Acknowledged.{IsStepOf, IsAcknowledged, IsGivenUp, IsSpent}

-- Why a step came to nothing: it was made, and refused so; or it was not made, since the store was broken or the trace full.
abbrev pub CameToNothing : {E : Type 0} → Ghosts E → Type 0 → Fault → Type 0
CameToNothing d Full fault = ((step : Step) × IsStepOf d.made step (replies.Refused fault)) ⊎ IsGivenUp d Full fault

-- Why work was not done: it was run, and stopped for this fault; or a step came to nothing.
abbrev pub IsUnwritten : {E F T : Type 0} → Ghosts E → (F → ℕ → Result T Stop → F → Type 0) → Fault → Type 0
IsUnwritten {E} {F} {T} d runs fault = ((f : F) × (t : ℕ) × (after : F) × runs f t (Err (stops.Refused fault)) after) ⊎ CameToNothing d (IsSpent d) fault

-- A Begin was made, and answered this number.
abbrev pub IsBegun : {E : Type 0} → (E → Step → Reply → E → Type 0) → ℕ → Type 0
IsBegun made t = IsStepOf made steps.Begin (replies.Started t)

-- A Rollback of the transaction was made, or a Continue of its rollback, and answered that nothing of what it did is left.
pub record IsTakenBack {E : Type 0} (made : E → Step → Reply → E → Type 0) (t : ℕ) : Type 0 where
  pub reply : Reply
  pub told : told_by reply ≡ answers.RolledBack
  pub step : IsStepOf made (steps.Rollback t) reply ⊎ IsStepOf made (steps.Continue t) reply

-- From f on, the work was run one or more times, each time after the Begin of a transaction whose number it was handed. The last run answered x, and then that transaction
-- was committed, and acknowledged; the transaction of each run before was rolled back whole.
pub data IsWritten {E F T : Type 0} (d : Ghosts E) (runs : F → ℕ → Result T Stop → F → Type 0) (x : T) : F → Type 0 where
  committed : (f : F) (t : ℕ) (after : F) → IsBegun d.made t → runs f t (Ok x) after → IsAcknowledged d t → IsWritten d runs x f
  made_again : (f : F) (t : ℕ) (told : Result T Stop) (after : F) → IsBegun d.made t → runs f t told after → IsTakenBack d.made t → IsWritten d runs x after → IsWritten d runs x f
