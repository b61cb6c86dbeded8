-- Why a step of a load came to nothing, from what the front says of it.
use Rattle.std.proofs.Common.{◌≡◌, inl, inr, true, false, sym, subst, Result, Ok, Err}
use Rattle.std.specs.Prelude.{IfErr, IfOk, OnOk}
use Rattle.im_base_types.specs.declared.fault.Fault.{Fault}
use Rattle.im_base_steps.specs.declared.step.Step.{Step}
use Rattle.im_base_steps.specs.declared.reply.Reply.{Reply}
use Rattle.im_base_steps.specs.declared.reply.Reply.TheVariants as replies
use Rattle.im_base_steps.specs.Calls.{asked_by, told_by}
use Rattle.im_base_steps.specs.Replies.{is_full, lacks_memory, Suits}
use Rattle.im_theory_store_trait.specs.declared.store.Store.{Ghosts}
use Rattle.im_front.specs.Acknowledged.{IsFullFor, IsStepOf}
use Rattle.im_front.proofs.Acknowledging.{refused_whole}
use Rattle.im_front_load.specs.Refusals.{IsStopped}

pub stopped : {E : Type 0} (d : Ghosts E) (step : Step) (reply : Reply) (fault : Fault) → reply ≡ replies.Refused fault
    → (is_full (told_by reply) ≡ false → lacks_memory (told_by reply) ≡ false → IsStepOf d.made step reply) → (is_full (told_by reply) ≡ true → IsFullFor d (asked_by step)) → IsStopped d fault
stopped d step reply fault is so spent = elim (refused_whole d.made (IsFullFor d (asked_by step)) step reply fault is so spent) [
  | inl one ↦ inl (inl (step, one))
  | inr more ↦ elim more [ inl full ↦ inl (inr (inr (full.0, (asked_by step, full.1)))) | inr lacks ↦ inr lacks ]
]

pub map_err : {A : Type 0} (r : Result A Fault) (P Q : Fault → Type 0) → ((e : Fault) → P e → Q e) → IfErr r P → IfErr r Q
map_err (Ok a) P Q f h = tt
map_err (Err e) P Q f h = f e h

pub for_ok : {A B : Type 0} (r : Result A B) (P : A → Type 0) → ((a : A) → P a) → IfOk r P
for_ok (Ok a) P f = f a
for_ok (Err e) P f = tt

-- an answer that is handed on suits its step
pub suits_on : (r : Result Reply Fault) (step : Step) (reply : Reply) → IfOk r (λ x. x ≡ reply) → OnOk r (is_full (told_by reply) ≡ false) → OnOk r (lacks_memory (told_by reply) ≡ false)
    → (is_full (told_by reply) ≡ false → lacks_memory (told_by reply) ≡ false → Suits (asked_by step) (told_by reply)) → IfOk r (λ x. Suits (asked_by step) (told_by x))
suits_on (Ok x) step reply same full memory so = subst (λ (y : Reply). Suits (asked_by step) (told_by y)) (sym same) (so full memory)
suits_on (Err e) step reply same full memory so = tt
