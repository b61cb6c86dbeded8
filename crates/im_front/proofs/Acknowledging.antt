-- What a caller of a front learns behind its lock.
use Rattle.std.proofs.Common.{◌≡◌, ◌≤◌, ◌^◌, ◌⊎◌, inl, inr, ℕ, List, length, true, false, Result, Ok, Err, IfOk, refl, sym, subst}
use Rattle.std.specs.Prelude.{IfErr}
use Rattle.std.proofs.lemmas.Bool.{cases_Bool}
use Rattle.im_base_types.specs.Answers as answers
use Rattle.im_base_types.specs.declared.fault.Fault.{Fault}
use Rattle.im_base_types.specs.declared.fault.Fault.TheVariants.{Memory, TraceFull}
use Rattle.im_base_steps.specs.declared.step.Step.{Step}
use Rattle.im_base_steps.specs.declared.reply.Reply.{Reply}
use Rattle.im_base_steps.specs.declared.step.Step.TheVariants as steps
use Rattle.im_base_steps.specs.declared.reply.Reply.TheVariants as replies
use Rattle.im_base_steps.specs.Calls.{told_by, may_end}
use Rattle.im_base_steps.specs.Replies.{is_full, lacks_memory}
use Rattle.im_theory_store_trait.specs.declared.store.Store.{Ghosts}
use Rattle.im_front.specs.Made.{WereMade}
use Rattle.im_front.specs.Held.{State, waits_in, forces_in}
use Rattle.im_front.specs.Locked.{LockedState, seen_of, StandsFrom}
use Rattle.im_front.specs.Acknowledged.{point_of, IsAcknowledged, IsForced, IsFullFor, IsWaiting, IsHeld, WasIn, IsSpent, IsNotAcknowledged, IsNotForced, IsStepOf}
use Rattle.im_front.specs.Acknowledged.IsAcknowledged.{by_force}
use Rattle.im_front.specs.Writing.{CameToNothing}
use Rattle.im_front.proofs.Steps.{run_of}

-- what always holds behind a lock, of what lies there
pub held_of : {E : Type 0} (d : Ghosts E) (steps : List (Step × Reply)) (engine : E) (waiting forces : ℕ) → WereMade d steps engine → (d.tells → StandsFrom d.life steps engine) → forces ≡ forces_in (seen_of steps)
    → waiting ≡ waits_in 0 (seen_of steps) → waiting ≡ d.waiting engine → IsHeld d (record { engine = engine; steps = steps; waiting = waiting; forces = forces })
held_of d steps engine waiting forces made stands counted waits same = record {
  made = made;
  run = λ tells. let h = stands tells in (h.0, run_of d.life h.0 (seen_of steps) engine h.1);
  counted = counted;
  waits = (waits, same);
}

pub both_ok : (r : Result Unit Fault) (P Q R : Type 0) → IfOk r (λ x. P) → IfOk r (λ x. Q) → (P → Q → R) → IfOk r (λ x. R)
both_ok (Ok x) P Q R one two f = f one two
both_ok (Err e) P Q R one two f = tt

-- a Commit that waits is acknowledged once more forces came
pub once_forced : {E : Type 0} (d : Ghosts E) (t n : ℕ) → IsWaiting d t n → IsForced d n → IsAcknowledged d t
once_forced d t n waits forced = by_force waits.point waits.last (subst (λ (m : ℕ). IsForced d m) waits.so_many forced)

-- ---- refusals

full_is : (fault : Fault) → is_full (told_by (replies.Refused fault)) ≡ true → fault ≡ TraceFull
full_is TraceFull is = refl
full_is fault is = absurd (let clash : false ≡ true = is in cc clash)

memory_is : (fault : Fault) → lacks_memory (told_by (replies.Refused fault)) ≡ true → fault ≡ Memory
memory_is Memory is = refl
memory_is fault is = absurd (let clash : false ≡ true = is in cc clash)

-- a refusal is that of the step, or the trace was full for it
pub refused_plain : {E : Type 0} (made : E → Step → Reply → E → Type 0) (Full : Type 0) (step : Step) (reply : Reply) (fault : Fault) → reply ≡ replies.Refused fault → (is_full (told_by reply) ≡ false → IsStepOf made step reply)
    → (is_full (told_by reply) ≡ true → Full) → IsStepOf made step (replies.Refused fault) ⊎ ((fault ≡ TraceFull) × Full)
refused_plain made Full step reply fault is so spent = elim (cases_Bool (is_full (told_by reply))) [
  | inl full ↦ inr (full_is fault (subst (λ (r : Reply). is_full (told_by r) ≡ true) is full), spent full)
  | inr room ↦ inl (subst (λ (r : Reply). IsStepOf made step r) is (so room))
]

-- or there was no memory for it
pub refused_whole : {E : Type 0} (made : E → Step → Reply → E → Type 0) (Full : Type 0) (step : Step) (reply : Reply) (fault : Fault) → reply ≡ replies.Refused fault
    → (is_full (told_by reply) ≡ false → lacks_memory (told_by reply) ≡ false → IsStepOf made step reply) → (is_full (told_by reply) ≡ true → Full)
    → IsStepOf made step (replies.Refused fault) ⊎ ((fault ≡ TraceFull) × Full) ⊎ (fault ≡ Memory)
refused_whole made Full step reply fault is so spent = elim (cases_Bool (lacks_memory (told_by reply))) [
  | inl lacks ↦ inr (inr (memory_is fault (subst (λ (r : Reply). lacks_memory (told_by r) ≡ true) is lacks)))
  | inr has ↦ (elim (refused_plain made Full step reply fault is (λ room. so room has) spent) [ inl one ↦ inl one | inr full ↦ inr (inl full) ])
]

module _ {E : Type 0} (d : Ghosts E) where
  -- what a refusal for a full trace shows of what was behind the lock
  pub spent : (was now : LockedState E) → now ≡ was → IsHeld d (point_of now) → 2 ^ 62 ≤ length was.trace → IsSpent d
  spent was now same held all = record { point = point_of now; held = held; all = subst (λ (s : LockedState E). 2 ^ 62 ≤ length s.trace) (sym same) all }

  pub full_for : (step : answers.Step) (was now : State E) → now ≡ was → WasIn d now → (65536 ≤ length was.trace) × (may_end was.waiting step ≡ false) → IsFullFor d step
  full_for step was now same there full = record {
    state = now;
    was = there;
    most = subst (λ (s : State E). 65536 ≤ length s.trace) (sym same) full.0;
    ends_none = subst (λ (s : State E). may_end s.waiting step ≡ false) (sym same) full.1;
  }

module _ {E : Type 0} (d : Ghosts E) (Full : Type 0) where
  pub not_forced : (fault : Fault) → IsStepOf d.made steps.Force (replies.Refused fault) ⊎ ((fault ≡ TraceFull) × Full) → IsNotForced d Full fault
  not_forced fault (inl one) = inl one
  not_forced fault (inr full) = inr (inr full)

  pub not_forced_whole : (fault : Fault) → IsStepOf d.made steps.Force (replies.Refused fault) ⊎ ((fault ≡ TraceFull) × Full) ⊎ (fault ≡ Memory) → IsNotForced d Full fault ⊎ (fault ≡ Memory)
  not_forced_whole fault (inl one) = inl (inl one)
  not_forced_whole fault (inr (inl full)) = inl (inr (inr full))
  not_forced_whole fault (inr (inr lacks)) = inr lacks

  -- of a step of any kind
  pub unmade : (step : Step) (reply : Reply) (fault : Fault) → reply ≡ replies.Refused fault → (is_full (told_by reply) ≡ false → IsStepOf d.made step reply) → (is_full (told_by reply) ≡ true → Full) → CameToNothing d Full fault
  unmade step reply fault is so spent = elim (refused_plain d.made Full step reply fault is so spent) [ inl one ↦ inl (step, one) | inr full ↦ inr (inr full) ]

  pub unmade_commit : (t : ℕ) (fault : Fault) → IsNotAcknowledged d Full t fault → CameToNothing d Full fault
  unmade_commit t fault (inl one) = inl (steps.Commit t, one)
  unmade_commit t fault (inr (inl force)) = inl (steps.Force, force)
  unmade_commit t fault (inr (inr other)) = inr other

  pub not_acknowledged : (t : ℕ) (fault : Fault) → IsStepOf d.made (steps.Commit t) (replies.Refused fault) ⊎ ((fault ≡ TraceFull) × Full) → IsNotAcknowledged d Full t fault
  not_acknowledged t fault (inl one) = inl one
  not_acknowledged t fault (inr full) = inr (inr (inr full))

  -- the trace is never full for a Commit
  pub not_acknowledged_whole : (t : ℕ) (fault : Fault) → IsStepOf d.made (steps.Commit t) (replies.Refused fault) ⊎ ((fault ≡ TraceFull) × ⊥) ⊎ (fault ≡ Memory) → IsNotAcknowledged d Full t fault ⊎ (fault ≡ Memory)
  not_acknowledged_whole t fault (inl one) = inl (inl one)
  not_acknowledged_whole t fault (inr (inl full)) = absurd full.1
  not_acknowledged_whole t fault (inr (inr lacks)) = inr lacks

pub map_err : (r : Result Unit Fault) (P Q : Fault → Type 0) → ((e : Fault) → P e → Q e) → IfErr r P → IfErr r Q
map_err (Ok x) P Q f h = tt
map_err (Err e) P Q f h = f e h
