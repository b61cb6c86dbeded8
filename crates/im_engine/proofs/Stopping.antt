-- What a stop leaves that falls after some of the replies of a life.
use Rattle.std.proofs.Common.{◌≡◌, ◌≢◌, inl, inr, ℕ, zero, suc, ◌≤◌, Bool, true, false, List, [], ◌∷◌, length, take, None, Some, refl, sym, ap, subst, ◌∙◌, arith}
use Rattle.std.specs.Prelude.{◌||◌}
use Rattle.im_base_types.specs.Answers as answers
use Rattle.im_base_types.specs.Changes.{Effect}
use Rattle.im_base_types.specs.Lives.{Shown, shows}
use Rattle.im_theory_machine.specs.View.{View}
use Rattle.im_base_steps.specs.Calls.{asked_by, told_by}
use Rattle.im_base_steps.specs.declared.step.Step.{Step}
use Rattle.im_base_types.specs.declared.fault.Fault.TheVariants.{Device}
use Rattle.im_base_steps.specs.declared.reply.Reply.{Reply}
use Rattle.im_base_steps.specs.declared.reply.Reply.TheVariants.{Refused}
use Rattle.im_base_disk.specs.declared.disk.Disk.{Ghosts}
use Rattle.im_base_disk.specs.Disk.{Files}
use Rattle.im_base_disk.proofs.Runs.{started}
use Rattle.im_base_two_logs.specs.Runs.{LeavesNamed}
use Rattle.im_base_two_logs.proofs.Runs.{then_named, unnamed}
use Rattle.im_engine.specs.declared.engine.Engine.{Engine}
use Rattle.im_engine.specs.Stands.{Allowed}
use Rattle.im_engine.specs.Running.{IsLife}
use Rattle.im_engine.specs.Turns.{behind, AreSteps, IsCutOff, IsCutOffBehind, NoneIsLost}
use Rattle.im_engine.specs.Told.{IsTold, is_early}
use Rattle.im_engine.proofs.Named.{allowed_nameless, cut_nameless}
use Rattle.im_engine.proofs.NamedRuns.{named_weakened}

module _ {D : Type 0} (d : Ghosts D) where
  alive_behind : (step : answers.Step) (reply : Reply) (old new : Engine D d) → IsTold d step reply old new → d.failed old.disk ≡ false → reply ≢ Refused Device → d.failed new.disk ≡ false
  alive_behind step reply old new told alive not = by old.failed refl
    where
      of_disk : (b : Bool) → d.failed new.disk ≡ b → old.failed ≡ false → d.failed new.disk ≡ false
      of_disk true lost works = absurd (not (told.device works lost))
      of_disk false on works = on

      by : (b : Bool) → old.failed ≡ b → d.failed new.disk ≡ false
      by true was = ap (λ (e : Engine D d). d.failed e.disk) (told.same (ap (λ (b : Bool). b || is_early reply) was)) ∙ alive
      by false works = of_disk (d.failed new.disk) refl works

  -- the disk after the last step
  pub alive_at_end : (steps : List Step) (replies : List Reply) (old new : Engine D d) → AreSteps d steps replies old new → d.failed old.disk ≡ false → NoneIsLost replies → d.failed new.disk ≡ false
  alive_at_end [] [] old new turns alive none = ap (λ (e : Engine D d). d.failed e.disk) turns ∙ alive
  alive_at_end [] (r ∷ replies) old new turns alive none = absurd turns
  alive_at_end (step ∷ steps) [] old new turns alive none = absurd turns
  alive_at_end (step ∷ steps) (reply ∷ replies) old new turns alive none = alive_at_end steps replies turns.0 new turns.2 (alive_behind (asked_by step) reply old turns.0 turns.1.told alive none.0) none.1

module _ {D : Type 0} (d : Ghosts D) (only_now : (disk : D) (c : Files) → d.left_since disk (d.moment disk) c → d.may_leave disk c) (before : List Effect) where
  -- no call of the disk more
  here : (s : Shown) (v : View) (e : Engine D d) → IsLife d before s v e → LeavesNamed d e.disk e.disk (Allowed before s)
  here s v e life = unnamed d (Allowed before s) (allowed_nameless before s) e.disk e.disk (started d e.disk (Allowed before s) (λ told c left. life.stops c (only_now e.disk c left)))

  -- after the first n steps, and after the last of them all
  pub cut_behind : (steps : List Step) (replies : List Reply) (s : Shown) (v : View) (old new : Engine D d) (turns : AreSteps d steps replies old new) → IsLife d before s v old → (n : ℕ) → n ≤ length replies
      → LeavesNamed d (behind d n steps replies old new turns).disk new.disk (IsCutOffBehind n before s steps replies)
  cut_behind [] [] s v old new turns life zero le = subst (λ (e : Engine D d). LeavesNamed d old.disk e.disk (Allowed before s)) (sym turns) (here s v old life)
  cut_behind [] [] s v old new turns life (suc n) le = absurd (omega (arith, le))
  cut_behind [] (r ∷ replies) s v old new turns life n le = absurd turns
  cut_behind (step ∷ steps) [] s v old new turns life n le = absurd turns
  cut_behind (step ∷ steps) (reply ∷ replies) s v old new turns life zero le =
      let kept = turns.1.kept before s v life in
      let later = shows s (asked_by step) (Some (told_by reply)) in
      let all = IsCutOff before s (step ∷ steps) (reply ∷ replies) in
      then_named d all (cut_nameless before s (step ∷ steps) (reply ∷ replies)) old.disk turns.0.disk new.disk
      (named_weakened d old.disk turns.0.disk (Allowed before (shows s (asked_by step) None)) all kept.stops (λ told c h. inl h))
      (named_weakened d turns.0.disk new.disk (IsCutOff before later steps replies) all (cut_behind steps replies later kept.next turns.0 new turns.2 kept.after zero (omega arith)) (λ told c h. inr h))
  cut_behind (step ∷ steps) (reply ∷ replies) s v old new turns life (suc n) le =
      let kept = turns.1.kept before s v life in
      cut_behind steps replies (shows s (asked_by step) (Some (told_by reply))) kept.next turns.0 new turns.2 kept.after n (omega (arith, le))

  -- after the first n steps, and no later than the reply to the m-th
  pub cut_between : (steps : List Step) (replies : List Reply) (s : Shown) (v : View) (old new : Engine D d) (turns : AreSteps d steps replies old new) → IsLife d before s v old → (n m : ℕ) → n ≤ m → m ≤ length replies
      → LeavesNamed d (behind d n steps replies old new turns).disk (behind d m steps replies old new turns).disk (IsCutOffBehind n before s (take m steps) (take m replies))
  cut_between [] [] s v old new turns life zero zero le most = here s v old life
  cut_between [] [] s v old new turns life n (suc m) le most = absurd (omega (arith, most))
  cut_between [] [] s v old new turns life (suc n) zero le most = absurd (omega (arith, le))
  cut_between [] (r ∷ replies) s v old new turns life n m le most = absurd turns
  cut_between (step ∷ steps) [] s v old new turns life n m le most = absurd turns
  cut_between (step ∷ steps) (reply ∷ replies) s v old new turns life zero zero le most = here s v old life
  cut_between (step ∷ steps) (reply ∷ replies) s v old new turns life (suc n) zero le most = absurd (omega (arith, le))
  cut_between (step ∷ steps) (reply ∷ replies) s v old new turns life zero (suc m) le most =
      let kept = turns.1.kept before s v life in
      let later = shows s (asked_by step) (Some (told_by reply)) in
      let last = (behind d m steps replies turns.0 new turns.2).disk in
      let all = IsCutOff before s (step ∷ take m steps) (reply ∷ take m replies) in
      then_named d all (cut_nameless before s (step ∷ take m steps) (reply ∷ take m replies)) old.disk turns.0.disk last
      (named_weakened d old.disk turns.0.disk (Allowed before (shows s (asked_by step) None)) all kept.stops (λ told c h. inl h))
      (named_weakened d turns.0.disk last (IsCutOff before later (take m steps) (take m replies)) all (cut_between steps replies later kept.next turns.0 new turns.2 kept.after zero m (omega arith) (omega (arith, most)))
      (λ told c h. inr h))
  cut_between (step ∷ steps) (reply ∷ replies) s v old new turns life (suc n) (suc m) le most =
      let kept = turns.1.kept before s v life in
      cut_between steps replies (shows s (asked_by step) (Some (told_by reply))) kept.next turns.0 new turns.2 kept.after n m (omega (arith, le)) (omega (arith, most))

  -- after the last
  pub cut_at_end : (steps : List Step) (replies : List Reply) (s : Shown) (v : View) (old new : Engine D d) (turns : AreSteps d steps replies old new) → IsLife d before s v old → (c : Files) → d.may_leave new.disk c
      → IsCutOffBehind (length replies) before s steps replies c
  cut_at_end [] [] s v old new turns life c left = life.stops c (subst (λ (e : Engine D d). d.may_leave e.disk c) turns left)
  cut_at_end [] (r ∷ replies) s v old new turns life c left = absurd turns
  cut_at_end (step ∷ steps) [] s v old new turns life c left = absurd turns
  cut_at_end (step ∷ steps) (reply ∷ replies) s v old new turns life c left =
      let kept = turns.1.kept before s v life in
      cut_at_end steps replies (shows s (asked_by step) (Some (told_by reply))) kept.next turns.0 new turns.2 kept.after c left
