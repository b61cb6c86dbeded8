-- One step more, and stops within steps.
use Rattle.std.proofs.Common.{◌≡◌, inl, inr, ◌+◌, ◌<◌, ℕ, Bool, true, false, None, Some, List, [], ◌∷◌, ◌++◌, length, take, get_or, refl, sym, ap, subst, ◌∙◌, append-nil, arith}
use Rattle.std.specs.Prelude.{if◌then◌else◌}
use Rattle.std.proofs.lemmas.List.{take_more, length-take-le}
use Rattle.im_base_types.specs.Answers as answers
use Rattle.im_base_types.specs.Answers.{Mark, Idle, Going, MustRollBack, RollingBack, Returning, Committing}
use Rattle.im_base_types.specs.Changes.{Effect}
use Rattle.im_base_types.specs.Lives.{Asked, Shown, StandsForMore, asks, effect_asked, shows, shown_by}
use Rattle.im_theory_machine.specs.View.{View}
use Rattle.im_theory_machine.proofs.Callers.{Run-push}
use Rattle.im_theory_steps.proofs.Durable.{commits_stand}
use Rattle.im_base_steps.specs.Calls.{asked_by, told_by}
use Rattle.im_base_steps.specs.declared.step.Step.{Step}
use Rattle.im_base_steps.specs.declared.reply.Reply.{Reply}
use Rattle.im_base_disk.specs.declared.disk.Disk.{Ghosts}
use Rattle.im_base_disk.specs.Disk.{Files}
use Rattle.im_base_two_logs.specs.Runs.{LeavesNamed}
use Rattle.im_base_two_logs.proofs.Runs.{then_named}
use Rattle.im_engine.proofs.Named.{cut_nameless}
use Rattle.im_engine.proofs.NamedRuns.{named_weakened}
use Rattle.im_engine.specs.declared.engine.Engine.{Engine}
use Rattle.im_engine.specs.Stands.{StandsFor, Allowed}
use Rattle.im_engine.specs.Running.{IsLife}
use Rattle.im_engine.specs.Told.{IsStep}
use Rattle.im_engine.specs.Promise.{answered_by}
use Rattle.im_engine.specs.Turns.{LivesOn, AreSteps, IsCutOff}

module _ {D : Type 0} (d : Ghosts D) where
  behind : (steps : List Step) (replies : List Reply) (step : Step) (reply : Reply) (old mid new : Engine D d) → length replies ≡ length steps
      → AreSteps d steps replies old mid → IsStep d step reply mid new → AreSteps d (steps ++ step ∷ []) (replies ++ reply ∷ []) old new
  behind [] [] step reply old mid new e turns one = (new, subst (λ (x : Engine D d). IsStep d step reply x new) turns one, refl)
  behind [] (r ∷ replies) step reply old mid new e turns one = absurd turns
  behind (s ∷ steps) [] step reply old mid new e turns one = absurd turns
  behind (s ∷ steps) (r ∷ replies) step reply old mid new e turns one = (turns.0, turns.1, behind steps replies step reply turns.0 mid new (omega (arith, e)) turns.2 one)

  pub one_turn_more : (steps : List Step) (replies now : List Reply) (i : ℕ) (none : Step) (step : Step) (reply : Reply) (old mid new : Engine D d) → length replies ≡ i → i < length steps
      → now ≡ replies ++ reply ∷ [] → step ≡ get_or steps i none → AreSteps d (take i steps) replies old mid → IsStep d step reply mid new → AreSteps d (take (i + 1) steps) now old new
  one_turn_more steps replies now i none step reply old mid new len lt is at turns one =
      let long : length replies ≡ length (take i steps) = len ∙ sym (length-take-le i steps (omega (arith, lt))) in
      let here = behind (take i steps) replies step reply old mid new long turns one in
      let there = subst (λ (x : Step). AreSteps d (take i steps ++ x ∷ []) (replies ++ reply ∷ []) old new) at here in
      subst (λ (l : List Step). AreSteps d l now old new) (sym (take_more steps i none lt)) (subst (λ (l : List Reply). AreSteps d (take i steps ++ get_or steps i none ∷ []) l old new) (sym is) there)

-- ---- what is shown

shown_more : (s : Shown) (xs : List (answers.Step × answers.Reply)) (x : answers.Step × answers.Reply) → shown_by s (xs ++ x ∷ []) ≡ shows (shown_by s xs) x.0 (Some x.1)
shown_more s [] x = refl
shown_more s (y ∷ xs) x = shown_more (shows s y.0 (Some y.1)) xs x

answered_more : (steps : List Step) (replies : List Reply) (step : Step) (reply : Reply) → length replies ≡ length steps
    → answered_by (steps ++ step ∷ []) (replies ++ reply ∷ []) ≡ answered_by steps replies ++ (asked_by step, told_by reply) ∷ []
answered_more [] [] step reply e = refl
answered_more [] (r ∷ replies) step reply e = absurd (omega (arith, e))
answered_more (s ∷ steps) [] step reply e = absurd (omega (arith, e))
answered_more (s ∷ steps) (r ∷ replies) step reply e = ap (λ (l : List (answers.Step × answers.Reply)). (asked_by s, told_by r) ∷ l) (answered_more steps replies step reply (omega (arith, e)))

-- with one step more
trace_more : (steps : List Step) (replies now : List Reply) (i : ℕ) (none : Step) (step : Step) (reply : Reply) → length replies ≡ i → i < length steps → now ≡ replies ++ reply ∷ [] → step ≡ get_or steps i none
    → answered_by (take (i + 1) steps) now ≡ answered_by (take i steps) replies ++ (asked_by step, told_by reply) ∷ []
trace_more steps replies now i none step reply len lt is at =
    let long : length replies ≡ length (take i steps) = len ∙ sym (length-take-le i steps (omega (arith, lt))) in
    (λ j. answered_by (take_more steps i none lt j) (is j))
    ∙ ap (λ (x : Step). answered_by (take i steps ++ x ∷ []) (replies ++ reply ∷ [])) (sym at)
    ∙ answered_more (take i steps) replies step reply long

-- the life goes on by one step more
pub lives_more : {D : Type 0} (d : Ghosts D) (before : List Effect) (s : Shown) (v : View) (steps : List Step) (replies now : List Reply) (i : ℕ) (none : Step) (step : Step) (reply : Reply) (mid new : Engine D d) → length replies ≡ i → i < length steps
    → now ≡ replies ++ reply ∷ [] → step ≡ get_or steps i none → LivesOn d before s v (answered_by (take i steps) replies) mid → IsStep d step reply mid new → LivesOn d before s v (answered_by (take (i + 1) steps) now) new
lives_more d before s v steps replies now i none step reply mid new len lt is at on one =
    let front = answered_by (take i steps) replies in
    let kept = one.kept before (shown_by s front) on.next on.after in
    subst (λ (trace : List (answers.Step × answers.Reply)). LivesOn d before s v trace new) (sym (trace_more steps replies now i none step reply len lt is at))
    (record {
      next = kept.next;
      run = Run-push v on.next kept.next front (asked_by step) (told_by reply) on.run kept.moves;
      after = subst (λ (x : Shown). IsLife d before x kept.next new) (sym (shown_more s front (asked_by step, told_by reply))) kept.after;
    })

-- ---- stops within steps

-- what may be left before a step may be left within it
module _ (before : List Effect) (s : Shown) (c : Files) where
  asked_more : (t : ℕ) (m : Mark) (e : Effect) → Allowed before s c → StandsForMore StandsFor before (s.asked ++ effect_asked t false m e) c
  asked_more t Going (x ∷ e) h = (h.0, commits_stand.lost before h.0 s.asked (record { txn = t; effect = x ∷ e; acked = false } ∷ []) h.1 (refl, tt), h.2)
  asked_more t Going [] h = subst (λ (l : List Asked). StandsForMore StandsFor before l c) (sym (append-nil s.asked)) h
  asked_more t Idle e h = subst (λ (l : List Asked). StandsForMore StandsFor before l c) (sym (append-nil s.asked)) h
  asked_more t MustRollBack e h = subst (λ (l : List Asked). StandsForMore StandsFor before l c) (sym (append-nil s.asked)) h
  asked_more t RollingBack e h = subst (λ (l : List Asked). StandsForMore StandsFor before l c) (sym (append-nil s.asked)) h
  asked_more t (Returning n) e h = subst (λ (l : List Asked). StandsForMore StandsFor before l c) (sym (append-nil s.asked)) h
  asked_more t Committing e h = subst (λ (l : List Asked). StandsForMore StandsFor before l c) (sym (append-nil s.asked)) h

  commit_cut : (t : ℕ) (b : Bool) → Allowed before s c → Allowed before (if b then s else asks t false s) c
  commit_cut t true h = h
  commit_cut t false h = asked_more t (s.running t).mark (s.running t).effect h

  pub allowed_within : (step : answers.Step) → Allowed before s c → Allowed before (shows s step None) c
  allowed_within answers.Begin h = h
  allowed_within (answers.Do t a) h = h
  allowed_within (answers.Commit t) h = commit_cut t s.failed h
  allowed_within (answers.Rollback t) h = h
  allowed_within (answers.Continue t) h = h
  allowed_within (answers.RollTo t left) h = h
  allowed_within (answers.FlushPage p) h = h
  allowed_within answers.Force h = h
  allowed_within answers.Checkpoint h = h
  allowed_within answers.Switch h = h

-- with one step more: a stop before it, or within it
cut_longer : (before : List Effect) (steps : List Step) (replies : List Reply) (s : Shown) (step : Step) (reply : Reply) (c : Files) → length replies ≡ length steps → IsCutOff before s steps replies c
    → IsCutOff before s (steps ++ step ∷ []) (replies ++ reply ∷ []) c
cut_longer before [] [] s step reply c e h = inl (allowed_within before s c (asked_by step) h)
cut_longer before [] (r ∷ replies) s step reply c e h = absurd (omega (arith, e))
cut_longer before (x ∷ steps) [] s step reply c e h = absurd (omega (arith, e))
cut_longer before (x ∷ steps) (r ∷ replies) s step reply c e (inl here) = inl here
cut_longer before (x ∷ steps) (r ∷ replies) s step reply c e (inr later) = inr (cut_longer before steps replies (shows s (asked_by x) (Some (told_by r))) step reply c (omega (arith, e)) later)

cut_within : (before : List Effect) (steps : List Step) (replies : List Reply) (s : Shown) (step : Step) (reply : Reply) (c : Files) → length replies ≡ length steps
    → Allowed before (shows (shown_by s (answered_by steps replies)) (asked_by step) None) c → IsCutOff before s (steps ++ step ∷ []) (replies ++ reply ∷ []) c
cut_within before [] [] s step reply c e h = inl h
cut_within before [] (r ∷ replies) s step reply c e h = absurd (omega (arith, e))
cut_within before (x ∷ steps) [] s step reply c e h = absurd (omega (arith, e))
cut_within before (x ∷ steps) (r ∷ replies) s step reply c e h = inr (cut_within before steps replies (shows s (asked_by x) (Some (told_by r))) step reply c (omega (arith, e)) h)

-- steps in a row
pub cut_one_more : {D : Type 0} (d : Ghosts D) (before : List Effect) (s : Shown) (steps : List Step) (replies now : List Reply) (i : ℕ) (none : Step) (step : Step) (reply : Reply) (old mid new : D) → length replies ≡ i
    → i < length steps → now ≡ replies ++ reply ∷ [] → step ≡ get_or steps i none → LeavesNamed d old mid (IsCutOff before s (take i steps) replies)
    → LeavesNamed d mid new (Allowed before (shows (shown_by s (answered_by (take i steps) replies)) (asked_by step) None)) → LeavesNamed d old new (IsCutOff before s (take (i + 1) steps) now)
cut_one_more d before s steps replies now i none step reply old mid new len lt is at first second =
    let long : length replies ≡ length (take i steps) = len ∙ sym (length-take-le i steps (omega (arith, lt))) in
    let cut = IsCutOff before s (take i steps ++ step ∷ []) (replies ++ reply ∷ []) in
    let here = then_named d cut (cut_nameless before s (take i steps ++ step ∷ []) (replies ++ reply ∷ [])) old mid new
    (named_weakened d old mid (IsCutOff before s (take i steps) replies) cut first (λ told c h. cut_longer before (take i steps) replies s step reply c long h))
    (named_weakened d mid new (Allowed before (shows (shown_by s (answered_by (take i steps) replies)) (asked_by step) None)) cut second (λ told c h. cut_within before (take i steps) replies s step reply c long h)) in
    let there = subst (λ (x : Step). LeavesNamed d old new (IsCutOff before s (take i steps ++ x ∷ []) (replies ++ reply ∷ []))) at here in
    subst (λ (l : List Step). LeavesNamed d old new (IsCutOff before s l now)) (sym (take_more steps i none lt))
    (subst (λ (l : List Reply). LeavesNamed d old new (IsCutOff before s (take i steps ++ get_or steps i none ∷ []) l)) (sym is) there)
