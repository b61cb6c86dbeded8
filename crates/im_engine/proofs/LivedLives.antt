-- Lives one after another.
use Rattle.std.proofs.Common.{inl, inr, ℕ, zero, suc, List, [], ◌∷◌, take, None, Some, Result, Ok, Err, IfOk, IfErr, refl, sym, subst}
use Rattle.im_base_types.specs.Changes.{Effect}
use Rattle.im_base_types.specs.Lives.{Asked, Shown, NoneAcked, StandsForMore, nothing_shown, shows, shown_by}
use Rattle.im_base_steps.specs.Calls.{asked_by, told_by}
use Rattle.im_base_steps.specs.declared.reply.Reply.{Reply}
use Rattle.im_base_steps.specs.declared.step.Step.{Step}
use Rattle.im_base_disk.specs.Disk.{Files}
use Rattle.im_engine.specs.Stands.{StandsFor, Allowed}
use Rattle.im_engine.specs.Promise.{Life, HadAsked, IsKept, IsRunOn, answered_by}
use Rattle.im_engine.specs.Turns.{IsCutOff, IsCutOffBehind}
use Rattle.im_engine.specs.Lived.{TakesFiles, AreLives, AreKept}
use Rattle.im_engine.proofs.Acknowledging.{StayAcked, all_stay, stay_then, answered_stays, stopped_stays, kept_of}
use Rattle.im_engine.proofs.TurnLemmas.{allowed_within}

-- what a stop left stands for what was asked up to it, in which is what was acknowledged
record IsLeftBy (n : ℕ) (before : List Effect) (s : Shown) (steps : List Step) (replies : List Reply) (c : Files) : Type 0 where
  asked : List Asked
  by : HadAsked n s steps replies asked
  holds : StayAcked (shown_by s (take n (answered_by steps replies))).asked asked
  stands : StandsForMore StandsFor before asked c

left_by : (n : ℕ) (before : List Effect) (s : Shown) (steps : List Step) (replies : List Reply) (c : Files) → IsCutOffBehind n before s steps replies c → IsLeftBy n before s steps replies c
left_by zero before s [] replies c is = record { asked = s.asked; by = refl; holds = all_stay s.asked; stands = is }
left_by zero before s (step ∷ steps) [] c is = record { asked = s.asked; by = refl; holds = all_stay s.asked; stands = is }
left_by zero before s (step ∷ steps) (reply ∷ replies) c (inl here) = record { asked = (shows s (asked_by step) None).asked; by = inl refl; holds = stopped_stays (asked_by step) s; stands = here }
left_by zero before s (step ∷ steps) (reply ∷ replies) c (inr later) =
    let more = shows s (asked_by step) (Some (told_by reply)) in
    let l = left_by zero before more steps replies c later in
    record { asked = l.asked; by = inr l.by; holds = stay_then s.asked more.asked l.asked (answered_stays (asked_by step) (told_by reply) s) l.holds; stands = l.stands }
left_by (suc n) before s [] replies c is = record { asked = s.asked; by = refl; holds = all_stay s.asked; stands = is }
left_by (suc n) before s (step ∷ steps) [] c is = record { asked = s.asked; by = refl; holds = all_stay s.asked; stands = is }
left_by (suc n) before s (step ∷ steps) (reply ∷ replies) c is =
    let l = left_by n before (shows s (asked_by step) (Some (told_by reply))) steps replies c is in
    record { asked = l.asked; by = l.by; holds = l.holds; stands = l.stands }

-- a stop before the first step
pub left_before : (before : List Effect) (s : Shown) (steps : List Step) (replies : List Reply) (c : Files) → Allowed before s c → IsCutOff before s steps replies c
left_before before s [] replies c h = h
left_before before s (step ∷ steps) [] c h = h
left_before before s (step ∷ steps) (reply ∷ replies) c h = inl (allowed_within before s c (asked_by step) h)

-- a fact of a result that follows from another
pub listed : {A E : Type 0} (r : Result A E) (P Q : A → Type 0) → IfOk r P → ((x : A) → P x → Q x) → IfOk r Q
listed (Ok x) P Q h then = then x h
listed (Err e) P Q h then = tt

-- a fact of a refusal that follows from two of every refusal
pub on_err : {A E : Type 0} (r : Result A E) (P : Type 0) (Q R : E → Type 0) → IfErr r (λ e. Q e × P) → (P → (e : E) → Q e → R e) → IfErr r R
on_err (Ok x) P Q R h then = tt
on_err (Err e) P Q R h then = then h.1 e h.0

-- what a life keeps that was cut off so; none that was acknowledged is lost
pub kept_by : (life : Life Files) (before : List Effect) → IsCutOffBehind life.answered before nothing_shown life.steps life.replies life.left
    → (after : List Effect) × (kept : IsKept before life after) × NoneAcked kept.lost × StandsFor after life.left
kept_by life before is =
    let one = left_by life.answered before nothing_shown life.steps life.replies life.left is in
    let survives = one.stands.1 in (
      one.stands.0,
      record {
        asked = one.asked;
        by = one.by;
        kept = survives.kept;
        lost = survives.lost;
        front = survives.all;
        is = survives.is;
        acknowledged = λ a told acked. kept_of survives.kept survives.lost one.asked survives.all survives.no_ack_lost a (one.holds a told acked) acked;
      },
      survives.no_ack_lost,
      one.stands.2,
    )

-- files that a life took to others stand for what it kept
pub takes_on : (old : Files) (life : Life Files) → TakesFiles life.steps life.replies life.answered old life.left → (before : List Effect) → StandsFor before old → (after : List Effect) × IsKept before life after × StandsFor after life.left
takes_on old life takes before stands = let kept = kept_by life before (takes before stands) in (kept.0, kept.1, kept.3)

-- it is a life of those that the promise speaks of
pub runs_on : (old : Files) (steps : List Step) (replies : List Reply) (n : ℕ) (c : Files) → TakesFiles steps replies n old c → IsRunOn StandsFor old (record { steps = steps; replies = replies; answered = n; shown = None; left = c })
runs_on old steps replies n c takes = record {
  takes = takes_on old (record { steps = steps; replies = replies; answered = n; shown = None; left = c }) takes;
  shows = tt;
}

pub lives_in_turn : (old new : Files) (lives : List (Life Files)) (before : List Effect) → StandsFor before old → AreLives old lives new → (after : List Effect) × AreKept before lives after × StandsFor after new
lives_in_turn old new [] before stands is = (before, refl, subst (λ (c : Files). StandsFor before c) (sym is) stands)
lives_in_turn old new (life ∷ lives) before stands are =
    let one = kept_by life before (are.0 before stands) in
    let rest = lives_in_turn life.left new lives one.0 one.3 are.1 in
    (rest.0, (one.0, one.1, one.2, one.3, rest.1), rest.2)
