-- A trace that only proofs read.
use Rattle.std.proofs.Common.{◌≡◌, ℕ, ◌+◌, List, [], ◌∷◌, ◌++◌, length, length-append, refl, ap, sym, ◌∙◌, arith}
use Rattle.std.proofs.lemmas.List.{append_assoc, append-nil}
use Rattle.im_base_types.specs.Answers as answers
use Rattle.im_base_types.specs.Changes.{Effect}
use Rattle.im_base_types.specs.Lives.{Shown, Survives, nothing_shown}
use Rattle.im_theory_machine.specs.View.{View}
use Rattle.im_base_steps.specs.declared.step.Step.{Step}
use Rattle.im_base_steps.specs.declared.reply.Reply.{Reply}
use Rattle.im_base_steps.specs.Calls.{asked_by, told_by}
use Rattle.im_front.specs.Events.{shown_in}
use Rattle.im_theory_store_trait.specs.Store.{IsAlive}
use Rattle.im_front_stats.specs.Counts.{nothing, started, committed_count, rolled_back}
use Rattle.im_base_steps.specs.Replies.{waits_after}
use Rattle.im_front.specs.Held.{WereKept, after_reply, after_trace, force_of, forces_in, waits_in}
use Rattle.im_front.specs.Locked.{seen_of, StandsFrom, IsKeptFrom}
use Rattle.im_front.proofs.Steps.{run_of}

pub seen_of-push : (l : List (Step × Reply)) (step : Step) (reply : Reply) → seen_of (l ++ (step, reply) ∷ []) ≡ seen_of l ++ (asked_by step, told_by reply) ∷ []
seen_of-push [] step reply = refl
seen_of-push (x ∷ xs) step reply = ap (λ r. (asked_by x.0, told_by x.1) ∷ r) (seen_of-push xs step reply)

pub length-seen_of : (l : List (Step × Reply)) → length (seen_of l) ≡ length l
length-seen_of [] = refl
length-seen_of (x ∷ xs) = let e : length (seen_of xs) ≡ length xs = length-seen_of xs in omega arith

-- the engine is a view of the machine, where it tells
pub alive_from : {E : Type 0} (life : List Effect → Shown → View → E → Type 0) (tells : Type 0) (trace : List (Step × Reply)) (engine : E) → (tells → StandsFrom life trace engine) → IsAlive life tells engine
alive_from life tells trace engine stands t = let h = (stands t).1 in (h.before, shown_in nothing_shown h.events, h.view, h.life_is)

pub forces_push : (l : List (answers.Step × answers.Reply)) (step : answers.Step) (reply : answers.Reply) → forces_in (l ++ (step, reply) ∷ []) ≡ forces_in l + force_of step reply
forces_push [] step reply = omega arith
forces_push (x ∷ xs) step reply = let e : forces_in (xs ++ (step, reply) ∷ []) ≡ forces_in xs + force_of step reply = forces_push xs step reply in omega arith

waits_in-append : (n : ℕ) (older trace : List (answers.Step × answers.Reply)) → waits_in n (older ++ trace) ≡ waits_in (waits_in n older) trace
waits_in-append n [] trace = refl
waits_in-append n (x ∷ xs) trace = waits_in-append (waits_after n x.0 x.1) xs trace

after_trace-append : (n : ℕ) (counts : List ℕ) (older trace : List (answers.Step × answers.Reply)) → after_trace n counts (older ++ trace) ≡ after_trace (waits_in n older) (after_trace n counts older) trace
after_trace-append n counts [] trace = refl
after_trace-append n counts (x ∷ xs) trace = after_trace-append (waits_after n x.0 x.1) (after_reply n counts x.0 x.1) xs trace

-- one step more is at the end of both
pub kept_push : (all trace : List (answers.Step × answers.Reply)) (cut : ℕ) (kept : List ℕ) (e : answers.Step × answers.Reply) → WereKept all cut kept trace → WereKept (all ++ e ∷ []) cut kept (trace ++ e ∷ [])
kept_push all trace cut kept e h = record {
  ends = (h.ends.0, ap (λ (l : List (answers.Step × answers.Reply)). l ++ e ∷ []) h.ends.1 ∙ append_assoc h.ends.0 trace (e ∷ []), h.ends.2);
  counts = h.counts;
  nobody = h.nobody;
  idle = h.idle;
}

-- the trace is cut, as long as it was: nothing of it is left, and all of it is older
pub kept_cut : (all trace : List (answers.Step × answers.Reply)) (cut : ℕ) (kept counts : List ℕ) → WereKept all cut kept trace → counts ≡ after_trace 0 kept trace → waits_in 0 trace ≡ 0
    → started counts ≡ committed_count counts + rolled_back counts → WereKept all (cut + length trace) counts []
kept_cut all trace cut kept counts h counted nobody idle =
    let older = h.ends.0 in
    let long = ap length h.ends.1 ∙ length-append older trace in record {
      ends = (all, sym (append-nil all), omega (arith, long, h.ends.2));
      counts = counted ∙ ap (λ (k : List ℕ). after_trace 0 k trace) h.counts ∙ ap (λ (n : ℕ). after_trace n (after_trace 0 nothing older) trace) (sym h.nobody) ∙ sym (after_trace-append 0 nothing older trace)
          ∙ ap (after_trace 0 nothing) (sym h.ends.1);
      nobody = ap (waits_in 0) h.ends.1 ∙ waits_in-append 0 older trace ∙ ap (λ (n : ℕ). waits_in n trace) h.nobody ∙ nobody;
      idle = idle;
    }

-- from the base of the trace: the run, and what a stop keeps
pub kept_of : {E : Type 0} (life : List Effect → Shown → View → E → Type 0) (leaves : E → (List Effect → Type 0) → Type 0)
    → ((before : List Effect) (s : Shown) (v : View) (e : E) → life before s v e → leaves e (λ after. Survives before s.asked after))
    → (trace : List (Step × Reply)) (engine : E) → StandsFrom life trace engine → IsKeptFrom life leaves trace engine
kept_of life leaves stops trace engine stands =
    let h = stands.1 in record {
      base = stands.0;
      run = run_of life stands.0 (seen_of trace) engine h;
      stops = record {
        before = h.before;
        events = h.events;
        based = h.based;
        made = h.made;
        files = stops h.before (shown_in nothing_shown h.events) h.view engine h.life_is;
      };
    }
