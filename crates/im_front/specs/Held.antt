-- What lies under the lock: an engine, and a trace of its steps that is a run.
use Rattle.std.specs.Prelude.{◌≡◌, ℕ, ◌+◌, ◌<◌, ◌≤◌, ◌^◌, true, false, List, [], ◌∷◌, ◌++◌, length, ◌⊎◌, if◌then◌else◌}
use Rattle.std.specs.List.{All}
use Rattle.std.specs.FinMap.{empty, entries}
use Rattle.im_base_types.specs.Pages.{Entry}
use Rattle.im_base_types.specs.Answers.{Step, Reply, Done}
use Rattle.im_base_types.specs.Changes.{Effect, apply_all}
use Rattle.im_base_types.specs.Lives.{Shown, Survives, effects, nothing_shown, shown_by}
use Rattle.im_theory_machine.specs.View.{View}
use Rattle.im_theory_machine.specs.Machine.{Run, start}
use Rattle.im_front_stats.specs.Counts.{nothing, started, committed_count, rolled_back, IsSound}
use Rattle.im_base_types.specs.declared.fault.Fault.{Fault}
use Rattle.im_base_types.specs.declared.fault.Fault.TheVariants.{Failed, Busy, TraceFull}
use Rattle.im_base_steps.specs.declared.step.Step.{Step as Steps}
use Rattle.im_base_steps.specs.declared.reply.Reply.{Reply as Replies}
use Rattle.im_front.specs.declared.recorded.Recorded.{Recorded}
use Rattle.im_front.specs.Made.{EndsIn}
use Rattle.im_front.specs.Traces.{trace_of}
use Rattle.im_base_steps.specs.Calls.{is_blocked, is_force}
use Rattle.im_theory_store_trait.specs.Store.{Rests}
use Rattle.im_front.specs.Events.{Event, made_in, Runs, shown_in}
use Rattle.im_base_steps.specs.Replies.{is_full, lacks_memory, started_in, commits_in, rolled_back_in, waits_after, IsReply}
use Rattle.im_theory_store_trait.specs.declared.store.Store.{Ghosts}

-- the value behind the lock, as contracts see it
pub record State (E : Type 0) : Type 0 where
  pub engine : E
  -- the entries from which the trace begins
  pub base : List Entry
  pub trace : List Recorded
  -- how many steps were cut, and how many transactions they started, committed and rolled back
  pub cut : ℕ
  pub kept : List ℕ
  -- the counts that were written last to the cell of statistics
  pub counts : List ℕ
  -- how many transactions wait for a force
  pub waiting : ℕ
  -- how many forces were made
  pub forces : ℕ
  -- every step that was made, those that were cut among them
  pub history : List (Steps × Replies)
  -- how many shares were handed out
  pub handed : ℕ

-- ---- counts

-- how many wait for a force after a trace, before which so many waited
abbrev pub waits_in : ℕ → List (Step × Reply) → ℕ
waits_in waiting [] = waiting
waits_in waiting (e ∷ es) = waits_in (waits_after waiting e.0 e.1) es

-- the counts after a step with this reply, before which so many waited
abbrev pub after_reply : ℕ → List ℕ → Step → Reply → List ℕ
after_reply waiting counts step reply = (started counts + started_in reply) ∷ (committed_count counts + commits_in waiting step reply) ∷ (rolled_back counts + rolled_back_in reply) ∷ []

-- the counts after a trace, before which so many waited
abbrev pub after_trace : ℕ → List ℕ → List (Step × Reply) → List ℕ
after_trace waiting counts [] = counts
after_trace waiting counts (e ∷ es) = after_trace (waits_after waiting e.0 e.1) (after_reply waiting counts e.0 e.1) es

-- 1 for a force that was made, and how many a trace has
abbrev pub force_of : Step → Reply → ℕ
force_of step Done = if is_force step then 1 else 0
force_of step _ = 0

abbrev pub forces_in : List (Step × Reply) → ℕ
forces_in [] = 0
forces_in (e ∷ es) = force_of e.0 e.1 + forces_in es

-- ---- a step

module _ {E : Type 0} (step : Step) (reply : Reply) (old new : State E) (before after : ℕ) where
  -- the step with its reply stands at the end of the trace, and is counted once
  abbrev pub Adds : Type 0
  Adds = (trace_of new.trace ≡ trace_of old.trace ++ (step, reply) ∷ []) × (after ≡ before + 1)

  -- neither recorded nor counted
  abbrev pub Stays : Type 0
  Stays = (new.trace ≡ old.trace) × (after ≡ before) × (new.history ≡ old.history)

  -- A step under the lock: it is recorded with the reply that is answered, and counted in the share; not where it is Blocked or the trace is
  -- full, and perhaps not where memory is wanting. Where the trace is full, or has no memory for it, it is not made.
  pub record Records : Type 0 where
    pub base : (new.base ≡ old.base) × (new.cut ≡ old.cut) × (new.kept ≡ old.kept) × (new.handed ≡ old.handed)
    pub adds : is_blocked reply ≡ false → is_full reply ≡ false → lacks_memory reply ≡ false → Adds
    pub blocked : is_blocked reply ≡ true → Stays
    pub full : is_full reply ≡ true → Stays × (new.engine ≡ old.engine)
    pub memory : lacks_memory reply ≡ true → Adds ⊎ (Stays × (new.engine ≡ old.engine))
    pub either : Adds ⊎ Stays

-- ---- what always holds

-- Over any disk: each reply of the trace suits its step, the counts are those of the trace, before which nobody waited for a force, and what was started has ended or is active.
pub record IsTallied (trace : List (Step × Reply)) (active waiting cut : ℕ) (kept counts : List ℕ) : Type 0 where
  pub replies : All (λ e. IsReply e.0 e.1) trace
  pub counted : counts ≡ after_trace 0 kept trace
  pub waits : waiting ≡ waits_in 0 trace
  pub long : length counts ≡ 3
  pub cut_small : cut ≤ 2 ^ 62
  pub counts_small : (started counts ≤ cut + length trace) × (committed_count counts + waiting ≤ cut + length trace) × (rolled_back counts ≤ cut + length trace)
  pub balanced : started counts ≡ committed_count counts + rolled_back counts + active

-- The trace has the last of all steps that were made. Those before were cut at a moment at which nobody waited for a force and no transaction was active, and the counts that are kept are theirs.
pub record WereKept (all : List (Step × Reply)) (cut : ℕ) (kept : List ℕ) (trace : List (Step × Reply)) : Type 0 where
  pub ends : EndsIn all cut trace
  pub counts : kept ≡ after_trace 0 nothing ends.0
  pub nobody : waits_in 0 ends.0 ≡ 0
  pub idle : started kept ≡ committed_count kept + rolled_back kept

-- What the trace tells: each reply suits its step; the counts that were written last are those of its steps, after those of the steps cut, and are sound; and what was started has ended or is active.
pub record IsCounted (trace : List (Step × Reply)) (active : ℕ) (kept counts : List ℕ) : Type 0 where
  pub replies : All (λ e. IsReply e.0 e.1) trace
  pub counts_are : counts ≡ after_trace 0 kept trace
  pub sound : IsSound counts
  pub balanced : started counts ≡ committed_count counts + rolled_back counts + active

module _ {E : Type 0} (life : List Effect → Shown → View → E → Type 0) where
  -- The trace is what was done since the base entries, and leads to a view of the engine.
  pub record Stands (base : List Entry) (trace : List (Step × Reply)) (engine : E) : Type 0 where
    pub before : List Effect
    pub first : ℕ
    pub events : List Event
    pub view : View
    pub based : base ≡ entries (apply_all empty before)
    pub made : made_in events ≡ trace
    pub runs : Runs (start (apply_all empty before) first) events view
    pub life_is : life before (shown_in nothing_shown events) view engine

  -- The trace is a run from the map with the base entries, and ends in a view of the engine. Where a look broke the engine the machine broke
  -- with it, at that place of the trace.
  pub record IsRun (base : List Entry) (trace : List (Step × Reply)) (engine : E) : Type 0 where
    pub before : List Effect
    pub first : ℕ
    pub events : List Event
    pub view : View
    pub based : base ≡ entries (apply_all empty before)
    pub made : made_in events ≡ trace
    pub runs : Runs (start (apply_all empty before) first) events view
    pub works : view.failed ≡ false → Run (start (apply_all empty before) first) trace view
    pub life_is : life before (shown_in nothing_shown events) view engine

-- A stop now leaves files that stand for the effects of the base entries, then a front of those that the trace asked with each acknowledged one.
pub record StopKeeps {E : Type 0} (leaves : E → (List Effect → Type 0) → Type 0) (base : List Entry) (trace : List (Step × Reply)) (engine : E) : Type 0 where
  pub before : List Effect
  pub events : List Event
  pub based : base ≡ entries (apply_all empty before)
  pub made : made_in events ≡ trace
  pub files : leaves engine (λ after. Survives before (shown_in nothing_shown events).asked after)

-- A store at rest: no transaction is active, and where it tells what it holds it works and a run may begin from its map.
pub record IsResting {E : Type 0} (d : Ghosts E) (e : E) : Type 0 where
  pub idle : d.actives e ≡ 0
  pub rests : d.tells → Rests d.life e

-- The new base entries are the old ones with what was asked in the trace.
pub record IsCut (old new : List Entry) (trace : List (Step × Reply)) : Type 0 where
  pub before : List Effect
  pub based : old ≡ entries (apply_all empty before)
  pub next : new ≡ entries (apply_all empty (before ++ effects (shown_by nothing_shown trace).asked))

-- Why a cut is refused: the engine has failed; a transaction is active; too many steps were cut; as the entries are.
module _ {E : Type 0} (d : Ghosts E) (old new : State E) where
  abbrev pub WhyFailed : Fault → Type 0
  WhyFailed fault = (new ≡ old) × (fault ≡ Failed) × d.broken old.engine × ((before : List Effect) (s : Shown) (v : View) → d.life before s v old.engine → v.failed ≡ true)

  abbrev pub WhyBusy : Fault → Type 0
  WhyBusy fault = (new ≡ old) × (fault ≡ Busy) × (0 < d.actives old.engine) × ((before : List Effect) (s : Shown) (v : View) → d.life before s v old.engine → (v.failed ≡ false) × (0 < v.active))

  abbrev pub WhyFull : Fault → Type 0
  WhyFull fault = (new ≡ old) × (fault ≡ TraceFull) × (2 ^ 62 < old.cut + length old.trace)

  abbrev pub WhyNotCut : Fault → Type 0
  WhyNotCut fault = WhyFailed fault ⊎ (WhyBusy fault ⊎ (WhyFull fault ⊎ d.refuses old.engine new.engine fault))
