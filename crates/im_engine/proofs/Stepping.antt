-- A step after its checks, and one that a check refuses.
use Rattle.std.proofs.Common.{◌≡◌, ◌≢◌, inl, inr, ⊎_elim, ℕ, Bool, true, false, List, length, Option, None, Some, refl, sym, ap, subst, ◌∙◌, cond}
use Rattle.std.specs.Prelude.{◌||◌, ◌==◌, ◌+◌, ◌-◌, if◌then◌else◌, ◌↔◌, nat_lt, not}
use Rattle.im_base_types.specs.Answers as answers
use Rattle.im_base_types.specs.Answers.{Step, Begin, Do, Commit, Rollback, Continue, RollTo, FlushPage, Force, Checkpoint, Switch, Mark, Idle, Going, MustRollBack, RollingBack, Returning, Committing}
use Rattle.im_base_types.specs.Changes.{Effect}
use Rattle.im_base_types.specs.Lives.{Shown, breaks}
use Rattle.im_base_types.specs.Maps.{IndexMap}
use Rattle.im_base_types.specs.Refusals.{failed as has_failed, not_a_store, unfinished, key_length}
use Rattle.im_base_disk.specs.declared.disk.Disk.{Ghosts}
use Rattle.im_base_disk.specs.Disk.{Files}
use Rattle.im_base_disk.proofs.Costs.{most_none}
use Rattle.im_theory_tree.specs.Levels.{Pages}
use Rattle.im_theory_machine.specs.Locks.{Lock}
use Rattle.im_theory_machine.specs.Table.{locks_of}
use Rattle.im_theory_machine.specs.View as views
use Rattle.im_theory_machine.specs.View.{View, owns_in}
use Rattle.im_theory_machine.specs.Machine.{Moves, Answers, Goes, begins, does, waits, dies, commits, queues, drops, turns, undoes, ends, puts_later, puts, drops_first, drops_leaf, takes_later, takes_first, takes_leaf, takes_last, stays_back, turns_back, gives_back, is_back, leaf_is_back, logs_page, tree_blocks, tree_halts, flushes, forces, checkpoints, switches, lacks, breaks as breaks_it, Breaks, Wants, barred, barred_to, barred_to_rollback, barred_to_continue, first_check, mark_for, or_else, fault_if, keys_fit}
use Rattle.im_theory_machine.proofs.Runs.{reply_answers}
use Rattle.im_theory_steps.specs.Checks.{marks_in}
use Rattle.im_base_types.specs.declared.fault.Fault.{Fault}
use Rattle.im_base_types.specs.declared.fault.Fault.TheVariants as faults
use Rattle.im_base_steps.specs.declared.reply.Reply.{Reply}
use Rattle.im_base_steps.specs.declared.reply.Reply.TheVariants.{Started, Committed, RolledBack, More, Done, Refused}
use Rattle.im_base_steps.specs.declared.step.Step.{Step as Asked}
use Rattle.im_base_steps.specs.Calls.{asked_by, told_by, is_force}
use Rattle.im_base_steps.specs.Replies.{is_commit}
use Rattle.im_base_types.specs.Faults.{number_of}
use Rattle.im_engine.specs.declared.engine.Engine.{Engine}
use Rattle.im_engine.specs.Aims.{under_of}
use Rattle.im_engine.specs.Running.{IsLife}
use Rattle.im_engine.proofs.Paced.{paced_barred}
use Rattle.im_engine.specs.Kept.{StepKept}
use Rattle.im_engine.specs.Told.{Fixed, Known, AnswersAlone, AsksChange, wants_pages, wants_numbers, wants_memory, Checked, IsMade, IsStep, IsTold, Refuses, StepCosts, SuitsGroup, WantsOf, after, check_of, fixed_of, is_early, known_of}
use Rattle.im_engine.proofs.Alone.{answers_alone}
use Rattle.im_engine.proofs.Barred.{barred_kept, first_failed}
use Rattle.im_engine.proofs.Causes.{refused_inj}
use Rattle.im_engine.proofs.Telling.{alive_now}
use Rattle.im_engine.proofs.Looked.{not_true}

-- ---- the numbers of refusals

-- the refusal of a number
abbrev named_by : ℕ → Fault
named_by n =
    if n == 1 then faults.NoTransaction else if n == 2 then faults.MustRollBack else if n == 3 then faults.KeyLength else if n == 4 then faults.RollingBack else if n == 5 then faults.PagesFull else if n == 6 then faults.Capacity
    else if n == 7 then faults.LogFull else if n == 8 then faults.Device else if n == 9 then faults.Memory else if n == 10 then faults.Failed else if n == 11 then faults.NotAStore else if n == 12 then faults.TooMany
    else if n == 13 then faults.PoolSize else if n == 14 then faults.TraceFull else if n == 15 then faults.Busy else if n == 16 then faults.BadScript else if n == 17 then faults.Unfinished else if n == 18 then faults.Workers else faults.Locked

is_named : (f : Fault) → named_by (number_of f) ≡ f
is_named faults.NoTransaction = refl
is_named faults.MustRollBack = refl
is_named faults.KeyLength = refl
is_named faults.RollingBack = refl
is_named faults.PagesFull = refl
is_named faults.Capacity = refl
is_named faults.LogFull = refl
is_named faults.Device = refl
is_named faults.Memory = refl
is_named faults.Failed = refl
is_named faults.NotAStore = refl
is_named faults.TooMany = refl
is_named faults.PoolSize = refl
is_named faults.TraceFull = refl
is_named faults.Busy = refl
is_named faults.BadScript = refl
is_named faults.Unfinished = refl
is_named faults.Workers = refl
is_named faults.Locked = refl

-- different refusals have different numbers
pub same_fault : (a b : Fault) → number_of a ≡ number_of b → a ≡ b
same_fault a b is = sym (is_named a) ∙ ap named_by is ∙ is_named b

-- ---- what the checks refuse

module _ (P : ℕ → Type 0) (n : ℕ) where
  by_or : (a b : Option ℕ) → (a ≡ Some n → P n) → (b ≡ Some n → P n) → or_else a b ≡ Some n → P n
  by_or None b first second is = second is
  by_or (Some k) b first second is = first is

  by_test : (b : Bool) (k : ℕ) → P k → fault_if b k ≡ Some n → P n
  by_test true k p is = let same : k ≡ n = cc is in subst P same p
  by_test false k p is = absurd (cc is)

  module _ (one : P 1) (two : P 2) (four : P 4) where
    by_mark : (m : Mark) → barred_to m ≡ Some n → P n
    by_mark Idle is = let same : 1 ≡ n = cc is in subst P same one
    by_mark Going is = absurd (cc is)
    by_mark MustRollBack is = let same : 2 ≡ n = cc is in subst P same two
    by_mark RollingBack is = let same : 4 ≡ n = cc is in subst P same four
    by_mark (Returning k) is = let same : 4 ≡ n = cc is in subst P same four
    by_mark Committing is = let same : 1 ≡ n = cc is in subst P same one

    by_rollback : (m : Mark) → barred_to_rollback m ≡ Some n → P n
    by_rollback Idle is = let same : 1 ≡ n = cc is in subst P same one
    by_rollback Going is = absurd (cc is)
    by_rollback MustRollBack is = absurd (cc is)
    by_rollback RollingBack is = let same : 4 ≡ n = cc is in subst P same four
    by_rollback (Returning k) is = let same : 4 ≡ n = cc is in subst P same four
    by_rollback Committing is = let same : 1 ≡ n = cc is in subst P same one

    by_continue : (m : Mark) → barred_to_continue m ≡ Some n → P n
    by_continue Idle is = let same : 1 ≡ n = cc is in subst P same one
    by_continue Going is = let same : 1 ≡ n = cc is in subst P same one
    by_continue MustRollBack is = let same : 1 ≡ n = cc is in subst P same one
    by_continue RollingBack is = absurd (cc is)
    by_continue (Returning k) is = absurd (cc is)
    by_continue Committing is = let same : 1 ≡ n = cc is in subst P same one

    by_owned : (owns : Bool) → (owns ≡ true → P 17) → fault_if owns unfinished ≡ Some n → P n
    by_owned true p is = let same : 17 ≡ n = cc is in subst P same (p refl)
    by_owned false p is = absurd (cc is)

    by_unowned : (owns : Bool) (m : Mark) → cond owns None (barred_to_continue m) ≡ Some n → P n
    by_unowned true m is = absurd (cc is)
    by_unowned false m is = by_continue m is

    -- a check of an engine that works gives one of six, or of seven where an access goes on
    pub by_check : P 3 → P 12 → P 15 → (owns : Bool) → (owns ≡ true → P 17) → (active : ℕ) (mark : Mark) (step : Step) → first_check false active mark owns step ≡ Some n → P n
    by_check three twelve fifteen owns seventeen active mark Begin is = by_test _ 12 twelve is
    by_check three twelve fifteen owns seventeen active mark (Do t a) is = by_or (barred_to mark) (or_else (fault_if owns unfinished) (fault_if (not (keys_fit a)) key_length)) (by_mark mark)
        (by_or (fault_if owns unfinished) (fault_if (not (keys_fit a)) key_length) (by_owned owns seventeen) (by_test (not (keys_fit a)) 3 three)) is
    by_check three twelve fifteen owns seventeen active mark (Commit t) is = by_or (barred_to mark) (fault_if owns unfinished) (by_mark mark) (by_owned owns seventeen) is
    by_check three twelve fifteen owns seventeen active mark (Rollback t) is = by_or (barred_to_rollback mark) (fault_if owns unfinished) (by_rollback mark) (by_owned owns seventeen) is
    by_check three twelve fifteen owns seventeen active mark (Continue t) is = by_unowned owns mark is
    by_check three twelve fifteen owns seventeen active mark (RollTo t left) is = by_or (barred_to_rollback mark) (fault_if owns unfinished) (by_rollback mark) (by_owned owns seventeen) is
    by_check three twelve fifteen owns seventeen active mark (FlushPage p) is = absurd (cc is)
    by_check three twelve fifteen owns seventeen active mark Force is = absurd (cc is)
    by_check three twelve fifteen owns seventeen active mark Checkpoint is = absurd (cc is)
    by_check three twelve fifteen owns seventeen active mark Switch is = by_test (nat_lt 0 active) 15 fifteen is

-- ---- the machine has no refusal for bytes that are no store's

wants_store : (step : Step) → Wants step not_a_store → ⊥
wants_store (Do t (answers.Insert k r)) (inl is) = let never : not_a_store ≡ 5 = is in cc never
wants_store (Do t (answers.Insert k r)) (inr is) = let never : not_a_store ≡ 9 = is in cc never
wants_store (Do t (answers.Fetch k)) is = cc is
wants_store (Do t (answers.Seek k)) is = cc is
wants_store (Do t (answers.Next k)) is = cc is
wants_store (Do t (answers.Prev k)) is = cc is
wants_store (Do t (answers.Scan lo hi l)) is = cc is
wants_store (Do t (answers.Delete k)) is = cc is
wants_store Begin is = cc is
wants_store (Commit t) is = cc is
wants_store (Rollback t) is = cc is
wants_store (Continue t) is = cc is
wants_store (RollTo t left) is = cc is
wants_store (FlushPage p) is = cc is
wants_store Force is = cc is
wants_store Checkpoint is = cc is
wants_store Switch is = cc is

breaks_store : Breaks not_a_store → ⊥
breaks_store (inl is) = cc is
breaks_store (inr (inl is)) = cc is
breaks_store (inr (inr (inl is))) = cc is
breaks_store (inr (inr (inr is))) = cc is

abbrev number_in : answers.Reply → ℕ
number_in (answers.Refused n) = n
number_in _ = 0

goes_store : (v w : View) (step : Step) → Goes v step (answers.Refused not_a_store) w → ⊥
goes_store v w step (begins a b is c) = cc is
goes_store v w step (does t a ls x y z u is q) = let never : true ≡ false = sym (reply_answers a v.walk) ∙ ap answers.is_answer (sym is) in cc never
goes_store v w step (waits t a h x y z is q) = cc is
goes_store v w step (dies t a x y z is q) = cc is
goes_store v w step (commits t x y some is q) = cc is
goes_store v w step (queues t c cs x y some is q) = cc is
goes_store v w step (drops t x y z is q) = cc is
goes_store v w step (turns t c cs x y z is q) = cc is
goes_store v w step (undoes t c e cs x y z is q) = cc is
goes_store v w step (ends t c x y z is q) = cc is
goes_store v w step (puts_later u k r ls b is none absent unheld same d e) = cc d
goes_store v w step (puts u k r b is under d e) = cc d
goes_store v w step (drops_first u k r ls b is none there unheld same d e) = cc d
goes_store v w step (drops_leaf u k b is under d e) = cc d
goes_store v w step (takes_later u c cs b is none net_is d e) = cc d
goes_store v w step (takes_first u c cs b is none net_is d e) = cc d
goes_store v w step (takes_leaf u c cs b is under net_is d e) = cc d
goes_store v w step (takes_last u b is under empty d e) = cc d
goes_store v w step (stays_back u n b may few d e) = cc d
goes_store v w step (turns_back u n b may more d e) = cc d
goes_store v w step (gives_back u n c cs b back net_is more d e) = cc d
goes_store v w step (is_back u n c cs b back net_is is d e) = cc d
goes_store v w step (leaf_is_back u n b back under is d e) = cc d
goes_store v w step (logs_page u x b under owner d e) = cc d
goes_store v w step (tree_blocks u a x b under other d e) = cc d
goes_store v w step (tree_halts u x b under other d e) = cc d
goes_store v w step (flushes p x is q) = cc is
goes_store v w step (forces x is q) = cc is
goes_store v w step (checkpoints x is q) = cc is
goes_store v w step (switches x is q) = cc is
goes_store v w step (lacks fault wants is q) = wants_store step (subst (Wants step) (sym (ap number_in is)) wants)
goes_store v w step (breaks_it fault ls broke is q) = breaks_store (subst Breaks (sym (ap number_in is)) broke)

moves_store : (v w : View) (step : Step) → v.failed ≡ false → Moves v step (answers.Refused not_a_store) w → ⊥
moves_store v w step works m = by (barred v step) refl m
  where
    by : (o : Option ℕ) → barred v step ≡ o → Answers v step (answers.Refused not_a_store) w o → ⊥
    by None is go = goes_store v w step go
    by (Some n) is go =
        let same : not_a_store ≡ n = ap number_in go.0 in
        let checked : first_check false v.active (mark_for (λ t. (v.txns t).mark) step) (owns_in v.under step) step ≡ Some not_a_store = sym (ap (λ (b : Bool). first_check b v.active (mark_for (λ t. (v.txns t).mark) step) (owns_in v.under step) step) works) ∙ is ∙ ap (λ (k : ℕ). Some k) (sym same) in
        by_check (λ (k : ℕ). k ≡ not_a_store → ⊥) not_a_store (λ e. cc e) (λ e. cc e) (λ e. cc e) (λ e. cc e) (λ e. cc e) (λ e. cc e) (owns_in v.under step) (λ q e. cc e) v.active (mark_for (λ t. (v.txns t).mark) step) step checked refl

-- ---- a step that was made

refused_alone : (before : List Effect) (s : Shown) (step : Step) (n : ℕ) → AnswersAlone before s step (answers.Refused n)
refused_alone before s (Do t a) n = λ is. absurd (cc is)
refused_alone before s Begin n = tt
refused_alone before s (Commit t) n = tt
refused_alone before s (Rollback t) n = tt
refused_alone before s (RollTo t left) n = tt
refused_alone before s (Continue t) n = λ access goes_on is. absurd (cc is)
refused_alone before s (FlushPage p) n = tt
refused_alone before s Force n = tt
refused_alone before s Checkpoint n = tt
refused_alone before s Switch n = tt

keeps_fixed : (step : Step) (reply : Reply) (k : Known) → (after step reply k).fixed ≡ k.fixed
keeps_fixed step (Started n) k = refl
keeps_fixed step Committed k = refl
keeps_fixed step RolledBack k = refl
keeps_fixed step (Refused fault) k = refl
keeps_fixed step More k = by (is_commit step)
  where
    by : (b : Bool) → (if b then record k { waiting = k.waiting + 1 } else k).fixed ≡ k.fixed
    by true = refl
    by false = refl
keeps_fixed step Done k = by (is_force step)
  where
    by : (b : Bool) → (if b then record k { active = k.active - k.waiting; waiting = 0 } else k).fixed ≡ k.fixed
    by true = refl
    by false = refl
keeps_fixed step _ k = refl

module _ {D : Type 0} (d : Ghosts D) (step : Step) (reply : Reply) (old new : Engine D d) (told : IsTold d step reply old new) where
  -- a disk that has failed leaves no working engine
  told_works : d.failed new.disk ≡ true → new.failed ≡ true
  told_works lost = by old.failed refl
    where
      by : (b : Bool) → old.failed ≡ b → new.failed ≡ true
      by true was = ap (λ (e : Engine D d). e.failed) (told.same (ap (λ (b : Bool). b || is_early reply) was)) ∙ was
      by false works =
          ap (λ (k : Known). k.failed) told.known ∙ ap (λ (r : Reply). (after step r (known_of d old)).failed) (told.device works lost) ∙ ap (λ (b : Bool). b || breaks (number_of faults.Device)) works

  told_fixed : fixed_of d new ≡ fixed_of d old
  told_fixed = ap (λ (k : Known). k.fixed) told.known ∙ keeps_fixed step reply (known_of d old)

-- no step of a sound store finds bytes that are none
never_found : {D : Type 0} (d : Ghosts D) (step : Step) (reply : Reply) (old new : Engine D d) → ((before : List Effect) (s : Shown) (v : View) → IsLife d before s v old → StepKept d before s v step (told_by reply) old new)
    → IsTold d step reply old new → (before : List Effect) (s : Shown) (v : View) → IsLife d before s v old → reply ≢ Refused faults.NotAStore
never_found d step reply old new kept told before s v life is = by old.failed refl
  where
    by : (b : Bool) → old.failed ≡ b → ⊥
    by true was = let never : Refused faults.Failed ≡ Refused faults.NotAStore = sym (told.failed was) ∙ is in let same = refused_inj faults.Failed faults.NotAStore never in cc same
    by false works =
        let k = kept before s v life in
        moves_store v k.next step (life.failed ∙ works) (subst (λ (r : Reply). Moves v step (told_by r) k.next) is k.moves)

-- an access that was answered
alone_so : {D : Type 0} (d : Ghosts D) (step : Step) (reply : Reply) (old new : Engine D d) → ((before : List Effect) (s : Shown) (v : View) → IsLife d before s v old → StepKept d before s v step (told_by reply) old new)
    → IsTold d step reply old new → (before : List Effect) (s : Shown) (v : View) → IsLife d before s v old → AnswersAlone before s step (told_by reply)
alone_so d step reply old new kept told before s v life = by old.failed refl
  where
    by : (b : Bool) → old.failed ≡ b → AnswersAlone before s step (told_by reply)
    by true was = subst (λ (r : Reply). AnswersAlone before s step (told_by r)) (sym (told.failed was)) (refused_alone before s step (number_of faults.Failed))
    by false works =
        let k = kept before s v life in
        answers_alone before s v k.next life.lived (life.failed ∙ works) step (told_by reply) k.moves

-- after the checks
pub step_made_of : {D : Type 0} (d : Ghosts D) (step : Asked) (reply : Reply) (old new : Engine D d) → None ≡ check_of d (asked_by step) old → IsMade d (asked_by step) reply old new → IsStep d step reply old new
step_made_of d step reply old new none m = record {
  kept = m.kept;
  alone = alone_so d (asked_by step) reply old new m.kept m.told;
  told = m.told;
  checked = λ fault is. absurd (let never = is ∙ sym none in cc never);
  answered = m.answered;
  suits = m.suits;
  at_once = m.at_once;
  paced = m.paced;
  grouped = m.grouped;
  wants = λ works. m.wants;
  quiet = m.quiet;
  costs = m.costs;
  works = told_works d (asked_by step) reply old new m.told;
  never = never_found d (asked_by step) reply old new m.kept m.told;
  max_pages = ap (λ (f : Fixed). f.max_pages) (told_fixed d (asked_by step) reply old new m.told);
  dense = ap (λ (f : Fixed). f.dense) (told_fixed d (asked_by step) reply old new m.told);
  stepped = ap (λ (f : Fixed). f.stepped) (told_fixed d (asked_by step) reply old new m.told);
  frames = m.frames;
  report = ap (λ (f : Fixed). f.redo) (told_fixed d (asked_by step) reply old new m.told);
}

-- of a step that is this one
pub step_as : {D : Type 0} (d : Ghosts D) (step given : Asked) → step ≡ given → (reply : Reply) (old new : Engine D d) → None ≡ check_of d (asked_by step) old → IsMade d (asked_by given) reply old new → IsStep d step reply old new
step_as d step given is reply old new none m = step_made_of d step reply old new none (subst (λ (x : Asked). IsMade d (asked_by x) reply old new) (sym is) m)

-- ---- a step that a check refuses

module _ {D : Type 0} (d : Ghosts D) (step : Asked) (e : Engine D d) (only_now : (c : Files) → d.left_since e.disk (d.moment e.disk) c → d.may_leave e.disk c) (fault : Fault) (is : Some (number_of fault) ≡ check_of d (asked_by step) e) where
  -- of an engine that has failed there is one
  fails_so : e.failed ≡ true → fault ≡ faults.Failed
  fails_so was =
      let same : Some (number_of fault) ≡ Some has_failed = is ∙ ap (λ (b : Bool). first_check b (length e.txns.rows) (mark_for (marks_in e.txns.rows) (asked_by step)) (owns_in (under_of e.under) (asked_by step)) (asked_by step)) was ∙ first_failed (length e.txns.rows) (mark_for (marks_in e.txns.rows) (asked_by step)) (owns_in (under_of e.under) (asked_by step)) (asked_by step) in
      let number : number_of fault ≡ number_of faults.Failed = cc same in
      same_fault fault faults.Failed number

  -- and of one that works one of seven
  works_so : (P : ℕ → Type 0) → P 1 → P 2 → P 3 → P 4 → P 12 → P 15 → P 17 → e.failed ≡ false → P (number_of fault)
  works_so P one two three four twelve fifteen seventeen works =
      by_check P (number_of fault) one two four three twelve fifteen (owns_in (under_of e.under) (asked_by step)) (λ q. seventeen) (length e.txns.rows) (mark_for (marks_in e.txns.rows) (asked_by step)) (asked_by step)
      (sym (is ∙ ap (λ (b : Bool). first_check b (length e.txns.rows) (mark_for (marks_in e.txns.rows) (asked_by step)) (owns_in (under_of e.under) (asked_by step)) (asked_by step)) works))

  stays_so : e.failed ≡ (e.failed || breaks (number_of fault))
  stays_so = by e.failed refl
    where
      by : (b : Bool) → e.failed ≡ b → e.failed ≡ (e.failed || breaks (number_of fault))
      by true was = was ∙ sym (ap (λ (b : Bool). b || breaks (number_of fault)) was)
      by false works = works ∙ sym (ap (λ (b : Bool). b || breaks (number_of fault)) works ∙ works_so (λ (n : ℕ). breaks n ≡ false) refl refl refl refl refl refl refl works)

  asks_none : e.failed ≡ false → AsksChange (Refused fault) → ⊥
  asks_none works (wants_pages so) = works_so (λ (n : ℕ). n ≡ 5 → ⊥) (λ e. cc e) (λ e. cc e) (λ e. cc e) (λ e. cc e) (λ e. cc e) (λ e. cc e) (λ e. cc e) works (ap number_of (refused_inj fault faults.PagesFull so))
  asks_none works (wants_numbers so) = works_so (λ (n : ℕ). n ≡ 6 → ⊥) (λ e. cc e) (λ e. cc e) (λ e. cc e) (λ e. cc e) (λ e. cc e) (λ e. cc e) (λ e. cc e) works (ap number_of (refused_inj fault faults.Capacity so))
  asks_none works (wants_memory so) = works_so (λ (n : ℕ). n ≡ 10 → ⊥) (λ e. cc e) (λ e. cc e) (λ e. cc e) (λ e. cc e) (λ e. cc e) (λ e. cc e) (λ e. cc e) works (ap number_of (refused_inj fault faults.Failed so))

  memory_none : e.failed ≡ false → Refused fault ≡ Refused faults.Memory → ⊥
  memory_none works so = works_so (λ (n : ℕ). n ≡ 9 → ⊥) (λ e. cc e) (λ e. cc e) (λ e. cc e) (λ e. cc e) (λ e. cc e) (λ e. cc e) (λ e. cc e) works (ap number_of (refused_inj fault faults.Memory so))

  wants_none : e.failed ≡ false → (pages : Pages) (map : IndexMap) (Still : Type 0) (stepped : Bool) (was now : Option views.Under) (Begun : ℕ → Type 0) (nets : ℕ → Effect) (locks : ℕ → List Lock) (dense : Bool) (max : ℕ) (s : Step)
      → WantsOf pages map Still stepped was now Begun nets locks dense max s (Refused fault)
  wants_none works pages map Still stepped was now Begun nets locks dense max (Do t (answers.Insert key rid)) = record {
    made = λ so. absurd (cc so);
    at_once = λ so. absurd (cc so);
    begun = λ so. absurd (cc so);
    limited = λ not. absurd (not fault refl);
    full = λ so. absurd (asks_none works (wants_pages so));
    used_up = λ so. absurd (asks_none works (wants_numbers so));
    granted = λ so. absurd (⊎_elim (λ numbers. asks_none works (wants_numbers numbers)) (λ memory. asks_none works (wants_memory memory)) so);
    absent = λ asks. absurd (asks_none works asks);
    broken = λ so. absurd (asks_none works (wants_memory so));
  }
  wants_none works pages map Still stepped was now Begun nets locks dense max (Do t (answers.Delete key)) = record { fails = λ so. absurd (asks_none works (wants_memory so)); at_once = λ so. absurd (cc so); begun = λ so. absurd (cc so) }
  wants_none works pages map Still stepped was now Begun nets locks dense max (Do t (answers.Fetch k)) = tt
  wants_none works pages map Still stepped was now Begun nets locks dense max (Do t (answers.Seek k)) = tt
  wants_none works pages map Still stepped was now Begun nets locks dense max (Do t (answers.Next k)) = tt
  wants_none works pages map Still stepped was now Begun nets locks dense max (Do t (answers.Prev k)) = tt
  wants_none works pages map Still stepped was now Begun nets locks dense max (Do t (answers.Scan lo hi l)) = tt
  wants_none works pages map Still stepped was now Begun nets locks dense max Begin = tt
  wants_none works pages map Still stepped was now Begun nets locks dense max (Commit t) = tt
  wants_none works pages map Still stepped was now Begun nets locks dense max (Rollback t) = tt
  wants_none works pages map Still stepped was now Begun nets locks dense max (RollTo t left) = tt
  wants_none works pages map Still stepped was now Begun nets locks dense max (Continue t) = record { short = λ so. absurd (memory_none works so); used_up = λ so. absurd (asks_none works (wants_numbers so)); broken = λ so. absurd (asks_none works (wants_memory so)); begun = λ _ _ _. inr (fault, refl) }
  wants_none works pages map Still stepped was now Begun nets locks dense max (FlushPage p) = tt
  wants_none works pages map Still stepped was now Begun nets locks dense max Force = tt
  wants_none works pages map Still stepped was now Begun nets locks dense max Checkpoint = tt
  wants_none works pages map Still stepped was now Begun nets locks dense max Switch = tt

  -- a refusal by a check costs nothing
  costs_none : (step : Step) → StepCosts d step (Refused fault) e e
  costs_none Begin = tt
  costs_none (Do t a) = tt
  costs_none (Commit t) = record { most = most_none d 4 4 e.disk; forces = λ is. absurd (cc is); one = λ is. absurd (cc is); buffered = λ is. absurd (cc is); room = λ is. absurd (cc is); ends = λ is. absurd (cc is) }
  costs_none (Rollback t) = most_none d 2 2 e.disk
  costs_none (RollTo t left) = tt
  costs_none (Continue t) = tt
  costs_none (FlushPage p) = λ is. absurd (cc is)
  costs_none Force = record { most = most_none d 2 2 e.disk; one = λ is. absurd (cc is) }
  costs_none Checkpoint = (λ _. most_none d 4 5 e.disk, λ is. absurd (cc is))
  costs_none Switch = λ _. most_none d 5 6 e.disk

  -- and lets nobody wait
  waits_none : (step : Step) → SuitsGroup step (Refused fault) e.txns
  waits_none Begin = tt
  waits_none (Do t a) = tt
  waits_none (Commit t) = tt
  waits_none (Rollback t) = tt
  waits_none (RollTo t left) = tt
  waits_none (Continue t) = tt
  waits_none (FlushPage p) = tt
  waits_none Force = tt
  waits_none Checkpoint = tt
  waits_none Switch = tt

  told_so : IsTold d (asked_by step) (Refused fault) e e
  told_so = record {
    known = λ j. record { failed = stays_so j; active = length e.txns.rows; waiting = e.txns.waiting; group = e.txns.group; next = e.txns.next; fixed = fixed_of d e };
    number = tt;
    failed = λ was. ap (λ (f : Fault). Refused f) (fails_so was);
    same = λ _. refl;
    mild = λ _. (refl, λ u. refl);
    device = λ works lost. absurd (not_true (d.failed e.disk) (alive_now d e works) lost);
  }

  pub step_barred : IsStep d step (Refused fault) e e
  step_barred = record {
    kept = λ before s v life. barred_kept d before s v (asked_by step) e life only_now (number_of fault) is;
    alone = λ before s v life. refused_alone before s (asked_by step) (number_of fault);
    told = told_so;
    checked = λ other so. (ap (λ (f : Fault). Refused f) (let same = is ∙ sym so in let number : number_of fault ≡ number_of other = cc same in same_fault fault other number), refl);
    answered = λ other. subst (λ (o : Option ℕ). (Refused fault ≡ Refused other) ↔ Checked o other (Refuses d (Refused fault) e e.writer.log e.disk other (asked_by step))) is
        (λ so. ap number_of (sym (refused_inj fault other so)), λ so. ap (λ (f : Fault). Refused f) (same_fault fault other (sym so)));
    suits = tt;
    at_once = λ _. tt;
    paced = paced_barred d (asked_by step) (Refused fault) e e refl (λ so. cc so) (λ none. let never : Some (number_of fault) ≡ None = is ∙ none in cc never);
    grouped = waits_none (asked_by step);
    wants = λ works b before s v r. wants_none works _ _ _ _ _ _ _ (λ t. (v.txns t).net) (locks_of e.locks) _ _ (asked_by step);
    quiet = λ _. refl;
    costs = costs_none (asked_by step);
    works = told_works d (asked_by step) (Refused fault) e e told_so;
    never = never_found d (asked_by step) (Refused fault) e e (λ before s v life. barred_kept d before s v (asked_by step) e life only_now (number_of fault) is) told_so;
    max_pages = refl;
    dense = refl;
    stepped = refl;
    frames = refl;
    report = refl;
  }
