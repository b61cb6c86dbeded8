-- THE PROMISE
--
-- A store is three files: two logs, of which one is the current one, and pages. It lives again and again. A life is an opening, steps of any transactions in any order, and a stop: at the end, or at any moment before, within a step or within the opening. The next life begins with what the stop left of the three files.
--
-- What a transaction did is its effect: keys put with a number, keys dropped, but for what it took back. Its commit is asked when the step Commit is made, and acknowledged when `Committed` has been handed out, or, where it was answered `More`, when `Done` of the next Force has been.
use Rattle.std.specs.Prelude.{◌≡◌, ◌⊎◌, ◌++◌, ℕ, zero, suc, true, List, [], ◌∷◌, map, take, Option, None, Some, IfSome}
use Rattle.std.specs.List.{Contains}
use Rattle.std.specs.FinMap.{empty, entries}
use Rattle.im_base_types.specs.Answers as answers
use Rattle.im_base_types.specs.Maps.{IndexMap}
use Rattle.im_base_types.specs.Pages.{Entry}
use Rattle.im_base_types.specs.Changes.{Effect, apply_all}
use Rattle.im_base_types.specs.Lives.{Asked, Shown, effects, nothing_shown, shows, shown_by}
use Rattle.im_theory_machine.specs.Isolation.{IsReplay, finished, serial, queue_after_all}
use Rattle.im_theory_machine.specs.View.{MayRollBack, is_among}
use Rattle.im_base_steps.specs.declared.step.Step.{Step}
use Rattle.im_base_steps.specs.declared.reply.Reply.{Reply}
use Rattle.im_base_steps.specs.Calls.{asked_by, told_by}

pub record Life (Files : Type 0) : Type 0 where
  pub steps : List Step
  -- as far as there are any
  pub replies : List Reply
  -- how many of them had been handed out when it stopped
  pub answered : ℕ
  -- the entries that its opening handed out, where it was asked for them
  pub shown : Option (List Entry)
  -- what the stop left
  pub left : Files

-- steps with their replies
abbrev pub answered_by : List Step → List Reply → List (answers.Step × answers.Reply)
answered_by (step ∷ steps) (reply ∷ replies) = (asked_by step, told_by reply) ∷ answered_by steps replies
answered_by _ _ = []

-- What a life had asked when it stopped after its nth reply or later: within a step, whose reply is then not known, or after the last.
abbrev pub HadAsked : ℕ → Shown → List Step → List Reply → List Asked → Type 0
HadAsked zero s (step ∷ steps) (reply ∷ replies) asked = (asked ≡ (shows s (asked_by step) None).asked) ⊎ HadAsked zero (shows s (asked_by step) (Some (told_by reply))) steps replies asked
HadAsked zero s _ _ asked = asked ≡ s.asked
HadAsked (suc n) s (step ∷ steps) (reply ∷ replies) asked = HadAsked n (shows s (asked_by step) (Some (told_by reply))) steps replies asked
HadAsked (suc n) s _ _ asked = asked ≡ s.asked

-- what its replies had told by then
abbrev pub told_of : {F : Type 0} → Life F → List Asked
told_of life = (shown_by nothing_shown (take life.answered (answered_by life.steps life.replies))).asked

-- Each life keeps all effects from before it and then, in the order of their commits, a prefix of those whose commit it had asked when it stopped. A prefix is the first so many, in order. Each effect in it is whole. None whose commit was acknowledged before the stop is missing. Nothing else is there.
pub record IsKept {F : Type 0} (before : List Effect) (life : Life F) (after : List Effect) : Type 0 where
  pub asked : List Asked
  pub by : HadAsked life.answered nothing_shown life.steps life.replies asked
  pub kept : List Asked
  pub lost : List Asked
  pub front : kept ++ lost ≡ asked
  pub is : after ≡ before ++ effects kept
  pub acknowledged : (a : Asked) → Contains (told_of life) a → a.acked ≡ true → Contains kept a

-- There is one list of effects for all lives. Each life adds to its end what it keeps of its own. An opening that hands out its entries hands out exactly those that the list, as it is then, makes of an empty index.
abbrev pub OneList : {F : Type 0} → List Effect → List (Life F) → Type 0
OneList list [] = Unit {0}
OneList list (life ∷ later) = IfSome life.shown (λ es. es ≡ entries (apply_all empty list)) × (more : List Effect) × IsKept list life more × OneList more later

-- ---- what `live` and `look` say of each life, wherever it stops

-- The files that a life began with stood for some effects, and those that its stop left stand for what it kept of them. What its opening handed out is what these effects make of an empty index.
pub record IsRunOn {F : Type 0} (StandsFor : List Effect → F → Type 0) (files : F) (life : Life F) : Type 0 where
  pub takes : (before : List Effect) → StandsFor before files → (after : List Effect) × IsKept before life after × StandsFor after life.left
  pub shows : IfSome life.shown (λ es. (before : List Effect) → StandsFor before files → es ≡ entries (apply_all empty before))

-- Lives are run one after another, each on the files that the one before left.
abbrev pub AreRun : {F : Type 0} → (List Effect → F → Type 0) → F → List (Life F) → Type 0
AreRun StandsFor files [] = Unit {0}
AreRun StandsFor files (life ∷ later) = IsRunOn StandsFor files life × AreRun StandsFor life.left later

-- So it is of every list of lives from files that stand for some effects, wherever each stops.
abbrev pub PromiseFrom : {F : Type 0} → List Effect → (List Effect → F → Type 0) → F → Type 0
PromiseFrom {F} before StandsFor files = StandsFor before files → (lives : List (Life F)) → AreRun StandsFor files lives → OneList before lives

-- And from new files, which stand for none.
abbrev pub Promise : {F : Type 0} → (List Effect → F → Type 0) → F → Type 0
Promise {F} StandsFor new = (lives : List (Life F)) → AreRun StandsFor new lives → OneList [] lives

-- ---- the replies of a life

-- the map that the transactions have made that committed in these steps, one after another
abbrev pub committed_map : IndexMap → List (answers.Step × answers.Reply) → IndexMap
committed_map base trace = answers.map_after_all base (map (λ x. x.0) (serial [] trace))

-- The replies of a life are those of transactions one after another: each has the replies that it would get alone. Absent keys and ranges are included.
pub record IsAsAlone (base : IndexMap) (trace : List (answers.Step × answers.Reply)) : Type 0 where
  -- All that committed get them one whole transaction after another, in the order of their commits.
  pub committed : IsReplay base (serial [] trace)
  -- One that was rolled back gets them on the map committed just before.
  pub rolled_back : (front rest : List (answers.Step × answers.Reply)) (t : ℕ) (reply : answers.Reply) → trace ≡ front ++ (answers.Rollback t, reply) ∷ rest → (reply ≡ answers.More) ⊎ (reply ≡ answers.RolledBack) →
      IsReplay (committed_map base front) (finished t trace)
  -- What one took back, with all before it, it had been told on the map committed just before. From then on this counts as none of its replies.
  pub returned : (front rest : List (answers.Step × answers.Reply)) (t left : ℕ) (reply : answers.Reply) → trace ≡ front ++ (answers.RollTo t left, reply) ∷ rest → (reply ≡ answers.More) ⊎ (reply ≡ answers.Done) →
      IsReplay (committed_map base front) (finished t front)
  -- One that is still active gets them on the map committed now: it is going, or was told to roll back, or its commit waits for a Force.
  pub going : (t : ℕ) → MayRollBack (((shown_by nothing_shown trace).running t).mark) ⊎ (is_among t (queue_after_all [] trace) ≡ true) → IsReplay (committed_map base trace) (finished t trace)
