-- What it is that each transaction of a run is as good as alone.
use Rattle.std.specs.Prelude.{◌≡◌, ◌≢◌, ℕ, suc, nat_lt, ◌==◌, ◌&&◌, Bool, true, false, cond, List, [], ◌∷◌, ◌++◌, map, reverse, Option, None, Some, ◌⊎◌}
use Rattle.std.specs.FinMap.{get}
use Rattle.im_base_types.specs.Keys.{Key}
use Rattle.im_base_types.specs.Maps.{IndexMap}
use Rattle.im_base_types.specs.Changes.{Change, Touches, apply, key_of}
use Rattle.im_base_types.specs.Answers.{Access, Step, Begin, Do, Commit, Rollback, Continue, RollTo, FlushPage, Force, Checkpoint, Switch, Reply, Inserted, Deleted, Committed, RolledBack, More, Done, Going, Committing, changes, is_answer, answer, replay, map_after_all}
use Rattle.im_theory_machine.specs.Locks.{IsFree}
use Rattle.im_theory_machine.specs.Rows.{asked}
use Rattle.im_theory_machine.specs.View.{View, MayRollBack, map_behind, locks_in}
use Rattle.im_theory_machine.specs.Machine.{Moves, Run, start, IsReached}

-- an access that goes on, with the reply that ends it
abbrev pub answered_with : Option Access → Reply → List (Access × Reply)
answered_with None r = []
answered_with (Some a) r = (a, r) ∷ []

-- the access of t that a step with its reply finished, of which this one may go on
abbrev pub access_of : ℕ → Option Access → Step → Reply → List (Access × Reply)
access_of t o (Do u a) r = cond (is_answer r && u == t) ((a, r) ∷ []) []
access_of t o (Continue u) r = cond (is_answer r && u == t) (answered_with o r) []
access_of t o Begin r = []
access_of t o (Commit u) r = []
access_of t o (Rollback u) r = []
access_of t o (RollTo u n) r = []
access_of t o (FlushPage p) r = []
access_of t o Force r = []
access_of t o Checkpoint r = []
access_of t o Switch r = []

abbrev pub is_more : Reply → Bool
is_more More = true
is_more _ = false

-- the access of t that goes on after a step with its reply: More to an access lets it go on, and a later answer ends it
abbrev pub pending_after : ℕ → Option Access → Step → Reply → Option Access
pending_after t o (Do u a) r = cond (is_more r && u == t) (Some a) o
pending_after t o (Continue u) r = cond (is_answer r && u == t) None o
pending_after t o Begin r = o
pending_after t o (Commit u) r = o
pending_after t o (Rollback u) r = o
pending_after t o (RollTo u n) r = o
pending_after t o (FlushPage p) r = o
pending_after t o Force r = o
pending_after t o Checkpoint r = o
pending_after t o Switch r = o

-- whether a reply is of a change
abbrev pub is_change : Reply → Bool
is_change Inserted = true
is_change Deleted = true
is_change _ = false

-- of how many changes a story is
abbrev pub count_changes : List (Access × Reply) → ℕ
count_changes [] = 0
count_changes (f ∷ fs) = cond (is_change f.1) (suc (count_changes fs)) (count_changes fs)

-- a story, newest first, as it was while it was of n changes or fewer
abbrev pub kept_story : ℕ → List (Access × Reply) → List (Access × Reply)
kept_story n [] = []
kept_story n (f ∷ fs) = cond (nat_lt n (count_changes (f ∷ fs))) (kept_story n fs) (f ∷ fs)

-- whether a reply to RollTo says that changes are taken back, or that none had to be
abbrev pub is_return : Reply → Bool
is_return More = true
is_return Done = true
is_return _ = false

-- what stands of t's story, newest first, after a step with its reply: of a RollTo of it only what came before the change after its n-th
abbrev pub kept_after : ℕ → Step → Reply → List (Access × Reply) → List (Access × Reply)
kept_after t (RollTo u n) r story = cond (is_return r && u == t) (kept_story n story) story
kept_after t Begin r story = story
kept_after t (Do u a) r story = story
kept_after t (Commit u) r story = story
kept_after t (Rollback u) r story = story
kept_after t (Continue u) r story = story
kept_after t (FlushPage p) r story = story
kept_after t Force r story = story
kept_after t Checkpoint r story = story
kept_after t Switch r story = story

-- the story of t that stands after a trace, newest first, with what stood before it and the access that goes on there
abbrev pub story_from : ℕ → Option Access → List (Access × Reply) → List (Step × Reply) → List (Access × Reply)
story_from t o story [] = story
story_from t o story (e ∷ es) = story_from t (pending_after t o e.0 e.1) (access_of t o e.0 e.1 ++ kept_after t e.0 e.1 story) es

-- the finished accesses of t in a trace, with their replies, in order, but for what t took back
abbrev pub finished : ℕ → List (Step × Reply) → List (Access × Reply)
finished t es = reverse (story_from t None [] es)

-- the transaction's finished replies are those that it would get alone, on this map
abbrev pub IsReplay : IndexMap → List (Access × Reply) → Type 0
IsReplay base fs = replay base (map (λ f. f.0) fs) ≡ map (λ f. f.1) fs

-- the transactions whose Commit waits for a force after a step with its reply
abbrev pub queue_after : List ℕ → Step → Reply → List ℕ
queue_after queue (Commit t) More = queue ++ t ∷ []
queue_after queue Force Done = []
queue_after queue _ _ = queue

-- and after a trace, in the order of their Commits
abbrev pub queue_after_all : List ℕ → List (Step × Reply) → List ℕ
queue_after_all queue [] = queue
queue_after_all queue (e ∷ es) = queue_after_all (queue_after queue e.0 e.1) es

-- the finished accesses of these, one whole transaction after another
abbrev pub finished_all : List (Step × Reply) → List ℕ → List (Access × Reply)
finished_all front [] = []
finished_all front (t ∷ ts) = finished t front ++ finished_all front ts

-- the finished accesses of the transaction whose Commit is answered here, if one is, or of those that a force finishes
abbrev pub committed_in : List (Step × Reply) → Step → Reply → List (Access × Reply)
committed_in front (Commit t) Committed = finished t front
committed_in front Force Done = finished_all front (queue_after_all [] front)
committed_in front _ _ = []

-- The serial run: after this front of a trace, the finished accesses of the committed transactions with their replies, one whole transaction after another,
-- in the order of their Commits.
abbrev pub serial : List (Step × Reply) → List (Step × Reply) → List (Access × Reply)
serial front [] = []
serial front (e ∷ es) = committed_in front e.0 e.1 ++ serial (front ++ e ∷ []) es

-- the walk is the committed map with the nets, which touch different keys
pub record IsTogether (v : View) : Type 0 where
  pub apart : (s t : ℕ) → s ≢ t → (x : Key) → Touches ((v.txns s).net) x → Touches ((v.txns t).net) x → ⊥
  pub untouched : (x : Key) → ((t : ℕ) → Touches ((v.txns t).net) x → ⊥) → get v.walk x ≡ get v.committed x
  pub touched : (t : ℕ) (x : Key) → Touches ((v.txns t).net) x → get v.walk x ≡ get (apply v.committed ((v.txns t).net)) x

-- each transaction of a run is as good as alone
pub record Isolates (base : IndexMap) (next : ℕ) : Type 0 where
  -- on the map committed now, while it is going or told to roll back, or its Commit waits for a force
  pub going : (trace : List (Step × Reply)) (v : View) → Run (start base next) trace v →
      (t : ℕ) → MayRollBack ((v.txns t).mark) ⊎ ((v.txns t).mark ≡ Committing) → IsReplay v.committed (finished t trace)
  -- those that wait are the ones that the trace says
  pub waiting : (trace : List (Step × Reply)) (v : View) → Run (start base next) trace v → v.queue ≡ queue_after_all [] trace
  -- on the map before its place in commit order, once a force has finished it
  pub by_force : (front rest : List (Step × Reply)) (v w end : View) → Run (start base next) front v → Moves v Force Done w → Run w rest end →
      (ts us : List ℕ) (t : ℕ) → v.queue ≡ ts ++ t ∷ us → IsReplay (map_behind v.committed v.txns ts) (finished t (front ++ (Force, Done) ∷ rest))
  -- on the map before its place in commit order, once it has committed
  pub committed : (front rest : List (Step × Reply)) (v w end : View) → Run (start base next) front v → (t : ℕ) → Moves v (Commit t) Committed w → Run w rest end →
      IsReplay v.committed (finished t (front ++ (Commit t, Committed) ∷ rest))
  -- and then the map committed is the one that it leaves alone
  pub adds : (front : List (Step × Reply)) (v w : View) → Run (start base next) front v → (t : ℕ) → Moves v (Commit t) Committed w →
      w.committed ≡ map_after_all v.committed (map (λ f. f.0) (finished t front))
  -- so the committed map and the replies of all that committed are those of a serial run from the base
  pub in_order : (trace : List (Step × Reply)) (v : View) → Run (start base next) trace v →
      (v.committed ≡ map_after_all base (map (λ f. f.0) (serial [] trace))) × IsReplay base (serial [] trace)
  -- on the map committed just before its Rollback, once that was answered
  pub rolled_back : (front rest : List (Step × Reply)) (v w end : View) → Run (start base next) front v → (t : ℕ) (reply : Reply) → (reply ≡ More) ⊎ (reply ≡ RolledBack) → Moves v (Rollback t) reply w → Run w rest end →
      IsReplay v.committed (finished t (front ++ (Rollback t, reply) ∷ rest))
  -- on the map committed just then, what it had been told before a RollTo that was answered, with what this takes back
  pub returned : (front : List (Step × Reply)) (v w : View) → Run (start base next) front v → (t n : ℕ) (reply : Reply) → (reply ≡ More) ⊎ (reply ≡ Done) → Moves v (RollTo t n) reply w → IsReplay v.committed (finished t front)
  -- no other reply changes the map committed, but that of a force for which some wait
  pub stays : (v w : View) (step : Step) (reply : Reply) → Moves v step reply w → reply ≢ Committed → (step ≡ Force → reply ≡ Done → v.queue ≡ []) → w.committed ≡ v.committed
  -- between any two steps the nets are apart and the walk is the committed map with all of them
  pub together : (trace : List (Step × Reply)) (v : View) → Run (start base next) trace v → IsTogether v
  -- and is the committed map where no transaction is going on
  pub quiet : (trace : List (Step × Reply)) (v : View) → Run (start base next) trace v → ((t : ℕ) → (v.txns t).net ≡ []) → v.walk ≡ v.committed

-- Whoever is granted the locks of a change finds its key in no other transaction's net.
abbrev pub GrantedChangesAreFree : Type 0
GrantedChangesAreFree = (base : IndexMap) (v : View) → IsReached base v → v.failed ≡ false → (t : ℕ) (a : Access) (c : Change) → (v.txns t).mark ≡ Going →
    IsFree (locks_in v) t (asked a v.walk) → changes a v.walk ≡ c ∷ [] → (u : ℕ) → u ≢ t → Touches ((v.txns u).net) (key_of c) → ⊥

-- What a reader who holds nothing finds free to be read is as it was committed: the answer on the walk is the one on the committed map.
abbrev pub FreeReadsAreCommitted : Type 0
FreeReadsAreCommitted = (base : IndexMap) (v : View) → IsReached base v → v.failed ≡ false → (t : ℕ) (a : Access) → (v.txns t).net ≡ [] →
    IsFree (locks_in v) t (asked a v.walk) → answer a v.committed ≡ answer a v.walk
