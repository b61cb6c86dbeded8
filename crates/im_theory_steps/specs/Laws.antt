-- How log, machine and replies go on together.
use Rattle.std.specs.Prelude.{◌≡◌, ℕ, false, List, [], ◌∷◌, Some}
use Rattle.im_base_types.specs.Maps.{IndexMap}
use Rattle.im_base_types.specs.Changes.{Change, key_of}
use Rattle.im_theory_log.specs.Histories.{History, Base}
use Rattle.im_theory_log.specs.Lawful as lawful
use Rattle.im_base_types.specs.Answers.{Access, Step, Reply, Going, changes}
use Rattle.im_base_types.specs.Lives.{Shown, shows}
use Rattle.im_theory_machine.specs.Locks.{Lock, IsFree}
use Rattle.im_theory_machine.specs.Rows.{asked}
use Rattle.im_theory_machine.specs.View.{View, locks_in, did, committed_by, undid_more, undid_last, queued, forced_by, is_among}
use Rattle.im_theory_machine.specs.Machine.{Moves, IsReached}
use Rattle.im_theory_steps.specs.Growth.{Stays, Adds, TakesBack, Commits}
use Rattle.im_theory_steps.specs.Seen.{IsSeen, IsShownBy}

-- Whoever is granted the locks of a change finds its key in no other net of the log.
abbrev pub GrantedKeysAreFree : Type 0
GrantedKeysAreFree = (base : IndexMap) (b : Base) (log : History) (v : View) (t : ℕ) (a : Access) (c : Change) → IsReached base v → IsSeen b log v → v.failed ≡ false → (v.txns t).mark ≡ Going
    → IsFree (locks_in v) t (asked a v.walk) → changes a v.walk ≡ c ∷ [] → lawful.IsFree t (key_of c) log

-- What the log becomes is what the machine goes on to.
pub record LogAndViewGoTogether : Type 0 where
  pub stays : (b : Base) (older longer : History) (v : View) → IsSeen b older v → Stays b older longer → IsSeen b longer v
  pub reads : (b : Base) (older longer : History) (v : View) (t : ℕ) (a : Access) (ls : List Lock) → IsSeen b older v → is_among t v.queue ≡ false → changes a v.walk ≡ [] → Stays b older longer → IsSeen b longer (did v t a ls)
  pub adds : (b : Base) (older longer : History) (v : View) (t : ℕ) (a : Access) (c : Change) (ls : List Lock) → IsSeen b older v → is_among t v.queue ≡ false → changes a v.walk ≡ c ∷ [] → Adds b t c older longer → IsSeen b longer (did v t a ls)
  pub takes_back : (b : Base) (older longer : History) (v : View) (t : ℕ) (c : Change) (cs : List Change) → IsSeen b older v → is_among t v.queue ≡ false → (v.txns t).net ≡ c ∷ cs → TakesBack b t c older longer → IsSeen b longer (undid_more v t c cs)
  pub takes_last : (b : Base) (older longer : History) (v : View) (t : ℕ) (c : Change) → IsSeen b older v → is_among t v.queue ≡ false → (v.txns t).net ≡ c ∷ [] → TakesBack b t c older longer → IsSeen b longer (undid_last v t c)
  -- a Commit at once, where nobody waits
  pub commits : (b : Base) (older longer : History) (v : View) (t : ℕ) → IsSeen b older v → v.queue ≡ [] → Commits b t older longer → IsSeen b longer (committed_by v t)
  -- one that waits, and the force
  pub queues : (b : Base) (older longer : History) (v : View) (t : ℕ) → IsSeen b older v → is_among t v.queue ≡ false → Commits b t older longer → IsSeen b longer (queued v t)
  pub forces : (b : Base) (log : History) (v : View) → IsSeen b log v → IsSeen b log (forced_by v)

-- Each step of the machine shows what it does.
abbrev pub MovesAreShown : Type 0
MovesAreShown = (base : IndexMap) (s : Shown) (v w : View) (step : Step) (reply : Reply) → IsReached base v → IsShownBy s v → Moves v step reply w → IsShownBy (shows s step (Some reply)) w

-- A machine that was reached is reached after a step.
abbrev pub MovesReach : Type 0
MovesReach = (base : IndexMap) (v w : View) (step : Step) (reply : Reply) → IsReached base v → Moves v step reply w → IsReached base w
