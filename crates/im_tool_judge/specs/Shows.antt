-- What of a life's lines and replies is kept while they are read, as the definition of lives shows it.
use Rattle.std.specs.Prelude.{◌≡◌, ℕ, List, [], ◌∷◌, ◌++◌, Bool, true, false, if◌then◌else◌, ◌==◌, Option, None, Some}
use Rattle.im_base_types.specs.Answers.{Access, Insert, Delete, Inserted, Deleted, Mark, Idle, Going, MustRollBack, RollingBack, Returning, Committing, Step, Do}
use Rattle.im_base_types.specs.Changes as changes
use Rattle.im_base_types.specs.Changes.{Effect}
use Rattle.im_base_types.specs.Lives.{Running, Shown, idle, oldest, shown_change}
use Rattle.im_tool_judge.specs.declared.change.Change.{Change}
use Rattle.im_tool_judge.specs.declared.happened.Event.{Event}
use Rattle.im_tool_judge.specs.declared.happened.Found.{Found}
use Rattle.im_tool_judge.specs.declared.happened.Happened.{Happened}
use Rattle.im_tool_judge.specs.declared.happened.Happened.TheVariants.{Began, Changed, GoesOn, InsertEnded, DeleteEnded, Died, Turned, Returned, Resumed, Waited, Ended}
use Rattle.im_tool_judge.specs.declared.showing.Showing.{Showing}
use Rattle.im_tool_judge.specs.Judged.{asked_in, change_of, newest_before}

-- the access that makes a change
abbrev pub maker_of : changes.Change → Access
maker_of (changes.Put k r) = Insert k r
maker_of (changes.Drop k r) = Delete k

-- the access that goes on, by the change that it makes
abbrev pub pending_in : Option Change → Option Access
pending_in None = None
pending_in (Some change) = Some (maker_of (change_of change))

abbrev pub effect_in : Option Change → Effect
effect_in None = []
effect_in (Some change) = change_of change ∷ []

-- a transaction after what happened to it
abbrev pub behind : Happened → Running → Running
behind Began r = record { mark = Going; effect = []; pending = None }
behind (Changed change) r = record r { effect = change_of change ∷ r.effect }
behind (GoesOn change) r = record r { pending = Some (maker_of (change_of change)) }
behind InsertEnded r = record r { effect = shown_change r.pending Inserted ++ r.effect; pending = None }
behind DeleteEnded r = record r { effect = shown_change r.pending Deleted ++ r.effect; pending = None }
behind Died r = record r { mark = MustRollBack }
behind Turned r = record r { mark = RollingBack }
behind (Returned n) r = record r { mark = Returning n; effect = oldest n r.effect }
behind Resumed r = record r { mark = Going }
behind Waited r = record r { mark = Committing }
behind Ended r = idle

-- a transaction after all that happened, the oldest first
abbrev pub running_from : ℕ → Running → List Event → Running
running_from t r [] = r
running_from t r (e ∷ more) = running_from t (if t == e.txn then behind e.what r else r) more

-- What is kept is what is shown.
pub record KeepsShown (w : Showing) (s : Shown) : Type 0 where
  pub failed : w.failed ≡ s.failed
  pub running : (t : ℕ) → s.running t ≡ running_from t idle w.events.items
  pub asked : asked_in w.asked.items ≡ s.asked

-- the mark of a transaction that goes on with its accesses
abbrev pub is_going : Mark → Bool
is_going Idle = false
is_going Going = true
is_going MustRollBack = false
is_going RollingBack = false
is_going (Returning n) = false
is_going Committing = false

-- the transaction of an access
abbrev pub transaction_of_access : Step → Option ℕ
transaction_of_access (Do t access) = Some t
transaction_of_access _ = None

-- A transaction is found as it is.
pub record IsFound (f : Found) (r : Running) : Type 0 where
  pub mark : f.going ≡ is_going r.mark
  pub effect : r.effect ≡ newest_before f.changes.items []
  pub pending : r.pending ≡ pending_in f.pending
