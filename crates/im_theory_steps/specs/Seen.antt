-- The log as the machine of transactions sees it, and what users are shown of the machine.
use Rattle.std.specs.Prelude.{◌≡◌, ◌⊎◌, ℕ, true, false, List, [], ◌∷◌, ◌++◌, Option, None, Some}
use Rattle.im_base_types.specs.Changes.{Effect, Drop, apply_all, seen_effect}
use Rattle.im_base_types.specs.Answers.{Access, Fetch, Seek, Next, Prev, Scan, Insert, Delete, Mark, Idle, Returning, Committing}
use Rattle.im_theory_log.specs.Histories.{History, Base}
use Rattle.im_theory_log.specs.Transactions.{committed, contents, net}
use Rattle.im_base_types.specs.Lives.{Shown, oldest}
use Rattle.im_theory_machine.specs.View.{View, pending_of, is_among, nets_of, MayRollBack}

-- The log's effects are the finished ones, which made the machine's committed map, and then the nets of those that wait for a force. Of one that waits the log says that nothing is left of it, and of each other its net; the walk is the log's.
pub record IsSeen (b : Base) (log : History) (v : View) : Type 0 where
  pub finished : List Effect
  pub all : committed log ≡ finished ++ nets_of v.txns v.queue
  pub answered : v.committed ≡ apply_all b.map finished
  pub walk : v.walk ≡ contents b log
  pub nets : (t : ℕ) → is_among t v.queue ≡ false → (v.txns t).net ≡ net t log
  pub over : (t : ℕ) → is_among t v.queue ≡ true → net t log ≡ []

-- the mark that is shown: the machine's, or still that its Commit waits, where a force has finished it
abbrev pub IsMarkShown : Mark → Mark → Type 0
IsMarkShown shown mark = (shown ≡ mark) ⊎ ((shown ≡ Committing) × (mark ≡ Idle))

-- a Delete that goes on has changed the machine's net, and is shown with the reply that ends it
abbrev pub drop_by : Access → Effect
drop_by (Fetch k) = []
drop_by (Seek k) = []
drop_by (Next k) = []
drop_by (Prev k) = []
drop_by (Scan lo hi n) = []
drop_by (Insert k r) = []
drop_by (Delete k) = Drop k 0 ∷ []

abbrev pub drop_of : Option Access → Effect
drop_of None = []
drop_of (Some a) = drop_by a

-- Steps and replies have shown of each transaction its mark, its Insert or Delete that goes on and, until it rolls back, its effect: where it returns, that of the changes which are to be left.
pub record IsShownBy (s : Shown) (v : View) : Type 0 where
  pub failed : s.failed ≡ v.failed
  pub marks : (t : ℕ) → IsMarkShown ((s.running t).mark) ((v.txns t).mark)
  pub pending : (t : ℕ) → (s.running t).pending ≡ pending_of v.under t
  pub effects : (t : ℕ) → MayRollBack ((v.txns t).mark) → drop_of (pending_of v.under t) ++ (s.running t).effect ≡ seen_effect ((v.txns t).net)
  pub returns : (t n : ℕ) → (v.txns t).mark ≡ Returning n → (s.running t).effect ≡ oldest n (seen_effect ((v.txns t).net))
