-- What a return within a transaction leaves: of its map, its story and its locks.
use Rattle.std.specs.Prelude.{◌≡◌, ◌≤◌, ◌<◌, ℕ, List, map, length, None, ◌⊎◌}
use Rattle.im_base_types.specs.Maps.{IndexMap}
use Rattle.im_base_types.specs.Changes.{apply}
use Rattle.im_base_types.specs.Answers.{Step, RollTo, Continue, Reply, More, Done, Going, Returning, map_after_all}
use Rattle.im_base_types.specs.Lives.{oldest}
use Rattle.im_theory_machine.specs.View.{View, MayRollBack, pending_of, own_locks}
use Rattle.im_theory_machine.specs.Machine.{Moves, Run, start}
use Rattle.im_theory_machine.specs.Isolation.{IsReplay, count_changes, finished}

-- a RollTo that was answered changes no map, no net and no locks, and its transaction is going where it had no more changes
pub record IsTurned (v w : View) (t n : ℕ) (reply : Reply) : Type 0 where
  pub may : MayRollBack ((v.txns t).mark)
  pub committed : w.committed ≡ v.committed
  pub walk : w.walk ≡ v.walk
  pub net : (w.txns t).net ≡ (v.txns t).net
  pub locks : (s : ℕ) → own_locks w s ≡ own_locks v s
  pub on : ((reply ≡ Done) × (length ((v.txns t).net) ≤ n) × ((w.txns t).mark ≡ Going)) ⊎ ((reply ≡ More) × (n < length ((v.txns t).net)) × ((w.txns t).mark ≡ Returning n))

-- a Continue that was answered Done: as many changes are left as it returned to, its locks are as they were, and it is going
pub record IsBack (v w : View) (t : ℕ) : Type 0 where
  pub left : ℕ
  pub from : (v.txns t).mark ≡ Returning left
  pub count : length ((w.txns t).net) ≡ left
  pub committed : w.committed ≡ v.committed
  pub locks : (s : ℕ) → own_locks w s ≡ own_locks v s
  pub going : (w.txns t).mark ≡ Going

pub record ReturnsStand (base : IndexMap) (next : ℕ) : Type 0 where
  pub turns : (v w : View) (t n : ℕ) (reply : Reply) → (reply ≡ More) ⊎ (reply ≡ Done) → Moves v (RollTo t n) reply w → IsTurned v w t n reply
  -- while it returns to n changes it has n or more; what stands of its story is, on the map committed now, what it would be told alone, and leaves what its first n changes leave
  pub within : (trace : List (Step × Reply)) (v : View) → Run (start base next) trace v → (t n : ℕ) → (v.txns t).mark ≡ Returning n →
      (n ≤ length ((v.txns t).net)) × IsReplay v.committed (finished t trace) × (apply v.committed (oldest n ((v.txns t).net)) ≡ map_after_all v.committed (map (λ f. f.0) (finished t trace)))
  pub back : (v w : View) (t : ℕ) → Moves v (Continue t) Done w → IsBack v w t
  -- one that is going, with no access that goes on: its net is what stands of its story, and it has as many changes as there are replies of changes in it
  pub counted : (trace : List (Step × Reply)) (v : View) → Run (start base next) trace v → (t : ℕ) → MayRollBack ((v.txns t).mark) → pending_of v.under t ≡ None →
      (length ((v.txns t).net) ≡ count_changes (finished t trace)) × (apply v.committed ((v.txns t).net) ≡ map_after_all v.committed (map (λ f. f.0) (finished t trace)))
