-- The nets of the unfinished transactions, between the committed map and what is in the tree.
use Rattle.std.specs.Prelude.{◌≡◌, ◌≢◌, ℕ}
use Rattle.std.specs.FinMap.{get}
use Rattle.im_base_types.specs.Keys.{Key}
use Rattle.im_base_types.specs.Maps.{IndexMap}
use Rattle.im_base_types.specs.Changes.{Effect, Touches, IsUndoable, apply}

-- The nets touch different keys, each can be taken back, and with the committed map they make the contents of the tree:
-- where no net but one touches a key, the tree has there what that net makes of the committed map.
pub record AreNets (committed contents : IndexMap) (nets : ℕ → Effect) : Type 0 where
  pub apart : (s t : ℕ) → s ≢ t → (x : Key) → Touches (nets s) x → Touches (nets t) x → ⊥
  pub undoable : (s : ℕ) → IsUndoable committed (nets s)
  pub makes : (s : ℕ) (x : Key) → ((t : ℕ) → t ≢ s → Touches (nets t) x → ⊥) → get contents x ≡ get (apply committed (nets s)) x
