-- What transactions change of the map.
use Rattle.std.specs.Prelude.{◌≡◌, ℕ, List, [], ◌∷◌, Option, Some, None, ◌⊎◌}
use Rattle.std.specs.FinMap.{get, insert, remove}
use Rattle.im_base_types.specs.Keys.{Key}
use Rattle.im_base_types.specs.Maps.{IndexMap}

-- one change: a key put at a row id where it was not, or dropped. A drop knows the row id that went, for its undo
pub data Change : Type 0 where
  Put : (key : Key) (rid : ℕ) → Change
  Drop : (key : Key) (rid : ℕ) → Change

-- the changes of one transaction, the newest first
abbrev pub Effect : Type 0
Effect = List Change

-- the key that is changed
abbrev pub key_of : Change → Key
key_of (Put k r) = k
key_of (Drop k r) = k

-- what its key had before the change
abbrev pub value_before : Change → Option ℕ
value_before (Put k r) = None
value_before (Drop k r) = Some r

-- the map with the change made
abbrev pub applied : IndexMap → Change → IndexMap
applied m (Put k r) = insert m k r
applied m (Drop k r) = remove m k

-- the map with the change taken back
abbrev pub undone : IndexMap → Change → IndexMap
undone m (Put k r) = remove m k
undone m (Drop k r) = insert m k r

-- the map with one transaction's changes made, the oldest, which stands last, first
abbrev pub apply : IndexMap → Effect → IndexMap
apply m [] = m
apply m (c ∷ cs) = applied (apply m cs) c

-- the map with the changes of several transactions made, one after another
abbrev pub apply_all : IndexMap → List Effect → IndexMap
apply_all m [] = m
apply_all m (e ∷ es) = apply_all (apply m e) es

-- a change of the list changes this key
abbrev pub Touches : Effect → Key → Type 0
Touches [] x = ⊥
Touches (c ∷ cs) x = (key_of c ≡ x) ⊎ Touches cs x

-- each change found its key as the undo would leave it: a put key was not there, a dropped key was there with that row id
abbrev pub IsUndoable : IndexMap → Effect → Type 0
IsUndoable base [] = Unit {0}
IsUndoable base (c ∷ cs) = (get (apply base cs) (key_of c) ≡ value_before c) × IsUndoable base cs

-- ---- as users see it, a drop names its key alone: the row id is forgotten, and stands as 0

abbrev pub seen_change : Change → Change
seen_change (Put k r) = Put k r
seen_change (Drop k r) = Drop k 0

abbrev pub seen_effect : Effect → Effect
seen_effect [] = []
seen_effect (c ∷ cs) = seen_change c ∷ seen_effect cs

abbrev pub seen : List Effect → List Effect
seen [] = []
seen (e ∷ es) = seen_effect e ∷ seen es
