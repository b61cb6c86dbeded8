-- What a judge of openings says.
use Rattle.std.specs.Prelude.{◌≡◌, ◌⊎◌, ℕ, List, [], ◌∷◌, map, Result, Ok, Err}
use Rattle.std.specs.Global.{Vec}
use Rattle.std.specs.FinMap.{empty, entries}
use Rattle.std.specs.FinMap.Entries as lists
use Rattle.im_base_types.specs.declared.fault.Fault.{Fault}
use Rattle.im_base_types.specs.declared.fault.Fault.TheVariants.{PoolSize, Workers}
use Rattle.im_base_types.specs.Changes as changes
use Rattle.im_base_types.specs.Changes.{Effect, applied, apply_all}
use Rattle.im_base_types.specs.Keys.{Key, key_order}
use Rattle.im_base_types.specs.Lives.{Asked, Survives}
use Rattle.im_base_types.specs.Maps.{IndexMap}
use Rattle.im_base_types.specs.Pages.{Entry}
use Rattle.im_tool_judge.specs.declared.change.Change.{Change}
use Rattle.im_tool_judge.specs.declared.change.Change.TheVariants.{Insertion, Deletion}
use Rattle.im_tool_judge.specs.declared.change.AskedEffect.{AskedEffect}

-- a change as the definitions have it; a drop names its key alone
abbrev pub change_of : Change → changes.Change
change_of (Insertion key rid) = changes.Put key.items rid
change_of (Deletion key) = changes.Drop key.items 0

-- changes in the order in which they were made, in front of an effect, which has the newest first
abbrev pub newest_before : List Change → Effect → Effect
newest_before [] e = e
newest_before (c ∷ cs) e = newest_before cs (change_of c ∷ e)

abbrev pub asked_effect : AskedEffect → Asked
asked_effect a = record { txn = a.txn; effect = newest_before a.changes.items []; acked = a.acked }

abbrev pub asked_in : List AskedEffect → List Asked
asked_in asked = map asked_effect asked

-- The entries are those of what a life that asked this may leave of an empty store: of a front of the effects that it asked, in which each
-- that was acknowledged is.
pub record IsAllowed (asked : List AskedEffect) (found : List Entry) : Type 0 where
  pub after : List Effect
  pub survives : Survives [] (asked_in asked) after
  pub is : found ≡ entries (apply_all empty after)

-- Such a refusal says nothing against a store: the frames or the workers are too few or too many.
abbrev pub IsPassedOver : Fault → Type 0
IsPassedOver fault = (fault ≡ PoolSize) ⊎ (fault ≡ Workers)

-- The entries are allowed, or what hid them says nothing against the store.
abbrev pub IsGood : List AskedEffect → Result (Vec Entry) Fault → Type 0
IsGood asked (Ok found) = IsAllowed asked found.items
IsGood asked (Err fault) = IsPassedOver fault

-- entries with keys that lie elsewhere in memory
abbrev pub held_entries : List (Vec ℕ × ℕ) → List Entry
held_entries es = map (λ e. (e.0.items, e.1)) es

-- entries with a row id put at a key, in its place among them
abbrev pub with_entry : Key → ℕ → List Entry → List Entry
with_entry k v es = lists.put key_order k v es

-- a map with changes made in turn
abbrev pub made_in_turn : IndexMap → List Change → IndexMap
made_in_turn m [] = m
made_in_turn m (c ∷ cs) = made_in_turn (applied m (change_of c)) cs
