-- A small run: the older of two transactions finds a key missing, and the younger one would put it there.
use Rattle.std.specs.Prelude.{ℕ, List, [], ◌∷◌}
use Rattle.std.specs.FinMap.{empty}
use Rattle.im_base_types.specs.Keys.{Key, key_order}
use Rattle.im_base_types.specs.Maps.{IndexMap}
use Rattle.im_base_types.specs.Refusals.{must_roll_back}
use Rattle.im_base_types.specs.Answers.{Fetch, Insert, Begin, Do, Started, Absent, Inserted, Die, Refused, MustRollBack}
use Rattle.im_theory_machine.specs.Locks.{Lock, PastAll}
use Rattle.im_theory_machine.specs.declared.lock_kind.Mode.TheVariants.{Shared}
use Rattle.im_theory_machine.specs.View.{View, begun, did, marked}
use Rattle.im_theory_machine.specs.Machine.{Moves, Run, start}

abbrev pub empty_map : IndexMap
empty_map = empty {X = ℕ} {R = key_order}

abbrev pub missing : Key
missing = 97 ∷ []

-- both have begun
abbrev pub both_begun : View
both_begun = begun (begun (start empty_map 1))

-- the name past the last key, shared
abbrev pub end_shared : List Lock
end_shared = record { name = PastAll; mode = Shared } ∷ []

-- the first one has read the gap, and holds its end
abbrev pub read : View
read = did both_begun 1 (Fetch missing) end_shared

-- the second one has died
abbrev pub told : View
told = marked read 2 MustRollBack

-- The first one finds the key missing; the second one, who would put it there, must die, and is then refused until it is rolled back. From where the gap was read no move puts the key there.
pub record AGapStays : Type 0 where
  pub younger_dies : Run (start empty_map 1)
      ((Begin, Started 1) ∷ (Begin, Started 2) ∷ (Do 1 (Fetch missing), Absent) ∷ (Do 2 (Insert missing 1), Die) ∷ (Do 2 (Insert missing 1), Refused must_roll_back) ∷ []) told
  pub never_put : (w : View) → Moves read (Do 2 (Insert missing 1)) Inserted w → ⊥
