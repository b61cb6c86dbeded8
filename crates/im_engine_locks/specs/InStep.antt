-- The lock table as its contracts see it.
use Rattle.std.specs.Prelude.{ℕ, map}
use Rattle.std.specs.HashMap.{HashMap}
use Rattle.im_theory_machine.specs.Table.{Table, held_of}
use Rattle.im_engine_locks.specs.Owned.{held_in, IsKnown}
use Rattle.im_engine_locks.specs.declared.name_index.NameIndex.{NameIndex}
use Rattle.im_engine_locks.specs.declared.own_locks.OwnLocks.{OwnLocks}

-- the owners with their locks
abbrev pub owned : {S : Type 0} → HashMap ℕ OwnLocks S → Table
owned owners = map (λ e. (e.0, held_in e.1)) owners.entries

-- the index of names has the place of each lock of each owner, and each list has each lock once
pub record IsInStep (names : NameIndex) (table : Table) : Type 0 where
  pub known : (s : ℕ) → IsKnown names s (held_of table s)
