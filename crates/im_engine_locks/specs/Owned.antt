-- The two lists of an owner's locks beside the index of names.
use Rattle.std.specs.Prelude.{◌≡◌, ℕ, List, length, take}
use Rattle.im_theory_machine.specs.Locks.{Lock}
use Rattle.im_theory_machine.specs.Table.{Held, all_of}
use Rattle.im_engine_locks.specs.Index.{IsOnce, seen_all}
use Rattle.im_engine_locks.specs.Places.{Covers}
use Rattle.im_engine_locks.specs.declared.place.Span.TheVariants.{Lasting, Falling}
use Rattle.im_engine_locks.specs.declared.name_index.NameIndex.{NameIndex}
use Rattle.im_engine_locks.specs.declared.own_locks.OwnLocks.{OwnLocks}

-- the lists as they are seen
abbrev pub held_in : OwnLocks → Held
held_in own = record { lasting = seen_all own.lasting; falling = seen_all own.falling }

abbrev pub all_in : OwnLocks → List Lock
all_in own = all_of (held_in own)

-- both lists are as they were
pub record SameOwn (old new : OwnLocks) : Type 0 where
  pub lasting : new.lasting.items ≡ old.lasting.items
  pub falling : new.falling.items ≡ old.falling.items

-- each list has what it had as its front
pub record KeepsFront (old new : OwnLocks) : Type 0 where
  pub lasting : take (length old.lasting.items) new.lasting.items ≡ old.lasting.items
  pub falling : take (length old.falling.items) new.falling.items ≡ old.falling.items

-- the index of names has the place of each lock of t, and each list has each lock once
pub record IsKnown (ix : NameIndex) (t : ℕ) (h : Held) : Type 0 where
  pub lasting : Covers ix t Lasting h.lasting
  pub falling : Covers ix t Falling h.falling
  pub once : IsOnce h.lasting
  pub once_falling : IsOnce h.falling
