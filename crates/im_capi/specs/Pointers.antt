-- What lies at the pointers that C hands in.
use Rattle.std.specs.Prelude.{◌≡◌, None}
use Prim.Native.Nat.{ℕ}
use base.Fml.{Fml, fex, fsep}
use base.Fraction.{full_share}
use prog.Memory.{size, capped}
use denote.Memory.{lone}
use denote.RawPtr.{Ptr, lies_at, room_at}
use Rattle.im_calls.specs.contracts.call.Call.{the_row as Call}
use Rattle.im_calls.specs.contracts.opening.Opening.{the_row as Opening}
use Rattle.im_calls.specs.contracts.session.Session.{the_row as Pot}
use Rattle.im_calls.specs.Made.{Makes, Opens}

-- how many bytes a store takes, as `size_of` has it
abbrev pub bytes_of_store : ℕ
bytes_of_store = capped (size (lone Pot.mir))

-- room for a store, whatever it holds
abbrev pub room_for_store : Ptr → Fml
room_for_store p = room_at Pot p

-- a store and a question to it
abbrev pub Question : Type 0
Question = Pot.Denot × Call.Denot

-- the store
abbrev pub store_at : Ptr → Question → Fml
store_at p q = lies_at Pot full_share p q.0

-- the question
abbrev pub call_at : Ptr → Question → Fml
call_at p q = lies_at Call full_share p q.1

-- a store that is not open, and no load
abbrev pub blank_at : Ptr → Fml
blank_at p = fex Pot.Denot (λ store. fex ((store.store ≡ None) × (store.load ≡ None)) (λ _. lies_at Pot full_share p store))

-- what `made` leaves of them: the store, and what the question is told
abbrev pub made_at : Ptr → Ptr → Question → Fml
made_at p r q = fex Pot.Denot (λ left. fex Call.Denot (λ told. fex (Makes q.1 told q.0 left) (λ _. fsep (lies_at Pot full_share p left) (lies_at Call full_share r told))))

-- a store and an opening of it
abbrev pub ToOpen : Type 0
ToOpen = Pot.Denot × Opening.Denot

-- the store
abbrev pub store_to_open_at : Ptr → ToOpen → Fml
store_to_open_at p q = lies_at Pot full_share p q.0

-- what the opening asks
abbrev pub opening_at : Ptr → ToOpen → Fml
opening_at p q = lies_at Opening full_share p q.1

-- what `open` leaves of them: the store, and what the opening is told
abbrev pub opened_at : Ptr → Ptr → ToOpen → Fml
opened_at p r q = fex Pot.Denot (λ left. fex Opening.Denot (λ told. fex (Opens q.1 told q.0 left) (λ _. fsep (lies_at Pot full_share p left) (lies_at Opening full_share r told))))
