-- What a call for a copy makes of a store that is open, and what it is told.
use Rattle.std.specs.Prelude.{◌≡◌, ◌<◌, ◌≤◌, ◌⊎◌, ◌^◌, false, Option, None, Some, Result, Ok, Err}
use Rattle.im_base_types.specs.declared.fault.Fault.{Fault}
use Rattle.im_base_types.specs.Faults.{number_of}
use Rattle.im_base_disk.specs.declared.disk.Disk.{Ghosts}
use Rattle.im_base_mirror_disk.specs.declared.mirrored.Mirrored.{Mirrored}
use Rattle.im_base_mirror_disk.specs.declared.piece.Piece.{Piece}
use Rattle.im_base_mirror_disk.specs.declared.piece.Piece.TheVariants as pieces
use Rattle.im_store.specs.Copies.{IsCopied, IsCopyBegun, IsCopyEnd}
use Rattle.im_store.specs.declared.open_store.OpenStore.{OpenStore}
use Rattle.im_calls.specs.declared.call.Call.{Call}
use Rattle.im_calls.specs.Calls.{TellsWord, Refuses}
use Rattle.im_calls.specs.declared.opened.Opened.{Opened}

-- a piece is told as More, where some bytes were copied; End, where nothing is left; Absent, where there is no copy; or as the refusal
abbrev pub TellsPiece : Call → Result Piece Fault → Type 0
TellsPiece told (Ok pieces.More) = TellsWord told 11 0
TellsPiece told (Ok pieces.Last) = TellsWord told 4 0
TellsPiece told (Ok pieces.None) = TellsWord told 2 0
TellsPiece told (Err fault) = Refuses told (number_of fault)

-- a copy that has ended is told as Done, none as Absent
abbrev pub TellsCopy : {T : Type 0} → Call → Result (Option T) Fault → Type 0
TellsCopy told (Ok (Some _)) = TellsWord told 14 0
TellsCopy told (Ok None) = TellsWord told 2 0
TellsCopy told (Err fault) = Refuses told (number_of fault)

module _ {D T : Type 0} (d : Ghosts D) (t : Ghosts T) (m : Ghosts (Mirrored D T d t)) where
  -- No step was made: upkeep is as it was.
  abbrev pub SameUpkeep : OpenStore (Mirrored D T d t) m → OpenStore (Mirrored D T d t) m → Type 0
  SameUpkeep old new = (new.upkeep ≡ old.upkeep) × (new.unkept ≡ old.unkept)

  -- a copy was begun into these files, and that is told
  pub record IsBegun (to : T) (told : Call) (old new : OpenStore (Mirrored D T d t) m) : Type 0 where
    pub begun : IsCopyBegun d t m old.engine new.engine to
    pub upkeep : SameUpkeep old new
    pub tells : TellsWord told 14 0

  -- a piece of 65,536 bytes at most was made, and what it came to is told
  pub record IsPieceMade (told : Call) (old new : OpenStore (Mirrored D T d t) m) : Type 0 where
    pub result : Result Piece Fault
    pub made : IsCopied d t m old.engine new.engine 65536 result
    pub upkeep : SameUpkeep old new
    pub tells : TellsPiece told result

  -- the copy was ended, and what that came to is told
  pub record IsCopyEnded (told : Call) (old new : OpenStore (Mirrored D T d t) m) : Type 0 where
    pub result : Result (Option T) Fault
    pub made : IsCopyEnd d t m old.engine new.engine result
    pub upkeep : SameUpkeep old new
    pub tells : TellsCopy told result

  -- One begins into these files, over the descriptors that are asked; a number that no descriptor has is answered as a device that fails.
  pub record IsBegunOver (to : T) (asked told : Call) (old new : Opened (Mirrored D T d t) m) : Type 0 where
    pub none : (2 ^ 31 ≤ asked.key_len) ⊎ (2 ^ 31 ≤ asked.hi_len) → Refuses told 8 × (new ≡ old)
    pub begun : asked.key_len < 2 ^ 31 → asked.hi_len < 2 ^ 31 → IsBegun to told old.store new.store
