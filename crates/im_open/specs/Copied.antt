-- What a copy into a folder makes of a store that is open.
use Rattle.std.specs.Prelude.{◌≡◌, ◌≢◌, ◌⊎◌, ◌+◌, ◌-◌, ◌^◌, ℕ, false, None, Some, Result, Ok, Err}
use Rattle.im_base_types.specs.declared.fault.Fault.{Fault}
use Rattle.im_base_disk.specs.declared.disk.Disk.{Ghosts}
use Rattle.im_base_mirror_disk.specs.declared.mirrored.Mirrored.{Mirrored}
use Rattle.im_base_mirror_disk.specs.declared.piece.Piece.{Piece}
use Rattle.im_base_mirror_disk.specs.declared.piece.Piece.TheVariants as pieces
use Rattle.im_engine.specs.declared.engine.Engine.{Engine}
use Rattle.im_files_disk.specs.declared.open_error.OpenError.{OpenError}
use Rattle.im_store.specs.Copies.{IsCopied, IsCopyBegun, IsCopyEnd}
use Rattle.im_store.specs.declared.open_store.OpenStore.{OpenStore}
use Rattle.im_open.specs.declared.copies.NotCopied.{NotCopied}
use Rattle.im_open.specs.declared.copies.NotCopied.TheVariants as causes

-- Beside its disk a store is as it was.
pub record OnlyItsDisk {D : Type 0} (d : Ghosts D) (old new : OpenStore D d) : Type 0 where
  pub upkeep : new.upkeep ≡ old.upkeep
  pub unkept : new.unkept ≡ old.unkept
  pub writer : new.engine.writer ≡ old.engine.writer
  pub max_pages : new.engine.max_pages ≡ old.engine.max_pages
  pub dense : new.engine.dense ≡ old.engine.dense
  pub report : new.engine.report ≡ old.engine.report
  pub txns : new.engine.txns ≡ old.engine.txns
  pub locks : new.engine.locks ≡ old.engine.locks
  pub failed : new.engine.failed ≡ old.engine.failed
  pub stepped : new.engine.stepped ≡ old.engine.stepped
  pub under : new.engine.under ≡ old.engine.under

module _ {D T : Type 0} (d : Ghosts D) (t : Ghosts T) (m : Ghosts (Mirrored D T d t)) where
  -- A copy was begun into files that came from there, whose disk works.
  pub record HasBegun (makes : T → Type 0) (old new : Engine (Mirrored D T d t) m) : Type 0 where
    pub to : T
    pub handed : makes to
    pub working : t.failed to ≡ false
    pub begun : IsCopyBegun d t m old new to

  -- Why none was begun: the folder refused its files so.
  abbrev pub IsNotBegun : (OpenError → Type 0) → NotCopied → Type 0
  IsNotBegun refuses (causes.Files error) = refuses error
  IsNotBegun refuses error = ⊥

  -- So many pieces were copied, one after another, of so many bytes at most each.
  pub data ArePieces (n : ℕ) (old : Engine (Mirrored D T d t) m) : ℕ → Engine (Mirrored D T d t) m → Type 0 where
    none : ArePieces n old 0 old
    more : (count : ℕ) (mid new : Engine (Mirrored D T d t) m) → ArePieces n old count mid → IsCopied d t m mid new n (Ok pieces.More) → ArePieces n old (count + 1) new

  -- That was done until nothing was left to copy, or there was no copy: or so many pieces were copied as a count can tell.
  pub record WasCopied (n : ℕ) (old new : Engine (Mirrored D T d t) m) : Type 0 where
    pub count : ℕ
    pub mid : Engine (Mirrored D T d t) m
    pub made : ArePieces n old count mid
    pub over : ((piece : Piece) × (piece ≢ pieces.More) × IsCopied d t m mid new n (Ok piece)) ⊎ ((new ≡ mid) × (count ≡ 2 ^ 64 - 1))

  -- Or a piece was refused so.
  pub record WasPieceRefused (n : ℕ) (old new : Engine (Mirrored D T d t) m) (fault : Fault) : Type 0 where
    pub count : ℕ
    pub mid : Engine (Mirrored D T d t) m
    pub made : ArePieces n old count mid
    pub refused : IsCopied d t m mid new n (Err fault)

  -- An engine ended its copy, which is whole, and its files were given their names.
  pub record HasEnded (names : T → Type 0) (old new : Engine (Mirrored D T d t) m) : Type 0 where
    pub to : T
    pub ended : IsCopyEnd d t m old new (Ok (Some to))
    pub named : names to

  -- Why there is none at the end: the store has failed, or its own disk has; the copy is not whole, or a call of its disk failed; or its folder refused the names so.
  abbrev pub IsNotEnded : (T → OpenError → Type 0) → Engine (Mirrored D T d t) m → Engine (Mirrored D T d t) m → NotCopied → Type 0
  IsNotEnded refuses old new (causes.Files error) = (to : T) × IsCopyEnd d t m old new (Ok (Some to)) × refuses to error
  IsNotEnded refuses old new (causes.Store fault) = IsCopyEnd d t m old new (Err fault)
  IsNotEnded refuses old new causes.Unfinished = IsCopyEnd d t m old new (Ok None)
  IsNotEnded refuses old new causes.Memory = ⊥

module _ {D T : Type 0} (d : Ghosts D) (t : Ghosts T) (m : Ghosts (Mirrored D T d t)) (makes : T → Type 0) where
  -- A copy was begun into files from there, its pieces were copied, and that copy was ended and got its names.
  pub record IsCopiedHere (names : T → Type 0) (old new : Engine (Mirrored D T d t) m) : Type 0 where
    pub first : Engine (Mirrored D T d t) m
    pub begun : HasBegun d t m makes old first
    pub last : Engine (Mirrored D T d t) m
    pub copied : WasCopied d t m 262144 first last
    pub ended : HasEnded d t m names last new

  -- Why there is no copy, by where it stopped: none was begun; there was no memory for a piece; a piece was refused; or it was not ended.
  pub data IsNotCopied (unmade : OpenError → Type 0) (unnamed : T → OpenError → Type 0) (old : Engine (Mirrored D T d t) m) : Engine (Mirrored D T d t) m → NotCopied → Type 0 where
    not_begun : (error : NotCopied) → IsNotBegun d t m unmade error → IsNotCopied unmade unnamed old old error
    no_memory : (new : Engine (Mirrored D T d t) m) → HasBegun d t m makes old new → IsNotCopied unmade unnamed old new causes.Memory
    stopped : (first new : Engine (Mirrored D T d t) m) (fault : Fault) → HasBegun d t m makes old first → WasPieceRefused d t m 262144 first new fault → IsNotCopied unmade unnamed old new (causes.Store fault)
    not_ended : (first last new : Engine (Mirrored D T d t) m) (error : NotCopied) → HasBegun d t m makes old first → WasCopied d t m 262144 first last → IsNotEnded d t m unnamed last new error
        → IsNotCopied unmade unnamed old new error
