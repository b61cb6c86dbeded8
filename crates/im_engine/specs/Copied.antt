-- Calls that make a piece of a copy.
use Rattle.std.specs.Prelude.{◌≡◌, ◌≢◌, ℕ, List, false, None, Result, Ok}
use Rattle.std.specs.Option.{ForSome}
use Rattle.im_base_types.specs.Changes.{Effect}
use Rattle.im_base_types.specs.Lives.{Shown}
use Rattle.im_base_types.specs.declared.fault.Fault.{Fault}
use Rattle.im_base_types.specs.declared.file_id.FileId.{FileId}
use Rattle.im_base_disk.specs.declared.disk.Disk.{Ghosts}
use Rattle.im_base_disk.specs.Runs.{Reads, IsSynced}
use Rattle.im_base_two_logs.specs.Runs.{LeavesNamed}
use Rattle.im_base_mirror_disk.specs.Copies.{HasFailed, IsFurther}
use Rattle.im_base_mirror_disk.specs.declared.mirrored.Mirrored.{Mirrored}
use Rattle.im_base_mirror_disk.specs.declared.piece.Piece.{Piece}
use Rattle.im_base_mirror_disk.specs.declared.piece.Piece.TheVariants as pieces
use Rattle.im_theory_machine.specs.View.{View}
use Rattle.im_engine.specs.declared.engine.Engine.{Engine}
use Rattle.im_engine.specs.Running.{IsLife}
use Rattle.im_engine.specs.Stands.{Allowed}

module _ {D : Type 0} (d : Ghosts D) where
  -- The engine is as it was, but that its disk may have read something.
  pub record OnlyDisk (old new : Engine D d) : Type 0 where
    pub reads : Reads d old.disk new.disk
    pub device : d.failed new.disk ≡ d.failed old.disk
    pub writer : new.writer ≡ old.writer
    pub max_pages : new.max_pages ≡ old.max_pages
    pub dense : new.dense ≡ old.dense
    pub report : new.report ≡ old.report
    pub txns : new.txns ≡ old.txns
    pub locks : new.locks ≡ old.locks
    pub failed : new.failed ≡ old.failed
    pub stepped : new.stepped ≡ old.stepped
    pub under : new.under ≡ old.under

  -- The life goes on from where it was, and a stop within the call leaves what was allowed before it.
  pub record CopyKept (before : List Effect) (s : Shown) (v : View) (old new : Engine D d) : Type 0 where
    pub life : IsLife d before s v new
    pub stops : LeavesNamed d old.disk new.disk (Allowed before s)

  -- A call of a copy leaves the engine as it is, but that its disk may have read something: its life goes on, and a stop within the call leaves what was allowed before it.
  pub record IsStill (old new : Engine D d) : Type 0 where
    pub only : OnlyDisk old new
    pub kept : (before : List Effect) (s : Shown) (v : View) → IsLife d before s v old → CopyKept before s v old new

module _ {D T : Type 0} (d : Ghosts D) (t : Ghosts T) (m : Ghosts (Mirrored D T d t)) (old new : Engine (Mirrored D T d t) m) where
  -- Where a piece was copied, of n bytes at most, they are the next ones of one file, and where the copy was let go a call of its disk failed. Where none was, the copy is as it was.
  pub record CopiesNext (n : ℕ) (result : Result Piece Fault) : Type 0 where
    pub same : result ≢ Ok pieces.More → (new.disk.copy ≡ old.disk.copy) × (new.disk.marks ≡ old.disk.marks)
    pub more : result ≡ Ok pieces.More → ForSome new.disk.copy (λ c. d.tells → IsFurther n (d.seen old.disk.disk) old.disk.marks new.disk.marks)
    pub gone : result ≡ Ok pieces.More → new.disk.copy ≡ None → HasFailed t

  -- What a copy is that has ended: each file reads as this store's does, and is on the disk. So it holds what a stop of this store now might have left.
  pub record IsCopyOf (to : T) : Type 0 where
    pub copied : t.tells → d.tells → (file : FileId) → t.seen to file ≡ d.seen new.disk.disk file
    pub allowed : (before : List Effect) (s : Shown) (v : View) → t.tells → d.tells → IsLife m before s v old → Allowed before s (t.seen to)
    pub synced : IsSynced t to
    pub working : t.failed to ≡ false
    pub taken : new.disk.copy ≡ None
