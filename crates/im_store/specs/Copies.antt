-- What the calls of a copy make of a store in use.
use Rattle.std.specs.Prelude.{◌≡◌, ◌≢◌, ◌⊎◌, ◌↔◌, ◌≤◌, ℕ, length, true, Option, None, Some, Result, Ok, Err, IfErr, IfOk, IfSome}
use Rattle.std.specs.Option.{ForSome}
use Rattle.im_base_types.specs.declared.fault.Fault.{Fault}
use Rattle.im_base_types.specs.declared.fault.Fault.TheVariants.{Device, Failed}
use Rattle.im_base_types.specs.declared.file_id.FileId.{FileId}
use Rattle.im_base_disk.specs.declared.disk.Disk.{Ghosts}
use Rattle.im_base_mirror_disk.specs.Copies.{HasFailed, IsFurther, IsLeft}
use Rattle.im_base_mirror_disk.specs.Marks.{mark_of}
use Rattle.im_base_mirror_disk.specs.declared.mirrored.Mirrored.{Mirrored}
use Rattle.im_base_mirror_disk.specs.declared.piece.Piece.{Piece}
use Rattle.im_base_mirror_disk.specs.declared.piece.Piece.TheVariants as pieces
use Rattle.im_engine.specs.declared.engine.Engine.{Engine}
use Rattle.im_engine.specs.Copied.{IsCopyOf, IsStill}

module _ {D T : Type 0} (d : Ghosts D) (t : Ghosts T) (m : Ghosts (Mirrored D T d t)) (old new : Engine (Mirrored D T d t) m) where
  -- a copy into these files was begun
  pub record IsCopyBegun (to : T) : Type 0 where
    pub still : IsStill m old new
    pub begun : new.disk.copy ≡ Some to

  -- Why no call of a copy is made: the engine had failed, or now its own disk has.
  pub record IsCopyRefused {R : Type 0} (result : Result R Fault) : Type 0 where
    pub failed : (result ≡ Err Failed) ↔ (old.failed ≡ true)
    pub causes : IfErr result (λ e. e ≢ Failed → (e ≡ Device) × (d.failed new.disk.disk ≡ true))

  -- What a piece of so many bytes at most comes to: there is no copy, and none was before; nothing of any file is left; or the next bytes of one file were copied, and where the copy was let go a call of its disk failed.
  pub record IsCopied (n : ℕ) (result : Result Piece Fault) : Type 0 where
    pub still : IsStill m old new
    pub none : result ≡ Ok pieces.None → old.disk.copy ≡ None
    pub same : result ≢ Ok pieces.More → (new.disk.copy ≡ old.disk.copy) × (new.disk.marks ≡ old.disk.marks)
    pub last : result ≡ Ok pieces.Last → d.tells → (file : FileId) → length (d.seen new.disk.disk file) ≤ mark_of new.disk.marks file
    pub more : result ≡ Ok pieces.More → ForSome new.disk.copy (λ _. d.tells → IsFurther n (d.seen old.disk.disk) old.disk.marks new.disk.marks)
    pub gone : result ≡ Ok pieces.More → new.disk.copy ≡ None → HasFailed t
    pub refused : IsCopyRefused result

  -- Why there is none: no copy was under way; something is left, and it goes on; or a call of its disk failed, and it was let go.
  abbrev pub HasNoCopy : Type 0
  HasNoCopy = (old.disk.copy ≡ None) ⊎ ((new.disk.copy ≡ old.disk.copy) × (d.tells → IsLeft old.disk.marks (d.seen old.disk.disk))) ⊎ ((new.disk.copy ≡ None) × HasFailed t)

  -- what the end of a copy comes to
  pub record IsCopyEnd (result : Result (Option T) Fault) : Type 0 where
    pub still : IsStill m old new
    pub whole : IfOk result (λ o. IfSome o (IsCopyOf d t m old new))
    pub none : result ≡ Ok None → HasNoCopy
    pub refused : IsCopyRefused result
