-- What the calls of a copy leave of a disk that copies itself.
use Rattle.std.specs.Prelude.{◌≡◌, ◌≢◌, ◌<◌, ◌≤◌, ◌+◌, ℕ, false, length, min, None, Result, Ok}
use Rattle.std.specs.Option.{ForSome}
use Rattle.im_base_types.specs.declared.fault.Fault.{Fault}
use Rattle.im_base_types.specs.declared.file_id.FileId.{FileId}
use Rattle.im_base_disk.specs.declared.disk.Disk.{Ghosts}
use Rattle.im_base_disk.specs.Runs.{Reads}
use Rattle.im_base_mirror_disk.specs.Copies.{HasFailed}
use Rattle.im_base_mirror_disk.specs.Marks.{mark_of}
use Rattle.im_base_mirror_disk.specs.declared.mirrored.Mirrored.{Mirrored}
use Rattle.im_base_mirror_disk.specs.declared.piece.Piece.{Piece}
use Rattle.im_base_mirror_disk.specs.declared.piece.Piece.TheVariants as pieces

module _ {D T : Type 0} (d : Ghosts D) (t : Ghosts T) (old new : Mirrored D T d t) where
  -- The disk itself was read, and no more: to who works with it no call has failed, and none is counted.
  pub record ReadsStore : Type 0 where
    pub reads : Reads d old.disk new.disk
    pub failed : new.has_failed ≡ old.has_failed
    pub counts : (new.writes ≡ old.writes) × (new.syncs ≡ old.syncs)

  -- What a piece of one file comes to, with room for n bytes: there is no copy; nothing of the file is left; or its next bytes are copied, as many as there is room for, and a copy
  -- is let go only where a call of its disk failed. Where nothing is copied the copy is as it was, and the other files are copied as far as they were.
  pub record IsPieceOf (file : FileId) (n : ℕ) (result : Result Piece Fault) : Type 0 where
    pub none : result ≡ Ok pieces.None → old.copy ≡ None
    pub same : result ≢ Ok pieces.More → (new.copy ≡ old.copy) × (new.marks ≡ old.marks)
    pub last : result ≡ Ok pieces.Last → d.tells → length (d.seen new.disk file) ≤ mark_of new.marks file
    pub left : result ≡ Ok pieces.More → d.tells → mark_of old.marks file < length (d.seen old.disk file)
    pub more : result ≡ Ok pieces.More → ForSome new.copy (λ c. d.tells → mark_of new.marks file ≡ min (mark_of old.marks file + n) (length (d.seen old.disk file)))
    pub gone : result ≡ Ok pieces.More → new.copy ≡ None → HasFailed t
    pub others : (other : FileId) → other ≢ file → mark_of new.marks other ≡ mark_of old.marks other

  -- Where nothing is copied the copy is as it was; where that is since nothing is left, all of each file is copied.
  pub record StaysOrEnds (result : Result Piece Fault) : Type 0 where
    pub same : result ≢ Ok pieces.More → (new.copy ≡ old.copy) × (new.marks ≡ old.marks)
    pub last : result ≡ Ok pieces.Last → d.tells → (file : FileId) → length (d.seen new.disk file) ≤ mark_of new.marks file

  -- A copy that is handed out: a stop of the disk now might have left its files; its own disk works; and it is under way no longer.
  pub record IsHandedOut (to : T) : Type 0 where
    pub left : t.tells → d.tells → d.may_leave new.disk (t.seen to)
    pub working : t.failed to ≡ false
    pub taken : new.copy ≡ None
