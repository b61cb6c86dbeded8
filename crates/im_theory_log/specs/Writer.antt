-- What a writer of pages keeps: the log with its durable front, and for each page how the pool, the dirty table and the Pages file
-- stand. It is data: which calls keep it so is said where the calls are.
use Rattle.std.specs.Prelude.{◌≡◌, ◌≤◌, ◌<◌, ◌+◌, ◌⊎◌, ℕ, [], Bool, true, false, Option, None, Some}
use Rattle.im_base_types.specs.Pages.{Page}
use Rattle.im_theory_log.specs.Histories.{History, Base, IsFront, Rises, end_of}
use Rattle.im_theory_log.specs.Copies.{Reaches, HasCopy, noted}
use Rattle.im_theory_log.specs.PageCounts.{named_to}
use Rattle.im_theory_log.specs.RedoPoints.{redo_point}

-- ---- the state

-- an entry of the dirty table
pub record DirtyEntry : Type 0 where
  pub rec_lsn : ℕ
  -- the LSN of the first change after the last write, None where there is none
  pub since : Option ℕ
  -- known: the log has a full copy of the page at or after its redo point
  pub copied : Bool

-- one page
pub record PageState : Type 0 where
  -- as the pool shows it
  pub page : Page
  -- it has had all its records below this LSN
  pub upto : ℕ
  -- its full copy is still to be loaded, and which one that is
  pub waits : Bool
  pub found : Option (ℕ × Page)
  pub entry : Option DirtyEntry
  -- what the Pages file has as of the last sync, and what a read gives now: None for bytes that are no page
  pub synced : Option Page
  pub reads : Option Page
  -- written since the last sync: a stop may leave any bytes
  pub unsynced : Bool

pub record Writer : Type 0 where
  pub log : History
  pub durable : History
  -- the redo point that the life began at
  pub point : ℕ
  -- the log's end as redo ended, None while redo is going on
  pub redo_end : Option ℕ
  pub pages : ℕ → PageState

-- ---- what a stop may leave

-- a front of the log that has the durable one
pub record IsLeft (durable log left : History) : Type 0 where
  pub from : IsFront durable left
  pub upto : IsFront left log

-- Pages where each page that was not written since the last sync is as it then was
abbrev pub LeavesPages : Writer → (ℕ → Option Page) → Type 0
LeavesPages s file = (p : ℕ) → (s.pages p).unsynced ≡ false → file p ≡ (s.pages p).synced

-- ---- the invariant

-- redo is over, and the LSN came after it
abbrev pub IsAfterRedo : Option ℕ → ℕ → Type 0
IsAfterRedo None l = ⊥
IsAfterRedo (Some e) l = e < l

-- nothing of the page is left to be written
abbrev pub IsWritten : Option DirtyEntry → Type 0
IsWritten None = Unit {0}
IsWritten (Some e) = e.since ≡ None

-- the bytes are a page that has had all its records below m, whichever front of the log a stop leaves
pub record ReachesInEach (b : Base) (durable log : History) (p m : ℕ) (bytes : Option Page) : Type 0 where
  pub page : Page
  pub is : bytes ≡ Some page
  pub all : (left : History) → IsLeft durable log left → Reaches b left m p page

-- `since` is the redo point that the life began at, or comes after redo
pub record IsSince (b : Base) (log : History) (point : ℕ) (redo_end : Option ℕ) (rec_lsn since : ℕ) : Type 0 where
  pub from : rec_lsn ≤ since
  pub high : since ≤ end_of b log
  pub own : (since ≡ point) ⊎ IsAfterRedo redo_end since

-- not written since the last sync: it counts as changed since its rec_lsn; the file's page has all below it, or there is a copy
pub record IsUntouched (b : Base) (log durable : History) (p : ℕ) (synced : Option Page) (e : DirtyEntry) : Type 0 where
  pub since : e.since ≡ Some e.rec_lsn
  pub has : HasCopy durable p e.rec_lsn ⊎ ReachesInEach b durable log p e.rec_lsn synced

-- an entry of the dirty table
pub record EntryKept (b : Base) (log durable : History) (point : ℕ) (redo_end : Option ℕ) (p : ℕ) (x : PageState) (e : DirtyEntry) : Type 0 where
  -- the redo point of each log that a stop can leave is no later than the rec_lsn
  pub low : (left : History) → IsLeft durable log left → redo_point left ≤ e.rec_lsn
  pub high : e.rec_lsn ≤ end_of b log
  pub own : (l : ℕ) → e.since ≡ Some l → IsSince b log point redo_end e.rec_lsn l
  pub untouched : x.unsynced ≡ false → IsUntouched b log durable p x.synced e
  -- written since the last sync: the durable log has a full copy at or after the redo point of each log that a stop can leave
  pub copy : x.unsynced ≡ true → (left : History) → IsLeft durable log left → HasCopy durable p (redo_point left)
  -- where one is known, the log has a full copy at or after its redo point, durable or not
  pub copied : e.copied ≡ true → HasCopy log p (redo_point log)
  -- what was written: the page as it is, or as it was before the first change since
  pub written : x.unsynced ≡ true → e.since ≡ None → x.reads ≡ Some x.page
  pub older : x.unsynced ≡ true → (l : ℕ) → e.since ≡ Some l → ReachesInEach b durable log p l x.reads
  -- it, or a page after it, is named by a record of the log
  pub named : p < named_to log

-- a page that waits for its copy: it has no entry, and is not written
pub record WaitKept (x : PageState) : Type 0 where
  pub none : x.entry ≡ None
  pub synced : x.unsynced ≡ false
  pub lsn : ℕ
  pub copy : Page
  pub found : x.found ≡ Some (lsn, copy)

pub record PageKept (b : Base) (log durable : History) (point : ℕ) (redo_end : Option ℕ) (p : ℕ) (x : PageState) : Type 0 where
  pub low : x.waits ≡ false → point ≤ x.upto
  pub high : x.upto ≤ end_of b log + 1
  -- after redo no page waits, and each has had all its records
  pub run : (e : ℕ) → redo_end ≡ Some e → (x.waits ≡ false) × (end_of b log < x.upto)
  pub now : x.waits ≡ false → Reaches b log x.upto p x.page
  -- a page with nothing left to be written has no record that is not durable
  pub written : x.waits ≡ false → IsWritten x.entry → (left : History) → IsLeft durable log left → Reaches b left x.upto p x.page
  -- a page with no entry is in the file, and synced
  pub clean : x.waits ≡ false → x.entry ≡ None → (x.unsynced ≡ false) × (x.synced ≡ Some x.page)
  pub entry : (e : DirtyEntry) → x.entry ≡ Some e → EntryKept b log durable point redo_end p x e
  pub still : x.unsynced ≡ false → x.reads ≡ x.synced
  pub waiting : x.waits ≡ true → WaitKept x
  -- what analysis found is the page's last copy, in each log that a stop can leave
  pub found : x.waits ≡ true → (left : History) → IsLeft durable log left → noted point left p ≡ x.found

-- the redo point of a log that a stop can leave
pub record PointKept (b : Base) (point : ℕ) (redo_end : Option ℕ) (left : History) : Type 0 where
  pub high : redo_point left ≤ end_of b left
  pub own : (redo_point left ≡ point) ⊎ IsAfterRedo redo_end (redo_point left)

-- What every call of a writer of pages keeps.
pub record WriterKept (b : Base) (s : Writer) : Type 0 where
  pub rises : Rises b s.log
  pub front : IsFront s.durable s.log
  pub points : (left : History) → IsLeft s.durable s.log left → PointKept b s.point s.redo_end left
  -- each copy that a restart would load has had all below the redo point
  pub copied : (left : History) → IsLeft s.durable s.log left → (p l : ℕ) (c : Page) → noted (redo_point left) left p ≡ Some (l, c) → Reaches b left (redo_point left) p c
  -- each copy that came after redo is exact: it would do for any later redo point too
  pub exact : (e : ℕ) → s.redo_end ≡ Some e → (m : ℕ) → e < m → (p l : ℕ) (c : Page) → noted m s.log p ≡ Some (l, c) → Reaches b s.log m p c
  -- before the first record nothing is dirty
  pub first : s.log ≡ [] → (p : ℕ) → (s.pages p).entry ≡ None
  pub over : (e : ℕ) → s.redo_end ≡ Some e → (s.point ≤ e) × (e ≤ end_of b s.log)
  pub pages : (p : ℕ) → PageKept b s.log s.durable s.point s.redo_end p (s.pages p)

-- A page in the dirty table that has a full copy in the durable log, at or after the redo point of each log that a stop can leave.
pub record HasFullCopy (s : Writer) (p : ℕ) : Type 0 where
  pub entry : DirtyEntry
  pub is : (s.pages p).entry ≡ Some entry
  pub copy : (left : History) → IsLeft s.durable s.log left → HasCopy s.durable p (redo_point left)
