-- What a writer of pages knows of its disk, and what each of its calls keeps.
use Rattle.std.specs.Prelude.{◌≡◌, ◌≢◌, ◌<◌, ◌≤◌, ◌⊎◌, ℕ, true, false, if◌then◌else◌, nat_lt, Option, None, Some, option_map, length, Result, IfErr, IfOk, OnOk}
use Rattle.im_base_types.specs.declared.fault.Fault.{Fault}
use Rattle.im_base_types.specs.declared.fault.Fault.TheVariants.{Memory, NotAStore}
use Rattle.im_base_types.specs.Pages.{Page}
use Rattle.im_base_types.specs.Records.{What}
use Rattle.im_theory_log.specs.Histories.{Base, History, IsFront, end_of, page_after}
use Rattle.im_theory_log.specs.Copies.{copy_in}
use Rattle.im_theory_log.specs.RedoPoints.{is_checkpoint}
use Rattle.im_theory_log.specs.WriterSteps.{appended, is_copied}
use Rattle.im_log_record.specs.Entry.{Entry}
use Rattle.im_log.specs.Spelled.{logged_at}
use Rattle.im_theory_log.specs.Writer.{PageState, Writer, IsWritten}
use Rattle.im_base_disk.specs.declared.disk.Disk.{Ghosts}
use Rattle.im_log.specs.LogFile.{IsOpen}
use Rattle.im_page_table.specs.DirtyTable.{entry_in, oldest}
use Rattle.im_page_table.specs.KnownCopies.{IsAtOrAfter}
use Rattle.im_page_pool.specs.declared.frame.Frame.{Frame}
use Rattle.im_page_pool.specs.Pool.{last_changed, page_at}
use Rattle.im_page_writer.specs.declared.page_writer.PageWriter.{PageWriter}
use Rattle.im_page_writer.specs.Synced.{end_of_log, IsKnown}
use Rattle.im_page_file.specs.Stands.{LeavesCovered}
use Rattle.im_page_flush.specs.Writing.{Goes, IsWriting, LeavesGrown}

-- A record of this kind changes no page, has no full copy, and does not move the redo point.
pub record IsPlain (w : What) : Type 0 where
  pub page : (l : ℕ) (g : Page) → page_after l w g ≡ g
  pub copy : (l : ℕ) → copy_in l w ≡ None
  pub point : is_checkpoint w ≡ false

-- The page's last change and a full copy of it are durable, as the writer knows: it is written with no force, whatever waits in the log.
pub record IsUnforced (w : PageWriter) (p : ℕ) : Type 0 where
  pub ahead : w.known.ahead ≡ false
  pub copied : is_copied (entry_in w.table p) ≡ true
  pub late : IsAtOrAfter w.known.from (page_at w.pool p).lsn
  pub below : (page_at w.pool p).lsn < end_of_log w.log

-- the page that is written next: the least recently used one that was changed; in a pool of more than 1,024 frames the one whose first change since its last write is the oldest
abbrev pub next_written : PageWriter → Option ℕ
next_written w = if nat_lt 1024 w.pool.frames then option_map (λ r. r.page) (oldest w.table) else option_map (λ e. e.0) (last_changed w.pool.held)

-- of this page nothing is left to be written; where there is none, of no page
abbrev pub IsNextWritten : Option ℕ → (ℕ → PageState) → Type 0
IsNextWritten None pages = (p : ℕ) → IsWritten (pages p).entry
IsNextWritten (Some p) pages = IsWritten (pages p).entry

module _ {D : Type 0} (d : Ghosts D) where
  -- 8 of what a writer keeps. On any bytes: the log is open, and works, and the pool has at most 262,144 frames. After a failure it says only that the log's last gate
  -- stands in its file, unless the disk has failed.
  pub record IsReadyWriter (w : PageWriter) (disk : D) : Type 0 where
    pub opened : w.failed ≡ false → IsOpen d w.log disk
    pub works : w.failed ≡ false → w.log.failed ≡ false
    pub few : w.failed ≡ false → w.pool.frames ≤ 262144
    pub still : d.failed disk ≡ false → IsOpen d w.log disk

  module _ (b : Base) (base : ℕ) where
    -- No call has failed, and it stands as this writer: 1 to 7 of what it keeps.
    pub record StandsAs (s : Writer) (w : PageWriter) (disk : D) : Type 0 where
      pub working : w.failed ≡ false
      pub writing : IsWriting d b base s w.log w.table w.pool disk
      pub known : IsKnown s w.known

    -- Calls in a row since old: each page is as it was, and the log has Images more.
    pub record GoesOn (s : Writer) (old : D) (t : Writer) (w : PageWriter) (disk : D) : Type 0 where
      pub working : w.failed ≡ false
      pub goes : Goes d b base s old t w.log w.table w.pool disk
      pub known : IsKnown t w.known

    -- Nothing of the page is left to be written: the file has it as it is.
    pub record FlushedOne (s : Writer) (p : ℕ) (old : D) (w : PageWriter) (disk : D) : Type 0 where
      pub now : Writer
      pub on : GoesOn s old now w disk
      pub written : IsWritten (now.pages p).entry
      pub in_file : (now.pages p).waits ≡ false → (now.pages p).reads ≡ Some (now.pages p).page

    -- what the flush of a page keeps
    pub record FlushOneKept (s : Writer) (p : ℕ) (old : D) (w : PageWriter) (disk : D) (result : Result Unit Fault) : Type 0 where
      pub ok : OnOk result (FlushedOne s p old w disk)
      pub stops : LeavesGrown d b base s old disk

    -- Each page is as it was, and the log has Images more.
    pub record Evicted (s : Writer) (old : D) (w : PageWriter) (disk : D) : Type 0 where
      pub now : Writer
      pub on : GoesOn s old now w disk

    -- after a refusal for want of memory, or for bytes that are no store's, it goes on
    abbrev pub StaysOn : {A : Type 0} → Writer → D → PageWriter → D → Result A Fault → Type 0
    StaysOn s old w disk result = IfErr result (λ e. (e ≡ Memory) ⊎ (e ≡ NotAStore) → Evicted s old w disk)

    -- what an eviction keeps
    pub record EvictKept (s : Writer) (old : D) (w : PageWriter) (disk : D) (result : Result Unit Fault) : Type 0 where
      pub ok : OnOk result (Evicted s old w disk)
      pub stops : LeavesGrown d b base s old disk
      pub again : StaysOn s old w disk result

    -- The page is held, and is the writer's.
    pub record Got (s : Writer) (p : ℕ) (old : D) (w : PageWriter) (disk : D) : Type 0 where
      pub now : Writer
      pub on : GoesOn s old now w disk
      pub page : page_at w.pool p ≡ (s.pages p).page

    -- what a get keeps
    pub record GetKept (s : Writer) (p : ℕ) (old : D) (w : PageWriter) (disk : D) (result : Result Frame Fault) : Type 0 where
      pub ok : OnOk result (Got s p old w disk)
      pub stops : LeavesGrown d b base s old disk
      pub cause : IfErr result (λ e. e ≢ NotAStore)
      pub again : StaysOn s old w disk result

    -- ---- one step

    -- what a call keeps that takes one step of the writer
    pub record StepKept (s t : Writer) (old : D) (w : PageWriter) (disk : D) (result : Result Unit Fault) : Type 0 where
      pub ok : OnOk result (GoesOn s old t w disk)
      pub stops : LeavesCovered d b base s.durable s.log old disk

    -- ---- room in the dirty table

    -- The page that was the next is written, if there was one.
    pub record FlushedNext (s : Writer) (old : D) (v w : PageWriter) (disk : D) : Type 0 where
      pub now : Writer
      pub on : GoesOn s old now w disk
      pub next : IsNextWritten (next_written v) now.pages

    -- The table has room. Where it was full, no page was written since the last sync, and nothing is left to be written of the page that was the next.
    pub record HasRoom (s : Writer) (old : D) (v w : PageWriter) (disk : D) : Type 0 where
      pub now : Writer
      pub on : GoesOn s old now w disk
      pub room : length w.table.entries < w.table.most
      pub synced : length v.table.entries ≡ v.table.most → (p : ℕ) → (now.pages p).unsynced ≡ false
      pub next : length v.table.entries ≡ v.table.most → IsNextWritten (next_written v) now.pages

    -- what room in the table keeps
    pub record RoomKept (s : Writer) (old : D) (v w : PageWriter) (disk : D) (result : Result Unit Fault) : Type 0 where
      pub ok : OnOk result (HasRoom s old v w disk)
      pub stops : LeavesGrown d b base s old disk

    -- ---- a record that changes no page

    -- It joined the log, of which more may be durable than before.
    pub record LoggedOnly (s : Writer) (entry : Entry) (lsn : ℕ) (w : PageWriter) (disk : D) : Type 0 where
      pub durable : History
      pub grows : IsFront s.durable durable
      pub stands : StandsAs (record (appended (logged_at lsn entry) s) { durable = durable }) w disk
      pub high : end_of b s.log < lsn

    -- what its append keeps
    pub record LogKept (s : Writer) (entry : Entry) (old : D) (w : PageWriter) (disk : D) (result : Result ℕ Fault) : Type 0 where
      pub ok : IfOk result (λ lsn. LoggedOnly s entry lsn w disk)
      pub stops : LeavesCovered d b base s.durable s.log old disk
