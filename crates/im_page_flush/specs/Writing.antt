-- How a writer of pages stands over its log, its pool, its dirty table and a disk, and what calls in a row keep.
use Rattle.std.specs.Prelude.{◌≡◌, ◌≢◌, ◌≤◌, ◌<◌, ◌-◌, ◌+◌, ℕ, min, Bool, true, false, if◌then◌else◌, nat_lt, List, [], ◌∷◌, ◌++◌, length, slice_index_or, Option, None, Some, is_some, option_map, Result, IfOk, OnOk}
use Rattle.std.specs.Map.{keys_of}
use Rattle.std.specs.Option.{option_map_or}
use Rattle.im_base_types.specs.declared.fault.Fault.{Fault}
use Rattle.im_base_types.specs.Pages.{Page}
use Rattle.im_theory_log.specs.Histories.{Base, History, IsFront, end_of}
use Rattle.im_theory_log.specs.Copies.{GrowsByImages, HasCopy}
use Rattle.im_theory_log.specs.PageCounts.{named_to}
use Rattle.im_theory_log.specs.RedoPoints.{redo_point}
use Rattle.im_theory_log.specs.Writer.{PageState, Writer, IsWritten, WriterKept}
use Rattle.im_theory_log.specs.WriterSteps.{MayWrite, forced, is_copied, written}
use Rattle.im_base_disk.specs.declared.disk.Disk.{Ghosts}
use Rattle.im_log.specs.declared.log_file.LogFile.{LogFile}
use Rattle.im_theory_page.specs.Header.{initial}
use Rattle.im_page_pool.specs.Pool.{Held, PoolView, held_of, Holds}
use Rattle.im_page_table.specs.DirtyTable.{TableView, entry_in, HasEntries, is_changed}
use Rattle.im_page_file.specs.Stands.{LeavesCovered, Run, Stands}
use Rattle.im_page_table.specs.Growth.{with_image, Keeps}
use Rattle.im_page_table.specs.KnownCopies.{KnowsDurable}

-- ---- the pool

-- a held page is as the writer has it, and changed where something of it is left to be written; of a page that is not held nothing is left
abbrev pub IsShown : Option Held → PageState → Type 0
IsShown None x = IsWritten x.entry
IsShown (Some h) x = (h.page ≡ x.page) × (h.changed ≡ is_changed x.entry)

-- The pool shows the pages; and no page that waits for its copy is at or below a held one.
pub record IsPooled (pool : PoolView) (pages : ℕ → PageState) : Type 0 where
  pub shows : (p : ℕ) → IsShown (held_of pool p) (pages p)
  pub ready : (p q : ℕ) → Holds pool p → q ≤ p → (pages q).waits ≡ false

-- the page of a number as the pool has it: one that it does not hold is as before anything was put
abbrev pub pool_page : PoolView → ℕ → Page
pool_page pool p = option_map_or (λ h. h.page) (held_of pool p) (initial p)

-- a page that is changed no more
abbrev pub unmarked : Held → Held
unmarked h = record h { changed = false }

-- One page, if it is held, is changed no more, and all else is as it was.
pub record Unmarks (p : ℕ) (old new : PoolView) : Type 0 where
  pub here : held_of new p ≡ option_map unmarked (held_of old p)
  pub others : (q : ℕ) → q ≢ p → held_of new q ≡ held_of old q
  pub order : keys_of new.held ≡ keys_of old.held
  pub frames : new.frames ≡ old.frames
  pub gets : new.gets ≡ old.gets

-- The same pages are held, in the same order, and none was got.
pub record SameHeld (old new : PoolView) : Type 0 where
  pub held : (p : ℕ) → is_some (held_of new p) ≡ is_some (held_of old p)
  pub order : keys_of new.held ≡ keys_of old.held
  pub frames : new.frames ≡ old.frames
  pub gets : new.gets ≡ old.gets

-- ---- the LSNs of a flush's Images

-- one more, where there is room for it
abbrev pub with_lsn : ℕ → List ℕ → List ℕ
with_lsn lsn lsns = if nat_lt (length lsns) 1024 then lsns ++ (lsn ∷ []) else lsns

-- that of the page at a place of the flush; after the last one that is noted, the last one, which is no later than its own
abbrev pub lsn_for : List ℕ → ℕ → ℕ
lsn_for lsns place = slice_index_or lsns (min place 1023) 0

-- ---- the whole

-- what the Image of a page asks: that the page has its copy, that the log has begun and names it or a page after it, and that the page is the initial one where it is not held
pub record MayCopy (s : Writer) (pool : PoolView) (p : ℕ) : Type 0 where
  pub ready : (s.pages p).waits ≡ false
  pub begun : s.log ≢ []
  pub named : p < named_to s.log
  pub past : held_of pool p ≡ None → (s.pages p).page ≡ initial p

-- what the write of a page asks
pub record MayWriteHere (b : Base) (s : Writer) (table : TableView) (pool : PoolView) (p lsn : ℕ) : Type 0 where
  pub may : MayWrite b s p lsn
  pub entry : entry_in table p ≡ (s.pages p).entry
  pub past : held_of pool p ≡ None → (s.pages p).page ≡ initial p

-- What the write of a page in place asks: that the writer goes on keeping what it keeps, that the page has its copy, that the table has its entry, and that it is the initial one where it is not held.
pub record MayPlace (b : Base) (s : Writer) (table : TableView) (pool : PoolView) (p lsn : ℕ) : Type 0 where
  pub kept : WriterKept b (written p lsn s)
  pub ready : (s.pages p).waits ≡ false
  pub entry : entry_in table p ≡ (s.pages p).entry
  pub past : held_of pool p ≡ None → (s.pages p).page ≡ initial p

-- what the write of a page asks with no force: its last change and a full copy are durable
pub record MayPlaceEarly (b : Base) (s : Writer) (table : TableView) (pool : PoolView) (p : ℕ) : Type 0 where
  pub place : MayPlace b s table pool p 0
  pub copied : is_copied (s.pages p).entry ≡ true
  pub known : KnowsDurable s

module _ {D : Type 0} (d : Ghosts D) (b : Base) (base : ℕ) where
  -- Between calls the table has the entry of each page, and the pool shows the pages: what a writer keeps, from 1 to 7 in the head of im_page_writer.
  pub record IsWriting (s : Writer) (log : LogFile) (table : TableView) (pool : PoolView) (disk : D) : Type 0 where
    -- 1 to 3, 5 to 7
    pub stands : Stands d b base s log table disk
    -- 3
    pub entries : HasEntries table s.pages
    -- 4
    pub pooled : IsPooled pool s.pages
    -- 1
    pub based : b.start ≤ base

  -- Calls in a row, of which each so far succeeded: how the writer stands now, what a stop since the first has left, and what stays.
  pub record Goes (s : Writer) (old : D) (t : Writer) (log : LogFile) (table : TableView) (pool : PoolView) (disk : D) : Type 0 where
    pub writing : IsWriting t log table pool disk
    pub stops : LeavesCovered d b base s.durable t.log old disk
    pub keeps : Keeps b s t

  -- A stop at any moment since old leaves what redo can start from: the log as it was, or with Images more.
  pub record LeavesGrown (s : Writer) (old new : D) : Type 0 where
    pub high : History
    pub grows : GrowsByImages b s.log high
    pub stops : LeavesCovered d b base s.durable high old new

  -- Each page is as it was, and the log has Images more.
  pub record Grown (s : Writer) (old : D) (log : LogFile) (table : TableView) (pool : PoolView) (disk : D) : Type 0 where
    pub now : Writer
    pub goes : Goes s old now log table pool disk

  -- what it keeps to add Images
  pub record GrownKept (s : Writer) (old : D) (log : LogFile) (table : TableView) (pool : PoolView) (disk : D) (result : Result Unit Fault) : Type 0 where
    pub ok : OnOk result (Grown s old log table pool disk)
    pub stops : LeavesGrown s old disk

  -- ---- an Image

  -- The page's Image joined the log.
  pub record PageImaged (s : Writer) (p lsn : ℕ) (old : D) (log : LogFile) (table : TableView) (pool : PoolView) (disk : D) : Type 0 where
    pub durable : History
    pub grows : IsFront s.durable durable
    pub goes : Goes s old (with_image lsn p durable s) log table pool disk
    pub high : end_of b s.log < lsn

  -- what the Image of a page keeps
  pub record PageImageKept (s : Writer) (p : ℕ) (old : D) (log : LogFile) (table : TableView) (pool : PoolView) (disk : D) (result : Result ℕ Fault) : Type 0 where
    pub ok : IfOk result (λ lsn. PageImaged s p lsn old log table pool disk)
    pub stops : LeavesCovered d b base s.durable s.log old disk

  -- The log has a full copy of the page at or after its redo point, and the LSN is none below that.
  pub record CopyDone (s : Writer) (p lsn : ℕ) (old : D) (log : LogFile) (table : TableView) (pool : PoolView) (disk : D) : Type 0 where
    pub now : Writer
    pub goes : Goes s old now log table pool disk
    pub point : redo_point now.log ≡ redo_point s.log
    pub copy : HasCopy now.log p (redo_point now.log)
    pub low : redo_point now.log ≤ lsn
    pub high : lsn ≤ end_of b now.log

  -- what it keeps to see to the full copy of a page
  pub record CopyKept (s : Writer) (p : ℕ) (old : D) (log : LogFile) (table : TableView) (pool : PoolView) (disk : D) (result : Result ℕ Fault) : Type 0 where
    pub ok : IfOk result (λ lsn. CopyDone s p lsn old log table pool disk)
    pub stops : LeavesCovered d b base s.durable s.log old disk

  -- ---- the full copies of a range of pages

  -- The log has full copies of the pages before this one: once it is forced, each of them may be written.
  pub record ImagesTo (s : Writer) (first p : ℕ) (lsns : List ℕ) (old : D) (log : LogFile) (table : TableView) (pool : PoolView) (disk : D) : Type 0 where
    pub now : Writer
    pub goes : Goes s old now log table pool disk
    pub count : length lsns ≡ min (p - first) 1024
    pub may : (q : ℕ) → first ≤ q → q < p → MayWrite b (forced now) q (lsn_for lsns (q - first))

  -- what the Images of a range keep
  pub record ImagesKept (s : Writer) (first last : ℕ) (lsns : List ℕ) (old : D) (log : LogFile) (table : TableView) (pool : PoolView) (disk : D) (result : Result Unit Fault) : Type 0 where
    pub ok : OnOk result (ImagesTo s first (last + 1) lsns old log table pool disk)
    pub stops : LeavesGrown s old disk

  -- Each of the pages may be written now.
  pub record ImagesDurable (s : Writer) (first last : ℕ) (lsns : List ℕ) (old : D) (log : LogFile) (table : TableView) (pool : PoolView) (disk : D) : Type 0 where
    pub now : Writer
    pub goes : Goes s old now log table pool disk
    pub may : (q : ℕ) → first ≤ q → q ≤ last → MayWrite b now q (lsn_for lsns (q - first))
    pub all : now.durable ≡ now.log

  -- what durable Images of a range keep
  pub record DurableKept (s : Writer) (first last : ℕ) (lsns : List ℕ) (old : D) (log : LogFile) (table : TableView) (pool : PoolView) (disk : D) (result : Result Unit Fault) : Type 0 where
    pub ok : OnOk result (ImagesDurable s first last lsns old log table pool disk)
    pub stops : LeavesGrown s old disk

  -- ---- the write of a page

  -- The page is written in place. It is said whether the table has its entry.
  pub record WrittenHere (s : Writer) (p lsn : ℕ) (log : LogFile) (old : TableView) (table : TableView) (pool : PoolView) (disk : D) (entered : Bool) : Type 0 where
    pub stands : Stands d b base (written p lsn s) log table disk
    pub pooled : IsPooled pool (written p lsn s).pages
    pub entries : entered ≡ true → HasEntries old s.pages → HasEntries table (written p lsn s).pages

  -- what the write of a page keeps
  pub record PlacedKept (s : Writer) (p lsn : ℕ) (old : D) (log : LogFile) (old_table table : TableView) (pool : PoolView) (disk : D) (result : Result Bool Fault) : Type 0 where
    pub ok : IfOk result (λ entered. WrittenHere s p lsn log old_table table pool disk entered)
    pub stops : LeavesCovered d b base s.durable s.log old disk

  -- ---- the writes of a range of pages

  -- The pages before this one are written, and each of the others may be.
  pub record WritesTo (s : Writer) (first p last : ℕ) (lsns : List ℕ) (old : D) (log : LogFile) (table : TableView) (pool : PoolView) (disk : D) (entered : Bool) : Type 0 where
    pub now : Writer
    pub run : Run d b base s.durable old now log table disk
    pub keeps : Keeps b s now
    pub logs : now.log ≡ s.log
    pub pooled : IsPooled pool now.pages
    pub all : now.durable ≡ now.log
    pub may : (q : ℕ) → p ≤ q → q ≤ last → MayWriteHere b now table pool q (lsn_for lsns (q - first))
    pub done : (q : ℕ) → first ≤ q → q < p → ((now.pages q).waits ≡ false) × IsWritten (now.pages q).entry
    pub entries : entered ≡ true → HasEntries table now.pages

  -- what the writes of a range keep
  pub record WritesKept (s : Writer) (first last : ℕ) (lsns : List ℕ) (old : D) (log : LogFile) (table : TableView) (pool : PoolView) (disk : D) (result : Result Bool Fault) : Type 0 where
    pub ok : IfOk result (λ entered. WritesTo s first (last + 1) last lsns old log table pool disk entered)
    pub stops : LeavesCovered d b base s.durable s.log old disk

  -- ---- a flush

  -- Each page of the range is in the file as it is, and each copy that is known comes no later than its page's last change.
  pub record Flushed (s : Writer) (first last : ℕ) (old : D) (log : LogFile) (table : TableView) (pool : PoolView) (disk : D) : Type 0 where
    pub now : Writer
    pub goes : Goes s old now log table pool disk
    pub known : KnowsDurable now
    pub written : (q : ℕ) → first ≤ q → q ≤ last → (IsWritten (now.pages q).entry) × ((now.pages q).reads ≡ Some (now.pages q).page)

  -- what the writes of a flush keep
  pub record WriteOutKept (s : Writer) (first last : ℕ) (old : D) (log : LogFile) (table : TableView) (pool : PoolView) (disk : D) (result : Result Unit Fault) : Type 0 where
    pub ok : OnOk result (Flushed s first last old log table pool disk)
    pub stops : LeavesCovered d b base s.durable s.log old disk

  -- what a flush keeps
  pub record FlushKept (s : Writer) (first last : ℕ) (old : D) (log : LogFile) (table : TableView) (pool : PoolView) (disk : D) (result : Result Unit Fault) : Type 0 where
    pub ok : OnOk result (Flushed s first last old log table pool disk)
    pub stops : LeavesGrown s old disk
