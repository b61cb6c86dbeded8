-- How a call over the writer of pages may end.
use Rattle.std.specs.Prelude.{◌≡◌, ◌≢◌, ◌≤◌, ◌<◌, ◌^◌, ℕ, Bool, false, true, Option, None, Some, Result, MatchBool, MatchResult}
use Rattle.im_base_types.specs.declared.fault.Fault.{Fault}
use Rattle.im_base_types.specs.declared.fault.Fault.TheVariants.{Device, Failed, LogFull, Memory, NotAStore}
use Rattle.im_base_types.specs.Pages.{Page}
use Rattle.im_theory_log.specs.Histories.{Base}
use Rattle.im_theory_log.specs.Writer.{Writer}
use Rattle.im_base_disk.specs.declared.disk.Disk.{Ghosts}
use Rattle.im_log.specs.LogFile.{HasNoRoom, end_with}
use Rattle.im_page_writer.specs.declared.page_writer.PageWriter.{PageWriter}
use Rattle.im_page_flush.specs.Writing.{LeavesGrown}
use Rattle.im_page_file.specs.LogEnds.{EndsNoSooner}
use Rattle.im_page_writer.specs.PageWriter.{IsReadyWriter, StandsAs, Evicted}
pub use Rattle.im_page_file.specs.LogEnds.{fault_of}

-- what a call says over files that are a store: the answer is this, or it is refused, but not for bytes that are no store's
abbrev pub IsSound : {A : Type 0} → Result A Fault → (A → Type 0) → Type 0
IsSound r P = MatchResult r P (λ e. e ≢ NotAStore)

-- the pages of a store, by their numbers
abbrev pub AllPages : Type 0
AllPages = ℕ → Page

-- those that a writer shows
abbrev pub pages_of : Writer → AllPages
pages_of s = λ p. (s.pages p).page

-- ---- refusals after which the writer goes on

-- for bytes that are no store's alone: of a call that makes nothing grow
abbrev pub no_page : Fault → Bool
no_page NotAStore = true
no_page e = false

-- for want of memory too: of a call that makes something grow
abbrev pub mild : Fault → Bool
mild Memory = true
mild NotAStore = true
mild e = false

-- none
abbrev pub none_mild : Fault → Bool
none_mild e = false

-- for want of memory alone
abbrev pub want_of_memory : Fault → Bool
want_of_memory Memory = true
want_of_memory e = false

-- ---- what a call asks of the pages

-- Nothing.
abbrev pub AsksNothing : Writer → Type 0
AsksNothing s = Unit {0}

-- Each page has its full copy.
abbrev pub AreLoaded : Writer → Type 0
AreLoaded s = (q : ℕ) → (s.pages q).waits ≡ false

-- Each page up to this one has its full copy.
abbrev pub AreLoadedTo : ℕ → Writer → Type 0
AreLoadedTo p s = (q : ℕ) → q ≤ p → (s.pages q).waits ≡ false

module _ {D : Type 0} (d : Ghosts D) where
  -- The writer stands as some writer that meets what is asked, and has these pages.
  pub record HasPages (asks : Writer → Type 0) (pages : AllPages) (w : PageWriter) (disk : D) : Type 0 where
    pub b : Base
    pub base : ℕ
    pub now : Writer
    pub stands : StandsAs d b base now w disk
    pub asked : asks now
    pub shows : (p : ℕ) → (now.pages p).page ≡ pages p

  -- The writer worked, and works; where it stood as a writer that meets what is asked, each page is as it was, and the log has Images more.
  pub record Stays (asks : Writer → Type 0) (v : PageWriter) (old : D) (w : PageWriter) (new : D) : Type 0 where
    pub began : v.failed ≡ false
    pub works : w.failed ≡ false
    pub alive : d.failed new ≡ false
    pub later : EndsNoSooner v.log w.log
    pub goes : (b : Base) (base : ℕ) (s : Writer) → StandsAs d b base s v old → asks s → Evicted d b base s old w new

  -- The writer worked, and works no more; a stop since the call began leaves what redo can start from.
  pub record Breaks (asks : Writer → Type 0) (v : PageWriter) (old : D) (w : PageWriter) (new : D) : Type 0 where
    pub began : v.failed ≡ false
    pub broken : w.failed ≡ true
    pub stops : (b : Base) (base : ℕ) (s : Writer) → StandsAs d b base s v old → asks s → LeavesGrown d b base s old new

  -- How a call ends that changes no page, by its refusal, if it was refused.
  abbrev pub Ends : (Writer → Type 0) → (Fault → Bool) → PageWriter → D → PageWriter → D → Option Fault → Type 0
  Ends asks goes_on v old w new None = Stays asks v old w new
  Ends asks goes_on v old w new (Some Failed) = (v.failed ≡ true) × (w.failed ≡ true)
  Ends asks goes_on v old w new (Some Device) = Breaks asks v old w new × (d.failed new ≡ true)
  Ends asks goes_on v old w new (Some LogFull) = Breaks asks v old w new × (d.failed new ≡ false) × HasNoRoom w.log × (2 ^ 62 < end_with w.log 4129)
  Ends asks goes_on v old w new (Some e) = (goes_on e ≡ true) × Stays asks v old w new

  -- The outcome of such a call: the writer is ready for the next one, its pool has as many frames, and this is how it ended.
  pub record Outcome (asks : Writer → Type 0) (goes_on : Fault → Bool) (v : PageWriter) (old : D) (w : PageWriter) (new : D) (why : Option Fault) : Type 0 where
    pub ready : IsReadyWriter d w new
    pub frames : w.pool.frames ≡ v.pool.frames
    pub ends : Ends asks goes_on v old w new why

  -- The outcome of a search: it changes no page, asks that each page has its copy, and makes nothing grow. After a refusal for bytes that are no store's the writer goes on; it is never refused for want of memory.
  abbrev pub Reads : PageWriter → D → PageWriter → D → Option Fault → Type 0
  Reads v old w new why = Outcome AreLoaded no_page v old w new why

  -- The outcome of a search that makes a list of what it finds, which grows: it may be refused for want of memory too.
  abbrev pub Lists : PageWriter → D → PageWriter → D → Option Fault → Type 0
  Lists v old w new why = Outcome AreLoaded mild v old w new why

  -- The outcome of a call that writes pages, or none: it changes no page, asks nothing of them, and has no refusal after which the writer goes on.
  abbrev pub Flushes : PageWriter → D → PageWriter → D → Option Fault → Type 0
  Flushes v old w new why = Outcome AsksNothing none_mild v old w new why

  -- ---- calls that log records of their own

  -- The writer worked, and works.
  pub record Works (v w : PageWriter) (new : D) : Type 0 where
    pub began : v.failed ≡ false
    pub works : w.failed ≡ false
    pub alive : d.failed new ≡ false

  -- The writer worked, and works no more.
  pub record Fails (v w : PageWriter) : Type 0 where
    pub began : v.failed ≡ false
    pub broken : w.failed ≡ true

  -- How a call ends that logs records of its own. What it logged, and what a stop within it leaves, another clause says; where the writer goes on after a refusal, nothing of its own was logged.
  -- A call that is refused late may have logged some of its records where it is refused `Failed`, for want of memory, or `NotAStore`, for a page's bytes: the writer worked, and works.
  abbrev pub LogEnds : Bool → (Fault → Bool) → PageWriter → D → PageWriter → D → Option Fault → Type 0
  LogEnds late goes_on v old w new None = Works v w new
  LogEnds late goes_on v old w new (Some Failed) = MatchBool late (Works v w new) ((v.failed ≡ true) × (w.failed ≡ true))
  LogEnds late goes_on v old w new (Some NotAStore) = MatchBool late (Works v w new) ((goes_on NotAStore ≡ true) × Stays AreLoaded v old w new)
  LogEnds late goes_on v old w new (Some Device) = Fails v w × (d.failed new ≡ true)
  LogEnds late goes_on v old w new (Some LogFull) = Fails v w × (d.failed new ≡ false) × HasNoRoom w.log
  LogEnds late goes_on v old w new (Some e) = (goes_on e ≡ true) × Stays AreLoaded v old w new

  -- The outcome of such a call.
  pub record Logs (late : Bool) (goes_on : Fault → Bool) (v : PageWriter) (old : D) (w : PageWriter) (new : D) (why : Option Fault) : Type 0 where
    pub ready : IsReadyWriter d w new
    pub frames : w.pool.frames ≡ v.pool.frames
    pub ends : LogEnds late goes_on v old w new why

  -- ---- calls of redo

  -- How a call of redo ends, which loads a page or changes one by a record. What it did, and what a stop within it leaves, another clause says; where it is refused and the writer goes on, a page may have been got and others written.
  abbrev pub RedoEnds : (Fault → Bool) → PageWriter → PageWriter → D → Option Fault → Type 0
  RedoEnds goes_on v w new None = Works v w new
  RedoEnds goes_on v w new (Some Failed) = (v.failed ≡ true) × (w.failed ≡ true)
  RedoEnds goes_on v w new (Some Device) = Fails v w × (d.failed new ≡ true)
  RedoEnds goes_on v w new (Some LogFull) = Fails v w × (d.failed new ≡ false) × HasNoRoom w.log × (2 ^ 62 < end_with w.log 4129)
  RedoEnds goes_on v w new (Some e) = (goes_on e ≡ true) × Works v w new

  -- The outcome of such a call.
  pub record Redoes (goes_on : Fault → Bool) (v w : PageWriter) (new : D) (why : Option Fault) : Type 0 where
    pub ready : IsReadyWriter d w new
    pub frames : w.pool.frames ≡ v.pool.frames
    pub ends : RedoEnds goes_on v w new why
