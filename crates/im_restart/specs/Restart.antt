-- What a restart asks of the files, and what it keeps.
use Rattle.std.specs.Prelude.{◌≡◌, ◌⊎◌, ◌+◌, ◌<◌, ◌≤◌, ◌^◌, ℕ, [], ◌∷◌, length, Option, Some, true, false, Result}
use Rattle.im_base_types.specs.declared.fault.Fault.{Fault}
use Rattle.im_base_types.specs.declared.file_id.FileId.TheVariants.{Log, Pages}
use Rattle.im_theory_log.specs.Histories.{Base, History, Rises, page_at}
use Rattle.im_theory_log.specs.Structure.{open_smo, settled}
use Rattle.im_theory_log.specs.Transactions.{to_undo}
use Rattle.im_base_types.specs.Keys.{Key}
use Rattle.im_base_types.specs.Pages.{Page}
use Rattle.im_base_types.specs.Records.{DeleteKey, Logged}
use Rattle.im_theory_log.specs.PageCounts.{named_to}
use Rattle.im_theory_log.specs.RedoPoints.{Covers, redo_point}
use Rattle.im_theory_log.specs.Lawful.{IsLawful}
use Rattle.im_theory_log.specs.Writer.{Writer}
use Rattle.im_base_disk.specs.declared.disk.Disk.{Ghosts}
use Rattle.im_base_disk.specs.Disk.{Files}
use Rattle.im_base_disk.specs.Runs.{LeavesOnly}
use Rattle.im_log_gate.specs.Header.{base_of, least_number, IsUnmade}
use Rattle.im_log.specs.Kept.{HasLog, IsLogOf}
use Rattle.im_theory_page.specs.PageFile.{file_page}
use Rattle.im_page_file.specs.OtherLog.{IsNewest}
use Rattle.im_page_writer.specs.declared.page_writer.PageWriter.{PageWriter}
use Rattle.im_page_writer.specs.PageWriter.{StandsAs}
use Rattle.im_page_writer.specs.Outcome.{IsSound}
use Rattle.im_theory_tree.specs.Theory.{page_tree}
use Rattle.im_restart_analysis.specs.Analysis.{Continues}
use Rattle.im_restart_analysis.specs.Losers.{is_loser}
use Rattle.im_restart_analysis.specs.Numbers.{IsNextNumber}
use Rattle.im_restart_analysis.specs.Orderly.{FitsBehind, IsCounted, IsOrderly, IsReadable, pages_at_first}
use Rattle.im_restart_analysis.specs.Within.{IsWithin, greatest_said}
use Rattle.im_restart_redo.specs.Redo.{AreApplicable, applied_in, first_lsn}
use Rattle.im_restart_undo.specs.Undoing.{CanNotSplit}
use Rattle.im_base_types.specs.declared.redo_report.RedoReport.{RedoReport}
use Rattle.im_restart.specs.declared.restarted.Restarted.{Restarted}
use Rattle.im_restart.specs.Undone.{GrowsByRestart}
use Rattle.im_restart.specs.UndoOrder.{IsInOrder, IsNearlyInOrder}

-- What redo did: where it began, and how many records it applied to pages that it first had from this file or from their noted copies.
pub record IsReport (b : Base) (all : History) (file : ℕ → Option Page) (r : RedoReport) : Type 0 where
  pub point : r.point ≡ redo_point all
  pub applied : r.applied ≡ applied_in (first_lsn b all file) (redo_point all) all

-- No store was made yet: the log is unmade, and there are no pages.
abbrev pub IsFresh : Files → Type 0
IsFresh files = IsUnmade (files Log) × (length (files Pages) ≡ 0)

-- No store was made yet, or the log's bytes spell a list of records to the last: a damaged log spells none. Where each page image in it
-- is a page, no record leads up, none opens a structure change beside another's, and none names a page that no page count said before it has, nor what the log begins with.
abbrev pub SpellsLog : Files → Type 0
SpellsLog files = IsFresh files ⊎ ((found : History) × HasLog (base_of (files Log)) found (files Log) × (IsReadable found → IsOrderly (pages_at_first (base_of (files Log))) found))

-- Analysis takes each record of the log: its LSN is above those before it, its page images are pages, nothing of its transaction has ended, it leads to earlier records alone, it opens no structure change beside another's, and a page that it names is below a page count that was said before it, or the count n that the log begins with, where that bounds it.
abbrev pub AreTaken : ℕ → History → Type 0
AreTaken n [] = Unit {0}
AreTaken n (r ∷ older) = Continues r older × FitsBehind n r older × AreTaken n older

-- No transaction of the log is unfinished, and no structure change is open.
pub record LeavesNoUndo (log : History) : Type 0 where
  pub ended : (t : ℕ) → is_loser t log ≡ false
  pub closed : open_smo log ≡ []

-- Less than 32,778 bytes are left below LSN 2^62 after the log's file: a full buffer, the longest record, and what stands round them.
abbrev pub IsFullLog : Files → Type 0
IsFullLog files = 2 ^ 62 < base_of (files Log) + (length (files Log) + 32778)

-- The files have this log, which starts at this LSN and covers the pages; without a log there are no pages. The other log is older, or neither is made.
pub record HasStore (b : Base) (base : ℕ) (all : History) (files : Files) : Type 0 where
  pub log : IsLogOf base all (files Log)
  pub bare : IsUnmade (files Log) → length (files Pages) ≡ 0
  pub covers : Covers b all (file_page (files Pages))
  pub newest : IsNewest b files

-- The pages that the records name are below a page count that an image of page 0 in the log says, or page 0 of the file: a log that goes on does not say how many pages it found.
abbrev pub NamesWithin : History → Files → Type 0
NamesWithin all files = IsWithin (named_to all) (greatest_said all) (file_page (files Pages) 0)

-- What a restart can start from: a lawful log that covers the pages. What the log is over has no LSN above its first byte, and, of a first log, says no more pages than such a one begins with.
pub record MayRestart (b : Base) (base : ℕ) (all : History) (files : Files) : Type 0 where
  pub start : b.start ≤ base
  pub counted : IsCounted b base
  pub has : HasStore b base all files
  pub lawful : IsLawful b page_tree all

-- What redo alone brings back, whether the log is lawful or not: a log that covers the pages, each of whose records can be applied to its page as the records before it left that, that names no page above the page counts said, and that leaves nothing to undo.
pub record MayRedo (b : Base) (base : ℕ) (all : History) (files : Files) : Type 0 where
  pub start : b.start ≤ base
  pub has : HasStore b base all files
  pub rises : Rises b all
  pub taken : AreTaken (pages_at_first base) all
  pub within : NamesWithin all files
  pub can : AreApplicable b all
  pub done : LeavesNoUndo all

-- Undo of this log came to a loser whose next record to undo dropped a key, and the leaf of that key lacks room for it and can't be split: page numbers or levels are used up.
pub record RunsOut (b : Base) (all : History) : Type 0 where
  -- the log as undo has it by then
  pub now : History
  pub grown : GrowsByRestart all now
  pub lawful : IsLawful b page_tree now
  pub closed : open_smo now ≡ []
  pub owner : ℕ
  pub loser : is_loser owner now ≡ true
  pub next : Logged
  pub older : History
  pub stack : to_undo owner now ≡ next ∷ older
  pub key : Key
  pub rid : ℕ
  pub dropped : next.what ≡ DeleteKey key rid
  pub full : CanNotSplit (settled b now) key

-- A stop left what a restart can start from again: the log, or it with records of undo more.
pub record IsLeftUndoing (b : Base) (base : ℕ) (all : History) (files : Files) : Type 0 where
  pub left : History
  pub has : HasStore b base left files
  pub grown : GrowsByRestart all left
  pub order : IsNearlyInOrder all left
  pub lawful : IsLawful b page_tree left

module _ {D : Type 0} (d : Ghosts D) (b : Base) (base : ℕ) (all : History) where
  -- All is undone and ended that was unfinished; the pages are what the whole log made of them, and all of it is durable.
  pub record IsSettled (w : PageWriter) (disk : D) : Type 0 where
    pub now : Writer
    pub stands : StandsAs d b base now w disk
    pub redo_end : ℕ
    pub over : now.redo_end ≡ Some redo_end
    pub durable : now.durable ≡ now.log
    pub grown : GrowsByRestart all now.log
    pub order : IsInOrder all now.log
    pub lawful : IsLawful b page_tree now.log
    pub ended : (t : ℕ) → is_loser t now.log ≡ false
    pub pages : (p : ℕ) → (now.pages p).page ≡ page_at b now.log p

  -- What a call of a restart keeps: its answer is this, no store is refused as none, and a stop since it began leaves what a restart can start from.
  pub record RestartSound {A : Type 0} (P : A → Type 0) (old new : D) (result : Result A Fault) : Type 0 where
    pub sound : IsSound result P
    pub stops : LeavesOnly d old new (IsLeftUndoing b base all)

  -- what redo, undo and the last force keep
  abbrev pub SettleKept : D → PageWriter → D → Result ℕ Fault → Type 0
  SettleKept old w new result = RestartSound (λ n. IsSettled w new × (n ≡ applied_in (first_lsn b all (file_page (d.seen old Pages))) (redo_point all) all)) old new result

  -- the same of the writer that an opening answers
  abbrev pub IsRestarted : Restarted → D → Type 0
  IsRestarted r disk = IsSettled r.writer disk

  -- What an opening answers: such a writer, the number of the next transaction, and what redo did.
  pub record IsOpened (old : D) (r : Restarted) (new : D) : Type 0 where
    pub restarted : IsRestarted r new
    pub next : IsNextNumber (least_number (d.seen old Log)) r.next all
    pub report : IsReport b all (file_page (d.seen old Pages)) r.report

  -- what a restart keeps
  abbrev pub RestartKept : D → D → Result Restarted Fault → Type 0
  RestartKept old new result = RestartSound (λ r. IsOpened old r new) old new result
