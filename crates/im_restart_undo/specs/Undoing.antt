-- What it asks to take a key record back, how the log stands on the way, and what is kept.
use Rattle.std.specs.Prelude.{◌≡◌, ◌≤◌, ℕ, true, false, [], ◌∷◌, length, Some, None, Result, IfErr}
use Rattle.std.specs.FinMap.Entries.{find}
use Rattle.im_base_types.specs.declared.fault.Fault.{Fault}
use Rattle.im_base_types.specs.declared.fault.Fault.TheVariants.{Capacity, Failed, Memory}
use Rattle.im_base_types.specs.Keys.{Key, key_order}
use Rattle.im_base_types.specs.Records.{What, InsertKey, DeleteKey}
use Rattle.im_theory_log.specs.Histories.{Base, History, IsFront}
use Rattle.im_theory_log.specs.Lawful.{IsLawful}
use Rattle.im_theory_log.specs.Transactions.{to_undo, contents, contents_after, is_finished}
use Rattle.im_theory_log.specs.Writer.{Writer}
use Rattle.im_base_disk.specs.declared.disk.Disk.{Ghosts}
use Rattle.im_base_disk.specs.Disk.{Files}
use Rattle.im_base_disk.specs.Runs.{LeavesOnly}
use Rattle.im_log_record.specs.Entry.{Entry, prev_of}
use Rattle.im_log.specs.Whats.{what_of}
use Rattle.im_log.specs.Spelled.{logged_at}
use Rattle.im_page_writer.specs.declared.page_writer.PageWriter.{PageWriter}
use Rattle.im_page_file.specs.Stands.{IsCovered}
use Rattle.im_page_writer.specs.PageWriter.{StandsAs}
use Rattle.im_page_writer.specs.Outcome.{IsSound}
use Rattle.im_theory_page.specs.Split.{HasRoom}
use Rattle.im_theory_tree.specs.Levels.{Pages, walk}
use Rattle.im_theory_tree.specs.Search.{IsOnWay}
use Rattle.im_theory_tree.specs.Theory.{page_tree}
use Rattle.im_tree_search.specs.Levels.{bodies}
use Rattle.im_smo_log.specs.Changes.{HasRecordOf}
use Rattle.im_smo_split.specs.Tops.{LacksRoomFor}
use Rattle.im_smo_actions.specs.Structure.{IsUsedUp}
use Rattle.im_restart_analysis.specs.Losers.{row_of}
use Rattle.im_restart_analysis.specs.Undo.{IsUndoable, IsNext}
use Rattle.im_restart_undo.specs.Records.{GrowsByUndo, compensations, inverse_of}

-- the walk has the key with the row id that a record put, or lacks the one that it dropped
abbrev pub ShowsChange : Pages → What → Type 0
ShowsChange pages (InsertKey k i) = find key_order k (walk pages) ≡ Some i
ShowsChange pages (DeleteKey k i) = find key_order k (walk pages) ≡ None
ShowsChange pages _ = Unit {0}

-- the page is the key's leaf, with room for a key that is put back
abbrev pub TakesIt : Pages → ℕ → What → Type 0
TakesIt pages p (InsertKey k i) = IsOnWay pages 0 k p
TakesIt pages p (DeleteKey k i) = IsOnWay pages 0 k p × HasRoom true (pages p).entries (k, 0)
TakesIt pages p _ = Unit {0}

-- The key's leaf lacks room for it, and the pages that its split takes are more than there are numbers for, or the root is of the last level.
pub record CanNotSplit (pages : Pages) (key : Key) : Type 0 where
  pub lacks : LacksRoomFor pages key
  pub used_up : IsUsedUp false pages key

-- the leaf of the key that a record dropped lacks room for it; no other record asks for room
abbrev pub WantsRoom : Pages → What → Type 0
WantsRoom pages (DeleteKey k i) = LacksRoomFor pages k
WantsRoom pages _ = ⊥

-- and its split is not to be had
abbrev pub UsesUp : Pages → What → Type 0
UsesUp pages (DeleteKey k i) = CanNotSplit pages k
UsesUp pages _ = ⊥

module _ {D : Type 0} (d : Ghosts D) (b : Base) (base : ℕ) where
  -- Redo is over, the log lawful, and no structure change open; the transaction is not finished, its records end at this LSN, and its undo goes on at this one.
  pub record IsGoing (s : Writer) (e t last undo_next : ℕ) (w : PageWriter) (disk : D) : Type 0 where
    pub stands : StandsAs d b base s w disk
    pub over : s.redo_end ≡ Some e
    pub can : IsUndoable b page_tree s.log
    pub owner : 1 ≤ t
    pub unfinished : is_finished t s.log ≡ false
    pub row : row_of t s.log ≡ record { last = last; undo_next = undo_next }

  -- A stop left a front of a lawful log, which is the older one with records that take back what transaction t did, and pages that it covers.
  pub record LeftByUndo (s : Writer) (t : ℕ) (c : Files) : Type 0 where
    pub high : History
    pub lawful : IsLawful b page_tree high
    pub grows : GrowsByUndo t s.log high
    pub covered : IsCovered b base s.durable high c

  -- and so does each stop since old
  abbrev pub LeavesUndo : Writer → ℕ → D → D → Type 0
  LeavesUndo s t old new = LeavesOnly d old new (LeftByUndo s t)

  -- Calls in a row since the writer stood as s: how it stands now, and what a stop since then has left.
  pub record GoesTo (s : Writer) (e t last undo_next : ℕ) (old : D) (now : Writer) (w : PageWriter) (disk : D) : Type 0 where
    pub going : IsGoing now e t last undo_next w disk
    pub point : now.point ≡ s.point
    pub durable : IsFront s.durable now.durable
    pub grows : GrowsByUndo t s.log now.log
    pub stops : LeavesUndo s t old disk

  -- A record of the transaction joined the log, and no call has failed.
  pub record HasBegun (s : Writer) (t : ℕ) (w : PageWriter) (disk : D) : Type 0 where
    pub now : Writer
    pub stands : StandsAs d b base now w disk
    pub grows : GrowsByUndo t s.log now.log
    pub some : HasRecordOf t grows.more

  -- ---- structure changes on the way

  -- After them the transaction has the same left to undo, and the tree the same entries.
  pub record Restructured (s : Writer) (e t last undo_next : ℕ) (old : D) (w : PageWriter) (disk : D) : Type 0 where
    pub now : Writer
    pub goes : GoesTo s e t last undo_next old now w disk
    pub stack : to_undo t now.log ≡ to_undo t s.log
    pub map : contents b now.log ≡ contents b s.log
    pub none : compensations goes.grows.more ≡ []

  -- what the deletion of the leaf keeps that a compensation left empty, which may stay for want of memory
  pub record EmptiedKept (s : Writer) (e t undo_next : ℕ) (old : D) (w : PageWriter) (disk : D) (result : Result ℕ Fault) : Type 0 where
    pub sound : IsSound result (λ last. Restructured s e t last undo_next old w disk)
    pub stops : LeavesUndo s t old disk
    pub begun : IfErr result (λ e. e ≡ Failed → HasBegun s t w disk)

  -- The leaf of the key is this page, one of the change, and has room.
  pub record HasMadeRoom (s : Writer) (e t last undo_next : ℕ) (key : Key) (leaf : ℕ) (old : D) (w : PageWriter) (disk : D) : Type 0 where
    pub made : Restructured s e t last undo_next old w disk
    pub way : IsOnWay (bodies made.now) 0 key leaf
    pub room : HasRoom true (bodies made.now leaf).entries (key, 0)
    pub some : HasRecordOf t made.goes.grows.more

  -- what the split of a key's leaf keeps; it is refused `Failed` after a record of the transaction
  pub record SplitKept (s : Writer) (e t undo_next : ℕ) (key : Key) (leaf : ℕ) (old : D) (w : PageWriter) (disk : D) (result : Result ℕ Fault) : Type 0 where
    pub sound : IsSound result (λ last. HasMadeRoom s e t last undo_next key leaf old w disk)
    pub stops : LeavesUndo s t old disk
    pub begun : IfErr result (λ e. e ≡ Failed → HasBegun s t w disk)

  -- ---- the compensation

  -- What is to be taken back: the newest key record that the transaction has left to undo.
  pub record IsToUndo (s : Writer) (t : ℕ) (entry : Entry) : Type 0 where
    pub lsn : ℕ
    pub next : IsNext t s.log (logged_at lsn entry)

  -- It is taken back by one compensation: the transaction has one record less to undo, its undo goes on where that one leads, and the tree's map lacks its change alone.
  pub record TakenBack (s : Writer) (e t : ℕ) (entry : Entry) (last : ℕ) (old : D) (w : PageWriter) (disk : D) : Type 0 where
    pub now : Writer
    pub goes : GoesTo s e t last (prev_of entry) old now w disk
    pub lsn : ℕ
    pub stack : to_undo t s.log ≡ logged_at lsn entry ∷ to_undo t now.log
    pub map : contents b now.log ≡ contents_after (inverse_of (what_of entry)) (contents b s.log)
    pub once : length (compensations goes.grows.more) ≡ 1

  -- What a compensation keeps. It is refused `Failed` after a record of the transaction; `Memory` comes only where a key that is put back finds its leaf without room, and `Capacity` only where page numbers or levels are used up too.
  pub record CompensateKept (s : Writer) (e t : ℕ) (entry : Entry) (old : D) (w : PageWriter) (disk : D) (result : Result ℕ Fault) : Type 0 where
    pub sound : IsSound result (λ last. TakenBack s e t entry last old w disk)
    pub stops : LeavesUndo s t old disk
    pub short : IfErr result (λ e. e ≡ Memory → WantsRoom (bodies s) (what_of entry))
    pub used_up : IfErr result (λ e. e ≡ Capacity → UsesUp (bodies s) (what_of entry))
    pub begun : IfErr result (λ e. e ≡ Failed → HasBegun s t w disk)
