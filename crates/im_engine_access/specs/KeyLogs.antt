-- The record of a key that comes or goes, logged on its leaf.
use Rattle.std.specs.Prelude.{◌≡◌, ◌∷◌, ℕ, true, false, None, Some, Result}
use Rattle.std.specs.FinMap.{get}
use Rattle.im_base_types.specs.declared.fault.Fault.{Fault}
use Rattle.im_base_types.specs.Keys.{Key}
use Rattle.im_base_types.specs.Records.{What}
use Rattle.im_theory_log.specs.Histories.{Base, History, IsFront}
use Rattle.im_theory_log.specs.Copies.{GrowsByImages}
use Rattle.im_theory_log.specs.Lawful.{IsFree, IsLawful, IsNotIn, IsOutside}
use Rattle.im_theory_log.specs.Structure.{open_smo, settled}
use Rattle.im_theory_log.specs.Transactions.{contents, is_finished, last_of, undo_next_of}
use Rattle.im_theory_log.specs.Writer.{Writer}
use Rattle.im_base_disk.specs.declared.disk.Disk.{Ghosts}
use Rattle.im_base_disk.specs.Disk.{Files}
use Rattle.im_base_disk.specs.Runs.{LeavesOnly}
use Rattle.im_page_writer.specs.declared.page_writer.PageWriter.{PageWriter}
use Rattle.im_page_file.specs.Stands.{IsCovered}
use Rattle.im_page_writer.specs.Outcome.{IsSound}
use Rattle.im_page_writer.specs.PageWriter.{StandsAs}
use Rattle.im_theory_page.specs.Split.{HasRoom}
use Rattle.im_theory_tree.specs.Search.{IsOnWay}
use Rattle.im_theory_tree.specs.Theory.{page_tree}
use Rattle.im_theory_steps.specs.Growth.{GrowsWithin}
use Rattle.im_theory_steps.specs.Steps.{key_record}

module _ {D : Type 0} (d : Ghosts D) (b : Base) (base : ℕ) where
  -- A stop left a front of a lawful log, which is the older one with Images and records of the transaction that do not end it, and pages that it covers.
  pub record LeftByEdit (s : Writer) (t : ℕ) (c : Files) : Type 0 where
    pub high : History
    pub lawful : IsLawful b page_tree high
    pub grows : GrowsWithin t s.log high
    pub covered : IsCovered b base s.durable high c

  -- and so does each stop since old
  abbrev pub LeavesEdit : Writer → ℕ → D → D → Type 0
  LeavesEdit s t old new = LeavesOnly d old new (LeftByEdit s t)

  -- Redo is over and the log lawful; a structure change that is open is another's. The transaction is not finished, its records end at this LSN, and its undo goes on at this one.
  pub record IsGoingOn (s : Writer) (e t last undo_next : ℕ) (w : PageWriter) (disk : D) : Type 0 where
    pub stands : StandsAs d b base s w disk
    pub over : s.redo_end ≡ Some e
    pub lawful : IsLawful b page_tree s.log
    pub outside : IsOutside t (open_smo s.log)
    pub newest : last_of t s.log ≡ last
    pub undo : undo_next_of t s.log ≡ undo_next
    pub unfinished : is_finished t s.log ≡ false

  -- The transaction goes on, no other net has the key, which the tree lacks, and the page is its leaf there, with room. An open structure change is taken back in that tree, and has not changed the page.
  pub record MayPut (s : Writer) (e t last undo_next page : ℕ) (key : Key) (w : PageWriter) (disk : D) : Type 0 where
    pub unfinished : IsGoingOn s e t last undo_next w disk
    pub free : IsFree t key s.log
    pub absent : get (contents b s.log) key ≡ None
    pub apart : IsNotIn page (open_smo s.log)
    pub way : IsOnWay (settled b s.log) 0 key page
    pub room : HasRoom true (settled b s.log page).entries (key, 0)

  -- The same of a key that the tree has with this row id.
  pub record MayTake (s : Writer) (e t last undo_next page : ℕ) (key : Key) (rid : ℕ) (w : PageWriter) (disk : D) : Type 0 where
    pub unfinished : IsGoingOn s e t last undo_next w disk
    pub free : IsFree t key s.log
    pub there : get (contents b s.log) key ≡ Some rid
    pub apart : IsNotIn page (open_smo s.log)
    pub way : IsOnWay (settled b s.log) 0 key page

  -- The record joined the log, after Images, and its leaf is changed by it: the transaction's records end there, and its undo begins there. The same structure change is open as before, or none.
  pub record KeyLogged (s : Writer) (e t last page : ℕ) (what : What) (lsn : ℕ) (w : PageWriter) (disk : D) : Type 0 where
    pub now : Writer
    pub stands : IsGoingOn now e t lsn lsn w disk
    pub opened : open_smo now.log ≡ open_smo s.log
    pub point : now.point ≡ s.point
    pub durable : IsFront s.durable now.durable
    pub before : History
    pub images : GrowsByImages b s.log before
    pub is : now.log ≡ key_record t last lsn page what ∷ before

  -- what logging it keeps
  pub record KeyLogKept (s : Writer) (e t last page : ℕ) (what : What) (old : D) (w : PageWriter) (disk : D) (result : Result ℕ Fault) : Type 0 where
    pub sound : IsSound result (λ lsn. KeyLogged s e t last page what lsn w disk)
    pub stops : LeavesEdit s t old disk
