-- How a transaction stands between two structure changes, and after one of its own.
use Rattle.std.specs.Prelude.{◌≡◌, ◌⊎◌, ◌-◌, ◌^◌, ℕ, false, [], Some, Bool}
use Rattle.im_base_types.specs.Keys.{Key}
use Rattle.im_theory_log.specs.Histories.{Base, IsFront}
use Rattle.im_theory_log.specs.Lawful.{IsLawful}
use Rattle.im_theory_log.specs.Structure.{open_smo}
use Rattle.im_theory_log.specs.Transactions.{last_of, undo_next_of, is_finished}
use Rattle.im_theory_log.specs.Writer.{Writer}
use Rattle.im_base_disk.specs.declared.disk.Disk.{Ghosts}
use Rattle.im_page_writer.specs.declared.page_writer.PageWriter.{PageWriter}
use Rattle.im_page_writer.specs.PageWriter.{StandsAs}
use Rattle.im_theory_tree.specs.Levels.{Pages, height, walk}
use Rattle.im_theory_tree.specs.Theory.{page_tree}
use Rattle.im_tree_search.specs.Levels.{bodies}
use Rattle.im_smo_log.specs.Changes.{GrowsByChange}
use Rattle.im_smo_split.specs.PendingSplits.{SplitsDown}
use Rattle.im_smo_split.specs.Plan.{IsOver}

-- Page numbers would be used up by the pages that the split of the key's leaf takes, dense or not, or levels are: the root is of the last one, and has to be split.
abbrev pub IsUsedUp : Bool → Pages → Key → Type 0
IsUsedUp dense pages key = IsOver dense pages key (2 ^ 32 - 1) ⊎ ((height pages ≡ 255) × SplitsDown dense pages key 255 1)

module _ {D : Type 0} (d : Ghosts D) (b : Base) (base : ℕ) where
  -- Redo is over, the log lawful, and no structure change open; the transaction is not finished, its records end at this LSN, and its undo goes on at this one.
  pub record IsUnfinished (s : Writer) (e t last undo_next : ℕ) (w : PageWriter) (disk : D) : Type 0 where
    pub stands : StandsAs d b base s w disk
    pub over : s.redo_end ≡ Some e
    pub lawful : IsLawful b page_tree s.log
    pub closed : open_smo s.log ≡ []
    pub newest : last_of t s.log ≡ last
    pub undo : undo_next_of t s.log ≡ undo_next
    pub unfinished : is_finished t s.log ≡ false

  -- A structure change of the transaction joined the log and Images, or Images alone: its undo goes on where it did, and the tree has the same entries.
  pub record Restructured (s : Writer) (e t last undo_next : ℕ) (w : PageWriter) (disk : D) : Type 0 where
    pub now : Writer
    pub stands : IsUnfinished now e t last undo_next w disk
    pub point : now.point ≡ s.point
    pub durable : IsFront s.durable now.durable
    pub grows : GrowsByChange t s.log now.log
    pub same : walk (bodies now) ≡ walk (bodies s)
