-- What redo asks of a log, and what it keeps.
use Rattle.std.specs.Prelude.{◌≡◌, ◌+◌, ℕ, List, [], ◌∷◌, ◌++◌, Bool, if◌then◌else◌, ◌&&◌, nat_le, nat_lt, Option, None, Some, Result}
use Rattle.im_base_types.specs.declared.fault.Fault.{Fault}
use Rattle.im_base_types.specs.Keys.{Key}
use Rattle.im_base_types.specs.Pages.{Body, Page}
use Rattle.im_base_types.specs.Records.{Logged}
use Rattle.im_theory_log.specs.Tree.{Tree}
use Rattle.im_theory_log.specs.Histories.{Base, History, IsFront, changes_page, end_of, page_at}
use Rattle.im_theory_log.specs.Copies.{GrowsByImages, noted}
use Rattle.im_theory_log.specs.RedoPoints.{redo_point}
use Rattle.im_theory_log.specs.Writer.{Writer}
use Rattle.im_theory_log.specs.WriterSteps.{page_or}
use Rattle.im_base_disk.specs.declared.disk.Disk.{Ghosts}
use Rattle.im_page_writer.specs.declared.page_writer.PageWriter.{PageWriter}
use Rattle.im_page_file.specs.Stands.{LeavesCovered}
use Rattle.im_page.specs.LeafChange.{CanPutKey, CanTakeKey}
use Rattle.im_page_writer.specs.PageWriter.{StandsAs}
use Rattle.im_page_writer.specs.Outcome.{IsSound}
use Rattle.im_page_rounds.specs.OnePage.{PageTakes}

-- each record of the log can be applied to its page as the records before it left that
abbrev pub AreApplicable : Base → History → Type 0
AreApplicable b [] = Unit {0}
AreApplicable b (r ∷ older) = AreApplicable b older × PageTakes r.what (page_at b older r.page)

-- the LSNs of the records from a point on that change a page, the oldest first
abbrev pub lsns_from : ℕ → History → List ℕ
lsns_from point [] = []
lsns_from point (r ∷ older) = if nat_le point r.lsn && changes_page r.what then lsns_from point older ++ r.lsn ∷ [] else lsns_from point older

-- the page as redo first has it: its noted copy, else what the file has, else what the log is over
abbrev pub first_page : Option (ℕ × Page) → Option Page → Page → Page
first_page None file initial = page_or file initial
first_page (Some c) file initial = c.1

-- the LSN that each page has then
abbrev pub first_lsn : Base → History → (ℕ → Option Page) → ℕ → ℕ
first_lsn b begun file p = (first_page (noted (redo_point begun) begun p) (file p) (b.pages p)).lsn

-- whether redo from a point applies a record: it changes a page that had a lower LSN at first
abbrev pub is_redone : (ℕ → ℕ) → ℕ → Logged → Bool
is_redone lsns point r = nat_le point r.lsn && (changes_page r.what && nat_lt (lsns r.page) r.lsn)

-- how many records it applies
abbrev pub applied_in : (ℕ → ℕ) → ℕ → History → ℕ
applied_in lsns point [] = 0
applied_in lsns point (r ∷ older) = applied_in lsns point older + (if is_redone lsns point r then 1 else 0)

-- What the tree says that a key can be put into or taken out of is a leaf that lacks it, with room, or has it.
pub record IsOnLeaves (tree : Tree) : Type 0 where
  pub put : (pages : ℕ → Body) (g : Page) (p : ℕ) (k : Key) (i : ℕ) → tree.Good pages → tree.CanPut pages p k i → g.body ≡ pages p → CanPutKey g k
  pub take : (pages : ℕ → Body) (g : Page) (p : ℕ) (k : Key) (i : ℕ) → tree.Good pages → tree.CanDrop pages p k i → g.body ≡ pages p → CanTakeKey g k

module _ {D : Type 0} (d : Ghosts D) (b : Base) (base : ℕ) (begun : History) where
  -- Redo is over: each page is what the whole log made of it; since redo began Images alone joined the log.
  pub record Redone (old : D) (w : PageWriter) (disk : D) : Type 0 where
    pub now : Writer
    pub stands : StandsAs d b base now w disk
    pub stops : LeavesCovered d b base begun now.log old disk
    pub over : now.redo_end ≡ Some (end_of b now.log)
    pub log : GrowsByImages b begun now.log
    pub durable : IsFront begun now.durable
    pub pages : (p : ℕ) → (now.pages p).page ≡ page_at b now.log p

  -- A stop at any moment leaves the log with Images more, and a file of pages that it covers.
  pub record LeavesRedoing (old new : D) : Type 0 where
    pub high : History
    pub grows : GrowsByImages b begun high
    pub stops : LeavesCovered d b base begun high old new

  -- What a call of redo keeps: its answer is this, no store is refused as none, and a stop since redo began leaves what redo can start from.
  pub record RedoSound {A : Type 0} (P : A → Type 0) (old disk : D) (result : Result A Fault) : Type 0 where
    pub sound : IsSound result P
    pub stops : LeavesRedoing old disk

  -- what redo keeps, from a file of these pages
  abbrev pub RedoneKept : (ℕ → Option Page) → D → PageWriter → D → Result ℕ Fault → Type 0
  RedoneKept file old w disk result = RedoSound (λ n. Redone old w disk × (n ≡ applied_in (first_lsn b begun file) (redo_point begun) begun)) old disk result
