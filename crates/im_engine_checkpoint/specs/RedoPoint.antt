-- What redo needs of a log: nothing before its redo point.
use Rattle.std.specs.Prelude.{◌≡◌, ◌≤◌, ◌⊎◌, ℕ, List, [], ◌∷◌, ◌++◌, if◌then◌else◌, nat_le, Option, None, Some}
use Rattle.im_base_types.specs.declared.tables.ActiveTransaction.{ActiveTransaction}
use Rattle.im_base_types.specs.declared.tables.DirtyPage.{DirtyPage}
use Rattle.im_base_types.specs.Pages.{Page}
use Rattle.im_base_types.specs.Records.{Checkpoint, Logged}
use Rattle.im_theory_log.specs.Histories.{Base, History, Rises, page_at}
use Rattle.im_theory_log.specs.Copies.{noted}
use Rattle.im_theory_log.specs.RedoPoints.{Covers, redo_point}
use Rattle.im_theory_log.specs.WriterSteps.{IsIn}

-- the records from an LSN on, the oldest first
abbrev pub records_since : ℕ → History → List Logged
records_since from [] = []
records_since from (r ∷ older) = if nat_le from r.lsn then records_since from older ++ r ∷ [] else records_since from older

-- the page that redo begins with: its last full copy from the redo point on, else what the file has, if that is a page
abbrev pub first_page : Option (ℕ × Page) → Option Page → Option Page
first_page None file = file
first_page (Some (l, copy)) file = Some copy

-- Redo from the redo point makes of a page what redo from the first record makes of the page that the log began with; and that is what
-- the log's records made of it.
pub record IsRedoneAlike (redo : List Logged → ℕ → Page → Page) (b : Base) (log : History) (file : ℕ → Option Page) (p : ℕ) : Type 0 where
  pub page : Page
  pub first : first_page (noted (redo_point log) log p) (file p) ≡ Some page
  pub same : redo (records_since (redo_point log) log) p page ≡ redo (records_since 0 log) p (b.pages p)
  pub whole : redo (records_since 0 log) p (b.pages p) ≡ page_at b log p

-- Redo needs nothing before the redo point, whatever files the log covers.
abbrev pub RedoNeedsNothingBefore : (List Logged → ℕ → Page → Page) → Type 0
RedoNeedsNothingBefore redo = (b : Base) (log : History) (file : ℕ → Option Page) → Rises b log → Covers b log file → (p : ℕ) → IsRedoneAlike redo b log file p

-- a page of the list has this rec_lsn
pub record HasRecLsn (l : ℕ) (dirty : List DirtyPage) : Type 0 where
  pub page : ℕ
  pub listed : IsIn (record { page = page; rec_lsn = l }) dirty

-- A number is the least of an LSN and the rec_lsns of a list: one of them, and no greater than any.
pub record IsLeastPoint (point lsn : ℕ) (dirty : List DirtyPage) : Type 0 where
  pub own : point ≤ lsn
  pub each : (x : DirtyPage) → IsIn x dirty → point ≤ x.rec_lsn
  pub one : (point ≡ lsn) ⊎ HasRecLsn point dirty

-- After a Checkpoint the redo point is that of its LSN and its list.
abbrev pub RedoPointIsTheLeast : Type 0
RedoPointIsTheLeast = (r : Logged) (older : History) (next : ℕ) (active : List ActiveTransaction) (dirty : List DirtyPage) → r.what ≡ Checkpoint next active dirty
    → IsLeastPoint (redo_point (r ∷ older)) r.lsn dirty
