-- The redo point of a log, and what files a restart can start from.
use Rattle.std.specs.Prelude.{◌≡◌, ℕ, min, List, [], ◌∷◌, Bool, true, false, Option, None, Some}
use Rattle.im_base_types.specs.Pages.{Page}
use Rattle.im_base_types.specs.Records.{What, Checkpoint}
use Rattle.im_base_types.specs.declared.tables.DirtyPage.{DirtyPage}
use Rattle.im_theory_log.specs.Histories.{History, Base}
use Rattle.im_theory_log.specs.Copies.{Reaches, noted}

-- the least of an LSN and the rec_lsns of dirty pages
abbrev pub least : ℕ → List DirtyPage → ℕ
least l [] = l
least l (d ∷ ds) = least (min l d.rec_lsn) ds

-- the LSN of the first record
abbrev pub lsn_of_first : History → ℕ
lsn_of_first [] = 0
lsn_of_first (r ∷ []) = r.lsn
lsn_of_first (r ∷ s ∷ older) = lsn_of_first (s ∷ older)

abbrev pub is_checkpoint : What → Bool
is_checkpoint (Checkpoint n a d) = true
is_checkpoint _ = false

-- what a record makes of the last checkpoint's point: a Checkpoint's is the least of its own LSN and its rec_lsns
abbrev pub point_after : ℕ → What → Option ℕ → Option ℕ
point_after l (Checkpoint n a d) older = Some (least l d)
point_after l _ older = older

-- the point of the last checkpoint, None where there is none
abbrev pub checkpoint_point : History → Option ℕ
checkpoint_point [] = None
checkpoint_point (r ∷ older) = point_after r.lsn r.what (checkpoint_point older)

abbrev pub or_first : Option ℕ → History → ℕ
or_first (Some l) log = l
or_first None log = lsn_of_first log

-- the LSN from which redo begins: the last checkpoint's, without one the first record's
abbrev pub redo_point : History → ℕ
redo_point log = or_first (checkpoint_point log) log

-- a page of the file that has had all its records below the point
pub record IsRead (b : Base) (point : ℕ) (log : History) (p : ℕ) (file : Option Page) : Type 0 where
  pub page : Page
  pub here : file ≡ Some page
  pub reaches : Reaches b log point p page

-- Redo can start at a point: from its noted copy, and without one from the file, each page has had all its records below the point.
-- `file` is what the Pages file has: past its end the base's page, None where the bytes are no page.
pub record CoversFrom (b : Base) (point : ℕ) (log : History) (file : ℕ → Option Page) : Type 0 where
  pub copied : (p l : ℕ) (c : Page) → noted point log p ≡ Some (l, c) → Reaches b log point p c
  pub read : (p : ℕ) → noted point log p ≡ None → IsRead b point log p (file p)

-- The log covers the file: redo can start at the log's own redo point.
abbrev pub Covers : Base → History → (ℕ → Option Page) → Type 0
Covers b log file = CoversFrom b (redo_point log) log file
