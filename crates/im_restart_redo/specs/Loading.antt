-- What the loading of noted copies keeps.
use Rattle.std.specs.Prelude.{◌≡◌, ℕ, true, false, List, Option, None, Some, Result}
use Rattle.std.specs.BTreeMap.{is_at}
use Rattle.std.specs.List.Sorted.{IsStrictlySortedBy}
use Rattle.std.specs.Map.{keys_of, lookup}
use Rattle.std.specs.Ordering.{nat_cmp}
use Rattle.im_base_types.specs.declared.fault.Fault.{Fault}
use Rattle.im_base_types.specs.Pages.{Page}
use Rattle.im_theory_log.specs.Histories.{Base, History}
use Rattle.im_theory_log.specs.Copies.{noted}
use Rattle.im_theory_log.specs.RedoPoints.{redo_point}
use Rattle.im_theory_log.specs.Writer.{PageState, Writer}
use Rattle.im_base_disk.specs.declared.disk.Disk.{Ghosts}
use Rattle.im_page_writer.specs.declared.page_writer.PageWriter.{PageWriter}
use Rattle.im_restart_redo.specs.Redo.{RedoSound, first_lsn}
use Rattle.im_restart_redo.specs.Within.{IsWithinRedo}

-- the LSN that some pairs of a page and an LSN have for a page
abbrev pub lsn_at : List (ℕ × ℕ) → ℕ → Option ℕ
lsn_at pairs p = lookup (is_at (nat_cmp p)) pairs

-- The page waits for its last copy in the log that redo began with, which stands at this LSN.
pub record WaitsForCopy (begun : History) (p l : ℕ) (x : PageState) : Type 0 where
  pub waits : x.waits ≡ true
  pub copy : Page
  pub found : x.found ≡ Some (l, copy)
  pub noted : noted (redo_point begun) begun p ≡ Some (l, copy)

-- The pages that wait are those with a copy left to be loaded.
pub record AreWaiting (begun : History) (left : List (ℕ × ℕ)) (pages : ℕ → PageState) : Type 0 where
  pub others : (p : ℕ) → lsn_at left p ≡ None → (pages p).waits ≡ false
  pub these : (p l : ℕ) → lsn_at left p ≡ Some l → WaitsForCopy begun p l (pages p)

-- Each page that does not wait has the LSN that it has at first.
abbrev pub HaveFirst : Base → History → (ℕ → Option Page) → (ℕ → PageState) → Type 0
HaveFirst b begun file pages = (p : ℕ) → (pages p).waits ≡ false → (pages p).page.lsn ≡ first_lsn b begun file p

module _ {D : Type 0} (d : Ghosts D) (b : Base) (base : ℕ) (begun : History) (file : ℕ → Option Page) where
  -- These copies are left to be loaded, in rising page number.
  pub record IsLoading (left : List (ℕ × ℕ)) (from : D) (w : PageWriter) (disk : D) : Type 0 where
    pub now : Writer
    pub within : IsWithinRedo d b base begun from now w disk
    pub rising : IsStrictlySortedBy nat_cmp (keys_of left)
    pub waiting : AreWaiting begun left now.pages
    pub first : HaveFirst b begun file now.pages

  -- what it keeps, with these copies left
  abbrev pub LoadingKept : List (ℕ × ℕ) → D → PageWriter → D → Result Unit Fault → Type 0
  LoadingKept left from w disk result = RedoSound d b base begun (λ u. IsLoading left from w disk) from disk result
