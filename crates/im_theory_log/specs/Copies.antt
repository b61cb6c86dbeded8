-- Full copies of pages in a log, what redo makes of a page, and Images that join a log.
use Rattle.std.specs.Prelude.{◌≡◌, ◌≤◌, ◌<◌, ℕ, List, [], ◌∷◌, ◌++◌, if◌then◌else◌, ◌==◌, nat_le, Option, None, Some}
use Rattle.im_base_types.specs.Pages.{Page}
use Rattle.im_base_types.specs.Records.{What, Smo, UndoSmo, Image, Logged}
use Rattle.im_theory_log.specs.Histories.{History, Base, end_of, below, page_after, page_at, page_up_to}
use Rattle.im_theory_log.specs.PageCounts.{named_to}

-- the full copy of its page that a record at an LSN holds
abbrev pub copy_in : ℕ → What → Option Page
copy_in l (Image c) = Some c
copy_in l (Smo old new) = Some (record { lsn = l; body = new })
copy_in l (UndoSmo new) = Some (record { lsn = l; body = new })
copy_in l _ = None

abbrev pub or_older : ℕ → Option Page → Option (ℕ × Page) → Option (ℕ × Page)
or_older l None older = older
or_older l (Some c) older = Some (l, c)

-- the last full copy of a page at or after an LSN, with the LSN of its record
abbrev pub noted : ℕ → History → ℕ → Option (ℕ × Page)
noted from [] p = None
noted from (r ∷ older) p =
    if nat_le from r.lsn
    then (if r.page == p then or_older r.lsn (copy_in r.lsn r.what) (noted from older p) else noted from older p)
    else noted from older p

-- the log has a full copy of the page at or after an LSN
pub record HasCopy (log : History) (p from : ℕ) : Type 0 where
  pub lsn : ℕ
  pub copy : Page
  pub is : noted from log p ≡ Some (lsn, copy)

-- The page has had all its records below some LSN, which is no less than m, and no others.
pub record Reaches (b : Base) (log : History) (m p : ℕ) (g : Page) : Type 0 where
  pub upto : ℕ
  pub from : m ≤ upto
  pub is : g ≡ page_at b (below upto log) p

-- what redo makes of a page by one record: it is applied where the page's LSN is less
abbrev pub redo_one : Logged → ℕ → Page → Page
redo_one r p g = if r.page == p then (if nat_le r.lsn g.lsn then g else page_after r.lsn r.what g) else g

-- and by records in turn, the oldest first
abbrev pub redo_all : List Logged → ℕ → Page → Page
redo_all [] p g = g
redo_all (r ∷ newer) p g = redo_all newer p (redo_one r p g)

-- the history that records in turn, the oldest first, make of an older one
abbrev pub onto : List Logged → History → History
onto [] older = older
onto (r ∷ newer) older = onto newer (r ∷ older)

-- ---- Images, as evictions append them

-- the record is an Image of a page as the page's own LSN says that it was; it, or a page after it, was named before
pub record IsImage (b : Base) (r : Logged) (older : History) : Type 0 where
  pub copy : Page
  pub what : r.what ≡ Image copy
  pub no_owner : r.txn ≡ 0
  pub exact : copy ≡ page_up_to b older r.page copy.lsn
  pub named : r.page < named_to older
  pub rises : end_of b older < r.lsn

-- only Images joined the older log
abbrev pub AreImages : Base → History → History → Type 0
AreImages b [] older = Unit {0}
AreImages b (r ∷ more) older = IsImage b r (more ++ older) × AreImages b more older

-- the longer log is the older one with Images
pub record GrowsByImages (b : Base) (older longer : History) : Type 0 where
  pub images : History
  pub is : longer ≡ images ++ older
  pub all : AreImages b images older
