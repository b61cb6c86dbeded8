-- Logs as lists of records, and the pages that follow from them. A history lists the newest record first, so that each
-- front of it is a tail.
use Rattle.std.specs.Prelude.{◌≡◌, ◌⊎◌, ◌≤◌, ◌<◌, ◌+◌, ℕ, List, [], ◌∷◌, ◌++◌, Bool, true, false, if◌then◌else◌, ◌==◌, nat_lt}
use Rattle.im_base_types.specs.Maps.{IndexMap, with_key, without_key}
use Rattle.im_base_types.specs.Pages.{Page}
use Rattle.im_base_types.specs.Records.{What, InsertKey, DeleteKey, UndoInsert, UndoDelete, Smo, UndoSmo, DummyClr, Commit, End, Image, Checkpoint, Unreadable, Logged}
use Rattle.im_theory_log.specs.Tree.{with_entries}

-- the records of a log, the newest first
abbrev pub History : Type 0
History = List Logged

-- f is a front of the log: what was appended first
pub record IsFront (f log : History) : Type 0 where
  pub newer : History
  pub is : newer ++ f ≡ log

-- the record is one of the log's
abbrev pub IsRecordOf : Logged → History → Type 0
IsRecordOf s [] = ⊥
IsRecordOf s (r ∷ older) = (r ≡ s) ⊎ IsRecordOf s older

-- Where a log starts: the pages and the map that it finds, and the LSN that comes before all of its own.
-- A first log finds the initial pages and the empty map.
pub record Base : Type 0 where
  pub pages : ℕ → Page
  pub map : IndexMap
  pub start : ℕ

-- the greatest LSN
abbrev pub end_of : Base → History → ℕ
end_of b [] = b.start
end_of b (r ∷ older) = r.lsn

-- LSNs rise from the base's start on, and no page of the base has a later one
abbrev pub Rises : Base → History → Type 0
Rises b [] = (p : ℕ) → (b.pages p).lsn ≤ b.start
Rises b (r ∷ older) = Rises b older × (end_of b older < r.lsn)

-- the records with an LSN below a bound: a front, where LSNs rise
abbrev pub below : ℕ → History → History
below l [] = []
below l (r ∷ older) = if nat_lt r.lsn l then r ∷ older else below l older

-- ---- pages

-- what a record at an LSN makes of its page
abbrev pub page_after : ℕ → What → Page → Page
page_after l (InsertKey k i) p = record { lsn = l; body = with_entries p.body (with_key k i p.body.entries) }
page_after l (DeleteKey k i) p = record { lsn = l; body = with_entries p.body (without_key k p.body.entries) }
page_after l (UndoInsert k i) p = record { lsn = l; body = with_entries p.body (without_key k p.body.entries) }
page_after l (UndoDelete k i) p = record { lsn = l; body = with_entries p.body (with_key k i p.body.entries) }
page_after l (Smo old new) p = record { lsn = l; body = new }
page_after l (UndoSmo new) p = record { lsn = l; body = new }
page_after l DummyClr p = p
page_after l Commit p = p
page_after l End p = p
page_after l (Image c) p = p
page_after l (Checkpoint n a d) p = p
page_after l Unreadable p = p

-- whether a record of this kind changes its page
abbrev pub changes_page : What → Bool
changes_page (InsertKey k i) = true
changes_page (DeleteKey k i) = true
changes_page (UndoInsert k i) = true
changes_page (UndoDelete k i) = true
changes_page (Smo old new) = true
changes_page (UndoSmo new) = true
changes_page DummyClr = false
changes_page Commit = false
changes_page End = false
changes_page (Image c) = false
changes_page (Checkpoint n a d) = false
changes_page Unreadable = false

-- the page after the changes of all its records
abbrev pub page_at : Base → History → ℕ → Page
page_at b [] p = b.pages p
page_at b (r ∷ older) p = if r.page == p then page_after r.lsn r.what (page_at b older p) else page_at b older p

-- the page after the changes of its records with at most this LSN
abbrev pub page_up_to : Base → History → ℕ → ℕ → Page
page_up_to b log p l = page_at b (below (l + 1) log) p
