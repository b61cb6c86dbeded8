-- The steps of a writer of pages, as functions of what it keeps.
use Rattle.std.specs.Prelude.{◌≡◌, ◌≤◌, ◌<◌, ◌+◌, ◌⊎◌, ℕ, List, [], ◌∷◌, Bool, true, false, ◌||◌, if◌then◌else◌, ◌==◌, nat_le, Option, None, Some}
use Rattle.im_base_types.specs.Pages.{Page}
use Rattle.im_base_types.specs.Records.{Image, Logged, Smo, UndoSmo, What}
use Rattle.im_base_types.specs.declared.tables.DirtyPage.{DirtyPage}
use Rattle.im_theory_log.specs.Histories.{History, Base, end_of, page_after, page_at, changes_page}
use Rattle.im_theory_log.specs.Copies.{Reaches, HasCopy, noted, copy_in, redo_one}
use Rattle.im_theory_log.specs.RedoPoints.{redo_point}
use Rattle.im_theory_log.specs.Writer.{DirtyEntry, PageState, Writer, IsAfterRedo}

-- one page changed
abbrev pub only : ℕ → (PageState → PageState) → (ℕ → PageState) → ℕ → PageState
only p f pages q = if p == q then f (pages q) else pages q

-- ---- the log is forced

abbrev pub forced : Writer → Writer
forced s = record s { durable = s.log }

-- ---- a page is written in place. Where it has no entry it gets one, with the LSN of its Image

abbrev pub written_entry : ℕ → Option DirtyEntry → DirtyEntry
written_entry l None = record { rec_lsn = l; since = None; copied = true }
written_entry l (Some e) = record e { since = None; copied = true }

abbrev pub written_page : ℕ → PageState → PageState
written_page l x = record x { entry = Some (written_entry l x.entry); reads = Some x.page; unsynced = true }

abbrev pub written : ℕ → ℕ → Writer → Writer
written p l s = record s { pages = only p (written_page l) s.pages }

-- what a write asks: the page has its copy, the whole log is durable, and it has a full copy of the page at or after its redo point
pub record MayWrite (b : Base) (s : Writer) (p l : ℕ) : Type 0 where
  pub ready : (s.pages p).waits ≡ false
  pub durable : s.durable ≡ s.log
  pub copy : HasCopy s.durable p (redo_point s.log)
  pub low : redo_point s.log ≤ l
  pub high : l ≤ end_of b s.log

-- ---- Pages is synced: entries with nothing left to be written go, the others count from their first change since

abbrev pub entry_since : Bool → Option ℕ → Option DirtyEntry
entry_since k None = None
entry_since k (Some l) = Some (record { rec_lsn = l; since = Some l; copied = k })

abbrev pub synced_entry : Option DirtyEntry → Option DirtyEntry
synced_entry None = None
synced_entry (Some e) = entry_since e.copied e.since

abbrev pub synced_page : PageState → PageState
synced_page x = record x { entry = synced_entry x.entry; synced = x.reads; unsynced = false }

abbrev pub synced : Writer → Writer
synced s = record s { pages = λ q. synced_page (s.pages q) }

-- ---- before a Checkpoint no copy counts as known: it may be below the redo point that comes

abbrev pub forgotten_entry : Option DirtyEntry → Option DirtyEntry
forgotten_entry None = None
forgotten_entry (Some e) = Some (record e { copied = false })

abbrev pub forgotten_page : PageState → PageState
forgotten_page x = record x { entry = forgotten_entry x.entry }

abbrev pub forgotten : Writer → Writer
forgotten s = record s { pages = λ q. forgotten_page (s.pages q) }

-- ---- records

-- an Image while redo is going on
abbrev pub imaged : Logged → Writer → Writer
imaged r s = record s { log = r ∷ s.log }

abbrev pub passed : ℕ → PageState → PageState
passed l x = record x { upto = l + 1 }

-- a record that changes no page, after redo
abbrev pub appended : Logged → Writer → Writer
appended r s = record s { log = r ∷ s.log; pages = λ q. passed r.lsn (s.pages q) }

abbrev pub first_since : ℕ → Option ℕ → Option ℕ
first_since l None = Some l
first_since l (Some k) = Some k

-- whether a record of this kind holds a full copy of its page
abbrev pub holds_copy : What → Bool
holds_copy (Image c) = true
holds_copy (Smo old new) = true
holds_copy (UndoSmo new) = true
holds_copy _ = false

-- whether a full copy is known
abbrev pub is_copied : Option DirtyEntry → Bool
is_copied None = false
is_copied (Some e) = e.copied

-- the entry of a page that is changed at an LSN, by a record that holds a full copy or does not
abbrev pub changed_entry : Bool → ℕ → Option DirtyEntry → DirtyEntry
changed_entry k l None = record { rec_lsn = l; since = Some l; copied = k }
changed_entry k l (Some e) = record e { since = first_since l e.since; copied = k || e.copied }

abbrev pub changed_page : Logged → PageState → PageState
changed_page r x = record x { page = page_after r.lsn r.what x.page; entry = Some (changed_entry (holds_copy r.what) r.lsn x.entry) }

-- a record that changes its page, after redo
abbrev pub changed : Logged → Writer → Writer
changed r s = record s { log = r ∷ s.log; pages = λ q. passed r.lsn (only r.page (changed_page r) s.pages q) }

-- what holds of the redo point that the longer log has
pub record NextPoint (b : Base) (s : Writer) (r : Logged) : Type 0 where
  pub high : redo_point (r ∷ s.log) ≤ r.lsn
  pub own : (redo_point (r ∷ s.log) ≡ s.point) ⊎ IsAfterRedo s.redo_end (redo_point (r ∷ s.log))
  pub entries : (p : ℕ) (e : DirtyEntry) → (s.pages p).entry ≡ Some e → redo_point (r ∷ s.log) ≤ e.rec_lsn
  pub copies : (p l : ℕ) (c : Page) → noted (redo_point (r ∷ s.log)) s.log p ≡ Some (l, c) → Reaches b s.log (redo_point (r ∷ s.log)) p c
  -- a full copy that is known is at or after it
  pub copied : (p : ℕ) (e : DirtyEntry) → (s.pages p).entry ≡ Some e → e.copied ≡ true → HasCopy s.log p (redo_point (r ∷ s.log))
  -- a page written since the last sync has a durable copy at or after it
  pub unsynced : (p : ℕ) → (s.pages p).unsynced ≡ true → HasCopy s.durable p (redo_point (r ∷ s.log))

-- what a record asks after redo
pub record MayAppend (b : Base) (s : Writer) (r : Logged) : Type 0 where
  pub redo_end : ℕ
  pub over : s.redo_end ≡ Some redo_end
  pub last : end_of b s.log < r.lsn
  -- a full copy is the page as the log has it then
  pub exact : (c : Page) → copy_in r.lsn r.what ≡ Some c → c ≡ page_at b (r ∷ s.log) r.page
  pub point : NextPoint b s r

-- ---- a Checkpoint's list

abbrev pub IsIn : DirtyPage → List DirtyPage → Type 0
IsIn x [] = ⊥
IsIn x (y ∷ ys) = (x ≡ y) ⊎ IsIn x ys

-- a page with this rec_lsn is in the dirty table
pub record IsInDirtyTable (pages : ℕ → PageState) (x : DirtyPage) : Type 0 where
  pub entry : DirtyEntry
  pub is : (pages x.page).entry ≡ Some entry
  pub rec_lsn : entry.rec_lsn ≡ x.rec_lsn

-- the list has the entries of the dirty table
pub record Lists (pages : ℕ → PageState) (list : List DirtyPage) : Type 0 where
  pub all : (p : ℕ) (e : DirtyEntry) → (pages p).entry ≡ Some e → IsIn (record { page = p; rec_lsn = e.rec_lsn }) list
  pub each : (x : DirtyPage) → IsIn x list → IsInDirtyTable pages x

-- ---- redo

-- the entry of a page that counts as changed since the redo point, with a full copy or without
abbrev pub at_point : Bool → ℕ → DirtyEntry
at_point k point = record { rec_lsn = point; since = Some point; copied = k }

-- a noted copy is loaded, in place of the file's page
abbrev pub loaded_page : ℕ → Page → PageState → PageState
loaded_page point c x = record x { page = c; upto = point; waits = false; entry = Some (at_point true point) }

abbrev pub loaded : ℕ → Page → Writer → Writer
loaded p c s = record s { pages = only p (loaded_page s.point c) s.pages }

-- whether redo applies the record
abbrev pub applies : Logged → ℕ → Page → Bool
applies r p g = if r.page == p then (if nat_le r.lsn g.lsn then false else changes_page r.what) else false

-- redo goes past a record, on one page
abbrev pub redone_page : ℕ → Logged → ℕ → PageState → PageState
redone_page point r p x = record x { page = redo_one r p x.page; upto = r.lsn + 1; entry = if applies r p x.page then Some (at_point (is_copied x.entry) point) else x.entry }

-- and on the pages that are dealt to whoever does it
abbrev pub redone : Logged → (ℕ → Bool) → Writer → Writer
redone r who s = record s { pages = λ q. if who q then redone_page s.point r q (s.pages q) else s.pages q }

-- redo is over
abbrev pub ended : Base → Writer → Writer
ended b s = record s { redo_end = Some (end_of b s.log); pages = λ q. passed (end_of b s.log) (s.pages q) }

-- ---- an opening starts from a log and a Pages file, both synced

abbrev pub is_found : Option (ℕ × Page) → Bool
is_found None = false
is_found (Some x) = true

abbrev pub page_or : Option Page → Page → Page
page_or None g = g
page_or (Some h) g = h

-- a page with a noted copy waits for it; the others are what the file has
abbrev pub opened_page : Page → ℕ → Option (ℕ × Page) → Option Page → PageState
opened_page initial point found file =
    record { page = page_or file initial; upto = point; waits = is_found found; found = found; entry = None; synced = file; reads = file; unsynced = false }

abbrev pub opened : Base → History → (ℕ → Option Page) → Writer
opened b log file = record {
  log = log;
  durable = log;
  point = redo_point log;
  redo_end = None;
  pages = λ p. opened_page (b.pages p) (redo_point log) (noted (redo_point log) log p) (file p);
}
