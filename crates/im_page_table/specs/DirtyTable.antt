-- The dirty table as a list of entries, each page once, and the function of the page for which it stands.
use Rattle.std.specs.Prelude.{◌≡◌, ◌≢◌, ◌⊎◌, ◌<◌, ◌≤◌, ◌+◌, ℕ, min, max, suc, List, [], ◌∷◌, length, map, slice_index_or, if◌then◌else◌, ◌==◌, nat_lt, Bool, false, true, ◌||◌, ◌&&◌, Option, None, Some, option_map}
use Rattle.std.specs.Option.{is_some}
use Rattle.im_theory_log.specs.Writer.{DirtyEntry, IsWritten, PageState}
use Rattle.im_base_types.specs.declared.tables.DirtyPage.{DirtyPage}
use Rattle.im_theory_log.specs.WriterSteps.{written_entry}
use Rattle.im_page_table.specs.declared.table_entry.TableEntry.{TableEntry}

-- the entries, in the order in which they came in, and how many there may be
pub record TableView : Type 0 where
  pub entries : List TableEntry
  pub most : ℕ

-- how many there may be beside a pool of so many frames
abbrev pub most_entries : ℕ → ℕ
most_entries frames = min (max frames 1024) 65536

-- the entry of a page
abbrev pub table_entry : ℕ → DirtyEntry → TableEntry
table_entry p e = record { page = p; rec_lsn = e.rec_lsn; since = e.since; copied = e.copied }

-- the entry without its page
abbrev pub dirty_entry : TableEntry → DirtyEntry
dirty_entry x = record { rec_lsn = x.rec_lsn; since = x.since; copied = x.copied }

-- what these have of a page
abbrev pub entry_among : List TableEntry → ℕ → Option DirtyEntry
entry_among [] p = None
entry_among (x ∷ xs) p = if x.page == p then Some (dirty_entry x) else entry_among xs p

-- what the table has of it
abbrev pub entry_in : TableView → ℕ → Option DirtyEntry
entry_in t p = entry_among t.entries p

-- each page comes once
abbrev pub AreApart : List TableEntry → Type 0
AreApart [] = Unit {0}
AreApart (x ∷ xs) = (entry_among xs x.page ≡ None) × AreApart xs

-- the page's entry becomes what the function makes of it, or comes in as the last
abbrev pub put_among : ℕ → (Option DirtyEntry → DirtyEntry) → List TableEntry → List TableEntry
put_among p f [] = table_entry p (f None) ∷ []
put_among p f (x ∷ xs) = if x.page == p then table_entry p (f (Some (dirty_entry x))) ∷ xs else x ∷ put_among p f xs

abbrev pub put : ℕ → (Option DirtyEntry → DirtyEntry) → TableView → TableView
put p f t = record t { entries = put_among p f t.entries }

-- the page has its entry, or there is room for it
abbrev pub has_room : ℕ → TableView → Bool
has_room p t = is_some (entry_in t p) || nat_lt (length t.entries) t.most

-- the page is written: where it has no room, the table stays as it was
abbrev pub written_in : ℕ → ℕ → TableView → TableView
written_in p l t = if has_room p t then put p (written_entry l) t else t

-- an entry with this change since its last write, after a sync: without one it is gone
abbrev pub synced_onto : TableEntry → Option ℕ → List TableEntry → List TableEntry
synced_onto x None rest = rest
synced_onto x (Some l) rest = record { page = x.page; rec_lsn = l; since = Some l; copied = x.copied } ∷ rest

-- the entries that a sync leaves: those changed since their last write, each counting from its first change since then
abbrev pub synced_among : List TableEntry → List TableEntry
synced_among [] = []
synced_among (x ∷ xs) = synced_onto x x.since (synced_among xs)

abbrev pub synced_entries : TableView → TableView
synced_entries t = record t { entries = synced_among t.entries }

-- what a sync leaves finds room in one Checkpoint's record
abbrev pub FitsRecord : TableView → Type 0
FitsRecord t = length (synced_entries t).entries ≤ 1024

-- one page's entry becomes what the function makes of it, and each other page's stays
pub record ChangesEntry (p : ℕ) (f : Option DirtyEntry → DirtyEntry) (old new : TableView) : Type 0 where
  pub entry : entry_in new p ≡ Some (f (entry_in old p))
  pub others : (q : ℕ) → q ≢ p → entry_in new q ≡ entry_in old q

-- the log is known to have a full copy of the page, whose entry has this rec_lsn
pub record IsCopied (t : TableView) (p l : ℕ) : Type 0 where
  pub entry : DirtyEntry
  pub is : entry_in t p ≡ Some entry
  pub copied : entry.copied ≡ true
  pub rec_lsn : entry.rec_lsn ≡ l

-- the page's entry is at this place
pub record IsFound (xs : List TableEntry) (p i : ℕ) : Type 0 where
  pub within : i < length xs
  pub before : (k : ℕ) (d : TableEntry) → k < i → (slice_index_or xs k d).page ≢ p
  pub here : (d : TableEntry) → (slice_index_or xs i d).page ≡ p

-- ---- where an entry is found

-- the place of a page's entry
abbrev pub place_among : ℕ → List TableEntry → Option ℕ
place_among p [] = None
place_among p (x ∷ xs) = if x.page == p then Some 0 else option_map suc (place_among p xs)

-- a map has the place of each entry, and no other
abbrev pub Finds : (ℕ → Option ℕ) → List TableEntry → Type 0
Finds at xs = (p : ℕ) → at p ≡ place_among p xs

-- ---- as a Checkpoint has it

-- an entry of which no copy counts as known
abbrev pub uncopied : TableEntry → TableEntry
uncopied x = record x { copied = false }

-- the entries, none of which counts a copy as known
abbrev pub forgotten_entries : TableView → TableView
forgotten_entries t = record t { entries = map uncopied t.entries }

-- a row of the Checkpoint's list
abbrev pub dirty_page : TableEntry → DirtyPage
dirty_page x = record { page = x.page; rec_lsn = x.rec_lsn }

-- a row comes in at its place among rows that rise by page
abbrev pub by_page : DirtyPage → List DirtyPage → List DirtyPage
by_page x [] = x ∷ []
by_page x (y ∷ ys) = if nat_lt y.page x.page then y ∷ by_page x ys else x ∷ y ∷ ys

-- the first place among rows whose page is no less
pub record IsRowPlace (rows : List DirtyPage) (p i : ℕ) : Type 0 where
  pub below : (k : ℕ) (d : DirtyPage) → k < i → (slice_index_or rows k d).page < p
  pub above : (d : DirtyPage) → i < length rows → p ≤ (slice_index_or rows i d).page

-- the rows of these entries come in among rows
abbrev pub with_rows : List DirtyPage → List TableEntry → List DirtyPage
with_rows rows [] = rows
with_rows rows (x ∷ xs) = with_rows (by_page (dirty_page x) rows) xs

-- the Checkpoint's list, in rising page order
abbrev pub dirty_pages : TableView → List DirtyPage
dirty_pages t = with_rows [] t.entries

-- ---- the oldest change

-- a page's first change since its last write, where it has one: the row that a Checkpoint has of it after its sync
abbrev pub dirty_page_of : TableEntry → Option DirtyPage
dirty_page_of x = option_map (λ l. record { page = x.page; rec_lsn = l }) x.since

-- the one change is older than the other: of two at one LSN that of the lesser page
abbrev pub is_before : DirtyPage → DirtyPage → Bool
is_before a b = nat_lt a.rec_lsn b.rec_lsn || (a.rec_lsn == b.rec_lsn && nat_lt a.page b.page)

-- the older of two
abbrev pub older : Option DirtyPage → Option DirtyPage → Option DirtyPage
older None b = b
older (Some a) None = Some a
older (Some a) (Some b) = if is_before b a then Some b else Some a

-- the oldest of them all
abbrev pub oldest_among : Option DirtyPage → List TableEntry → Option DirtyPage
oldest_among o [] = o
oldest_among o (x ∷ xs) = oldest_among (older o (dirty_page_of x)) xs

abbrev pub oldest : TableView → Option DirtyPage
oldest t = oldest_among None t.entries

-- ---- written pages

-- one more page, where it has not changed since its last write
abbrev pub and_written : ℕ → TableEntry → ℕ
and_written n x = if is_some x.since then n else n + 1

-- so many pages, and those that have not changed since their last write
abbrev pub with_written : ℕ → List TableEntry → ℕ
with_written n [] = n
with_written n (x ∷ xs) = with_written (and_written n x) xs

-- ---- beside the entries that a writer keeps of its pages

-- the table has the page's entry; or it has none, as none had room, and nothing of the page is left to be written
abbrev pub IsTied : Option DirtyEntry → Option DirtyEntry → Type 0
IsTied has entry = (has ≡ entry) ⊎ ((has ≡ None) × IsWritten entry)

-- the table has the entry of each page
abbrev pub HasEntries : TableView → (ℕ → PageState) → Type 0
HasEntries table pages = (p : ℕ) → entry_in table p ≡ (pages p).entry

-- the page was changed since its last write
abbrev pub is_changed : Option DirtyEntry → Bool
is_changed None = false
is_changed (Some e) = is_some e.since
