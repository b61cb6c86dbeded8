-- The page numbers that the records of a log name, and the greatest page count that it has said so far.
use Rattle.std.specs.Prelude.{◌+◌, max, ℕ, Bool, true, false, [], ◌∷◌, if◌then◌else◌, ◌==◌}
use Rattle.im_base_types.specs.Records.{What, InsertKey, DeleteKey, UndoInsert, UndoDelete, Smo, UndoSmo, DummyClr, Commit, End, Image, Checkpoint, Unreadable}
use Rattle.im_theory_log.specs.Histories.{Base, History}

-- whether a record of this kind names a page: it changes the page, or holds a full copy of it
abbrev pub names_page : What → Bool
names_page (InsertKey k i) = true
names_page (DeleteKey k i) = true
names_page (UndoInsert k i) = true
names_page (UndoDelete k i) = true
names_page (Smo old new) = true
names_page (UndoSmo new) = true
names_page DummyClr = false
names_page Commit = false
names_page End = false
names_page (Image c) = true
names_page (Checkpoint n a d) = false
names_page Unreadable = false

-- the least number above all pages that the records name
abbrev pub named_to : History → ℕ
named_to [] = 0
named_to (r ∷ older) = if names_page r.what then max (r.page + 1) (named_to older) else named_to older

-- the page count of a first log: it begins with the meta page and the root
abbrev pub first_count : ℕ
first_count = 2

-- the page count that a record of page 0 leaves there; 0 where it leaves what was there
abbrev pub count_in : What → ℕ
count_in (Smo old new) = new.leftmost
count_in (UndoSmo new) = new.leftmost
count_in _ = 0

-- The greatest page count so far, of a log that begins with this one. What page 0 says now may be less: a split that took pages off the count is
-- taken back, and its pages are dirty still.
abbrev pub greatest_count : ℕ → History → ℕ
greatest_count n [] = n
greatest_count n (r ∷ older) = if r.page == 0 then max (count_in r.what) (greatest_count n older) else greatest_count n older

-- the page count that a log begins with over these pages: what page 0 says, and no less than that of a first log
abbrev pub count_of : Base → ℕ
count_of b = max first_count (b.pages 0).body.leftmost
