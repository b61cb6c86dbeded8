-- Structure changes in a log: the one that is under way, and the tree as it is with that one taken back.
use Rattle.std.specs.Prelude.{ℕ, [], ◌∷◌, if◌then◌else◌, ◌==◌}
use Rattle.im_base_types.specs.Pages.{Body}
use Rattle.im_base_types.specs.Records.{What, InsertKey, DeleteKey, UndoInsert, UndoDelete, Smo, UndoSmo, DummyClr, Commit, End, Image, Checkpoint, Unreadable, Logged}
use Rattle.im_theory_log.specs.Histories.{History, Base, page_at}

-- what a record makes of the open structure change: an Smo record joins it, an UndoSmo takes off its newest, a DummyClr closes it
abbrev pub open_after : Logged → What → History → History
open_after r (Smo old new) going = r ∷ going
open_after r (UndoSmo new) [] = []
open_after r (UndoSmo new) (s ∷ going) = going
open_after r DummyClr going = []
open_after r (InsertKey k i) going = going
open_after r (DeleteKey k i) going = going
open_after r (UndoInsert k i) going = going
open_after r (UndoDelete k i) going = going
open_after r Commit going = going
open_after r End going = going
open_after r (Image c) going = going
open_after r (Checkpoint n a d) going = going
open_after r Unreadable going = going

-- the Smo records that are neither closed nor undone, the newest first
abbrev pub open_smo : History → History
open_smo [] = []
open_smo (r ∷ older) = open_after r r.what (open_smo older)

abbrev pub body_before : What → Body → Body
body_before (Smo old new) now = old
body_before _ now = now

-- a page with these Smo records taken back
abbrev pub taken_back : History → ℕ → Body → Body
taken_back [] p now = now
taken_back (s ∷ going) p now = if s.page == p then body_before s.what now else taken_back going p now

-- the pages of the tree that the log stands for: those of the log, the open structure change taken back
abbrev pub settled : Base → History → ℕ → Body
settled b log p = taken_back (open_smo log) p (page_at b log p).body
