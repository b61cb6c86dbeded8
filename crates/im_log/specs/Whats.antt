-- What a record does, of what it says.
use Rattle.std.specs.Prelude.{ℕ, List, ◌++◌, replicate, Option, Some, None}
use Rattle.im_base_types.specs.Pages.{Page}
use Rattle.im_base_types.specs.Records as whats
use Rattle.im_base_types.specs.Records.{What, Unreadable}
use Rattle.im_theory_page.specs.Page.{page_of}
use Rattle.im_log_record.specs.Entry.{Entry, InsertKey, DeleteKey, UndoInsert, UndoDelete, Smo, UndoSmo, DummyClr, Commit, End, Image, Checkpoint}

-- The page whose bytes these are after an LSN of zero.
abbrev pub page_behind : List ℕ → Option Page
page_behind bytes = page_of (replicate 8 0 ++ bytes)

-- A structure change between two pages, where both are pages.
abbrev pub smo_of : Option Page → Option Page → What
smo_of (Some before) (Some after) = whats.Smo before.body after.body
smo_of (Some before) None = Unreadable
smo_of None after = Unreadable

-- Its undo.
abbrev pub undo_smo_of : Option Page → What
undo_smo_of (Some after) = whats.UndoSmo after.body
undo_smo_of None = Unreadable

-- A full copy.
abbrev pub image_of : Option Page → What
image_of (Some copy) = whats.Image copy
image_of None = Unreadable

-- What a record does; `Unreadable` where the bytes of a page image are no page.
abbrev pub what_of : Entry → What
what_of (InsertKey transaction prev page key rid) = whats.InsertKey key rid
what_of (DeleteKey transaction prev page key rid) = whats.DeleteKey key rid
what_of (UndoInsert transaction prev undo_next page key rid) = whats.UndoInsert key rid
what_of (UndoDelete transaction prev undo_next page key rid) = whats.UndoDelete key rid
what_of (Smo transaction prev page before after) = smo_of (page_behind before) (page_behind after)
what_of (UndoSmo transaction prev undo_next page after) = undo_smo_of (page_behind after)
what_of (DummyClr transaction prev undo_next) = whats.DummyClr
what_of (Commit transaction prev) = whats.Commit
what_of (End transaction prev) = whats.End
what_of (Image page bytes) = image_of (page_of bytes)
what_of (Checkpoint next active dirty) = whats.Checkpoint next active dirty
