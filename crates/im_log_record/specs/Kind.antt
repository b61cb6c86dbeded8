-- The number of each kind.
use Rattle.std.specs.Prelude.{ℕ, zero, suc, Option, Some, None}
use Rattle.im_log_record.specs.declared.kind.Kind.{Kind}
use Rattle.im_log_record.specs.Entry as entries
use Rattle.im_log_record.specs.Entry.{Entry}
use Rattle.im_log_record.specs.declared.kind.Kind.TheVariants.{InsertKey, DeleteKey, UndoInsert, UndoDelete, Smo, UndoSmo, DummyClr, Commit, End, Image, Checkpoint}

-- the byte that stands for a kind
abbrev pub number_of : Kind → ℕ
number_of InsertKey = 1
number_of DeleteKey = 2
number_of UndoInsert = 3
number_of UndoDelete = 4
number_of Smo = 5
number_of UndoSmo = 6
number_of DummyClr = 7
number_of Commit = 8
number_of End = 9
number_of Image = 10
number_of Checkpoint = 11

-- the kind of a record
abbrev pub kind_of : Entry → Kind
kind_of (entries.InsertKey transaction prev page key rid) = InsertKey
kind_of (entries.DeleteKey transaction prev page key rid) = DeleteKey
kind_of (entries.UndoInsert transaction prev undo_next page key rid) = UndoInsert
kind_of (entries.UndoDelete transaction prev undo_next page key rid) = UndoDelete
kind_of (entries.Smo transaction prev page before after) = Smo
kind_of (entries.UndoSmo transaction prev undo_next page after) = UndoSmo
kind_of (entries.DummyClr transaction prev undo_next) = DummyClr
kind_of (entries.Commit transaction prev) = Commit
kind_of (entries.End transaction prev) = End
kind_of (entries.Image page bytes) = Image
kind_of (entries.Checkpoint next active dirty) = Checkpoint

-- the kinds from 1 on
abbrev kind_from : ℕ → Option Kind
kind_from zero = Some InsertKey
kind_from (suc zero) = Some DeleteKey
kind_from (suc (suc zero)) = Some UndoInsert
kind_from (suc (suc (suc zero))) = Some UndoDelete
kind_from (suc (suc (suc (suc zero)))) = Some Smo
kind_from (suc (suc (suc (suc (suc zero))))) = Some UndoSmo
kind_from (suc (suc (suc (suc (suc (suc zero)))))) = Some DummyClr
kind_from (suc (suc (suc (suc (suc (suc (suc zero))))))) = Some Commit
kind_from (suc (suc (suc (suc (suc (suc (suc (suc zero)))))))) = Some End
kind_from (suc (suc (suc (suc (suc (suc (suc (suc (suc zero))))))))) = Some Image
kind_from (suc (suc (suc (suc (suc (suc (suc (suc (suc (suc zero)))))))))) = Some Checkpoint
kind_from (suc (suc (suc (suc (suc (suc (suc (suc (suc (suc (suc n))))))))))) = None

-- the kind of a number
abbrev pub kind_at : ℕ → Option Kind
kind_at zero = None
kind_at (suc n) = kind_from n
