-- What a step by a key makes of the call below it, which asks its locks: it has the value that was granted, or it is answered, as it has to wait, must die, finds the tree blocked or is refused.
use Rattle.std.specs.Prelude.{Bool, false, ℕ, List, map, Result, Ok, Err}
use Rattle.im_base_types.specs.declared.fault.Fault.{Fault}
use Rattle.im_base_disk.specs.declared.disk.Disk.{Ghosts}
use Rattle.im_base_steps.specs.declared.reply.Blocker.TheVariants as blockers
use Rattle.im_base_steps.specs.declared.reply.Reply.{Reply}
use Rattle.im_base_steps.specs.declared.reply.Reply.TheVariants as replies
use Rattle.im_base_txn.specs.Rows.{changed, with_mark}
use Rattle.im_base_txn.specs.declared.transaction.Mark.TheVariants.{MustRollBack}
use Rattle.im_base_txn.specs.declared.transaction.Transaction.{Transaction}
use Rattle.im_page_writer.specs.declared.page_writer.PageWriter.{PageWriter}
use Rattle.im_theory_machine.specs.Table.{Table}
use Rattle.im_tree_search.specs.declared.sight.Sight.{Sight}
use Rattle.im_tree_search.specs.declared.sight.Sight.TheVariants.{Seen, Hidden}
use Rattle.im_engine_access.specs.declared.lock_answer.LockAnswer.{LockAnswer}
use Rattle.im_engine_access.specs.declared.lock_answer.LockAnswer.TheVariants.{Granted, Wait, Die}
use Rattle.im_engine.specs.declared.engine.Engine.{Engine}
use Rattle.im_engine.specs.Faults.{told_as, ends_engine}
use Rattle.im_engine.specs.Told.{Fixed, fixed_of}

-- a call that goes on beside no structure change sees what it answers
abbrev pub as_seen : {A : Type 0} → Result A Fault → Result (Sight A) Fault
as_seen (Ok answer) = Ok (Seen answer)
as_seen (Err fault) = Err fault

-- the value that was granted, or else the reply
abbrev pub answer_in : {A : Type 0} → Result (Sight (LockAnswer A)) Fault → Result A Reply
answer_in (Ok (Seen (Granted value))) = Ok value
answer_in (Ok (Seen (Wait holder))) = Err (replies.Blocked (blockers.Lock holder))
answer_in (Ok (Seen Die)) = Err replies.Die
answer_in (Ok Hidden) = Err (replies.Blocked blockers.Tree)
answer_in (Err fault) = Err (replies.Refused (told_as fault))

-- whether the engine has failed after it
abbrev pub failed_in : {A : Type 0} → Result A Fault → Bool
failed_in (Ok answer) = false
failed_in (Err fault) = ends_engine fault

-- the rows of the transactions after it, of which t is the step's
abbrev pub rows_in : {A : Type 0} → (t : ℕ) → Result (Sight (LockAnswer A)) Fault → List Transaction → List Transaction
rows_in t (Ok (Seen (Granted value))) rows = rows
rows_in t (Ok (Seen (Wait holder))) rows = rows
rows_in t (Ok (Seen Die)) rows = map (changed t (with_mark MustRollBack)) rows
rows_in t (Ok Hidden) rows = rows
rows_in t (Err fault) rows = rows

-- an engine but for whether it has failed, its transactions, and the structure change under way
abbrev pub Rest : Type 0 → Type 0
Rest D = PageWriter × D × Table × Fixed × List ℕ

abbrev pub rest_of : {D : Type 0} (d : Ghosts D) → Engine D d → Rest D
rest_of d e = (e.writer, e.disk, e.locks, fixed_of d e, e.room.items)
