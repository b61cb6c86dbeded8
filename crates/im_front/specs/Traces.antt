-- What the trace of a front says, and the counts, as the definitions know them.
use Rattle.std.specs.Prelude.{ℕ, List, [], ◌∷◌, map}
use Rattle.im_base_types.specs.Answers as answers
use Rattle.im_base_types.specs.Faults.{number_of}
use Rattle.im_base_steps.specs.Calls.{asked_by, blocked_by}
use Rattle.im_front.specs.declared.told.Told.{Told}
use Rattle.im_front.specs.declared.told.Told.TheVariants as tolds
use Rattle.im_front.specs.declared.recorded.Recorded.{Recorded}
use Rattle.im_front.specs.declared.stats.Stats.{Stats}

-- what a reply of the trace says
abbrev pub reply_of_told : Told → answers.Reply
reply_of_told (tolds.Started t) = answers.Started t
reply_of_told (tolds.Found rid) = answers.Found rid
reply_of_told tolds.Absent = answers.Absent
reply_of_told (tolds.Entry key rid) = answers.Entry key.items rid
reply_of_told tolds.End = answers.End
reply_of_told (tolds.Entries list) = answers.Entries list.items
reply_of_told tolds.Inserted = answers.Inserted
reply_of_told tolds.Duplicate = answers.Duplicate
reply_of_told tolds.Deleted = answers.Deleted
reply_of_told tolds.Committed = answers.Committed
reply_of_told tolds.RolledBack = answers.RolledBack
reply_of_told tolds.More = answers.More
reply_of_told (tolds.Blocked blocker) = blocked_by blocker
reply_of_told tolds.Die = answers.Die
reply_of_told tolds.Done = answers.Done
reply_of_told (tolds.Refused fault) = answers.Refused (number_of fault)

-- steps with their replies
abbrev pub trace_of : List Recorded → List (answers.Step × answers.Reply)
trace_of = map (λ r. (asked_by r.step, reply_of_told r.reply))

-- the three counts, as the cell of statistics has them
abbrev pub counts_of : Stats → List ℕ
counts_of s = s.started ∷ s.committed ∷ s.rolled_back ∷ []
