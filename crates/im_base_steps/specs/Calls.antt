-- The steps and replies of the code, as the definitions know them.
use Rattle.std.specs.Prelude.{◌||◌, ℕ, nat_lt, Bool, true, false, List, []}
use Rattle.im_base_types.specs.Pages.{Entry}
use Rattle.im_base_types.specs.Answers as answers
use Rattle.im_base_types.specs.Answers.{limit_of}
use Rattle.im_base_types.specs.Lives.{breaks}
use Rattle.im_base_steps.specs.declared.step.Step.{Step}
use Rattle.im_base_steps.specs.declared.step.Step.TheVariants as steps
use Rattle.im_base_steps.specs.declared.reply.Blocker.{Blocker}
use Rattle.im_base_steps.specs.declared.reply.Blocker.TheVariants as blockers
use Rattle.im_base_steps.specs.declared.reply.Reply.{Reply}
use Rattle.im_base_steps.specs.declared.reply.Reply.TheVariants as replies
use Rattle.im_base_types.specs.Faults.{number_of}

-- what a step asks
abbrev pub asked_by : Step → answers.Step
asked_by steps.Begin = answers.Begin
asked_by (steps.Fetch t key) = answers.Do t (answers.Fetch key.items)
asked_by (steps.Seek t key) = answers.Do t (answers.Seek key.items)
asked_by (steps.Next t key) = answers.Do t (answers.Next key.items)
asked_by (steps.Prev t key) = answers.Do t (answers.Prev key.items)
asked_by (steps.Scan t lo hi limit) = answers.Do t (answers.Scan lo.items hi.items limit)
asked_by (steps.Insert t key rid) = answers.Do t (answers.Insert key.items rid)
asked_by (steps.Delete t key) = answers.Do t (answers.Delete key.items)
asked_by (steps.Commit t) = answers.Commit t
asked_by (steps.Rollback t) = answers.Rollback t
asked_by (steps.Continue t) = answers.Continue t
asked_by (steps.RollTo t left) = answers.RollTo t left
asked_by (steps.FlushPage page) = answers.FlushPage page
asked_by steps.Force = answers.Force
asked_by steps.Checkpoint = answers.Checkpoint
asked_by steps.Switch = answers.Switch

-- who or what blocks
abbrev pub blocked_by : Blocker → answers.Reply
blocked_by (blockers.Lock holder) = answers.Blocked holder
blocked_by blockers.Tree = answers.BlockedTree

-- what a reply says
abbrev pub told_by : Reply → answers.Reply
told_by (replies.Started t) = answers.Started t
told_by (replies.Found rid) = answers.Found rid
told_by replies.Absent = answers.Absent
told_by (replies.Entry key rid) = answers.Entry key.value rid
told_by replies.End = answers.End
told_by (replies.Entries list) = answers.Entries list.items
told_by replies.Inserted = answers.Inserted
told_by replies.Duplicate = answers.Duplicate
told_by replies.Deleted = answers.Deleted
told_by replies.Committed = answers.Committed
told_by replies.RolledBack = answers.RolledBack
told_by replies.More = answers.More
told_by (replies.Blocked blocker) = blocked_by blocker
told_by replies.Die = answers.Die
told_by replies.Done = answers.Done
told_by (replies.Refused fault) = answers.Refused (number_of fault)

-- a step that may end a transaction, where so many wait for a force
abbrev pub may_end : ℕ → answers.Step → Bool
may_end waiting (answers.Commit t) = true
may_end waiting (answers.Rollback t) = true
may_end waiting (answers.Continue t) = true
may_end waiting answers.Force = nat_lt 0 waiting
may_end waiting _ = false

abbrev pub is_force : answers.Step → Bool
is_force answers.Force = true
is_force _ = false

-- how many entries the reply to an access may have at most
abbrev pub most_of : answers.Access → ℕ
most_of (answers.Scan lo hi n) = limit_of n
most_of _ = 0

-- the same of a step
abbrev pub most_entries : answers.Step → ℕ
most_entries (answers.Do t a) = most_of a
most_entries _ = 0

-- the entries of a reply
abbrev pub entries_in : answers.Reply → List Entry
entries_in (answers.Entries list) = list
entries_in _ = []

-- how many bytes the key in the reply to an access may have at most
abbrev pub key_of : answers.Access → ℕ
key_of (answers.Seek key) = 255
key_of (answers.Next key) = 255
key_of (answers.Prev key) = 255
key_of _ = 0

-- the same of a step
abbrev pub most_key : answers.Step → ℕ
most_key (answers.Do t a) = key_of a
most_key _ = 0

-- a reply that names an entry
abbrev pub has_entry : answers.Reply → Bool
has_entry (answers.Entry key rid) = true
has_entry _ = false

-- nothing was changed, since another stands in the way
abbrev pub is_blocked : answers.Reply → Bool
is_blocked (answers.Blocked holder) = true
is_blocked answers.BlockedTree = true
is_blocked _ = false

-- a Continue
abbrev pub is_continue : answers.Step → Bool
is_continue (answers.Continue t) = true
is_continue _ = false

-- a transaction has ended, or may have where a force was made, or a structure change, in a Continue that was made; or the engine has failed
abbrev pub may_unblock : answers.Step → answers.Reply → Bool
may_unblock step answers.Committed = true
may_unblock step answers.RolledBack = true
may_unblock step answers.Done = is_force step || is_continue step
may_unblock step (answers.Refused fault) = breaks fault
may_unblock step (answers.Blocked holder) = false
may_unblock step answers.BlockedTree = false
may_unblock step _ = is_continue step
