-- What a life answers in which one device call, read or length call failed.
use Rattle.std.specs.Prelude.{◌≡◌, ◌≢◌, ◌⊎◌, ◌||◌, Bool, true, false, List, [], ◌∷◌}
use Rattle.im_base_types.specs.declared.fault.Fault.TheVariants as faults
use Rattle.im_base_steps.specs.declared.reply.Reply.TheVariants as said
use Rattle.im_base_steps.specs.Calls.{told_by}
use Rattle.im_tool_lines.specs.declared.life_answers.Opening.TheVariants as openings
use Rattle.im_tool_lines.specs.declared.store_answers.StoreAnswers.{StoreAnswers}
use Rattle.im_tool_lines.specs.declared.store_answers.StoreReply.{StoreReply}
use Rattle.im_tool_lines.specs.declared.store_answers.StoreReply.TheVariants as replies

-- whether a line is refused by the device
abbrev pub is_by_device : StoreReply → Bool
is_by_device (replies.Step (said.Refused faults.Device)) = true
is_by_device (replies.Refused faults.Device) = true
is_by_device _ = false

-- Whether an engine that has failed answers so: it refuses all, and its device calls can still be counted, and it still answers where its log ends.
abbrev pub is_behind_failure : StoreReply → Bool
is_behind_failure (replies.Calls n) = true
is_behind_failure (replies.Log gate) = true
is_behind_failure (replies.Step (said.Refused faults.Failed)) = true
is_behind_failure (replies.Refused faults.Failed) = true
is_behind_failure _ = false

-- The replies to two lines say the same.
abbrev pub SaysSame : StoreReply → StoreReply → Type 0
SaysSame (replies.Step told) (replies.Step plain) = told_by told ≡ told_by plain
SaysSame (replies.Calls told) (replies.Calls plain) = told ≡ plain
SaysSame (replies.Page page told) (replies.Page other plain) = (page ≡ other) × (told ≡ plain)
SaysSame (replies.Redo told) (replies.Redo plain) = told ≡ plain
SaysSame (replies.Log told) (replies.Log plain) = told ≡ plain
SaysSame (replies.Changes told) (replies.Changes plain) = told ≡ plain
SaysSame (replies.Refused told) (replies.Refused plain) = told ≡ plain
SaysSame replies.Stopped replies.Stopped = Unit {0}
SaysSame _ _ = ⊥

-- The replies tell one report of an opening.
abbrev pub TellsSame : StoreReply → StoreReply → Type 0
TellsSame (replies.Redo told) (replies.Redo plain) = told ≡ plain
TellsSame _ _ = ⊥

-- Until a device call has failed a line has a reply that says what it says undisturbed, or is refused by the device; after that, that of an engine which has failed, whose report of its opening stays.
abbrev pub IsNext : Bool → StoreReply → StoreReply → Type 0
IsNext true plain told = (is_behind_failure told ≡ true) ⊎ TellsSame told plain
IsNext false plain told = (is_by_device told ≡ true) ⊎ SaysSame told plain

-- Each line has such a reply in turn; the first refusal by the device says that a call has failed. One says so just where one fails.
abbrev pub AreDisturbed : (fails failed : Bool) → List StoreReply → List StoreReply → Type 0
AreDisturbed fails failed [] [] = failed ≡ fails
AreDisturbed fails failed [] (told ∷ others) = ⊥
AreDisturbed fails failed (plain ∷ rest) [] = ⊥
AreDisturbed fails failed (plain ∷ rest) (told ∷ others) = IsNext failed plain told × AreDisturbed fails (failed || is_by_device told) rest others

-- A call, a read or a length call fails, the opening was refused by the device, and no line has a reply; or the opening is as undisturbed, and no such
-- refusal, and the lines' replies are such.
abbrev pub IsDisturbed : Bool → StoreAnswers → StoreAnswers → Type 0
IsDisturbed fails plain told =
    ((fails ≡ true) × (told.opening ≡ openings.Refused faults.Device) × (told.replies.items ≡ []))
    ⊎ ((told.opening ≢ openings.Refused faults.Device) × (told.opening ≡ plain.opening) × AreDisturbed fails false plain.replies.items told.replies.items)
