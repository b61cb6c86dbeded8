-- What lives of a store in a script show of its effects, by their lines and replies, and which of their lines are answered.
use Rattle.std.specs.Prelude.{◌≡◌, ◌≢◌, List, [], ◌∷◌, Some, None}
use Rattle.im_base_types.specs.Faults.{number_of}
use Rattle.im_base_types.specs.Lives.{Shown, Asked, nothing_shown, breaks, shows}
use Rattle.im_base_steps.specs.Calls.{asked_by, told_by}
use Rattle.im_tool_lines.specs.declared.store_life.StoreLine.{StoreLine}
use Rattle.im_tool_lines.specs.declared.store_life.StoreLine.TheVariants as lines
use Rattle.im_tool_lines.specs.declared.store_life.StoreLife.{StoreLife}
use Rattle.im_tool_lines.specs.declared.store_answers.StoreReply.{StoreReply}
use Rattle.im_tool_lines.specs.declared.store_answers.StoreReply.TheVariants as replies
use Rattle.im_tool_lines.specs.declared.store_answers.StoreAnswers.{StoreAnswers}
use Rattle.im_tool_lines.specs.declared.life_answers.Opening.{Opening}
use Rattle.im_tool_lines.specs.declared.life_answers.Opening.TheVariants as openings
use Rattle.im_base_types.specs.declared.fault.Fault.TheVariants.{NotAStore}
use Rattle.im_tool_lines.specs.Answered.{AnsweredBy}

-- what is shown after a line: a step's reply, or a step within which the stop fell; a look at a page that is refused may break the engine
abbrev pub shown_after : Shown → StoreLine → StoreReply → Shown
shown_after s (lines.Step step) (replies.Step reply) = shows s (asked_by step) (Some (told_by reply))
shown_after s (lines.Step step) replies.Stopped = shows s (asked_by step) None
shown_after s (lines.Page page) (replies.Refused fault) = record s { failed = breaks (number_of fault) }
shown_after s line reply = s

-- what is shown after the lines that have their replies
abbrev pub shown_by_lines : Shown → List StoreLine → List StoreReply → Shown
shown_by_lines s (line ∷ rest) (reply ∷ others) = shown_by_lines (shown_after s line reply) rest others
shown_by_lines s [] told = s
shown_by_lines s (line ∷ rest) [] = s

-- the effects whose Commit a life asked, and which of them were acknowledged
abbrev pub asked_by_life : StoreLife → StoreAnswers → List Asked
asked_by_life life told = (shown_by_lines nothing_shown life.lines.items told.replies.items).asked

-- the same of each life
abbrev pub asked_in_each : List StoreLife → List StoreAnswers → List (List Asked)
asked_in_each (life ∷ rest) (told ∷ others) = asked_by_life life told ∷ asked_in_each rest others
asked_in_each [] told = []
asked_in_each (life ∷ rest) [] = []

-- A step has its reply, `calls` and `log` answer a number, `redo` a report, and `page` what that page is for and `changes` a number, or why that can't be told.
abbrev pub IsStoreReply : StoreLine → StoreReply → Type 0
IsStoreReply (lines.Step step) (replies.Step reply) = Unit {0}
IsStoreReply lines.Calls (replies.Calls n) = Unit {0}
IsStoreReply lines.Redo (replies.Redo report) = Unit {0}
IsStoreReply lines.Log (replies.Log gate) = Unit {0}
IsStoreReply (lines.Changes t) (replies.Changes n) = Unit {0}
IsStoreReply (lines.Changes t) (replies.Refused fault) = Unit {0}
IsStoreReply (lines.Page page) (replies.Page of header) = of ≡ page
IsStoreReply (lines.Page page) (replies.Refused fault) = Unit {0}
IsStoreReply _ _ = ⊥

-- Each line has its reply, up to one into which the stop fell. After an opening that did not succeed no line is answered.
abbrev pub StoreAnswered : Opening → List StoreLine → List StoreReply → Type 0
StoreAnswered (openings.Open n) all told = AnsweredBy IsStoreReply replies.Stopped all told
StoreAnswered (openings.Refused fault) all told = told ≡ []
StoreAnswered openings.Stopped all told = told ≡ []

-- Each life has its answers, one for one, and each of its lines.
abbrev pub EachStoreAnswered : List StoreLife → List StoreAnswers → Type 0
EachStoreAnswered [] [] = Unit {0}
EachStoreAnswered [] (told ∷ others) = ⊥
EachStoreAnswered (life ∷ rest) [] = ⊥
EachStoreAnswered (life ∷ rest) (told ∷ others) = StoreAnswered told.opening life.lines.items told.replies.items × EachStoreAnswered rest others

-- No opening said that the files are no store.
abbrev pub AreStores : List StoreAnswers → Type 0
AreStores [] = Unit {0}
AreStores (told ∷ others) = (told.opening ≢ openings.Refused NotAStore) × AreStores others
