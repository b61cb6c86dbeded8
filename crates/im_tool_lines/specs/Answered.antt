-- Which lines of a life are answered.
use Rattle.std.specs.Prelude.{◌≡◌, ◌≢◌, ◌⊎◌, ℕ, ◌<◌, List, [], ◌∷◌, ◌++◌, length, take}
use Rattle.im_base_types.specs.declared.fault.Fault.TheVariants.{NotAStore}
use Rattle.im_tool_lines.specs.declared.raw_line.RawLine.{RawLine}
use Rattle.im_tool_lines.specs.declared.raw_line.RawLine.TheVariants as lines
use Rattle.im_tool_lines.specs.declared.raw_life.RawLife.{RawLife}
use Rattle.im_tool_lines.specs.declared.life_answers.RawReply.{RawReply}
use Rattle.im_tool_lines.specs.declared.life_answers.RawReply.TheVariants as replies
use Rattle.im_tool_lines.specs.declared.life_answers.Opening.{Opening}
use Rattle.im_tool_lines.specs.declared.life_answers.Opening.TheVariants as openings
use Rattle.im_tool_lines.specs.declared.life_answers.LifeAnswers.{LifeAnswers}

-- A put is done or refused, and `calls` answers a number.
abbrev pub IsRawReply : RawLine → RawReply → Type 0
IsRawReply (lines.Put batch) replies.Put = Unit {0}
IsRawReply (lines.Put batch) (replies.Refused fault) = Unit {0}
IsRawReply (lines.Put batch) (replies.Calls n) = ⊥
IsRawReply (lines.Put batch) replies.Stopped = ⊥
IsRawReply lines.Calls (replies.Calls n) = Unit {0}
IsRawReply lines.Calls replies.Put = ⊥
IsRawReply lines.Calls (replies.Refused fault) = ⊥
IsRawReply lines.Calls replies.Stopped = ⊥

-- each line has its reply, one for one
abbrev pub RepliedBy : {L R : Type 0} → (L → R → Type 0) → List L → List R → Type 0
RepliedBy fits [] [] = Unit {0}
RepliedBy fits [] (reply ∷ others) = ⊥
RepliedBy fits (line ∷ rest) [] = ⊥
RepliedBy fits (line ∷ rest) (reply ∷ others) = fits line reply × RepliedBy fits rest others

-- The stop fell into a line: those in front of it have their replies, and it answers that it was stopped.
pub record StoppedWithin {L R : Type 0} (fits : L → R → Type 0) (stopped : R) (all : List L) (told : List R) : Type 0 where
  pub line : ℕ
  pub front : List R
  pub within : line < length all
  pub replied : RepliedBy fits (take line all) front
  pub is : told ≡ front ++ stopped ∷ []

-- Each line has its reply, up to one into which the stop fell.
abbrev pub AnsweredBy : {L R : Type 0} → (L → R → Type 0) → R → List L → List R → Type 0
AnsweredBy fits stopped all told = RepliedBy fits all told ⊎ StoppedWithin fits stopped all told

-- of a life over the gate alone
abbrev pub Replied : List RawLine → List RawReply → Type 0
Replied all told = RepliedBy IsRawReply all told

abbrev pub Answered : List RawLine → List RawReply → Type 0
Answered all told = AnsweredBy IsRawReply replies.Stopped all told

-- After an opening that did not succeed no line is answered.
abbrev pub AnsweredBehind : Opening → List RawLine → List RawReply → Type 0
AnsweredBehind (openings.Open n) all told = Answered all told
AnsweredBehind (openings.Refused fault) all told = told ≡ []
AnsweredBehind openings.Stopped all told = told ≡ []

-- Each life has its answers, one for one, and each of its lines.
abbrev pub EachAnswered : List RawLife → List LifeAnswers → Type 0
EachAnswered [] [] = Unit {0}
EachAnswered [] (told ∷ others) = ⊥
EachAnswered (life ∷ rest) [] = ⊥
EachAnswered (life ∷ rest) (told ∷ others) = AnsweredBehind told.opening life.lines.items told.replies.items × EachAnswered rest others

-- No opening said that the files are no store.
abbrev pub AreRawStores : List LifeAnswers → Type 0
AreRawStores [] = Unit {0}
AreRawStores (told ∷ others) = (told.opening ≢ openings.Refused NotAStore) × AreRawStores others
