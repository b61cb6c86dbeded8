-- What lives over the gate alone make of the batches of a log.
use Rattle.std.specs.Prelude.{◌≡◌, ◌⊎◌, ℕ, suc, ◌≤◌, List, [], ◌∷◌, ◌++◌, length, Some}
use Rattle.im_base_types.specs.declared.file_id.FileId.TheVariants.{Log, Pages}
use Rattle.im_base_disk.specs.Disk.{Files}
use Rattle.im_log_gate.specs.Batches.{batches}
use Rattle.im_log_gate.specs.Header.{first_gate, IsUnmade, IsMade}
use Rattle.im_tool_lines.specs.declared.raw_line.RawLine.{RawLine}
use Rattle.im_tool_lines.specs.declared.raw_line.RawLine.TheVariants as lines
use Rattle.im_tool_lines.specs.declared.raw_life.RawLife.{RawLife}
use Rattle.im_tool_lines.specs.declared.life_answers.RawReply.{RawReply}
use Rattle.im_tool_lines.specs.declared.life_answers.RawReply.TheVariants as replies
use Rattle.im_tool_lines.specs.declared.life_answers.LifeAnswers.{LifeAnswers}

-- The files stand for these batches: those of a made log, or none where no log was made yet.
abbrev pub StandsFor : Files → List (List ℕ) → Type 0
StandsFor c found = (IsMade (c Log) × (batches (first_gate (c Log)) (c Log) ≡ Some found)) ⊎ (IsUnmade (c Log) × (length (c Pages) ≡ 0) × (found ≡ []))

-- These come first in a list.
pub record IsFront (front whole : List (List ℕ)) : Type 0 where
  pub rest : List (List ℕ)
  pub is : whole ≡ front ++ rest

-- What is left of a life: the batches from before and after them a front of those that it asked to put, in order, with all that
-- were acknowledged and at most one more.
pub record BatchesSurvive (before asked acked after : List (List ℕ)) : Type 0 where
  pub kept : List (List ℕ)
  pub is : after ≡ before ++ kept
  pub of_asked : IsFront kept asked
  pub with_acked : IsFront acked kept
  pub one_more : length kept ≤ suc (length acked)

-- the batches that these lines ask to put
abbrev pub asked_of : List RawLine → List (List ℕ)
asked_of [] = []
asked_of (lines.Put batch ∷ rest) = batch.records.items ∷ asked_of rest
asked_of (lines.Calls ∷ rest) = asked_of rest

-- Those whose line was answered `put ok`. Each line has one reply, as far as the life came.
abbrev pub acked_of : List RawLine → List RawReply → List (List ℕ)
acked_of (lines.Put batch ∷ rest) (replies.Put ∷ answers) = batch.records.items ∷ acked_of rest answers
acked_of (line ∷ rest) (answer ∷ answers) = acked_of rest answers
acked_of [] answers = []
acked_of (line ∷ rest) [] = []

-- Life after life, each on what the one before has left: the batches before the first and after the last.
abbrev pub RawLives : List RawLife → List LifeAnswers → List (List ℕ) → List (List ℕ) → Type 0
RawLives [] [] before after = after ≡ before
RawLives (life ∷ rest) (told ∷ others) before after =
    (mid : List (List ℕ)) × BatchesSurvive before (asked_of life.lines.items) (acked_of life.lines.items told.replies.items) mid × RawLives rest others mid after
RawLives [] (told ∷ others) before after = ⊥
RawLives (life ∷ rest) [] before after = ⊥
