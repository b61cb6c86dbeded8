-- Lines and their replies, one for one.
use Rattle.std.proofs.Common.{List, [], ◌∷◌, ◌++◌}
use Rattle.im_tool_lines.specs.declared.raw_life.RawLife.{RawLife}
use Rattle.im_tool_lines.specs.declared.life_answers.LifeAnswers.{LifeAnswers}
use Rattle.im_tool_lines.specs.Answered.{RepliedBy, AnsweredBehind, EachAnswered}

pub replied_push : {L R : Type 0} (fits : L → R → Type 0) (some : List L) (told : List R) (line : L) (reply : R) → RepliedBy fits some told → fits line reply → RepliedBy fits (some ++ line ∷ []) (told ++ reply ∷ [])
replied_push fits [] [] line reply r is = (is, tt)
replied_push fits [] (one ∷ told) line reply r is = absurd r
replied_push fits (first ∷ some) [] line reply r is = absurd r
replied_push fits (first ∷ some) (one ∷ told) line reply r is = (r.0, replied_push fits some told line reply r.1 is)

pub each_push : (some : List RawLife) (told : List LifeAnswers) (life : RawLife) (answers : LifeAnswers) → EachAnswered some told → AnsweredBehind answers.opening life.lines.items answers.replies.items → EachAnswered (some ++ life ∷ []) (told ++ answers ∷ [])
each_push [] [] life answers e is = (is, tt)
each_push [] (one ∷ told) life answers e is = absurd e
each_push (first ∷ some) [] life answers e is = absurd e
each_push (first ∷ some) (one ∷ told) life answers e is = (e.0, each_push some told life answers e.1 is)
