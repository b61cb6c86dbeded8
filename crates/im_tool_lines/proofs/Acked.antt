-- What was asked and what was acknowledged, line by line.
use Rattle.std.proofs.Common.{◌≡◌, ℕ, ◌+◌, ◌<◌, ◌≤◌, List, [], ◌∷◌, ◌++◌, length, take, drop, get_or, refl, sym, ◌∙◌, ap, subst, arith, take-append-drop}
use Rattle.std.proofs.lemmas.List.{append-nil, take_more, length-take-le}
use Rattle.im_tool_lines.specs.declared.raw_line.RawLine.{RawLine}
use Rattle.im_tool_lines.specs.declared.raw_line.RawLine.TheVariants as lines
use Rattle.im_tool_lines.specs.declared.life_answers.RawReply.{RawReply}
use Rattle.im_tool_lines.specs.declared.life_answers.RawReply.TheVariants as replies
use Rattle.im_tool_lines.specs.declared.raw_life.RawLife.{RawLife}
use Rattle.im_tool_lines.specs.declared.life_answers.LifeAnswers.{LifeAnswers}
use Rattle.im_tool_lines.specs.Lives.{asked_of, acked_of, BatchesSurvive, RawLives}
use Rattle.im_tool_lines.proofs.Stands.{survives_more}

pub asked-append : (some more : List RawLine) → asked_of (some ++ more) ≡ asked_of some ++ asked_of more
asked-append [] more = refl
asked-append (lines.Put batch ∷ some) more = ap (λ (l : List (List ℕ)). batch.records.items ∷ l) (asked-append some more)
asked-append (lines.Calls ∷ some) more = asked-append some more

pub acked-none : (some : List RawLine) → acked_of some [] ≡ []
acked-none [] = refl
acked-none (lines.Put batch ∷ some) = refl
acked-none (lines.Calls ∷ some) = refl

-- lines without replies add nothing
pub acked-append : (some more : List RawLine) (told others : List RawReply) → length told ≡ length some → acked_of (some ++ more) (told ++ others) ≡ acked_of some told ++ acked_of more others
acked-append [] more [] others same = refl
acked-append [] more (reply ∷ told) others same = absurd (omega arith)
acked-append (line ∷ some) more [] others same = absurd (omega arith)
acked-append (lines.Put batch ∷ some) more (replies.Put ∷ told) others same = ap (λ (l : List (List ℕ)). batch.records.items ∷ l) (acked-append some more told others (omega arith))
acked-append (lines.Put batch ∷ some) more (replies.Calls n ∷ told) others same = acked-append some more told others (omega arith)
acked-append (lines.Put batch ∷ some) more (replies.Refused fault ∷ told) others same = acked-append some more told others (omega arith)
acked-append (lines.Put batch ∷ some) more (replies.Stopped ∷ told) others same = acked-append some more told others (omega arith)
acked-append (lines.Calls ∷ some) more (reply ∷ told) others same = acked-append some more told others (omega arith)

-- what was asked and acknowledged up to a line, and with that line
pub one_more_line : (P : List (List ℕ) → List (List ℕ) → Type 0) (all : List RawLine) (i : ℕ) (told : List RawReply) (line : RawLine) (reply : RawReply) → line ≡ get_or all i line → length told ≡ i → i < length all
    → P (asked_of (take i all) ++ asked_of (line ∷ [])) (acked_of (take i all) told ++ acked_of (line ∷ []) (reply ∷ [])) → P (asked_of (take (i + 1) all)) (acked_of (take (i + 1) all) (told ++ reply ∷ []))
one_more_line P all i told line reply is count within p =
    let more : take (i + 1) all ≡ take i all ++ line ∷ [] = take_more all i line within ∙ ap (λ (l : RawLine). take i all ++ l ∷ []) (sym is) in
    let len : length (take i all) ≡ i = length-take-le i all (omega arith) in
    subst (λ (a : List RawLine). P (asked_of a) (acked_of a (told ++ reply ∷ []))) (sym more)
    (subst (λ (a : List (List ℕ)). P a (acked_of (take i all ++ line ∷ []) (told ++ reply ∷ []))) (sym (asked-append (take i all) (line ∷ [])))
    (subst (λ (a : List (List ℕ)). P (asked_of (take i all) ++ asked_of (line ∷ [])) a) (sym (acked-append (take i all) (line ∷ []) told (reply ∷ []) (count ∙ sym len))) p))

-- lines that were not reached ask for more, and are not acknowledged
pub whole_life : (all : List RawLine) (told : List RawReply) (n : ℕ) → length told ≡ n → n ≤ length all → (before after : List (List ℕ))
    → BatchesSurvive before (asked_of (take n all)) (acked_of (take n all) told) after → BatchesSurvive before (asked_of all) (acked_of all told) after
whole_life all told n count within before after s =
    let len : length (take n all) ≡ n = length-take-le n all within in
    let asked : asked_of all ≡ asked_of (take n all) ++ asked_of (drop n all) = ap asked_of (sym (take-append-drop n all)) ∙ asked-append (take n all) (drop n all) in
    let acked : acked_of all told ≡ acked_of (take n all) told =
    ap (λ (l : List RawLine). acked_of l told) (sym (take-append-drop n all)) ∙ ap (λ (l : List RawReply). acked_of (take n all ++ drop n all) l) (sym (append-nil told))
    ∙ acked-append (take n all) (drop n all) told [] (count ∙ sym len)
    ∙ ap (λ (l : List (List ℕ)). acked_of (take n all) told ++ l) (acked-none (drop n all)) ∙ append-nil (acked_of (take n all) told) in
    subst (λ (l : List (List ℕ)). BatchesSurvive before l (acked_of all told) after) (sym asked)
    (subst (λ (l : List (List ℕ)). BatchesSurvive before (asked_of (take n all) ++ asked_of (drop n all)) l after) (sym acked)
    (survives_more before (asked_of (take n all)) (acked_of (take n all) told) after (asked_of (drop n all)) s))

-- one life more
pub lives_push : (some : List RawLife) (told : List LifeAnswers) (life : RawLife) (answers : LifeAnswers) (before mid after : List (List ℕ)) → RawLives some told before mid
    → BatchesSurvive mid (asked_of life.lines.items) (acked_of life.lines.items answers.replies.items) after → RawLives (some ++ life ∷ []) (told ++ answers ∷ []) before after
lives_push [] [] life answers before mid after is s = (after, subst (λ (l : List (List ℕ)). BatchesSurvive l (asked_of life.lines.items) (acked_of life.lines.items answers.replies.items) after) is s, refl)
lives_push [] (first ∷ told) life answers before mid after is s = absurd is
lives_push (first ∷ some) [] life answers before mid after is s = absurd is
lives_push (first ∷ some) (one ∷ told) life answers before mid after is s = (is.0, is.1, lives_push some told life answers is.0 mid after is.2 s)
