use Rattle.std.proofs.Common.{◌≡◌, List, ℕ, false, sym, subst}
use Rattle.im_tool_words.specs.Steps.{is_text, IsKeyWord}
use Rattle.im_tool_words.proofs.KeyWords.{key_bad}
use Rattle.im_tool_words.proofs.key_word.key_of.Goals as goal

pub returns-then-not-is_text_word-clause-refused : goal.returns-then-not-is_text_word-clause-refused
returns-then-not-is_text_word-clause-refused c e key k =
    let bad : is_text c.first_piece.result.0.now ≡ false = cc in
    key_bad c.args.word.now c.first_piece.result.0.now c.first_piece.result.1 c.first_piece.ensures.cut c.first_piece.ensures.lacks bad key k

pub returns-in-Some-clause-refused : goal.returns-in-Some-clause-refused
returns-in-Some-clause-refused c e key k =
    c.repeating_key.ensures.refused e key (subst (λ (word : List ℕ). IsKeyWord word key) (rw c.in-Some.is at c.first_piece.ensures.cut) k)

pub returns-in-None-clause-refused : goal.returns-in-None-clause-refused
returns-in-None-clause-refused c e key k =
    c.plain_key.ensures.refused e key (subst (λ (word : List ℕ). IsKeyWord word key) (sym (rw c.in-None.is at c.first_piece.ensures.cut)) k)
