use Rattle.std.proofs.Common.{◌≡◌, ◌≢◌, true, List, ℕ, ◌∷◌, ◌++◌, sym, ◌∙◌, ap, subst, arith}
use Rattle.std.proofs.lemmas.Grind.{common_steps}
use Rattle.im_tool_lines.specs.Lines.{behind_word}
use Rattle.im_tool_lines.specs.StoreScripts.{Word, IsOption}
use Rattle.im_tool_lines.proofs.LifeWords.{word_tail, other_word, this_word, word_stands}
use Rattle.im_tool_lines.proofs.store_grammar.word_of.Goals as goal

pub returns-then-not-is_word-clause-once : goal.returns-then-not-is_word-clause-once
returns-then-not-is_word-clause-once c option left o behind =
    let is : behind_word c.args.words ≡ 32 ∷ c.in-Some.text.now = ap behind_word c.in-Some.is in
    let other : c.first_piece.result.0.now ≢ c.args.name.now = λ same. let yes = c.is_word.ensures.1 same in let no = c.if-not-is_word.true in absurd (cc) in
    let cut = word_tail c.in-Some.text.now c.first_piece.result.0.now c.first_piece.result.1 c.first_piece.ensures.cut in
    let both = other_word c.args.name.now c.in-Some.text.now c.first_piece.result.0.now c.first_piece.result.1 option left c.requires cut c.first_piece.ensures.lacks other behind (subst (λ (t : List ℕ). IsOption c.args.name.now t (Word option) left) is o) in
    (both.0, both.1 ∙ sym is)

pub returns-clause-says : goal.returns-clause-says
returns-clause-says c =
    let is : behind_word c.args.words ≡ 32 ∷ c.in-Some.text.now = ap behind_word c.in-Some.is in
    let name : c.first_piece.result.0.now ≡ c.args.name.now = c.is_word.ensures.0 (grind (arith, common_steps)) in
    let cut = word_tail c.in-Some.text.now c.first_piece.result.0.now c.first_piece.result.1 c.first_piece.ensures.cut in
    let named : c.in-Some.text.now ≡ c.args.name.now ++ behind_word c.first_piece.result.1 = cut ∙ ap (λ (t : List ℕ). t ++ behind_word c.first_piece.result.1) name in
    subst (λ (t : List ℕ). IsOption c.args.name.now t (Word true) (behind_word c.first_piece.result.1)) (sym is) (word_stands c.args.name.now c.in-Some.text.now c.first_piece.result.1 named)

pub returns-clause-once : goal.returns-clause-once
returns-clause-once c option left o behind =
    let is : behind_word c.args.words ≡ 32 ∷ c.in-Some.text.now = ap behind_word c.in-Some.is in
    let name : c.first_piece.result.0.now ≡ c.args.name.now = c.is_word.ensures.0 (grind (arith, common_steps)) in
    let cut = word_tail c.in-Some.text.now c.first_piece.result.0.now c.first_piece.result.1 c.first_piece.ensures.cut in
    let named : c.in-Some.text.now ≡ c.args.name.now ++ behind_word c.first_piece.result.1 = cut ∙ ap (λ (t : List ℕ). t ++ behind_word c.first_piece.result.1) name in
    this_word c.args.name.now c.in-Some.text.now c.first_piece.result.1 option left c.requires named behind (subst (λ (t : List ℕ). IsOption c.args.name.now t (Word option) left) is o)
