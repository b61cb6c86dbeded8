use Rattle.std.proofs.Common.{◌≡◌, ◌≢◌, ℕ, List, ◌∷◌, ◌++◌, Option, Some, sym, ◌∙◌, ap, subst, arith}
use Rattle.std.proofs.lemmas.Grind.{common_steps}
use Rattle.im_tool_lines.specs.Lines.{behind_word}
use Rattle.im_tool_lines.specs.StoreScripts.{Number, IsOption, IsBehindOption}
use Rattle.im_tool_lines.proofs.LifeWords.{word_tail, other_once, no_number, option_is, number_one, number_bad}
use Rattle.im_tool_words.proofs.StepSpelled.{whatever}
use Rattle.im_tool_lines.proofs.store_grammar.option_of.Goals as goal

pub returns-then-not-is_word-clause-once : goal.returns-then-not-is_word-clause-once
returns-then-not-is_word-clause-once c option left o behind =
    let is : behind_word c.args.words ≡ 32 ∷ c.in-Some.text.now = ap behind_word c.in-Some.is in
    let other : c.first_piece.result.0.now ≢ c.args.name.now = λ same. let yes = c.is_word.ensures.1 same in let no = c.if-not-is_word.true in absurd (cc) in
    let cut = word_tail c.in-Some.text.now c.first_piece.result.0.now c.first_piece.result.1 c.first_piece.ensures.cut in
    let both = other_once c.args.name.now c.in-Some.text.now c.first_piece.result.0.now c.first_piece.result.1 option left c.requires cut c.first_piece.ensures.lacks other (subst (λ (t : List ℕ). IsOption c.args.name.now t (Number option) left) is o) in
    (both.0, both.1 ∙ sym is)

pub returns-in_default-rest-clause-refused : goal.returns-in_default-rest-clause-refused
returns-in_default-rest-clause-refused c option left behind o =
    let is : behind_word c.args.words ≡ 32 ∷ c.in-Some.text.now = ap behind_word c.in-Some.is in
    let name : c.first_piece.result.0.now ≡ c.args.name.now = c.is_word.ensures.0 (grind (arith, common_steps)) in
    let whole : c.first_piece.result.0.now ≡ c.in-Some.text.now = rw c.in_default-rest.is at c.first_piece.ensures.cut in
    no_number c.args.name.now c.in-Some.text.now option left c.requires (sym whole ∙ name) behind (subst (λ (t : List ℕ). IsOption c.args.name.now t (Number option) left) is o)

pub returns-in_err-number-clause-refused : goal.returns-in_err-number-clause-refused
returns-in_err-number-clause-refused c =
    let is : behind_word c.args.words ≡ 32 ∷ c.in-Some.text.now = ap behind_word c.in-Some.is in
    let name : c.first_piece.result.0.now ≡ c.args.name.now = c.is_word.ensures.0 (grind (arith, common_steps)) in
    let cut : c.in-Some.text.now ≡ c.first_piece.result.0.now ++ 32 ∷ c.in-Some-rest.rest.now = rw c.in-Some-rest.is at c.first_piece.ensures.cut in
    let named : c.in-Some.text.now ≡ c.args.name.now ++ 32 ∷ c.in-Some-rest.rest.now = cut ∙ ap (λ (t : List ℕ). t ++ 32 ∷ c.in-Some-rest.rest.now) name in
    let next = word_tail c.in-Some-rest.rest.now c.first_piece-2.result.0.now c.first_piece-2.result.1 c.first_piece-2.ensures.cut in
    whatever c.from_residual.result ((option : Option ℕ) (left : List ℕ) → IsBehindOption c.args.name.now left → ¬ (IsOption c.args.name.now (behind_word c.args.words) (Number option) left))
    (λ option left behind o. number_bad c.args.name.now c.in-Some.text.now c.in-Some-rest.rest.now c.first_piece-2.result.0.now c.first_piece-2.result.1 option left c.requires named next c.first_piece-2.ensures.lacks c.in_err-number.ensures.refused behind
    (subst (λ (t : List ℕ). IsOption c.args.name.now t (Number option) left) is o))

pub returns-clause-says : goal.returns-clause-says
returns-clause-says c =
    let is : behind_word c.args.words ≡ 32 ∷ c.in-Some.text.now = ap behind_word c.in-Some.is in
    let name : c.first_piece.result.0.now ≡ c.args.name.now = c.is_word.ensures.0 (grind (arith, common_steps)) in
    let cut : c.in-Some.text.now ≡ c.first_piece.result.0.now ++ 32 ∷ c.in-Some-rest.rest.now = rw c.in-Some-rest.is at c.first_piece.ensures.cut in
    let named : c.in-Some.text.now ≡ c.args.name.now ++ 32 ∷ c.in-Some-rest.rest.now = cut ∙ ap (λ (t : List ℕ). t ++ 32 ∷ c.in-Some-rest.rest.now) name in
    let next = word_tail c.in-Some-rest.rest.now c.first_piece-2.result.0.now c.first_piece-2.result.1 c.first_piece-2.ensures.cut in
    subst (λ (t : List ℕ). IsOption c.args.name.now t (Number (Some c.in_ok-number.number)) (behind_word c.first_piece-2.result.1)) (sym is)
    (option_is c.args.name.now c.in-Some.text.now c.in-Some-rest.rest.now c.first_piece-2.result.0.now c.first_piece-2.result.1 c.in_ok-number.number named next c.in_ok-number.ensures.says)

pub returns-clause-once : goal.returns-clause-once
returns-clause-once c option left o behind =
    let is : behind_word c.args.words ≡ 32 ∷ c.in-Some.text.now = ap behind_word c.in-Some.is in
    let name : c.first_piece.result.0.now ≡ c.args.name.now = c.is_word.ensures.0 (grind (arith, common_steps)) in
    let cut : c.in-Some.text.now ≡ c.first_piece.result.0.now ++ 32 ∷ c.in-Some-rest.rest.now = rw c.in-Some-rest.is at c.first_piece.ensures.cut in
    let named : c.in-Some.text.now ≡ c.args.name.now ++ 32 ∷ c.in-Some-rest.rest.now = cut ∙ ap (λ (t : List ℕ). t ++ 32 ∷ c.in-Some-rest.rest.now) name in
    let next = word_tail c.in-Some-rest.rest.now c.first_piece-2.result.0.now c.first_piece-2.result.1 c.first_piece-2.ensures.cut in
    number_one c.args.name.now c.in-Some.text.now c.in-Some-rest.rest.now c.first_piece-2.result.0.now c.first_piece-2.result.1 c.in_ok-number.number option left c.requires named next c.first_piece-2.ensures.lacks c.in_ok-number.ensures.says behind
    (subst (λ (t : List ℕ). IsOption c.args.name.now t (Number option) left) is o)
