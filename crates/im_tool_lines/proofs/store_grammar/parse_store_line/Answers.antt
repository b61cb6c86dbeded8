use Rattle.std.proofs.Common.{◌≡◌, ℕ, List, ◌++◌, codes, rules, ◌∙◌, ap, subst, arith}
use Rattle.std.proofs.lemmas.Grind.{common_steps}
use Rattle.im_tool_lines.specs.Lines.{behind_word}
use Rattle.im_tool_lines.specs.StoreScripts.{SpellsStore}
use Rattle.im_tool_lines.proofs.LifeWords.{word_tail}
use Rattle.im_tool_lines.proofs.store_grammar.parse_store_line.Goals as goal

pub returns-then-eq-clause-refused : goal.returns-then-eq-clause-refused
returns-then-eq-clause-refused c e said s =
    let word : c.first_piece.result.0.now ≡ codes "life" = first_of (search rules, cc, grind (arith, common_steps)) in
    let cut = word_tail c.args.line.now c.first_piece.result.0.now c.first_piece.result.1 c.first_piece.ensures.cut ∙ ap (λ (t : List ℕ). t ++ behind_word c.first_piece.result.1) word in
    c.life_line.ensures.refused e said (subst (λ (t : List ℕ). SpellsStore t said) cut s)
