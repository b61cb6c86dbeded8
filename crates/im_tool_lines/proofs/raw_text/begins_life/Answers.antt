use Rattle.std.proofs.Common.{◌≡◌, codes, rules, arith}
use Rattle.std.proofs.lemmas.Grind.{common_steps}
use Rattle.im_tool_lines.proofs.RawTexts.{life_or_not}
use Rattle.im_tool_lines.proofs.raw_text.begins_life.Goals as goal

pub returns : goal.returns
returns c =
    let both = life_or_not c.args.line.now c.first_piece.result.0.now c.first_piece.result.1 c.first_piece.ensures.cut c.first_piece.ensures.lacks in (
      λ e. let word : c.first_piece.result.0.now ≡ codes "life" = first_of (search rules, cc, grind (arith, common_steps)) in both.1 word,
      λ is. let word : c.first_piece.result.0.now ≡ codes "life" = both.0 is in first_of (search rules, cc, grind (arith, common_steps)),
    )
