use Rattle.std.proofs.Common.{◌≡◌, ◌≢◌, ℕ, List, codes, true, ap, ◌∙◌, subst, arith}
use Rattle.std.proofs.lemmas.Grind.{common_steps}
use Rattle.im_tool_lines.specs.Scripts.{lines_of}
use Rattle.im_tool_lines.specs.StoreScripts.{BeginsLife}
use Rattle.im_tool_lines.proofs.Lines.{lines_left, cut_lines}
use Rattle.im_tool_lines.proofs.RawTexts.{Sought, sought_more, found_life, found_none}
use Rattle.im_tool_lines.proofs.raw_text.is_raw.Goals as goal

pub loop-left-preserved : goal.loop-left-preserved
loop-left-preserved c =
    let raw : c.first_piece.result.0.now ≢ codes "raw" = grind (arith, common_steps) in
    let cut = ap lines_left c.in-Some.is ∙ cut_lines c.in-Some.rest.now c.first_piece.result.0.now c.first_piece.result.1 c.first_piece.ensures.cut c.first_piece.ensures.lacks in
    sought_more (lines_of c.args.text.now) c.first_piece.result.0.now (lines_left c.first_piece.result.1) (subst (λ (left : List (List ℕ)). Sought (lines_of c.args.text.now) left) cut c.loop-left.invariant) raw
    (λ is. let yes : c.begins_life.result ≡ true = c.begins_life.ensures.1 is in absurd (cc))

pub returns-then-begins_life : goal.returns-then-begins_life
returns-then-begins_life c =
    let life : BeginsLife c.first_piece.result.0.now = c.begins_life.ensures.0 c.if-begins_life.true in
    let cut = ap lines_left c.in-Some.is ∙ cut_lines c.in-Some.rest.now c.first_piece.result.0.now c.first_piece.result.1 c.first_piece.ensures.cut c.first_piece.ensures.lacks in (
      λ e. absurd (cc),
      λ found. absurd (found_life (lines_of c.args.text.now) c.first_piece.result.0.now (lines_left c.first_piece.result.1) (subst (λ (left : List (List ℕ)). Sought (lines_of c.args.text.now) left) cut c.loop-left.invariant) life found),
    )

pub returns : goal.returns
returns c =
    let none = subst (λ (left : List (List ℕ)). Sought (lines_of c.args.text.now) left) (ap lines_left c.in_default.is) c.loop-left.invariant in (
      λ e. absurd (cc),
      λ found. absurd (found_none (lines_of c.args.text.now) none found),
    )
