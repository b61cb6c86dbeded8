use Rattle.std.proofs.Common.{◌≡◌, ◌≢◌, ℕ, ◌+◌, suc, List, [], length, Err, ◌∙◌, ap, subst, arith}
use Rattle.std.proofs.lemmas.Grind.{common_steps}
use Rattle.im_base_types.specs.declared.fault.Fault.TheVariants.{BadScript}
use Rattle.im_tool_lines.specs.Scripts.{lines_of, IsFirstBadBy}
use Rattle.im_tool_lines.proofs.Lines.{lines_left, cut_lines, count_more, not_empty}
use Rattle.im_tool_lines.proofs.Passed.{Passed, passed_none, passed_empty, passed_line, passed_bad}
use Rattle.im_tool_lines.proofs.line_reader.read_lines.Goals as goal

pub loop-left-init : goal.loop-left-init
loop-left-init g c =
    let reads = g.R.LineReader in
    record {
      count = omega arith;
      passed = passed_none reads.spells reads.kind reads.has_read (lines_of c.args.text.now) c.args.reader.now c.requires.none;
    }

pub loop-left-preserved-then-is_empty : goal.loop-left-preserved-then-is_empty
loop-left-preserved-then-is_empty g c =
    let reads = g.R.LineReader in
    let empty : c.first_piece.result.0.now ≡ [] = grind (arith, common_steps) in
    let cut = ap lines_left c.in-Some.is ∙ cut_lines c.in-Some.rest.now c.first_piece.result.0.now c.first_piece.result.1 c.first_piece.ensures.cut c.first_piece.ensures.lacks in
    record {
      count = count_more c.loop-left.number (suc (length c.args.text.now)) c.in-Some.rest.now c.first_piece.result.1 c.first_piece.ensures.shorter (rw c.in-Some.is at c.loop-left.invariant.count);
      passed = passed_empty reads.spells reads.kind reads.has_read (lines_of c.args.text.now) c.loop-left.number c.first_piece.result.0.now (lines_left c.first_piece.result.1) c.loop-left.reader empty
          (subst (λ (left : List (List ℕ)). Passed reads.spells reads.kind reads.has_read (lines_of c.args.text.now) c.loop-left.number left c.loop-left.reader) cut c.loop-left.invariant.passed);
    }

pub loop-left-preserved : goal.loop-left-preserved
loop-left-preserved g c =
    let reads = g.R.LineReader in
    let some : c.first_piece.result.0.now ≢ [] = not_empty c.first_piece.result.0.now c.is_empty.result c.is_empty.ensures c.if-is_empty.false in
    let cut = ap lines_left c.in-Some.is ∙ cut_lines c.in-Some.rest.now c.first_piece.result.0.now c.first_piece.result.1 c.first_piece.ensures.cut c.first_piece.ensures.lacks in
    record {
      count = count_more c.loop-left.number (suc (length c.args.text.now)) c.in-Some.rest.now c.first_piece.result.1 c.first_piece.ensures.shorter (rw c.in-Some.is at c.loop-left.invariant.count);
      passed = passed_line reads.spells reads.kind reads.has_read (lines_of c.args.text.now) c.loop-left.number c.first_piece.result.0.now (lines_left c.first_piece.result.1) c.loop-left.reader c.read_line.new.self some c.in-Ok.ensures.read
          (subst (λ (left : List (List ℕ)). Passed reads.spells reads.kind reads.has_read (lines_of c.args.text.now) c.loop-left.number left c.loop-left.reader) cut c.loop-left.invariant.passed);
    }

pub returns-in-Err-BadScript-clause-refused : goal.returns-in-Err-BadScript-clause-refused
returns-in-Err-BadScript-clause-refused g c n e =
    let reads = g.R.LineReader in
    let number : c.loop-left.number + 1 ≡ n = cc in
    let refused : c.read_line.result ≡ Err BadScript = cc in
    let some : c.first_piece.result.0.now ≢ [] = not_empty c.first_piece.result.0.now c.is_empty.result c.is_empty.ensures c.if-is_empty.false in
    let cut = ap lines_left c.in-Some.is ∙ cut_lines c.in-Some.rest.now c.first_piece.result.0.now c.first_piece.result.1 c.first_piece.ensures.cut c.first_piece.ensures.lacks in
    subst (λ (k : ℕ). IsFirstBadBy reads.spells reads.kind (lines_of c.args.text.now) k) number
    (passed_bad reads.spells reads.kind reads.has_read c.requires.one_kind c.requires.stands (lines_of c.args.text.now) c.loop-left.number c.first_piece.result.0.now (lines_left c.first_piece.result.1) c.loop-left.reader some (c.read_line.ensures.refused refused)
    (subst (λ (left : List (List ℕ)). Passed reads.spells reads.kind reads.has_read (lines_of c.args.text.now) c.loop-left.number left c.loop-left.reader) cut c.loop-left.invariant.passed))
