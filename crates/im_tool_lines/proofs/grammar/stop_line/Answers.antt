use Rattle.im_tool_lines.proofs.Spelled.{stop_call}
use Rattle.im_tool_lines.proofs.grammar.stop_line.Goals as goal

pub returns-in_default-call_of-clause-refused : goal.returns-in_default-call_of-clause-refused
returns-in_default-call_of-clause-refused c e said s =
    let cut = rw c.in-Some.is at c.first_piece.ensures.cut in
    stop_call c.args.rest.now c.first_piece.result.0.now c.in-Some.rest.now said s cut c.first_piece.ensures.lacks c.in_default-call_of.ensures
