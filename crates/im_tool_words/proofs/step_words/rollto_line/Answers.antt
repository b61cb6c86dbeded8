use Rattle.im_tool_words.proofs.StepSpelled.{rollto_said, left_same}
use Rattle.im_tool_words.proofs.step_words.rollto_line.Goals as goal

pub returns-in_err-number-clause-refused : goal.returns-in_err-number-clause-refused
returns-in_err-number-clause-refused c e step s =
    let i = rollto_said c.args.rest.now step s in c.in_err-number.ensures.refused i.0 i.2.last i.2.numbered

pub returns-in_err-left-clause-refused : goal.returns-in_err-left-clause-refused
returns-in_err-left-clause-refused c e step s =
    let i = rollto_said c.args.rest.now step s in
    c.in_err-left.ensures.refused i.1 (left_same c.args.rest.now c.in_ok-number.number c.in_ok-number.last.now i.0 i.1 c.in_ok-number.ensures.says i.2)
