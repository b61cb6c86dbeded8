use Rattle.std.proofs.Common.{◌≡◌, Err, arith}
use Rattle.std.proofs.lemmas.Grind.{common_steps}
use Rattle.im_base_types.specs.declared.fault.Fault.TheVariants.{BadScript}
use Rattle.im_tool_words.proofs.StepSpelled.{scan_said, scan_low, scan_high, scan_limit}
use Rattle.im_tool_words.proofs.step_words.scan_line.Goals as goal

pub returns-in_err-number-clause-refused : goal.returns-in_err-number-clause-refused
returns-in_err-number-clause-refused c e step s =
    let i = scan_said c.args.rest.now step s in c.in_err-number.ensures.refused i.0 i.4.keys i.4.numbered

pub returns-in_err-lo-clause-refused : goal.returns-in_err-lo-clause-refused
returns-in_err-lo-clause-refused c e step s =
    let i = scan_said c.args.rest.now step s in
    let is : c.behind_key.result ≡ Err BadScript = grind (arith, common_steps) in
    c.behind_key.ensures.refused is i.1 i.4.rest (scan_low c.args.rest.now c.in_ok-number.keys.now c.in_ok-number.number i.0 i.1 i.2 i.3 c.in_ok-number.ensures.says i.4)

pub returns-in_err-hi-clause-refused : goal.returns-in_err-hi-clause-refused
returns-in_err-hi-clause-refused c e step s =
    let i = scan_said c.args.rest.now step s in
    let is : c.behind_key-2.result ≡ Err BadScript = grind (arith, common_steps) in
    c.behind_key-2.ensures.refused is i.2 i.4.last
    (scan_high c.args.rest.now c.in_ok-number.keys.now c.in_ok-lo.rest.now c.in_ok-number.number c.in_ok-lo.lo.items i.0 i.1 i.2 i.3 c.in_ok-number.ensures.says c.in_ok-lo.ensures.says i.4)

pub returns-in_err-limit-clause-refused : goal.returns-in_err-limit-clause-refused
returns-in_err-limit-clause-refused c e step s =
    let i = scan_said c.args.rest.now step s in
    c.in_err-limit.ensures.refused i.3
    (scan_limit c.args.rest.now c.in_ok-number.keys.now c.in_ok-lo.rest.now c.in_ok-hi.last.now c.in_ok-number.number c.in_ok-lo.lo.items c.in_ok-hi.hi.items i.0 i.1 i.2 i.3 c.in_ok-number.ensures.says c.in_ok-lo.ensures.says c.in_ok-hi.ensures.says i.4)
