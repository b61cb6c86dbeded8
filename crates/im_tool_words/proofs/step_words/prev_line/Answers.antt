use Rattle.std.proofs.Common.{◌≡◌, Err, arith}
use Rattle.std.proofs.lemmas.Grind.{common_steps}
use Rattle.im_base_types.specs.declared.fault.Fault.TheVariants.{BadScript}
use Rattle.im_tool_words.proofs.StepSpelled.{prev_said}
use Rattle.im_tool_words.proofs.step_words.prev_line.Goals as goal

pub returns-in_err-number-clause-refused : goal.returns-in_err-number-clause-refused
returns-in_err-number-clause-refused c e step s =
    let is : c.keyed.result ≡ Err BadScript = grind (arith, common_steps) in
    let said = prev_said c.args.rest.now step s in c.keyed.ensures.refused is said.0 said.1 said.2
