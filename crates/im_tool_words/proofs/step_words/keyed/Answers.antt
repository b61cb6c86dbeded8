use Rattle.std.proofs.Common.{◌≡◌, Err, arith}
use Rattle.std.proofs.lemmas.Grind.{common_steps}
use Rattle.im_base_types.specs.declared.fault.Fault.TheVariants.{BadScript}
use Rattle.im_tool_words.proofs.StepSpelled.{keyed_same}
use Rattle.im_tool_words.proofs.step_words.keyed.Goals as goal

pub returns-in_err-number-clause-refused : goal.returns-in_err-number-clause-refused
returns-in_err-number-clause-refused c e t key k = c.in_err-number.ensures.refused t k.word k.numbered

pub returns-in_err-key-clause-refused : goal.returns-in_err-key-clause-refused
returns-in_err-key-clause-refused c e t key k =
    let is : c.key_of.result ≡ Err BadScript = grind (arith, common_steps) in
    c.key_of.ensures.refused is key (keyed_same c.args.text.now c.in_ok-number.number t c.in_ok-number.word.now key c.in_ok-number.ensures.says k)
