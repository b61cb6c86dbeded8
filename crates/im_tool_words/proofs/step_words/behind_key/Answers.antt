use Rattle.std.proofs.Common.{◌≡◌, Err, arith, List, ℕ, subst}
use Rattle.std.proofs.lemmas.Grind.{common_steps}
use Rattle.im_base_types.specs.declared.fault.Fault.TheVariants.{BadScript}
use Rattle.im_tool_words.specs.Words.{LacksByte}
use Rattle.im_tool_words.proofs.StepSpelled.{behind_one, behind_cut}
use Rattle.im_tool_words.proofs.step_words.behind_key.Goals as goal

pub returns-in_default-clause-refused : goal.returns-in_default-clause-refused
returns-in_default-clause-refused c e key rest b =
    behind_one c.args.text.now key rest b (subst (λ (text : List ℕ). LacksByte 32 text) (rw c.in_default.is at c.first_piece.ensures.cut) c.first_piece.ensures.lacks)

pub returns-in_err-key-clause-refused : goal.returns-in_err-key-clause-refused
returns-in_err-key-clause-refused c e key rest b =
    let is : c.key_of.result ≡ Err BadScript = grind (arith, common_steps) in
    c.key_of.ensures.refused is key (behind_cut c.args.text.now c.first_piece.result.0.now c.in-Some.rest.now key rest b (rw c.in-Some.is at c.first_piece.ensures.cut) c.first_piece.ensures.lacks)
