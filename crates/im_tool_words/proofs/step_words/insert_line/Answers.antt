use Rattle.std.proofs.Common.{◌≡◌, Err, arith, List, ℕ, ◌∷◌, ◌++◌, subst}
use Rattle.std.proofs.lemmas.Grind.{common_steps}
use Rattle.im_base_types.specs.declared.fault.Fault.TheVariants.{BadScript}
use Rattle.im_tool_words.specs.Words.{LacksByte}
use Rattle.im_tool_words.proofs.StepSpelled.{insert_said, insert_cut, insert_one}
use Rattle.im_tool_words.proofs.step_words.insert_line.Goals as goal

pub returns-in_err-number-clause-refused : goal.returns-in_err-number-clause-refused
returns-in_err-number-clause-refused c e step s =
    let i = insert_said c.args.rest.now step s in c.in_err-number.ensures.refused i.0 (i.3.word ++ 32 ∷ i.3.last) i.3.numbered

pub returns-in_default-clause-refused : goal.returns-in_default-clause-refused
returns-in_default-clause-refused c e step s =
    let i = insert_said c.args.rest.now step s in
    insert_one c.args.rest.now c.in_ok-number.number c.in_ok-number.rest.now i.0 i.1 i.2 c.in_ok-number.ensures.says
    (subst (λ (text : List ℕ). LacksByte 32 text) (rw c.in_default.is at c.first_piece.ensures.cut) c.first_piece.ensures.lacks) i.3

pub returns-in_err-rid-clause-refused : goal.returns-in_err-rid-clause-refused
returns-in_err-rid-clause-refused c e step s =
    let i = insert_said c.args.rest.now step s in
    let k = insert_cut c.args.rest.now c.in_ok-number.number c.in_ok-number.rest.now c.first_piece.result.0.now c.in-Some.last.now i.0 i.1 i.2 c.in_ok-number.ensures.says (rw c.in-Some.is at c.first_piece.ensures.cut) c.first_piece.ensures.lacks i.3 in
    c.in_err-rid.ensures.refused i.2 k.1

pub returns-in_err-key-clause-refused : goal.returns-in_err-key-clause-refused
returns-in_err-key-clause-refused c e step s =
    let i = insert_said c.args.rest.now step s in
    let k = insert_cut c.args.rest.now c.in_ok-number.number c.in_ok-number.rest.now c.first_piece.result.0.now c.in-Some.last.now i.0 i.1 i.2 c.in_ok-number.ensures.says (rw c.in-Some.is at c.first_piece.ensures.cut) c.first_piece.ensures.lacks i.3 in
    let is : c.key_of.result ≡ Err BadScript = grind (arith, common_steps) in
    c.key_of.ensures.refused is i.1 k.0
