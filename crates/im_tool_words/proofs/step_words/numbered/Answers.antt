use Rattle.std.proofs.Common.{List, ℕ, subst}
use Rattle.im_tool_words.specs.Words.{LacksByte}
use Rattle.im_tool_words.specs.Steps.{IsNumbered}
use Rattle.im_tool_words.proofs.StepSpelled.{numbered_lacks, numbered_cut, whatever}
use Rattle.im_tool_words.proofs.step_words.numbered.Goals as goal

pub returns-in_default-clause-refused : goal.returns-in_default-clause-refused
returns-in_default-clause-refused c n rest w =
    numbered_lacks c.args.text.now n rest w (subst (λ (text : List ℕ). LacksByte 32 text) (rw c.in_default.is at c.first_piece.ensures.cut) c.first_piece.ensures.lacks)

pub returns-in_err-number-clause-refused : goal.returns-in_err-number-clause-refused
returns-in_err-number-clause-refused c =
    whatever c.from_residual.result ((n : ℕ) (rest : List ℕ) → ¬ (IsNumbered c.args.text.now n rest))
    (λ n rest w. c.in_err-number.ensures.refused n (numbered_cut c.args.text.now c.first_piece.result.0.now c.in-Some.rest.now n rest w (rw c.in-Some.is at c.first_piece.ensures.cut) c.first_piece.ensures.lacks))
