use Rattle.std.proofs.Common.{◌≡◌, ◌∙◌, refl}
use Rattle.im_base_types.specs.Maps.{first}
use Rattle.im_page_writer.proofs.Outcomes.{out_of_memory, refused, sound_on}
use Rattle.im_theory_tree.specs.Levels.{walk}
use Rattle.im_tree_search.specs.Levels.{bodies_of, start_at}
use Rattle.im_tree_search.proofs.Sighted.{at_hidden, at_seen}
use Rattle.im_tree_search.proofs.Walks.{memory_not}
use Rattle.im_engine_access.proofs.Beside.{seek_meets}
use Rattle.im_engine_access.proofs.Names.{first_is}
use Rattle.im_engine_access.specs.LockAnswers.{as_found}
use Rattle.im_engine_access.proofs.reads.seek.Goals as goal

pub returns-in_err-found-clause-outcome : goal.returns-in_err-found-clause-outcome
returns-in_err-found-clause-outcome g c = refused g.D.Disk c.from_residual.result c.from_residual.ensures.1 c.in_err-found.ensures.outcome

pub returns-in_err-found-clause-kept : goal.returns-in_err-found-clause-kept
returns-in_err-found-clause-kept g c pages m tree is = sound_on c.from_residual.result _ _ c.from_residual.ensures.1 (c.in_err-found.ensures.kept pages tree)

pub returns-in_default-clause-outcome : goal.returns-in_default-clause-outcome
returns-in_default-clause-outcome g c = c.in_ok-found.ensures.outcome

pub returns-in_default-clause-kept : goal.returns-in_default-clause-kept
returns-in_default-clause-kept g c pages m tree is =
    (seek_meets (bodies_of pages) c.args.beside m c.args.key.now c.args.inclusive (at_hidden c.in_ok-found.field-0 _ _ c.in_default.not-Seen (c.in_ok-found.ensures.kept pages tree)), refl)

pub returns-in_err-answer-clause-outcome : goal.returns-in_err-answer-clause-outcome
returns-in_err-answer-clause-outcome g c = refused g.D.Disk c.from_residual-in_err-answer.result c.from_residual-in_err-answer.ensures.1 (out_of_memory g.D.Disk c.in_err-answer.ensures.memory c.in_ok-found.ensures.outcome)

pub returns-in_err-answer-clause-kept : goal.returns-in_err-answer-clause-kept
returns-in_err-answer-clause-kept g c pages m tree is = sound_on c.from_residual-in_err-answer.result _ _ c.from_residual-in_err-answer.ensures.1 (memory_not _ c.in_err-answer.ensures.memory)

pub returns-clause-outcome : goal.returns-clause-outcome
returns-clause-outcome g c = c.in_ok-found.ensures.outcome

pub returns-clause-kept : goal.returns-clause-kept
returns-clause-kept g c pages m tree is =
    let key = c.args.key.now in
    let inclusive = c.args.inclusive in
    let at : as_found c.in-Seen.found ≡ first (start_at inclusive key) m = at_seen c.in_ok-found.field-0 c.in-Seen.found _ _ c.in-Seen.is (c.in_ok-found.ensures.kept pages tree) ∙ first_is (start_at inclusive key) m (walk (bodies_of pages)) is in
    c.in_ok-answer.ensures.read m key inclusive at
