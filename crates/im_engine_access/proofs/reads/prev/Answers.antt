use Rattle.std.proofs.Common.{◌∙◌, refl}
use Rattle.im_base_types.specs.Maps.{From}
use Rattle.im_page_writer.proofs.Outcomes.{out_of_memory, refused, sound_on}
use Rattle.im_theory_tree.specs.Levels.{walk}
use Rattle.im_tree_search.specs.Levels.{bodies_of}
use Rattle.im_tree_search.proofs.Sighted.{at_hidden, at_seen}
use Rattle.im_tree_search.proofs.Walks.{memory_not}
use Rattle.im_engine_access.proofs.Names.{first_is, last_is}
use Rattle.im_engine_access.proofs.reads.prev.Goals as goal

pub returns-in_err-below-clause-outcome : goal.returns-in_err-below-clause-outcome
returns-in_err-below-clause-outcome g c = refused g.D.Disk c.from_residual.result c.from_residual.ensures.1 c.in_err-below.ensures.outcome

pub returns-in_err-below-clause-kept : goal.returns-in_err-below-clause-kept
returns-in_err-below-clause-kept g c pages m tree is = sound_on c.from_residual.result _ _ c.from_residual.ensures.1 (c.in_err-below.ensures.kept pages tree)

pub returns-in_default-clause-outcome : goal.returns-in_default-clause-outcome
returns-in_default-clause-outcome g c = c.in_ok-below.ensures.outcome

pub returns-in_default-clause-kept : goal.returns-in_default-clause-kept
returns-in_default-clause-kept g c pages m tree is = (at_hidden c.in_ok-below.field-0 _ _ c.in_default.not-Seen (c.in_ok-below.ensures.kept pages tree), refl)

pub returns-in_err-answer-clause-outcome : goal.returns-in_err-answer-clause-outcome
returns-in_err-answer-clause-outcome g c = refused g.D.Disk c.from_residual-in_err-answer.result c.from_residual-in_err-answer.ensures.1 (out_of_memory g.D.Disk c.in_err-answer.ensures.memory c.in_ok-below.ensures.outcome)

pub returns-in_err-answer-clause-kept : goal.returns-in_err-answer-clause-kept
returns-in_err-answer-clause-kept g c pages m tree is = sound_on c.from_residual-in_err-answer.result _ _ c.from_residual-in_err-answer.ensures.1 (memory_not _ c.in_err-answer.ensures.memory)

pub returns-clause-outcome : goal.returns-clause-outcome
returns-clause-outcome g c = c.in_ok-below.ensures.outcome

pub returns-clause-kept : goal.returns-clause-kept
returns-clause-kept g c pages m tree is =
    let key = c.args.key.now in
    let es = walk (bodies_of pages) in
    let around = at_seen c.in_ok-below.field-0 (c.in-Seen.below, c.in-Seen.next) _ _ c.in-Seen.is (c.in_ok-below.ensures.kept pages tree) in
    c.in_ok-answer.ensures.read m key (around.0 ∙ last_is key m es is) (around.1 ∙ first_is (From key) m es is)
