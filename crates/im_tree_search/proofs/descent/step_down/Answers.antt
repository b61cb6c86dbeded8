use Rattle.std.proofs.Common.{◌-◌, ◌∙◌, subst}
use Rattle.im_base_types.specs.Pages.{Page}
use Rattle.im_theory_page.specs.Child.{IsChild}
use Rattle.im_tree_search.specs.Levels.{bodies_of}
use Rattle.im_tree_search.proofs.Sighted.{reached_beside, seen_in_set}
use Rattle.im_tree_search.proofs.Steps.{way_level, step_level}
use Rattle.im_tree_search.proofs.Quiet.{child_in_set}
use Rattle.im_tree_search.proofs.descent.step_down.Goals as goal

pub returns-clause-kept : goal.returns-clause-kept
returns-clause-kept g c pages tree at =
    let child = subst (λ (x : Page). IsChild x.body c.args.key.now c.child_of-child.result) (c.page.ensures.page ∙ at.shown) c.child_of-child.ensures in
    let down = step_level (bodies_of pages) c.args.level c.args.key.now c.args.frame.number c.child_of-child.result c.requires.inner at.way child in
    reached_beside c.page_beside.result pages c.args.beside c.args.key.now (c.args.level - 1) c.child_of-child.result c.page_beside.new.writer.pool
    (c.page_beside.ensures.kept pages tree (way_level (bodies_of pages) (c.args.level - 1) c.args.key.now c.child_of-child.result down)) c.page_beside.ensures.frame down

pub returns-clause-quiet : goal.returns-clause-quiet
returns-clause-quiet g c set working way in_set =
    let child = child_in_set c.args.key.now set c.args.writer.now.pool c.args.level c.args.frame.number c.child_of-child.result c.page.result.now way in_set c.requires.inner c.requires.page c.page.ensures.page c.child_of-child.ensures in
    c.page_beside.ensures.quiet working (way.held c.child_of-child.result child)

pub returns-clause-within : goal.returns-clause-within
returns-clause-within g c set way in_set =
    let child = child_in_set c.args.key.now set c.args.writer.now.pool c.args.level c.args.frame.number c.child_of-child.result c.page.result.now way in_set c.requires.inner c.requires.page c.page.ensures.page c.child_of-child.ensures in
    seen_in_set set c.child_of-child.result c.page_beside.result child c.page_beside.ensures.frame
