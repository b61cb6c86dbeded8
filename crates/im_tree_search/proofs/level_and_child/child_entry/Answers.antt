use Rattle.std.proofs.Common.{arith, ◌≤◌}
use Rattle.im_theory_page.proofs.ChildLemmas.{child_found, child_before}
use Rattle.im_tree_search.proofs.level_and_child.child_entry.Goals as goal

pub returns-in-Ok-clause-entry : goal.returns-in-Ok-clause-entry
returns-in-Ok-clause-entry c =
    (c.in-Ok.ensures.0, child_found c.args.page.now.body c.args.key.now c.in-Ok.i c.law_content.ensures.rises c.in-Ok.ensures)

pub returns-in-Err-clause-entry : goal.returns-in-Err-clause-entry
returns-in-Err-clause-entry c =
    let some : 1 ≤ c.in-Err.i = omega arith in
    (omega (arith, c.in-Err.ensures.within), child_before c.args.page.now.body c.args.key.now c.in-Err.i some c.in-Err.ensures)
