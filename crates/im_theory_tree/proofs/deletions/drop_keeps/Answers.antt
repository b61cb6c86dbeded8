use Rattle.im_theory_tree.proofs.DropLeaf.{walk_drop, ordered_drop, ordered_rebind}
use Rattle.im_theory_tree.proofs.deletions.drop_keeps.Goals as goal

pub returns-clause-walk : goal.returns-clause-walk
returns-clause-walk c = walk_drop

pub returns-clause-behind : goal.returns-clause-behind
returns-clause-behind c = ordered_drop

pub returns-clause-before : goal.returns-clause-before
returns-clause-before c = ordered_rebind
