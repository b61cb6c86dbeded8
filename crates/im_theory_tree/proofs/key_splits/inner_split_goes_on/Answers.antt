use Rattle.im_theory_tree.proofs.ChildStays.{inner_goes_on, root_goes_on}
use Rattle.im_theory_tree.proofs.key_splits.inner_split_goes_on.Goals as goal

pub returns-clause-inner : goal.returns-clause-inner
returns-clause-inner c = inner_goes_on

pub returns-clause-root : goal.returns-clause-root
returns-clause-root c = root_goes_on
