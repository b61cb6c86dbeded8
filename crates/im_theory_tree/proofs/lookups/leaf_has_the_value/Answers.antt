use Rattle.im_theory_tree.proofs.LookupLemmas.{leaf_value}
use Rattle.im_theory_tree.proofs.lookups.leaf_has_the_value.Goals as goal

pub returns : goal.returns
returns c = leaf_value
