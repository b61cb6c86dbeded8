use Rattle.im_theory_tree.proofs.LeafByKey.{leaf_of_its_key, leaf_between_keys}
use Rattle.im_theory_tree.proofs.search.leaves_are_known_by_their_keys.Goals as goal

pub returns-clause-has : goal.returns-clause-has
returns-clause-has c = leaf_of_its_key

pub returns-clause-between : goal.returns-clause-between
returns-clause-between c = leaf_between_keys
