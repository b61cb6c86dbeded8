use Rattle.im_theory_tree.proofs.KeyDeletionLemmas.{drop_entry, drop_leftmost, drop_all}
use Rattle.im_theory_tree.proofs.deletions.chain_deletion_keeps.Goals as goal

pub returns-clause-entry : goal.returns-clause-entry
returns-clause-entry c = drop_entry

pub returns-clause-leftmost : goal.returns-clause-leftmost
returns-clause-leftmost c = drop_leftmost

pub returns-clause-all : goal.returns-clause-all
returns-clause-all c = drop_all
