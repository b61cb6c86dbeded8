use Rattle.im_theory_tree.proofs.WorkedTrees.{lost_separator_bad, high_separator_bad, still_chained_bad, used_twice_bad, not_given_back_bad, left_at_equal}
use Rattle.im_theory_tree.proofs.worked.wrong_trees_are_refused.Goals as goal

pub returns-clause-lost_separator : goal.returns-clause-lost_separator
returns-clause-lost_separator c = lost_separator_bad

pub returns-clause-high_separator : goal.returns-clause-high_separator
returns-clause-high_separator c = high_separator_bad

pub returns-clause-still_chained : goal.returns-clause-still_chained
returns-clause-still_chained c = still_chained_bad

pub returns-clause-used_twice : goal.returns-clause-used_twice
returns-clause-used_twice c = used_twice_bad

pub returns-clause-not_given_back : goal.returns-clause-not_given_back
returns-clause-not_given_back c = not_given_back_bad

pub returns-clause-left_at_equal : goal.returns-clause-left_at_equal
returns-clause-left_at_equal c = left_at_equal
