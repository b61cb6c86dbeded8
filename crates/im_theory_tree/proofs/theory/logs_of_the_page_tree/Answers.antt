use Rattle.im_theory_log.proofs.LogLaws.{fronts_are_lawful, logs_stay_lawful, tree_holds, finished_tree, chain_leads, on_top, at_most_once}
use Rattle.im_theory_tree.specs.Theory.{page_tree}
use Rattle.im_theory_tree.proofs.TheoryLaws.{page_tree_laws}
use Rattle.im_theory_tree.proofs.theory.logs_of_the_page_tree.Goals as goal

pub returns-clause-fronts : goal.returns-clause-fronts
returns-clause-fronts c = fronts_are_lawful page_tree

pub returns-clause-appends : goal.returns-clause-appends
returns-clause-appends c = logs_stay_lawful page_tree page_tree_laws

pub returns-clause-holds : goal.returns-clause-holds
returns-clause-holds c = tree_holds page_tree

pub returns-clause-finished : goal.returns-clause-finished
returns-clause-finished c = finished_tree page_tree

pub returns-clause-chain : goal.returns-clause-chain
returns-clause-chain c = chain_leads page_tree

pub returns-clause-top : goal.returns-clause-top
returns-clause-top c = on_top page_tree

pub returns-clause-compensated : goal.returns-clause-compensated
returns-clause-compensated c = at_most_once page_tree
