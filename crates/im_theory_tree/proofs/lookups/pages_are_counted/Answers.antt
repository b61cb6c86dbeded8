use Rattle.im_theory_tree.proofs.Counting.{pages_counted, leaves_counted}
use Rattle.im_theory_tree.proofs.lookups.pages_are_counted.Goals as goal

pub returns-clause-pages : goal.returns-clause-pages
returns-clause-pages c = pages_counted

pub returns-clause-leaves : goal.returns-clause-leaves
returns-clause-leaves c = leaves_counted
