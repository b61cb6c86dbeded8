use Rattle.im_theory_tree.proofs.MarkLemmas.{marks_keep}
use Rattle.im_theory_tree.proofs.changes.marks_do_not_matter.Goals as goal

pub returns : goal.returns
returns c = marks_keep
