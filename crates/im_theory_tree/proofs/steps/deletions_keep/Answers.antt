use Rattle.im_theory_tree.proofs.StepLemmas.{deleted_up}
use Rattle.im_theory_tree.proofs.steps.deletions_keep.Goals as goal

pub returns : goal.returns
returns c = deleted_up
