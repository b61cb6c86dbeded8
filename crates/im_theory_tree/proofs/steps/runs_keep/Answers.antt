use Rattle.im_theory_tree.proofs.StepLemmas.{run_keeps}
use Rattle.im_theory_tree.proofs.steps.runs_keep.Goals as goal

pub returns : goal.returns
returns c = run_keeps
