use Rattle.im_theory_tree.proofs.HalvesLemmas.{halves_at, separator_after}
use Rattle.im_theory_tree.proofs.halves.parts_are_halves.Goals as goal

pub returns-clause-halves : goal.returns-clause-halves
returns-clause-halves c = halves_at

pub returns-clause-above : goal.returns-clause-above
returns-clause-above c = separator_after
