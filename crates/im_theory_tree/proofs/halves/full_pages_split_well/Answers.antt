use Rattle.im_theory_tree.proofs.HalvesLemmas.{splits_well}
use Rattle.im_theory_tree.proofs.halves.full_pages_split_well.Goals as goal

pub returns : goal.returns
returns c = splits_well
