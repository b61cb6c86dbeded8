use Rattle.im_theory_tree.proofs.Ascent.{walk_rises}
use Rattle.im_theory_tree.proofs.lookups.walk_rises.Goals as goal

pub returns : goal.returns
returns c = walk_rises
