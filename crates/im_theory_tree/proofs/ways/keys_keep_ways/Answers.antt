use Rattle.im_theory_tree.proofs.WayBlind.{keys_keep_ways}
use Rattle.im_theory_tree.proofs.ways.keys_keep_ways.Goals as goal

pub returns : goal.returns
returns c = keys_keep_ways
