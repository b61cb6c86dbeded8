use Rattle.im_smo_pages.proofs.PartLemmas.{fills_last}
use Rattle.im_smo_pages.proofs.tree_steps.dense_splits_fill_the_last_leaf.Goals as goal

pub returns : goal.returns
returns c = fills_last
