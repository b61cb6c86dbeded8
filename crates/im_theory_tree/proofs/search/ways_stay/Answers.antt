use Rattle.im_theory_tree.proofs.WayStays.{way_stays}
use Rattle.im_theory_tree.proofs.search.ways_stay.Goals as goal

pub returns : goal.returns
returns c = way_stays
