use Rattle.im_tree_search.proofs.Sighted.{open_of, seen_ok, seen_reads, seen_sound, tree_but}
use Rattle.im_tree_search.proofs.descent.leaf_for.Goals as goal

pub seen-requires : goal.seen-requires
seen-requires g c = open_of c.leaf_beside.result _ _ c.none.ensures.done c.leaf_beside.ensures.settled

pub returns-clause-outcome : goal.returns-clause-outcome
returns-clause-outcome g c = seen_reads g.D.Disk c.leaf_beside.result c.seen.result c.seen.ensures c.leaf_beside.ensures.outcome

pub returns-clause-kept : goal.returns-clause-kept
returns-clause-kept g c pages tree = seen_sound c.leaf_beside.result c.seen.result _ _ c.seen.ensures (c.leaf_beside.ensures.kept pages (tree_but g.D.Disk c.none.result c.none.ensures.done tree))

pub returns-clause-at : goal.returns-clause-at
returns-clause-at g c = seen_ok c.leaf_beside.result c.seen.result _ _ _ c.seen.ensures c.leaf_beside.ensures.settled (λ frame is. is.at)

pub returns-clause-leaf : goal.returns-clause-leaf
returns-clause-leaf g c = seen_ok c.leaf_beside.result c.seen.result _ _ _ c.seen.ensures c.leaf_beside.ensures.settled (λ frame is. is.level)

pub returns-clause-quiet : goal.returns-clause-quiet
returns-clause-quiet g c set working way = c.leaf_beside.ensures.quiet set working way

pub returns-clause-within : goal.returns-clause-within
returns-clause-within g c set working way = seen_ok c.leaf_beside.result c.seen.result _ _ _ c.seen.ensures (c.leaf_beside.ensures.within set working way) (λ frame is. is)
