use Rattle.im_tree_search.proofs.Steps.{root_level, root_reached}
use Rattle.im_tree_search.proofs.descent.root.Goals as goal

pub returns-clause-kept : goal.returns-clause-kept
returns-clause-kept g c pages key tree =
    root_reached c.root_page.result pages key c.root_page.new.writer.pool tree.spare tree.good (c.root_page.ensures.kept pages tree.has (root_level pages key tree.spare tree.good)) c.root_page.ensures.root
