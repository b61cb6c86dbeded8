use Rattle.im_tree_search.proofs.GoingOn.{searches_go_on}
use Rattle.im_tree_search.proofs.search_laws.searches_go_on.Goals as goal

pub returns : goal.returns
returns c = searches_go_on
