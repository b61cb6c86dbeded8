use Rattle.im_tree_search.proofs.GoingBack.{searches_go_back}
use Rattle.im_tree_search.proofs.search_laws.searches_go_back.Goals as goal

pub returns : goal.returns
returns c = searches_go_back
