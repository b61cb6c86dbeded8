use Rattle.im_theory_log.proofs.LogLaws.{chain_leads}
use Rattle.im_theory_log.proofs.logs.undo_chain_leads_to_the_stack.Goals as goal

pub returns : goal.returns
returns g c = chain_leads g.T.PageTree.tree
