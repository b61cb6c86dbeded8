use Rattle.im_page_rounds.proofs.Rounds.{round_leaves}
use Rattle.im_page_rounds.proofs.round_laws.rounds_leave.Goals as goal

pub returns : goal.returns
returns c = round_leaves
