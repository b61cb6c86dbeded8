use Rattle.im_page_rounds.proofs.Sums.{entries_follow}
use Rattle.im_page_rounds.proofs.round_laws.entries_follow.Goals as goal

pub returns : goal.returns
returns c = entries_follow
