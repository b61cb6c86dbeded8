use Rattle.im_page_rounds.proofs.Sums.{counts_add}
use Rattle.im_page_rounds.proofs.round_laws.counts_add.Goals as goal

pub returns : goal.returns
returns c = counts_add
