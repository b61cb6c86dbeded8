use Rattle.im_page_rounds.proofs.Rounds.{rounds_kept}
use Rattle.im_page_rounds.proofs.round_laws.a_round_is_kept.Goals as goal

pub returns : goal.returns
returns c = rounds_kept
