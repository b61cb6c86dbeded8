use Rattle.im_page_rounds.proofs.Rounds.{rounds_then}
use Rattle.im_page_rounds.proofs.round_laws.rounds_come_after_another.Goals as goal

pub returns : goal.returns
returns c = rounds_then
