use Rattle.im_page_rounds.proofs.Held.{round_held}
use Rattle.im_page_rounds.proofs.round_laws.a_round_is_held.Goals as goal

pub returns : goal.returns
returns c = round_held
