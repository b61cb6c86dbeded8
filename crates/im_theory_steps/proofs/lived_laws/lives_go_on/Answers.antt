use Rattle.im_theory_steps.proofs.Lived.{lives_go_on}
use Rattle.im_theory_steps.proofs.lived_laws.lives_go_on.Goals as goal

pub returns : goal.returns
returns c = lives_go_on
