use Rattle.im_theory_steps.proofs.Keeping.{images_keep}
use Rattle.im_theory_steps.proofs.step_laws.images_keep_serving.Goals as goal

pub returns : goal.returns
returns c = images_keep
