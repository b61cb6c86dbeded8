use Rattle.im_theory_steps.proofs.Promises.{granted_keys_free}
use Rattle.im_theory_steps.proofs.growth_laws.granted_keys_are_free.Goals as goal

pub returns : goal.returns
returns c = granted_keys_free
