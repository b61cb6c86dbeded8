use Rattle.im_base_types.proofs.Changes.{apply_all_seen}
use Rattle.im_theory_log.proofs.seen_effects.seen_effects_agree.Goals as goal

pub returns : goal.returns
returns c = apply_all_seen
