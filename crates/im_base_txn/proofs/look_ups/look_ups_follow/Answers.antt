use Rattle.im_base_txn.proofs.LookUps as lemmas
use Rattle.im_base_txn.proofs.look_ups.look_ups_follow.Goals as goal

pub returns : goal.returns
returns c = lemmas.look_ups_follow
