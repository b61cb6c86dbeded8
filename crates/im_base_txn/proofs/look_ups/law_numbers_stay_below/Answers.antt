use Rattle.im_base_txn.proofs.LookUps as lemmas
use Rattle.im_base_txn.proofs.look_ups.law_numbers_stay_below.Goals as goal

pub returns : goal.returns
returns c = lemmas.numbers_stay_below
