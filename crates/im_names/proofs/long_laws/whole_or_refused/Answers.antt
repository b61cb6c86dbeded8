use Rattle.std.proofs.Common.{length}
use Rattle.im_names.proofs.LongLemmas.{one_of_both}
use Rattle.im_names.proofs.PartLemmas.{room_some}
use Rattle.im_names.proofs.long_laws.whole_or_refused.Goals as goal

pub returns : goal.returns
returns c front old new outs ins n short is = one_of_both front old new outs ins n (room_some (length front) short) is
