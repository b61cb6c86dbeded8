use Rattle.std.proofs.Common.{length}
use Rattle.im_names.proofs.LongLemmas.{value_again, whole}
use Rattle.im_names.proofs.PartLemmas.{room_some}
use Rattle.im_names.proofs.long_laws.values_read_back.Goals as goal

pub returns-clause-whole : goal.returns-clause-whole
returns-clause-whole c front value short = whole front value (room_some (length front) short)

pub returns-clause-value : goal.returns-clause-value
returns-clause-value c front value short = value_again front value (room_some (length front) short)
