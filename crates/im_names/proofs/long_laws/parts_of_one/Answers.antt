use Rattle.std.proofs.Common.{length}
use Rattle.im_names.proofs.LongLemmas.{only_all, only_none}
use Rattle.im_names.proofs.PartLemmas.{room_some}
use Rattle.im_names.proofs.long_laws.parts_of_one.Goals as goal

pub returns-clause-whole : goal.returns-clause-whole
returns-clause-whole c front value there short is found = only_all front value there (room_some (length front) short) is found

pub returns-clause-nothing : goal.returns-clause-nothing
returns-clause-nothing c = only_none
