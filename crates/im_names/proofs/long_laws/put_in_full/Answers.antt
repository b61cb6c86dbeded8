use Rattle.im_names.specs.LongValues.{parts_or_none}
use Rattle.im_names.proofs.LongLemmas.{rising_or_none}
use Rattle.im_names.proofs.SomeOf.{plain, plain_ends}
use Rattle.im_names.proofs.long_laws.put_in_full.Goals as goal

pub returns-clause-replaces : goal.returns-clause-replaces
returns-clause-replaces c front old new = plain (parts_or_none front old) (parts_or_none front new) (rising_or_none front old)

pub returns-clause-ends : goal.returns-clause-ends
returns-clause-ends c front old new = plain_ends (parts_or_none front old) (parts_or_none front new) (rising_or_none front old) (rising_or_none front new)
