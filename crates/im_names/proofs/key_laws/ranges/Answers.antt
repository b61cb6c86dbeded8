use Rattle.im_names.proofs.KeyLemmas.{begins_in, guard_above, in_begins, of_one_value, part_in}
use Rattle.im_names.proofs.key_laws.ranges.Goals as goal

pub returns-clause-has : goal.returns-clause-has
returns-clause-has c = begins_in

pub returns-clause-only : goal.returns-clause-only
returns-clause-only c = in_begins

pub returns-clause-guard : goal.returns-clause-guard
returns-clause-guard c = guard_above

pub returns-clause-parts : goal.returns-clause-parts
returns-clause-parts c = part_in

pub returns-clause-one_value : goal.returns-clause-one_value
returns-clause-one_value c = of_one_value
