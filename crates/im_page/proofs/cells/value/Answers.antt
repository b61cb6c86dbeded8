use Rattle.std.proofs.Common.{rules}
use Rattle.im_theory_page.specs.Form.{entry_from}
use Rattle.im_page.proofs.cells.value.Goals as goal

pub returns-then-leaf : goal.returns-then-leaf
unfolding entry_from
returns-then-leaf c = search rules

pub returns-else-leaf : goal.returns-else-leaf
unfolding entry_from
returns-else-leaf c = search rules
