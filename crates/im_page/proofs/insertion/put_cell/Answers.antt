use Rattle.std.proofs.Common.{◌+◌, arith, length}
use Rattle.im_theory_page.specs.Entry.{width}
use Rattle.im_page.proofs.CellLemmas.{written_entry}
use Rattle.im_page.proofs.insertion.put_cell.Goals as goal

pub returns-clause-entry : goal.returns-clause-entry
returns-clause-entry c =
    written_entry c.args.leaf c.put_key.new.bytes c.put_value.new.bytes c.args.at (c.args.at + 1 + length c.args.key.now + width c.args.leaf) c.args.key.now c.args.value
    c.put_key.ensures.size c.put_key.ensures.key (omega (arith, c.put_key.ensures.rest.len)) c.put_value.ensures.rest c.put_value.ensures.value
