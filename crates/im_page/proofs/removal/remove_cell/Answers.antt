use Rattle.im_page.proofs.RemoveLemmas.{as_removed, entries_removed, packed_removed}
use Rattle.im_page.proofs.removal.remove_cell.Goals as goal

pub returns-clause-entries : goal.returns-clause-entries
returns-clause-entries c =
    entries_removed _ _ _ _ _ _ _
    (as_removed c.args.leaf c.args.bytes.now c.move_cells.new.bytes c.drop_slot.new.bytes c.args.i c.get_u16-count.result c.get_u16-start.result c.get_u16-at.result 0 c.cell_len-size.result
    c.get_u16-count.ensures.value c.get_u16-start.ensures.value c.get_u16-at.ensures.value c.cell_len-size.ensures c.requires.packed c.requires.place c.move_cells.ensures c.drop_slot.ensures)

pub returns-clause-packed : goal.returns-clause-packed
returns-clause-packed c =
    packed_removed _ _ _ _ _ _ _
    (as_removed c.args.leaf c.args.bytes.now c.move_cells.new.bytes c.drop_slot.new.bytes c.args.i c.get_u16-count.result c.get_u16-start.result c.get_u16-at.result 0 c.cell_len-size.result
    c.get_u16-count.ensures.value c.get_u16-start.ensures.value c.get_u16-at.ensures.value c.cell_len-size.ensures c.requires.packed c.requires.place c.move_cells.ensures c.drop_slot.ensures)
