use Rattle.im_page.proofs.InsertLemmas.{as_inserted, entries_inserted, packed_inserted}
use Rattle.im_page.proofs.insertion.insert_cell.Goals as goal

pub returns-clause-entries : goal.returns-clause-entries
returns-clause-entries c =
    entries_inserted _ _ _ _ _ _ _
    (as_inserted c.args.leaf c.args.bytes.now c.put_cell.new.bytes c.open_slot.new.bytes c.args.i c.get_u16-count.result c.get_u16.result c.cell_len.result c.args.key.now c.args.value
    c.get_u16-count.ensures.value c.get_u16.ensures.value c.cell_len.ensures c.requires.packed c.requires.place.within c.requires.keyed c.requires.room
    c.put_cell.ensures.size c.put_cell.ensures.entry c.put_cell.ensures.rest c.open_slot.ensures)

pub returns-clause-packed : goal.returns-clause-packed
returns-clause-packed c =
    packed_inserted _ _ _ _ _ _ _
    (as_inserted c.args.leaf c.args.bytes.now c.put_cell.new.bytes c.open_slot.new.bytes c.args.i c.get_u16-count.result c.get_u16.result c.cell_len.result c.args.key.now c.args.value
    c.get_u16-count.ensures.value c.get_u16.ensures.value c.cell_len.ensures c.requires.packed c.requires.place.within c.requires.keyed c.requires.room
    c.put_cell.ensures.size c.put_cell.ensures.entry c.put_cell.ensures.rest c.open_slot.ensures)
    c.requires.place
