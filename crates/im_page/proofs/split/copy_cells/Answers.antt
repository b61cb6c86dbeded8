use Rattle.std.proofs.Common.{◌≡◌, ℕ, ◌-◌, ◌<◌, List, length, slice_range, insert, sym, ap, ◌∙◌, arith}
use Rattle.im_base_types.specs.Pages.{Entry}
use Rattle.im_theory_page.specs.Entry.{entry_at}
use Rattle.im_theory_page.specs.Form.{slot_at, entry_from, entries_of}
use Rattle.im_theory_page.proofs.EntryLemmas.{length-entries_of, entry_at-entries_of}
use Rattle.im_theory_page.proofs.SplitLemmas.{next_place, next_room, range_more, same_pair}
use Rattle.im_page.proofs.split.copy_cells.Goals as goal

pub insert_cell-requires-clause-place : goal.insert_cell-requires-clause-place
insert_cell-requires-clause-place c =
    rw c.key.ensures.key (next_place c.args.leaf c.loop-j.bytes c.args.from.now c.args.low c.loop-j.j c.requires.packed (omega arith) (omega arith) c.loop-j.invariant.entries)

pub insert_cell-requires-clause-room : goal.insert_cell-requires-clause-room
insert_cell-requires-clause-room c =
    next_room c.args.leaf c.loop-j.bytes c.args.from.now c.key.result.now c.args.low c.loop-j.j c.loop-j.invariant.packed c.requires.packed (omega arith) (omega arith) c.key.ensures.key
    c.loop-j.invariant.entries

pub loop-j-preserved : goal.loop-j-preserved
unfolding entry_from
loop-j-preserved c =
    let es : List Entry = entries_of c.args.leaf c.args.from.now in
    let j : ℕ = c.loop-j.j in
    let within : j < length es = omega (arith, length-entries_of c.args.leaf c.args.from.now) in
    let entry : (c.key.result.now, c.value.result) ≡ entry_at es j = same_pair (entry_from c.args.leaf c.args.from.now (slot_at c.args.from.now j)) c.key.ensures.key c.value.ensures.value
    ∙ sym (entry_at-entries_of c.args.leaf c.args.from.now j (omega arith)) in
    record {
      packed = c.insert_cell.ensures.packed;
      entries = c.insert_cell.ensures.entries ∙ ap (λ xs. insert xs (j - c.args.low) (c.key.result.now, c.value.result)) c.loop-j.invariant.entries
          ∙ ap (insert (slice_range es c.args.low j) (j - c.args.low)) entry ∙ range_more es c.args.low j (omega arith) within;
      head = λ k lt. c.insert_cell.ensures.head k lt ∙ c.loop-j.invariant.head k lt;
      links = λ k a b. c.insert_cell.ensures.links k a b ∙ c.loop-j.invariant.links k a b;
    }
