use Rattle.std.proofs.Common.{◌<◌, arith}
use Rattle.im_theory_page.specs.Form.{count_of, slot_at}
use Rattle.im_theory_page.proofs.EntryLemmas.{length-entries_of}
use Rattle.im_theory_page.proofs.ContentLemmas.{key_length}
use Rattle.im_page.proofs.cells.law_keys_are_short.Goals as goal

pub returns : goal.returns
returns c =
    λ i lt.
    let within : i < count_of c.args.bytes.now = omega (arith, length-entries_of c.args.leaf c.args.bytes.now) in
    let byte = c.type_inv.bytes (slot_at c.args.bytes.now i) in
    omega (arith, byte, key_length c.args.leaf c.args.bytes.now i c.requires within)
