use Rattle.std.proofs.Common.{Bool, map, ap, sym, ◌∙◌}
use Rattle.im_base_txn.specs.Rows.{changed}
use Rattle.im_engine.specs.Numbered.{Numbered, with_back}
use Rattle.im_engine.proofs.transactions.Transactions.note_back.Goals as goal

pub returns-then-splits : goal.returns-then-splits
returns-then-splits c =
    let old = c.args.self.now in
    let noted : Bool → Numbered = λ splits. record old { rows = map (changed c.args.number (with_back splits c.args.last c.args.undo_next)) old.rows } in
    record { table = c.note_undone.ensures.table ∙ ap noted (sym c.if-splits.true) }

pub returns-else-splits : goal.returns-else-splits
returns-else-splits c =
    let old = c.args.self.now in
    let noted : Bool → Numbered = λ splits. record old { rows = map (changed c.args.number (with_back splits c.args.last c.args.undo_next)) old.rows } in
    record { table = c.note_record.ensures.table ∙ ap noted (sym c.if-splits.false) }
