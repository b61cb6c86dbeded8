use Rattle.std.proofs.Common.{List, ◌-◌, ap, refl, ◌∙◌}
use Rattle.std.specs.Prelude.{find}
use Rattle.im_base_txn.specs.declared.transaction.Transaction.{Transaction}
use Rattle.im_base_txn.specs.Rows.{is_of}
use Rattle.im_theory_steps.specs.Steps.{with_undone}
use Rattle.im_engine.specs.Numbered.{Numbered}
use Rattle.im_engine.proofs.Numbers.{set_changes}
use Rattle.im_engine.proofs.transactions.Transactions.note_undone.Goals as goal

pub returns : goal.returns
returns c =
    let old = c.args.self.now in
    let found = ap (λ (x : Numbered). find (is_of c.args.number) x.rows) c.self.view_is in
    let same = set_changes c.args.number c.args.last c.args.undo_next c.count_undone-changes.result (with_undone c.args.last c.args.undo_next) (λ row. row.changes - 1) (λ row. refl) old.rows c.law_are_counted.ensures.rising c.find.result (c.find.ensures ∙ found) c.count_undone-changes.ensures in
    record { table = c.note_change.ensures.table ∙ ap (λ (rows : List Transaction). record old { rows = rows }) same }
