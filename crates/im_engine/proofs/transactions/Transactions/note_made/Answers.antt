use Rattle.std.proofs.Common.{List, ap, refl, ◌∙◌}
use Rattle.std.specs.Prelude.{find}
use Rattle.im_base_txn.specs.declared.transaction.Transaction.{Transaction}
use Rattle.im_base_txn.specs.Rows.{is_of}
use Rattle.im_theory_steps.specs.Steps.{with_made}
use Rattle.im_engine.specs.Numbered.{Numbered}
use Rattle.im_engine.proofs.Numbers.{set_changes}
use Rattle.im_engine.proofs.transactions.Transactions.note_made.Goals as goal

pub returns : goal.returns
returns c =
    let old = c.args.self.now in
    let found = ap (λ (x : Numbered). find (is_of c.args.number) x.rows) c.self.view_is in
    let lsn = c.args.lsn in
    let same = set_changes c.args.number lsn lsn c.count_made-changes.result (with_made lsn) (λ row. (with_made lsn row).changes) (λ row. refl) old.rows c.law_are_counted.ensures.rising c.find.result (c.find.ensures ∙ found) c.count_made-changes.ensures in
    record { table = c.note_change.ensures.table ∙ ap (λ (rows : List Transaction). record old { rows = rows }) same }
