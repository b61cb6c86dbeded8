use Rattle.std.proofs.Common.{List, ap, sym, ◌∙◌}
use Rattle.std.specs.Prelude.{find}
use Rattle.im_base_txn.specs.declared.transaction.Transaction.{Transaction}
use Rattle.im_base_txn.specs.Rows.{is_of}
use Rattle.im_engine.specs.Numbered.{Numbered}
use Rattle.im_engine.proofs.Numbers.{again_if}
use Rattle.im_engine.proofs.transactions.Transactions.end_return.Goals as goal

pub returns-then-not-is_back-clause-table : goal.returns-then-not-is_back-clause-table
returns-then-not-is_back-clause-table c =
    let old = c.args.self.now in
    let found = c.find.ensures ∙ ap (λ (x : Numbered). find (is_of c.args.number) x.rows) c.self.view_is in
    let again = again_if c.args.number old.rows c.law_are_counted.ensures.rising c.find.result found c.is_back.result c.is_back.ensures.some c.is_back.ensures.none in
    sym (ap (λ (rows : List Transaction). record old { rows = rows }) (again.1 c.if-not-is_back.true))

pub returns-clause-table : goal.returns-clause-table
returns-clause-table c =
    let old = c.args.self.now in
    let found = c.find.ensures ∙ ap (λ (x : Numbered). find (is_of c.args.number) x.rows) c.self.view_is in
    let again = again_if c.args.number old.rows c.law_are_counted.ensures.rising c.find.result found c.is_back.result c.is_back.ensures.some c.is_back.ensures.none in
    c.set_mark.ensures.table ∙ sym (ap (λ (rows : List Transaction). record old { rows = rows }) (again.0 c.if-not-is_back.false))
