use Rattle.std.proofs.Common.{rules, ◌≡◌, sym, subst, take, arith, List, None}
use Rattle.std.proofs.lemmas.Grind.{common_steps}
use Rattle.im_base_types.specs.declared.tables.ActiveTransaction.{ActiveTransaction}
use Rattle.im_log_record.specs.Spelling.{Rise}
use Rattle.im_engine_checkpoint.specs.Rows.{listed}
use Rattle.im_engine_checkpoint.proofs.RowLists.{rise_listed}
use Rattle.im_engine_checkpoint.proofs.rows.rows_of.Goals as goal

pub returns-clause-rising : goal.returns-clause-rising
returns-clause-rising c =
    let is : take c.loop-row.count c.loop-row.rows ≡ listed c.rows-row-items.result.now = first_of (search rules, grind (arith, common_steps)) in
    subst (λ (l : List ActiveTransaction). Rise (λ (a : ActiveTransaction). a.transaction) None l) (sym is) (rise_listed c.rows-row-items.result.now c.rows-row-items.ensures.rising)
