use Rattle.std.proofs.Common.{rules, refl, ◌<◌, length, get_or, sym, ◌∙◌, ap, arith}
use Rattle.std.proofs.lemmas.Grind.{common_steps}
use Rattle.im_base_txn.specs.Rows.{begun, changed, with_changes}
use Rattle.im_base_txn.proofs.LookUps.{table_changed}
use Rattle.im_base_txn.proofs.RowLemmas.{map_step, changed_here, changed_other}
use Rattle.im_base_txn.proofs.table.Table.note_change.Goals as goal
use Rattle.im_base_txn.proofs.table.Table.note_change.Goals.{then-row-number, else-row-number}

pub loop-row-preserved : goal.loop-row-preserved
loop-row-preserved c =
    let change = with_changes c.args.lsn c.args.undo_next c.args.changes in
    let rows = c.args.self.now in
    let row = get_or c.loop-row.row-items c.loop-row.row-index (begun 0) in
    let within : c.loop-row.row-index < length rows = omega (arith, c.loop-row-test.true, ap length c.as_mut_slice-row-items.ensures.value, ap length c.self.view_is) in
    elim c.if-row-number.branch [
      | then-row-number w ↦
          w.row-items-is
          ∙ map_step (changed c.args.number change) rows c.loop-row.row-items c.loop-row.row-index _ (begun 0) c.loop-row.invariant within (sym (changed_here c.args.number change row w.if-row-number.true))
      | else-row-number w ↦
          w.row-items-is
          ∙ map_step (changed c.args.number change) rows c.loop-row.row-items c.loop-row.row-index _ (begun 0) c.loop-row.invariant within (sym (changed_other c.args.number change row w.if-row-number.false))
    ]

pub invariant_of-self : goal.invariant_of-self
invariant_of-self c = table_changed c.args.number (with_changes c.args.lsn c.args.undo_next c.args.changes) (λ row. refl) _ c.args.self.now c.self.inside.rows.items (first_of (search rules, grind (arith, common_steps))) c.self.view_is c.self.invariant
