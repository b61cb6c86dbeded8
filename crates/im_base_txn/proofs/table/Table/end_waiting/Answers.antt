use Rattle.std.proofs.Common.{rules, ◌≡◌, ◌<◌, ◌++◌, length, filter, take, drop, get_or, true, not, sym, ◌∙◌, ap, arith}
use Rattle.std.proofs.lemmas.Grind.{common_steps}
use Rattle.im_base_txn.specs.Rows.{begun, is_waiting}
use Rattle.im_base_txn.proofs.LookUps.{table_part}
use Rattle.im_base_txn.proofs.RowLemmas.{removed}
use Rattle.im_base_txn.proofs.table.Table.end_waiting.Goals as goal

pub loop-i-preserved-then-is_committing : goal.loop-i-preserved-then-is_committing
loop-i-preserved-then-is_committing c =
    let items = c.loop-i.self-inside.rows.items in
    let i = c.loop-i.i in
    let within : i < length items = omega (arith, c.loop-i-test.true, c.len.ensures.value) in
    let is : is_waiting (get_or items i (begun 0)) ≡ true = ap (λ l. is_waiting (get_or l i (begun 0))) (sym c.as_slice.ensures.value) ∙ sym c.is_committing.ensures ∙ c.if-is_committing.true in
    record {
      within = omega (arith, c.remove.ensures.len, within);
      same =
          ap (λ l. take i l ++ filter (λ row. not (is_waiting row)) (drop i l)) c.remove.ensures.items
          ∙ removed (λ row. not (is_waiting row)) items i (begun 0) within (ap not is)
          ∙ c.loop-i.invariant.same;
    }

pub invariant_of-self : goal.invariant_of-self
invariant_of-self c = table_part (λ row. not (is_waiting row)) c.loop-i.self-inside.rows.items c.args.self.now c.self.inside.rows.items (first_of (search rules, grind (arith, common_steps))) c.self.view_is c.self.invariant
