use Rattle.std.proofs.Common.{rules, ◌<◌, ◌++◌, length, filter, take, drop, get_or, not, sym, ◌∙◌, ap, arith}
use Rattle.std.proofs.lemmas.Grind.{common_steps}
use Rattle.im_base_txn.specs.Rows.{begun, is_of}
use Rattle.im_base_txn.proofs.LookUps.{table_left, one_left}
use Rattle.im_base_txn.proofs.RowLemmas.{removed, not_kept}
use Rattle.im_base_txn.proofs.table.Table.end.Goals as goal

pub loop-at-preserved-then-as_slice-at : goal.loop-at-preserved-then-as_slice-at
loop-at-preserved-then-as_slice-at c =
    let items = c.loop-at.self-inside.rows.items in
    let at = c.loop-at.at in
    let within : at < length items = omega (arith, c.loop-at-test.true, c.len.ensures.value) in
    let is = ap (λ l. (get_or l at (begun 0)).number) (sym c.as_slice.ensures.value) ∙ c.if-as_slice-at.true in
    record {
      within = omega (arith, c.remove.ensures.len, within);
      same =
          ap (λ l. take at l ++ filter (λ row. not (is_of c.args.number row)) (drop at l)) c.remove.ensures.items
          ∙ removed (λ row. not (is_of c.args.number row)) items at (begun 0) within (not_kept c.args.number (get_or items at (begun 0)) is)
          ∙ c.loop-at.invariant.same;
    }

pub invariant_of-self : goal.invariant_of-self
invariant_of-self c = table_left c.args.number c.loop-at.self-inside.rows.items c.args.self.now c.self.inside.rows.items (first_of (search rules, grind (arith, common_steps))) c.self.view_is c.self.invariant

pub returns-clause-one : goal.returns-clause-one
returns-clause-one c = one_left c.args.number c.loop-at.self-inside.rows.items c.args.self.now c.self.inside.rows.items (first_of (search rules, grind (arith, common_steps))) c.self.view_is c.self.invariant
