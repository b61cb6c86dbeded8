use Rattle.std.proofs.Common.{◌≤◌, List, length, sym, ap, ◌∙◌, rules, arith}
use Rattle.std.proofs.lemmas.List.{drop_all}
use Rattle.im_page_table.specs.declared.table_entry.TableEntry.{TableEntry}
use Rattle.im_page_table.specs.DirtyTable.{with_written}
use Rattle.im_page_table.proofs.Tables.{synced_left}
use Rattle.im_page_table.proofs.dirty_table.DirtyTable.written_count.Goals as goal

pub returns-clause-count : goal.returns-clause-count
returns-clause-count c =
    let xs = c.args.self.now.entries in
    let all : length xs ≤ c.loop-at.at = search (rules, arith) in
    sym (c.loop-at.invariant.left ∙ ap (λ (l : List TableEntry). with_written c.loop-at.count l) (drop_all c.loop-at.at xs all))

pub returns-clause-left : goal.returns-clause-left
returns-clause-left c = omega (arith, returns-clause-count c, synced_left 0 c.args.self.now.entries)
