use Rattle.std.proofs.Common.{◌≡◌, ◌≤◌, List, [], None, length, take, sym, ap, subst, ◌∙◌, arith, take_all}
use Rattle.im_base_types.specs.declared.tables.DirtyPage.{DirtyPage}
use Rattle.im_log_record.specs.Spelling.{Rise}
use Rattle.im_theory_log.specs.WriterSteps.{Lists}
use Rattle.im_page_table.specs.declared.table_entry.TableEntry.{TableEntry}
use Rattle.im_page_table.specs.DirtyTable.{TableView, AreApart, with_rows}
use Rattle.im_page_table.proofs.Tables.{apart_take}
use Rattle.im_page_table.proofs.Lists.{lists, rows_rise}
use Rattle.im_page_table.proofs.dirty_table.DirtyTable.copy_rows.Goals as goal

pub returns-clause-rows : goal.returns-clause-rows
returns-clause-rows c few =
    let xs = c.args.self.now.entries in
    let v : c.deref.result.now ≡ xs = c.deref.ensures.value ∙ ap (λ (t : TableView). t.entries) c.self.view_is in
    let len : length c.deref.result.now ≡ length xs = ap (λ (l : List TableEntry). length l) v in
    let short : length xs ≤ 1024 = few in
    let all : length c.deref.result.now ≤ c.min-count.result = omega (arith, len, short, c.min-count.ensures, c.len.ensures, c.deref.ensures.len) in
    c.make_rows.ensures.rows ∙ ap (λ (l : List TableEntry). with_rows [] l) (take_all c.min-count.result c.deref.result.now all ∙ v)

pub returns-clause-lists : goal.returns-clause-lists
returns-clause-lists c few pages tie =
    subst (λ (rows : List DirtyPage). Lists pages rows) (sym (returns-clause-rows c few)) (lists pages c.args.self.now (subst (λ (t : TableView). AreApart t.entries) c.self.view_is c.self.invariant.0) tie)

pub returns-clause-rise : goal.returns-clause-rise
returns-clause-rise c =
    let xs = c.self.inside.entries.items in
    let front : TableView = record { entries = take c.min-count.result xs; most = 0 } in
    subst (λ (rows : List DirtyPage). Rise (λ r. r.page) None rows) (sym (c.make_rows.ensures.rows ∙ ap (λ (l : List TableEntry). with_rows [] (take c.min-count.result l)) c.deref.ensures.value))
    (rows_rise front (apart_take c.min-count.result xs c.self.invariant.0))
