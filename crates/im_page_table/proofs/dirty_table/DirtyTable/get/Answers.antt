use Rattle.std.proofs.Common.{◌≡◌, List, get_or, Some, ap, subst, sym, refl, ◌∙◌}
use Rattle.im_page_table.specs.declared.table_entry.TableEntry.{TableEntry}
use Rattle.im_page_table.specs.DirtyTable.{TableView, dirty_entry}
use Rattle.im_page_table.proofs.Tables.{found_entry}
use Rattle.im_page_table.proofs.dirty_table.DirtyTable.get.Goals as goal

pub returns-in-Some-clause-some : goal.returns-in-Some-clause-some
returns-in-Some-clause-some c =
    let t = c.args.self.now in
    let v : c.self.inside.entries.items ≡ t.entries = ap (λ (x : TableView). x.entries) c.self.view_is in
    let at = subst (λ (l : List TableEntry). c.index.result.now ≡ get_or l c.in-Some.at c.index.result.now) v c.index.ensures in
    found_entry t.entries c.in-Some.at c.args.page c.index.result.now c.in-Some.ensures.found ∙ ap (λ (y : TableEntry). Some (dirty_entry y)) (sym at)

pub returns-in-None-clause-none : goal.returns-in-None-clause-none
returns-in-None-clause-none c _ = c.in-None.ensures.absent refl
