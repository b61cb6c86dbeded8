use Rattle.std.proofs.Common.{◌≡◌, None, Some, List, sym, ap, subst, ◌∙◌}
use Rattle.im_page_table.specs.declared.table_entry.TableEntry.{TableEntry}
use Rattle.im_page_table.specs.DirtyTable.{TableView, entry_among, place_among, IsFound}
use Rattle.im_page_table.proofs.Tables.{place_found, place_none}
use Rattle.im_page_table.proofs.dirty_table.DirtyTable.search.Goals as goal

pub returns-in-Some-clause-found : goal.returns-in-Some-clause-found
returns-in-Some-clause-found c =
    let v = ap (λ (t : TableView). t.entries) c.self.view_is in
    let there : place_among c.args.page c.self.inside.entries.items ≡ Some c.in-Some.place = sym (c.self.invariant.1 c.args.page) ∙ sym c.get.ensures.value ∙ sym c.in-Some.ensures in
    subst (λ (l : List TableEntry). IsFound l c.args.page c.in-Some.place) v (place_found c.self.inside.entries.items c.args.page c.in-Some.place there)

pub returns-in-None-clause-absent : goal.returns-in-None-clause-absent
returns-in-None-clause-absent c _ =
    let v = ap (λ (t : TableView). t.entries) c.self.view_is in
    let none : place_among c.args.page c.self.inside.entries.items ≡ None = sym (c.self.invariant.1 c.args.page) ∙ sym c.get.ensures.value ∙ sym c.in-None.ensures in
    ap (λ (l : List TableEntry). entry_among l c.args.page) (sym v) ∙ place_none c.self.inside.entries.items c.args.page none
