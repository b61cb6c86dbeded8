use Rattle.std.proofs.Common.{List, refl, sym, ap, subst, ◌∙◌, arith, length-set}
use Rattle.im_page_table.specs.declared.table_entry.TableEntry.{TableEntry}
use Rattle.im_page_table.specs.DirtyTable.{TableView, IsFound}
use Rattle.im_page_table.proofs.Tables.{apart_set, place_set}
use Rattle.im_page_table.proofs.dirty_table.DirtyTable.set.Goals as goal

pub invariant_of-self : goal.invariant_of-self
invariant_of-self c =
    let xs = c.self.inside.entries.items in
    let i = c.self.invariant in
    let v = ap (λ (t : TableView). t.entries) c.self.view_is in
    let found : IsFound xs c.args.entry.page c.args.at = subst (λ (l : List TableEntry). IsFound l c.args.entry.page c.args.at) (sym v) c.requires in
    let long = length-set xs c.args.at c.args.entry in (
      apart_set xs c.args.at c.args.entry.page c.args.entry i.0 found refl,
      λ q. i.1 q ∙ sym (place_set xs c.args.at c.args.entry.page c.args.entry found refl q),
      omega (arith, long, i.2),
      i.3,
      i.4 ∙ sym long,
      i.5,
      i.6,
      i.7,
    )
