use Rattle.std.proofs.Common.{◌≡◌, List, length, nat_eq, map, sym, ap, subst, ◌∙◌, arith}
use Rattle.std.proofs.lemmas.List.{length-map}
use Rattle.std.specs.HashMap.{get}
use Rattle.im_page_table.specs.declared.table_entry.TableEntry.{TableEntry}
use Rattle.im_page_table.specs.DirtyTable.{TableView, entry_among, uncopied, AreApart, Finds}
use Rattle.im_page_table.proofs.Tables.{forgets_entries, forgotten_apart, place_forgotten}
use Rattle.im_page_table.proofs.dirty_table.DirtyTable.forget.Goals as goal

pub invariant_of-self : goal.invariant_of-self
invariant_of-self c =
    let xs = c.self.inside.entries.items in
    let i = c.self.invariant in
    let is = c.forget_copies.ensures.items in
    let long : length c.forget_copies.new.entries.items ≡ length xs = ap (λ (l : List TableEntry). length l) is ∙ length-map xs uncopied in (
      subst (λ (l : List TableEntry). AreApart l) (sym is) (forgotten_apart xs i.0),
      subst (λ (l : List TableEntry). Finds (get nat_eq c.self.inside.places) l) (sym is) (λ q. i.1 q ∙ sym (place_forgotten xs q)),
      omega (arith, long, i.2),
      omega (arith, i.3, c.forget_copies.ensures.room),
      i.4 ∙ sym long,
      i.5,
      i.6,
      i.7,
    )

pub returns-clause-entry : goal.returns-clause-entry
returns-clause-entry c p =
    ap (λ (l : List TableEntry). entry_among l p) (c.forget_copies.ensures.items ∙ ap (λ (t : TableView). map uncopied t.entries) c.self.view_is) ∙ forgets_entries c.args.self.now.entries p
