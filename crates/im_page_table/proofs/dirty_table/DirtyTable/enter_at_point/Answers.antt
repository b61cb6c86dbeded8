use Rattle.std.proofs.Common.{◌≡◌, Bool, List, [], ◌∷◌, ◌++◌, get_or, refl, ap, subst, sym, ◌∙◌}
use Rattle.std.specs.Prelude.{◌||◌}
use Rattle.im_theory_log.specs.WriterSteps.{at_point, is_copied}
use Rattle.im_page_table.specs.declared.table_entry.TableEntry.{TableEntry}
use Rattle.im_page_table.specs.DirtyTable.{TableView, table_entry}
use Rattle.im_page_table.proofs.Tables.{changes_entry, or_none, found_made, put_set, put_absent}
use Rattle.im_page_table.proofs.dirty_table.DirtyTable.enter_at_point.Goals as goal

pub set-requires : goal.set-requires
set-requires c =
    let t = c.args.self.now in
    let v : c.self.inside.entries.items ≡ t.entries = ap (λ (x : TableView). x.entries) c.self.view_is in
    let at = subst (λ (l : List TableEntry). c.index-entry.result.now ≡ get_or l c.in-Some.at c.index-entry.result.now) v c.index-entry.ensures in
    found_made t.entries c.in-Some.at c.args.page c.index-entry.result.now c.entered_at.result c.in-Some.ensures.found at (ap (λ (y : TableEntry). y.page) c.entered_at.ensures)

pub returns-in-Some-clause-table : goal.returns-in-Some-clause-table
returns-in-Some-clause-table c =
    let t = c.args.self.now in
    let v : c.self.inside.entries.items ≡ t.entries = ap (λ (x : TableView). x.entries) c.self.view_is in
    let at = subst (λ (l : List TableEntry). c.index-entry.result.now ≡ get_or l c.in-Some.at c.index-entry.result.now) v c.index-entry.ensures in
    c.set.ensures ∙ ap (λ (l : List TableEntry). record t { entries = l })
    (put_set (λ o. at_point (c.args.copied || is_copied o) c.args.point) t.entries c.in-Some.at c.args.page c.index-entry.result.now c.entered_at.result c.in-Some.ensures.found at c.entered_at.ensures)

pub returns-in-None-clause-table : goal.returns-in-None-clause-table
returns-in-None-clause-table c =
    let t = c.args.self.now in
    c.add.ensures ∙ ap (λ (k : Bool). record t { entries = t.entries ++ table_entry c.args.page (at_point k c.args.point) ∷ [] }) (sym (or_none c.args.copied))
    ∙ ap (λ (l : List TableEntry). record t { entries = l }) (sym (put_absent (λ o. at_point (c.args.copied || is_copied o) c.args.point) t.entries c.args.page (c.in-None.ensures.absent refl)))

pub returns-in-Some-clause-entry : goal.returns-in-Some-clause-entry
returns-in-Some-clause-entry c = changes_entry (λ o. at_point (c.args.copied || is_copied o) c.args.point) c.args.page c.args.self.now _ (returns-in-Some-clause-table c)

pub returns-in-None-clause-entry : goal.returns-in-None-clause-entry
returns-in-None-clause-entry c = changes_entry (λ o. at_point (c.args.copied || is_copied o) c.args.point) c.args.page c.args.self.now _ (returns-in-None-clause-table c)
