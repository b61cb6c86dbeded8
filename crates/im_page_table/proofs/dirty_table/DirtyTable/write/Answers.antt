use Rattle.std.proofs.Common.{◌≡◌, ◌<◌, List, length, get_or, refl, ap, subst, sym, ◌∙◌, rules, arith}
use Rattle.im_theory_log.specs.WriterSteps.{written_entry}
use Rattle.im_page_table.specs.declared.table_entry.TableEntry.{TableEntry}
use Rattle.im_page_table.specs.DirtyTable.{TableView}
use Rattle.im_page_table.proofs.Tables.{changes_entry, found_made, put_set, put_absent, found_entry, room_found, room_free, room_none, written_with, written_not}
use Rattle.im_page_table.proofs.dirty_table.DirtyTable.write.Goals as goal

-- ---- where the page has its entry

pub set-requires : goal.set-requires
set-requires c =
    let t = c.args.self.now in
    let v : c.self.inside.entries.items ≡ t.entries = ap (λ (x : TableView). x.entries) c.self.view_is in
    let at = subst (λ (l : List TableEntry). c.index-entry.result.now ≡ get_or l c.in-Some.at c.index-entry.result.now) v c.index-entry.ensures in
    found_made t.entries c.in-Some.at c.args.page c.index-entry.result.now c.written.result c.in-Some.ensures.found at (ap (λ (y : TableEntry). y.page) c.written.ensures)

pub returns-in-Some-clause-entered : goal.returns-in-Some-clause-entered
returns-in-Some-clause-entered c = sym (room_found c.args.self.now c.args.page _ (found_entry c.args.self.now.entries c.in-Some.at c.args.page c.index-entry.result.now c.in-Some.ensures.found))

pub returns-in-Some-clause-table : goal.returns-in-Some-clause-table
returns-in-Some-clause-table c =
    let t = c.args.self.now in
    let v : c.self.inside.entries.items ≡ t.entries = ap (λ (x : TableView). x.entries) c.self.view_is in
    let at = subst (λ (l : List TableEntry). c.index-entry.result.now ≡ get_or l c.in-Some.at c.index-entry.result.now) v c.index-entry.ensures in
    written_with c.args.lsn c.args.page t _ (sym (returns-in-Some-clause-entered c))
    (c.set.ensures ∙ ap (λ (l : List TableEntry). record t { entries = l })
    (put_set (written_entry c.args.lsn) t.entries c.in-Some.at c.args.page c.index-entry.result.now c.written.result c.in-Some.ensures.found at c.written.ensures))

pub returns-in-Some-clause-entry : goal.returns-in-Some-clause-entry
returns-in-Some-clause-entry c entered =
    let t = c.args.self.now in
    let v : c.self.inside.entries.items ≡ t.entries = ap (λ (x : TableView). x.entries) c.self.view_is in
    let at = subst (λ (l : List TableEntry). c.index-entry.result.now ≡ get_or l c.in-Some.at c.index-entry.result.now) v c.index-entry.ensures in
    changes_entry (written_entry c.args.lsn) c.args.page t _
    (c.set.ensures ∙ ap (λ (l : List TableEntry). record t { entries = l })
    (put_set (written_entry c.args.lsn) t.entries c.in-Some.at c.args.page c.index-entry.result.now c.written.result c.in-Some.ensures.found at c.written.ensures))

-- ---- where it has none, and there is no room

pub returns-then-is_full-clause-entered : goal.returns-then-is_full-clause-entered
returns-then-is_full-clause-entered c = sym (room_none c.args.self.now c.args.page (c.in-None.ensures.absent refl) (c.is_full.ensures.full.0 c.if-is_full.true))

pub returns-then-is_full-clause-table : goal.returns-then-is_full-clause-table
returns-then-is_full-clause-table c = written_not c.args.lsn c.args.page c.args.self.now (sym (returns-then-is_full-clause-entered c))

-- ---- where it comes in

pub returns-else-is_full-clause-table : goal.returns-else-is_full-clause-table
returns-else-is_full-clause-table c =
    let t = c.args.self.now in
    let absent = c.in-None.ensures.absent refl in
    let room : length t.entries < t.most = search (rules, arith) in
    written_with c.args.lsn c.args.page t _ (room_free t c.args.page absent room)
    (c.add.ensures ∙ ap (λ (l : List TableEntry). record t { entries = l }) (sym (put_absent (written_entry c.args.lsn) t.entries c.args.page absent)))

pub returns-else-is_full-clause-entry : goal.returns-else-is_full-clause-entry
returns-else-is_full-clause-entry c entered =
    let t = c.args.self.now in
    changes_entry (written_entry c.args.lsn) c.args.page t _
    (c.add.ensures ∙ ap (λ (l : List TableEntry). record t { entries = l }) (sym (put_absent (written_entry c.args.lsn) t.entries c.args.page (c.in-None.ensures.absent refl))))
