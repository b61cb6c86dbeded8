use Rattle.std.proofs.Common.{◌≡◌, List, length, nat_eq, sym, ap, subst, ◌∙◌, arith}
use Rattle.std.specs.HashMap.{get}
use Rattle.im_page_table.specs.declared.table_entry.TableEntry.{TableEntry}
use Rattle.im_page_table.specs.DirtyTable.{TableView, synced_among, AreApart, Finds}
use Rattle.im_page_table.proofs.Tables.{synced_apart, synced_fewer, syncs_entries}
use Rattle.im_page_table.proofs.dirty_table.DirtyTable.sync.Goals as goal

-- each page that stays comes once
apart : (xs new : List TableEntry) → AreApart xs → new ≡ synced_among xs → AreApart new
apart xs new up is = subst (λ (l : List TableEntry). AreApart l) (sym is) (synced_apart xs up)

pub note_places-requires-clause-apart : goal.note_places-requires-clause-apart
note_places-requires-clause-apart c = subst (λ (l : List TableEntry). AreApart l) (sym c.as_slice.ensures.value) (apart c.self.inside.entries.items _ c.self.invariant.0 c.keep_changed.ensures.items)

pub note_places-requires-clause-few : goal.note_places-requires-clause-few
note_places-requires-clause-few c =
    let fewer = synced_fewer c.self.inside.entries.items in
    let now = ap (λ (l : List TableEntry). length l) (c.as_slice.ensures.value ∙ c.keep_changed.ensures.items) in
    omega (arith, fewer, now, c.self.invariant)

pub note_places-requires-clause-room : goal.note_places-requires-clause-room
note_places-requires-clause-room c =
    let fewer = synced_fewer c.self.inside.entries.items in
    let now = ap (λ (l : List TableEntry). length l) (c.as_slice.ensures.value ∙ c.keep_changed.ensures.items) in
    omega (arith, fewer, now, c.self.invariant)

pub invariant_of-self : goal.invariant_of-self
invariant_of-self c =
    let xs = c.self.inside.entries.items in
    let i = c.self.invariant in
    let kept = c.keep_changed.ensures in
    let noted = c.note_places.ensures in
    let fewer = synced_fewer xs in
    let long = ap (λ (l : List TableEntry). length l) kept.items in
    let len = noted.len ∙ ap (λ (l : List TableEntry). length l) c.as_slice.ensures.value in (
      apart xs _ i.0 kept.items,
      subst (λ (l : List TableEntry). Finds (get nat_eq c.note_places.new.places) l) c.as_slice.ensures.value noted.found,
      omega (arith, long, fewer, i.2),
      omega (arith, i.3, kept.room),
      len,
      omega (arith, i.5, noted.room),
      i.6,
      i.7,
    )

pub returns-clause-entry : goal.returns-clause-entry
returns-clause-entry c = syncs_entries c.args.self.now _ (subst (λ (t : TableView). AreApart t.entries) c.self.view_is c.self.invariant.0)
    (ap (λ (l : List TableEntry). record c.args.self.now { entries = l }) (c.keep_changed.ensures.items ∙ ap (λ (t : TableView). synced_among t.entries) c.self.view_is))
