use Rattle.std.proofs.Common.{◌≡◌, ◌<◌, ◌+◌, ◌∷◌, [], ℕ, IsOk, List, None, Some, nat_eq, length, vec_len, ap, subst, sym, ◌∙◌, rules, arith, length-append}
use Rattle.std.specs.Prelude.{if◌then◌else◌}
use Rattle.std.specs.HashMap.{get, hash_map_len}
use Rattle.im_page_table.specs.declared.table_entry.TableEntry.{TableEntry}
use Rattle.im_page_table.specs.DirtyTable.{TableView, entry_among, AreApart, Finds}
use Rattle.im_page_table.proofs.Tables.{apart_push, finds_push, none_place}
use Rattle.im_page_table.proofs.Places.{grown, on_gives}
use Rattle.im_page_table.proofs.dirty_table.DirtyTable.add.Goals as goal

pub invariant_of-self : goal.invariant_of-self
invariant_of-self c =
    let xs = c.self.inside.entries.items in
    let y = c.args.entry in
    let old = c.self.inside.places in
    let new = c.insert.new.self in
    let i = c.self.invariant in
    let v : xs ≡ c.args.self.now.entries = ap (λ (t : TableView). t.entries) c.self.view_is in
    let size : c.self.inside.most ≡ c.args.self.now.most = ap (λ (t : TableView). t.most) c.self.view_is in
    let long : length xs ≡ length c.args.self.now.entries = ap (λ (l : List TableEntry). length l) v in
    let absent : entry_among xs y.page ≡ None = ap (λ (l : List TableEntry). entry_among l y.page) v ∙ c.requires.absent in
    let len : vec_len c.self.inside.entries ≡ length xs = search rules in
    let room : length xs < c.self.inside.most = omega (arith, long, size, c.requires.room) in
    let place : c.len-place.result ≡ length xs = c.len-place.ensures ∙ len in
    let ok : IsOk c.insert.result = c.insert.ensures.succeeds (omega (arith, i, room)) in
    let set = (on_gives c.insert.result ok c.insert.ensures.updates).0 in
    let longer : length c.push_reserved.new.self.items ≡ length xs + 1 = ap (λ (l : List TableEntry). length l) c.push_reserved.ensures.items ∙ length-append xs (y ∷ []) in
    let more = grown c.insert.result (hash_map_len old) (hash_map_len new) (get nat_eq old y.page) ok (i.1 y.page ∙ none_place xs y.page absent) c.insert.ensures.old c.insert.ensures.len in (
      subst (λ (l : List TableEntry). AreApart l) (sym c.push_reserved.ensures.items) (apart_push xs y i.0 absent),
      subst (λ (l : List TableEntry). Finds (get nat_eq new) l) (sym c.push_reserved.ensures.items)
          (finds_push (get nat_eq old) (get nat_eq new) xs y i.1 absent (λ q. set q ∙ ap (λ (n : ℕ). if nat_eq y.page q then Some n else get nat_eq old q) place)),
      omega (arith, longer, long, room),
      omega (arith, i.3, c.push_reserved.ensures.capacity),
      omega (arith, more, i.4, longer),
      omega (arith, i.5, more, c.insert.ensures.spare),
      i.6,
      i.7,
    )
