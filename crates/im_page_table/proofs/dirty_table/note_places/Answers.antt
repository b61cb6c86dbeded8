use Rattle.std.proofs.Common.{◌≡◌, ◌<◌, ◌≤◌, ℕ, None, Some, false, IsOk, List, nat_eq, length, take, sym, ap, ◌∙◌, arith, rules}
use Rattle.std.specs.Prelude.{if◌then◌else◌, get_or}
use Rattle.std.proofs.lemmas.List.{length-take-le, take_more, take_all}
use Rattle.std.specs.Map.{lookup}
use Rattle.std.specs.HashMap.{get, hash_map_len}
use Rattle.im_page_table.specs.declared.table_entry.TableEntry.{TableEntry}
use Rattle.im_page_table.specs.DirtyTable.{entry_among, place_among}
use Rattle.im_page_table.proofs.Tables.{apart_next, finds_push, none_place}
use Rattle.im_page_table.proofs.Places.{grown, on_gives}
use Rattle.im_page_table.proofs.dirty_table.note_places.Goals as goal

pub loop-at-init : goal.loop-at-init
loop-at-init c = record {
  found = λ p. ap (λ (l : List (ℕ × ℕ)). lookup (nat_eq p) l) c.clear.ensures.empty;
  len = c.clear.ensures.len;
  room = omega (arith, c.clear.ensures.capacity);
}

-- an entry to read a list with
none : TableEntry
none = record { page = 0; rec_lsn = 0; since = None; copied = false }

pub loop-at-preserved : goal.loop-at-preserved
loop-at-preserved c =
    let i = c.loop-at.invariant in
    let at = c.loop-at.at in
    let xs = c.args.entries.now in
    let page = c.page_at-page.result in
    let y = get_or xs at none in
    let old = c.loop-at.places in
    let new = c.insert.new.self in
    let within : at < length xs = search (rules, arith) in
    let same : page ≡ y.page = c.page_at-page.ensures none in
    let front : entry_among (take at xs) y.page ≡ None = apart_next xs at none c.requires.apart within in
    let long : length (take at xs) ≡ at = length-take-le at xs (omega (arith, within)) in
    let ok : IsOk c.insert.result = c.insert.ensures.succeeds (omega (arith, i.len, i.room, within, c.requires.room)) in
    let set = (on_gives c.insert.result ok c.insert.ensures.updates).0 in
    let absent : get nat_eq old page ≡ None = i.found page ∙ none_place (take at xs) page (ap (λ (n : ℕ). entry_among (take at xs) n) same ∙ front) in
    let more = grown c.insert.result (hash_map_len old) (hash_map_len new) (get nat_eq old page) ok absent c.insert.ensures.old c.insert.ensures.len in
    record {
      found = λ p. finds_push (get nat_eq old) (get nat_eq new) (take at xs) y i.found front
          (λ q. set q ∙ ap (λ (n : ℕ). if nat_eq n q then Some at else get nat_eq old q) same ∙ ap (λ (n : ℕ). if nat_eq y.page q then Some n else get nat_eq old q) (sym long)) p
          ∙ ap (λ (l : List TableEntry). place_among p l) (sym (take_more xs at none within));
      len = omega (arith, more, i.len);
      room = omega (arith, i.room, c.insert.ensures.spare, more);
    }

pub returns-clause-found : goal.returns-clause-found
returns-clause-found c p =
    let all : length c.args.entries.now ≤ c.loop-at.at = search (rules, arith) in
    c.loop-at.invariant.found p ∙ ap (λ (l : List TableEntry). place_among p l) (take_all c.loop-at.at c.args.entries.now all)
