use Rattle.std.proofs.Common.{◌≡◌, ◌+◌, ◌≤◌, ℕ, nat_eq, take}
use Rattle.std.specs.HashMap.{get, hash_map_len, spare}
use Rattle.im_page_table.specs.DirtyTable.{place_among}
use Rattle.im_page_table.proofs.dirty_table.note_places.Given as goal

abbrev pub invariant-loop-at : goal.invariant-loop-at
invariant-loop-at l = record {
  found : (p : ℕ) → get nat_eq l.places p ≡ place_among p (take l.at l.entries);
  len : hash_map_len l.places ≡ l.at;
  room : hash_map_len l.fn.places + spare l.fn.places ≤ hash_map_len l.places + spare l.places;
}
