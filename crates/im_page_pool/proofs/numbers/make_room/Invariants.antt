use Rattle.std.proofs.Common.{◌≡◌, ◌+◌, ◌*◌, ◌≤◌, ℕ, None, nat_eq, length}
use Rattle.std.specs.Map.{keys_of}
use Rattle.std.specs.HashMap.{get, hash_map_len, spare}
use Rattle.im_page_pool.specs.Places.{times, taken_in}
use Rattle.im_page_pool.proofs.NumberLemmas.{or_else, entry_of}
use Rattle.im_page_pool.proofs.numbers.make_room.Given as goal

abbrev pub invariant-loop-place : goal.invariant-loop-place
invariant-loop-place l = record {
  same : (p : ℕ) → entry_of p (taken_in l.by_use.entries) ≡ or_else (entry_of p (taken_in l.place-iterator.iter)) (get nat_eq l.numbers p);
  once : (q : ℕ) → times q (keys_of (taken_in l.place-iterator.iter)) ≤ 1;
  fresh : (q : ℕ) → 1 ≤ times q (keys_of (taken_in l.place-iterator.iter)) → get nat_eq l.numbers q ≡ None;
  count : hash_map_len l.numbers + length l.place-iterator.iter ≤ length l.by_use.entries;
  room : 2 * length l.by_use.entries ≤ hash_map_len l.numbers + spare l.numbers;
}
