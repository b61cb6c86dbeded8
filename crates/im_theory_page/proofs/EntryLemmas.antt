-- The entries of a page, by their slots.
use Rattle.std.proofs.Common.{◌≡◌, ℕ, ◌+◌, ◌-◌, ◌*◌, ◌<◌, ◌≤◌, Bool, List, [], ◌∷◌, Result, Ok, Err, length, slice_index, sum_by, ◌==◌, refl, sym, ap, ◌∙◌, ◌↔◌, arith}
use Rattle.std.proofs.lemmas.Bool.Decides.{nat_tests}
use Rattle.std.proofs.lemmas.List.Sums.{sum_by-cons}
use Rattle.std.proofs.lemmas.List.Edits.{length-between}
use Rattle.im_theory_page.specs.Page.{is_leaf_kind, kind_of, is_leaf, said_by}
use Rattle.std.proofs.lemmas.List.FromFn.{length-map-range_with_len, get_or-map-range_with_len}
use Rattle.im_theory_page.specs.Entry.{no_entry, entry_at, Parts, IsPlace, taken, size, width}
use Rattle.im_base_types.specs.Pages.{Entry}
use Rattle.im_theory_page.specs.Form.{count_of, start_of, slot_at, cell_size, key_from, entry_from, entries_of, IsPacked}
use Rattle.im_theory_page.specs.Found as found

pub length-entries_of : (leaf : Bool) (bytes : List ℕ) → length (entries_of leaf bytes) ≡ count_of bytes
unfolding entries_of
length-entries_of leaf bytes = length-map-range_with_len (λ i. entry_from leaf bytes (slot_at bytes i)) 0 (count_of bytes)

pub entry_at-entries_of : (leaf : Bool) (bytes : List ℕ) (i : ℕ) → i < count_of bytes → entry_at (entries_of leaf bytes) i ≡ entry_from leaf bytes (slot_at bytes i)
unfolding entries_of
entry_at-entries_of leaf bytes i lt = get_or-map-range_with_len (λ i. entry_from leaf bytes (slot_at bytes i)) 0 (count_of bytes) i i no_entry lt (omega arith)

pub key-entries_of : (leaf : Bool) (bytes : List ℕ) (i : ℕ) → i < count_of bytes → (entry_at (entries_of leaf bytes) i).0 ≡ key_from bytes (slot_at bytes i)
unfolding entry_from
key-entries_of leaf bytes i lt = ap (λ (e : Entry). e.0) (entry_at-entries_of leaf bytes i lt)

-- a place among the slots is one among the entries
pub place_of_slots : (leaf : Bool) (bytes key : List ℕ) (r : Result ℕ ℕ) → found.IsPlace bytes key r → IsPlace (entries_of leaf bytes) key r
place_of_slots leaf bytes key (Ok i) h = (omega (arith, h.0, length-entries_of leaf bytes), key-entries_of leaf bytes i h.0 ∙ h.1)
place_of_slots leaf bytes key (Err i) h = record {
  within = omega (arith, h.within, length-entries_of leaf bytes);
  below = λ j lt. rw (key-entries_of leaf bytes j (omega (arith, h.within))) (h.below j lt);
  above = λ j le lt. let n : j < count_of bytes = omega (arith, length-entries_of leaf bytes) in rw (key-entries_of leaf bytes j n) (h.above j le n);
}

pub slots_of_place : (leaf : Bool) (bytes key : List ℕ) (i : ℕ) → Parts (entries_of leaf bytes) key i i → found.Parts bytes key i i
slots_of_place leaf bytes key i h =
    let len = length-entries_of leaf bytes in
    let n : i ≤ count_of bytes = omega (arith, h.within, len) in
    record {
      within = n;
      below = λ j lt. rw (← key-entries_of leaf bytes j (omega arith)) (h.below j lt);
      above = λ j le lt. rw (← key-entries_of leaf bytes j lt) (h.above j le (omega arith));
    }

-- what cells and slots take, by the count and the cells
pub taken_is : (leaf : Bool) (es : List Entry) → taken leaf es ≡ sum_by (size leaf) es + 2 * length es
taken_is leaf [] = refl
taken_is leaf (e ∷ es) = omega (arith, taken_is leaf es, sum_by-cons (size leaf) e es, sum_by-cons (λ x. size leaf x + 2) e es)

-- the room between slots and cells is what is left of the 4,064 bytes
pub room_is : (leaf : Bool) (bytes : List ℕ) → IsPacked leaf bytes → taken leaf (entries_of leaf bytes) + start_of bytes ≡ 4096 + 2 * count_of bytes
room_is leaf bytes h = omega (arith, taken_is leaf (entries_of leaf bytes), h.full, length-entries_of leaf bytes)

pub leaf_kind : (n : ℕ) → is_leaf_kind (kind_of n) ≡ (n == 2)
leaf_kind n = grind (arith, nat_tests)

-- an entry has room exactly where cells and slots with it take at most 4,064 bytes
pub full_is : (bytes : List ℕ) (room : ℕ) (e : Entry) → IsPacked (is_leaf bytes) bytes → room + 32 + 2 * count_of bytes ≡ start_of bytes
    → (taken (is_leaf_kind (said_by bytes).body.kind) (said_by bytes).body.entries + size (is_leaf_kind (said_by bytes).body.kind) e + 2 ≤ 4064)
    ↔ (size (is_leaf bytes) e + 2 ≤ room)
full_is bytes room e h is =
    let kind = leaf_kind (slice_index bytes 8) in
    rw kind
    (λ fits. omega (arith, room_is (is_leaf bytes) bytes h), λ fits. omega (arith, room_is (is_leaf bytes) bytes h))

-- pages of one kind have values of one width
pub same_leaf : (a b : List ℕ) → (said_by a).body.kind ≡ (said_by b).body.kind → is_leaf a ≡ is_leaf b
same_leaf a b e = sym (leaf_kind (slice_index a 8)) ∙ ap is_leaf_kind e ∙ leaf_kind (slice_index b 8)

-- what the entries take, by the page's kind
pub taken_kind : (bytes : List ℕ) (es : List Entry) → taken (is_leaf_kind (said_by bytes).body.kind) es ≡ taken (is_leaf bytes) es
taken_kind bytes es = ap (λ l. taken l es) (leaf_kind (slice_index bytes 8))

-- the same for the size of a key alone
pub room_exact : (bytes : List ℕ) (room key : ℕ) → IsPacked (is_leaf bytes) bytes → room + 32 + 2 * count_of bytes ≡ start_of bytes
    → (taken (is_leaf_kind (said_by bytes).body.kind) (said_by bytes).body.entries + (1 + key + width (is_leaf_kind (said_by bytes).body.kind) + 2) ≤ 4064)
    ↔ (1 + key + width (is_leaf bytes) + 2 ≤ room)
room_exact bytes room key h is =
    let kind = leaf_kind (slice_index bytes 8) in
    rw kind
    (λ fits. omega (arith, room_is (is_leaf bytes) bytes h), λ fits. omega (arith, room_is (is_leaf bytes) bytes h))

-- a cell takes what its entry does
pub key_len : (leaf : Bool) (bytes : List ℕ) (at : ℕ) → at + 1 + slice_index bytes at ≤ length bytes → size leaf (entry_from leaf bytes at) ≡ cell_size leaf bytes at
unfolding entry_from
key_len leaf bytes at fits =
    let n : ℕ = slice_index bytes at in
    let len : length (key_from bytes at) ≡ n = length-between bytes (at + 1) (at + 1 + n) fits ∙ (let e : at + 1 + n - (at + 1) ≡ n = omega arith in e) in
    ap (λ k. 1 + k + width leaf) len
