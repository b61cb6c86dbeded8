-- One more slot of the test, and what the whole test says.
use Rattle.std.proofs.Common.{zero, suc, ◌≡◌, ◌≢◌, ◌⊎◌, ℕ, ◌+◌, ◌-◌, ◌*◌, ◌<◌, ◌≤◌, Bool, true, false, List, length, replicate, slice_index, slice_set, refl, sym, ap, subst, ◌∙◌, inl, inr, ⊎_elim, arith, get_or-set_other, get_or-set_same, length-set}
use Rattle.std.proofs.lemmas.Bool.{cases_eq, cases_lt, true≢false}
use Rattle.std.proofs.lemmas.List.FromFn.{sum_by-map-range_with_len_more}
use Rattle.im_theory_page.specs.Entry.{size}
use Rattle.im_base_types.specs.Keys.{IsBelow}
use Rattle.im_theory_page.specs.Form.{count_of, start_of, slot_at, cell_size, key_from, entry_from, entries_of, IsPacked}
use Rattle.im_page.specs.Sound.{is_taken, AreEnds, AreSound, HasSlots, ArePacked, MarksOne, SlotsSound, total_of}
use Rattle.im_theory_page.proofs.Order.{below_irrefl, below_trans}
use Rattle.im_page.proofs.CoverLemmas.{ended_at, follow_all, follow_apart, full, none_below, spans}
use Rattle.im_theory_page.proofs.EntryLemmas.{key_len}

pub all_false : (n k : ℕ) → is_taken (replicate n false) k ≡ false
all_false zero k = refl
all_false (suc n) zero = refl
all_false (suc n) (suc k) = all_false n k

pub total_more : (leaf : Bool) (bytes : List ℕ) (n at : ℕ) → at ≡ slot_at bytes n → at + 1 + slice_index bytes at ≤ length bytes
    → total_of leaf bytes (n + 1) ≡ total_of leaf bytes n + cell_size leaf bytes at
total_more leaf bytes n at is_at fits =
    sum_by-map-range_with_len_more (size leaf) (λ i. entry_from leaf bytes (slot_at bytes i)) 0 n n (omega arith)
    ∙ ap (λ a. total_of leaf bytes n + size leaf (entry_from leaf bytes a)) (sym is_at)
    ∙ ap (λ m. total_of leaf bytes n + m) (key_len leaf bytes at fits)

spans_total : (leaf : Bool) (bytes : List ℕ) (n : ℕ) → length bytes ≡ 4096 → AreSound leaf bytes n
    → spans (slot_at bytes) (λ i. slot_at bytes i + cell_size leaf bytes (slot_at bytes i)) n ≡ total_of leaf bytes n
unfolding spans
spans_total leaf bytes zero len h = refl
spans_total leaf bytes (suc n) len h =
    let cell = h.cells n (omega arith) in
    let rest = spans_total leaf bytes n len (record { cells = λ i lt. h.cells i (omega arith); apart = λ i j li lj ne. h.apart i j (omega arith) (omega arith) ne; rises = λ i j ij lj. h.rises i j ij (omega arith) }) in
    let at : ℕ = slot_at bytes n in
    let next : n + 1 ≡ suc n = omega arith in
    let more : total_of leaf bytes (suc n) ≡ total_of leaf bytes n + cell_size leaf bytes at = ap (total_of leaf bytes) (sym next) ∙ total_more leaf bytes n at refl (omega (arith, cell.high, len)) in
    added _ _ _ at (cell_size leaf bytes at) rest more
  where
    added : (a b c at more : ℕ) → a ≡ b → c ≡ b + more → a + (at + more - at) ≡ c
    added a b c at m same more = omega (arith, same, more)

abbrev end_of : Bool → List ℕ → ℕ → ℕ
end_of leaf bytes i = slot_at bytes i + cell_size leaf bytes (slot_at bytes i)

pub ends_begin : (leaf : Bool) (bytes : List ℕ) (flags new : List Bool) → flags ≡ replicate 4097 false → length flags ≡ 4097 → MarksOne flags new (start_of bytes) → AreEnds leaf bytes new 0
ends_begin leaf bytes flags new clear long marks = record {
  len = marks.len ∙ long;
  start = marks.here;
  ends = λ i lt. absurd (omega arith);
  only = λ k t. ⊎_elim (λ (e : k ≡ start_of bytes). inl e)
      (λ ne. absurd (true≢false (sym (sym (marks.others k ne) ∙ t) ∙ ap (λ f. is_taken f k) clear ∙ all_false 4097 k)))
      (cases_eq k (start_of bytes));
}

pub ends_more : (leaf : Bool) (bytes : List ℕ) (flags new : List Bool) (n end : ℕ) → AreEnds leaf bytes flags n → end ≡ end_of leaf bytes n → MarksOne flags new end → AreEnds leaf bytes new (n + 1)
ends_more leaf bytes flags new n end h is_end marks =
    let kept : (k : ℕ) → is_taken flags k ≡ true → is_taken new k ≡ true = λ k t. ⊎_elim (λ (e : k ≡ end). subst (λ m. is_taken new m ≡ true) (sym e) marks.here) (λ ne. marks.others k ne ∙ t) (cases_eq k end) in
    record {
      len = marks.len ∙ h.len;
      start = kept (start_of bytes) h.start;
      ends = λ i lt. ⊎_elim (λ (x : i < n). kept (end_of leaf bytes i) (h.ends i x))
          (λ (x : n ≤ i). let e : n ≡ i = omega arith in subst (λ k. is_taken new (end_of leaf bytes k) ≡ true) e (subst (λ m. is_taken new m ≡ true) is_end marks.here))
          (cases_lt i n);
      only = λ k t. ⊎_elim (λ (e : k ≡ end). inr (n, omega arith, sym is_end ∙ sym e))
          (λ ne. ⊎_elim (λ (x : k ≡ start_of bytes). inl x) (λ (p : (i : ℕ) × (i < n) × (end_of leaf bytes i ≡ k)). inr (p.0, omega (arith, p.1), p.2)) (h.only k (sym (marks.others k ne) ∙ t)))
          (cases_eq k end);
    }

pub marks_set : (flags : List Bool) (at : ℕ) → at < length flags → MarksOne flags (slice_set flags at true) at
marks_set flags at lt = record { len = length-set flags at true; here = get_or-set_same flags at true false lt; others = λ k ne. get_or-set_other flags at k true false ne }

-- keys that rise from one to the next rise
pub rise_all : (bytes : List ℕ) (n : ℕ) → ((i : ℕ) → 0 < i → i < n → IsBelow (key_from bytes (slot_at bytes (i - 1))) (key_from bytes (slot_at bytes i)))
    → (i j : ℕ) → i < j → j < n → IsBelow (key_from bytes (slot_at bytes i)) (key_from bytes (slot_at bytes j))
rise_all bytes n below i zero ij lj = absurd (omega arith)
rise_all bytes n below i (suc j) ij lj =
    let same : suc j - 1 ≡ j = omega arith in
    let last : IsBelow (key_from bytes (slot_at bytes j)) (key_from bytes (slot_at bytes (suc j))) = subst (λ k. IsBelow (key_from bytes (slot_at bytes k)) (key_from bytes (slot_at bytes (suc j)))) same (below (suc j) (omega arith) lj) in
    ⊎_elim (λ (x : i < j). below_trans _ _ _ (rise_all bytes n below i j x (omega arith)) last)
    (λ (x : j ≤ i). let e : j ≡ i = omega arith in subst (λ k. IsBelow (key_from bytes (slot_at bytes k)) (key_from bytes (slot_at bytes (suc j)))) e last)
    (cases_lt i j)

-- two keys of which one is above the other are not one cell's
pub rise_distinct : (bytes : List ℕ) (n : ℕ) → ((i j : ℕ) → i < j → j < n → IsBelow (key_from bytes (slot_at bytes i)) (key_from bytes (slot_at bytes j)))
    → (i j : ℕ) → i < n → j < n → i ≢ j → slot_at bytes i ≢ slot_at bytes j
rise_distinct bytes n rises i j li lj ne same =
    ⊎_elim
    (λ (x : i < j). below_irrefl _ (subst (λ a. IsBelow (key_from bytes a) (key_from bytes (slot_at bytes j))) same (rises i j x lj)))
    (λ (x : j ≤ i). ⊎_elim
    (λ (y : j < i). below_irrefl _ (subst (λ a. IsBelow (key_from bytes (slot_at bytes j)) (key_from bytes a)) same (rises j i y li)))
    (λ (y : i ≤ j). absurd (ne (omega arith)))
    (cases_lt j i))
    (cases_lt i j)

-- cells whose keys rise from one to the next, each of which begins at a flag, where the page's end has one too
pub sound_all : (leaf : Bool) (bytes : List ℕ) (flags : List Bool) → length bytes ≡ 4096 → start_of bytes ≤ 4096 → AreEnds leaf bytes flags (count_of bytes)
    → is_taken flags 4096 ≡ true → HasSlots bytes flags → ((i : ℕ) → i < count_of bytes → end_of leaf bytes i ≤ 4096) → ((i : ℕ) → i < count_of bytes → 1 ≤ slice_index bytes (slot_at bytes i))
    → ((i : ℕ) → 0 < i → i < count_of bytes → IsBelow (key_from bytes (slot_at bytes (i - 1))) (key_from bytes (slot_at bytes i))) → SlotsSound leaf bytes
sound_all leaf bytes flags len start h end begun high keyed below =
    let n : ℕ = count_of bytes in
    let some : (i : ℕ) → i < n → slot_at bytes i < end_of leaf bytes i = λ i lt. omega arith in
    let follow : (i : ℕ) → i < n → (slot_at bytes i ≡ start_of bytes) ⊎ ((j : ℕ) × (j < n) × (end_of leaf bytes j ≡ slot_at bytes i)) = λ i lt. h.only (slot_at bytes i) (begun i lt) in
    let last : (start_of bytes ≡ 4096) ⊎ ((j : ℕ) × (j < n) × (end_of leaf bytes j ≡ 4096)) = ⊎_elim (λ (e : 4096 ≡ start_of bytes). inl (sym e)) (λ (p : (j : ℕ) × (j < n) × (end_of leaf bytes j ≡ 4096)). inr p) (h.only 4096 end) in
    let rises = rise_all bytes n below in
    let low : (i : ℕ) → i < n → start_of bytes ≤ slot_at bytes i = none_below (slot_at bytes) (end_of leaf bytes) n (start_of bytes) some follow in
    let apart = follow_apart (slot_at bytes) (end_of leaf bytes) n (start_of bytes) some (rise_distinct bytes n rises) follow in
    let sound : AreSound leaf bytes n = record { cells = λ i lt. record { low = low i lt; high = high i lt; keyed = keyed i lt }; apart = apart; rises = rises } in
    let all = full (slot_at bytes) (end_of leaf bytes) n (start_of bytes) 4096 (λ i lt. (low i lt, omega arith, high i lt)) apart start
    (λ k from to. follow_all (slot_at bytes) (end_of leaf bytes) n (start_of bytes) 4096 (4095 - k) some follow last k from (omega arith)) in
    record { sound = sound; full = omega (arith, all, spans_total leaf bytes n len sound) }

pub run_begins : (leaf : Bool) (bytes : List ℕ) → ArePacked leaf bytes 0 4096
run_begins leaf bytes = record { low = λ i lt. absurd (omega arith); falls = λ i j ij lj. absurd (omega arith); high = λ i lt. absurd (omega arith); full = refl }

-- one cell more, right in front of the last one
pub run_more : (leaf : Bool) (bytes : List ℕ) (n from at : ℕ) → length bytes ≡ 4096 → ArePacked leaf bytes n from → at ≡ slot_at bytes n → at + cell_size leaf bytes at ≡ from → ArePacked leaf bytes (n + 1) at
run_more leaf bytes n from at len h is_at meets =
    let within : from ≤ 4096 = omega (arith, h.full) in
    let more = total_more leaf bytes n at is_at (omega (arith, meets, within, len)) in
    let here : end_of leaf bytes n ≡ from = subst (λ a. a + cell_size leaf bytes a ≡ from) is_at meets in
    record {
      low = λ i lt. ⊎_elim (λ (x : i < n). omega (arith, h.low i x, meets))
          (λ (x : n ≤ i). let e : n ≡ i = omega arith in subst (λ k. at ≤ slot_at bytes k) e (omega (arith, is_at)))
          (cases_lt i n);
      falls = λ i j ij lj. ⊎_elim (λ (x : j < n). h.falls i j ij x)
          (λ (x : n ≤ j). let e : n ≡ j = omega arith in subst (λ k. end_of leaf bytes k ≤ slot_at bytes i) e (omega (arith, here, h.low i (omega arith))))
          (cases_lt j n);
      high = λ i lt. ⊎_elim (λ (x : i < n). h.high i x)
          (λ (x : n ≤ i). let e : n ≡ i = omega arith in subst (λ k. end_of leaf bytes k ≤ 4096) e (omega (arith, here, within)))
          (cases_lt i n);
      full = omega (arith, more, h.full, meets);
    }

-- cells that lie so down to where they begin, and whose keys rise from one to the next
pub run_sound : (leaf : Bool) (bytes : List ℕ) → ArePacked leaf bytes (count_of bytes) (start_of bytes) → ((i : ℕ) → i < count_of bytes → 1 ≤ slice_index bytes (slot_at bytes i))
    → ((i : ℕ) → 0 < i → i < count_of bytes → IsBelow (key_from bytes (slot_at bytes (i - 1))) (key_from bytes (slot_at bytes i))) → SlotsSound leaf bytes
run_sound leaf bytes h keyed below = record {
  sound = record {
    cells = λ i lt. record { low = h.low i lt; high = h.high i lt; keyed = keyed i lt };
    apart = λ i j li lj ne. ⊎_elim (λ (x : i < j). inr (h.falls i j x lj)) (λ (x : j ≤ i). inl (h.falls j i (omega (arith, ne)) li)) (cases_lt i j);
    rises = rise_all bytes (count_of bytes) below;
  };
  full = h.full;
}

-- where a cell of a packed page begins, or the page ends, is a flag
flagged_at : (leaf : Bool) (bytes : List ℕ) (flags : List Bool) → length bytes ≡ 4096 → AreEnds leaf bytes flags (count_of bytes) → SlotsSound leaf bytes
    → (v : ℕ) → start_of bytes ≤ v → (v ≡ 4096) ⊎ ((i : ℕ) × (i < count_of bytes) × (slot_at bytes i ≡ v)) → is_taken flags v ≡ true
flagged_at leaf bytes flags len ends h v from at =
    ⊎_elim
    (λ (x : start_of bytes < v).
    let one = ended_at (slot_at bytes) (end_of leaf bytes) (count_of bytes) (start_of bytes) 4096 (λ i li. ((h.sound.cells i li).low, omega arith, (h.sound.cells i li).high)) h.sound.apart
    (omega (arith, h.full, spans_total leaf bytes (count_of bytes) len h.sound)) v x at in
    subst (λ k. is_taken flags k ≡ true) one.2 (ends.ends one.0 one.1))
    (λ (x : v ≤ start_of bytes). let e : start_of bytes ≡ v = omega (arith, x, from) in subst (λ k. is_taken flags k ≡ true) e ends.start)
    (cases_lt (start_of bytes) v)

pub end_flagged : (leaf : Bool) (bytes : List ℕ) (flags : List Bool) → length bytes ≡ 4096 → start_of bytes ≤ 4096 → AreEnds leaf bytes flags (count_of bytes) → SlotsSound leaf bytes
    → is_taken flags 4096 ≡ true
end_flagged leaf bytes flags len start ends h = flagged_at leaf bytes flags len ends h 4096 start (inl refl)

pub all_flagged : (leaf : Bool) (bytes : List ℕ) (flags : List Bool) → length bytes ≡ 4096 → AreEnds leaf bytes flags (count_of bytes) → SlotsSound leaf bytes → HasSlots bytes flags
all_flagged leaf bytes flags len ends h = λ i li. flagged_at leaf bytes flags len ends h (slot_at bytes i) (h.sound.cells i li).low (inr (i, li, refl))

-- the whole form, from the slots
pub packed_from : (leaf : Bool) (bytes : List ℕ) → length bytes ≡ 4096 → 32 + 2 * count_of bytes ≤ start_of bytes → start_of bytes ≤ 4096
    → ((k : ℕ) → 32 + 2 * count_of bytes ≤ k → k < start_of bytes → slice_index bytes k ≡ 0) → SlotsSound leaf bytes → IsPacked leaf bytes
unfolding entries_of
packed_from leaf bytes len slots start clear h = record {
  len = len;
  slots = slots;
  start = start;
  low = λ i lt. (h.sound.cells i lt).low;
  high = λ i lt. (h.sound.cells i lt).high;
  keyed = λ i lt. (h.sound.cells i lt).keyed;
  apart = h.sound.apart;
  full = h.full;
  clear = clear;
  rises = h.sound.rises;
}

pub slots_from : (leaf : Bool) (bytes : List ℕ) → IsPacked leaf bytes → SlotsSound leaf bytes
unfolding entries_of
slots_from leaf bytes h = record {
  sound = record { cells = λ i lt. record { low = h.low i lt; high = h.high i lt; keyed = h.keyed i lt }; apart = h.apart; rises = h.rises };
  full = h.full;
}
