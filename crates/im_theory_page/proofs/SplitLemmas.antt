-- What fronts and ranges of a page's entries take.
use Rattle.std.proofs.Common.{zero, suc, ◌≡◌, ℕ, ◌+◌, ◌-◌, ◌*◌, ◌<◌, ◌≤◌, Bool, true, false, List, [], ◌∷◌, ◌++◌, length, take, drop, insert, slice_range, refl, sym, ap, ap₂, ◌∙◌, ⊎_elim, arith, length-take, length-drop, append-nil}
use Rattle.std.proofs.lemmas.Bool.{cases_lt}
use Rattle.std.proofs.lemmas.List.{take_more, get_or-take, get_or-drop}
use Rattle.std.proofs.lemmas.List.Sums.{sum_by-cons, sum_by-take-drop, sum_by_more, sum_by_more_le}
use Rattle.std.proofs.lemmas.List.Edits.{insert-append_right}
use Rattle.im_base_types.specs.Pages.{Entry}
use Rattle.im_theory_page.specs.Entry.{no_entry, entry_at, width, size, taken, Rises}
use Rattle.im_theory_page.specs.Form.{count_of, start_of, slot_at, cell_size, key_from, entries_of, IsPacked}
use Rattle.im_theory_page.specs.Found.{Parts}
use Rattle.im_theory_page.specs.Split.{half_page, IsSplitBound, IsSplitPoint, HasRoomForAny, LacksRoom}
use Rattle.im_theory_page.proofs.EntryLemmas.{length-entries_of, entry_at-entries_of, key-entries_of, key_len, room_is}
use Rattle.im_theory_page.proofs.ChildLemmas.{rises_of}

-- an entry takes its cell
pub size_of_slot : (leaf : Bool) (bytes : List ℕ) (i : ℕ) → IsPacked leaf bytes → i < count_of bytes → size leaf (entry_at (entries_of leaf bytes) i) ≡ cell_size leaf bytes (slot_at bytes i)
size_of_slot leaf bytes i p lt =
    ap (size leaf) (entry_at-entries_of leaf bytes i lt) ∙ key_len leaf bytes (slot_at bytes i) (omega (arith, p.high i lt, p.len))

-- one more entry of the front
pub taken_more : (leaf : Bool) (bytes : List ℕ) (i : ℕ) → IsPacked leaf bytes → i < count_of bytes
    → taken leaf (take (i + 1) (entries_of leaf bytes)) ≡ taken leaf (take i (entries_of leaf bytes)) + (cell_size leaf bytes (slot_at bytes i) + 2)
taken_more leaf bytes i p lt =
    sum_by_more (λ e. size leaf e + 2) (entries_of leaf bytes) i no_entry (omega (arith, length-entries_of leaf bytes))
    ∙ ap (λ n. taken leaf (take i (entries_of leaf bytes)) + (n + 2)) (size_of_slot leaf bytes i p lt)

pub take_all : {X : Type 0} (xs : List X) (n : ℕ) → length xs ≡ n → take n xs ≡ xs
take_all [] zero e = refl
take_all [] (suc n) e = refl
take_all (x ∷ xs) zero e = absurd (omega arith)
take_all (x ∷ xs) (suc n) e = ap (λ ys. x ∷ ys) (take_all xs n (omega arith))

-- a page's entries take at most 4,064 bytes
pub taken_fits : (leaf : Bool) (bytes : List ℕ) → IsPacked leaf bytes → taken leaf (entries_of leaf bytes) ≤ 4064
taken_fits leaf bytes p = omega (arith, room_is leaf bytes p, p.slots)

-- a range and the next entry take no more than all
pub range_fits : (leaf : Bool) (es : List Entry) (low j : ℕ) → low ≤ j → j < length es
    → taken leaf (slice_range es low j) + (size leaf (entry_at es j) + 2) ≤ taken leaf es
range_fits leaf es low j le lt =
    let f : Entry → ℕ = λ e. size leaf e + 2 in
    let at : low + (j - low) ≡ j = omega arith in
    let next : entry_at (drop low es) (j - low) ≡ entry_at es j = get_or-drop low es (j - low) no_entry ∙ ap (entry_at es) at in
    omega (arith, sum_by_more_le f (drop low es) (j - low) no_entry (omega (arith, length-drop low es)), ap f next, sum_by-take-drop f es low)

pub range_len : (es : List Entry) (low j : ℕ) → low ≤ j → j ≤ length es → length (slice_range es low j) ≡ j - low
range_len es low j le lt = omega (arith, length-take (j - low) (drop low es), length-drop low es)

pub range_at : (es : List Entry) (low j i : ℕ) → low ≤ j → i < j - low → entry_at (slice_range es low j) i ≡ entry_at es (low + i)
range_at es low j i le lt = get_or-take (j - low) (drop low es) i no_entry lt ∙ get_or-drop low es i no_entry

-- a range one longer
pub range_more : (es : List Entry) (low j : ℕ) → low ≤ j → j < length es → insert (slice_range es low j) (j - low) (entry_at es j) ≡ slice_range es low (j + 1)
range_more es low j le lt =
    let at : low + (j - low) ≡ j = omega arith in
    let longer : j + 1 - low ≡ j - low + 1 = omega arith in
    let none : j - low - (j - low) ≡ 0 = omega arith in
    let next : entry_at (drop low es) (j - low) ≡ entry_at es j = get_or-drop low es (j - low) no_entry ∙ ap (entry_at es) at in
    let front : List Entry = slice_range es low j in
    ap (λ xs. insert xs (j - low) (entry_at es j)) (sym (append-nil front))
    ∙ insert-append_right front [] (j - low) (j - low) (entry_at es j) (range_len es low j le (omega arith)) (omega arith)
    ∙ ap (λ n. front ++ insert [] n (entry_at es j)) none
    ∙ ap (λ e. front ++ (e ∷ [])) (sym next)
    ∙ sym (take_more (drop low es) (j - low) no_entry (omega (arith, length-drop low es)))
    ∙ ap (λ n. take n (drop low es)) (sym longer)

-- the place of the next entry of a range is after those that are there
pub next_place : (leaf : Bool) (bytes from : List ℕ) (low j : ℕ) → IsPacked leaf from → low ≤ j → j < count_of from
    → entries_of leaf bytes ≡ slice_range (entries_of leaf from) low j → Parts bytes (key_from from (slot_at from j)) (j - low) (j - low)
next_place leaf bytes from low j p le lt is =
    let es : List Entry = entries_of leaf from in
    let len = length-entries_of leaf from in
    let count : count_of bytes ≡ j - low = sym (length-entries_of leaf bytes) ∙ ap length is ∙ range_len es low j le (omega arith) in
    let rises : Rises es = rises_of leaf from p.rises in
    record {
      within = omega arith;
      below = λ i il.
          let here : (entry_at (entries_of leaf bytes) i).0 ≡ (entry_at es (low + i)).0 = ap (λ (xs : List Entry). (entry_at xs i).0) is ∙ ap (λ (e : Entry). e.0) (range_at es low j i le il) in
          rw (← key-entries_of leaf bytes i (omega arith), here, ← key-entries_of leaf from j lt) (rises (low + i) j (omega arith) (omega arith));
      above = λ i a b. absurd (omega arith);
    }

pub next_room : (leaf : Bool) (bytes from key : List ℕ) (low j : ℕ) → IsPacked leaf bytes → IsPacked leaf from → low ≤ j → j < count_of from → key ≡ key_from from (slot_at from j)
    → entries_of leaf bytes ≡ slice_range (entries_of leaf from) low j → 32 + 2 * count_of bytes + 2 + (1 + length key + width leaf) ≤ start_of bytes
next_room leaf bytes from key low j q p le lt is_key is =
    let es : List Entry = entries_of leaf from in
    let fits = range_fits leaf es low j le (omega (arith, length-entries_of leaf from)) in
    let keys : length key ≡ length (entry_at es j).0 = ap length is_key ∙ ap length (sym (key-entries_of leaf from j lt)) in
    omega (arith, fits, keys, taken_fits leaf from p, room_is leaf bytes q, ap (taken leaf) is)

pub same_pair : {k : List ℕ} {v : ℕ} (e : Entry) → k ≡ e.0 → v ≡ e.1 → (k, v) ≡ e
same_pair e a b = ap₂ (λ x y. (x, y)) a b

-- an entry takes at most 266 bytes
pub width_small : (leaf : Bool) → width leaf ≤ 8
width_small true = omega arith
width_small false = omega arith

pub taken_most : (leaf : Bool) (es : List Entry) → ((i : ℕ) → i < length es → length (entry_at es i).0 ≤ 255) → taken leaf es ≤ 266 * length es
taken_most leaf [] h = omega arith
taken_most leaf (e ∷ es) h =
    omega (arith, sum_by-cons (λ (x : Entry). size leaf x + 2) e es, h zero (omega arith), width_small leaf, taken_most leaf es (λ i lt. h (suc i) (omega arith)))

short_from : (n : ℕ) (es : List Entry) → ((i : ℕ) → i < length es → length (entry_at es i).0 ≤ 255) → (i : ℕ) → i < length (drop n es) → length (entry_at (drop n es) i).0 ≤ 255
short_from zero es h i lt = h i lt
short_from (suc n) [] h i lt = absurd (omega arith)
short_from (suc n) (e ∷ es) h i lt = short_from n es (λ j l. h (suc j) (omega arith)) i lt

pub half_is_bound : IsSplitBound half_page
half_is_bound = record { low = omega arith; high = omega arith }

-- both parts of a split have room for one more entry of any size
pub left_has_room : (bound : ℕ) (leaf : Bool) (es : List Entry) (n : ℕ) → IsSplitBound bound → IsSplitPoint bound leaf es n → HasRoomForAny leaf (take n es)
left_has_room bound leaf es n b h e short = omega (arith, h.fits, b.high, width_small leaf)

pub right_has_room : (bound : ℕ) (leaf : Bool) (es : List Entry) (n : ℕ) → IsSplitBound bound → IsSplitPoint bound leaf es n → taken leaf es ≤ 4064
    → ((i : ℕ) → i < length es → length (entry_at es i).0 ≤ 255) → HasRoomForAny leaf (drop n es)
right_has_room bound leaf es n b h fits keys e short =
    let f : Entry → ℕ = λ x. size leaf x + 2 in
    let wide = width_small leaf in
    ⊎_elim
    (λ (x : n + 2 < length es).
    let inside : n < length es = omega (arith, x) in
    omega (arith, sum_by-take-drop f es n, fits, h.longest x, b.low, sum_by_more f es n no_entry inside, keys n inside, short, wide))
    (λ (x : length es ≤ n + 2). omega (arith, taken_most leaf (drop n es) (short_from n es keys), length-drop n es, x, short, wide))
    (cases_lt (n + 2) (length es))

-- where the longest key has no room, an entry or more stands left of the point, and two or more stand right of it
pub both_parts : (bound : ℕ) (leaf : Bool) (es : List Entry) (n : ℕ) → IsSplitBound bound → IsSplitPoint bound leaf es n → ((i : ℕ) → i < length es → length (entry_at es i).0 ≤ 255)
    → LacksRoom leaf es → (1 ≤ n) × (n + 2 ≤ length es)
both_parts bound leaf es n b h keys lacks =
    let f : Entry → ℕ = λ x. size leaf x + 2 in
    let wide = width_small leaf in
    let many : 3 ≤ length es = omega (arith, taken_most leaf es keys, lacks, wide) in
    let right : n + 2 ≤ length es = omega (arith, h.within, many) in
    let left : 1 ≤ n = ⊎_elim
    (λ (x : n < 1).
    let e : n ≡ 0 = omega (arith, x) in
    let none : taken leaf (take n es) ≡ 0 = ap (λ m. taken leaf (take m es)) e in
    let inside : n < length es = omega (arith, right) in
    omega (arith, none, sum_by_more f es n no_entry inside, keys n inside, wide, b.low, h.longest (omega (arith, e, many))))
    (λ (x : 1 ≤ n). x)
    (cases_lt n 1) in
    (left, right)
