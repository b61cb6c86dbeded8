-- From a gate to the next one.
use Rattle.std.proofs.Common.{◌≡◌, ℕ, suc, ◌+◌, ◌-◌, ◌<◌, ◌≤◌, Bool, true, ◌&&◌, List, [], ◌∷◌, ◌++◌, length, take, drop, Some, sym, ◌∙◌, ap, arith, append_assoc, length-append, length-drop, take-append-drop}
use Rattle.std.specs.Prelude.{◌==◌}
use Rattle.std.specs.Int.{w32, w64, from_be_bytes, to_be_bytes}
use Rattle.std.specs.Hash.DefaultHasher as sip
use Rattle.std.proofs.lemmas.Bool.{and_parts, le-leb, lt-ltb}
use Rattle.std.proofs.lemmas.Bool.Decides.{nat_tests}
use Rattle.std.proofs.lemmas.List.{drop-take, drop_at, length-take-le, take_at, take-take}
use Rattle.std.proofs.lemmas.Option.{none-some}
use Rattle.im_base_disk.specs.Sums.{batch_length, counts, is_open, is_whole, pick, records, shown, shows, sum_fits, sum_found, sum_of}
use Rattle.im_log_one_sync.specs.Batches.{batches_from, IsLast}
use Rattle.im_log_one_sync.specs.Laws.{GatesGoOn}
use Rattle.im_log_one_sync.proofs.Reading.{from_drop, passes, picked, whole_long, whole_some}

-- the first gate
starts : (fits : ℕ → ℕ → List ℕ → Bool) (first base : ℕ) (file : List ℕ) → first < length file → IsLast fits first base first file []
starts fits first base file within = record {
  within = within;
  front = λ rest some.
      from_drop fits first base (take first file ++ rest)
      ∙ ap (batches_from fits 0 (base + first)) (drop_at (take first file) rest first (length-take-le first file (omega (arith, within))));
}

-- and a file that keeps what stands in front of it
kept : (fits : ℕ → ℕ → List ℕ → Bool) (first base place : ℕ) (file new : List ℕ) (before : List (List ℕ)) → IsLast fits first base place file before → take place new ≡ take place file → place < length new
    → IsLast fits first base place new before
kept fits first base place file new before last same within = record {
  within = within;
  front = λ rest some. ap (λ (l : List ℕ). batches_from fits first base (l ++ rest)) same ∙ last.front rest some;
}

whole_most : (behind : List ℕ) → is_whole behind ≡ true → batch_length behind ≤ 16384
whole_most behind whole = grind (arith, nat_tests)

-- What is shown is told by the batch alone, where anything stands behind it.
module _ (salt : List ℕ) (lsn gate : ℕ) (x r : List ℕ) (is : shown (sum_fits salt) lsn (gate ∷ x) ≡ Some r) where
  counted : counts (sum_fits salt) lsn gate x ≡ true
  counted = (picked (counts (sum_fits salt) lsn gate x) (records x) r is).0

  parts : (is_whole x ≡ true) × ((is_open gate && sum_fits salt lsn gate x) ≡ true)
  parts = and_parts (is_whole x) (is_open gate && sum_fits salt lsn gate x) counted

  pub some_there : 9 ≤ batch_length x
  some_there = whole_some x parts.0

  pub most_there : batch_length x ≤ 16384
  most_there = whole_most x parts.0

  pub room_there : 4 + batch_length x < length x
  room_there = whole_long x parts.0

  -- the sum counts in the length, and is not shown
  pub size_there : length r + 8 ≡ batch_length x
  size_there =
      let sized : length r ≡ batch_length x - 8 =
      sym (ap (λ (l : List ℕ). length l) (picked (counts (sum_fits salt) lsn gate x) (records x) r is).1)
      ∙ length-take-le (batch_length x - 8) (drop 4 x) (omega (arith, room_there, length-drop 4 x)) in
      omega (arith, sized, some_there)

  module _ (y : List ℕ) (same : take (12 + length r) y ≡ take (12 + length r) x) (more : 12 + length r < length y) where
    front : (n : ℕ) → n ≤ 12 + length r → take n y ≡ take n x
    front n le = sym (take-take n (12 + length r) y le) ∙ ap (take n) same ∙ take-take n (12 + length r) x le

    part : (k n : ℕ) → k + n ≤ 12 + length r → take n (drop k y) ≡ take n (drop k x)
    part k n le = sym (drop-take k n y) ∙ ap (drop k) (front (k + n) le) ∙ drop-take k n x

    long : batch_length y ≡ batch_length x
    unfolding batch_length
    long = ap (λ (l : List ℕ). from_be_bytes w32 l) (front 4 (omega arith))

    all_whole : is_whole y ≡ true
    all_whole =
        (λ i. (le-leb 9 (batch_length y) (omega (arith, long, some_there)) i && le-leb (batch_length y) 16384 (omega (arith, long, most_there)) i)
        && lt-ltb (4 + batch_length y) (length y) (omega (arith, long, size_there, more)) i)

    found : sum_found y ≡ sum_found x
    found =
        ap (λ (n : ℕ). from_be_bytes w64 (take 8 (drop (n - 4) y))) long
        ∙ ap (λ (l : List ℕ). from_be_bytes w64 l) (part (batch_length x - 4) 8 (omega (arith, some_there, size_there)))

    sum_same : sum_of salt lsn gate y ≡ sum_of salt lsn gate x
    unfolding sum_of
    sum_same =
        ap (λ (l : List ℕ). sip.finish (sip.write (sip.write (sip.write sip.initial salt) (to_be_bytes w64 lsn)) (gate ∷ l)))
        (ap (λ (n : ℕ). take (n - 4) y) long ∙ front (batch_length x - 4) (omega (arith, size_there)))

    fits_same : sum_fits salt lsn gate y ≡ sum_fits salt lsn gate x
    fits_same = (λ i. found i == sum_same i)

    counts_too : counts (sum_fits salt) lsn gate y ≡ true
    counts_too = (λ i. all_whole i && (is_open gate && fits_same i)) ∙ parts.1

    records_same : records y ≡ r
    records_same =
        ap (λ (n : ℕ). take (n - 8) (drop 4 y)) long
        ∙ part 4 (batch_length x - 8) (omega (arith, some_there, size_there))
        ∙ (picked (counts (sum_fits salt) lsn gate x) (records x) r is).1

    pub shown_same : shown (sum_fits salt) lsn (gate ∷ y) ≡ Some r
    shown_same = ap (λ (b : Bool). pick b (records y)) counts_too ∙ ap Some records_same

-- The same of bytes that begin with the gate: as many of them as the batch has, and anything behind.
module _ (salt : List ℕ) (lsn : ℕ) where
  pub shown_cut : (l rest r : List ℕ) → shown (sum_fits salt) lsn l ≡ Some r → 1 ≤ length rest → shown (sum_fits salt) lsn (take (13 + length r) l ++ rest) ≡ Some r
  shown_cut [] rest r is some = absurd (none-some r is)
  shown_cut (gate ∷ x) rest r is some =
      let room = room_there salt lsn gate x r is in
      let size = size_there salt lsn gate x r is in
      let cut : length (take (12 + length r) x) ≡ 12 + length r = length-take-le (12 + length r) x (omega (arith, room, size)) in
      let here : shown (sum_fits salt) lsn (gate ∷ (take (12 + length r) x ++ rest)) ≡ Some r =
      shown_same salt lsn gate x r is (take (12 + length r) x ++ rest) (take_at (take (12 + length r) x) rest (12 + length r) cut)
      (omega (arith, cut, some, length-append (take (12 + length r) x) rest)) in
      ap (λ (l : List ℕ). shown (sum_fits salt) lsn (l ++ rest)) (ap (λ (n : ℕ). take n (gate ∷ x)) (let one_more : 13 + length r ≡ suc (12 + length r) = omega arith in one_more)) ∙ here

shown_room : (salt : List ℕ) (lsn : ℕ) (l r : List ℕ) → shown (sum_fits salt) lsn l ≡ Some r → 13 + length r < length l
shown_room salt lsn [] r is = absurd (none-some r is)
shown_room salt lsn (gate ∷ x) r is = omega (arith, room_there salt lsn gate x r is, size_there salt lsn gate x r is)

taken_on : (n m : ℕ) (l : List ℕ) → take (n + m) l ≡ take n l ++ take m (drop n l)
taken_on n m l =
    sym (take-append-drop n (take (n + m) l))
    ∙ (λ i. take-take n (n + m) l (omega arith) i ++ drop-take n m l i)

-- and behind it the next gate
next_gate : (salt : List ℕ) (first base place : ℕ) (file r : List ℕ) (before : List (List ℕ)) → IsLast (sum_fits salt) first base place file before → shows (sum_fits salt) base place file ≡ Some r
    → IsLast (sum_fits salt) first base (place + (13 + length r)) file (before ++ r ∷ [])
next_gate salt first base place file r before last is =
    let m : ℕ = 13 + length r in
    let lsn : ℕ = base + place in
    let fits : ℕ → ℕ → List ℕ → Bool = sum_fits salt in
    let here : List ℕ = take m (drop place file) in
    let room : m < length (drop place file) = shown_room salt lsn (drop place file) r is in
    let within : place + m < length file = omega (arith, room, length-drop place file) in
    let cut : length here ≡ m = length-take-le m (drop place file) (omega (arith, room)) in record {
      within = within;
      front = λ rest some.
          ap (λ (l : List ℕ). batches_from fits first base (l ++ rest)) (taken_on place m file)
          ∙ ap (batches_from fits first base) (append_assoc (take place file) here rest)
          ∙ last.front (here ++ rest) (omega (arith, some, length-append here rest))
          ∙ ap (λ (l : List (List ℕ)). before ++ l)
          (passes fits lsn (here ++ rest) r (shown_cut salt lsn (drop place file) rest r is some)
          ∙ ap (λ (l : List ℕ). r ∷ batches_from fits 0 (lsn + m) l) (drop_at here rest m cut)
          ∙ ap (λ (n : ℕ). r ∷ batches_from fits 0 n rest) (let at : lsn + m ≡ base + (place + m) = omega arith in at))
          ∙ sym (append_assoc before (r ∷ []) (batches_from fits 0 (base + (place + m)) rest));
    }

pub gates_go_on : GatesGoOn
gates_go_on = record { first = starts; next = next_gate; kept = kept }
