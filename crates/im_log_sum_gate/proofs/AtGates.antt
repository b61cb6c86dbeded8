-- What is read at a gate.
use Rattle.std.proofs.Common.{◌≡◌, inl, inr, ℕ, suc, ◌+◌, ◌-◌, ◌<◌, ◌≤◌, true, false, ◌&&◌, nat_le, nat_lt, List, ◌∷◌, ◌++◌, length, take, drop, slice_index, Some, None, sym, ◌∙◌, ap, arith, length-drop}
use Rattle.std.specs.Prelude.{◌==◌}
use Rattle.std.specs.Int.{w32, w64, from_be_bytes}
use Rattle.std.proofs.lemmas.Bool.{cases_Bool, cases_lt, le-ltb, lt-ltb}
use Rattle.std.proofs.lemmas.Bool.Decides.{nat_tests}
use Rattle.std.proofs.lemmas.List.{drop-append-le, drop-take, drop_more, length-take-le, take-append-le, take-take}
use Rattle.im_base_disk.specs.Sums.{batch_length, is_whole, pick, records, shown, sum_fits, sum_of}
use Rattle.im_log_third_header.specs.declared.header.ThirdHeader.{ThirdHeader}
use Rattle.im_log_sum_gate.specs.Batches.{fits, shows_at}
use Rattle.im_log_sum_gate.specs.Sealed.{digest_of, is_within, sum_is, HasLength}

whole_some : (behind : List ℕ) → is_whole behind ≡ true → 9 ≤ batch_length behind
whole_some behind whole = grind (arith, nat_tests)

pub whole_long : (behind : List ℕ) → is_whole behind ≡ true → 4 + batch_length behind < length behind
whole_long behind whole = grind (arith, nat_tests)

-- ---- the length

pub whole_short : (behind : List ℕ) → length behind ≤ 13 → is_whole behind ≡ false
whole_short behind short = elim (cases_Bool (is_whole behind)) [
  | inl holds ↦ absurd (let some = whole_some behind holds in let long = whole_long behind holds in omega (arith, some, long, short))
  | inr fails ↦ fails
]

module _ (size rest : ℕ) (head behind : List ℕ) (read : size ≡ from_be_bytes w32 head) (there : head ≡ take 4 behind) (long : length behind + 1 ≡ rest) where
  sized : size ≡ batch_length behind
  unfolding batch_length
  sized = read ∙ ap (from_be_bytes w32) there

  room_alike : nat_lt (size + 5) rest ≡ nat_lt (4 + batch_length behind) (length behind)
  room_alike = elim (cases_lt (size + 5) rest) [
    | inl lt ↦ lt-ltb (size + 5) rest lt ∙ sym (lt-ltb (4 + batch_length behind) (length behind) (omega (arith, lt, sized, long)))
    | inr le ↦ le-ltb (size + 5) rest le ∙ sym (le-ltb (4 + batch_length behind) (length behind) (omega (arith, le, sized, long)))
  ]

  pub whole_test : is_within size rest ≡ is_whole behind
  whole_test = (λ i. (nat_le 9 (sized i) && nat_le (sized i) 16384) && room_alike i)

  pub has_length : is_within size rest ≡ true → HasLength size behind
  has_length holds = record { length = sized; whole = sym whole_test ∙ holds }

-- ---- the sum

module _ (salt : List ℕ) (lsn size : ℕ) (behind batch : List ℕ) (some : 9 ≤ size) (is : batch ≡ take (size + 5) (1 ∷ behind)) (sized : size ≡ batch_length behind) (whole : is_whole behind ≡ true) where
  batch_long : length batch ≡ size + 5
  batch_long = let long = whole_long behind whole in ap (λ (l : List ℕ). length l) is ∙ length-take-le (size + 5) (1 ∷ behind) (omega (arith, long, sized))

  -- what is digested
  front : take (length batch - 8) batch ≡ 1 ∷ take (batch_length behind - 4) behind
  front =
      ap (λ (n : ℕ). take (n - 8) batch) batch_long
      ∙ ap (take (size + 5 - 8)) is
      ∙ take-take (size + 5 - 8) (size + 5) (1 ∷ behind) (omega arith)
      ∙ ap (λ (n : ℕ). take n (1 ∷ behind)) (let same : size + 5 - 8 ≡ suc (batch_length behind - 4) = omega (arith, sized, some) in same)

  -- and the number
  last : take 8 (drop (length batch - 8) batch) ≡ take 8 (drop (batch_length behind - 4) behind)
  last =
      let n : ℕ = size + 5 - 8 in
      let whole_is : take (n + 8) (1 ∷ behind) ≡ batch = ap (λ (k : ℕ). take k (1 ∷ behind)) (let same : n + 8 ≡ size + 5 = omega (arith, some) in same) ∙ sym is in
      ap (λ (k : ℕ). take 8 (drop (k - 8) batch)) batch_long
      ∙ ap (λ (l : List ℕ). take 8 (drop n l)) (sym whole_is)
      ∙ ap (take 8) (drop-take n 8 (1 ∷ behind))
      ∙ take-take 8 8 (drop n (1 ∷ behind)) (omega arith)
      ∙ ap (λ (k : ℕ). take 8 (drop k (1 ∷ behind))) (let same : n ≡ suc (batch_length behind - 4) = omega (arith, sized, some) in same)

  pub sum_there : sum_is salt lsn batch ≡ sum_fits salt lsn 1 behind
  unfolding sum_of
  sum_there = (λ i. from_be_bytes w64 (last i) == digest_of salt lsn (front i))

  records_there : take (size - 8) (drop 5 batch) ≡ records behind
  records_there =
      let whole_is : take (5 + size) (1 ∷ behind) ≡ batch = ap (λ (k : ℕ). take k (1 ∷ behind)) (let same : 5 + size ≡ size + 5 = omega arith in same) ∙ sym is in
      ap (λ (l : List ℕ). take (size - 8) (drop 5 l)) (sym whole_is)
      ∙ ap (take (size - 8)) (drop-take 5 size (1 ∷ behind))
      ∙ take-take (size - 8) size (drop 4 behind) (omega arith)
      ∙ ap (λ (n : ℕ). take (n - 8) (drop 4 behind)) sized

  pub counted : sum_is salt lsn batch ≡ true → shown (fits salt) lsn (1 ∷ behind) ≡ Some (take (size - 8) (drop 5 batch))
  counted holds =
      let fit : sum_fits salt lsn 1 behind ≡ true = sym sum_there ∙ holds in
      (λ i. pick (whole i && fit i) (records behind)) ∙ ap Some (sym records_there)

  pub not_counted : sum_is salt lsn batch ≡ false → shown (fits salt) lsn (1 ∷ behind) ≡ None
  not_counted fails =
      let fit : sum_fits salt lsn 1 behind ≡ false = sym sum_there ∙ fails in
      (λ i. pick (whole i && fit i) (records behind))

-- ---- a file

module _ (h : ThirdHeader) (place : ℕ) (file : List ℕ) (within : place < length file) (opened : slice_index file place ≡ 1) where
  from : drop place file ≡ 1 ∷ drop (place + 1) file
  from = drop_more file place 0 within ∙ ap (λ (g : ℕ). g ∷ drop (place + 1) file) opened

  pub no_batch : is_whole (drop (place + 1) file) ≡ false → shows_at h place file ≡ None
  no_batch fails = ap (shown (fits h.salt) (h.start.base + place)) from ∙ (λ i. pick (fails i && (sum_fits h.salt (h.start.base + place) 1 (drop (place + 1) file))) (records (drop (place + 1) file)))

  -- the batch as it was read
  module _ (size : ℕ) (batch : List ℕ) (some : 9 ≤ size) (sized : size ≡ batch_length (drop (place + 1) file)) (whole : is_whole (drop (place + 1) file) ≡ true) (read : batch ≡ take (size + 5) (drop place file)) where
    batch_from : batch ≡ take (size + 5) (1 ∷ drop (place + 1) file)
    batch_from = read ∙ ap (take (size + 5)) from

    pub shown_there : sum_is h.salt (h.start.base + place) batch ≡ true → shows_at h place file ≡ Some (take (size - 8) (drop 5 batch))
    shown_there holds =
        ap (shown (fits h.salt) (h.start.base + place)) from ∙ counted h.salt (h.start.base + place) size (drop (place + 1) file) batch some batch_from sized whole holds

    pub none_there : sum_is h.salt (h.start.base + place) batch ≡ false → shows_at h place file ≡ None
    none_there fails =
        ap (shown (fits h.salt) (h.start.base + place)) from ∙ not_counted h.salt (h.start.base + place) size (drop (place + 1) file) batch some batch_from sized whole fails

-- the records at the front of a buffer
pub in_buffer : (batch rest : List ℕ) (size : ℕ) → length batch ≡ size + 5 → 9 ≤ size → take (size - 8) (drop 5 (batch ++ rest)) ≡ take (size - 8) (drop 5 batch)
in_buffer batch rest size long some =
    ap (take (size - 8)) (drop-append-le 5 batch rest (omega (arith, long)))
    ∙ take-append-le (size - 8) (drop 5 batch) rest (omega (arith, long, some, length-drop 5 batch))

-- the batch as it was read into a buffer
pub batch_read : (buffer batch file : List ℕ) (size place : ℕ) → 16389 ≤ length buffer → size ≤ 16384 → batch ≡ take (length (take (size + 5) buffer)) (drop place file) → batch ≡ take (size + 5) (drop place file)
batch_read buffer batch file size place room most is = is ∙ ap (λ (n : ℕ). take n (drop place file)) (length-take-le (size + 5) buffer (omega (arith, room, most)))

pub read_long : (file : List ℕ) (size place : ℕ) (batch : List ℕ) → place < length file → HasLength size (drop (place + 1) file) → 9 ≤ size → batch ≡ take (size + 5) (drop place file) → length batch ≡ size + 5
read_long file size place batch within has some is =
    let long = whole_long (drop (place + 1) file) has.whole in
    let sized = has.length in
    ap (λ (l : List ℕ). length l) is ∙ length-take-le (size + 5) (drop place file) (omega (arith, within, long, sized, length-drop (place + 1) file, length-drop place file))
