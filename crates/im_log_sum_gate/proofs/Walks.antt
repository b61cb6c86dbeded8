-- A walk over the batches of a log.
use Rattle.std.proofs.Common.{◌≡◌, ℕ, ◌+◌, ◌<◌, Bool, List, [], ◌∷◌, ◌++◌, length, take, drop, Some, refl, sym, ◌∙◌, ap, arith, append_assoc, length-append, length-drop, take-append-drop}
use Rattle.std.proofs.lemmas.List.{drop-take, drop_at, length-take-le, take-take}
use Rattle.im_base_disk.specs.Sums.{shows}
use Rattle.im_log_one_sync.specs.Batches.{batches_from, IsLast}
use Rattle.im_log_one_sync.proofs.Laws.{stays}
use Rattle.im_log_one_sync.proofs.Reading.{from_drop, passes}
use Rattle.im_log_third_header.specs.declared.header.ThirdHeader.{ThirdHeader}
use Rattle.im_log_third_header.specs.Header.{HasHeader}
use Rattle.im_log_sum_gate.specs.Batches.{batches, fits, shows_at, Ends, Reaches}
use Rattle.im_log_sum_gate.specs.Laws.{Walks}
use Rattle.im_log_sum_gate.proofs.Strict.{cut, room}

-- the first gate
starts : (f : ℕ → ℕ → List ℕ → Bool) (first base : ℕ) (file : List ℕ) → first < length file → IsLast f first base first file []
starts f first base file within = record {
  within = within;
  front = λ rest some.
      from_drop f first base (take first file ++ rest)
      ∙ ap (batches_from f 0 (base + first)) (drop_at (take first file) rest first (length-take-le first file (omega (arith, within))));
}

pub first_gate : (h : ThirdHeader) (file : List ℕ) → HasHeader h file → Reaches h 47 [] file
first_gate h file has = record { header = has; past = omega arith; last = starts (fits h.salt) 47 h.start.base file has.within }

taken_on : (n m : ℕ) (l : List ℕ) → take (n + m) l ≡ take n l ++ take m (drop n l)
taken_on n m l =
    sym (take-append-drop n (take (n + m) l))
    ∙ (λ i. take-take n (n + m) l (omega arith) i ++ drop-take n m l i)

-- and after a batch that counts the next one
next_last : (salt : List ℕ) (first base place : ℕ) (file r : List ℕ) (before : List (List ℕ)) → IsLast (fits salt) first base place file before → shows (fits salt) base place file ≡ Some r
    → IsLast (fits salt) first base (place + (13 + length r)) file (before ++ r ∷ [])
next_last salt first base place file r before last is =
    let m : ℕ = 13 + length r in
    let lsn : ℕ = base + place in
    let here : List ℕ = take m (drop place file) in
    let roomy : m < length (drop place file) = room salt lsn (drop place file) r is in
    let within : place + m < length file = omega (arith, roomy, length-drop place file) in
    let cut_is : length here ≡ m = length-take-le m (drop place file) (omega (arith, roomy)) in record {
      within = within;
      front = λ rest some.
          ap (λ (l : List ℕ). batches_from (fits salt) first base (l ++ rest)) (taken_on place m file)
          ∙ ap (batches_from (fits salt) first base) (append_assoc (take place file) here rest)
          ∙ last.front (here ++ rest) (omega (arith, some, length-append here rest))
          ∙ ap (λ (l : List (List ℕ)). before ++ l)
          (passes (fits salt) lsn (here ++ rest) r (cut salt lsn (drop place file) rest r is some)
          ∙ ap (λ (l : List ℕ). r ∷ batches_from (fits salt) 0 (lsn + m) l) (drop_at here rest m cut_is)
          ∙ ap (λ (n : ℕ). r ∷ batches_from (fits salt) 0 n rest) (let at : lsn + m ≡ base + (place + m) = omega arith in at))
          ∙ sym (append_assoc before (r ∷ []) (batches_from (fits salt) 0 (base + (place + m)) rest));
    }

pub next_gate : (h : ThirdHeader) (place : ℕ) (before : List (List ℕ)) (file batch : List ℕ) → Reaches h place before file → shows_at h place file ≡ Some batch → Reaches h (place + (13 + length batch)) (before ++ batch ∷ []) file
next_gate h place before file batch reaches is = record {
  header = reaches.header;
  past = let past = reaches.past in omega (arith, past);
  last = next_last h.salt 47 h.start.base place file batch before reaches.last is;
}

-- where the log ends all were passed
pub all_passed : (h : ThirdHeader) (place : ℕ) (before : List (List ℕ)) (file : List ℕ) → Ends h place before file → batches h file ≡ before
all_passed h place before file ends = stays (fits h.salt) h.start.base 47 place file before ends.reaches.last file refl ends.reaches.last.within ends.none

pub walks : Walks
walks = record { first = first_gate; next = next_gate; end = all_passed }
