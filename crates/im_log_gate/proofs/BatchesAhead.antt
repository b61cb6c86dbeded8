-- What bytes say that were read from a gate on.
use Rattle.std.proofs.Common.{◌≡◌, ◌≢◌, ◌-◌, ◌+◌, ◌≤◌, ℕ, true, List, [], ◌∷◌, length, take, drop, get_or, min, refl, ◌∙◌, ap, arith, length-drop, length-take}
use Rattle.std.proofs.lemmas.List.{drop-drop, drop-take, get_or-drop, get_or-take, take-take}
use Rattle.byteorder.specs.Endian.{big_number}
use Rattle.im_log_gate.specs.Batches.{batch_length, batches_from, in_front, is_whole, BeginsWhole, Reaches}
use Rattle.im_log_gate.proofs.BatchLemmas.{same_length, whole}
use Rattle.im_log_gate.proofs.Reading.{length_is, moves_on, next_is}

-- the length after the gate at their front
pub length_in_front : (bytes : List ℕ) → batch_length (drop 1 bytes) ≡ big_number 4 (take 4 (drop 1 bytes))
length_in_front bytes = length_is bytes 0 (take 4 (drop 1 bytes)) refl

module _ (file : List ℕ) (place : ℕ) (ahead : List ℕ) (is : ahead ≡ take (length ahead) (drop place file)) where
  long : length ahead ≤ length file - place
  long =
      let cut : length (take (length ahead) (drop place file)) ≡ min (length ahead) (length (drop place file)) = length-take (length ahead) (drop place file) in
      omega (arith, ap length is, cut, length-drop place file)

  -- some of them
  from_on : (k m : ℕ) → k + m ≤ length ahead → take m (drop k ahead) ≡ take m (drop (place + k) file)
  from_on k m le =
      let left : ℕ = length ahead - k in
      let n : length ahead ≡ k + left = omega (arith, le) in
      ap (λ (l : List ℕ). take m (drop k l)) (is ∙ ap (λ (j : ℕ). take j (drop place file)) n)
      ∙ ap (λ (l : List ℕ). take m l) (drop-take k left (drop place file))
      ∙ take-take m left (drop k (drop place file)) (omega (arith, le, n))
      ∙ ap (λ (l : List ℕ). take m l) (drop-drop k place file)

  gate_ahead : 1 ≤ length ahead → get_or ahead 0 0 ≡ get_or file place 0
  gate_ahead some =
      ap (λ (l : List ℕ). get_or l 0 0) is ∙ get_or-take (length ahead) (drop place file) 0 0 some ∙ get_or-drop place file 0 0
      ∙ ap (λ (k : ℕ). get_or file k 0) (let same : place + 0 ≡ place = omega arith in same)

  -- the gate is closed
  pub closed_there : 1 ≤ length ahead → get_or ahead 0 0 ≢ 1 → get_or file place 0 ≢ 1
  closed_there some closed one = closed (gate_ahead some ∙ one)

  module _ (first size : ℕ) (r : Reaches first file place) (sized : size ≡ batch_length (drop 1 ahead)) (begins : BeginsWhole ahead) where
    open_there : get_or file place 0 ≡ 1
    open_there =
        let one : get_or ahead 0 0 ≡ 1 = begins.gate in
        let same : get_or ahead 0 0 ≡ get_or file place 0 = gate_ahead (omega (arith, begins.room)) in
        omega (arith, same, one)

    length_there : batch_length (drop (place + 1) file) ≡ size
    length_there =
        let same : batch_length (drop 1 ahead) ≡ batch_length (drop (place + 1) file) =
        same_length (drop 1 ahead) (drop (place + 1) file) (from_on 1 4 (omega (arith, begins.some, begins.room))) in
        omega (arith, same, sized)

    whole_there : is_whole (drop (place + 1) file) ≡ true
    whole_there = whole (drop (place + 1) file)
        (record {
          some = omega (arith, length_there, sized, begins.some);
          most = omega (arith, length_there, sized, begins.most);
          room = omega (arith, length_there, sized, length-drop (place + 1) file, long, begins.room);
        })

    -- the batch after the gate is among them
    pub next_ahead : batches_from place file ≡ in_front (take size (drop 5 ahead) ∷ []) (batches_from (place + (size + 5)) file)
    next_ahead = next_is first file place r open_there whole_there size length_there file refl (take size (drop 5 ahead)) (from_on 5 size (omega (arith, sized, begins.room)))

    pub goes_past : Reaches first file (place + (size + 5))
    goes_past = moves_on first file place r open_there whole_there size length_there file refl
