-- What the bytes that are read at a gate say.
use Rattle.std.proofs.Common.{◌≡◌, ◌≢◌, ◌⊎◌, inl, inr, ℕ, ◌+◌, ◌-◌, ◌<◌, ◌≤◌, true, false, List, [], ◌∷◌, ◌++◌, length, take, drop, get_or, Some, None, refl, sym, ◌∙◌, ap, subst, arith, length-drop}
use Rattle.std.proofs.lemmas.List.{take_at, drop_all, drop_more, get_or-take, get_or-drop, drop-drop}
use Rattle.std.specs.Int.{w32, from_be_bytes}
use Rattle.byteorder.specs.Endian.{big_number}
use Rattle.im_base_types.specs.declared.file_id.FileId.{FileId}
use Rattle.im_base_disk.specs.Disk.{Files}
use Rattle.im_log_gate.specs.Batches.{batch_length, batch, is_whole, in_front, batches_from, Reaches}
use Rattle.im_log_gate.proofs.BatchLemmas.{Sizes, sizes, whole, from_drop, shut, opened, refused, too_short, too_small, too_large}
use Rattle.im_log_gate.proofs.Places.{passes}

-- bytes that were read after calls that left what a read gives
pub read_at : (file : FileId) (old mid : Files) → mid ≡ old → (at n : ℕ) (bytes : List ℕ) → bytes ≡ take n (drop at (mid file)) → bytes ≡ take n (drop at (old file))
read_at file old mid same at n bytes is = is ∙ ap (λ (f : Files). take n (drop at (f file))) same

module _ (file : List ℕ) (place : ℕ) where
  pub gate_is : (gate : List ℕ) → gate ≡ take 1 (drop place file) → get_or gate 0 0 ≡ get_or file place 0
  gate_is gate is = ap (λ (l : List ℕ). get_or l 0 0) is ∙ get_or-take 1 (drop place file) 0 0 (omega arith) ∙ get_or-drop place file 0 0 ∙ ap (λ (k : ℕ). get_or file k 0) (let same : place + 0 ≡ place = omega arith in same)

  pub length_is : (bytes : List ℕ) → bytes ≡ take 4 (drop (place + 1) file) → batch_length (drop (place + 1) file) ≡ big_number 4 bytes
  unfolding batch_length
  length_is bytes is =
      let read : from_be_bytes w32 bytes ≡ big_number 4 bytes = omega arith in
      ap (λ (l : List ℕ). from_be_bytes w32 l) (sym is) ∙ read

  pub missing : length file ≤ place → batches_from place file ≡ None
  missing past = from_drop place file ∙ ap (batches_from 0) (drop_all place file past)

  module _ (within : place < length file) where
    at_gate : batches_from place file ≡ batches_from 0 (get_or file place 0 ∷ drop (place + 1) file)
    at_gate = from_drop place file ∙ ap (batches_from 0) (drop_more file place 0 within)

    pub ends_here : get_or file place 0 ≢ 1 → batches_from place file ≡ Some []
    ends_here closed = at_gate ∙ shut (get_or file place 0) (drop (place + 1) file) closed

    pub broken : get_or file place 0 ≡ 1 → is_whole (drop (place + 1) file) ≡ false → batches_from place file ≡ None
    broken one not_whole = at_gate ∙ refused (get_or file place 0) (drop (place + 1) file) one not_whole

    pub cut_short : get_or file place 0 ≡ 1 → length file - place - 1 < 4 → batches_from place file ≡ None
    cut_short one short = broken one (too_short (drop (place + 1) file) (batch_length (drop (place + 1) file)) refl (omega (arith, length-drop (place + 1) file, within)))

    pub fits : (n : ℕ) → batch_length (drop (place + 1) file) ≡ n → n ≢ 0 → n ≤ 16384 → n + 4 < length file - place - 1 → is_whole (drop (place + 1) file) ≡ true
    fits n is some most room = whole (drop (place + 1) file) record { some = omega (arith, is, some); most = omega (arith, is, most); room = omega (arith, is, length-drop (place + 1) file, room) }

    pub out_of_range : (n : ℕ) → batch_length (drop (place + 1) file) ≡ n → (n ≡ 0) ⊎ ((16384 < n) ⊎ (length file - place - 1 ≤ n + 4)) → is_whole (drop (place + 1) file) ≡ false
    out_of_range n is (inl none) = let none_is : batch_length (drop (place + 1) file) ≡ 0 = is ∙ none in too_small (drop (place + 1) file) none_is
    out_of_range n is (inr (inl big)) = too_large (drop (place + 1) file) (omega (arith, is, big))
    out_of_range n is (inr (inr short)) = too_short (drop (place + 1) file) n is (omega (arith, short, length-drop (place + 1) file))

    pub steps : get_or file place 0 ≡ 1 → (s : Sizes (drop (place + 1) file)) → batches_from place file ≡ in_front (batch (drop (place + 1) file) ∷ []) (batches_from (place + (batch_length (drop (place + 1) file) + 5)) file)
    steps one s =
        let n = batch_length (drop (place + 1) file) in
        at_gate ∙ opened (get_or file place 0) (drop (place + 1) file) one (whole (drop (place + 1) file) s)
        ∙ ap (in_front (batch (drop (place + 1) file) ∷ []))
        (from_drop (4 + n) (drop (place + 1) file) ∙ ap (batches_from 0) (drop-drop (4 + n) (place + 1) file ∙ ap (λ (k : ℕ). drop k file) (let same : place + 1 + (4 + n) ≡ place + (n + 5) = omega arith in same))
        ∙ sym (from_drop (place + (n + 5)) file))

-- over a batch that was read
module _ (first : ℕ) (file : List ℕ) (place : ℕ) (r : Reaches first file place) (one : get_or file place 0 ≡ 1) (counts : is_whole (drop (place + 1) file) ≡ true) (size : ℕ) (is : batch_length (drop (place + 1) file) ≡ size) (new : List ℕ) (same : new ≡ file) where
  pub next_is : (records : List ℕ) → records ≡ take size (drop (place + 5) file) → batches_from place file ≡ in_front (records ∷ []) (batches_from (place + (size + 5)) new)
  next_is records read =
      let behind = drop (place + 1) file in
      let at : drop 4 behind ≡ drop (place + 5) file = drop-drop 4 (place + 1) file ∙ ap (λ (k : ℕ). drop k file) (let five : place + 1 + 4 ≡ place + 5 = omega arith in five) in
      let all : batch behind ≡ records = ap (λ (k : ℕ). take k (drop 4 behind)) is ∙ ap (λ (l : List ℕ). take size l) at ∙ sym read in
      steps file place r.within one (sizes behind counts)
      ∙ ap (λ (l : List ℕ). in_front (l ∷ []) (batches_from (place + (batch_length behind + 5)) file)) all
      ∙ ap (λ (k : ℕ). in_front (records ∷ []) (batches_from (place + (k + 5)) file)) is
      ∙ ap (λ (f : List ℕ). in_front (records ∷ []) (batches_from (place + (size + 5)) f)) (sym same)

  -- read to the front of a longer buffer
  pub next_in_front : (found rest : List ℕ) → length found ≡ size → found ≡ take size (drop (place + 5) file) → batches_from place file ≡ in_front (take size (found ++ rest) ∷ []) (batches_from (place + (size + 5)) new)
  next_in_front found rest long read = next_is (take size (found ++ rest)) (take_at found rest size long ∙ read)

  pub moves_on : Reaches first new (place + (size + 5))
  moves_on =
      let behind = drop (place + 1) file in
      let at : place + (5 + batch_length behind) ≡ place + (size + 5) = omega (arith, is) in
      subst (λ (f : List ℕ). Reaches first f (place + (size + 5))) (sym same) (subst (λ (k : ℕ). Reaches first file k) at (passes first file place r one (sizes behind counts)))
