-- What files stand for that have whole batches in front of a gate.
use Rattle.std.proofs.Common.{◌≡◌, ◌≢◌, ℕ, zero, suc, ◌+◌, ◌<◌, ◌≤◌, true, false, List, [], ◌∷◌, ◌++◌, length, take, drop, Option, Some, None, refl, sym, ◌∙◌, ap, arith, append_assoc, length-append, length-drop}
use Rattle.std.proofs.lemmas.Bool.Decides.{nat_tests}
use Rattle.std.proofs.lemmas.List.{drop_at, take_all, take-append-le, drop-append-le, drop-take, take-take, length-take-le}
use Rattle.std.specs.Int.{w32, from_be_bytes}
use Rattle.im_log_gate.specs.Batches.{size_of, batch_length, batch, is_whole, in_front, batches_from}

pub from_drop : (place : ℕ) (file : List ℕ) → batches_from place file ≡ batches_from 0 (drop place file)
from_drop zero [] = refl
from_drop (suc place) [] = refl
from_drop zero (byte ∷ file) = refl
from_drop (suc place) (byte ∷ file) = from_drop place file

pub shut : (gate : ℕ) (behind : List ℕ) → gate ≢ 1 → batches_from 0 (gate ∷ behind) ≡ Some []
shut gate behind not_one = grind (arith, nat_tests)

pub opened : (gate : ℕ) (behind : List ℕ) → gate ≡ 1 → is_whole behind ≡ true → batches_from 0 (gate ∷ behind) ≡ in_front (batch behind ∷ []) (batches_from (4 + batch_length behind) behind)
opened gate behind one whole = grind (arith, nat_tests)

pub refused : (gate : ℕ) (behind : List ℕ) → gate ≡ 1 → is_whole behind ≡ false → batches_from 0 (gate ∷ behind) ≡ None
refused gate behind one broken = grind (arith, nat_tests)

pub in_front-in_front : (first second : List (List ℕ)) (rest : Option (List (List ℕ))) → in_front first (in_front second rest) ≡ in_front (first ++ second) rest
in_front-in_front first second None = refl
in_front-in_front first second (Some rest) = ap Some (sym (append_assoc first second rest))

-- what a whole batch says of its length
pub record Sizes (behind : List ℕ) : Type 0 where
  pub some : 1 ≤ batch_length behind
  pub most : batch_length behind ≤ 16384
  pub room : 4 + batch_length behind < length behind

pub sizes : (behind : List ℕ) → is_whole behind ≡ true → Sizes behind
sizes behind whole = record { some = grind (arith, nat_tests); most = grind (arith, nat_tests); room = grind (arith, nat_tests) }

pub whole : (behind : List ℕ) → Sizes behind → is_whole behind ≡ true
whole behind s = grind (arith, nat_tests, s.some, s.most, s.room)

pub same_length : (some other : List ℕ) → take 4 some ≡ take 4 other → batch_length some ≡ batch_length other
unfolding batch_length
same_length some other same = ap (λ (l : List ℕ). from_be_bytes w32 l) same

pub too_small : (behind : List ℕ) → batch_length behind ≡ 0 → is_whole behind ≡ false
too_small behind none = grind (arith, nat_tests)

pub too_large : (behind : List ℕ) → 16384 < batch_length behind → is_whole behind ≡ false
too_large behind large = grind (arith, nat_tests)

-- the next gate has to be there
pub too_short : (behind : List ℕ) (n : ℕ) → batch_length behind ≡ n → length behind ≤ 4 + n → is_whole behind ≡ false
too_short behind n is short = grind (arith, nat_tests)

module _ (behind : List ℕ) (s : Sizes behind) where
  abbrev front : List ℕ
  front = take (4 + batch_length behind) behind

  front_long : length front ≡ 4 + batch_length behind
  front_long = length-take-le (4 + batch_length behind) behind (omega (arith, s.room))

  front_length : (rest : List ℕ) → batch_length (front ++ rest) ≡ batch_length behind
  front_length rest = same_length (front ++ rest) behind (take-append-le 4 front rest (omega (arith, front_long)) ∙ take-take 4 (4 + batch_length behind) behind (omega arith))

  front_batch : (rest : List ℕ) → batch (front ++ rest) ≡ batch behind
  front_batch rest =
      let n = batch_length behind in
      let cut : drop 4 (front ++ rest) ≡ drop 4 front ++ rest = drop-append-le 4 front rest (omega (arith, front_long)) in
      let inner : drop 4 front ≡ take n (drop 4 behind) = drop-take 4 n behind in
      let inner_long : length (drop 4 front) ≡ n = omega (arith, length-drop 4 front, front_long) in
      ap (λ (k : ℕ). take k (drop 4 (front ++ rest))) (front_length rest)
      ∙ ap (λ (l : List ℕ). take n l) cut
      ∙ take-append-le n (drop 4 front) rest (omega (arith, inner_long))
      ∙ take_all n (drop 4 front) (omega (arith, inner_long))
      ∙ inner

  -- a whole batch counts, whatever comes after it
  pub whole_front : (rest : List ℕ) → batches_from 0 (1 ∷ front ++ rest) ≡ in_front (batch behind ∷ []) (batches_from 0 rest)
  whole_front [] = refused 1 (front ++ []) refl (too_short (front ++ []) (batch_length behind) (front_length []) (omega (arith, length-append front [], front_long)))
  whole_front (next ∷ rest) =
      let n = batch_length behind in
      let all = front ++ next ∷ rest in
      let is : batch_length all ≡ n = front_length (next ∷ rest) in
      let fine : Sizes all = record { some = omega (arith, is, s.some); most = omega (arith, is, s.most); room = omega (arith, is, length-append front (next ∷ rest), front_long) } in
      let last : batches_from (4 + batch_length all) all ≡ batches_from 0 (next ∷ rest) =
      from_drop (4 + batch_length all) all ∙ ap (λ (k : ℕ). batches_from 0 (drop (4 + k) all)) is ∙ ap (batches_from 0) (drop_at front (next ∷ rest) (4 + n) front_long) in
      opened 1 all refl (whole all fine)
      ∙ ap (λ (l : List ℕ). in_front (l ∷ []) (batches_from (4 + batch_length all) all)) (front_batch (next ∷ rest))
      ∙ ap (in_front (batch behind ∷ [])) last

pub size_of-push : (first : List (List ℕ)) (last : List ℕ) → size_of (first ++ last ∷ []) ≡ size_of first + (5 + length last)
size_of-push [] last = omega arith
size_of-push (b ∷ first) last = omega (arith, size_of-push first last)

pub batch_long : (behind : List ℕ) → Sizes behind → length (batch behind) ≡ batch_length behind
batch_long behind s = length-take-le (batch_length behind) (drop 4 behind) (omega (arith, s.room, length-drop 4 behind))
