-- Gates after whole batches, through writes that a stop may tear.
use Rattle.std.proofs.Common.{◌≡◌, ◌≢◌, ℕ, suc, ◌+◌, ◌<◌, ◌≤◌, List, [], ◌∷◌, ◌++◌, length, take, drop, get_or, Some, refl, sym, ◌∙◌, ap, arith, append_assoc, length-append, length-drop, take-append-drop}
use Rattle.std.proofs.lemmas.List.{append-nil, take_at, drop_more, length-take-le, get_or_at, get_or-drop}
use Rattle.std.proofs.lemmas.Nat.{from_be_bytes-to_be_bytes_4}
use Rattle.std.proofs.Math.Seq.{take-append-add}
use Rattle.std.specs.Int.{w32, to_be_bytes, from_be_bytes}
use Rattle.im_log_gate.specs.Batches.{batch_length, batch, in_front, batches_from, batches, spelled, size_of, listed, in_front_of, Reaches}
use Rattle.im_log_gate.proofs.BatchLemmas.{size_of-push, batch_long, Sizes, shut, whole_front, in_front-in_front}

take_add : (n m : ℕ) (xs : List ℕ) → n < length xs → take (n + m) xs ≡ take n xs ++ take m (drop n xs)
take_add n m xs within =
    let is : length (take n xs) ≡ n = length-take-le n xs (omega arith) in
    ap (λ (l : List ℕ). take (n + m) l) (sym (take-append-drop n xs))
    ∙ ap (λ (k : ℕ). take (k + m) (take n xs ++ drop n xs)) (sym is)
    ∙ take-append-add (take n xs) (drop n xs) m

before_is : (first : ℕ) (file : List ℕ) (place : ℕ) (before : List (List ℕ)) → ((rest : List ℕ) → batches first (take place file ++ rest) ≡ in_front before (batches_from 0 rest)) → in_front_of first place file ≡ before
before_is first file place before front = ap listed (front (0 ∷ [])) ∙ append-nil before

-- by the batches that stand in front
pub reaches_by : (first : ℕ) (file : List ℕ) (place : ℕ) (before : List (List ℕ)) → place < length file → place ≡ first + size_of before → ((rest : List ℕ) → batches first (take place file ++ rest) ≡ in_front before (batches_from 0 rest)) → Reaches first file place
reaches_by first file place before within placed front =
    let is = before_is first file place before front in
    record { within = within; placed = placed ∙ ap (λ (bs : List (List ℕ)). first + size_of bs) (sym is); front = λ rest. front rest ∙ ap (λ (bs : List (List ℕ)). in_front bs (batches_from 0 rest)) (sym is) }

-- another file with the same front
pub same_before : (first : ℕ) (file other : List ℕ) (place : ℕ) → take place other ≡ take place file → in_front_of first place other ≡ in_front_of first place file
same_before first file other place same = ap (λ (l : List ℕ). listed (batches first (l ++ 0 ∷ []))) same

pub carried : (first : ℕ) (file other : List ℕ) (place : ℕ) → Reaches first file place → take place other ≡ take place file → place < length other → Reaches first other place
carried first file other place r same within = reaches_by first other place (in_front_of first place file) within r.placed (λ rest. ap (λ (l : List ℕ). batches first (l ++ rest)) same ∙ r.front rest)

module _ (first : ℕ) (file : List ℕ) (place : ℕ) (r : Reaches first file place) where
  abbrev before : List (List ℕ)
  before = in_front_of first place file

  pub read_from : batches first file ≡ in_front before (batches_from 0 (drop place file))
  read_from = ap (batches first) (sym (take-append-drop place file)) ∙ r.front (drop place file)

  abbrev pub behind : List ℕ
  behind = drop (place + 1) file

  at_gate : drop place file ≡ get_or file place 0 ∷ behind
  at_gate = drop_more file place 0 r.within

  pub ends : get_or file place 0 ≢ 1 → batches first file ≡ Some before
  ends closed = read_from ∙ ap (λ (l : List ℕ). in_front before (batches_from 0 l)) at_gate ∙ ap (in_front before) (shut (get_or file place 0) behind closed) ∙ ap Some (append-nil before)

  -- over an open gate with a whole batch
  passes_front : get_or file place 0 ≡ 1 → Sizes behind → (rest : List ℕ) → batches first (take (place + (5 + batch_length behind)) file ++ rest) ≡ in_front (before ++ batch behind ∷ []) (batches_from 0 rest)
  passes_front is_open s rest =
      let n = batch_length behind in
      let cut : take (place + (5 + n)) file ≡ take place file ++ 1 ∷ take (4 + n) behind =
      take_add place (5 + n) file r.within
      ∙ ap (λ (l : List ℕ). take place file ++ take (5 + n) l) at_gate
      ∙ ap (λ (k : ℕ). take place file ++ take k (get_or file place 0 ∷ behind)) (let five : 5 + n ≡ suc (4 + n) = omega arith in five)
      ∙ ap (λ (g : ℕ). take place file ++ g ∷ take (4 + n) behind) is_open in
      ap (λ (l : List ℕ). batches first (l ++ rest)) cut
      ∙ ap (batches first) (append_assoc (take place file) (1 ∷ take (4 + n) behind) rest)
      ∙ r.front (1 ∷ take (4 + n) behind ++ rest)
      ∙ ap (in_front before) (whole_front behind s rest)
      ∙ in_front-in_front before (batch behind ∷ []) (batches_from 0 rest)

  pub passes : get_or file place 0 ≡ 1 → Sizes behind → Reaches first file (place + (5 + batch_length behind))
  passes is_open s =
      reaches_by first file (place + (5 + batch_length behind)) (before ++ batch behind ∷ []) (omega (arith, s.room, length-drop (place + 1) file, r.within))
      (omega (arith, r.placed, size_of-push before (batch behind), batch_long behind s)) (passes_front is_open s)

  pub passes_before : get_or file place 0 ≡ 1 → Sizes behind → in_front_of first (place + (5 + batch_length behind)) file ≡ before ++ batch behind ∷ []
  passes_before is_open s = before_is first file (place + (5 + batch_length behind)) (before ++ batch behind ∷ []) (passes_front is_open s)

-- what stands after a gate once a batch is written there
unfoldable pub put : List ℕ → List ℕ → List ℕ
put records junk = spelled records ++ junk

module _ (records junk : List ℕ) (some : 1 ≤ length records) (most : length records ≤ 16384) where
  put_length : batch_length (put records junk) ≡ length records
  unfolding batch_length put
  put_length = ap (λ (l : List ℕ). from_be_bytes w32 l) (take_at (to_be_bytes w32 (length records)) (records ++ 0 ∷ [] ++ junk) 4 refl) ∙ from_be_bytes-to_be_bytes_4 (length records) (omega (arith, most))

  put_long : length (put records junk) ≡ length records + 5 + length junk
  unfolding put
  put_long = omega (arith, length-append (spelled records) junk, length-append (to_be_bytes w32 (length records) ++ records) (0 ∷ []), length-append (to_be_bytes w32 (length records)) records)

  pub put_sizes : Sizes (put records junk)
  put_sizes = record { some = omega (arith, put_length, some); most = omega (arith, put_length, most); room = omega (arith, put_length, put_long) }

  -- the records and what comes after them, after the length
  put_parts : drop 4 (put records junk) ≡ records ++ 0 ∷ junk
  unfolding put
  put_parts = append_assoc records (0 ∷ []) junk

  pub put_batch_is : batch (put records junk) ≡ records
  put_batch_is = ap (λ (k : ℕ). take k (drop 4 (put records junk))) put_length ∙ ap (λ (l : List ℕ). take (length records) l) put_parts ∙ take_at records (0 ∷ junk) (length records) refl

  -- the next gate
  pub put_next : get_or (put records junk) (4 + length records) 0 ≡ 0
  put_next = sym (get_or-drop 4 (put records junk) (length records) 0) ∙ ap (λ (l : List ℕ). get_or l (length records) 0) put_parts ∙ get_or_at records 0 junk 0 (length records) refl

  put_taken : take (4 + length records) (put records junk) ≡ to_be_bytes w32 (length records) ++ records
  unfolding put
  put_taken =
      ap (λ (l : List ℕ). take (4 + length records) l) (append_assoc (to_be_bytes w32 (length records) ++ records) (0 ∷ []) junk)
      ∙ take_at (to_be_bytes w32 (length records) ++ records) (0 ∷ junk) (4 + length records) (omega (arith, length-append (to_be_bytes w32 (length records)) records))

  -- and what stands in front of it
  pub put_front : take (4 + batch_length (put records junk)) (put records junk) ≡ to_be_bytes w32 (length records) ++ records
  put_front = ap (λ (k : ℕ). take (4 + k) (put records junk)) put_length ∙ put_taken
