-- A batch that is sealed in a room.
use Rattle.std.proofs.Common.{◌≡◌, ℕ, ◌+◌, ◌-◌, ◌^◌, ◌<◌, ◌≤◌, List, [], ◌∷◌, ◌++◌, length, take, drop, sym, ◌∙◌, ap, subst, arith, append_assoc, append-nil, length-append, length-drop, take-append-drop}
use Rattle.std.specs.Int.{w32, w64, to_be_bytes}
use Rattle.std.specs.Hash.DefaultHasher as sip
use Rattle.std.proofs.lemmas.List.{drop-append-le, drop_at, length-take-le, take_at}
use Rattle.std.proofs.lemmas.Nat.{from_be_bytes-to_be_bytes_4}
use Rattle.im_base_disk.specs.Sums.{batch_length, sum_of}
use Rattle.im_log_sum_gate.specs.Sealed.{digest_of, worded, sealed, MaySeal}

-- the digest that is computed of the gate, and of what comes after it
pub summed : (salt : List ℕ) (lsn : ℕ) (records batch : List ℕ) (result : ℕ) → length records ≤ 16376 → batch ≡ 1 ∷ worded records → result ≡ digest_of salt lsn batch → result ≡ sum_of salt lsn 1 (worded records)
unfolding sum_of batch_length
summed salt lsn records batch result most is found =
    let size : batch_length (worded records) ≡ length records + 8 = from_be_bytes-to_be_bytes_4 (length records + 8) (omega (arith, most)) in
    let all : take (batch_length (worded records) - 4) (worded records) ≡ worded records =
    ap (λ (n : ℕ). take (n - 4) (worded records)) size
    ∙ ap (take (length records + 8 - 4)) (sym (append-nil (worded records)))
    ∙ take_at (worded records) [] (length records + 8 - 4) (omega arith) in
    found ∙ ap (λ (l : List ℕ). digest_of salt lsn l) (is ∙ ap (λ (l : List ℕ). 1 ∷ l) (sym all))

module _ (old : List ℕ) (at end : ℕ) (some : at + 6 ≤ end) (most : end ≤ at + 16381) (within : end + 9 ≤ length old) where
  abbrev records : List ℕ
  records = drop (at + 5) (take end old)

  taken : length (take end old) ≡ end
  taken = length-take-le end old (omega (arith, within))

  pub records_long : length records ≡ end - (at + 5)
  records_long = omega (arith, length-drop (at + 5) (take end old), taken)

  abbrev front : List ℕ
  front = take at old ++ 1 ∷ to_be_bytes w32 (end - at + 3)

  at_long : length (take at old) ≡ at
  at_long = length-take-le at old (omega (arith, within, some))

  front_long : length front ≡ at + 5
  front_long = omega (arith, length-append (take at old) (1 ∷ to_be_bytes w32 (end - at + 3)), at_long)

  rest_is : drop (at + 5) old ≡ records ++ drop end old
  rest_is = ap (drop (at + 5)) (sym (take-append-drop end old)) ∙ drop-append-le (at + 5) (take end old) (drop end old) (omega (arith, taken, some))

  -- with its gate and its length
  module _ (mid : List ℕ) (put : mid ≡ take at old ++ 1 ∷ to_be_bytes w32 (end - at + 3) ++ drop (at + 5) old) where
    mid_is : mid ≡ front ++ (records ++ drop end old)
    mid_is = put ∙ ap (λ (l : List ℕ). front ++ l) rest_is

    sized : end - at + 3 ≡ length records + 8
    sized = omega (arith, records_long, some)

    words_are : worded records ≡ to_be_bytes w32 (end - at + 3) ++ records
    words_are = ap (λ (n : ℕ). to_be_bytes w32 n ++ records) (sym sized)

    pub batch_is : take (end - at) (drop at mid) ≡ 1 ∷ worded records
    batch_is =
        let here : List ℕ = 1 ∷ to_be_bytes w32 (end - at + 3) ++ records in
        let behind : drop at mid ≡ here ++ drop end old =
        ap (drop at) (put ∙ append_assoc (take at old) (1 ∷ to_be_bytes w32 (end - at + 3)) (drop (at + 5) old))
        ∙ drop_at (take at old) (1 ∷ to_be_bytes w32 (end - at + 3) ++ drop (at + 5) old) at at_long
        ∙ ap (λ (l : List ℕ). 1 ∷ to_be_bytes w32 (end - at + 3) ++ l) rest_is
        ∙ sym (append_assoc (1 ∷ to_be_bytes w32 (end - at + 3)) records (drop end old)) in
        ap (take (end - at)) behind
        ∙ take_at here (drop end old) (end - at) (omega (arith, records_long, some))
        ∙ ap (λ (l : List ℕ). 1 ∷ l) (sym words_are)

    mid_front : take end mid ≡ front ++ records
    mid_front =
        ap (take end) (mid_is ∙ sym (append_assoc front records (drop end old)))
        ∙ take_at (front ++ records) (drop end old) end (omega (arith, length-append front records, front_long, records_long, some))

    -- and its sum
    module _ (salt : List ℕ) (lsn sum : ℕ) (summed_is : sum ≡ sum_of salt lsn 1 (worded records)) (new : List ℕ) (put_end : new ≡ take end mid ++ to_be_bytes w64 sum ++ 0 ∷ drop (end + 9) mid) where
      -- what stands in front of the closed gate
      abbrev sealed_here : List ℕ
      sealed_here = front ++ records ++ to_be_bytes w64 sum

      here_long : length sealed_here ≡ end + 8
      here_long = omega (arith, length-append (front ++ records) (to_be_bytes w64 sum), length-append front records, front_long, records_long, some)

      here_is : sealed_here ≡ take at old ++ sealed salt lsn records
      here_is =
          append_assoc front records (to_be_bytes w64 sum)
          ∙ append_assoc (take at old) (1 ∷ to_be_bytes w32 (end - at + 3)) (records ++ to_be_bytes w64 sum)
          ∙ ap (λ (n : ℕ). take at old ++ (1 ∷ (to_be_bytes w32 n ++ (records ++ to_be_bytes w64 sum)))) sized
          ∙ ap (λ (s : ℕ). take at old ++ (1 ∷ (to_be_bytes w32 (length records + 8) ++ (records ++ to_be_bytes w64 s)))) summed_is
          ∙ ap (λ (l : List ℕ). take at old ++ (1 ∷ l)) (sym (append_assoc (to_be_bytes w32 (length records + 8)) records (to_be_bytes w64 (sum_of salt lsn 1 (worded records)))))

      new_is : new ≡ (sealed_here ++ 0 ∷ []) ++ drop (end + 9) mid
      new_is = put_end ∙ ap (λ (l : List ℕ). l ++ to_be_bytes w64 sum ++ 0 ∷ drop (end + 9) mid) mid_front ∙ sym (append_assoc sealed_here (0 ∷ []) (drop (end + 9) mid))

      pub sealed_front : take (end + 9) new ≡ take at old ++ sealed salt lsn records ++ 0 ∷ []
      sealed_front =
          ap (take (end + 9)) new_is
          ∙ take_at (sealed_here ++ 0 ∷ []) (drop (end + 9) mid) (end + 9) (omega (arith, length-append sealed_here (0 ∷ []), here_long))
          ∙ ap (λ (l : List ℕ). l ++ 0 ∷ []) here_is

      pub may_seal : sum < 2 ^ 64 → MaySeal salt lsn records
      may_seal small = record { some = omega (arith, records_long, some); most = omega (arith, records_long, some, most); small = subst (λ (n : ℕ). n < 2 ^ 64) summed_is small }
