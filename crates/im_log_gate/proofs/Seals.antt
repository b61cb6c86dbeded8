-- A batch is ended in a room where several are laid out.
use Rattle.std.proofs.Common.{◌≡◌, ℕ, ◌+◌, ◌-◌, ◌<◌, ◌≤◌, List, [], ◌∷◌, ◌++◌, length, take, drop, set, sym, ◌∙◌, ap, arith, append_assoc, length-append, length-drop}
use Rattle.std.proofs.lemmas.List.{take_more_set, length-take-le, drop-take}
use Rattle.std.proofs.lemmas.List.Elements.{All-push}
use Rattle.std.proofs.Math.Seq.{take-append-add}
use Rattle.std.specs.Int.{w32, to_be_bytes}
use Rattle.im_log_gate.specs.Batches.{Fits, gated, IsFilled, IsLaid}
use Rattle.im_log_gate.proofs.Several.{gate_of, one_more_gated}

module _ (room mid : List ℕ) (start end size gate : ℕ) (some : start + 5 ≤ end) (most : end ≤ start + 16388) (within : end < length room) (sized : size ≡ end - start - 4)
    (long : length mid ≡ length room) (is : mid ≡ take start room ++ to_be_bytes w32 size ++ drop (start + 4) room) where
  abbrev records : List ℕ
  records = drop (start + 4) (take end room)

  abbrev head : List ℕ
  head = take start room ++ to_be_bytes w32 size

  head_long : length head ≡ start + 4
  head_long = omega (arith, length-append (take start room) (to_be_bytes w32 size), length-take-le start room (omega (arith, some, within)))

  records_long : length records ≡ size
  records_long = omega (arith, length-drop (start + 4) (take end room), length-take-le end room (omega (arith, within)), sized, some)

  end_is : end ≡ start + 4 + size
  end_is = omega (arith, sized, some)

  front_is : take end mid ≡ head ++ records
  front_is =
      ap (λ (l : List ℕ). take end l) is
      ∙ ap (λ (k : ℕ). take k (head ++ drop (start + 4) room)) (let e : end ≡ length head + size = omega (arith, end_is, head_long) in e)
      ∙ take-append-add head (drop (start + 4) room) size
      ∙ ap (λ (l : List ℕ). head ++ l) (sym (drop-take (start + 4) size room) ∙ ap (λ (k : ℕ). drop (start + 4) (take k room)) (sym end_is))

  new_is : take (end + 1) (set mid end gate) ≡ head ++ records ++ gate ∷ []
  new_is = take_more_set mid end gate (omega (arith, within, long)) ∙ ap (λ (l : List ℕ). l ++ gate ∷ []) front_is

  module _ (bs : List (List ℕ)) (filled : IsFilled bs (take start room)) where
    more_is : 1 ∷ take (end + 1) (set mid end gate) ≡ gated (bs ++ records ∷ []) ++ gate ∷ []
    more_is =
        ap (λ (l : List ℕ). 1 ∷ l) new_is
        ∙ ap (λ (l : List ℕ). l ++ to_be_bytes w32 size ++ records ++ gate ∷ []) filled.is
        ∙ ap (λ (l : List ℕ). l ++ records ++ gate ∷ []) (append_assoc (gated bs) (1 ∷ []) (to_be_bytes w32 size))
        ∙ ap (λ (l : List ℕ). l ++ gate ∷ []) (append_assoc (gated bs) (1 ∷ to_be_bytes w32 size) records)
        ∙ ap (λ (n : ℕ). gated bs ++ (1 ∷ to_be_bytes w32 n ++ records) ++ gate ∷ []) (sym records_long)
        ∙ ap (λ (l : List ℕ). l ++ gate ∷ []) (sym (one_more_gated bs records))

    fits : Fits records
    fits = record { some = omega (arith, records_long, sized, some); most = omega (arith, records_long, sized, most) }

    pub filled_more : gate ≡ 1 → IsFilled (bs ++ records ∷ []) (take (end + 1) (set mid end gate))
    filled_more one = record { fit = All-push Fits bs records filled.fit fits; is = more_is ∙ ap (λ (k : ℕ). gated (bs ++ records ∷ []) ++ k ∷ []) one }

    some_more : 1 ≤ length (bs ++ records ∷ [])
    some_more = omega (arith, length-append bs (records ∷ []))

    pub laid_more : gate ≡ 0 → IsLaid (bs ++ records ∷ []) (take (end + 1) (set mid end gate))
    laid_more none = record {
      some = some_more;
      fit = All-push Fits bs records filled.fit fits;
      is =
          ap (λ (l : List ℕ). drop 1 l) (more_is ∙ ap (λ (l : List ℕ). l ++ gate ∷ []) (gate_of (bs ++ records ∷ []) some_more))
          ∙ ap (λ (k : ℕ). drop 1 (gated (bs ++ records ∷ [])) ++ k ∷ []) none;
    }
