-- How a log of the third format reads on.
use Rattle.std.proofs.Common.{◌≡◌, ◌⊎◌, inl, inr, ℕ, zero, suc, ◌+◌, ◌-◌, ◌<◌, ◌≤◌, Bool, true, false, ◌&&◌, if◌then◌else◌, List, [], ◌∷◌, length, drop, get_or, Option, Some, None, refl, sym, ◌∙◌, ap, arith, length-drop}
use Rattle.std.proofs.lemmas.Bool.{and_parts}
use Rattle.std.proofs.lemmas.Bool.Decides.{nat_tests}
use Rattle.std.proofs.lemmas.List.{length-take-le}
use Rattle.std.proofs.lemmas.Option.{none-some, same_Some}
use Rattle.im_base_disk.specs.Sums.{batch_length, records, is_open, is_whole, pick, counts, shown}
use Rattle.im_log_one_sync.specs.Batches.{batches_from}

pub none_or_some : {A : Type 0} (o : Option A) → (o ≡ None) ⊎ ((x : A) × (o ≡ Some x))
none_or_some None = inl refl
none_or_some (Some x) = inr (x, refl)

pub picked : (b : Bool) (r x : List ℕ) → pick b r ≡ Some x → (b ≡ true) × (r ≡ x)
picked true r x is = (refl, same_Some r x is)
picked false r x is = absurd (none-some x is)

not_picked : (b : Bool) (r : List ℕ) → pick b r ≡ None → b ≡ false
not_picked true r is = absurd (none-some r (sym is))
not_picked false r is = refl

pub whole_some : (behind : List ℕ) → is_whole behind ≡ true → 9 ≤ batch_length behind
whole_some behind whole = grind (arith, nat_tests)

pub whole_long : (behind : List ℕ) → is_whole behind ≡ true → 4 + batch_length behind < length behind
whole_long behind whole = grind (arith, nat_tests)

chosen : (b : Bool) (x y : List (List ℕ)) → b ≡ true → (if b then x else y) ≡ x
chosen true x y is = refl
chosen false x y is = grind arith

other : (b : Bool) (x y : List (List ℕ)) → b ≡ false → (if b then x else y) ≡ y
other true x y is = grind arith
other false x y is = refl

shut : (b : Bool) (r : List ℕ) → (b ≡ true → ⊥) → pick b r ≡ None
shut true r never = absurd (never refl)
shut false r never = refl

both : (b : Bool) → b ≡ false → b ≡ true → ⊥
both b is_false is_true = grind arith

zero_closed : (gate : ℕ) → gate ≡ 0 → is_open gate ≡ false
zero_closed gate is = grind (arith, nat_tests)

module _ (fits : ℕ → ℕ → List ℕ → Bool) where
  pub from_drop : (skip lsn : ℕ) (file : List ℕ) → batches_from fits skip lsn file ≡ batches_from fits 0 (lsn + skip) (drop skip file)
  from_drop zero lsn [] = refl
  from_drop (suc skip) lsn [] = refl
  from_drop zero lsn (byte ∷ file) = ap (λ (n : ℕ). batches_from fits 0 n (byte ∷ file)) (let same : lsn ≡ lsn + 0 = omega arith in same)
  from_drop (suc skip) lsn (byte ∷ file) =
      from_drop skip (suc lsn) file ∙ ap (λ (n : ℕ). batches_from fits 0 n (drop skip file)) (let same : suc lsn + skip ≡ lsn + suc skip = omega arith in same)

  -- a gate that shows nothing ends the log
  pub ends : (lsn : ℕ) (l : List ℕ) → shown fits lsn l ≡ None → batches_from fits 0 lsn l ≡ []
  ends lsn [] none = refl
  ends lsn (gate ∷ behind) none =
      other (counts fits lsn gate behind) (records behind ∷ batches_from fits (4 + batch_length behind) (suc lsn) behind) [] (not_picked (counts fits lsn gate behind) (records behind) none)

  -- one that shows a batch is passed
  pub passes : (lsn : ℕ) (l r : List ℕ) → shown fits lsn l ≡ Some r → batches_from fits 0 lsn l ≡ r ∷ batches_from fits 0 (lsn + (13 + length r)) (drop (13 + length r) l)
  passes lsn [] r is = absurd (none-some r is)
  passes lsn (gate ∷ behind) r is =
      let p = picked (counts fits lsn gate behind) (records behind) r is in
      let whole = (and_parts (is_whole behind) (is_open gate && fits lsn gate behind) p.0).0 in
      let some : 9 ≤ batch_length behind = whole_some behind whole in
      let long : 4 + batch_length behind < length behind = whole_long behind whole in
      let sized : length r ≡ batch_length behind - 8 = sym (ap length p.1) ∙ length-take-le (batch_length behind - 8) (drop 4 behind) (omega (arith, long, length-drop 4 behind)) in
      let at : suc lsn + (4 + batch_length behind) ≡ lsn + (13 + length r) = omega (arith, sized, some) in
      let left : drop (4 + batch_length behind) behind ≡ drop (13 + length r) (gate ∷ behind) =
      ap (λ (n : ℕ). drop n (gate ∷ behind)) (let more : suc (4 + batch_length behind) ≡ 13 + length r = omega (arith, sized, some) in more) in
      chosen (counts fits lsn gate behind) (records behind ∷ batches_from fits (4 + batch_length behind) (suc lsn) behind) [] p.0
      ∙ ap (λ (b : List ℕ). b ∷ batches_from fits (4 + batch_length behind) (suc lsn) behind) p.1
      ∙ ap (λ (bs : List (List ℕ)). r ∷ bs)
      (from_drop (4 + batch_length behind) (suc lsn) behind
      ∙ ap (λ (n : ℕ). batches_from fits 0 n (drop (4 + batch_length behind) behind)) at
      ∙ ap (λ (l : List ℕ). batches_from fits 0 (lsn + (13 + length r)) l) left)

  -- a gate that is not open shows nothing
  pub closed_shows : (lsn : ℕ) (l : List ℕ) → is_open (get_or l 0 0) ≡ false → shown fits lsn l ≡ None
  closed_shows lsn [] closed = refl
  closed_shows lsn (gate ∷ behind) closed =
      shut (counts fits lsn gate behind) (records behind)
      (λ is. both (is_open gate) closed (and_parts (is_open gate) (fits lsn gate behind) (and_parts (is_whole behind) (is_open gate && fits lsn gate behind) is).1).0)

  -- nor does a gate of 0
  pub zero_shows : (lsn : ℕ) (l : List ℕ) → get_or l 0 0 ≡ 0 → shown fits lsn l ≡ None
  zero_shows lsn l is = closed_shows lsn l (zero_closed (get_or l 0 0) is)

  -- by another gate a place shows the same records, or none
  pub another_gate : (lsn gate : ℕ) (behind : List ℕ) (r : List ℕ) → shown fits lsn (1 ∷ behind) ≡ Some r → (shown fits lsn (gate ∷ behind) ≡ None) ⊎ (shown fits lsn (gate ∷ behind) ≡ Some r)
  another_gate lsn gate behind r is = by (counts fits lsn gate behind)
    where
      by : (b : Bool) → (pick b (records behind) ≡ None) ⊎ (pick b (records behind) ≡ Some r)
      by true = inr (ap Some (picked (counts fits lsn 1 behind) (records behind) r is).1)
      by false = inl refl
