-- What a gate of 1 shows, and no other.
use Rattle.std.proofs.Common.{◌≡◌, ◌≢◌, inl, inr, ℕ, suc, ◌+◌, ◌<◌, ◌≤◌, Bool, true, false, ◌&&◌, List, [], ◌∷◌, ◌++◌, length, take, get_or, Some, None, refl, ◌∙◌, ap, arith}
use Rattle.std.specs.Prelude.{◌==◌}
use Rattle.std.proofs.lemmas.Bool.{and_parts, cases_eq, eq-eqb, eqb-true}
use Rattle.std.proofs.lemmas.Option.{none-some}
use Rattle.im_base_disk.specs.Sums.{counts, is_open, is_whole, pick, records, shown, sum_fits}
use Rattle.im_log_one_sync.proofs.Going.{room_there, shown_cut, size_there}
use Rattle.im_log_one_sync.proofs.Reading.{picked}
use Rattle.im_log_sum_gate.specs.Batches.{fits}

shut : (b : Bool) (r : List ℕ) → (b ≡ true → ⊥) → pick b r ≡ None
shut true r never = absurd (never refl)
shut false r never = refl

module _ (salt : List ℕ) (lsn : ℕ) where
  -- it is shown by the general rule, too
  pub loose : (l r : List ℕ) → shown (fits salt) lsn l ≡ Some r → shown (sum_fits salt) lsn l ≡ Some r
  loose [] r is = absurd (none-some r is)
  loose (gate ∷ x) r is =
      let p = picked (counts (fits salt) lsn gate x) (records x) r is in
      let w = and_parts (is_whole x) (is_open gate && ((gate == 1) && sum_fits salt lsn gate x)) p.0 in
      let o = and_parts (is_open gate) ((gate == 1) && sum_fits salt lsn gate x) w.1 in
      let f = and_parts (gate == 1) (sum_fits salt lsn gate x) o.1 in
      (λ i. pick (w.0 i && (o.0 i && f.1 i)) (records x)) ∙ ap Some p.1

  pub gate_one : (l r : List ℕ) → shown (fits salt) lsn l ≡ Some r → get_or l 0 0 ≡ 1
  gate_one [] r is = absurd (none-some r is)
  gate_one (gate ∷ x) r is =
      let p = picked (counts (fits salt) lsn gate x) (records x) r is in
      let w = and_parts (is_whole x) (is_open gate && ((gate == 1) && sum_fits salt lsn gate x)) p.0 in
      let o = and_parts (is_open gate) ((gate == 1) && sum_fits salt lsn gate x) w.1 in
      eqb-true gate 1 (and_parts (gate == 1) (sum_fits salt lsn gate x) o.1).0

  pub strict : (l r : List ℕ) → get_or l 0 0 ≡ 1 → shown (sum_fits salt) lsn l ≡ Some r → shown (fits salt) lsn l ≡ Some r
  strict [] r one is = absurd (none-some r is)
  strict (gate ∷ x) r one is =
      let p = picked (counts (sum_fits salt) lsn gate x) (records x) r is in
      let w = and_parts (is_whole x) (is_open gate && sum_fits salt lsn gate x) p.0 in
      let o = and_parts (is_open gate) (sum_fits salt lsn gate x) w.1 in
      (λ i. pick (w.0 i && (o.0 i && (eq-eqb gate 1 one i && o.1 i))) (records x)) ∙ ap Some p.1

  -- another gate shows nothing
  pub other_gate : (gate : ℕ) (x : List ℕ) → gate ≢ 1 → shown (fits salt) lsn (gate ∷ x) ≡ None
  other_gate gate x other =
      shut (counts (fits salt) lsn gate x) (records x)
      (λ is. other
      (eqb-true gate 1
      (and_parts (gate == 1) (sum_fits salt lsn gate x)
      (and_parts (is_open gate) ((gate == 1) && sum_fits salt lsn gate x) (and_parts (is_whole x) (is_open gate && ((gate == 1) && sum_fits salt lsn gate x)) is).1).1).0))

  pub none_at : (l : List ℕ) → get_or l 0 0 ≢ 1 → shown (fits salt) lsn l ≡ None
  none_at [] other = refl
  none_at (gate ∷ x) other = other_gate gate x other

  -- so what it does not show, none shows
  pub still_none : (gate : ℕ) (x : List ℕ) → shown (fits salt) lsn (1 ∷ x) ≡ None → shown (fits salt) lsn (gate ∷ x) ≡ None
  still_none gate x none = elim (cases_eq gate 1) [
    | inl one ↦ ap (λ (g : ℕ). shown (fits salt) lsn (g ∷ x)) one ∙ none
    | inr other ↦ other_gate gate x other
  ]

  pub room : (l r : List ℕ) → shown (fits salt) lsn l ≡ Some r → 13 + length r < length l
  room [] r is = absurd (none-some r is)
  room (gate ∷ x) r is = let one = room_there salt lsn gate x r (loose (gate ∷ x) r is) in let two = size_there salt lsn gate x r (loose (gate ∷ x) r is) in omega (arith, one, two)

  -- what is shown is told by the batch alone, where anything stands behind it
  pub cut : (l rest r : List ℕ) → shown (fits salt) lsn l ≡ Some r → 1 ≤ length rest → shown (fits salt) lsn (take (13 + length r) l ++ rest) ≡ Some r
  cut [] rest r is some = absurd (none-some r is)
  cut (gate ∷ x) rest r is some =
      strict (take (13 + length r) (gate ∷ x) ++ rest) r
      (ap (λ (n : ℕ). get_or (take n (gate ∷ x) ++ rest) 0 0) (let one_more : 13 + length r ≡ suc (12 + length r) = omega arith in one_more) ∙ gate_one (gate ∷ x) r is)
      (shown_cut salt lsn (gate ∷ x) rest r (loose (gate ∷ x) r is) some)
