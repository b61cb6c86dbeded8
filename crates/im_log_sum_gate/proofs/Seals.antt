-- A file shows the batches that were sealed.
use Rattle.std.proofs.Common.{◌≡◌, ℕ, ◌+◌, ◌-◌, ◌≤◌, true, ◌&&◌, List, [], ◌∷◌, ◌++◌, length, take, drop, get_or, Some, refl, sym, ◌∙◌, ap, subst, arith, append_assoc, length-append}
use Rattle.std.specs.Int.{w64, from_be_bytes, to_be_bytes}
use Rattle.std.specs.Hash.DefaultHasher as sip
use Rattle.std.proofs.lemmas.Bool.{eq-eqb, le-leb, lt-ltb}
use Rattle.std.proofs.lemmas.List.{append-nil, drop-drop, drop_at, length-take-le, take_at}
use Rattle.std.proofs.lemmas.Nat.{from_be_bytes-to_be_bytes_4, from_be_bytes-to_be_bytes_8}
use Rattle.im_base_disk.specs.Disk.{whole}
use Rattle.im_base_disk.specs.Sums.{batch_length, is_whole, pick, records, shown, sum_fits, sum_found, sum_of}
use Rattle.im_log_third_header.specs.declared.header.ThirdHeader.{ThirdHeader}
use Rattle.im_log_sum_gate.specs.Batches.{fits, shows_at, Lays}
use Rattle.im_log_sum_gate.specs.Sealed.{worded, sealed, sealed_all, MaySeal, MayAll, SealedAreLaid}
use Rattle.im_log_sum_gate.proofs.Laws.{first_from}

module _ (salt : List ℕ) (lsn : ℕ) (r : List ℕ) (may : MaySeal salt lsn r) (after : List ℕ) (some : 1 ≤ length after) where
  abbrev sum : List ℕ
  sum = to_be_bytes w64 (sum_of salt lsn 1 (worded r))

  abbrev behind : List ℕ
  behind = (worded r ++ sum) ++ after

  long : batch_length behind ≡ length r + 8
  unfolding batch_length
  long = from_be_bytes-to_be_bytes_4 (length r + 8) (let most = may.most in omega (arith, most))

  -- what stands after the length
  cut : drop 4 behind ≡ r ++ (sum ++ after)
  cut = append_assoc r sum after

  records_are : records behind ≡ r
  records_are = ap (λ (n : ℕ). take (n - 8) (drop 4 behind)) long ∙ ap (take (length r + 8 - 8)) cut ∙ take_at r (sum ++ after) (length r + 8 - 8) (omega arith)

  size : length behind ≡ 12 + length r + length after
  size = let one = length-append (worded r ++ sum) after in let two = length-append r sum in omega (arith, one, two)

  is_all : is_whole behind ≡ true
  is_all =
      let at_least = may.some in
      let at_most = may.most in
      (λ i. (le-leb 9 (batch_length behind) (omega (arith, long, at_least)) i && le-leb (batch_length behind) 16384 (omega (arith, long, at_most)) i) && lt-ltb (4 + batch_length behind) (length behind) (omega (arith, long, size, some)) i)

  found : sum_found behind ≡ sum_of salt lsn 1 (worded r)
  found =
      ap (λ (n : ℕ). from_be_bytes w64 (take 8 (drop (n - 4) behind))) long
      ∙ ap (λ (n : ℕ). from_be_bytes w64 (take 8 (drop n behind))) (let same : length r + 8 - 4 ≡ 4 + length r = omega arith in same)
      ∙ ap (λ (l : List ℕ). from_be_bytes w64 (take 8 l)) (sym (drop-drop (length r) 4 behind) ∙ ap (drop (length r)) cut ∙ drop_at r (sum ++ after) (length r) refl)
      ∙ from_be_bytes-to_be_bytes_8 (sum_of salt lsn 1 (worded r)) may.small

  -- the sum is of the length and the records alone
  front : take (batch_length behind - 4) behind ≡ worded r
  front =
      ap (λ (n : ℕ). take (n - 4) behind) long
      ∙ ap (take (length r + 8 - 4)) (append_assoc (worded r) sum after)
      ∙ take_at (worded r) (sum ++ after) (length r + 8 - 4) (omega arith)

  own : sum_of salt lsn 1 behind ≡ sum_of salt lsn 1 (worded r)
  unfolding sum_of batch_length
  own =
      ap (λ (l : List ℕ). sip.finish (sip.write (sip.write (sip.write sip.initial salt) (to_be_bytes w64 lsn)) (1 ∷ l))) (front ∙ sym front_alone)
    where
      front_alone : take (batch_length (worded r) - 4) (worded r) ≡ worded r
      front_alone =
          ap (λ (n : ℕ). take (n - 4) (worded r)) (from_be_bytes-to_be_bytes_4 (length r + 8) (let most = may.most in omega (arith, most)))
          ∙ ap (take (length r + 8 - 4)) (sym (append-nil (worded r)))
          ∙ take_at (worded r) [] (length r + 8 - 4) (omega arith)

  fits_it : sum_fits salt lsn 1 behind ≡ true
  fits_it = eq-eqb (sum_found behind) (sum_of salt lsn 1 behind) (found ∙ sym own)

  -- it is shown, whatever comes after it
  pub one_shown : shown (fits salt) lsn (sealed salt lsn r ++ after) ≡ Some r
  one_shown = (λ i. pick (is_all i && fits_it i) (records behind)) ∙ ap Some records_are

pub sealed_long : (salt : List ℕ) (lsn : ℕ) (r : List ℕ) → length (sealed salt lsn r) ≡ 13 + length r
sealed_long salt lsn r = let both = length-append r (to_be_bytes w64 (sum_of salt lsn 1 (worded r))) in omega (arith, both)

-- something stands after each
all_some : (salt : List ℕ) (lsn : ℕ) (bs : List (List ℕ)) → 1 ≤ length (sealed_all salt lsn bs)
all_some salt lsn [] = omega arith
all_some salt lsn (r ∷ bs) =
    let both = length-append (sealed salt lsn r) (sealed_all salt (lsn + (13 + length r)) bs) in
    let long = sealed_long salt lsn r in
    omega (arith, both, long)

-- A file that has them at a place shows them one after another, and has a closed gate after the last.
pub lays_all : (h : ThirdHeader) (end place : ℕ) (bs : List (List ℕ)) (file rest : List ℕ) → MayAll h.salt (h.start.base + place) bs → drop place file ≡ sealed_all h.salt (h.start.base + place) bs ++ rest
    → place + length (sealed_all h.salt (h.start.base + place) bs) ≤ end → Lays h end place bs file
lays_all h end place [] file rest may there within = (omega (arith, within), sym (first_from place file) ∙ ap (λ (l : List ℕ). get_or l 0 0) there)
lays_all h end place (r ∷ bs) file rest may there within =
    let salt = h.salt in
    let lsn = h.start.base + place in
    let next : List ℕ = sealed_all salt (lsn + (13 + length r)) bs in
    let long = sealed_long salt lsn r in
    let both = length-append (sealed salt lsn r) next in
    let some = all_some salt (lsn + (13 + length r)) bs in
    let from : drop place file ≡ sealed salt lsn r ++ (next ++ rest) = there ∙ append_assoc (sealed salt lsn r) next rest in
    let at : lsn + (13 + length r) ≡ h.start.base + (place + (13 + length r)) = omega arith in
    let behind_it : drop (place + (13 + length r)) file ≡ next ++ rest =
    sym (drop-drop (13 + length r) place file) ∙ ap (drop (13 + length r)) from ∙ drop_at (sealed salt lsn r) (next ++ rest) (13 + length r) long in
    let shown_here : shows_at h place file ≡ Some r =
    ap (shown (fits salt) lsn) from ∙ one_shown salt lsn r may.0 (next ++ rest) (let all = length-append next rest in omega (arith, all, some)) in (
      omega (arith, within, both, long),
      shown_here,
      lays_all h end (place + (13 + length r)) bs file rest (subst (λ (n : ℕ). MayAll salt n bs) at may.1)
          (behind_it ∙ ap (λ (n : ℕ). sealed_all salt n bs ++ rest) at)
          (let same = ap (λ (n : ℕ). length (sealed_all salt n bs)) at in omega (arith, within, both, long, same)),
    )

pub sealed_are_laid : SealedAreLaid
sealed_are_laid h place bs more old within may =
    let sealed_bytes : List ℕ = sealed_all h.salt (h.start.base + place) bs in
    let bytes : List ℕ = sealed_bytes ++ more in
    let rest : List ℕ = drop (place + length bytes) old in
    lays_all h (place + length bytes) place bs (whole place bytes old) (more ++ rest) may
    (ap (drop place) (append_assoc (take place old) bytes rest) ∙ drop_at (take place old) (bytes ++ rest) place (length-take-le place old within) ∙ append_assoc sealed_bytes more rest)
    (omega (arith, length-append sealed_bytes more))
