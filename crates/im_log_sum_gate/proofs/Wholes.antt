-- All of it by two writes is all of it by one.
use Rattle.std.proofs.Common.{◌≡◌, ℕ, suc, ◌+◌, ◌<◌, List, [], ◌∷◌, ◌++◌, length, take, drop, sym, ◌∙◌, ap, arith, append_assoc, length-append}
use Rattle.std.proofs.lemmas.List.{drop_at, length-take-le, take-take, take_at}
use Rattle.im_base_disk.specs.Disk.{Holds, whole}

pub shorter : (place : ℕ) (c d : List ℕ) → take (place + 1) c ≡ take (place + 1) d → take place c ≡ take place d
shorter place c d same = sym (take-take place (place + 1) c (omega arith)) ∙ ap (take place) same ∙ take-take place (place + 1) d (omega arith)

module _ (place : ℕ) (body old : List ℕ) (within : place < length old) where
  abbrev staged : List ℕ
  staged = whole (place + 1) body old

  shifted : staged ≡ take (place + 1) old ++ (body ++ drop (place + 1 + length body) old)
  shifted = append_assoc (take (place + 1) old) body (drop (place + 1 + length body) old)

  front_long : length (take (place + 1) old) ≡ place + 1
  front_long = length-take-le (place + 1) old (omega (arith, within))

  pub staged_front : take place staged ≡ take place old
  staged_front = shorter place staged old (ap (take (place + 1)) shifted ∙ take_at (take (place + 1) old) (body ++ drop (place + 1 + length body) old) (place + 1) front_long)

  staged_behind : drop (place + 1) staged ≡ body ++ drop (place + 1 + length body) old
  staged_behind = ap (drop (place + 1)) shifted ∙ drop_at (take (place + 1) old) (body ++ drop (place + 1 + length body) old) (place + 1) front_long

  pub staged_long : place < length staged
  staged_long = omega (arith, ap length shifted, length-append (take (place + 1) old) (body ++ drop (place + 1 + length body) old), front_long)

  pub whole_is : whole place (1 ∷ body) old ≡ take place staged ++ 1 ∷ drop (place + 1) staged
  whole_is =
      append_assoc (take place old) (1 ∷ body) (drop (place + length (1 ∷ body)) old)
      ∙ ap (λ (n : ℕ). take place old ++ 1 ∷ (body ++ drop n old)) (let same : place + suc (length body) ≡ place + 1 + length body = omega arith in same)
      ∙ ap (λ (l : List ℕ). take place old ++ 1 ∷ l) (sym staged_behind)
      ∙ ap (λ (l : List ℕ). l ++ 1 ∷ drop (place + 1) staged) (sym staged_front)

  pub twice_whole : (bytes mid new : List ℕ) → bytes ≡ 1 ∷ body → Holds (place + 1) body old mid → Holds place (1 ∷ []) mid new → Holds place bytes old new
  twice_whole bytes mid new begins first second =
      second
      ∙ ap (λ (l : List ℕ). whole place (1 ∷ []) l) first
      ∙ append_assoc (take place staged) (1 ∷ []) (drop (place + 1) staged)
      ∙ sym whole_is
      ∙ ap (λ (l : List ℕ). whole place l old) (sym begins)
