-- The text of an entry, as it is put into some room piece by piece.
use Rattle.std.proofs.Common.{◌≡◌, ℕ, ◌+◌, ◌<◌, ◌≤◌, List, [], ◌∷◌, ◌++◌, length, take, ap, sym, subst, ◌∙◌, append_assoc, slice_set}
use Rattle.std.specs.Prelude.{Result, Ok, Err, IsOk, OnOk}
use Rattle.std.proofs.lemmas.List.{take_more_set, length-take-le}
use Rattle.std.proofs.Math.Seq.{take-append-add, take-append_seam}
use borrow.Rule.Slice.PartMut.{put_mid, post_of}

-- the front up to the end of what was put in
put_front : (a k : ℕ) (xs ys : List ℕ) → a ≤ length xs → take (a + length ys) (put_mid a k xs ys) ≡ take a xs ++ ys
put_front a k xs ys within =
    subst (λ (n : ℕ). take (n + length ys) (take a xs ++ (ys ++ post_of a k xs)) ≡ take a xs ++ ys) (length-take-le a xs within)
    (take-append-add (take a xs) (ys ++ post_of a k xs) (length ys) ∙ ap (λ (l : List ℕ). take a xs ++ l) (take-append_seam ys (post_of a k xs)))

-- a space, digits that were put in, a space, and a number that was put in
pub entry_is : (m k j t : ℕ) (room digits number : List ℕ) → m ≡ 1 + length digits → m + 1 + length number ≡ t → 1 ≤ length room → m < length (put_mid 1 k (slice_set room 0 32) digits)
    → 1 ≤ length (slice_set room 0 32) → m + 1 ≤ length (slice_set (put_mid 1 k (slice_set room 0 32) digits) m 32)
    → take t (put_mid (m + 1) j (slice_set (put_mid 1 k (slice_set room 0 32) digits) m 32) number) ≡ 32 ∷ (digits ++ 32 ∷ number)
entry_is m k j t room digits number e total some second first third =
    let one = slice_set room 0 32 in
    let two = put_mid 1 k one digits in
    let front : take m two ≡ take 1 one ++ digits = subst (λ (n : ℕ). take n two ≡ take 1 one ++ digits) (sym e) (put_front 1 k one digits first) in
    ap (λ (n : ℕ). take n (put_mid (m + 1) j (slice_set two m 32) number)) (sym total)
    ∙ put_front (m + 1) j (slice_set two m 32) number third
    ∙ ap (λ (l : List ℕ). l ++ number) (take_more_set two m 32 second ∙ ap (λ (l : List ℕ). l ++ 32 ∷ []) (front ∙ ap (λ (l : List ℕ). l ++ digits) (take_more_set room 0 32 some)))
    ∙ ap (λ (l : List ℕ). 32 ∷ l) (append_assoc digits (32 ∷ []) number)

-- what holds where a call succeeds
pub on_ok_is : {A E P : Type 0} (r : Result A E) → IsOk r → OnOk r P → P
on_ok_is (Ok a) h p = p
on_ok_is (Err e) h p = absurd cc
