-- Where the parts of a value lie in it.
use Rattle.std.proofs.Common.{◌≡◌, ℕ, suc, zero, ◌+◌, ◌-◌, ◌*◌, ◌/◌, ◌%◌, ◌<◌, ◌≤◌, min, Bool, true, false, List, [], ◌∷◌, ◌++◌, length, take, drop, refl, sym, ap, subst, ◌∙◌, arith, length-append, length-drop, length-take}
use Rattle.std.specs.Prelude.{◌&&◌, nat_lt}
use Rattle.std.proofs.lemmas.Bool.{and_parts, ltb-true}
use Rattle.std.proofs.lemmas.List.{take_all, take-take}
use Rattle.std.proofs.lemmas.Nat.{le-div}
use Rattle.std.proofs.Math.Nat.{div-mul-le_self, mul-le-mul_right}
use Rattle.im_names.specs.Parts.{room_of, count_of, can_be_parted, has_part}

-- they are fewer than there are numbers
pub count_small : (size room : ℕ) → 0 < room → size / room < 16711680 → (size - 1) / room + 1 ≤ 16711680
count_small size room some few =
    let low = div-mul-le_self (size - 1) room in
    let up : (size - 1) / room ≤ size / room = le-div ((size - 1) / room) size room some (omega (arith, low)) in omega arith

-- one that is there begins within its value
pub begins_within : (size room number : ℕ) → number < (size - 1) / room + 1 → number * room ≤ size - 1
begins_within size room number there =
    let low = div-mul-le_self (size - 1) room in
    let up : number * room ≤ (size - 1) / room * room = mul-le-mul_right room (let l : number ≤ (size - 1) / room = omega arith in l) in omega arith

pub is_there : (front size number : ℕ) → has_part front size number ≡ true → number < count_of front size
is_there front size number h = ltb-true number (count_of front size) (and_parts (can_be_parted front size) (nat_lt number (count_of front size)) h).1

pub is_within : (front size number : ℕ) → has_part front size number ≡ true → number * room_of front ≤ size
unfolding count_of
is_within front size number h =
    let there = is_there front size number h in
    let w = begins_within size (room_of front) number there in omega arith

pub is_small : (front size number : ℕ) → 0 < room_of front → has_part front size number ≡ true → number < 16711680
unfolding count_of can_be_parted
is_small front size number some h =
    let there = is_there front size number h in
    let few = ltb-true (size / room_of front) 16711680 (and_parts (can_be_parted front size) (nat_lt number (count_of front size)) h).0 in
    let c = count_small size (room_of front) some few in omega arith

-- as many bytes of what is left as there are, and as fit
pub piece : (value : List ℕ) (from room : ℕ) → take (min (length value - from) room) (drop from value) ≡ take room (drop from value)
piece value from room = by (drop from value) (length value - from) (length-drop from value) room
  where
    by : (l : List ℕ) (n : ℕ) → length l ≡ n → (m : ℕ) → take (min n m) l ≡ take m l
    by [] n e m = ap (λ (k : ℕ). take k []) (let z : min n m ≡ 0 = omega arith in z) ∙ sym (take_all m [] (omega arith))
    by (b ∷ l) n e zero = ap (λ (k : ℕ). take k (b ∷ l)) (let z : min n 0 ≡ 0 = omega arith in z)
    by (b ∷ l) n e (suc m) =
        let s : min n (suc m) ≡ suc (min (n - 1) m) = omega arith in
        ap (λ (k : ℕ). take k (b ∷ l)) s ∙ ap (λ (r : List ℕ). b ∷ r) (by l (n - 1) (omega arith) m)

pub room_some : (front : ℕ) → front ≤ 219 → 0 < room_of front
unfolding room_of
room_some front short = omega arith

pub length_piece : (from n : ℕ) (l : List ℕ) → length (take ((from + n) - from) l) ≤ n
length_piece from n l = let t = length-take ((from + n) - from) l in omega arith
