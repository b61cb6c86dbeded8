-- Bytes read as one number, the first the highest, lie as the bytes do.
use Rattle.std.proofs.Common.{◌≡◌, ℕ, suc, ◌+◌, ◌*◌, ◌<◌, ◌≤◌, List, [], ◌∷◌, ◌++◌, length, get_or, take, drop, refl, sym, subst, ◌∙◌, arith, inl, inr}
use Rattle.std.specs.Prelude.{◌≢◌}
use Rattle.std.specs.Int.{w64, from_be_bytes}
use Rattle.std.specs.declared.cmp.Ordering.{Ordering}
use Rattle.std.specs.declared.cmp.Ordering.TheVariants.{Less, Equal, Greater}
use Rattle.std.specs.Ordering.{nat_cmp, ordering_then, MatchOrdering}
use Rattle.std.specs.Cmp.Lexicographic.{slice_cmp}
use Rattle.std.specs.Cmp.{ranks}
use Rattle.std.proofs.lemmas.Bool.{cases_lt}
use Rattle.std.proofs.lemmas.List.{take-append-drop, length-take, length-take-le, get_or-drop, get_or-take, get_or_past}

-- each is a byte
abbrev pub IsBytes : List ℕ → Type 0
IsBytes bytes = (i : ℕ) → get_or bytes i 0 < 256

-- the number of the bytes after those of n
abbrev number : ℕ → List ℕ → ℕ
number n [] = n
number n (b ∷ bs) = number (n * 256 + b) bs

-- how two words lie, and the lists that they begin
pub record Decides (x y : ℕ) (whole rest : Ordering) : Type 0 where
  pub same : x ≡ y → whole ≡ rest
  pub apart : x ≢ y → whole ≡ nat_cmp x y

tail_bytes : (b : ℕ) (bs : List ℕ) → IsBytes (b ∷ bs) → IsBytes bs
tail_bytes b bs h i = h (suc i)

head_byte : (b : ℕ) (bs : List ℕ) → IsBytes (b ∷ bs) → b < 256
head_byte b bs h = h 0

rises : (m n : ℕ) (us vs : List ℕ) → length us ≡ length vs → IsBytes us → m < n → number m us < number n vs
rises m n [] [] e h l = l
rises m n [] (v ∷ vs) e h l = absurd cc
rises m n (u ∷ us) [] e h l = absurd cc
rises m n (u ∷ us) (v ∷ vs) e h l = let small = head_byte u us h in rises (m * 256 + u) (n * 256 + v) us vs (omega arith) (tail_bytes u us h) (omega arith)

is_less : (x y : ℕ) (r : Ordering) → MatchOrdering r (x < y) (x ≡ y) (y < x) → x < y → r ≡ Less
is_less x y Less h l = refl
is_less x y Equal h l = let e : x ≡ y = h in absurd (omega arith)
is_less x y Greater h l = let e : y < x = h in absurd (omega arith)

is_greater : (x y : ℕ) (r : Ordering) → MatchOrdering r (x < y) (x ≡ y) (y < x) → y < x → r ≡ Greater
is_greater x y Less h l = let e : x < y = h in absurd (omega arith)
is_greater x y Equal h l = let e : x ≡ y = h in absurd (omega arith)
is_greater x y Greater h l = refl

-- equal lengths: the numbers lie as the lists do, whatever stands after them
lies : (n : ℕ) (us vs xs ys : List ℕ) → length us ≡ length vs → IsBytes us → IsBytes vs
    → Decides (number n us) (number n vs) (slice_cmp nat_cmp (us ++ xs) (vs ++ ys)) (slice_cmp nat_cmp xs ys)
lies n [] [] xs ys e h k = record { same = λ _. refl; apart = λ differ. absurd (differ refl) }
lies n [] (v ∷ vs) xs ys e h k = absurd cc
lies n (u ∷ us) [] xs ys e h k = absurd cc
lies n (u ∷ us) (v ∷ vs) xs ys e h k =
    by (λ (m : ℕ). lies m us vs xs ys (omega arith) (tail_bytes u us h) (tail_bytes v vs k)) (nat_cmp u v) refl (ranks u v)
  where
    by : ((m : ℕ) → Decides (number m us) (number m vs) (slice_cmp nat_cmp (us ++ xs) (vs ++ ys)) (slice_cmp nat_cmp xs ys)) → (r : Ordering) → nat_cmp u v ≡ r → MatchOrdering r (u < v) (u ≡ v) (v < u)
        → Decides (number (n * 256 + u) us) (number (n * 256 + v) vs) (ordering_then (nat_cmp u v) (slice_cmp nat_cmp (us ++ xs) (vs ++ ys))) (slice_cmp nat_cmp xs ys)
    by more Less p l =
        let lt : u < v = l in
        let below = rises (n * 256 + u) (n * 256 + v) us vs (omega arith) (tail_bytes u us h) (omega arith) in
        rw p (record { same = λ q. absurd (omega arith); apart = λ _. sym (is_less (number (n * 256 + u) us) (number (n * 256 + v) vs) (nat_cmp (number (n * 256 + u) us) (number (n * 256 + v) vs)) (ranks (number (n * 256 + u) us) (number (n * 256 + v) vs)) below) })
    by more Greater p l =
        let lt : v < u = l in
        let below = rises (n * 256 + v) (n * 256 + u) vs us (omega arith) (tail_bytes v vs k) (omega arith) in
        rw p (record { same = λ q. absurd (omega arith); apart = λ _. sym (is_greater (number (n * 256 + u) us) (number (n * 256 + v) vs) (nat_cmp (number (n * 256 + u) us) (number (n * 256 + v) vs)) (ranks (number (n * 256 + u) us) (number (n * 256 + v) vs)) below) })
    by more Equal p l =
        let level : u ≡ v = l in
        rw p (subst (λ (w : ℕ). Decides (number (n * 256 + u) us) (number (n * 256 + w) vs) (slice_cmp nat_cmp (us ++ xs) (vs ++ ys)) (slice_cmp nat_cmp xs ys)) level (more (n * 256 + u)))

-- eight bytes as the kit reads them
eight : (bs : List ℕ) → length bs ≡ 8 → from_be_bytes w64 bs ≡ number 0 bs
eight [] l = absurd cc
eight (a ∷ []) l = absurd cc
eight (a ∷ (b ∷ [])) l = absurd cc
eight (a ∷ (b ∷ (c ∷ []))) l = absurd cc
eight (a ∷ (b ∷ (c ∷ (d ∷ [])))) l = absurd cc
eight (a ∷ (b ∷ (c ∷ (d ∷ (e ∷ []))))) l = absurd cc
eight (a ∷ (b ∷ (c ∷ (d ∷ (e ∷ (f ∷ [])))))) l = absurd cc
eight (a ∷ (b ∷ (c ∷ (d ∷ (e ∷ (f ∷ (g ∷ []))))))) l = absurd cc
eight (a ∷ (b ∷ (c ∷ (d ∷ (e ∷ (f ∷ (g ∷ (h ∷ [])))))))) l = omega arith
eight (a ∷ (b ∷ (c ∷ (d ∷ (e ∷ (f ∷ (g ∷ (h ∷ (i ∷ rest))))))))) l = absurd (omega arith)

pub IsBytes-drop : (n : ℕ) (bytes : List ℕ) → IsBytes bytes → IsBytes (drop n bytes)
IsBytes-drop n bytes h i = rw get_or-drop (h (n + i))

pub IsBytes-take : (n : ℕ) (bytes : List ℕ) → IsBytes bytes → IsBytes (take n bytes)
IsBytes-take n bytes h i =
    elim (cases_lt i n) [
      | inl lt ↦ rw (get_or-take n bytes i 0 lt) (h i)
      | inr le ↦ rw (get_or_past (take n bytes) i 0 (omega (arith, length-take n bytes))) (omega arith)
    ]

-- two lists that begin with eight bytes each
pub words : (a b : List ℕ) → IsBytes a → IsBytes b → 8 ≤ length a → 8 ≤ length b
    → Decides (from_be_bytes w64 (take 8 a)) (from_be_bytes w64 (take 8 b)) (slice_cmp nat_cmp a b) (slice_cmp nat_cmp (drop 8 a) (drop 8 b))
words a b f g long also =
    let la : length (take 8 a) ≡ 8 = length-take-le 8 a long in
    let lb : length (take 8 b) ≡ 8 = length-take-le 8 b also in
    let d = lies 0 (take 8 a) (take 8 b) (drop 8 a) (drop 8 b) (la ∙ sym lb) (IsBytes-take 8 a f) (IsBytes-take 8 b g) in
    let whole = subst (λ (x : List ℕ). Decides (number 0 (take 8 a)) (number 0 (take 8 b)) (slice_cmp nat_cmp x (take 8 b ++ drop 8 b)) (slice_cmp nat_cmp (drop 8 a) (drop 8 b))) (take-append-drop 8 a) d in
    let whole2 = subst (λ (x : List ℕ). Decides (number 0 (take 8 a)) (number 0 (take 8 b)) (slice_cmp nat_cmp a x) (slice_cmp nat_cmp (drop 8 a) (drop 8 b))) (take-append-drop 8 b) whole in
    let left = subst (λ (x : ℕ). Decides x (number 0 (take 8 b)) (slice_cmp nat_cmp a b) (slice_cmp nat_cmp (drop 8 a) (drop 8 b))) (sym (eight (take 8 a) la)) whole2 in
    subst (λ (x : ℕ). Decides (from_be_bytes w64 (take 8 a)) x (slice_cmp nat_cmp a b) (slice_cmp nat_cmp (drop 8 a) (drop 8 b))) (sym (eight (take 8 b) lb)) left
