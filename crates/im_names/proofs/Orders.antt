-- The order of keys that begin alike.
use Rattle.std.proofs.Common.{◌≡◌, ℕ, suc, zero, ◌+◌, ◌-◌, ◌*◌, ◌/◌, ◌%◌, ◌<◌, ◌≤◌, List, [], ◌∷◌, ◌++◌, length, replicate, refl, sym, ap, subst, ◌∙◌, arith}
use Rattle.std.specs.Prelude.{◌≢◌}
use Rattle.std.specs.declared.cmp.Ordering.{Ordering}
use Rattle.std.specs.declared.cmp.Ordering.TheVariants.{Less, Equal, Greater}
use Rattle.std.specs.Ordering.{nat_cmp, ordering_then, MatchOrdering}
use Rattle.std.specs.Cmp.{ranks}
use Rattle.std.proofs.lemmas.Cmp.{tied_itself, nat_cmp_total}
use Rattle.im_base_types.specs.Keys.{key_order}
use Rattle.im_names.specs.Layout.{escape, escaped, number_of, part_of}
use Rattle.im_names.specs.Ranges.{LiesIn, HasPrefix, AreBytes}

is_less : (x y : ℕ) (r : Ordering) → MatchOrdering r (x < y) (x ≡ y) (y < x) → x < y → r ≡ Less
is_less x y Less h l = refl
is_less x y Equal h l = let e : x ≡ y = h in absurd (omega arith)
is_less x y Greater h l = let e : y < x = h in absurd (omega arith)

is_greater : (x y : ℕ) (r : Ordering) → MatchOrdering r (x < y) (x ≡ y) (y < x) → y < x → r ≡ Greater
is_greater x y Less h l = let e : x < y = h in absurd (omega arith)
is_greater x y Equal h l = let e : x ≡ y = h in absurd (omega arith)
is_greater x y Greater h l = refl

pub less_first : (b c : ℕ) (xs ys : List ℕ) → b < c → key_order (b ∷ xs) (c ∷ ys) ≡ Less
less_first b c xs ys l = ap (λ (o : Ordering). ordering_then o (key_order xs ys)) (is_less b c (nat_cmp b c) (ranks b c) l)

pub greater_first : (b c : ℕ) (xs ys : List ℕ) → c < b → key_order (b ∷ xs) (c ∷ ys) ≡ Greater
greater_first b c xs ys l = ap (λ (o : Ordering). ordering_then o (key_order xs ys)) (is_greater b c (nat_cmp b c) (ranks b c) l)

pub same_first : (b : ℕ) (xs ys : List ℕ) → key_order (b ∷ xs) (b ∷ ys) ≡ key_order xs ys
same_first b xs ys = ap (λ (o : Ordering). ordering_then o (key_order xs ys)) (tied_itself nat_cmp_total b)

-- one of two numbers is less, or they are one
pub by_numbers : {G : Type 0} (x y : ℕ) → (x < y → G) → (x ≡ y → G) → (y < x → G) → G
by_numbers {G} x y less same more = by (nat_cmp x y) (ranks x y)
  where
    by : (r : Ordering) → MatchOrdering r (x < y) (x ≡ y) (y < x) → G
    by Less h = less h
    by Equal h = same h
    by Greater h = more h

-- what stands in front of both does not count
pub same_front : (front xs ys : List ℕ) → key_order (front ++ xs) (front ++ ys) ≡ key_order xs ys
same_front [] xs ys = refl
same_front (b ∷ front) xs ys = same_first b (front ++ xs) (front ++ ys) ∙ same_front front xs ys

-- nothing is below no byte
pub none_is_least : (xs : List ℕ) → key_order xs [] ≢ Less
none_is_least [] e = absurd cc
none_is_least (b ∷ xs) e = absurd cc

-- ---- part numbers

digits_rise : (m n : ℕ) → m < n → m / 65536 ≡ n / 65536 → m / 256 % 256 ≡ n / 256 % 256 → m % 256 < n % 256
digits_rise m n l first second = omega arith

middle_rises : (m n : ℕ) → m < n → m / 65536 ≡ n / 65536 → m / 256 % 256 ≤ n / 256 % 256
middle_rises m n l first = omega arith

top_rises : (m n : ℕ) → m < n → m / 65536 ≤ n / 65536
top_rises m n l = omega arith

pub numbers_rise : (m n : ℕ) (xs ys : List ℕ) → m < n → key_order (number_of m ++ xs) (number_of n ++ ys) ≡ Less
unfolding number_of
numbers_rise m n xs ys l =
    by_numbers (m / 65536) (n / 65536) (λ less. less_first (m / 65536) (n / 65536) (m / 256 % 256 ∷ (m % 256 ∷ xs)) (n / 256 % 256 ∷ (n % 256 ∷ ys)) less)
    (λ same.
    ap (λ (b : ℕ). key_order (b ∷ (m / 256 % 256 ∷ (m % 256 ∷ xs))) (n / 65536 ∷ (n / 256 % 256 ∷ (n % 256 ∷ ys)))) same
    ∙ same_first (n / 65536) (m / 256 % 256 ∷ (m % 256 ∷ xs)) (n / 256 % 256 ∷ (n % 256 ∷ ys))
    ∙ by_numbers (m / 256 % 256) (n / 256 % 256) (λ less. less_first (m / 256 % 256) (n / 256 % 256) (m % 256 ∷ xs) (n % 256 ∷ ys) less)
    (λ also.
    ap (λ (b : ℕ). key_order (b ∷ (m % 256 ∷ xs)) (n / 256 % 256 ∷ (n % 256 ∷ ys))) also ∙ same_first (n / 256 % 256) (m % 256 ∷ xs) (n % 256 ∷ ys)
    ∙ less_first (m % 256) (n % 256) xs ys (digits_rise m n l same also))
    (λ more. let up = middle_rises m n l same in absurd (omega arith)))
    (λ more. let up = top_rises m n l in absurd (omega arith))

-- parts of one value
pub parts_rise : (front : List ℕ) (m n : ℕ) (xs ys : List ℕ) → m < n → key_order (part_of front m xs) (part_of front n ys) ≡ Less
parts_rise front m n xs ys l = same_front front (number_of m ++ xs) (number_of n ++ ys) ∙ numbers_rise m n xs ys l

-- ---- keys of long values

pub escaped_rise : (one other : List ℕ) (b : ℕ) (xs ys : List ℕ) → b < 255 → key_order one other ≡ Less
    → key_order (escaped one ++ (0 ∷ (b ∷ xs))) (escaped other ++ (0 ∷ ys)) ≡ Less
escaped_rise [] [] b xs ys small h = absurd cc
escaped_rise [] (zero ∷ other) b xs ys small h = same_first 0 (b ∷ xs) (255 ∷ (escaped other ++ (0 ∷ ys))) ∙ less_first b 255 xs (escaped other ++ (0 ∷ ys)) small
escaped_rise [] (suc c ∷ other) b xs ys small h = less_first 0 (suc c) (b ∷ xs) (escaped other ++ (0 ∷ ys)) (omega arith)
escaped_rise (c ∷ one) [] b xs ys small h = absurd cc
escaped_rise (zero ∷ one) (zero ∷ other) b xs ys small h =
    same_first 0 (255 ∷ (escaped one ++ (0 ∷ (b ∷ xs)))) (255 ∷ (escaped other ++ (0 ∷ ys))) ∙ same_first 255 (escaped one ++ (0 ∷ (b ∷ xs))) (escaped other ++ (0 ∷ ys))
    ∙ escaped_rise one other b xs ys small (sym (same_first 0 one other) ∙ h)
escaped_rise (zero ∷ one) (suc d ∷ other) b xs ys small h = less_first 0 (suc d) (255 ∷ (escaped one ++ (0 ∷ (b ∷ xs)))) (escaped other ++ (0 ∷ ys)) (omega arith)
escaped_rise (suc c ∷ one) (zero ∷ other) b xs ys small h = let g = greater_first (suc c) 0 one other (omega arith) in absurd (cc (g, h))
escaped_rise (suc c ∷ one) (suc d ∷ other) b xs ys small h =
    let more = λ (e : key_order one other ≡ Less). escaped_rise one other b xs ys small e in
    by_numbers (suc c) (suc d) (λ less. less_first (suc c) (suc d) (escaped one ++ (0 ∷ (b ∷ xs))) (escaped other ++ (0 ∷ ys)) less)
    (λ same.
    ap (λ (x : ℕ). key_order (x ∷ (escaped one ++ (0 ∷ (b ∷ xs)))) (suc d ∷ (escaped other ++ (0 ∷ ys)))) same
    ∙ same_first (suc d) (escaped one ++ (0 ∷ (b ∷ xs))) (escaped other ++ (0 ∷ ys))
    ∙ more (sym (ap (λ (x : ℕ). key_order (x ∷ one) (suc d ∷ other)) same ∙ same_first (suc d) one other) ∙ h))
    (λ above. let g = greater_first (suc c) (suc d) one other above in absurd (cc (g, h)))

-- ---- ranges

-- bytes are at most as many of FF
pub under_ff : (n : ℕ) (xs : List ℕ) → length xs ≤ n → AreBytes xs → key_order xs (replicate n 255) ≢ Greater
under_ff zero [] room all e = absurd cc
under_ff (suc n) [] room all e = absurd cc
under_ff zero (b ∷ xs) room all e = absurd (omega arith)
under_ff (suc n) (b ∷ xs) room all e =
    by_numbers b 255 (λ less. let l = less_first b 255 xs (replicate n 255) less in absurd (cc (l, e)))
    (λ same. under_ff n xs (omega arith) all.1 (sym (ap (λ (x : ℕ). key_order (x ∷ xs) (255 ∷ replicate n 255)) same ∙ same_first 255 xs (replicate n 255)) ∙ e))
    (λ more. let small = all.0 in absurd (omega arith))

-- what begins with these bytes is not below them
pub not_below : (front rest : List ℕ) → key_order (front ++ rest) front ≢ Less
not_below [] rest e = none_is_least rest e
not_below (b ∷ front) rest e = not_below front rest (sym (same_first b (front ++ rest) front) ∙ e)

-- what lies from these bytes on, and not above what begins with them, begins with them
pub between : (front tail key : List ℕ) → key_order key front ≢ Less → key_order key (front ++ tail) ≢ Greater → (rest : List ℕ) × ((key ≡ front ++ rest) × (key_order rest tail ≢ Greater))
between [] tail key low high = (key, (refl, high))
between (b ∷ front) tail [] low high = absurd (low refl)
between (b ∷ front) tail (c ∷ key) low high =
    by_numbers c b (λ less. absurd (low (less_first c b key front less)))
    (λ same.
    let first = λ (ys : List ℕ). ap (λ (x : ℕ). key_order (x ∷ key) (b ∷ ys)) same ∙ same_first b key ys in
    let more = between front tail key (λ e. low (first front ∙ e)) (λ e. high (first (front ++ tail) ∙ e)) in
    (more.0, (ap (λ (x : ℕ). x ∷ key) same ∙ ap (λ (l : List ℕ). b ∷ l) more.1.0, more.1.1)))
    (λ more. absurd (high (greater_first c b key (front ++ tail) more)))
