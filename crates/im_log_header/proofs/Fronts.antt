-- What the first bytes of a file that was read say.
use Rattle.std.proofs.Common.{◌≡◌, ◌≢◌, inl, inr, ℕ, ◌^◌, ◌<◌, ◌≤◌, max, ◌&&◌, Bool, true, false, List, [], ◌∷◌, length, take, drop, get_or, slice_index, refl, sym, ◌∙◌, ap, subst, arith, length-take, get_or-take}
use Rattle.std.specs.Prelude.{◌==◌}
use Rattle.std.specs.Int.{w64, from_be_bytes}
use Rattle.std.proofs.lemmas.Bool.{and_right, lt-ltb}
use Rattle.std.proofs.lemmas.Nat.{from_be_bytes-to_be_bytes_8}
use Rattle.im_log_header.specs.declared.header.Header.{Header}
use Rattle.im_log_header.specs.Start.{IsSpelled}
use Rattle.im_log_header.specs.Header.{IsUnmade, IsMade, IsSecond, Says, says_made, says_second, first_header, second_header}
use Rattle.im_log_header.proofs.Saying.{gate_second, least_gate, says_its_own, says_other}

-- ---- numbers

pub number_15 : (g b n : ℕ) (bytes : List ℕ) → bytes ≡ second_header g b n → g < 2 ^ 64 → from_be_bytes w64 (take 8 (drop 15 bytes)) ≡ g
number_15 g b n bytes is small = ap (λ (l : List ℕ). from_be_bytes w64 (take 8 (drop 15 l))) is ∙ from_be_bytes-to_be_bytes_8 g small

pub number_23 : (g b n : ℕ) (bytes : List ℕ) → bytes ≡ second_header g b n → b < 2 ^ 64 → from_be_bytes w64 (take 8 (drop 23 bytes)) ≡ b
number_23 g b n bytes is small = ap (λ (l : List ℕ). from_be_bytes w64 (take 8 (drop 23 l))) is ∙ from_be_bytes-to_be_bytes_8 b small

pub number_31 : (g b n : ℕ) (bytes : List ℕ) → bytes ≡ second_header g b n → n < 2 ^ 64 → from_be_bytes w64 (take 8 (drop 31 bytes)) ≡ n
number_31 g b n bytes is small = ap (λ (l : List ℕ). from_be_bytes w64 (take 8 (drop 31 l))) is ∙ from_be_bytes-to_be_bytes_8 n small

-- the header that the numbers of a header spell is that header
pub spelled_again : (g b n x y z : ℕ) (bytes : List ℕ) → bytes ≡ second_header g b n → g < 2 ^ 64 → b < 2 ^ 64 → n < 2 ^ 64
    → x ≡ from_be_bytes w64 (take 8 (drop 15 bytes)) → y ≡ from_be_bytes w64 (take 8 (drop 23 bytes)) → z ≡ from_be_bytes w64 (take 8 (drop 31 bytes)) → bytes ≡ second_header x y z
spelled_again g b n x y z bytes is gs bs ns one two three =
    is ∙ ap (λ (k : ℕ). second_header k b n) (sym (one ∙ number_15 g b n bytes is gs))
    ∙ ap (λ (k : ℕ). second_header x k n) (sym (two ∙ number_23 g b n bytes is bs))
    ∙ ap (λ (k : ℕ). second_header x y k) (sym (three ∙ number_31 g b n bytes is ns))

-- bytes that are a header spell the numbers that are read of them, and these are in range
pub never_unspelled : (x y z : ℕ) (bytes : List ℕ) → x ≡ from_be_bytes w64 (take 8 (drop 15 bytes)) → y ≡ from_be_bytes w64 (take 8 (drop 23 bytes)) → z ≡ from_be_bytes w64 (take 8 (drop 31 bytes))
    → bytes ≢ second_header x y z → IsSecond bytes → ⊥
never_unspelled x y z bytes one two three other is =
    let last = is.5 in
    let low = is.6 in
    other (spelled_again is.0 is.1 is.2 x y z bytes is.3 (omega (arith, last)) (omega (arith, low)) is.7 one two three)

pub never_past : (x y : ℕ) (bytes : List ℕ) → x ≡ from_be_bytes w64 (take 8 (drop 15 bytes)) → y ≡ from_be_bytes w64 (take 8 (drop 23 bytes))
    → ((1 ≤ x) × (x < 2 ^ 62) × (y ≤ 2 ^ 62) → ⊥) → IsSecond bytes → ⊥
never_past x y bytes one two past is =
    let some = is.4 in
    let last = is.5 in
    let low = is.6 in
    let g = one ∙ number_15 is.0 is.1 is.2 bytes is.3 (omega (arith, last)) in
    let b = two ∙ number_23 is.0 is.1 is.2 bytes is.3 (omega (arith, low)) in
    past (omega (arith, g, some), omega (arith, g, last), omega (arith, b, low))

-- ---- files that are made

pub not_unmade : (file : List ℕ) → 1 < length file → slice_index file 0 ≡ 1 → IsUnmade file → ⊥
not_unmade file long made (inl short) = omega (arith, long, short)
not_unmade file long made (inr other) = other made

next_byte : (l : List ℕ) → get_or l 8 0 ≡ get_or (drop 1 l) 7 0
next_byte [] = refl
next_byte (x ∷ l) = refl

-- of the first format
module _ (file : List ℕ) (long : 31 < length file) (made : slice_index file 0 ≡ 1) (is : take 30 (drop 1 file) ≡ first_header) where
  byte_8 : get_or (take 47 file) 8 0 ≡ 49
  byte_8 = get_or-take 47 file 8 0 (omega arith) ∙ next_byte file ∙ sym (get_or-take 30 (drop 1 file) 7 0 (omega arith)) ∙ ap (λ (l : List ℕ). get_or l 7 0) is

  is_made : says_made (take 47 file) ≡ true
  is_made =
      ap (λ (t : Bool). t && (slice_index (take 47 file) 0 == 1)) (lt-ltb 1 (length (take 47 file)) (omega (arith, long, length-take 47 file)))
      ∙ ap (λ (x : ℕ). x == 1) (get_or-take 47 file 0 0 (omega arith) ∙ made)

  is_other : says_second (take 47 file) ≡ false
  is_other = ap (λ (x : ℕ). says_made (take 47 file) && (x == 50)) byte_8 ∙ and_right (says_made (take 47 file)) (49 == 50) refl

  pub first_says : Says 31 1 0 1 file
  first_says = says_other file is_other true is_made

  pub first_is_made : IsMade file
  first_is_made = let says = first_says in record { within = omega (arith, says.gate, long); made = made; named = inl is }

-- byte 0 and what stands after it
pub front_second : (file h : List ℕ) → 1 ≤ length file → slice_index file 0 ≡ 1 → take 46 (drop 1 file) ≡ h → take 47 file ≡ 1 ∷ h
front_second [] h long made is = absurd (omega (arith, long))
front_second (x ∷ l) h long made is = ap (λ (y : ℕ). y ∷ take 46 l) made ∙ ap (λ (t : List ℕ). 1 ∷ t) is

-- of the second
module _ (file : List ℕ) (g b n : ℕ) (long : 47 < length file) (made : slice_index file 0 ≡ 1) (is : take 46 (drop 1 file) ≡ second_header g b n) where
  front : take 47 file ≡ 1 ∷ second_header g b n
  front = front_second file (second_header g b n) (omega (arith, long)) made is

  pub second_says : (m : ℕ) → g < 2 ^ 62 → b ≤ 2 ^ 62 → n < 2 ^ 64 → m ≡ max 1 n → Says 47 g b m file
  second_says m last low ns next = subst (λ (k : ℕ). Says 47 g b k file) (sym next) (says_its_own file g b n front (omega (arith, last)) (omega (arith, low)) ns)

  pub second_is_made : 1 ≤ g → g < 2 ^ 62 → b ≤ 2 ^ 62 → n < 2 ^ 64 → IsMade file
  second_is_made some last low ns = let gate = gate_second file g b n front in record { within = omega (arith, gate, long); made = made; named = inr (g, b, n, is, some, last, low, ns) }

-- ---- files that are none

pub no_header : (file : List ℕ) → (31 < length file → take 30 (drop 1 file) ≢ first_header) → (47 < length file → IsSecond (take 46 (drop 1 file)) → ⊥) → IsMade file → ⊥
no_header file not_first none made =
    let least = least_gate file in
    elim made.named [
      | inl first ↦ not_first (omega (arith, least, made.within)) first
      | inr second ↦ (
          let gate = gate_second file second.0 second.1 second.2 (front_second file (second_header second.0 second.1 second.2) (omega (arith, least, made.within)) made.made second.3) in
          none (omega (arith, gate, made.within)) second)
    ]

-- ---- what calls in a row have read: the disk reads the same before each

pub first_start : (file mid : List ℕ) → mid ≡ file → slice_index file 0 ≡ 1 → (31 < length mid) × (take 30 (drop 1 mid) ≡ first_header) → IsMade file × Says 31 1 0 1 file
first_start file mid same made there =
    let t = subst (λ (l : List ℕ). (31 < length l) × (take 30 (drop 1 l) ≡ first_header)) same there in
    (first_is_made file t.0 made t.1, first_says file t.0 made t.1)

pub second_start : (h : Header) (file mid : List ℕ) → mid ≡ file → slice_index file 0 ≡ 1 → (47 < length mid) × IsSpelled h (take 46 (drop 1 mid)) → IsMade file × Says 47 h.generation h.base h.next file
second_start h file mid same made there =
    let t = subst (λ (l : List ℕ). (47 < length l) × IsSpelled h (take 46 (drop 1 l))) same there in
    let s = t.1 in (
      second_is_made file h.generation h.base s.number t.0 made s.is s.ranged.some s.ranged.last s.ranged.low s.fits,
      second_says file h.generation h.base s.number t.0 made s.is h.next s.ranged.last s.ranged.low s.fits s.next,
    )

pub no_start : (file mid last : List ℕ) → mid ≡ file → last ≡ file → (31 < length mid → take 30 (drop 1 mid) ≢ first_header) → (47 < length last → IsSecond (take 46 (drop 1 last)) → ⊥) → IsMade file → ⊥
no_start file mid last one two not_first none =
    no_header file (subst (λ (l : List ℕ). 31 < length l → take 30 (drop 1 l) ≢ first_header) one not_first) (subst (λ (l : List ℕ). 47 < length l → IsSecond (take 46 (drop 1 l)) → ⊥) two none)
