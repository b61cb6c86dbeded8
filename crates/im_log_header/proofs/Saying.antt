-- What headers say.
use Rattle.std.proofs.Common.{◌≡◌, inl, inr, ℕ, ◌^◌, ◌<◌, ◌≤◌, max, nat_lt, ◌&&◌, Bool, true, false, List, [], ◌∷◌, length, take, drop, get_or, slice_index, refl, sym, ◌∙◌, ap, subst, arith, length-take, get_or-take}
use Rattle.std.specs.Prelude.{◌==◌, if◌then◌else◌}
use Rattle.std.proofs.lemmas.Bool.{cases_Bool, cases_lt, cond-true, cond-false, le-ltb, lt-ltb, ne_eqb}
use Rattle.std.proofs.lemmas.Nat.{from_be_bytes-to_be_bytes_8}
use Rattle.im_log_header.specs.Header.{IsUnmade, IsMade, IsEmptyLog, StartsAlike, Says, says_made, says_second, number_at, first_gate, base_of, least_number, generation_of, second_header, made_with}
use Rattle.im_log_header.specs.Laws.{FrontsSayTheSame, UnmadeSaysNothing, EmptyLogsSayTheirs}

and_false : (x : Bool) → (x && false) ≡ false
and_false true = refl
and_false false = refl

-- ---- files that are not of the second format

module _ (file : List ℕ) (other : says_second (take 47 file) ≡ false) where
  gate_other : first_gate file ≡ (if says_made (take 47 file) then 31 else 47)
  unfolding first_gate
  gate_other = cond-false (says_second (take 47 file)) 47 (if says_made (take 47 file) then 31 else 47) other

  base_other : base_of file ≡ 0
  unfolding base_of
  base_other = cond-false (says_second (take 47 file)) (number_at 24 (take 47 file)) 0 other

  number_other : least_number file ≡ 1
  unfolding least_number
  number_other = cond-false (says_second (take 47 file)) (max 1 (number_at 32 (take 47 file))) 1 other

  generation_other : generation_of file ≡ (if says_made (take 47 file) then 1 else 0)
  unfolding generation_of
  generation_other = cond-false (says_second (take 47 file)) (number_at 16 (take 47 file)) (if says_made (take 47 file) then 1 else 0) other

  pub says_other : (made : Bool) → says_made (take 47 file) ≡ made → Says (if made then 31 else 47) (if made then 1 else 0) 0 1 file
  says_other made is = record { gate = gate_other ∙ ap (λ (t : Bool). if t then 31 else 47) is; generation = generation_other ∙ ap (λ (t : Bool). if t then 1 else 0) is; base = base_other; number = number_other }

-- ---- files that are not made

not_made : (file : List ℕ) → IsUnmade file → says_made (take 47 file) ≡ false
not_made [] is = refl
not_made (a ∷ []) is = refl
not_made (a ∷ b ∷ file) (inl short) = absurd (omega (arith, short))
not_made (a ∷ b ∷ file) (inr other) = ap (λ (t : Bool). nat_lt 1 (length (take 47 (a ∷ b ∷ file))) && t) (ne_eqb a 1 other) ∙ and_false (nat_lt 1 (length (take 47 (a ∷ b ∷ file))))

not_second : (head : List ℕ) → says_made head ≡ false → says_second head ≡ false
not_second head is = ap (λ (t : Bool). t && (slice_index head 8 == 50)) is

pub unmade : UnmadeSaysNothing
unmade file is = let no = not_made file is in says_other file (not_second (take 47 file) no) false no

-- ---- headers

-- a file whose first 47 bytes are these says what they say
module _ (file : List ℕ) (g b n : ℕ) (is : take 47 file ≡ 1 ∷ second_header g b n) where
  pub gate_second : first_gate file ≡ 47
  unfolding first_gate
  gate_second = ap (λ (h : List ℕ). if says_second h then 47 else (if says_made h then 31 else 47)) is

  generation_second : g < 2 ^ 64 → generation_of file ≡ g
  unfolding generation_of
  generation_second small = ap (λ (h : List ℕ). if says_second h then number_at 16 h else (if says_made h then 1 else 0)) is ∙ from_be_bytes-to_be_bytes_8 g small

  base_second : b < 2 ^ 64 → base_of file ≡ b
  unfolding base_of
  base_second small = ap (λ (h : List ℕ). if says_second h then number_at 24 h else 0) is ∙ from_be_bytes-to_be_bytes_8 b small

  number_second : n < 2 ^ 64 → least_number file ≡ max 1 n
  unfolding least_number
  number_second small = ap (λ (h : List ℕ). if says_second h then max 1 (number_at 32 h) else 1) is ∙ ap (λ (x : ℕ). max 1 x) (from_be_bytes-to_be_bytes_8 n small)

  pub says_its_own : g < 2 ^ 64 → b < 2 ^ 64 → n < 2 ^ 64 → Says 47 g b (max 1 n) file
  says_its_own gs bs ns = record { gate = gate_second; generation = generation_second gs; base = base_second bs; number = number_second ns }

front_of : (g b n : ℕ) (junk : List ℕ) → take 47 (made_with 1 g b n junk) ≡ 1 ∷ second_header g b n
front_of g b n junk = refl

long_enough : (g b n : ℕ) (junk : List ℕ) → 48 ≤ length (made_with 1 g b n junk)
long_enough g b n junk = omega arith

empty_says : (g b n : ℕ) (file : List ℕ) → g < 2 ^ 64 → b < 2 ^ 64 → 1 ≤ n → n < 2 ^ 64 → IsEmptyLog g b n file → Says 47 g b n file
empty_says g b n file gs bs some ns is =
    let front = ap (take 47) is.1 ∙ front_of g b n is.0 in
    subst (λ (m : ℕ). Says 47 g b m file) (omega (arith, some)) (says_its_own file g b n front gs bs ns)

empty_made : (g b n : ℕ) (file : List ℕ) → 1 ≤ g → g < 2 ^ 62 → b ≤ 2 ^ 62 → n < 2 ^ 64 → IsEmptyLog g b n file → IsMade file
empty_made g b n file some last low ns is =
    let front = ap (take 47) is.1 ∙ front_of g b n is.0 in
    let gate = gate_second file g b n front in
    let long = long_enough g b n is.0 in
    let size = ap (λ (l : List ℕ). length l) is.1 in
    record {
      within = omega (arith, gate, long, size);
      made = ap (λ (l : List ℕ). slice_index l 0) is.1;
      named = inr (g, b, n, ap (λ (l : List ℕ). take 46 (drop 1 l)) is.1, some, last, low, ns);
    }

pub empty_logs : EmptyLogsSayTheirs
empty_logs = record { made = empty_made; says = empty_says }

-- ---- fronts

-- files that have the first 31 bytes in common
module _ (file c : List ℕ) (same : take 31 c ≡ take 31 file) where
  long_alike : nat_lt 1 (length (take 47 c)) ≡ nat_lt 1 (length (take 47 file))
  long_alike =
      let e = ap (λ (l : List ℕ). length l) same in
      elim (cases_lt 1 (length (take 47 file))) [
        | inl long ↦ lt-ltb 1 (length (take 47 c)) (omega (arith, long, e, length-take 31 c, length-take 31 file, length-take 47 c, length-take 47 file)) ∙ sym (lt-ltb 1 (length (take 47 file)) long)
        | inr short ↦ le-ltb 1 (length (take 47 c)) (omega (arith, short, e, length-take 31 c, length-take 31 file, length-take 47 c, length-take 47 file)) ∙ sym (le-ltb 1 (length (take 47 file)) short)
      ]

  byte_alike : (i : ℕ) → i < 31 → get_or (take 47 c) i 0 ≡ get_or (take 47 file) i 0
  byte_alike i lt =
      get_or-take 47 c i 0 (omega (arith, lt)) ∙ sym (get_or-take 31 c i 0 lt) ∙ ap (λ (l : List ℕ). get_or l i 0) same ∙ get_or-take 31 file i 0 lt ∙ sym (get_or-take 47 file i 0 (omega (arith, lt)))

  made_alike : says_made (take 47 c) ≡ says_made (take 47 file)
  made_alike = ap (λ (t : Bool). t && (slice_index (take 47 c) 0 == 1)) long_alike ∙ ap (λ (x : ℕ). nat_lt 1 (length (take 47 file)) && (x == 1)) (byte_alike 0 (omega arith))

  second_alike : says_second (take 47 c) ≡ says_second (take 47 file)
  second_alike = ap (λ (t : Bool). t && (slice_index (take 47 c) 8 == 50)) made_alike ∙ ap (λ (x : ℕ). says_made (take 47 file) && (x == 50)) (byte_alike 8 (omega arith))

  alike_other : says_second (take 47 file) ≡ false → StartsAlike file c × (generation_of c ≡ generation_of file)
  alike_other other =
      let one = says_other file other (says_made (take 47 file)) refl in
      let two = says_other c (second_alike ∙ other) (says_made (take 47 file)) made_alike in
      (record { gate = two.gate ∙ sym one.gate; base = two.base ∙ sym one.base; number = two.number ∙ sym one.number }, two.generation ∙ sym one.generation)

alike_heads : (file c : List ℕ) → take 47 c ≡ take 47 file → StartsAlike file c × (generation_of c ≡ generation_of file)
unfolding first_gate base_of least_number generation_of
alike_heads file c same = (
  record {
    gate = ap (λ (h : List ℕ). if says_second h then 47 else (if says_made h then 31 else 47)) same;
    base = ap (λ (h : List ℕ). if says_second h then number_at 24 h else 0) same;
    number = ap (λ (h : List ℕ). if says_second h then max 1 (number_at 32 h) else 1) same;
  },
  ap (λ (h : List ℕ). if says_second h then number_at 16 h else (if says_made h then 1 else 0)) same,
)

pub gate_is : (file : List ℕ) → says_second (take 47 file) ≡ true → first_gate file ≡ 47
unfolding first_gate
gate_is file is = cond-true (says_second (take 47 file)) 47 (if says_made (take 47 file) then 31 else 47) is

pub fronts : FrontsSayTheSame
fronts file c same = elim (cases_Bool (says_second (take 47 file))) [
  | inl second ↦ alike_heads file c (subst (λ (n : ℕ). take n c ≡ take n file) (gate_is file second) same)
  | inr other ↦ elim (cases_Bool (says_made (take 47 file))) [
    | inl made ↦ alike_other file c (subst (λ (n : ℕ). take n c ≡ take n file) (says_other file other true made).gate same) other
    | inr none ↦ alike_heads file c (subst (λ (n : ℕ). take n c ≡ take n file) (says_other file other false none).gate same)
  ]
]

pub least_gate : (file : List ℕ) → 31 ≤ first_gate file
least_gate file = elim (cases_Bool (says_second (take 47 file))) [
  | inl second ↦ (let e = gate_is file second in omega (arith, e))
  | inr other ↦ elim (cases_Bool (says_made (take 47 file))) [
    | inl made ↦ (let says = says_other file other true made in omega (arith, says.gate))
    | inr none ↦ (let says = says_other file other false none in omega (arith, says.gate))
  ]
]
