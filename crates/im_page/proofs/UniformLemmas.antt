-- Cells of one size.
use Rattle.std.proofs.Common.{◌≡◌, ◌≢◌, ◌⊎◌, ℕ, ◌+◌, ◌-◌, ◌*◌, ◌/◌, ◌%◌, ◌<◌, ◌≤◌, Bool, List, length, slice_index, sym, ap, subst, ◌∙◌, inl, inr, ⊎_elim, arith}
use Rattle.std.proofs.Math.Nat.{mod-lt}
use Rattle.std.proofs.lemmas.Bool.{cases_lt}
use Rattle.std.proofs.lemmas.Nat.{div-add-mod', mod-mul-add, mul-le}
use Rattle.im_base_types.specs.Keys.{IsBelow}
use Rattle.im_theory_page.specs.Form.{count_of, start_of, slot_at, cell_size, key_from}
use Rattle.im_page.specs.Sound.{ArePlaces, AreUniform, IsPlace, SlotsSound}
use Rattle.im_page.proofs.SoundLemmas.{rise_all, rise_distinct, total_more}

-- a number whose product with 2^32 by `each`, rounded up, is in 32 bits below that, is a multiple of `each`: each one that it is above a multiple
-- adds a whole of it
pub multiple : (b each c : ℕ) → 2 ≤ each → each ≤ 264 → b ≤ 4096 → c ≡ 4294967295 / each + 1 → (b * c) % 4294967296 < c → b / each * each ≡ b
multiple b each c some most small is_c below =
    ⊎_elim
    (λ (x : b % each < 1). omega (arith, x, div-add-mod' b each))
    (λ (x : 1 ≤ b % each).
    absurd (beyond (b / each) (b % each) (4294967295 / each) (4294967295 % each) (div-add-mod' b each) (mod-lt b (omega (arith, some))) (div-add-mod' 4294967295 each) (mod-lt 4294967295 (omega (arith, some))) is_c x))
    (cases_lt (b % each) 1)
  where
    beyond : (q r d e : ℕ) → q * each + r ≡ b → r < each → d * each + e ≡ 4294967295 → e < each → c ≡ d + 1 → 1 ≤ r → ⊥
    beyond q r d e is_b r_small is_d e_small by_d rest =
        let g : ℕ = each - e - 1 in
        let is_g : g + e + 1 ≡ each = omega (arith, e_small) in
        let whole : b * c ≡ q * 4294967296 + (q * g + r * c) = product q r d e g is_b is_d is_g by_d in
        let large : 10000 < d = ⊎_elim (λ (x : 10000 < d). x) (λ (x : d ≤ 10000). absurd (omega (arith, is_d, e_small, most, mul-le d each 10000 264 x most))) (cases_lt 10000 d) in
        let most_of_r : r * c + c ≤ each * c = omega (arith, mul-le (r + 1) c each c (omega (arith, r_small)) (omega arith)) in
        let all_of_c : each * c ≡ 4294967296 + g = omega (arith, ap (λ k. each * k) by_d, is_d, is_g) in
        let few : q * g ≤ 4096 = omega (arith, mul-le q g q each (omega arith) (omega (arith, is_g)), is_b, small) in
        let fits : q * g + r * c < 4294967296 = omega (arith, most_of_r, all_of_c, few, by_d, large, is_g, most) in
        let one : c ≤ r * c = omega (arith, mul-le 1 c r c rest (omega arith)) in
        let left : (b * c) % 4294967296 ≡ q * g + r * c = ap (λ k. k % 4294967296) whole ∙ mod-mul-add q 4294967296 (q * g + r * c) fits in
        omega (arith, left, one, below)
      where
        product : (q r d e g : ℕ) → q * each + r ≡ b → d * each + e ≡ 4294967295 → g + e + 1 ≡ each → c ≡ d + 1 → b * c ≡ q * 4294967296 + (q * g + r * c)
        product q r d e g is_b is_d is_g by_d = ap (λ k. k * c) (sym is_b) ∙ ap (λ k. (q * each + r) * k) by_d
            ∙ omega (arith, ap (λ k. q * k) is_d, ap (λ k. q * k) is_g, ap (λ k. r * k) by_d)

-- .. so a cell that lies so far after where the cells begin lies whole sizes after it
pub place_at : (at start each c : ℕ) → at < 4294967296 → start + each ≤ 4096 → 2 ≤ each → each ≤ 264 → c ≡ 4294967295 / each + 1
    → (at + (4294967296 - start)) % 4294967296 ≤ 4096 - each - start → (at + (4294967296 - start)) % 4294967296 * c % 4294967296 < c → IsPlace start each at
place_at at start each c fits room some most is_c near below =
    let b : ℕ = (at + (4294967296 - start)) % 4294967296 in
    let is_b : start + b ≡ at = omega (arith, fits, room, near) in
    record { high = omega (arith, is_b, near, room); behind = (b / each, omega (arith, is_b, multiple b each c some most (omega (arith, near)) is_c below)) }

pub uniform_begins : (leaf : Bool) (bytes : List ℕ) (each : ℕ) → AreUniform leaf bytes each 0
uniform_begins leaf bytes each = record { sizes = λ i lt. absurd (omega arith); total = omega arith; keyed = λ i lt. absurd (omega arith); below = λ i some lt. absurd (omega arith) }

-- one cell more of the same size
pub uniform_more : (leaf : Bool) (bytes : List ℕ) (each n at : ℕ) → length bytes ≡ 4096 → AreUniform leaf bytes each n → at ≡ slot_at bytes n → cell_size leaf bytes at ≡ each → at + each ≤ 4096
    → 1 ≤ slice_index bytes at → (0 < n → IsBelow (key_from bytes (slot_at bytes (n - 1))) (key_from bytes at)) → AreUniform leaf bytes each (n + 1)
uniform_more leaf bytes each n at len h is_at same fits some_byte last =
    let more = total_more leaf bytes n at is_at (omega (arith, same, fits, len)) in
    record {
      sizes = λ i lt. ⊎_elim (λ (x : i < n). h.sizes i x)
          (λ (x : n ≤ i). let e : n ≡ i = omega arith in subst (λ k. cell_size leaf bytes (slot_at bytes k) ≡ each) e (subst (λ a. cell_size leaf bytes a ≡ each) is_at same))
          (cases_lt i n);
      total = more ∙ omega (arith, h.total, same);
      keyed = λ i lt. ⊎_elim (λ (x : i < n). h.keyed i x)
          (λ (x : n ≤ i). let e : n ≡ i = omega arith in subst (λ k. 1 ≤ slice_index bytes (slot_at bytes k)) e (subst (λ a. 1 ≤ slice_index bytes a) is_at some_byte))
          (cases_lt i n);
      below = λ i some lt. ⊎_elim (λ (x : i < n). h.below i some x)
          (λ (x : n ≤ i). let e : n ≡ i = omega arith in subst (λ k. IsBelow (key_from bytes (slot_at bytes (k - 1))) (key_from bytes (slot_at bytes k))) e
          (subst (λ a. IsBelow (key_from bytes (slot_at bytes (n - 1))) (key_from bytes a)) is_at (last (omega arith))))
          (cases_lt i n);
    }

-- of two multiples of a number the smaller is below the larger by that number at least
multiples_apart : (each i j : ℕ) → i < j → i * each + each ≤ j * each
multiples_apart each i j lt = omega (arith, mul-le (i + 1) each j each (omega (arith, lt)) (omega arith))

-- cells of one size at places of such cells, whose keys rise from one to the next, and which take all of their place together
pub uniform_sound : (leaf : Bool) (bytes : List ℕ) (each : ℕ) → ArePlaces bytes each (count_of bytes) → AreUniform leaf bytes each (count_of bytes) → start_of bytes + count_of bytes * each ≡ 4096 → SlotsSound leaf bytes
uniform_sound leaf bytes each places h all =
    let rises = rise_all bytes (count_of bytes) h.below in
    record {
      sound = record {
        cells = λ i lt. record { low = omega (arith, (places i lt).behind.1); high = omega (arith, h.sizes i lt, (places i lt).high); keyed = h.keyed i lt };
        apart = λ i j li lj ne. ⊎_elim
            (λ x. inl (omega (arith, x, h.sizes i li)))
            (λ x. inr (omega (arith, x, h.sizes j lj)))
            (apart (slot_at bytes i) (slot_at bytes j) (start_of bytes) (places i li).behind.0 (places j lj).behind.0 (places i li).behind.1 (places j lj).behind.1 (rise_distinct bytes (count_of bytes) rises i j li lj ne));
        rises = rises;
      };
      full = omega (arith, h.total, all);
    }
  where
    apart : (a b start i j : ℕ) → start + i * each ≡ a → start + j * each ≡ b → a ≢ b → (a + each ≤ b) ⊎ (b + each ≤ a)
    apart a b start i j at_a at_b ne = ⊎_elim
        (λ (x : i < j). inl (omega (arith, at_a, at_b, multiples_apart each i j x)))
        (λ (x : j ≤ i). ⊎_elim
        (λ (y : j < i). inr (omega (arith, at_a, at_b, multiples_apart each j i y)))
        (λ (y : i ≤ j). let e : i ≡ j = omega (arith, x, y) in absurd (ne (sym at_a ∙ ap (λ k. start + k * each) e ∙ at_b)))
        (cases_lt j i))
        (cases_lt i j)

-- cells of one size that take all of their place, by what was read of a page
pub together : (bytes : List ℕ) (start count size each : ℕ) → start ≡ start_of bytes → count ≡ count_of bytes → size ≡ each → start + count * size ≡ 4096 → start_of bytes + count_of bytes * each ≡ 4096
together bytes start count size each is_start is_count is_each all =
    subst (λ k. start_of bytes + count_of bytes * k ≡ 4096) is_each (subst (λ k. start_of bytes + k * size ≡ 4096) is_count (subst (λ k. k + count * size ≡ 4096) is_start all))
