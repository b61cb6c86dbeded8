-- A cell is the same wherever its bytes are the same.
use Rattle.std.proofs.Common.{◌≡◌, ℕ, ◌+◌, ◌-◌, ◌*◌, ◌<◌, ◌≤◌, Bool, true, false, List, length, take, drop, slice_index, slice_range, sym, ap, ap₂, ◌∙◌, refl, arith, length-take, length-drop, ext_get_or, get_or-take, get_or-drop}
use Rattle.im_theory_page.specs.Number.{u16_at, u32_at, SameOutside}
use Rattle.im_theory_page.specs.Entry.{width}
use Rattle.im_theory_page.specs.Form.{cell_size, key_from, value_at, entry_from}

-- the n bytes at t in ys are those at s in xs
pub record SameBytes (xs ys : List ℕ) (s t n : ℕ) : Type 0 where
  pub same : (k : ℕ) → k < n → slice_index ys (t + k) ≡ slice_index xs (s + k)

pub same_at : (xs ys : List ℕ) (s t n i j : ℕ) → SameBytes xs ys s t n → s ≤ i → i < s + n → j + s ≡ i + t → slice_index ys j ≡ slice_index xs i
same_at xs ys s t n i j h low high e =
    let a : t + (i - s) ≡ j = omega arith in
    let b : s + (i - s) ≡ i = omega arith in
    ap (slice_index ys) (sym a) ∙ h.same (i - s) (omega arith) ∙ ap (slice_index xs) b

pub same_part : (xs ys : List ℕ) (s t n : ℕ) → SameBytes xs ys s t n → s + n ≤ length xs → t + n ≤ length ys
    → slice_range ys t (t + n) ≡ slice_range xs s (s + n)
same_part xs ys s t n h in_xs in_ys =
    let a : t + n - t ≡ n = omega arith in
    let b : s + n - s ≡ n = omega arith in
    rw (a, b) (ext_get_or 0 (take n (drop t ys)) (take n (drop s xs))
    (omega (arith, length-take n (drop t ys), length-take n (drop s xs), length-drop t ys, length-drop s xs))
    (λ i lt. let k : i < n = omega (arith, length-take n (drop t ys)) in
    get_or-take n (drop t ys) i 0 k ∙ get_or-drop t ys i 0 ∙ h.same i k ∙ sym (get_or-drop s xs i 0) ∙ sym (get_or-take n (drop s xs) i 0 k)))

pub same_u16 : (xs ys : List ℕ) (s t n i j : ℕ) → SameBytes xs ys s t n → s ≤ i → i + 2 ≤ s + n → j + s ≡ i + t → u16_at ys j ≡ u16_at xs i
same_u16 xs ys s t n i j h low high e =
    ap₂ (λ a b. a * 256 + b) (same_at xs ys s t n i j h low (omega arith) e) (same_at xs ys s t n (i + 1) (j + 1) h (omega arith) (omega arith) (omega arith))

pub same_u32 : (xs ys : List ℕ) (s t n i j : ℕ) → SameBytes xs ys s t n → s ≤ i → i + 4 ≤ s + n → j + s ≡ i + t → u32_at ys j ≡ u32_at xs i
same_u32 xs ys s t n i j h low high e =
    ap₂ (λ a b. a * 65536 + b) (same_u16 xs ys s t n i j h low (omega arith) e) (same_u16 xs ys s t n (i + 2) (j + 2) h (omega arith) (omega arith) (omega arith))

pub same_number : (leaf : Bool) (xs ys : List ℕ) (s t n i j : ℕ) → SameBytes xs ys s t n → s ≤ i → i + width leaf ≤ s + n → j + s ≡ i + t
    → value_at leaf ys j ≡ value_at leaf xs i
same_number true xs ys s t n i j h low high e =
    ap₂ (λ a b. a * 4294967296 + b) (same_u32 xs ys s t n i j h low (omega arith) e) (same_u32 xs ys s t n (i + 4) (j + 4) h (omega arith) (omega arith) (omega arith))
same_number false xs ys s t n i j h low high e = same_u32 xs ys s t n i j h low high e

-- where all bytes of a cell are moved, its entry goes along
pub same_entry : (leaf : Bool) (xs ys : List ℕ) (s t : ℕ) → SameBytes xs ys s t (cell_size leaf xs s)
    → s + cell_size leaf xs s ≤ length xs → t + cell_size leaf xs s ≤ length ys → entry_from leaf ys t ≡ entry_from leaf xs s
unfolding entry_from
same_entry leaf xs ys s t h in_xs in_ys =
    let n : ℕ = slice_index xs s in
    let head : slice_index ys t ≡ n = same_at xs ys s t (cell_size leaf xs s) s t h (omega arith) (omega arith) (omega arith) in
    let part : SameBytes xs ys (s + 1) (t + 1) n = record { same = λ k lt. same_at xs ys s t (cell_size leaf xs s) (s + 1 + k) (t + 1 + k) h (omega arith) (omega arith) (omega arith) } in
    let key : key_from ys t ≡ key_from xs s = ap (λ m. slice_range ys (t + 1) (t + 1 + m)) head ∙ same_part xs ys (s + 1) (t + 1) n part (omega arith) (omega arith) in
    let value : value_at leaf ys (t + 1 + slice_index ys t) ≡ value_at leaf xs (s + 1 + n) =
    ap (λ m. value_at leaf ys (t + 1 + m)) head
    ∙ same_number leaf xs ys s t (cell_size leaf xs s) (s + 1 + n) (t + 1 + n) h (omega arith) (omega arith) (omega arith) in
    ap₂ (λ a b. (a, b)) key value

pub unchanged_below : (xs ys : List ℕ) (from to s n : ℕ) → SameOutside xs ys from to → s + n ≤ from → SameBytes xs ys s s n
unchanged_below xs ys from to s n h le = record { same = λ k lt. h.below (s + k) (omega arith) }

pub unchanged_above : (xs ys : List ℕ) (from to s n : ℕ) → SameOutside xs ys from to → to ≤ s → SameBytes xs ys s s n
unchanged_above xs ys from to s n h le = record { same = λ k lt. h.above (s + k) (omega arith) }

-- a key that was written, and a value after it
pub written_entry : (leaf : Bool) (mid new : List ℕ) (at to : ℕ) (key : List ℕ) (value : ℕ) → slice_index mid at ≡ length key → key_from mid at ≡ key
    → at + 1 + length key ≤ length mid → SameOutside mid new (at + 1 + length key) to → value_at leaf new (at + 1 + length key) ≡ value
    → entry_from leaf new at ≡ (key, value)
unfolding entry_from
written_entry leaf mid new at to key value size is_key room rest is_value =
    let same = unchanged_below mid new (at + 1 + length key) to at (1 + length key) rest (omega arith) in
    let head : slice_index new at ≡ length key = same_at mid new at at (1 + length key) at at same (omega arith) (omega arith) refl ∙ size in
    let part : SameBytes mid new (at + 1) (at + 1) (length key) = unchanged_below mid new (at + 1 + length key) to (at + 1) (length key) rest (omega arith) in
    let is : key_from new at ≡ key =
    ap (λ m. slice_range new (at + 1) (at + 1 + m)) head
    ∙ same_part mid new (at + 1) (at + 1) (length key) part (omega arith) (omega (arith, rest.len))
    ∙ ap (λ m. slice_range mid (at + 1) (at + 1 + m)) (sym size)
    ∙ is_key in
    ap₂ (λ a b. (a, b)) is (ap (λ m. value_at leaf new (at + 1 + m)) head ∙ is_value)
