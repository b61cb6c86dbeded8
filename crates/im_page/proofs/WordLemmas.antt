-- A key whose first word is above that of another one is above it.
use Rattle.std.proofs.Common.{◌≡◌, ℕ, ◌+◌, ◌^◌, ◌<◌, ◌≤◌, List, length, take, sym, ap, ◌∙◌, ⊎_elim, arith}
use Rattle.std.specs.Int.{w64, from_be_bytes}
use Rattle.std.specs.declared.cmp.Ordering.TheVariants.{Less}
use Rattle.std.specs.Cmp.{nat_cmp_is}
use Rattle.std.specs.Ordering.{nat_cmp}
use Rattle.std.proofs.lemmas.Bool.{cases_lt}
use Rattle.im_base_types.specs.Keys.{Key, IsBelow, key_order}
use Rattle.im_base_types.proofs.Words.{IsBytes, IsBytes-drop, IsBytes-take, words}
use Rattle.im_theory_page.specs.Form.{key_from}
use Rattle.im_page.specs.Sound.{IsTopOf, IsFootOf}

-- a key is of bytes
pub key_bytes : (bytes : List ℕ) (at : ℕ) → IsBytes bytes → IsBytes (key_from bytes at)
key_bytes bytes at h = IsBytes-take _ _ (IsBytes-drop (at + 1) bytes h)

-- a key whose first word is above that of another one is above it
pub by_words : (a b : Key) (top foot : ℕ) → IsBytes a → IsBytes b → IsTopOf a top → IsFootOf b foot → foot < 2 ^ 64 → top < foot → IsBelow a b
by_words a b top foot f g t h small lt =
    ⊎_elim
    (λ (s : length b < 8). absurd (omega (arith, h.1 s)))
    (λ (l : 8 ≤ length b). ⊎_elim
    (λ (s : length a < 8). absurd (omega (arith, t.1 s)))
    (λ (k : 8 ≤ length a).
    let x = from_be_bytes w64 (take 8 a) in
    let y = from_be_bytes w64 (take 8 b) in
    let below : x < y = omega (arith, t.0 k, h.0 l) in
    record { less = (words a b f g k l).apart (λ e. omega (arith, e, below)) ∙ sym (nat_cmp_is x y Less below) })
    (cases_lt (length a) 8))
    (cases_lt (length b) 8)

-- two keys of eight bytes or more, whose first words differ, lie as these do
pub order_of_words : (a b : Key) (x y : ℕ) → IsBytes a → IsBytes b → IsFootOf a x → IsFootOf b y → 8 ≤ length a → 8 ≤ length b → (x ≡ y → ⊥) → key_order a b ≡ nat_cmp x y
order_of_words a b x y f g first second long also differ =
    let p = first.0 long in
    let q = second.0 also in
    (words a b f g long also).apart (λ e. differ (p ∙ e ∙ sym q)) ∙ ap (λ (n : ℕ). nat_cmp n (from_be_bytes w64 (take 8 b))) (sym p) ∙ ap (λ (n : ℕ). nat_cmp x n) (sym q)
