-- Replies that are judged one by one.
use Rattle.std.proofs.Common.{◌≡◌, ◌↔◌, ℕ, zero, suc, ◌+◌, ◌<◌, ◌||◌, Bool, List, [], ◌∷◌, length, drop, get_or, refl, sym, ap, subst, arith}
use Rattle.im_tool_lines.specs.declared.store_answers.StoreReply.{StoreReply}
use Rattle.im_tool_judge.specs.Disturbed.{AreDisturbed, IsNext, is_by_device}

-- as many replies as undisturbed
pub same_length : (fails failed : Bool) (plain told : List StoreReply) → AreDisturbed fails failed plain told → length plain ≡ length told
same_length fails failed [] [] d = refl
same_length fails failed [] (t ∷ told) d = absurd d
same_length fails failed (p ∷ plain) [] d = absurd d
same_length fails failed (p ∷ plain) (t ∷ told) d = ap suc (same_length fails (failed || is_by_device t) plain told d.1)

-- the replies from a place on, and after it
abbrev pub IsStepOn : (fails failed : Bool) → List StoreReply → List StoreReply → ℕ → ℕ → StoreReply → StoreReply → Type 0
IsStepOn fails failed plain told i next p t = AreDisturbed fails failed (drop i plain) (drop i told) ↔ IsNext failed p t × AreDisturbed fails (failed || is_by_device t) (drop next plain) (drop next told)

stepped : (fails failed : Bool) (plain told : List StoreReply) (i : ℕ) (p t : StoreReply) → i < length plain → i < length told → p ≡ get_or plain i p → t ≡ get_or told i t → IsStepOn fails failed plain told i (suc i) p t
stepped fails failed [] told i p t in_plain in_told is_p is_t = absurd (omega arith)
stepped fails failed (x ∷ plain) [] i p t in_plain in_told is_p is_t = absurd (omega arith)
stepped fails failed (x ∷ plain) (y ∷ told) zero p t in_plain in_told is_p is_t =
    subst (λ (a : StoreReply). IsStepOn fails failed (x ∷ plain) (y ∷ told) zero (suc zero) a t) (sym is_p)
    (subst (λ (b : StoreReply). IsStepOn fails failed (x ∷ plain) (y ∷ told) zero (suc zero) x b) (sym is_t) (λ d. d, λ d. d))
stepped fails failed (x ∷ plain) (y ∷ told) (suc i) p t in_plain in_told is_p is_t = stepped fails failed plain told i p t (omega arith) (omega arith) is_p is_t

pub step_on : (fails failed : Bool) (plain told : List StoreReply) (i : ℕ) (p t : StoreReply) → i < length plain → i < length told → p ≡ get_or plain i p → t ≡ get_or told i t → IsStepOn fails failed plain told i (i + 1) p t
step_on fails failed plain told i p t in_plain in_told is_p is_t =
    let next : suc i ≡ i + 1 = omega arith in
    subst (λ (n : ℕ). IsStepOn fails failed plain told i n p t) next (stepped fails failed plain told i p t in_plain in_told is_p is_t)

-- after the last place it is left to judge whether one has failed
pub none_behind : (fails failed : Bool) (plain told : List StoreReply) (i : ℕ) → length plain ≡ i → length told ≡ i → AreDisturbed fails failed (drop i plain) (drop i told) ↔ failed ≡ fails
none_behind fails failed [] [] zero a b = (λ d. d, λ d. d)
none_behind fails failed [] [] (suc i) a b = absurd (omega (arith, a))
none_behind fails failed [] (t ∷ told) zero a b = absurd (omega (arith, b))
none_behind fails failed [] (t ∷ told) (suc i) a b = absurd (omega (arith, a))
none_behind fails failed (p ∷ plain) told zero a b = absurd (omega (arith, a))
none_behind fails failed (p ∷ plain) [] (suc i) a b = absurd (omega (arith, b))
none_behind fails failed (p ∷ plain) (t ∷ told) (suc i) a b = none_behind fails failed plain told i (omega (arith, a)) (omega (arith, b))
