-- The keys of long values with a byte FF after each 0.
use Rattle.std.proofs.Common.{◌≡◌, ℕ, suc, zero, ◌+◌, ◌<◌, ◌≤◌, List, [], ◌∷◌, ◌++◌, length, take, drop, get_or, refl, sym, ap, subst, ◌∙◌, arith, length-append, add-one, drop-cons}
use Rattle.std.specs.Prelude.{◌≢◌}
use Rattle.std.specs.List.{flat_map}
use Rattle.std.proofs.lemmas.List.{take-append-drop}
use Rattle.std.proofs.lemmas.List.Concat.{flat_map-append}
use Rattle.im_names.specs.Layout.{escape, escaped}

pub escape_zero : (b : ℕ) → b ≡ 0 → escape b ≡ 0 ∷ (255 ∷ [])
escape_zero b e = ap escape e

pub escape_other : (b : ℕ) → b ≢ 0 → escape b ≡ b ∷ []
escape_other zero n = absurd (n refl)
escape_other (suc b) n = refl

escape_long : (b : ℕ) → 1 ≤ length (escape b)
escape_long zero = omega arith
escape_long (suc b) = omega arith

-- a key has no more bytes than it takes
pub escaped_longer : (key : List ℕ) → length key ≤ length (escaped key)
escaped_longer [] = omega arith
escaped_longer (b ∷ key) =
    let more = escaped_longer key in let one = escape_long b in let l = length-append (escape b) (escaped key) in omega arith

-- where there is room for all, there is for one more
pub escaped_fits : (key : List ℕ) (i d : ℕ) → i < length key → length (escaped (take i key)) + length (escape (get_or key i d)) ≤ length (escaped key)
escaped_fits key i d room =
    let whole : escaped key ≡ escaped (take i key) ++ (escape (get_or key i d) ++ escaped (drop (suc i) key)) =
    ap escaped (sym (take-append-drop i key)) ∙ flat_map-append escape (take i key) (drop i key)
    ∙ ap (λ (l : List ℕ). escaped (take i key) ++ escaped l) (drop-cons key i d room) in
    let e = ap length whole in
    let l = length-append (escaped (take i key)) (escape (get_or key i d) ++ escaped (drop (suc i) key)) in
    let m = length-append (escape (get_or key i d)) (escaped (drop (suc i) key)) in omega arith
