-- The row of a scan, from its entries and the name after them.
use Rattle.std.proofs.Common.{◌≡◌, ◌≤◌, ◌<◌, ℕ, zero, suc, Bool, true, false, cond, nat_lt, List, [], ◌∷◌, ◌++◌, map, take, length, Option, refl, ap, sym, subst, ◌∙◌, arith, ltb-true}
use Rattle.std.proofs.lemmas.Bool.Decides.{nat_tests}
use Rattle.im_base_types.specs.Keys.{Key}
use Rattle.im_base_types.specs.Maps.{IndexMap, is_below}
use Rattle.im_base_types.specs.Answers.{Scan, scan, limit_of}
use Rattle.im_theory_machine.specs.Rows.{asked, scan_row, shared, next_name}
use Rattle.im_theory_machine.specs.Locks.{Name, Request, At}
use Rattle.im_engine_locks.specs.Found.{IsScanOf, end_row}
use Rattle.im_theory_machine.proofs.Scans.{scan-steps, scan-none}

up_to : (n : ℕ) (es : List (Key × ℕ)) → length (take n es) ≤ n
up_to zero es = omega arith
up_to (suc n) [] = omega arith
up_to (suc n) (e ∷ es) = let h : length (take n es) ≤ n = up_to n es in omega arith

as_many : (a b : ℕ) → a ≤ b → nat_lt a b ≡ false → a ≡ b
as_many a b le not_less = grind (arith, nat_tests, le, not_less)

pub scan_asked : (m : IndexMap) (lo hi : Key) (n : ℕ) (es : List (Key × ℕ)) (end : Option Name) → IsScanOf m lo hi n es end → map (λ e. shared (At e.0)) es ++ end_row end ≡ asked (Scan lo hi n) m
scan_asked m lo hi n es end is = go (is_below hi lo) refl
  where
    behind : (b : Bool) → is_below hi lo ≡ false → nat_lt (length (scan lo hi (limit_of n) m)) (limit_of n) ≡ b → end_row end ≡ cond b (shared (next_name m hi) ∷ []) []
    behind true up less = ap end_row (is.fewer up (subst (λ (l : List (Key × ℕ)). length l < limit_of n) (sym is.entries) (ltb-true (length (scan lo hi (limit_of n) m)) (limit_of n) less)))
    behind false up less = ap end_row (is.full (ap (λ (l : List (Key × ℕ)). length l) is.entries ∙ as_many (length (scan lo hi (limit_of n) m)) (limit_of n) (up_to (limit_of n) _) less))

    go : (b : Bool) → is_below hi lo ≡ b → map (λ e. shared (At e.0)) es ++ end_row end ≡ cond b [] (scan_row lo hi (limit_of n) m)
    go true down =
        ap (λ (l : List (Key × ℕ)). map (λ (e : Key × ℕ). shared (At e.0)) l ++ end_row end) (is.entries ∙ scan-steps lo hi (limit_of n) m ∙ scan-none lo hi (limit_of n) m down)
        ∙ ap end_row (is.none down)
    go false up =
        ap (λ (l : List (Key × ℕ)). map (λ (e : Key × ℕ). shared (At e.0)) l ++ end_row end) is.entries
        ∙ ap (λ (l : List Request). map (λ (e : Key × ℕ). shared (At e.0)) (scan lo hi (limit_of n) m) ++ l) (behind (nat_lt (length (scan lo hi (limit_of n) m)) (limit_of n)) up refl)
