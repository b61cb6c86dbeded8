-- A list of locks as it is looked at, and a lock put at its end.
use Rattle.std.proofs.Common.{◌≡◌, ℕ, zero, suc, ◌+◌, ◌<◌, ◌≤◌, true, false, ◌||◌, List, [], ◌∷◌, ◌++◌, length, take, map, get_or, slice_set, refl, ap, sym, ◌∙◌, arith}
use Rattle.std.proofs.lemmas.List.{take_more, map-append}
use Rattle.std.proofs.Math.Seq.{set-append_seam}
use Rattle.im_theory_machine.specs.Locks.{Name, Lock}
use Rattle.im_engine_locks.specs.Index.{stored, seen, same_lock}
use Rattle.im_engine_locks.specs.Places.{is_at, is_there, finds}
use Rattle.im_theory_machine.specs.declared.lock_kind.Mode.{Mode}
use Rattle.im_engine_locks.specs.declared.place.Place.{Place}
use Rattle.im_engine_locks.specs.declared.place.Span.{Span}
use Rattle.im_engine_locks.specs.declared.stored_lock.StoredLock.{StoredLock}
use Rattle.im_theory_machine.proofs.Bools.{or_assoc, or_false, or_true, neither}

-- the lock at a place, and none past the end
pub at_place : (ls : List StoredLock) (i : ℕ) (d : StoredLock) (n : Name) (m : Mode) → i < length ls → same_lock (seen (get_or ls i d)) n m ≡ is_at (map seen ls) i n m
at_place [] i d n m lt = absurd (omega arith)
at_place (l ∷ ls) zero d n m lt = refl
at_place (l ∷ ls) (suc i) d n m lt = at_place ls i d n m (omega arith)

pub at_none : (ls : List StoredLock) (i : ℕ) (n : Name) (m : Mode) → length ls ≤ i → false ≡ is_at (map seen ls) i n m
at_none [] i n m le = refl
at_none (l ∷ ls) zero n m le = absurd (omega arith)
at_none (l ∷ ls) (suc i) n m le = at_none ls i n m (omega arith)

-- ---- places looked through

finds-append : (ps qs : List Place) (s : ℕ) (f : Span) (ls : List Lock) (n : Name) (m : Mode) → finds (ps ++ qs) s f ls n m ≡ (finds ps s f ls n m || finds qs s f ls n m)
finds-append [] qs s f ls n m = refl
finds-append (p ∷ ps) qs s f ls n m =
    ap (λ b. is_there p s f ls n m || b) (finds-append ps qs s f ls n m) ∙ sym (or_assoc (is_there p s f ls n m) (finds ps s f ls n m) (finds qs s f ls n m))

pub finds-at : (ps : List Place) (i : ℕ) (d : Place) (s : ℕ) (f : Span) (ls : List Lock) (n : Name) (m : Mode) → i < length ps → is_there (get_or ps i d) s f ls n m ≡ true → finds ps s f ls n m ≡ true
finds-at [] i d s f ls n m lt y = absurd (omega arith)
finds-at (p ∷ ps) zero d s f ls n m lt y = ap (λ b. b || finds ps s f ls n m) y
finds-at (p ∷ ps) (suc i) d s f ls n m lt y = or_true (is_there p s f ls n m) (finds ps s f ls n m) (finds-at ps i d s f ls n m (omega arith) y)

pub finds-step : (ps : List Place) (i : ℕ) (d : Place) (s : ℕ) (f : Span) (ls : List Lock) (n : Name) (m : Mode) → i < length ps → finds (take i ps) s f ls n m ≡ false → is_there (get_or ps i d) s f ls n m ≡ false → finds (take (i + 1) ps) s f ls n m ≡ false
finds-step ps i d s f ls n m lt before here =
    ap (λ xs. finds xs s f ls n m) (take_more ps i d lt)
    ∙ (finds-append (take i ps) (get_or ps i d ∷ []) s f ls n m ∙ neither (finds (take i ps) s f ls n m) (is_there (get_or ps i d) s f ls n m || false) before (or_false (is_there (get_or ps i d) s f ls n m) ∙ here))

-- ---- a lock put at the end

-- what stands at its end then
pub at_end : (xs ys : List StoredLock) (a b : StoredLock) (i : ℕ) → ys ≡ xs ++ a ∷ [] → i ≡ length xs → b ≡ get_or ys i b → b ≡ a
at_end xs ys a b i list last is = is ∙ (ap (λ (zs : List StoredLock). get_or zs i b) list ∙ (ap (λ (j : ℕ). get_or (xs ++ a ∷ []) j b) last ∙ go xs))
  where
    go : (zs : List StoredLock) → get_or (zs ++ a ∷ []) (length zs) b ≡ a
    go [] = refl
    go (z ∷ zs) = go zs

-- and where it is made another there
set_last : (xs ys : List StoredLock) (a b : StoredLock) (i : ℕ) → ys ≡ xs ++ a ∷ [] → i ≡ length xs → slice_set ys i b ≡ xs ++ b ∷ []
set_last xs ys a b i list last = ap (λ (zs : List StoredLock). slice_set zs i b) list ∙ (ap (λ (j : ℕ). slice_set (xs ++ a ∷ []) j b) last ∙ set-append_seam xs a [] b)

pub seen_last : (xs ys : List StoredLock) (a b : StoredLock) (i : ℕ) (name : Name) → ys ≡ xs ++ a ∷ [] → i ≡ length xs → stored b.name ≡ name → b.mode ≡ a.mode → map seen (slice_set ys i b) ≡ map seen xs ++ record { name = name; mode = a.mode } ∷ []
seen_last xs ys a b i name list last named_so mode_so =
    ap (map seen) (set_last xs ys a b i list last)
    ∙ (map-append seen xs (b ∷ [])
    ∙ (ap (λ (n : Name). map seen xs ++ record { name = n; mode = b.mode } ∷ []) named_so
    ∙ ap (λ (m : Mode). map seen xs ++ record { name = name; mode = m } ∷ []) mode_so))
