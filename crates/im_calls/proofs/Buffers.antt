-- Bytes that are put into a buffer, one piece after the other.
use Rattle.std.proofs.Common.{◌≡◌, ℕ, ◌+◌, ◌-◌, ◌≤◌, ◌<◌, ◌⊎◌, inl, inr, ⊎_elim, List, [], ◌∷◌, ◌++◌, length, take, min, get_or, refl, sym, ap, subst, ◌∙◌, arith}
use Rattle.std.specs.List.{flat_map}
use Rattle.std.proofs.lemmas.Bool.{cases_lt}
use Rattle.std.proofs.lemmas.List.{length-append, take_all, take-append-le, append-nil, append_assoc, take_more, flat_map_more}
use Rattle.std.proofs.Math.Seq.{take-append-add}
use Rattle.im_calls.specs.Calls.{BeginsWith}

-- a front, and a front of what comes after it, where the first is whole or the second empty
joined : (before bytes : List ℕ) (at count : ℕ) → (at ≡ length before) ⊎ ((at ≤ length before) × (count ≡ 0))
    → take at before ++ take count bytes ≡ take (at + count) (before ++ bytes)
joined before bytes at count = ⊎_elim
    (λ (whole : at ≡ length before). rw whole (ap (λ (xs : List ℕ). xs ++ take count bytes) (take_all (length before) before (omega arith)) ∙ sym (take-append-add before bytes count)))
    (λ (none : (at ≤ length before) × (count ≡ 0)). rw none.1 (append-nil (take at before) ∙ (sym (take-append-le at before bytes none.0) ∙ ap (λ (n : ℕ). take n (before ++ bytes)) (omega arith))))

-- a buffer begins with nothing
pub put_none : (buffer : List ℕ) → BeginsWith buffer 0 []
put_none buffer = record { fits = omega arith; front = refl }

-- a piece more after what a buffer begins with: as much of it as there is room for
pub put_more : (old new before bytes : List ℕ) (at count : ℕ) → length new ≡ length old → count ≡ min (length bytes) (length old - at)
    → take (at + count) new ≡ take at old ++ take count bytes → BeginsWith old at before → BeginsWith new (at + count) (before ++ bytes)
put_more old new before bytes at count same is written holds = record {
  fits = simp length-append (omega (arith, holds.fits));
  front = written ∙ (ap (λ (xs : List ℕ). xs ++ take count bytes) holds.front ∙ joined before bytes at count (⊎_elim
      (λ (over : length old < length before). inr (omega (arith, holds.fits), omega (arith, holds.fits)))
      (λ (within : length before ≤ length old). inl (omega (arith, holds.fits)))
      (cases_lt (length old) (length before))));
}

-- the three pieces of an entry are the entry
pub entry_put : (buffer : List ℕ) (n : ℕ) (before key rid one two three : List ℕ) → one ≡ key → two ≡ key → three ≡ rid
    → BeginsWith buffer n (((before ++ length one ∷ []) ++ two) ++ three) → BeginsWith buffer n (before ++ length key ∷ (key ++ rid))
entry_put buffer n before key rid one two three first second third =
    subst (λ (xs : List ℕ). BeginsWith buffer n xs) (rw first (rw second (rw third (append_assoc (before ++ length key ∷ []) key rid ∙ append_assoc before (length key ∷ []) (key ++ rid)))))

-- one piece more of what is put in piece by piece
pub pieces_more : {X : Type 0} (f : X → List ℕ) (list : List X) (i : ℕ) (x : X) → i < length list → x ≡ get_or list i x → flat_map f (take i list) ++ f x ≡ flat_map f (take (i + 1) list)
pieces_more f list i x within is = flat_map_more f [] (take i list) x ∙ ap (flat_map f) (sym (subst (λ y. take (i + 1) list ≡ take i list ++ y ∷ []) (sym is) (take_more list i x within)))
