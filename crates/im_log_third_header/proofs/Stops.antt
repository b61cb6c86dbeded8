-- What a stop leaves while a log of the third format is made.
use Rattle.std.proofs.Common.{◌≡◌, ◌≢◌, ◌⊎◌, inl, inr, ℕ, ◌+◌, ◌≤◌, List, [], ◌∷◌, ◌++◌, length, take, drop, get_or, slice_index, refl, sym, ◌∙◌, ap, subst, arith, append_assoc, get_or-take}
use Rattle.std.proofs.lemmas.Bool.{cases_eq}
use Rattle.im_base_disk.specs.Disk.{Holds, Torn}
use Rattle.im_log_header.specs.Header.{IsUnmade}
use Rattle.im_log_third_header.specs.declared.header.ThirdHeader.{ThirdHeader}
use Rattle.im_log_third_header.specs.Header.{IsEmptyThird, made_with, third_header}

-- ---- the header after a closed byte 0, and then that byte

module _ (h : ThirdHeader) (old : List ℕ) (begun : 1 ≤ length old) (closed : slice_index old 0 ≢ 1) where
  pub torn_closed : (k : ℕ) (c : List ℕ) → Torn 1 k old c → IsUnmade c
  torn_closed k c torn = inr (λ one. closed (sym (get_or-take 1 old 0 0 (omega arith)) ∙ ap (λ (l : List ℕ). get_or l 0 0) (sym torn.before) ∙ get_or-take 1 c 0 0 (omega arith) ∙ one))

  take_one : (l : List ℕ) → 1 ≤ length l → take 1 l ≡ get_or l 0 0 ∷ []
  take_one [] le = absurd (omega (arith, le))
  take_one (a ∷ l) le = refl

  written_closed : (new : List ℕ) → Holds 1 (third_header h ++ 0 ∷ []) old new → (junk : List ℕ) × (new ≡ made_with (get_or old 0 0) h junk)
  written_closed new holds =
      let bytes : List ℕ = third_header h ++ 0 ∷ [] in
      (drop (1 + length bytes) old, holds ∙ ap (λ (l : List ℕ). l ++ bytes ++ drop (1 + length bytes) old) (take_one old begun) ∙ ap (λ (l : List ℕ). get_or old 0 0 ∷ l) (append_assoc (third_header h) (0 ∷ []) (drop (1 + length bytes) old)))

  opening : (first : ℕ) (junk c : List ℕ) → Torn 0 1 (made_with first h junk) c → IsUnmade c ⊎ IsEmptyThird h c
  opening first junk [] torn = inl (inl (omega arith))
  opening first junk (x ∷ c) torn = elim (cases_eq x 1) [
    | inl one ↦ inr (junk, ap (λ (y : ℕ). y ∷ c) one ∙ ap (λ (l : List ℕ). 1 ∷ l) torn.after)
    | inr other ↦ inl (inr other)
  ]

  pub torn_opening : (mid c : List ℕ) → Holds 1 (third_header h ++ 0 ∷ []) old mid → Torn 0 1 mid c → IsUnmade c ⊎ IsEmptyThird h c
  torn_opening mid c holds torn =
      let closed_now = written_closed mid holds in
      opening (get_or old 0 0) closed_now.0 c (subst (λ (l : List ℕ). Torn 0 1 l c) closed_now.1 torn)

  written_open : (first : ℕ) (junk new : List ℕ) → Holds 0 (1 ∷ []) (made_with first h junk) new → new ≡ made_with 1 h junk
  written_open first junk new holds = holds

  pub written_opening : (mid new : List ℕ) → Holds 1 (third_header h ++ 0 ∷ []) old mid → Holds 0 (1 ∷ []) mid new → IsEmptyThird h new
  written_opening mid new first second =
      let closed_now = written_closed mid first in
      (closed_now.0, written_open (get_or old 0 0) closed_now.0 new (subst (λ (l : List ℕ). Holds 0 (1 ∷ []) l new) closed_now.1 second))
