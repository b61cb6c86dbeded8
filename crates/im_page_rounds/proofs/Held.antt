-- The pages of a round are all held after the last get.
use Rattle.std.proofs.Common.{◌≡◌, inl, inr, ◌⊎◌, ℕ, suc, ◌+◌, ◌≤◌, List, [], ◌∷◌, ◌++◌, Bool, refl, sym, ◌∙◌, ap, subst, arith, length}
use Rattle.std.specs.Prelude.{if◌then◌else◌, ◌==◌}
use Rattle.std.proofs.lemmas.Bool.{cases_eq, cond-false, eq-eqb, ne_eqb}
use Rattle.im_page_rounds.specs.Rounds.{times, all_but_last, without, GetsPage, moves, takes, evicts, GetsPages, EachOnce, AllHeld}

-- the list begins with these
abbrev BeginsWith : List ℕ → List ℕ → Type 0
BeginsWith front list = (rest : List ℕ) × (list ≡ front ++ rest)

times_same : (p q : ℕ) (qs : List ℕ) → p ≡ q → times p (q ∷ qs) ≡ 1 + times p qs
times_same p q qs e = ap (λ (t : Bool). (if t then 1 else 0) + times p qs) (eq-eqb p q e)

times_other : (p q : ℕ) (qs : List ℕ) → (p ≡ q → ⊥) → times p (q ∷ qs) ≡ times p qs
times_other p q qs ne = ap (λ (t : Bool). (if t then 1 else 0) + times p qs) (ne_eqb p q ne) ∙ omega arith

times_in_front : (p : ℕ) (front rest : List ℕ) → 1 ≤ times p front → 1 ≤ times p (front ++ rest)
times_in_front p [] rest some = absurd (omega (arith, some))
times_in_front p (q ∷ qs) rest some = elim (cases_eq p q) [
  | inl e ↦ let here = times_same p q (qs ++ rest) e in omega (arith, here)
  | inr ne ↦
      let here = times_other p q qs ne in
      let there = times_other p q (qs ++ rest) ne in
      let more = times_in_front p qs rest (omega (arith, here, some)) in
      omega (arith, more, there)
]

without_front : (p : ℕ) (front rest : List ℕ) → times p front ≡ 0 → without p (front ++ rest) ≡ front ++ without p rest
without_front p [] rest none = refl
without_front p (q ∷ qs) rest none = elim (cases_eq p q) [
  | inl e ↦ absurd (let here = times_same p q qs e in omega (arith, here, none))
  | inr ne ↦
      let here = times_other p q qs ne in
      cond-false (p == q) (qs ++ rest) (q ∷ without p (qs ++ rest)) (ne_eqb p q ne) ∙ ap (λ (l : List ℕ). q ∷ l) (without_front p qs rest (omega (arith, here, none)))
]

length_then : (xs ys : List ℕ) → length (xs ++ ys) ≡ length xs + length ys
length_then [] ys = omega arith
length_then (x ∷ xs) ys = let rest = length_then xs ys in omega (arith, rest)

-- what goes is after the front, where there is something after it
last_goes : (front rest : List ℕ) → 1 ≤ length rest → (more : List ℕ) × (all_but_last (front ++ rest) ≡ front ++ more)
last_goes [] rest some = (all_but_last rest, refl)
last_goes (p ∷ []) [] some = absurd (omega (arith, some))
last_goes (p ∷ []) (q ∷ qs) some = (all_but_last (q ∷ qs), refl)
last_goes (p ∷ q ∷ ps) rest some = let (more, is) = last_goes (q ∷ ps) rest some in (more, ap (λ (l : List ℕ). p ∷ l) is)

-- one get more: the pages that were got stay at the front, with it before them
one_more : (frames p : ℕ) (front old new : List ℕ) → times p front ≡ 0 → suc (length front) ≤ frames → BeginsWith front old → GetsPage frames p old new → BeginsWith (p ∷ front) new
one_more frames p front old new none room begins (moves held is) =
    (without p begins.0, is ∙ ap (λ (l : List ℕ). p ∷ l) (ap (without p) begins.1 ∙ without_front p front begins.0 none))
one_more frames p front old new none room begins (takes free some is) = (begins.0, is ∙ ap (λ (l : List ℕ). p ∷ l) begins.1)
one_more frames p front old new none room begins (evicts free full is) =
    let count : length old ≡ length front + length begins.0 = ap length begins.1 ∙ length_then front begins.0 in
    let (more, left) = last_goes front begins.0 (omega (arith, count, full, room)) in
    (more, is ∙ ap (λ (l : List ℕ). p ∷ l) (ap all_but_last begins.1 ∙ left))

-- so many gets in turn
held_then : (frames : ℕ) (ps front old new : List ℕ) → EachOnce ps → ((q : ℕ) → 1 ≤ times q ps → times q front ≡ 0) → length front + length ps ≤ frames → BeginsWith front old → GetsPages frames ps old new
    → (p : ℕ) → (1 ≤ times p ps) ⊎ (1 ≤ times p front) → 1 ≤ times p new
held_then frames [] front old new each apart room begins is p which = elim which [
  | inl some ↦ absurd (omega (arith, some))
  | inr some ↦ subst (λ (l : List ℕ). 1 ≤ times p l) (sym (is ∙ begins.1)) (times_in_front p front begins.0 some)
]
held_then frames (q ∷ qs) front old new each apart room begins is p which =
    let free : times q front ≡ 0 = apart q (let one = times_same q q qs refl in omega (arith, one)) in
    held_then frames qs (q ∷ front) is.0 new each.1
    (λ x some. elim (cases_eq x q) [
      | inl e ↦ absurd (let gone : times q qs ≡ 0 = each.0 in let here : 1 ≤ times q qs = subst (λ (n : ℕ). 1 ≤ times n qs) e some in omega (arith, gone, here))
      | inr ne ↦
          let first = times_other x q qs ne in
          let before : times x front ≡ 0 = apart x (omega (arith, first, some)) in
          let then_too = times_other x q front ne in
          omega (arith, then_too, before)
    ])
    (omega (arith, room)) (one_more frames q front old is.0 free (omega (arith, room)) begins is.1) is.2 p
    (elim which [
      | inl some ↦ elim (cases_eq p q) [
        | inl e ↦ inr (let one = times_same p q front e in omega (arith, one))
        | inr ne ↦ inl (let first = times_other p q qs ne in omega (arith, first, some))
      ]
      | inr some ↦ inr (elim (cases_eq p q) [
        | inl e ↦ let one = times_same p q front e in omega (arith, one)
        | inr ne ↦ let then_too = times_other p q front ne in omega (arith, then_too, some)
      ])
    ])

pub round_held : AllHeld
round_held frames ps old new each few within is p some = held_then frames ps [] old new each (λ q x. refl) (omega (arith, few)) (old, refl) is p (inl some)
